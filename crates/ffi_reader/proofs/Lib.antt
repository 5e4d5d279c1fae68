-- Laws of reading into lent numbers.
pub mod Answers
mod Parts
