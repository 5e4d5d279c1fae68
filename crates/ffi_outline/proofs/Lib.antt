-- Laws of outlines in lent numbers.
pub mod Answers
