-- Laws of reading.
pub mod Reader
pub mod Folds
pub mod Parts
pub mod Holding
mod Refusals
