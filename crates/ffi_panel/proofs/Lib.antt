pub mod Storing
pub mod Answers
pub mod Back
