-- Laws of a shape in lent floats.
pub mod Storing
pub mod Answers
