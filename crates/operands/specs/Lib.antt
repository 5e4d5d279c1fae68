pub mod Operands
pub mod Appending
