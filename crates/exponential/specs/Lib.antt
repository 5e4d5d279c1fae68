pub mod Constants
pub mod Logarithm
pub mod Exponential
pub mod Power
pub mod Plain
