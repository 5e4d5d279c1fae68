pub mod Horner
pub mod Coefficients
