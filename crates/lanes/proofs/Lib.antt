pub mod Places
pub mod Masks
pub mod Sizes
