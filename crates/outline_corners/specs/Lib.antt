pub mod Corners
pub mod Calls
