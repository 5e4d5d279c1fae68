pub mod Writing
pub mod Told
