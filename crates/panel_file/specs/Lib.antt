pub mod Bytes
pub mod Panel
pub mod File
pub mod Writing
