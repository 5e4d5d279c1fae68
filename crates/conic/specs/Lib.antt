pub mod Conic
pub mod Halving
pub mod Spans
pub mod Vectors
