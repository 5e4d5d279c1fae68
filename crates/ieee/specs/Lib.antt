pub mod Binary32
pub mod Binary64
pub mod Basic
pub mod Narrow
pub mod Sqrt
