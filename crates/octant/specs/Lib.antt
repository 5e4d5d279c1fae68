pub mod Degree
pub mod Octant
pub mod Stages
