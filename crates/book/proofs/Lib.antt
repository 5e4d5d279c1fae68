-- Every list of calls: by simulation, for calls that are given by their entries.
pub mod Simulated
pub mod Given
pub mod Kept
pub mod Every
