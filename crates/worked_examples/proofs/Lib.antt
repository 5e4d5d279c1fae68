pub mod Square
pub mod Computed
