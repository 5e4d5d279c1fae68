pub mod Conics
pub mod Circle
pub mod Placement
pub mod Octants
