pub mod Meaning
pub mod Meets
pub use Rattle.ieee.specs.Basic
pub use Rattle.ieee.specs.Narrow
pub use Rattle.ieee.specs.Sqrt
