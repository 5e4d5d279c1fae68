pub mod Making
pub use Rattle.octant.specs.Octant
pub use Rattle.shape.specs.Layout
