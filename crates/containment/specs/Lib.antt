pub mod Contains
pub mod Parts
pub mod QuickReject
pub mod Floats
pub use Rattle.shape.specs.Layout
