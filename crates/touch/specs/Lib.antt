pub mod Touch
pub mod Search
pub mod Laws
pub use Rattle.panel_file.specs.File
pub use Rattle.panel_file.specs.Panel
pub use Rattle.shape.specs.Refusal
