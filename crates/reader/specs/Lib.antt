pub mod Reading
pub mod Bounds
pub use Rattle.stream.specs.Stream
