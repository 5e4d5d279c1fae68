pub mod Entries
pub mod Parts
pub use Rattle.stream.specs.Stream
