pub mod Entries
pub use Rattle.stream.specs.Stream
pub use Rattle.conic.specs.Conic
pub use Rattle.conic.specs.Vectors
pub use Rattle.conic.specs.Halving
