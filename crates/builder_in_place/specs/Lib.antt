pub mod InPlace
pub mod Triangle
pub use Rattle.stream.specs.Stream
pub use Rattle.calls.specs.Calls
