pub mod Step
pub use Rattle.stream.specs.Stream
pub use Rattle.calls.specs.Calls
