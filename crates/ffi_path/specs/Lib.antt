pub mod Lent
pub use Rattle.calls.specs.Calls
