pub mod Faithful
pub use Rattle.stream.specs.Stream
pub use Rattle.conic_writer.specs.Entries
pub use Rattle.calls.specs.Calls
pub use Rattle.outline.specs.Step
pub use Rattle.book.specs.Machine
pub use Rattle.book.specs.Book
pub use Rattle.book.specs.Lists
