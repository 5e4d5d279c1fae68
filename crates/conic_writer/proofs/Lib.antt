-- Laws of entries, and of writing the pieces of a conic.
pub mod Entries
mod Writing
