-- What the Rust's builder holds after a list of building calls.
pub mod Mirrors
pub mod Conics
pub mod Outline
pub mod Calls
pub mod EveryList
