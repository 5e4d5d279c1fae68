-- Laws of calls that run one after the other, and of an outline's needs.
pub mod Along
pub mod Conics
pub mod Passing
pub mod Counted
pub mod Turns
