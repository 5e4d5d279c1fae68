pub mod Shape
pub mod Refusal
pub mod Laws
pub mod Layout
