pub mod Apart
pub mod Specials
pub mod Range
pub mod Choices
