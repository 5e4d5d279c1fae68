pub mod Reading
pub mod Lining
