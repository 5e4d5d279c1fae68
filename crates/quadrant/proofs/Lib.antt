pub mod Framed
mod Corner
