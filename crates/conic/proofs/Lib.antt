-- Laws of halving, of lists of pieces that tile, and of lengths compared without roots.
pub mod Halving
pub mod Tiling
pub mod Bits
pub mod Whole
mod Weight
pub mod Vectors
pub mod Flat
pub mod Margins
mod Squares
pub mod Near
