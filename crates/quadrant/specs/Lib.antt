pub mod Quadrant
