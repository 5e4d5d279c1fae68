-- The laws of the quick test and of the corners that are asked, and the worked example of a shape.
pub mod Folding
pub mod Asking
pub mod Beyond
pub mod Tested
pub mod Asked
pub mod Corners
pub mod Examples
