-- The worked example of a conic weight.
pub mod Examples
