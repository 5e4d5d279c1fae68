-- When each refusal is given, and that nothing else is refused; and a shape read back from its floats.
pub mod Order
mod Refusals
pub mod ReadBack
