pub mod Constants
pub mod Sine
pub mod Arctangent
pub mod Stages
