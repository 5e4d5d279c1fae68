-- What a refusal leaves.
pub mod Refused
