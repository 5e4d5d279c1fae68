pub mod PathBuilder
pub mod AddTo
pub mod SameAsRust
