-- Laws of the opening move, of admission and of the calls.
pub mod Opening
pub mod Admission
pub mod Opened
pub mod Largest
pub mod Refused
pub mod Held
