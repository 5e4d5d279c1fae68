pub mod Following
pub mod Counting
pub mod Walking
pub mod Opened
pub mod Buttons
pub mod Back
pub mod Written
