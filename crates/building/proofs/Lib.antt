-- Every list of the seven building calls.
pub mod Performing
pub mod Six
pub mod Seven
pub mod EveryList
