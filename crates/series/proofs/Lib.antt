pub mod Horners
pub mod Families
