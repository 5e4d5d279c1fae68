pub mod Machine
pub mod Book
pub mod Lists
