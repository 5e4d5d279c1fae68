-- Laws of putting elements behind the held ones.
pub mod Put
pub mod Tests
pub mod Pushed
pub mod Past
pub mod Lists
