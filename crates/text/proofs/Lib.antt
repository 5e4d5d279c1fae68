pub mod Decimals
pub mod Patterns
pub mod Placing
pub mod Scanning
pub mod Spelling
