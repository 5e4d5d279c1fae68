pub mod Marking
pub mod Gathering
pub mod Answering
pub mod Topmost
pub mod Standing
