pub mod Placed
pub mod Replies
