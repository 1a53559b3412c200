pub mod Replies
pub mod Saved
