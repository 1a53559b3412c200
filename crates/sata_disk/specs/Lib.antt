pub mod State
pub mod Hearing
pub mod Pages
pub mod Sending
pub mod Saved
