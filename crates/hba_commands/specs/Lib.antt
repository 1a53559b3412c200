pub mod Headers
pub mod Requests
pub mod Commands
pub mod Writing
pub mod Saved
