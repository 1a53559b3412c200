pub mod Seats
pub mod Calls
pub mod Steps
pub mod Passes
