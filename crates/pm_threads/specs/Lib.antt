pub mod Ends
pub mod Links
pub mod Seats
pub mod Setups
pub mod Summaries
pub mod Halts
pub mod Failures
