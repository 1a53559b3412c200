pub mod Seats
pub mod Straights
pub mod Fans
pub mod FanOuts
pub mod Calls
pub mod Saved
