pub mod Moves
pub mod Out
pub mod Prefixes
pub mod Seats
pub mod Slots
