pub mod Books
pub mod Ended
pub mod Counted
pub mod Fises
pub mod Taken
pub mod Talks
pub mod InTurn
pub mod LastData
