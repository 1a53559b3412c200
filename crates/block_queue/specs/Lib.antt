pub mod Line
pub mod Places
pub mod Deeds
pub mod Saved
