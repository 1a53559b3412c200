pub mod Port
pub mod Offering
pub mod Saved
