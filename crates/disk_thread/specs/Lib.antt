pub mod Deeds
pub mod Runs
