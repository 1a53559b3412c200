pub mod Runs
pub mod Passing
