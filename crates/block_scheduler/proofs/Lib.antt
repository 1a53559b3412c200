mod SavedLemmas
pub mod Places
mod Walks
pub mod Held
mod Ends
pub mod Runs
