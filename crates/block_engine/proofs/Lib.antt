mod SavedLemmas
pub mod Asides
pub mod Asked
pub mod Runs
pub mod Alone
pub mod Failures
pub mod Holders
