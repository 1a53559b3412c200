pub mod HeldSteps
pub mod RestoreLemmas
pub mod StartLemmas
