-- What is done: `done_is_honest`.
pub mod HonestLemmas
