-- What is done: `each_end_is_honest`.
pub mod ReadLemmas
pub mod HonestEnds
