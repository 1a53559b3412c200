mod OrderLemmas
pub mod Door
