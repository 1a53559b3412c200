-- What is issued: `turns_serve`.
pub mod IssueLemmas
pub mod IssuingLemmas
pub mod ApartLemmas
pub mod ServingLemmas
pub mod TickingLemmas
pub mod EndingLemmas
pub mod ServedLemmas
