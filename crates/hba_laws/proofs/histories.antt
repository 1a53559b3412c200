-- Views by their histories: `delivers`, clauses `agrees`, `opens`, `parts`.
pub mod ViewLemmas
pub mod StandLemmas
pub mod AgreeLemmas
pub mod StepLemmas
pub mod CarryLemmas
pub mod DataLemmas
pub mod HearLemmas
pub mod IssueLemmas
pub mod ResetLemmas
pub mod ChoiceLemmas
pub mod CoreEventLemmas
pub mod EventLemmas
