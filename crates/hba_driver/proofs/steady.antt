-- A device of which nothing failed: `turns_are_steady`, `absent_before`.
pub mod BesideLemmas
pub mod RowLemmas
pub mod SteadyLemmas
pub mod SteadyTurns
pub mod AbsentLemmas
