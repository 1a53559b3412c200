-- Requests over turns: `turns_keep`, `commands_stand`.
pub mod HistoryLemmas
pub mod ComeLemmas
pub mod StandLemmas
