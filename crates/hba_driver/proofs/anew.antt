-- Where both began anew: `turns_tend`, `resets_are_issued`.
pub mod FlushLemmas
pub mod TendedLemmas
pub mod TendedTurns
pub mod SetsLemmas
