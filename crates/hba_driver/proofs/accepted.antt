-- Accepted writes: `writes_are_accepted`.
pub mod FitLemmas
pub mod UpLemmas
pub mod AcceptLemmas
