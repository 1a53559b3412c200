-- Which reports are of which issues: `delivers`, clauses `done`, `once`.
pub mod OnceLemmas
pub mod DoneLemmas
pub mod FreedLemmas
