-- Done is true: `done_is_true`, `done_was_reported`.
pub mod OutLemmas
pub mod StageLemmas
pub mod TrueLemmas
pub mod ReportLemmas
pub mod ReportRuns
