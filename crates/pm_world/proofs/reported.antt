-- Where a request was submitted and reported: `polled_errors_are_named`.
pub mod ReportedLemmas
pub mod NamedLemmas
