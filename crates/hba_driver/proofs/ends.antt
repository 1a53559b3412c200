-- How requests end: `done_is_free`, `errors_are_named`.
pub mod DoneLemmas
pub mod FaultLemmas
