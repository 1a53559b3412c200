-- Counts: `Counts::note` and what it calls.
pub mod Comings
pub mod Rows
