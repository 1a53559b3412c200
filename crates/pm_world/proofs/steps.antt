-- Steps by their rules: the clause `rule` and the refusals of `World::step` and `World::run`, `World::with_mode`; the
-- clause `orderly` of `paths_go_on`.
pub mod Doing
pub mod Lists
pub mod Openings
pub mod Polling
pub mod Refused
pub mod Steps
pub mod Orderly
pub mod Refusals
