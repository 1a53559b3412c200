-- Orders to clear, and commands: `ordered_is_not_stale`, `none_is_stale`, `commands_are_meant`.
pub mod ChangeLemmas
pub mod IdentifiedLemmas
pub mod PortLemmas
pub mod LiveSteps
pub mod RequestLemmas
pub mod StaleLemmas
pub mod MeantLemmas
pub mod OrderLemmas
pub mod OrderTurns
pub mod MeantRuns
