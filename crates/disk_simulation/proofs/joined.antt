-- The port joined to the ledger: `fises_are_heard_as_told`, `port_and_ledger_stay_joined`.
pub mod OutLemmas
pub mod HeardLemmas
pub mod MarkedLemmas
pub mod ShortLemmas
pub mod SizeLemmas
pub mod JoinLemmas
pub mod IssueJoins
pub mod OrderJoins
