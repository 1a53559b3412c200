-- Disk and ledger agree: `answers_each_command_once`, `medium_is_of_ended_writes`, `reads_are_of_their_start`.
pub mod ShowsLemmas
pub mod PlaceLemmas
pub mod GeometryLemmas
pub mod QueueLemmas
pub mod SetupLemmas
pub mod FaultLemmas
pub mod AgreeLemmas
pub mod StoreLemmas
pub mod ListenLemmas
pub mod TransferLemmas
pub mod StartLemmas
pub mod LawLemmas
