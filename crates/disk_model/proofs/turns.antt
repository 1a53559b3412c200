-- What the disk does next: the calls of a disk, a script and a unit.
pub mod HistoryLemmas
pub mod MomentLemmas
pub mod RestLemmas
pub mod SendLemmas
pub mod TurnLemmas
pub mod QuietLemmas
pub mod BadLemmas
