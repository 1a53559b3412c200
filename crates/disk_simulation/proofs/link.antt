-- The link: `disks_are_watched_to_their_errors`, `lines_lead_to_beginning_anew`.
pub mod MarkedFiles
pub mod PlainLemmas
pub mod SentLemmas
pub mod LineLemmas
pub mod WatchedLemmas
pub mod LooseLemmas
pub mod WatchingLemmas
