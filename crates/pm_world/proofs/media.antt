-- Bytes: `reads_bring_writes`, `media_change_by_writes`, `writes_are_as_submitted`, `reads_follow_writes`,
-- `flushes_follow_writes`.
pub mod ReadBackLemmas
pub mod SubmittedLemmas
pub mod MediaLemmas
pub mod ReadSubmittedLemmas
pub mod InOrderLemmas
pub mod FlushOrder
