-- Polls: `polled_is_honest`.
pub mod CalmLemmas
pub mod OneLemmas
pub mod ClientLemmas
pub mod PolledLemmas
