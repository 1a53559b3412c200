-- From the opening or a flush to the first fault: `serves_honestly`, `pushes_keep_honest`, `takes_keep_honest`.
pub mod AwayLemmas
pub mod TurnLemmas
pub mod SignLemmas
pub mod FisLemmas
pub mod PushLemmas
pub mod TakeLemmas
