-- FLUSHes: `flushes_go_down`, `flushes_are_taken`.
pub mod FlushLemmas
pub mod FlushTurns
pub mod FlushHeard
pub mod FlushDown
pub mod FlushEnds
