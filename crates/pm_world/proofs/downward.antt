-- The way down: field `nothing_lost_down`.
pub mod DownMoves
pub mod LossLemmas
