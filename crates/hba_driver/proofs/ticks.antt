-- Single ticks: `ticks_keep`, `ticks_serve`.
pub mod DueLemmas
pub mod LifeLemmas
pub mod ServeLemmas
