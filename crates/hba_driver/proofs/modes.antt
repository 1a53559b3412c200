-- The two modes: no law of its own.
pub mod ModeLemmas
pub mod RowMode
pub mod SwitchLemmas
