mod SavedLemmas
pub mod MoveLemmas
pub mod FanLemmas
pub mod OpeningLemmas
pub mod BayLemmas
pub mod PortLemmas
