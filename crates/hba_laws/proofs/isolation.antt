-- Isolation of devices, and of bytes: `isolated`.
pub mod OutgoingLemmas
pub mod SlotLemmas
pub mod PartLemmas
pub mod HeardLemmas
pub mod CoreLemmas
pub mod CoreFoldLemmas
pub mod CoreAlikeLemmas
pub mod IsolationLemmas
pub mod GoingLemmas
pub mod AlikeLemmas
pub mod ChoosingLemmas
