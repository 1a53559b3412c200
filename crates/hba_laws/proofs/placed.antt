-- Bytes in client memory: `delivers`, its other clauses.
pub mod WithinLemmas
pub mod CoreWithinLemmas
pub mod ClientLemmas
pub mod SpareLemmas
pub mod KeepingLemmas
pub mod ReadLemmas
