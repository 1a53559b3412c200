-- The laws together: clause `laws`, and that each world was reached.
pub mod Laws
pub mod ReachedLemmas
