-- The lemmas of this crate that proofs of other crates use. What else stands under proofs/ may change at any time, and is
-- not seen from outside.
pub use Rattle.thread_counts.proofs.RowLemmas.{at_past}
