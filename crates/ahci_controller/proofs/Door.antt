-- The lemmas of this crate that proofs of other crates use. What else stands under proofs/ may change at any time, and is
-- not seen from outside.
pub use Rattle.ahci_controller.proofs.rules.BitLemmas.{or_left, or_none, or_right, other_stays, pow_same}
