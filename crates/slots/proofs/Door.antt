-- The lemmas of this crate that proofs of other crates use. What else stands under proofs/ may change at any time, and is
-- not seen from outside.
pub use Rattle.slots.proofs.ByteLemmas.{any_at, count_more, length_with_bytes, over_none, over_with_bytes}
pub use Rattle.slots.proofs.ByteLemmas.{whole_dwords}
pub use Rattle.slots.proofs.MaskLemmas.{get-unless, has_bit_below, has_bit_mask, length-unless, lowest_before, lowest_found}
pub use Rattle.slots.proofs.MaskLemmas.{lowest_is, lowest_none, mask_fits, mask_none, mask_same, mask_set}
pub use Rattle.slots.proofs.MaskLemmas.{none_below}
pub use Rattle.slots.proofs.CallLemmas.{may_be_sent}
pub use Rattle.slots.proofs.TableLemmas.{own_at, owned_own, owned_same, owns_where}
pub use Rattle.slots.proofs.NewLemmas.{get-free, new_table}
