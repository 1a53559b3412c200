-- The lemmas of this crate that proofs of other crates use. What else stands under proofs/ may change at any time, and is
-- not seen from outside.
pub use Rattle.hba_fbs.proofs.RegisterLemmas.{heard_are, written_are}
pub use Rattle.hba_fbs.proofs.OfferLemmas.{active_is, commands_are, refusal_is, view_is}
pub use Rattle.hba_fbs.proofs.CoreLemmas.{decided_if}
pub use Rattle.hba_fbs.proofs.SlotLemmas.{none_have, own_at, own_here}
pub use Rattle.hba_fbs.proofs.FillLemmas.{filled_all, filled_set}
pub use Rattle.hba_fbs.proofs.AimLemmas.{aimed_chosen, aimed_first}
pub use Rattle.hba_fbs.proofs.SendLemmas.{on_err, outgoing_is}
