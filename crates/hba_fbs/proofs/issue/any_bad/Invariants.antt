use Rattle.std.proofs.Common.{◌≡◌, ℕ, ◌<◌, ◌&&◌, false}
use Rattle.slots.specs.Slots.{has_bit}
use Rattle.hba_fbs.specs.Offering.{is_bad_by}
use Rattle.hba_fbs.proofs.issue.any_bad.Given as goal

-- none so far
abbrev pub invariant-loop-slot : goal.invariant-loop-slot
invariant-loop-slot g l = (k : ℕ) → k < l.slot → (has_bit l.value k && is_bad_by (g.O.Offers.offer l.offers) k) ≡ false
