use Rattle.std.proofs.Common.{◌≡◌, ℕ, ◌<◌, ◌&&◌, false}
use Rattle.slots.specs.Slots.{has_bit}
use Rattle.hba_fbs.specs.Offering.{names_other_by}
use Rattle.hba_fbs.proofs.issue.any_other.Given as goal

-- none so far
abbrev pub invariant-loop-slot : goal.invariant-loop-slot
invariant-loop-slot g l = (k : ℕ) → k < l.slot → (has_bit l.value k && names_other_by (g.O.Offers.offer l.offers) l.dev k) ≡ false
