use Rattle.std.proofs.Common.{◌≡◌, ℕ, ◌<◌, false}
use Rattle.slots.specs.Slots.{has_bit}
use Rattle.hba_fbs.proofs.issue.aimed.Given as goal

-- no bit so far is set
abbrev pub invariant-loop-slot : goal.invariant-loop-slot
invariant-loop-slot g l = (k : ℕ) → k < l.slot → has_bit l.value k ≡ false
