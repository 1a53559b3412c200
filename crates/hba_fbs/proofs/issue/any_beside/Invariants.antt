use Rattle.std.proofs.Common.{◌≡◌, ℕ, ◌<◌, false}
use Rattle.hba_fbs.specs.Issuing.{is_beside}
use Rattle.hba_fbs.proofs.issue.any_beside.Given as goal

-- none so far
abbrev pub invariant-loop-slot : goal.invariant-loop-slot
invariant-loop-slot l = (k : ℕ) → k < l.slot → is_beside l.slots l.dev k ≡ false
