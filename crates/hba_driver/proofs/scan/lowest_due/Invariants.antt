use Rattle.std.proofs.Common.{◌≡◌, ℕ, ◌<◌, false}
use Rattle.hba_driver.specs.{Drivers.entry_at, Turns.may_issue}
use Rattle.hba_driver.proofs.scan.lowest_due.Given as goal

-- none so far
abbrev pub invariant-loop-slot : goal.invariant-loop-slot
invariant-loop-slot l = (k : ℕ) → k < l.slot → may_issue l.plan (entry_at l.slots k) ≡ false
