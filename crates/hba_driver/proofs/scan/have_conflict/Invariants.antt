use Rattle.std.proofs.Common.{◌≡◌, ℕ, ◌<◌, false}
use Rattle.hba_driver.specs.{Drivers.entry_at, Requests.conflicts}
use Rattle.hba_driver.proofs.scan.have_conflict.Given as goal

-- none so far
abbrev pub invariant-loop-slot : goal.invariant-loop-slot
invariant-loop-slot l = (k : ℕ) → k < l.slot → conflicts l.work l.prds (entry_at l.slots k) ≡ false
