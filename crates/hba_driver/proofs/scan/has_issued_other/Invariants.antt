use Rattle.std.proofs.Common.{◌≡◌, ℕ, ◌<◌, false}
use Rattle.hba_driver.specs.{Drivers.{entry_at, holds}, Turns.is_issued_of_other}
use Rattle.hba_driver.proofs.scan.has_issued_other.Given as goal

-- none so far
abbrev pub invariant-loop-slot : goal.invariant-loop-slot
invariant-loop-slot l = (k : ℕ) → k < l.slot → holds (is_issued_of_other l.dev) (entry_at l.slots k) ≡ false
