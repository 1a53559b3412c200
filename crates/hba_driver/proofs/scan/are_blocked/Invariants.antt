use Rattle.std.proofs.Common.{◌≡◌, ℕ, ◌<◌, false}
use Rattle.hba_driver.specs.{Drivers.{entry_at, holds}, Requests.blocks}
use Rattle.hba_driver.proofs.scan.are_blocked.Given as goal

-- none so far
abbrev pub invariant-loop-slot : goal.invariant-loop-slot
invariant-loop-slot l = (k : ℕ) → k < l.slot → holds (blocks l.dev l.work) (entry_at l.slots k) ≡ false
