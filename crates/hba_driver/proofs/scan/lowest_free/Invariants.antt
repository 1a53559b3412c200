use Rattle.std.proofs.Common.{◌≡◌, ℕ, ◌<◌, false}
use Rattle.hba_driver.specs.{Drivers.entry_at, Requests.is_free}
use Rattle.hba_driver.proofs.scan.lowest_free.Given as goal

-- none so far
abbrev pub invariant-loop-slot : goal.invariant-loop-slot
invariant-loop-slot l = (k : ℕ) → k < l.slot → is_free (entry_at l.slots k) ≡ false
