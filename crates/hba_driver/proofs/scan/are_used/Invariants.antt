use Rattle.std.proofs.Common.{◌≡◌, ℕ, ◌<◌, false}
use Rattle.hba_driver.specs.{Drivers.entry_at, Requests.is_used_by}
use Rattle.hba_driver.proofs.scan.are_used.Given as goal

-- none so far
abbrev pub invariant-loop-slot : goal.invariant-loop-slot
invariant-loop-slot l = (k : ℕ) → k < l.slot → is_used_by l.at l.len (entry_at l.slots k) ≡ false
