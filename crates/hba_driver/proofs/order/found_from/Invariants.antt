use Rattle.std.proofs.Common.{◌≡◌, ℕ, ◌<◌, ◌&&◌, nat_le, false}
use Rattle.slots.specs.Slots.{has_bit}
use Rattle.hba_driver.proofs.order.found_from.Given as goal

-- none so far
abbrev pub invariant-loop-port : goal.invariant-loop-port
invariant-loop-port l = (k : ℕ) → k < l.port → (nat_le l.from k && has_bit l.found k) ≡ false
