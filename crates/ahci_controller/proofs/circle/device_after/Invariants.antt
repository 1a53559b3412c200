use Rattle.std.proofs.Common.{◌≡◌, ℕ, ◌<◌, false}
use Rattle.slots.specs.Slots.{has_bit}
use Rattle.ahci_controller.specs.Circle.{is_behind}
use Rattle.ahci_controller.proofs.circle.device_after.Given as goal

-- none so far
abbrev pub invariant-loop-step : goal.invariant-loop-step
invariant-loop-step l = (k : ℕ) → k < l.step → has_bit l.mask (is_behind 16 l.last k) ≡ false
