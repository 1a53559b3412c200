use Rattle.std.proofs.Common.{◌≡◌}
use Rattle.guest_fetch.specs.Moves.{any_told}
use Rattle.ahci_controller.proofs.moving.is_told.Given as goal

-- none so far
abbrev pub invariant-loop-step : goal.invariant-loop-step
invariant-loop-step l = any_told l.step-iterator ≡ any_told l.initial.step-iterator
