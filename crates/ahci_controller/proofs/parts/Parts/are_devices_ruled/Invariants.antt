use Rattle.std.proofs.Common.{◌≡◌, ◌<◌, ℕ, true}
use Rattle.ahci_controller.specs.Tested.{is_device_ruled}
use Rattle.ahci_controller.proofs.parts.Parts.are_devices_ruled.Given as goal

-- those before are
abbrev pub invariant-loop-dev : goal.invariant-loop-dev
invariant-loop-dev l = (k : ℕ) → k < l.dev → is_device_ruled l.self k ≡ true
