use Rattle.std.proofs.Common.{◌<◌, ℕ}
use Rattle.ahci_controller.specs.Tested.{IsOfferedAt}
use Rattle.ahci_controller.proofs.parts.Parts.are_offered.Given as goal

-- those before are
abbrev pub invariant-loop-slot : goal.invariant-loop-slot
invariant-loop-slot l = (k : ℕ) → k < l.slot → IsOfferedAt l.self k
