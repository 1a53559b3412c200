use Rattle.std.proofs.Common.{◌≡◌, ◌<◌, ℕ, true}
use Rattle.ahci_controller.specs.Tested.{is_slot_ruled}
use Rattle.ahci_controller.proofs.parts.Parts.are_slots_ruled.Given as goal

-- those before do
abbrev pub invariant-loop-slot : goal.invariant-loop-slot
invariant-loop-slot l = (k : ℕ) → k < l.slot → is_slot_ruled l.self k ≡ true
