use Rattle.std.proofs.Common.{◌≡◌, ℕ, ◌<◌, false, not}
use Rattle.slots.specs.Tested.{is_slot_proper}
use Rattle.slots.proofs.table.saved.are_slots_proper.Given as goal

-- none is improper so far
abbrev pub invariant-loop-slot : goal.invariant-loop-slot
invariant-loop-slot l = (k : ℕ) → k < l.slot → not (is_slot_proper l.slots k) ≡ false
