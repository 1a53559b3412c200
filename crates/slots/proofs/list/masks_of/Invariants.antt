use Rattle.slots.specs.Masks.{AreMasksBelow}
use Rattle.slots.proofs.list.masks_of.Given as goal

abbrev pub invariant-loop-slot : goal.invariant-loop-slot
invariant-loop-slot l = AreMasksBelow l.slot l.masks l.slots
