use Rattle.std.proofs.Common.{◌≡◌}
use Rattle.slots.specs.Slots.{mask_below}
use Rattle.hba_fbs.specs.Choosing.{may_order}
use Rattle.hba_fbs.proofs.port.PortCore.due_slots.Given as goal

abbrev pub invariant-loop-slot : goal.invariant-loop-slot
invariant-loop-slot l = l.mask ≡ mask_below (may_order l.self) l.slot
