use Rattle.std.proofs.Common.{◌≡◌}
use Rattle.slots.specs.Slots.{mask_below}
use Rattle.hba_fbs.specs.Choosing.{may_feed}
use Rattle.hba_fbs.proofs.port.PortCore.due_devices.Given as goal

abbrev pub invariant-loop-dev : goal.invariant-loop-dev
invariant-loop-dev l = l.mask ≡ mask_below (may_feed l.self) l.dev
