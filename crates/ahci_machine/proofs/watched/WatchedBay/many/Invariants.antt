use Rattle.std.proofs.Common.{◌≡◌, replicate}
use Rattle.ahci_machine.specs.States.{empty_bay}
use Rattle.ahci_machine.proofs.watched.WatchedBay.many.Given as goal

abbrev pub invariant-loop-made : goal.invariant-loop-made
invariant-loop-made l = l.bays.items ≡ replicate l.made empty_bay
