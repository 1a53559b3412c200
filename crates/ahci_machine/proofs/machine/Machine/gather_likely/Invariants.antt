use Rattle.std.proofs.Common.{◌≡◌}
use Rattle.ahci_machine.proofs.machine.Machine.gather_likely.Given as goal

abbrev pub invariant-loop : goal.invariant-loop
invariant-loop l = l.self ≡ l.fn.self
