use Rattle.ahci_machine.specs.Acts.{StepsBy, unlent}
use Rattle.ahci_machine.proofs.machine.Machine.next.Given as goal

abbrev pub invariant-loop : goal.invariant-loop
invariant-loop l = StepsBy l.counter (unlent l.fn.self) l.self
