use Rattle.std.proofs.Common.{◌≡◌}
use Rattle.ahci_machine.specs.Resting.{ArePortsQuietIn}
use Rattle.ahci_machine.proofs.machine.Machine.serve_any.Given as goal

abbrev pub invariant-loop-port : goal.invariant-loop-port
invariant-loop-port l = record { same : l.self ≡ l.fn.self; quiet : ArePortsQuietIn l.from l.port l.fn.self }
