use Rattle.std.proofs.Common.{◌≡◌, ◌<◌, ℕ}
use Rattle.ahci_machine.specs.Resting.{NoneGathers}
use Rattle.ahci_machine.proofs.machine.Machine.gather_any.Given as goal

abbrev pub invariant-loop-dev : goal.invariant-loop-dev
invariant-loop-dev l = record { same : l.self ≡ l.fn.self; quiet : (dev : ℕ) → dev < l.dev → NoneGathers l.fn.self dev }
