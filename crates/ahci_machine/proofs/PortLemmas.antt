-- What is at a port that is there is pulled.
use Rattle.std.proofs.{Common.{◌≡◌, ℕ, ◌<◌, length, Bool, Result, sym, subst}, lemmas.Bool.{lt-ltb}}
use Rattle.std.specs.{Prelude.{MatchResult, IsOk}, Bool.MatchBool, Result.IsErrOf}
use Rattle.fan_out.specs.declared.seat.NotThere.{NotThere}
use Rattle.ahci_machine.specs.{Ports.{PullsMachine, PullsOut, PullsPart}, States.MachineState, declared.ports.PortFault.PortFault}
use Rattle.ahci_machine.specs.declared.ports.PortFault.TheVariants.{NoPort, NotThere as Absent}

pub pulled : (old new : MachineState) (port : ℕ) (answer : Result (Unit {0}) NotThere) (result : Result (Unit {0}) PortFault) → port < length old.bays → PullsPart port old answer new → MatchResult answer (λ _. IsOk result) (λ _. IsErrOf result Absent) → PullsMachine port old result new
pulled old new port answer result inside pulls is =
    subst (λ (b : Bool). MatchBool b (PullsOut port old result new) (IsErrOf result NoPort × (new ≡ old)))
    (sym (lt-ltb port (length old.bays) inside))
    (record { answer = answer; pulls = pulls; is = is })
