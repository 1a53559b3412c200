-- What is at the ports comes and goes (Serial ATA 3.x, 16.3.2, hot plug).
use Rattle.std.specs.{Prelude.{◌≡◌, ℕ, ◌+◌, min, nat_lt, Bool, true, false, length, slice_set, Result, Ok, MatchResult, IsOk}, Result.IsErrOf}
use Rattle.std.specs.Bool.{MatchBool}
use Rattle.fan_out.specs.{FanOuts.{Plugs, Pulls}, declared.seat.{NotThere.NotThere, PlugError.PlugError}}
use Rattle.fan_out.specs.declared.seat.PlugError.TheVariants as plug
use Rattle.ahci_machine.specs.{Bays.{begun, with_unit}, States.{MachineState, bay_at}, declared.bay.{Bay.Bay, Unit.Unit as Inside}}
use Rattle.ahci_machine.specs.declared.{bay.Unit.TheVariants.Empty, ports.PortFault.{PortFault, TheVariants.{NoPort, Taken, NotThere as Absent}}}
use Rattle.ahci_machine.specs.declared.ports.PortFault.TheVariants.{PluggedIn, Spent}

abbrev pub has_bay : MachineState → (port : ℕ) → Bool
has_bay m port = nat_lt port (length m.bays)

abbrev pub is_empty : Inside → Bool
is_empty Empty = true
is_empty other = false

-- the next disk of this port
abbrev pub filled : Bay → Inside → Bay
filled b unit = record { unit = unit; disk = min (b.disk + 1) 18446744073709551615; down = b.down; told = b.told }

abbrev pub on_bay : MachineState → (port : ℕ) → Bay → MachineState
on_bay m port b = record m { bays = slice_set m.bays port b }

abbrev pub Puts : (port : ℕ) → Inside → MachineState → Result (Unit {0}) (Inside × PortFault) → MachineState → Type 0
Puts port unit old result new =
    MatchBool (has_bay old port)
    (MatchBool (is_empty (bay_at old port).unit)
    (IsOk result × (new ≡ on_bay old port (filled (bay_at old port) unit)))
    (IsErrOf result (unit, Taken) × (new ≡ old)))
    (IsErrOf result (unit, NoPort) × (new ≡ old))

abbrev pub plug_fault : PlugError → PortFault
plug_fault plug.NoPort = NoPort
plug_fault plug.AlreadyThere = PluggedIn
plug_fault plug.Spent = Spent

pub record PlugsIn (port : ℕ) (old : MachineState) (result : Result (Unit {0}) PortFault) (new : MachineState) : Type 0 where
  pub answer : Result (Unit {0}) PlugError
  pub plugs : Plugs old.fan port answer new.fan
  pub rest : new ≡ record old { fan = new.fan }
  pub is : MatchResult answer (λ _. IsOk result) (λ error. IsErrOf result (plug_fault error))

abbrev pub PlugsMachine : (port : ℕ) → MachineState → Result (Unit {0}) PortFault → MachineState → Type 0
PlugsMachine port old result new =
    MatchBool (has_bay old port)
    (MatchBool (is_empty (bay_at old port).unit) (IsErrOf result Absent × (new ≡ old)) (PlugsIn port old result new))
    (IsErrOf result NoPort × (new ≡ old))

-- all that it had to do is gone
pub record PullsPart (port : ℕ) (old : MachineState) (answer : Result (Unit {0}) NotThere) (new : MachineState) : Type 0 where
  pub pulls : Pulls old.fan port answer new.fan
  pub rest : MatchResult answer
      (λ _. new ≡ record old { fan = new.fan; bays = slice_set old.bays port (begun (bay_at old port)) })
      (λ _. new ≡ record old { fan = new.fan })

pub record PullsOut (port : ℕ) (old : MachineState) (result : Result (Unit {0}) PortFault) (new : MachineState) : Type 0 where
  pub answer : Result (Unit {0}) NotThere
  pub pulls : PullsPart port old answer new
  pub is : MatchResult answer (λ _. IsOk result) (λ _. IsErrOf result Absent)

abbrev pub PullsMachine : (port : ℕ) → MachineState → Result (Unit {0}) PortFault → MachineState → Type 0
PullsMachine port old result new =
    MatchBool (has_bay old port) (PullsOut port old result new) (IsErrOf result NoPort × (new ≡ old))

-- it is pulled, if it is plugged in, and taken away
abbrev pub TakesUnit : (port : ℕ) → MachineState → Result Inside PortFault → MachineState → Type 0
TakesUnit port old result new =
    MatchBool (has_bay old port)
    (MatchBool (is_empty (bay_at old port).unit)
    (IsErrOf result Absent × (new ≡ on_bay old port (with_unit (bay_at old port) Empty)))
    ((result ≡ Ok (bay_at old port).unit) × (new ≡ on_bay old port (with_unit (bay_at old port) Empty))))
    (IsErrOf result NoPort × (new ≡ old))

pub record Removes (port : ℕ) (old : MachineState) (result : Result Inside PortFault) (new : MachineState) : Type 0 where
  pub pulled : MachineState
  pub answer : Result (Unit {0}) PortFault
  pub pulls : PullsMachine port old answer pulled
  pub takes : TakesUnit port pulled result new
