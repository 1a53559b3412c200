-- What is done at the ports leaves the controller, what is gathered for it, and the frame that it is given.
use Rattle.std.proofs.Common.{◌≡◌, ℕ, Bool, true, false, List, set, Option, Result, Ok, Err, refl, ap, ◌∙◌}
use Rattle.std.specs.{Prelude.{if◌then◌else◌, MatchResult, IsOk, OnErr, OnOk}, Bool.MatchBool, Result.IsErrOf}
use Rattle.fis_view.specs.Frames.{Stamped}
use Rattle.fan_out.specs.declared.seat.NotThere.{NotThere}
use Rattle.block_engine.specs.declared.request.Answer.{Answer}
use Rattle.sata_disk.specs.State.{DiskState}
use Rattle.ahci_controller.specs.{States.ControllerState, declared.next.Next.Next}
use Rattle.ahci_machine.specs.{Answers.{AnswersDisk, AnswersMachine, disk_at}, Bays.{begun, with_unit}, Gathers.GatheringState, Ports.PlugsIn}
use Rattle.ahci_machine.specs.{Ports.{PlugsMachine, PullsMachine, PullsOut, Puts, TakesUnit, filled, has_bay, is_empty, on_bay}, States.MachineState}
use Rattle.ahci_machine.specs.{States.bay_at, declared.{answers.MediumError.{MediumError, TheVariants.OtherDisk}, bay.{Bay.Bay, Unit.Unit as Inside}}}
use Rattle.ahci_machine.specs.declared.{bay.Unit.TheVariants.Empty, ports.PortFault.{PortFault, TheVariants.{NoPort, Taken, NotThere as Absent}}}
use Rattle.ahci_machine.specs.declared.request.MediumId.{MediumId}
use Rattle.machine_laws.proofs.Cases.{by_bool, by_option}

abbrev pub inner : MachineState → ControllerState × Option Next × List (Option GatheringState) × Option Stamped × Bool
inner m = (m.controller, m.kept, m.gathering, m.incoming, m.taken)

abbrev pub Beside : MachineState → MachineState → Type 0
Beside old new = inner new ≡ inner old

by_eq : (old new : MachineState) → new ≡ old → Beside old new
by_eq old new is = ap inner is

answered_told : (told : Result (Unit {0}) MediumError) (old base new : MachineState) → Beside old base → OnOk told (new ≡ base) → OnErr told (new ≡ old) → Beside old new
answered_told (Ok x) old base new same ok err = ap inner ok ∙ same
answered_told (Err e) old base new same ok err = ap inner err

pub answered : (id : MediumId) (a : Answer) (old new : MachineState) (told : Result (Unit {0}) MediumError) → AnswersMachine id a old told new → Beside old new
answered id a old new told h =
    by_option DiskState (Beside old new) (IsErrOf told OtherDisk × (new ≡ old)) (λ d. AnswersDisk id a d old told new) (disk_at old id) h
    (λ none is. by_eq old new is.1) (λ d there s. answered_told told old _ new refl s.ok s.err)

pub put : (n : ℕ) (unit : Inside) (old new : MachineState) (told : Result (Unit {0}) (Inside × PortFault)) → Puts n unit old told new → Beside old new
put n unit old new told h =
    by_bool (Beside old new)
    (MatchBool (is_empty (bay_at old n).unit) (IsOk told × (new ≡ on_bay old n (filled (bay_at old n) unit))) (IsErrOf told (unit, Taken) × (new ≡ old)))
    (IsErrOf told (unit, NoPort) × (new ≡ old)) (has_bay old n) h
    (λ inside there. by_bool (Beside old new) (IsOk told × (new ≡ on_bay old n (filled (bay_at old n) unit))) (IsErrOf told (unit, Taken) × (new ≡ old)) (is_empty (bay_at old n).unit) there
    (λ empty is. ap inner is.1) (λ full is. ap inner is.1))
    (λ outside is. ap inner is.1)

pub plugged : (n : ℕ) (old new : MachineState) (told : Result (Unit {0}) PortFault) → PlugsMachine n old told new → Beside old new
plugged n old new told h =
    by_bool (Beside old new) (MatchBool (is_empty (bay_at old n).unit) (IsErrOf told Absent × (new ≡ old)) (PlugsIn n old told new)) (IsErrOf told NoPort × (new ≡ old)) (has_bay old n) h
    (λ inside there. by_bool (Beside old new) (IsErrOf told Absent × (new ≡ old)) (PlugsIn n old told new) (is_empty (bay_at old n).unit) there
    (λ empty is. ap inner is.1) (λ full is. ap inner is.rest))
    (λ outside is. ap inner is.1)

pulled_part : (n : ℕ) (old new : MachineState) (answer : Result (Unit {0}) NotThere)
    → MatchResult answer (λ _. new ≡ record old { fan = new.fan; bays = set old.bays n (begun (bay_at old n)) }) (λ _. new ≡ record old { fan = new.fan })
    → Beside old new
pulled_part n old new (Ok x) is = ap inner is
pulled_part n old new (Err e) is = ap inner is

pub pulled : (n : ℕ) (old new : MachineState) (told : Result (Unit {0}) PortFault) → PullsMachine n old told new → Beside old new
pulled n old new told h =
    by_bool (Beside old new) (PullsOut n old told new) (IsErrOf told NoPort × (new ≡ old)) (has_bay old n) h
    (λ inside there. pulled_part n old new there.answer there.pulls.rest)
    (λ outside is. ap inner is.1)

pub taken : (n : ℕ) (old new : MachineState) (told : Result Inside PortFault) → TakesUnit n old told new → Beside old new
taken n old new told h =
    by_bool (Beside old new)
    (MatchBool (is_empty (bay_at old n).unit) (IsErrOf told Absent × (new ≡ on_bay old n (with_unit (bay_at old n) Empty)))
    ((told ≡ Ok (bay_at old n).unit) × (new ≡ on_bay old n (with_unit (bay_at old n) Empty))))
    (IsErrOf told NoPort × (new ≡ old)) (has_bay old n) h
    (λ inside there. by_bool (Beside old new) (IsErrOf told Absent × (new ≡ on_bay old n (with_unit (bay_at old n) Empty)))
    ((told ≡ Ok (bay_at old n).unit) × (new ≡ on_bay old n (with_unit (bay_at old n) Empty))) (is_empty (bay_at old n).unit) there
    (λ empty is. ap inner is.1) (λ full is. ap inner is.1))
    (λ outside is. ap inner is.1)

pub frame_by : (own : Bool) (old new : MachineState) (n : ℕ) (b : Bay) → new ≡ (if own then record old { bays = set old.bays n b } else old) → Beside old new
frame_by true old new n b is = ap inner is
frame_by false old new n b is = ap inner is
