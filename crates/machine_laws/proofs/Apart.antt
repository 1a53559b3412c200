-- What is done at one port leaves what is at another.
use Rattle.std.proofs.Common.{◌≡◌, ℕ, Bool, true, false, List, get_or, length, set, None, Result, Ok, Err, refl, ap, ◌∙◌, inl, inr}
use Rattle.std.specs.{Prelude.{if◌then◌else◌, ◌==◌, ◌||◌, MatchOption, MatchResult, IsOk, OnErr, OnOk, nat_lt}, Bool.MatchBool, Result.IsErrOf}
use Rattle.std.specs.declared.alloc.AllocError.{AllocError}
use Rattle.block_engine.specs.Engine as engine
use Rattle.block_engine.specs.declared.request.Answer.{Answer}
use Rattle.ahci_controller.specs.declared.{feeding.Fed.Fed, next.Next.Next}
use Rattle.ahci_controller.specs.declared.feeding.Fed.TheVariants as fed
use Rattle.ahci_controller.specs.declared.next.Next.TheVariants as next
use Rattle.sata_disk.specs.State.{DiskState}
use Rattle.ahci_machine.specs.Acts as acts
use Rattle.ahci_machine.specs.{Acts.{DoesBy, GoesBy, ServesNext, feeding, with_bay, with_controller}, Answers.{AnswersDisk, AnswersMachine}}
use Rattle.ahci_machine.specs.Answers.{MissesMachine, IsStale, MissesFor, SuppliesData, SuppliesMachine, disk_at, is_own, is_wanted, taken_bay}
use Rattle.ahci_machine.specs.{Bays.{begun, with_unit}, Gathers.GatheringState, Ports.{PlugsIn, PlugsMachine, PullsMachine, PullsOut, Puts}}
use Rattle.ahci_machine.specs.{Ports.{TakesUnit, filled, has_bay, is_empty, on_bay}, Registers.{link_stays, message_of, renewed}, States.MachineState}
use Rattle.ahci_machine.specs.{States.{bay_at, empty_bay, gathering_at}, declared.{act.Act.Act, answers.{MediumError.MediumError, Told.Told}}}
use Rattle.ahci_machine.specs.declared.{answers.MediumError.TheVariants.OtherDisk, bay.{Bay.Bay, Unit.{Unit as Inside, TheVariants.{Disk, Empty}}}}
use Rattle.ahci_machine.specs.declared.{ports.PortFault.{PortFault, TheVariants.{NoPort, Taken, NotThere as Absent}}, request.MediumId.MediumId}
use Rattle.ahci_machine.specs.declared.request.Wanted.{Wanted, TheVariants.{Command, Data}}
use Rattle.ahci_machine.specs.declared.act.Act.TheVariants as act
use Rattle.fan_out.specs.declared.seat.NotThere.{NotThere}
use Rattle.machine_laws.proofs.Cases.{by_bool, by_option, other_bay}
use Rattle.machine_laws.specs.Deeds.{Moved, Wrote, Supplied, Missed, Answered, Put, Plugged, Pulled, Removed, FrameTaken, FrameOffered}
use Rattle.machine_laws.specs.Ports.{PortsAreApart, is_move_at}

abbrev Same : MachineState → MachineState → ℕ → Type 0
Same old new port = bay_at new port ≡ bay_at old port

same_by : (old new : MachineState) (port : ℕ) → new.bays ≡ old.bays → Same old new port
same_by old new port is = ap (λ (l : List Bay). get_or l port empty_bay) is

other_by : (old new : MachineState) (n port : ℕ) (b : Bay) → (n == port) ≡ false → new.bays ≡ set old.bays n b → Same old new port
other_by old new n port b off is = ap (λ (l : List Bay). get_or l port empty_bay) is ∙ other_bay old.bays n port b off

bays_of : (m n : MachineState) → m ≡ n → m.bays ≡ n.bays
bays_of m n is = ap (λ (x : MachineState). x.bays) is

-- ---- moves

does_by : (said : Next) (old new : MachineState) → DoesBy said old new → new.bays ≡ old.bays
does_by (next.Order dev slot fis) old new h = ap (λ (x : MachineState). x.bays) h.1
does_by other old new h = ap (λ (x : MachineState). x.bays) h

goes_by : (f : Fed) (g : GatheringState) (old new : MachineState) → GoesBy f g old new → new.bays ≡ old.bays
goes_by (fed.Goes message line) g old new h = ap (λ (x : MachineState). x.bays) h
goes_by other g old new h = ap (λ (x : MachineState). x.bays) h

rests_by : (old new : MachineState) → acts.RestsNow old new → new.bays ≡ old.bays
rests_by old new (inl h) = ap (λ (x : MachineState). x.bays) h
rests_by old new (inr h) = ap (λ (x : MachineState). x.bays) h.rest

begins_by : (old new : MachineState) (n port : ℕ) (b : Bay) (inside : Bool) → (n == port) ≡ false
    → new.bays ≡ (if inside then set old.bays n b else old.bays) → Same old new port
begins_by old new n port b true off is = other_by old new n port b off is
begins_by old new n port b false off is = same_by old new port is

serves_by : (old new : MachineState) (n port : ℕ) (a : Act) → (n == port) ≡ false → ServesNext n a old new → Same old new port
serves_by old new n port a off h = other_by old new n port (bay_at new n) off (ap (λ (x : MachineState). x.bays) h.rest)

pub moved : (a : Act) (old new : MachineState) (port : ℕ) → acts.Does old a new → is_move_at a port ≡ false → Same old new port
moved act.Rests old new port h off = same_by old new port (rests_by old new h)
moved (act.Line b) old new port h off = same_by old new port (ap (λ (x : MachineState). x.bays) h.2)
moved act.Message old new port h off = same_by old new port (ap (λ (x : MachineState). x.bays) h.1)
moved (act.Does said) old new port h off = same_by old new port (does_by said old new h.does)
moved (act.Gathers dev answer) old new port h off =
    same_by old new port (goes_by answer h.gathering (with_controller (acts.with_gathering old h.place None) new.controller) new h.gathers.goes)
moved (act.Misses dev answer) old new port h off = same_by old new port (ap (λ (x : MachineState). x.bays) h.misses.rest)
moved (act.Begins n) old new port h off =
    begins_by old new n port (begun (bay_at old n)) (nat_lt n (length old.bays)) off (ap (λ (x : MachineState). x.bays) h.rest)
moved (act.Falls n) old new port h off = serves_by old new n port (act.Falls n) off h
moved (act.Hears n unheard) old new port h off = serves_by old new n port (act.Hears n unheard) off h
moved (act.Points n) old new port h off = serves_by old new n port (act.Points n) off h
moved (act.Drops n) old new port h off = serves_by old new n port (act.Drops n) off h
moved (act.Speaks n out) old new port h off = serves_by old new n port (act.Speaks n out) off h
moved (act.Starts n place) old new port h off = serves_by old new n port (act.Starts n place) off h
moved (act.Asks id request) old new port h off = serves_by old new id.port port (act.Asks id request) off h
moved other old new port h off = same_by old new port (ap (λ (x : MachineState). x.bays) h.rest)

pub stepped : (a : Act) (old new : MachineState) (port : ℕ) → acts.Steps old a new → is_move_at a port ≡ false → Same old new port
stepped a old new port h off = same_by h.middle new port (ap (λ (x : MachineState). x.bays) h.turns) ∙ moved a old h.middle port h.does off

-- ---- calls

wrote_by : (stays : Bool) (old m new : MachineState) → m.bays ≡ old.bays → new ≡ (if stays then m else renewed m) → new.bays ≡ old.bays
wrote_by true old m new same is = ap (λ (x : MachineState). x.bays) is ∙ same
wrote_by false old m new same is = ap (λ (x : MachineState). x.bays) is ∙ same

stale : (old new : MachineState) (it : Told) → IsStale old it new → new.bays ≡ old.bays
stale old new it h = bays_of new old h.1

supplied_by : (w : Wanted) (bytes : List ℕ) (old new : MachineState) (answer : Result Told AllocError)
    → SuppliesMachine w bytes old answer new → new.bays ≡ old.bays
supplied_by (Command slot number) bytes old new answer h = ap (λ (x : MachineState). x.bays) h.rest
supplied_by (Data dev number done) bytes old new (Ok it) h =
    by_bool (new.bays ≡ old.bays)
    (MatchOption (gathering_at old dev) (IsStale old it new) (λ g. SuppliesData g dev number done bytes old it new)) (IsStale old it new)
    (nat_lt dev 16) h
    (λ low some. by_option GatheringState (new.bays ≡ old.bays) (IsStale old it new) (λ g. SuppliesData g dev number done bytes old it new)
    (gathering_at old dev) some (λ none is. stale old new it is) (λ g there s. ap (λ (x : MachineState). x.bays) s.rest))
    (λ high is. stale old new it is)
supplied_by (Data dev number done) bytes old new (Err e) h = absurd h

missed_by : (w : Wanted) (old new : MachineState) (answer : Result Told AllocError) → MissesMachine w old answer new → new.bays ≡ old.bays
missed_by (Command slot number) old new answer h = ap (λ (x : MachineState). x.bays) h.rest
missed_by (Data dev number done) old new (Ok it) h =
    by_bool (new.bays ≡ old.bays) (MatchOption (gathering_at old dev) ⊥ (λ g. MissesFor g dev old it new)) (IsStale old it new)
    (is_wanted old dev number done) h
    (λ low some. by_option GatheringState (new.bays ≡ old.bays) ⊥ (λ g. MissesFor g dev old it new) (gathering_at old dev) some
    (λ none off. absurd off) (λ g there s. ap (λ (x : MachineState). x.bays) s.misses.rest))
    (λ high is. stale old new it is)
missed_by (Data dev number done) old new (Err e) h = absurd h

answered_ok : (old new : MachineState) (id : MediumId) (b : Bay) (port : ℕ) (told : Result (Unit {0}) MediumError) → (id.port == port) ≡ false
    → OnOk told (new ≡ record old { bays = set old.bays id.port b })
    → OnErr told (new ≡ old) → Same old new port
answered_ok old new id b port (Ok x) off ok err = other_by old new id.port port b off (ap (λ (x : MachineState). x.bays) ok)
answered_ok old new id b port (Err e) off ok err = same_by old new port (bays_of new old err)

answered : (id : MediumId) (a : Answer) (old new : MachineState) (told : Result (Unit {0}) MediumError) (port : ℕ)
    → AnswersMachine id a old told new → (id.port == port) ≡ false → Same old new port
answered id a old new told port h off =
    by_option DiskState (Same old new port) (IsErrOf told OtherDisk × (new ≡ old))
    (λ d. AnswersDisk id a d old told new) (disk_at old id) h
    (λ none is. same_by old new port (bays_of new old is.1))
    (λ d there s. answered_ok old new id (with_unit (bay_at old id.port)
    (Disk (record d { engine = engine.answered d.engine id.number a }))) port told off s.ok s.err)

put : (n : ℕ) (unit : Inside) (old new : MachineState) (told : Result (Unit {0}) (Inside × PortFault)) (port : ℕ)
    → Puts n unit old told new → (n == port) ≡ false → Same old new port
put n unit old new told port h off =
    by_bool (Same old new port)
    (MatchBool (is_empty (bay_at old n).unit) (IsOk told × (new ≡ on_bay old n (filled (bay_at old n) unit)))
    (IsErrOf told (unit, Taken) × (new ≡ old)))
    (IsErrOf told (unit, NoPort) × (new ≡ old)) (has_bay old n) h
    (λ inside there. by_bool (Same old new port) (IsOk told × (new ≡ on_bay old n (filled (bay_at old n) unit)))
    (IsErrOf told (unit, Taken) × (new ≡ old)) (is_empty (bay_at old n).unit) there
    (λ empty is. other_by old new n port (filled (bay_at old n) unit) off (bays_of new (on_bay old n (filled (bay_at old n) unit)) is.1))
    (λ full is. same_by old new port (bays_of new old is.1)))
    (λ outside is. same_by old new port (bays_of new old is.1))

plugged : (n : ℕ) (old new : MachineState) (told : Result (Unit {0}) PortFault) → PlugsMachine n old told new → new.bays ≡ old.bays
plugged n old new told h =
    by_bool (new.bays ≡ old.bays)
    (MatchBool (is_empty (bay_at old n).unit) (IsErrOf told Absent × (new ≡ old)) (PlugsIn n old told new))
    (IsErrOf told NoPort × (new ≡ old)) (has_bay old n) h
    (λ inside there. by_bool (new.bays ≡ old.bays) (IsErrOf told Absent × (new ≡ old)) (PlugsIn n old told new)
    (is_empty (bay_at old n).unit) there (λ empty is. bays_of new old is.1) (λ full is. ap (λ (x : MachineState). x.bays) is.rest))
    (λ outside is. bays_of new old is.1)

pulled_part : (n : ℕ) (old new : MachineState) (answer : Result (Unit {0}) NotThere) (port : ℕ) → (n == port) ≡ false
    → MatchResult answer (λ _. new ≡ record old { fan = new.fan; bays = set old.bays n (begun (bay_at old n)) })
    (λ _. new ≡ record old { fan = new.fan })
    → Same old new port
pulled_part n old new (Ok x) port off is = other_by old new n port (begun (bay_at old n)) off (ap (λ (x : MachineState). x.bays) is)
pulled_part n old new (Err e) port off is = same_by old new port (ap (λ (x : MachineState). x.bays) is)

pub pulled : (n : ℕ) (old new : MachineState) (told : Result (Unit {0}) PortFault) (port : ℕ)
    → PullsMachine n old told new → (n == port) ≡ false → Same old new port
pulled n old new told port h off =
    by_bool (Same old new port) (PullsOut n old told new) (IsErrOf told NoPort × (new ≡ old)) (has_bay old n) h
    (λ inside there. pulled_part n old new there.answer port off there.pulls.rest)
    (λ outside is. same_by old new port (bays_of new old is.1))

taken : (n : ℕ) (old new : MachineState) (told : Result Inside PortFault) (port : ℕ)
    → TakesUnit n old told new → (n == port) ≡ false → Same old new port
taken n old new told port h off =
    by_bool (Same old new port)
    (MatchBool (is_empty (bay_at old n).unit) (IsErrOf told Absent × (new ≡ on_bay old n (with_unit (bay_at old n) Empty)))
    ((told ≡ Ok (bay_at old n).unit) × (new ≡ on_bay old n (with_unit (bay_at old n) Empty))))
    (IsErrOf told NoPort × (new ≡ old)) (has_bay old n) h
    (λ inside there. by_bool (Same old new port) (IsErrOf told Absent × (new ≡ on_bay old n (with_unit (bay_at old n) Empty)))
    ((told ≡ Ok (bay_at old n).unit) × (new ≡ on_bay old n (with_unit (bay_at old n) Empty))) (is_empty (bay_at old n).unit) there
    (λ empty is. other_by old new n port (with_unit (bay_at old n) Empty) off (bays_of new (on_bay old n (with_unit (bay_at old n) Empty)) is.1))
    (λ full is. other_by old new n port (with_unit (bay_at old n) Empty) off (bays_of new (on_bay old n (with_unit (bay_at old n) Empty)) is.1)))
    (λ outside is. same_by old new port (bays_of new old is.1))

frame_by : (own : Bool) (old new : MachineState) (n port : ℕ) (b : Bay) → (n == port) ≡ false
    → new ≡ (if own then record old { bays = set old.bays n b } else old) → Same old new port
frame_by true old new n port b off is = other_by old new n port b off (ap (λ (x : MachineState). x.bays) is)
frame_by false old new n port b off is = same_by old new port (bays_of new old is)

pub apart : PortsAreApart
apart old (Moved a) new h port off = stepped a old new port h off
apart old (Wrote offset width value written) new h port off =
    same_by old new port (wrote_by (link_stays written) old
    (record old { controller = new.controller; message = old.message || message_of written }) new refl h.rest)
apart old (Supplied w bytes) new h port off = same_by old new port (supplied_by w bytes old new h.answer h.supplies)
apart old (Missed w) new h port off = same_by old new port (missed_by w old new h.answer h.misses)
apart old (Answered id a told) new h port off = answered id a old new told port h off
apart old (Put n unit told) new h port off = put n unit old new told port h off
apart old (Plugged n told) new h port off = same_by old new port (plugged n old new told h)
apart old (Pulled n told) new h port off = pulled n old new told port h off
apart old (Removed n told) new h port off = taken n h.pulled new told port h.takes off ∙ pulled n old h.pulled h.answer port h.pulls off
apart old (FrameTaken n told) new h port off =
    frame_by (is_own (bay_at old n).unit) old new n port (taken_bay (bay_at old n)) off h.rest
apart old (FrameOffered n frame told) new h port off = same_by old new port (ap (λ (x : MachineState). x.bays) h.rest)
apart old other new h port off = same_by old new port (ap (λ (x : MachineState). x.bays) h)

pub plugged_same : (n : ℕ) (old new : MachineState) (told : Result (Unit {0}) PortFault) (port : ℕ) → PlugsMachine n old told new → Same old new port
plugged_same n old new told port h = same_by old new port (plugged n old new told h)
