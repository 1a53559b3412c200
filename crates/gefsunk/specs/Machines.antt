-- What the calls on a machine do, by its rules (AHCI 1.3.1, sections 3, 5.3 and 10; Serial ATA 3.x, 16).
use Rattle.std.specs.Prelude.{◌≡◌, ℕ, ◌≤◌, ◌<◌, ◌==◌, ◌&&◌, ◌⊎◌, nat_lt, not, true, false, if◌then◌else◌, List, [], length, Option, Some, None}
use Rattle.std.specs.{Prelude.{MatchOption, Result, MatchResult}, Bool.MatchBool, declared.alloc.AllocError.AllocError}
use Rattle.fis_view.specs.{Frames.{Stamped, is_frame}, declared.frame.Stamp.Stamp}
use Rattle.block_engine.specs.declared.request.Answer.{Answer, TheVariants.Failed}
use Rattle.sata_disk.specs.State.{DiskState}
use Rattle.ahci_controller.specs.declared.{access.Width.{Width, TheVariants.{Byte, Word, Dword, Qword}}, wide.WideWritten.WideWritten}
use Rattle.ahci_machine.specs.{Acts.{Asks, Moves, unlent}, Answers.{AnswersMachine, MissesMachine, OffersFrame, SuppliesMachine, TakesFrame}}
use Rattle.ahci_machine.specs.{Answers.{discarded_of, stored_of}, Ports.{PlugsMachine, PullsMachine, Puts, Removes}, Resting.EndsAtRest}
use Rattle.ahci_machine.specs.{Registers.{WritesMachine, lent_bytes, powered, read_machine}, States.{IsOpeningMachine, MachineState}}
use Rattle.ahci_machine.specs.declared.{answers.{MediumError.MediumError, Told.Told}, bay.Unit.{Unit as Inside, TheVariants.Disk}}
use Rattle.ahci_machine.specs.declared.ports.PortFault.{PortFault}
use Rattle.ahci_machine.specs.declared.request.{MediumId.MediumId, Request.Request, Wanted.{Wanted, TheVariants.{Command, Data}}}
use Rattle.ahci_machine.specs.declared.answers.MediumError.TheVariants as medium
use Rattle.ahci_machine.specs.declared.ports.PortFault.TheVariants as fault
use Rattle.ahci_machine.specs.declared.request.Request.TheVariants as request
use Rattle.gefsunk.specs.{Media.{IsLoaded, PieceRule, RangeRule, error_of, medium_shown, misfit_of, place_named, plain}, Pms.no_removals}
use Rattle.gefsunk.specs.{Profiles.{MakesDisk, ProfileRefused}, declared.event.{Event.Event, MediumRequest.MediumRequest, WantedBytes.WantedBytes}}
use Rattle.gefsunk.specs.declared.{kept.Kept.Kept, medium.SectorRange.SectorRange, profile.DiskNumbers.DiskNumbers, status.Status.Status}
use Rattle.gefsunk.specs.declared.kept.Kept.TheVariants as kept
use Rattle.gefsunk.specs.declared.status.Status.TheVariants as status

-- ---- registers

abbrev pub width_of : (bytes : ℕ) → Option Width
width_of n = if n == 1 then Some Byte else if n == 2 then Some Word else if n == 4 then Some Dword else if n == 8 then Some Qword else None

abbrev pub ReadRule : MachineState → (offset width : ℕ) → Status → (value : ℕ) → Type 0
ReadRule m offset width answer value =
    MatchOption (width_of width) (answer ≡ status.BadWidth) (λ w. (answer ≡ status.Done) × (value ≡ read_machine m offset w))

pub record Writes (old : MachineState) (offset : ℕ) (width : Width) (value : ℕ) (new : MachineState) : Type 0 where
  pub told : WideWritten
  pub writes : WritesMachine offset width value old told new

unfoldable pub WriteRule : MachineState → (offset width value : ℕ) → Status → MachineState → Type 0
WriteRule old offset width value answer new =
    MatchOption (width_of width) ((answer ≡ status.BadWidth) × (new ≡ old))
    (λ w. (answer ≡ status.Done) × Writes old offset w value new)

abbrev pub PowerRule : MachineState → Status → MachineState → Type 0
PowerRule old answer new = (answer ≡ status.Done) × (new ≡ powered old)

-- ---- what is at the ports

abbrev pub fault_of : PortFault → Status
fault_of fault.NoPort = status.NoPort
fault_of fault.Taken = status.AlreadyThere
fault_of fault.NotThere = status.NotThere
fault_of fault.PluggedIn = status.PluggedIn
fault_of fault.Spent = status.Spent

abbrev pub FaultAmong : Inside × PortFault → Status → Type 0
FaultAmong (unit, found) answer = answer ≡ fault_of found

pub record PutRule (old : MachineState) (port : ℕ) (unit : Inside) (answer : Status) (new : MachineState) : Type 0 where
  pub told : Result (Unit {0}) (Inside × PortFault)
  pub puts : Puts port unit old told new
  pub is : MatchResult told (λ _. answer ≡ status.Done) (λ back. FaultAmong back answer)

pub record PlugRule (old : MachineState) (port : ℕ) (answer : Status) (new : MachineState) : Type 0 where
  pub told : Result (Unit {0}) PortFault
  pub plugs : PlugsMachine port old told new
  pub is : MatchResult told (λ _. answer ≡ status.Done) (λ found. answer ≡ fault_of found)

pub record PullRule (old : MachineState) (port : ℕ) (answer : Status) (new : MachineState) : Type 0 where
  pub told : Result (Unit {0}) PortFault
  pub pulls : PullsMachine port old told new
  pub is : MatchResult told (λ _. answer ≡ status.Done) (λ found. answer ≡ fault_of found)

pub record RemoveRule (old : MachineState) (port : ℕ) (answer : Status) (new : MachineState) : Type 0 where
  pub told : Result Inside PortFault
  pub removes : Removes port old told new
  pub is : MatchResult told (λ _. answer ≡ status.Done) (λ found. answer ≡ fault_of found)

-- ---- a disk is put there

pub record PutsDisk (old : MachineState) (port : ℕ) (n : DiskNumbers) (model serial firmware : List ℕ) (answer : Status)
    (new : MachineState) : Type 0 where
  pub disk : DiskState
  pub makes : MakesDisk n model serial firmware disk
  pub puts : PutRule old port (Disk disk) answer new

abbrev pub PutDiskRule : MachineState → (port : ℕ) → DiskNumbers → (model serial firmware : List ℕ) → Status → MachineState → Type 0
PutDiskRule old port n model serial firmware answer new =
    PutsDisk old port n model serial firmware answer new ⊎ (ProfileRefused n model serial firmware answer × (new ≡ old))

-- ---- what is wanted, and which request it is, as C gives them back

abbrev pub wanted_shown : Wanted → WantedBytes
wanted_shown (Command slot number) = record { kind = 1; owner = slot; number = number; done = 0 }
wanted_shown (Data dev number done) = record { kind = 2; owner = dev; number = number; done = done }

abbrev pub wanted_named : WantedBytes → Option Wanted
wanted_named w =
    if (w.kind == 1) && nat_lt w.owner 32 then Some (Command w.owner w.number)
    else if (w.kind == 2) && nat_lt w.owner 16 then Some (Data w.owner w.number w.done) else None

abbrev pub id_named : MediumRequest → Option MediumId
id_named r = if nat_lt r.port 15 then Some (record { port = r.port; disk = r.disk; number = r.number }) else None

-- ---- events: what a kind does not have is 0

abbrev pub event_of : Request → (lent : ℕ) → Event
event_of request.Nothing lent = plain 0
event_of request.Again lent = plain 1
event_of (request.ReadGuest r) lent = record (plain 2) { at = r.at; len = r.len; wanted = wanted_shown r.wanted }
event_of (request.WriteGuest at) lent = record (plain 3) { at = at; len = lent }
event_of (request.Medium id place what) lent = medium_shown id place what
event_of (request.Line up) lent = record (plain 8) { up = if up then 1 else 0 }
event_of request.Message lent = plain 9
event_of (request.ToDevice port) lent = record (plain 10) { port = port }
event_of (request.Begins port) lent = record (plain 11) { port = port }

pub record Nexts (old : MachineState) (event : Event) (new : MachineState) : Type 0 where
  pub asked : Request
  pub asks : Asks (unlent old) asked new
  -- nothing is asked only by one at rest, which moves led to
  pub rests : asked ≡ request.Nothing → EndsAtRest (unlent old) new
  pub is : event ≡ event_of asked (length (lent_bytes new))

-- where memory is refused, some moves may have been made, none of which asks anything of the caller
abbrev pub NextRule : MachineState → Status → Event → MachineState → Type 0
NextRule old status.Done event new = Nexts old event new
NextRule old status.NoMemory event new = Moves (unlent old) new
NextRule old _ event new = ⊥

-- ---- bytes of the guest

abbrev pub LentRule : MachineState → (room : ℕ) → Status → List ℕ → Type 0
LentRule m room status.Done got = (got ≡ lent_bytes m) × (0 < length got) × (length got ≤ room)
LentRule m room status.TooShort got = room < length (lent_bytes m)
LentRule m room status.Nothing got = lent_bytes m ≡ []
LentRule m room _ got = ⊥

pub record Supplied (old : MachineState) (wanted : Wanted) (bytes : List ℕ) (answer : Status) (new : MachineState) : Type 0 where
  pub told : Result Told AllocError
  pub supplies : SuppliesMachine wanted bytes old told new
  pub is : MatchResult told (λ _. answer ≡ status.Done) (λ _. answer ≡ status.NoMemory)

unfoldable pub SupplyRule : MachineState → WantedBytes → List ℕ → Status → MachineState → Type 0
SupplyRule old wanted bytes answer new =
    MatchOption (wanted_named wanted) ((answer ≡ status.NotWanted) × (new ≡ old)) (λ w. Supplied old w bytes answer new)

pub record Missed (old : MachineState) (wanted : Wanted) (answer : Status) (new : MachineState) : Type 0 where
  pub told : Result Told AllocError
  pub misses : MissesMachine wanted old told new
  pub is : MatchResult told (λ _. answer ≡ status.Done) (λ _. answer ≡ status.NoMemory)

unfoldable pub NoMemoryRule : MachineState → WantedBytes → Status → MachineState → Type 0
NoMemoryRule old wanted answer new =
    MatchOption (wanted_named wanted) ((answer ≡ status.NotWanted) × (new ≡ old)) (λ w. Missed old w answer new)

-- ---- media

abbrev pub refusal_of : MediumError → Status
refusal_of medium.OtherDisk = status.OtherDisk
refusal_of (medium.Answer misfit) = misfit_of misfit

pub record Answered (old : MachineState) (id : MediumId) (given : Answer) (answer : Status) (new : MachineState) : Type 0 where
  pub told : Result (Unit {0}) MediumError
  pub answers : AnswersMachine id given old told new
  pub is : MatchResult told (λ _. answer ≡ status.Done) (λ error. answer ≡ refusal_of error)

unfoldable pub AnswerRule : MachineState → MediumRequest → Answer → Status → MachineState → Type 0
AnswerRule old r given answer new =
    MatchOption (id_named r) ((answer ≡ status.OtherDisk) × (new ≡ old)) (λ id. Answered old id given answer new)

pub record Loads (old : MachineState) (r : MediumRequest) (bytes : List ℕ) (answer : Status) (new : MachineState) : Type 0 where
  pub given : Answer
  pub loaded : IsLoaded given bytes
  pub answers : AnswerRule old r given answer new

abbrev pub LoadedRule : MachineState → MediumRequest → List ℕ → Status → MachineState → Type 0
LoadedRule old r bytes answer new = Loads old r bytes answer new ⊎ ((answer ≡ status.NoMemory) × (new ≡ old))

unfoldable pub FailRule : MachineState → MediumRequest → (error lba : ℕ) → Status → MachineState → Type 0
FailRule old r error lba answer new =
    MatchOption (error_of error) ((answer ≡ status.BadError) × (new ≡ old))
    (λ kind. AnswerRule old r (Failed (record { error = kind; lba = lba })) answer new)

-- the bytes of a store are those of its request, while it is out
abbrev pub StoredRule : MachineState → MediumRequest → (from room : ℕ) → Status → List ℕ → Type 0
StoredRule m r from room answer got =
    MatchOption (id_named r) (answer ≡ status.OtherDisk)
    (λ id. MatchOption (place_named r) (answer ≡ status.OtherKind) (λ place. PieceRule (stored_of m id place) from room answer got))

-- and so are the sectors of a discard
abbrev pub DiscardedRule : MachineState → MediumRequest → (number : ℕ) → Status → SectorRange → Type 0
DiscardedRule m r number answer got =
    MatchOption (id_named r) (answer ≡ status.OtherDisk)
    (λ id. MatchOption (discarded_of m id) (answer ≡ status.NotOut) (λ ranges. RangeRule ranges number answer got))

-- ---- devices of the caller's own

abbrev pub plain_stamp : Stamp
plain_stamp = record { port = 0; conn = 0; number = 0; shown = no_removals }

pub record TakesOut (old : MachineState) (port : ℕ) (answer : Status) (got : List ℕ) (new : MachineState) : Type 0 where
  pub told : Option Stamped
  pub takes : TakesFrame port old told new
  pub is : MatchOption told (answer ≡ status.Nothing) (λ frame. (answer ≡ status.Done) × (got ≡ frame.bytes))

unfoldable pub TakeFrameRule : MachineState → (port room : ℕ) → Status → List ℕ → MachineState → Type 0
TakeFrameRule old port room answer got new =
    MatchBool (nat_lt room 8196) ((answer ≡ status.TooShort) × (new ≡ old)) (TakesOut old port answer got new)

pub record OffersBytes (old : MachineState) (port : ℕ) (bytes : List ℕ) (answer : Status) (new : MachineState) : Type 0 where
  pub told : Result (Unit {0}) Stamped
  pub offers : OffersFrame port (record { bytes = bytes; stamp = plain_stamp }) old told new
  pub is : MatchResult told (λ _. answer ≡ status.Done) (λ _. answer ≡ status.Full)

abbrev pub OfferRule : MachineState → (port : ℕ) → List ℕ → Status → MachineState → Type 0
OfferRule old port bytes status.BadLength new = (is_frame bytes ≡ false) × (new ≡ old)
OfferRule old port bytes status.NoMemory new = (is_frame bytes ≡ true) × (new ≡ old)
OfferRule old port bytes answer new = (is_frame bytes ≡ true) × OffersBytes old port bytes answer new

-- ---- what a call leaves behind a handle

-- a call on the machine behind the handle, by its rule
abbrev pub AtMachine : Option Kept → Status → Option Kept → (MachineState → MachineState → Type 0) → Type 0
AtMachine (Some (kept.Machine old)) answer (Some (kept.Machine new)) rule = rule old new
AtMachine (Some (kept.Machine old)) answer (Some (kept.Pm new)) rule = ⊥
AtMachine (Some (kept.Machine old)) answer (Some (kept.Disk new)) rule = ⊥
AtMachine (Some (kept.Machine old)) answer None rule = ⊥
AtMachine (Some (kept.Pm old)) answer new rule = (answer ≡ status.Closed) × (new ≡ Some (kept.Pm old))
AtMachine (Some (kept.Disk old)) answer new rule = (answer ≡ status.Closed) × (new ≡ Some (kept.Disk old))
AtMachine None answer new rule = (answer ≡ status.Closed) × (new ≡ None)

-- a new machine
abbrev pub HasMachine : (ports port_0_open : ℕ) → Option Kept → Type 0
HasMachine ports port_0_open (Some (kept.Machine m)) = IsOpeningMachine ports (not (port_0_open == 0)) m
HasMachine ports port_0_open (Some (kept.Pm pm)) = ⊥
HasMachine ports port_0_open (Some (kept.Disk disk)) = ⊥
HasMachine ports port_0_open None = ⊥

-- a machine is made behind a closed handle
abbrev pub MadeMachine : Option Kept → (ports port_0_open : ℕ) → Status → Option Kept → Type 0
MadeMachine (Some old) ports port_0_open answer new = (answer ≡ status.Open) × (new ≡ Some old)
MadeMachine None ports port_0_open status.Done new = (ports ≤ 15) × HasMachine ports port_0_open new
MadeMachine None ports port_0_open status.BadPorts new = (ports ≤ 15 → ⊥) × (new ≡ None)
MadeMachine None ports port_0_open status.NoMemory new = (ports ≤ 15) × (new ≡ None)
MadeMachine None ports port_0_open _ new = ⊥

-- the machine is freed
abbrev pub FreedMachine : Option Kept → Status → Option Kept → Type 0
FreedMachine (Some (kept.Machine old)) answer new = (answer ≡ status.Done) × (new ≡ None)
FreedMachine (Some (kept.Pm old)) answer new = (answer ≡ status.Closed) × (new ≡ Some (kept.Pm old))
FreedMachine (Some (kept.Disk old)) answer new = (answer ≡ status.Closed) × (new ≡ Some (kept.Disk old))
FreedMachine None answer new = (answer ≡ status.Closed) × (new ≡ None)
