-- What the caller answers: bytes of its guest (AHCI 1.3.1, 5.3, what a port fetches), and what its media did.
use Rattle.std.specs.{Bool.MatchBool, Prelude.{◌≡◌, ◌||◌, ◌&&◌, ◌==◌, ℕ, nat_lt, Bool, true, false, if◌then◌else◌, List, slice_set, Option, Some}}
use Rattle.std.specs.{Prelude.{None, MatchOption, Result, Ok, MatchResult, IsOk, OnOk, OnErr}, Result.IsErrOf, declared.alloc.AllocError.AllocError}
use Rattle.fis_view.specs.Frames.{Stamped}
use Rattle.pm_ports.specs.declared.port.Offered.{Offered}
use Rattle.block_engine.specs.{Engine.{answer_refusal, answered, discarded_at, stored_at}, declared.request.{Answer.Answer, Range.Range}}
use Rattle.ahci_controller.specs.{Fetching.{AnswersTo, Misses}, States.ControllerState, declared.{feeding.Fed.Fed, issuing.Supply.Supply}}
use Rattle.ahci_controller.specs.declared.issuing.Supply.TheVariants as supply
use Rattle.block_queue.specs.Line.{command_at}
use Rattle.slots.specs.Slots.{match_some}
use Rattle.fan_out.specs.FanOuts.{Offers, wants_at}
use Rattle.sata_disk.specs.State.{DiskState, commands}
use Rattle.ahci_machine.specs.{Acts.{MissesOf, with_gathering}, Bays.with_unit, Gathers.{GatheringState, Supplies, is_asked}, States.MachineState}
use Rattle.ahci_machine.specs.{States.{bay_at, gathering_at}, declared.{answers.{MediumError.MediumError, Told.Told}, bay.Bay.Bay}}
use Rattle.ahci_machine.specs.declared.{bay.Unit.{Unit as Inside, TheVariants.{Disk, Own}}, request.{MediumId.MediumId, Wanted.Wanted}}
use Rattle.ahci_machine.specs.declared.request.Wanted.TheVariants.{Command, Data}
use Rattle.ahci_machine.specs.declared.answers.MediumError.TheVariants as medium
use Rattle.ahci_machine.specs.declared.answers.Told.TheVariants as told

-- ---- bytes of the guest

abbrev pub supply_message : Supply → Bool
supply_message (supply.NotTaken why message line) = message
supply_message other = false

-- what it says of the command of a slot; where memory was refused, the same bytes are wanted again
abbrev pub told_by : (slot : ℕ) → Supply → Option Told
told_by slot supply.Stale = Some told.Stale
told_by slot supply.More = Some told.Kept
told_by slot (supply.Issued dev) = Some (told.Issued slot dev)
told_by slot (supply.NotTaken why message line) = Some (told.NotTaken slot why)
told_by slot supply.OutOfMemory = None

abbrev pub IsToldBy : (slot : ℕ) → Supply → Result Told AllocError → Type 0
IsToldBy slot answer result = MatchResult result (λ it. told_by slot answer ≡ Some it) (λ _. told_by slot answer ≡ None)

-- bytes of the command of a slot
pub record Fetches (Rule : ControllerState → Supply → ControllerState → Type 0) (slot : ℕ) (old : MachineState)
    (result : Result Told AllocError) (new : MachineState) : Type 0 where
  pub answer : Supply
  pub rule : Rule old.controller answer new.controller
  pub rest : new ≡ record old { controller = new.controller; message = old.message || supply_message answer }
  pub is : IsToldBy slot answer result

-- bytes of a Data FIS
abbrev pub told_of : (kept : Bool) → Told
told_of kept = if kept then told.Kept else told.Stale

pub record SuppliesData (g : GatheringState) (dev number done : ℕ) (bytes : List ℕ) (old : MachineState) (it : Told) (new : MachineState)
    : Type 0 where
  pub after : GatheringState
  pub kept : Bool
  pub supplies : Supplies g number done bytes kept after
  pub is : it ≡ told_of kept
  pub rest : new ≡ with_gathering old dev (Some after)

-- nothing of the kind is wanted
abbrev pub IsStale : MachineState → Told → MachineState → Type 0
IsStale old it new = (it ≡ told.Stale) × (new ≡ old)

abbrev pub SuppliesMachine : Wanted → List ℕ → MachineState → Result Told AllocError → MachineState → Type 0
SuppliesMachine (Command slot number) bytes old result new =
    Fetches (λ before answer after. AnswersTo before slot number bytes answer after) slot old result new
SuppliesMachine (Data dev number done) bytes old result new =
    MatchResult result
    (λ it. MatchBool (nat_lt dev 16)
    (MatchOption (gathering_at old dev) (IsStale old it new) (λ g. SuppliesData g dev number done bytes old it new))
    (IsStale old it new))
    (λ _. ⊥)

-- whether bytes of it were asked for, and have not come
abbrev pub is_wanted : MachineState → (dev number done : ℕ) → Bool
is_wanted m dev number done = nat_lt dev 16 && match_some (gathering_at m dev) false (λ g. is_asked g number done)

pub record MissesFor (g : GatheringState) (dev : ℕ) (old : MachineState) (it : Told) (new : MachineState) : Type 0 where
  pub answer : Fed
  pub misses : MissesOf g.feed answer (with_gathering old dev None) new
  pub is : it ≡ told.Missed g.feed.slot answer

-- they are no memory
abbrev pub MissesMachine : Wanted → MachineState → Result Told AllocError → MachineState → Type 0
MissesMachine (Command slot number) old result new =
    Fetches (λ before answer after. Misses before slot number answer after) slot old result new
MissesMachine (Data dev number done) old result new =
    MatchResult result
    (λ it. MatchBool (is_wanted old dev number done)
    (MatchOption (gathering_at old dev) ⊥ (λ g. MissesFor g dev old it new))
    (IsStale old it new))
    (λ _. ⊥)

-- ---- media

-- the disk that asked, if it is there still
abbrev pub disk_in : Inside → Option DiskState
disk_in (Disk d) = Some d
disk_in other = None

abbrev pub disk_at : MachineState → MediumId → Option DiskState
disk_at m id = if (bay_at m id.port).disk == id.disk then disk_in (bay_at m id.port).unit else None

-- a disk holds these bytes for the command of a place
abbrev pub Holds : MachineState → MediumId → (place : ℕ) → List ℕ → Type 0
Holds m id place bytes = MatchOption (disk_at m id) ⊥ (λ d. MatchOption (command_at (commands d) place) ⊥ (λ c. bytes ≡ c.bytes))

-- the bytes of the store that is out of the command of a place under the number of this request; of any other request there are none
abbrev pub stored_of : MachineState → MediumId → (place : ℕ) → Option (List ℕ)
stored_of m id place = match_some (disk_at m id) None (λ d. stored_at d.engine place id.number)

-- and the sectors of the discard that is
abbrev pub discarded_of : MachineState → MediumId → Option (List Range)
discarded_of m id = match_some (disk_at m id) None (λ d. discarded_at d.engine id.number)

-- it takes the answer by its own rule
pub record AnswersDisk (id : MediumId) (answer : Answer) (d : DiskState) (old : MachineState) (result : Result (Unit {0}) MediumError)
    (new : MachineState) : Type 0 where
  pub is : MatchOption (answer_refusal d.engine id.number answer) (IsOk result) (λ error. IsErrOf result (medium.Answer error))
  pub ok : OnOk result (new ≡ record old {
    bays = slice_set old.bays id.port (with_unit (bay_at old id.port)
        (Disk (record d { engine = answered d.engine id.number answer })));
  })
  pub err : OnErr result (new ≡ old)

abbrev pub AnswersMachine : MediumId → Answer → MachineState → Result (Unit {0}) MediumError → MachineState → Type 0
AnswersMachine id answer old result new =
    MatchOption (disk_at old id) (IsErrOf result medium.OtherDisk × (new ≡ old)) (λ d. AnswersDisk id answer d old result new)

-- ---- devices of the caller's own

abbrev pub given_in : Inside → Option Stamped → Option Stamped
given_in Own down = down
given_in other down = None

-- the FIS that is there for it, which is there no more
abbrev pub taken_bay : Bay → Bay
taken_bay b = record { unit = b.unit; disk = b.disk; down = None; told = false }

abbrev pub is_own : Inside → Bool
is_own Own = true
is_own other = false

pub record TakesFrame (port : ℕ) (old : MachineState) (result : Option Stamped) (new : MachineState) : Type 0 where
  pub is : result ≡ given_in (bay_at old port).unit (bay_at old port).down
  pub rest : new ≡ (if is_own (bay_at old port).unit then record old { bays = slice_set old.bays port (taken_bay (bay_at old port)) } else old)

-- a FIS of it goes where there is room, and is given back where there is none, or no such device
pub record OffersFrame (port : ℕ) (frame : Stamped) (old : MachineState) (result : Result (Unit {0}) Stamped) (new : MachineState)
    : Type 0 where
  pub back : MatchResult result (λ _. (offered : Offered) × Offers old.fan port frame (Ok offered) new.fan)
      (λ given. (given ≡ frame) × (new ≡ old))
  pub own : MatchResult result (λ _. (is_own (bay_at old port).unit ≡ true) × (wants_at old.fan port ≡ true))
      (λ _. (is_own (bay_at old port).unit && wants_at old.fan port) ≡ false)
  pub rest : new ≡ record old { fan = new.fan }
