-- A write of the guest: the bytes that the caller is asked to store are those of Data FISes that went with what it had supplied for
-- them, and the write ends well only once these were stored (AHCI 1.3.1, 5.3 and 9.3, what a port sends, and 3.3.14, PxCI; Serial ATA
-- 3.x, 10.5, Data and Register Device to Host, and 13.6, native command queuing).
use Rattle.std.specs.{Prelude.{◌≡◌, ◌<◌, ◌*◌, ℕ, Bool, true, false, List, [], ◌∷◌, ◌++◌, drop, length, slice_index, Some}, List.All}
use Rattle.fis_view.specs.Frames.{Stamped}
use Rattle.slots.specs.Slots.{has_bit as is_named}
use Rattle.fan_out.specs.declared.fan_out.FanOut.{FanOut}
use Rattle.ahci_registers.specs.declared.register.Register.TheVariants.{PxCi, PxSact}
use Rattle.hba_fbs.specs.Taking.{port_of}
use Rattle.ahci_controller.specs.{Reading.shown, declared.taking.Took.Took}
use Rattle.block_command.specs.Laws.{AskedStore}
use Rattle.block_disk.specs.Laws.{Page}
use Rattle.block_engine.specs.declared.request.Request.{Request}
use Rattle.block_engine.specs.declared.request.What.TheVariants as what
use Rattle.block_queue.specs.Line.{has_bit}
use Rattle.ata_reply.specs.declared.reply.Reply.TheVariants as replies
use Rattle.disk_pages.specs.declared.profile.Profile.{Profile}
use Rattle.sata_disk.specs.State.{DiskState, new_disk}
use Rattle.sata_disk.specs.declared.out.Out.TheVariants as out
use Rattle.sata_disk_laws.specs.{Calls.{Call, Hears}, Stores.IsWhatCame}
use Rattle.ahci_machine.specs.{Answers.Holds, States.{HasRules, IsOpeningMachine, MachineState, bay_at}, declared.bay.Unit.TheVariants.Disk}
use Rattle.ahci_machine.specs.declared.request.MediumId.{MediumId}
use Rattle.ahci_machine.specs.declared.act.Act.TheVariants as act
use Rattle.machine_laws.specs.{ControllerLaws.RunsRuled, Deeds.{Deed, Does, Moved}, Heard.{AllHeard, HasLived, life_in, no_life}}
use Rattle.machine_laws.specs.Rising.{is_multiplier}
use Rattle.machine_theorem.specs.{Completed.{IsCompletedBy, IsFisBy}, Ends.{IsEndBy, IsEnded}, Guest.IsFed, Moments.{Earns, HasCommand, Moment}}

-- ---- the Data of the guest

-- A Data FIS of these bytes, which was heard at a port, has what was supplied for it. Behind a multiplier it was for the device there.
pub record IsSuppliedData (old : MachineState) (deeds : List Deed) (now : MachineState) (run : RunsRuled old deeds now) (n : ℕ) (fis : List ℕ) : Type 0 where
  pub dev : ℕ
  pub fed : IsFed old deeds dev (drop 4 fis)
  pub port : is_multiplier now.fan ≡ true → dev ≡ n

-- So has each that a disk heard since it was put at its port, over every run from a machine that opens: the FIS of a command has another type.
abbrev pub DataAreSupplied : Type 0
DataAreSupplied = (ports : ℕ) (legacy : Bool) (old : MachineState) → IsOpeningMachine ports legacy old
    → (deeds : List Deed) (now : MachineState) (run : RunsRuled old deeds now) (n : ℕ)
    → AllHeard (λ fis. slice_index fis 0 ≡ 0x46 → IsSuppliedData old deeds now run n fis) (life_in n no_life old deeds now run).calls

-- ---- what came for a command

-- A FIS of these bytes is heard by these calls, and this holds of the calls behind it.
pub record IsHeardThen (fis : List ℕ) (calls : List Call) (After : List Call → Type 0) : Type 0 where
  pub before : List Call
  pub later : List Call
  pub is : calls ≡ before ++ Hears fis ∷ later
  pub after : After later

-- FISes of these bytes are heard by these calls, in this order.
abbrev pub AreHeard : List (List ℕ) → List Call → Type 0
AreHeard [] calls = Unit {0}
AreHeard (fis ∷ rest) calls = IsHeardThen fis calls (λ later. AreHeard rest later)

-- their payload, one behind the other
abbrev pub payloads : List (List ℕ) → List ℕ
payloads [] = []
payloads (fis ∷ rest) = drop 4 fis ++ payloads rest

-- The bytes are the payload of Data FISes that were heard by these calls, in order, and each of them has what was supplied for it.
pub record AreSupplied (old : MachineState) (deeds : List Deed) (now : MachineState) (run : RunsRuled old deeds now) (n : ℕ) (calls : List Call) (bytes : List ℕ)
    : Type 0 where
  pub fises : List (List ℕ)
  pub heard : AreHeard fises calls
  pub each : All (IsSuppliedData old deeds now run n) fises
  pub is : bytes ≡ payloads fises

-- The books of the disk at a port have a command from a slot at this place, of which this holds. All Data that came for it are such, and were heard
-- behind the FIS that asked for it.
pub record HasSupplied (old : MachineState) (deeds : List Deed) (now : MachineState) (run : RunsRuled old deeds now) (n place : ℕ) (Holds : Page → Type 0) (p : Profile)
    (limit : ℕ) : Type 0 where
  pub has : HasCommand old deeds now run n place Holds p limit
  pub came : AreSupplied old deeds now run n has.command.asked.later has.page.ledger.came

-- So it is if the disk was new as it was put there.
pub record SuppliedToNewDisk (old : MachineState) (deeds : List Deed) (now : MachineState) (run : RunsRuled old deeds now) (n place : ℕ)
    (Holds : DiskState → Page → Type 0) : Type 0 where
  pub disk : DiskState
  pub there : (bay_at now n).unit ≡ Disk disk
  pub lived : HasLived (life_in n no_life old deeds now run) disk
  pub new : (p : Profile) (limit : ℕ) → lived.disk ≡ new_disk p limit → HasSupplied old deeds now run n place (Holds disk) p limit

-- ---- what the caller is asked to store

-- All that came for the command is what was stored before, and these bytes behind it; they are those of so many sectors behind the ones stored before.
pub record StoresNext (lba count : ℕ) (bytes : List ℕ) (d : DiskState) (page : Page) : Type 0 where
  pub next : IsWhatCame page.command page.ledger (AskedStore lba bytes)
  pub whole : length bytes ≡ count * 512

-- The caller is asked to store the bytes that the machine holds for the command of a place, at these sectors.
pub record IsStore (old : MachineState) (deeds : List Deed) (now : MachineState) (run : RunsRuled old deeds now) (id : MediumId) (asked : Request) (lba count : ℕ)
    (new : MachineState) : Type 0 where
  pub place : ℕ
  pub is : asked.place ≡ Some place
  pub bytes : List ℕ
  pub held : Holds new id place bytes
  pub supplied : SuppliedToNewDisk old deeds now run id.port place (StoresNext lba count bytes)

-- Each store that a disk asks for is one, over every run from a machine that opens, whatever its guest, its devices and its media do.
abbrev pub StoresAreOfGuests : Type 0
StoresAreOfGuests = (ports : ℕ) (legacy : Bool) (old : MachineState) → IsOpeningMachine ports legacy old
    → (deeds : List Deed) (now : MachineState) (run : RunsRuled old deeds now) (id : MediumId) (asked : Request) (new : MachineState)
    → Does now (Moved (act.Asks id asked)) new → (lba count : ℕ) → asked.what ≡ what.Store lba count → IsStore old deeds now run id asked lba count new

-- ---- the ends of queued writes

-- A command of which a disk says that it ended well has earned that: if it is a write, what came for it was stored, and flushed where it is to last.
-- And what came was supplied.
abbrev pub WritesAreSupplied : Type 0
WritesAreSupplied = (ports : ℕ) (legacy : Bool) (old : MachineState) → IsOpeningMachine ports legacy old
    → (deeds : List Deed) (now : MachineState) (run : RunsRuled old deeds now) (n tags : ℕ) (new : MachineState)
    → Does now (Moved (act.Speaks n (out.Ends tags))) new → (tag : ℕ) → tag < 32 → has_bit tags tag ≡ true
    → SuppliedToNewDisk old deeds now run n tag Earns

-- what says by a deed that a queued command ended well: so it is if a disk says so that was new
abbrev pub IsSuppliedEnd : (old : MachineState) → (deeds : List Deed) → (now : MachineState) → RunsRuled old deeds now → Deed → (tag : ℕ) → Type 0
IsSuppliedEnd old deeds now run (Moved (act.Speaks n out)) tag = SuppliedToNewDisk old deeds now run n tag Earns
IsSuppliedEnd old deeds now run deed tag = Unit {0}

pub record IsEndedSupplied (old : MachineState) (deeds : List Deed) (now : MachineState) (run : RunsRuled old deeds now) (end : FanOut) (fis : Stamped) (slot : ℕ)
    : Type 0 where
  pub ended : IsEnded old deeds now run end fis slot
  -- when its FIS was sent
  pub sent : Moment old deeds (IsEndBy fis slot)
  pub command : IsSuppliedEnd old sent.before sent.at sent.first sent.deed slot

-- So it is where a bit of PxSACT falls as a FIS is taken: what a write stored whose bit falls was supplied.
abbrev pub CompletionsAreSupplied : Type 0
CompletionsAreSupplied = (ports : ℕ) (legacy : Bool) (old : MachineState) → IsOpeningMachine ports legacy old
    → (deeds : List Deed) (now : MachineState) (run : RunsRuled old deeds now) (took : Took) (new : MachineState)
    → (does : Does now (Moved (act.Takes took)) new) → HasRules new → (slot : ℕ) → slot < 32
    → is_named (shown PxSact now.controller) slot ≡ true → is_named (shown PxSact new.controller) slot ≡ false
    → IsEndedSupplied old deeds now run new.fan does.does.frame slot

-- ---- the ends of writes that are not queued

-- A command that is not queued and moves sectors, by DMA or PIO, and of which a disk says by a Register FIS that it ended well, has
-- earned that: if it is a write, what came for it was stored, and flushed where it is to last. And what came was supplied.
abbrev pub DoneWritesAreSupplied : Type 0
DoneWritesAreSupplied = (ports : ℕ) (legacy : Bool) (old : MachineState) → IsOpeningMachine ports legacy old
    → (deeds : List Deed) (now : MachineState) (run : RunsRuled old deeds now) (n place : ℕ) (new : MachineState)
    → Does now (Moved (act.Speaks n (out.Of place replies.Done))) new → SuppliedToNewDisk old deeds now run n place Earns

-- what sends a FIS by a deed: so it is if a disk says Done that was new as it was put there; of any other FIS nothing is said
abbrev pub IsSuppliedDone : (old : MachineState) → (deeds : List Deed) → (now : MachineState) → RunsRuled old deeds now → Deed → Type 0
IsSuppliedDone old deeds now run (Moved (act.Speaks n (out.Of place replies.Done))) = SuppliedToNewDisk old deeds now run n place Earns
IsSuppliedDone old deeds now run deed = Unit {0}

-- A device sent this FIS at a moment of the run. If it is such a disk, and said Done by it, what came for the command of which it said
-- so was supplied.
pub record IsSentSupplied (old : MachineState) (deeds : List Deed) (fis : Stamped) : Type 0 where
  pub sent : Moment old deeds (IsFisBy fis)
  pub done : IsSuppliedDone old sent.before sent.at sent.first sent.deed

pub record IsFallenSupplied (old : MachineState) (deeds : List Deed) (now : MachineState) (run : RunsRuled old deeds now) (end : FanOut) (fis : Stamped) (slot : ℕ)
    : Type 0 where
  pub completed : IsCompletedBy old deeds now run end fis slot
  -- unless it is of the control port
  pub sent : (is_multiplier end ≡ true → port_of fis.bytes < 15) → IsSentSupplied old deeds fis

-- So it is where a bit of PxCI falls as a FIS is taken, and PxSACT does not show the slot: what the write stored of which a disk said
-- Done by this FIS was supplied.
abbrev pub FallsAreSupplied : Type 0
FallsAreSupplied = (ports : ℕ) (legacy : Bool) (old : MachineState) → IsOpeningMachine ports legacy old
    → (deeds : List Deed) (now : MachineState) (run : RunsRuled old deeds now) (took : Took) (new : MachineState)
    → (does : Does now (Moved (act.Takes took)) new) → HasRules new → (slot : ℕ) → slot < 32
    → is_named (shown PxCi now.controller) slot ≡ true → is_named (shown PxCi new.controller) slot ≡ false
    → is_named (shown PxSact new.controller) slot ≡ false → IsFallenSupplied old deeds now run new.fan does.does.frame slot
