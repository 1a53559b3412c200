-- What a disk sends, with the slot from which its command came (AHCI 1.3.1, 5.3; Serial ATA 3.x, 10.5, Data and Set Device Bits, and 13.6).
use Rattle.std.specs.Prelude.{◌≡◌, ◌<◌, ℕ, Bool, true, false, List, ◌∷◌, ◌++◌, Some}
use Rattle.fis_view.specs.Frames.{Stamped}
use Rattle.block_command.specs.Laws.{IsEarned}
use Rattle.block_disk.specs.Laws.{Page}
use Rattle.block_queue.specs.Line.{command_at, has_bit}
use Rattle.slots.specs.Slots.{has_bit as is_named}
use Rattle.fan_out.specs.declared.fan_out.FanOut.{FanOut}
use Rattle.ahci_registers.specs.declared.register.Register.TheVariants.{PxSact}
use Rattle.ahci_controller.specs.{Reading.shown, declared.taking.Took.Took}
use Rattle.guest_fetch.specs.declared.moves.Move.{Move}
use Rattle.ahci_controller.specs.declared.next.Next.TheVariants as next
use Rattle.disk_pages.specs.declared.profile.Profile.{Profile}
use Rattle.sata_disk.specs.{Sending.part_at, State.{DiskState, commands, new_disk}}
use Rattle.sata_disk.specs.declared.out.Out.TheVariants as out
use Rattle.sata_disk_books.specs.Books.{AreNext, page_in}
use Rattle.ahci_machine.specs.{Registers.lent_bytes, States.{HasRules, IsOpeningMachine, MachineState, bay_at}, declared.bay.Unit.TheVariants.Disk}
use Rattle.ahci_machine.specs.declared.act.Act.TheVariants as act
use Rattle.machine_laws.specs.{ControllerLaws.RunsRuled, Deeds.{Deed, Does, Moved}, Heard.{HasLived, life_in, no_life}}
use Rattle.machine_theorem.specs.{Commands.IsOfSlot, Ends.{IsEndBy, IsEndIn, IsEnded}, Origins.{IsSentBy, IsSentIn}, Parts.IsBrought}

-- ---- a moment of a run

-- These deeds led to a machine, then this one, of which it holds, and then came the others.
pub record Moment (old : MachineState) (deeds : List Deed) (Holds : (at : MachineState) → (deed : Deed) → (new : MachineState) → Does at deed new → Type 0) : Type 0 where
  pub before : List Deed
  pub at : MachineState
  pub first : RunsRuled old before at
  pub deed : Deed
  pub new : MachineState
  pub does : Does at deed new
  pub later : List Deed
  pub is : deeds ≡ before ++ deed ∷ later
  pub holds : Holds at deed new does

-- what is sent by a run is sent at one
abbrev pub SentAtMoments : Type 0
SentAtMoments = (f : Stamped) (old : MachineState) (deeds : List Deed) (now : MachineState) (run : RunsRuled old deeds now)
    → IsSentIn f old deeds now run → Moment old deeds (IsSentBy f)

abbrev pub EndedAtMoments : Type 0
EndedAtMoments = (f : Stamped) (tag : ℕ) (old : MachineState) (deeds : List Deed) (now : MachineState) (run : RunsRuled old deeds now)
    → IsEndIn f tag old deeds now run → Moment old deeds (IsEndBy f tag)

-- ---- what a disk sends

-- The books of the disk at a port have a command at this place, of which this holds; and it came from a slot, if the disk was new as it was put
-- there.
pub record HasCommand (old : MachineState) (deeds : List Deed) (now : MachineState) (run : RunsRuled old deeds now) (n place : ℕ) (Holds : Page → Type 0) (p : Profile)
    (limit : ℕ) : Type 0 where
  pub page : Page
  pub is : page_in p limit (life_in n no_life old deeds now run).calls place ≡ Some page
  pub holds : Holds page
  pub command : IsOfSlot old deeds now run n p limit (life_in n no_life old deeds now run).calls page.command

pub record OfNewDisk (old : MachineState) (deeds : List Deed) (now : MachineState) (run : RunsRuled old deeds now) (n place : ℕ) (Holds : DiskState → Page → Type 0)
    : Type 0 where
  pub disk : DiskState
  pub there : (bay_at now n).unit ≡ Disk disk
  pub lived : HasLived (life_in n no_life old deeds now run) disk
  pub new : (p : Profile) (limit : ℕ) → lived.disk ≡ new_disk p limit → HasCommand old deeds now run n place (Holds disk) p limit

-- the next bytes that the caller gave for its sectors are the Data of this place
abbrev pub GivesNext : ℕ → DiskState → Page → Type 0
GivesNext place d page = AreNext page.ledger (part_at (command_at (commands d) place))

-- Data of a disk are the next bytes that the caller gave for the sectors of a command, and this command came from a slot.
abbrev pub DataAreOfSlots : Type 0
DataAreOfSlots = (ports : ℕ) (legacy : Bool) (old : MachineState) → IsOpeningMachine ports legacy old
    → (deeds : List Deed) (now : MachineState) (run : RunsRuled old deeds now) (n place len : ℕ) (new : MachineState)
    → Does now (Moved (act.Speaks n (out.Data place len))) new → OfNewDisk old deeds now run n place (GivesNext place)

abbrev pub Earns : DiskState → Page → Type 0
Earns d page = IsEarned page.command page.ledger page.command.write

-- A command of which a disk says that it ended well has earned that, and came from a slot.
abbrev pub EndsAreOfSlots : Type 0
EndsAreOfSlots = (ports : ℕ) (legacy : Bool) (old : MachineState) → IsOpeningMachine ports legacy old
    → (deeds : List Deed) (now : MachineState) (run : RunsRuled old deeds now) (n tags : ℕ) (new : MachineState)
    → Does now (Moved (act.Speaks n (out.Ends tags))) new → (tag : ℕ) → tag < 32 → has_bit tags tag ≡ true
    → OfNewDisk old deeds now run n tag Earns

-- ---- the payload that is written to the guest

-- what a device sends by a deed is of a command from a slot, if a disk sends it that was new, and it is no page of its own
abbrev pub IsOfSlots : (old : MachineState) → (deeds : List Deed) → (now : MachineState) → RunsRuled old deeds now → Deed → Type 0
IsOfSlots old deeds now run (Moved (act.Speaks n (out.Data place len))) = OfNewDisk old deeds now run n place (GivesNext place)
IsOfSlots old deeds now run deed = Unit {0}

pub record IsBroughtFor (old : MachineState) (deeds : List Deed) (now : MachineState) (run : RunsRuled old deeds now) (m : Move) (bytes : List ℕ) : Type 0 where
  pub brought : IsBrought old deeds now run m bytes
  -- when its FIS was sent
  pub sent : Moment old deeds (IsSentBy brought.fis)
  pub command : IsOfSlots old sent.before sent.at sent.first sent.deed

-- What the caller is told to write to the guest as payload are bytes that were given for the sectors of a command which the guest had in a slot.
abbrev pub PayloadIsOfSlots : Type 0
PayloadIsOfSlots = (ports : ℕ) (legacy : Bool) (old : MachineState) → IsOpeningMachine ports legacy old
    → (deeds : List Deed) (now : MachineState) (run : RunsRuled old deeds now) (m : Move) (new : MachineState)
    → Does now (Moved (act.Writes (next.Payload m))) new → IsBroughtFor old deeds now run m (lent_bytes new)

-- ---- the ends that the guest sees

-- what says by a deed that a queued command ended well: if a disk says so that was new, its command of this tag has earned that, and came from a slot
abbrev pub IsEndOfSlot : (old : MachineState) → (deeds : List Deed) → (now : MachineState) → RunsRuled old deeds now → Deed → (tag : ℕ) → Type 0
IsEndOfSlot old deeds now run (Moved (act.Speaks n out)) tag = OfNewDisk old deeds now run n tag Earns
IsEndOfSlot old deeds now run deed tag = Unit {0}

pub record IsEndedFor (old : MachineState) (deeds : List Deed) (now : MachineState) (run : RunsRuled old deeds now) (end : FanOut) (fis : Stamped) (slot : ℕ) : Type 0 where
  pub ended : IsEnded old deeds now run end fis slot
  -- when its FIS was sent
  pub sent : Moment old deeds (IsEndBy fis slot)
  pub command : IsEndOfSlot old sent.before sent.at sent.first sent.deed slot

-- Where a bit of PxSACT falls as a FIS is taken, the device that owns the slot sent it at a moment of the run; a disk's command of this tag had
-- earned its end then, and had come from a slot.
abbrev pub CompletionsAreEarned : Type 0
CompletionsAreEarned = (ports : ℕ) (legacy : Bool) (old : MachineState) → IsOpeningMachine ports legacy old
    → (deeds : List Deed) (now : MachineState) (run : RunsRuled old deeds now) (took : Took) (new : MachineState)
    → (does : Does now (Moved (act.Takes took)) new) → HasRules new → (slot : ℕ) → slot < 32
    → is_named (shown PxSact now.controller) slot ≡ true → is_named (shown PxSact new.controller) slot ≡ false
    → IsEndedFor old deeds now run new.fan does.does.frame slot
