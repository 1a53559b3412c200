-- The command that a disk has under a tag is the one that stands in the slot of this number (AHCI 1.3.1, 5.3 and 9.3; Serial ATA 3.x, 13.6,
-- native command queuing). So it is over each stretch of a run that begins at rest and in which the guest keeps to the standard: the tag of a queued
-- command is the number of its slot, no write takes a command out of its slot, and no link goes.
use Rattle.std.specs.Prelude.{ℕ, ◌≡◌, ◌<◌, ◌==◌, ◌||◌, Bool, true, false, not, List, [], ◌∷◌, ◌++◌, map, Some, Result, Ok, if◌then◌else◌}
use Rattle.std.specs.List.{flat_map}
use Rattle.fis_view.specs.{Frames.{Stamped, marked}, Seen.seen, Table.{Bits, SActive, field}, declared.view.{Fis.Fis, FisFault.FisFault}}
use Rattle.fis_view.specs.declared.view.Fis.TheVariants as view
use Rattle.multiplier.specs.State.{pm_port}
use Rattle.slots.specs.Slots.{has_bit}
use Rattle.block_command.specs.{declared.command.Command.Command, Moments.Moment}
use Rattle.block_disk.specs.Table.{is_under_way}
use Rattle.block_queue.specs.Line.{command_at}
use Rattle.ahci_controller.specs.States.{ControllerState}
use Rattle.ahci_controller.specs.declared.next.Next.TheVariants as next
use Rattle.controller_laws.specs.Events as call
use Rattle.controller_laws.specs.Events.{Event}
use Rattle.disk_pages.specs.declared.profile.Profile.{Profile}
use Rattle.sata_disk.specs.State.{DiskState, commands, is_taken, new_disk}
use Rattle.sata_disk_books.specs.Books.{IsAskedFor}
use Rattle.sata_disk_laws.specs.{Calls.{AreCalls, Call}, Laws.reached}
use Rattle.ahci_machine.specs.{Gathers.host_stamp, States.{IsOpeningMachine, MachineState, bay_at}, declared.bay.Unit.TheVariants.Disk}
use Rattle.machine_laws.specs.{ControllerLaws.{RunsRuled, calls_in}, Controllers.deed_calls, Deeds.{Deed, Put, Removed, Wrote}, Disks.calls_at}
use Rattle.machine_laws.specs.{Falling.{AllLast, HasLink, heard_by, leaving, sent_in, way_to}, Rising.{is_multiplier, on_way}}
use Rattle.machine_theorem.specs.{Orders.{is_fallen, is_ordered, standing_in}, Tags.asks_with}

-- ---- one device

-- the device at a port, if there are many; else each is the one that is there
abbrev pub own_of : (many : Bool) → (n : ℕ) → ℕ → Bool
own_of many n dev = not many || (dev == n)

-- a FIS is for it, and asks for a queued command with the tag, as a device hears it
abbrev pub is_for : (many : Bool) → (n : ℕ) → Stamped → Bool
is_for many n f = not many || (pm_port f == n)

abbrev pub asks_of : (tag : ℕ) → List ℕ → Bool
asks_of tag bytes = asks_with tag (seen bytes)

-- those that pass a test, in order
abbrev pub picks : {A : Type 0} → (A → Bool) → List A → List A
picks p [] = []
picks p (x ∷ xs) = if p x then x ∷ picks p xs else picks p xs

-- as a device hears it
abbrev pub heard_as : Stamped → List ℕ
heard_as f = marked f.bytes 0

-- those of some FISes that ask the disk for the tag, as it hears them
abbrev pub asked_of : (many : Bool) → (n tag : ℕ) → List Stamped → List (List ℕ)
asked_of many n tag frames = picks (asks_of tag) (map heard_as (picks (is_for many n) frames))

-- a Set Device Bits FIS names the tag
abbrev pub names_in : (tag : ℕ) → Result Fis FisFault → Bool
names_in tag (Ok (view.SetBits f)) = has_bit (field Bits SActive f) tag
names_in tag other = false

abbrev pub NamesNo : (tag : ℕ) → Stamped → Type 0
NamesNo tag f = names_in tag (seen f.bytes) ≡ false

abbrev pub NoneNamed : (tag : ℕ) → List Stamped → Type 0
NoneNamed tag [] = Unit {0}
NoneNamed tag (f ∷ later) = NamesNo tag f × NoneNamed tag later

-- ---- the beginning of a stretch

-- A disk is at a port, and has no command under the tag; no FIS is on the controller's link down, for whichever device, and none waits for the disk. No FIS
-- of this port that names the tag is on its way to the controller, of whatever connection, and no queued command that was sent to the disk stands in the slot
-- of this number. Whatever was before.
pub record IsAtRest (many : Bool) (n tag : ℕ) (old : MachineState) (before : List Deed) (at : MachineState) (first : RunsRuled old before at) : Type 0 where
  pub disk : DiskState
  pub there : (bay_at at n).unit ≡ Disk disk
  pub free : is_taken (commands disk) tag ≡ false
  pub leaving : leaving at ≡ []
  pub down : way_to at n ≡ []
  pub up : (c : ℕ) → NoneNamed tag (on_way n c at)
  pub slot : standing_in (own_of many n) tag at.controller ≡ 0

-- ---- what the guest keeps to, and what stays as it is

-- nothing is put at the port or taken from it
abbrev pub is_left : ℕ → Deed → Bool
is_left n (Put k unit told) = not (k == n)
is_left n (Removed k told) = not (k == n)
is_left n deed = true

-- a FIS that asks the disk for a queued command with the tag is that of a queued command in the slot of this number
abbrev pub IsTagged : (many : Bool) → (n tag : ℕ) → ControllerState → List Event → Type 0
IsTagged many n tag c (call.Turned (next.Order dev slot fis) ∷ more) = is_for many n (record { bytes = fis; stamp = host_stamp dev }) ≡ true
    → asks_of tag (marked fis 0) ≡ true → is_ordered (own_of many n) tag c (call.Turned (next.Order dev slot fis)) ≡ true
IsTagged many n tag c events = Unit {0}

-- a write takes no bit of such a slot out of PxSACT
abbrev pub Spares : (many : Bool) → (n tag : ℕ) → ControllerState → Deed → ControllerState → Type 0
Spares many n tag old (Wrote offset width value written) new = is_fallen (own_of many n) tag old new ≡ false
Spares many n tag old deed new = Unit {0}

-- there is a multiplier, or the port is the one that is there without
pub record IsThere (many : Bool) (n : ℕ) (m : MachineState) : Type 0 where
  pub fan : is_multiplier m.fan ≡ many
  pub one : many ≡ false → n ≡ 0

pub record Keeps (many : Bool) (n tag : ℕ) (old : MachineState) (deed : Deed) (new : MachineState) (events : List Event) : Type 0 where
  pub end : IsThere many n old
  pub left : is_left n deed ≡ true
  pub tagged : IsTagged many n tag old.controller events
  pub spares : Spares many n tag old.controller deed new.controller

abbrev pub AllKeep : (many : Bool) → (n tag : ℕ) → (old : MachineState) → (deeds : List Deed) → (now : MachineState) → RunsRuled old deeds now → Type 0
AllKeep many n tag old [] now run = IsThere many n old
AllKeep many n tag old (deed ∷ later) now run =
    Keeps many n tag old deed run.1.0 (deed_calls old deed run.1.0 run.1.1) × AllKeep many n tag run.1.0 later now run.1.2

-- the disk's calls by these deeds
abbrev pub calls_of : ℕ → (old : MachineState) → (deeds : List Deed) → (now : MachineState) → RunsRuled old deeds now → List Call
calls_of n old [] now run = []
calls_of n old (deed ∷ later) now run = calls_at old deed n ++ calls_of n run.1.0 later now run.1.2

-- ---- the command under the tag

-- A disk that some calls of a new one led to, and then those of the stretch, has this command.
pub record IsTheSlots (many : Bool) (n tag : ℕ) (at : MachineState) (deeds : List Deed) (now : MachineState) (run : RunsRuled at deeds now) (p : Profile) (limit : ℕ)
    (base : List Call) (c : Command) : Type 0 where
  -- A queued command for the disk stands in the slot of this number, and was sent.
  pub stands : standing_in (own_of many n) tag now.controller ≡ 1
  -- Of the FISes that the controller sent in the stretch the disk heard each that asks it for the tag, in order.
  pub heard : picks (asks_of tag) (flat_map heard_by (calls_of n at deeds now run)) ≡ asked_of many n tag (sent_in (calls_in at deeds now run))
  -- Its command is what the last of them asks for: the one that was sent last from the slot.
  pub asked : IsAskedFor p limit (base ++ calls_of n at deeds now run) c
  pub front : List (List ℕ)
  pub last : asked_of many n tag (sent_in (calls_in at deeds now run)) ≡ front ++ asked.bytes ∷ []

-- ---- the law

-- So it is of each command under way at the disk, at the end of each such stretch of a run from a machine that opens.
abbrev pub CommandsAreTheSlots : Type 0
CommandsAreTheSlots = (ports : ℕ) (legacy : Bool) (old : MachineState) → IsOpeningMachine ports legacy old
    → (before : List Deed) (at : MachineState) (first : RunsRuled old before at) (many : Bool) (n tag : ℕ) → n < 15 → tag < 32
    → (rest : IsAtRest many n tag old before at first) → (deeds : List Deed) (now : MachineState) (run : RunsRuled at deeds now)
    → HasLink deeds → AllLast n at deeds now run → AllKeep many n tag at deeds now run
    → (p : Profile) (limit : ℕ) (base : List Call) → AreCalls (new_disk p limit) base → rest.disk ≡ reached p limit base
    → (d : DiskState) → (bay_at now n).unit ≡ Disk d → (m : Moment) → command_at (commands d) tag ≡ Some m → is_under_way (Some m) ≡ true
    → IsTheSlots many n tag at deeds now run p limit base m.command
