-- The command that a disk has at a place is one that the controller sent it from a slot, as it was supplied for that slot (AHCI 1.3.1, 4.2
-- and 5.3, a port sends a command; Serial ATA 3.x, 10.5, Register Host to Device FIS, and 13.6, native command queuing).
use Rattle.std.specs.Prelude.{◌≡◌, ◌<◌, ◌/◌, ◌%◌, ◌==◌, ◌&&◌, ℕ, Bool, true, false, List, [], ◌∷◌, ◌++◌, Some}
use Rattle.fis_view.specs.{Frames.marked, Table.{H2d, Count, field}}
use Rattle.multiplier.specs.State.{pm_port}
use Rattle.block_command.specs.declared.command.Command.{Command}
use Rattle.block_disk.specs.Laws.{Page}
use Rattle.ahci_controller.specs.{States.ControllerState, declared.issuing.Supply.Supply}
use Rattle.ahci_controller.specs.declared.issuing.Supply.TheVariants as supply
use Rattle.ahci_controller.specs.declared.next.Next.TheVariants as next
use Rattle.controller_laws.specs.Events as call
use Rattle.controller_laws.specs.{Events.Event, Sources.{Source, command_of, no_sources, sources_after}}
use Rattle.disk_pages.specs.declared.profile.Profile.{Profile}
use Rattle.sata_disk.specs.State.{DiskState, new_disk}
use Rattle.sata_disk_books.specs.Books.{IsAskedFor, page_in}
use Rattle.sata_disk_laws.specs.{Calls.Call, Laws.reached}
use Rattle.ahci_machine.specs.{Gathers.host_stamp, States.{IsOpeningMachine, MachineState, bay_at}, declared.bay.Unit.TheVariants.Disk}
use Rattle.machine_laws.specs.{ControllerLaws.{ControllerRuns, RunsRuled, calls_in}, Deeds.Deed, Feeding.{IsFisOf, IsOrdered}, Heard.HasLived}
use Rattle.machine_laws.specs.{Heard.{life_in, no_life}, Rising.is_multiplier}

-- ---- what was sent from a slot

-- The controller sent this FIS from a slot by one of these calls. It is that of the command which was issued there then, for the device
-- that owns it, as it was supplied.
pub record IsSentFrom (old : ControllerState) (calls : List Event) (dev slot : ℕ) (fis : List ℕ) : Type 0 where
  pub before : List Event
  pub later : List Event
  pub is : calls ≡ before ++ call.Turned (next.Order dev slot fis) ∷ later
  pub at : ControllerState
  pub first : call.Runs old before at
  pub ordered : IsOrdered at dev slot fis

abbrev pub is_issue : Supply → Bool
is_issue (supply.Issued dev) = true
is_issue other = false

-- the last part of a command for this slot came, and it was issued there
abbrev pub issues_in : ℕ → Event → Bool
issues_in s (call.Supplied slot number bytes told) = (slot == s) && is_issue told
issues_in s (call.Missed slot number told) = (slot == s) && is_issue told
issues_in s event = false

abbrev pub AreNotIssued : ℕ → List Event → Type 0
AreNotIssued s [] = Unit {0}
AreNotIssued s (event ∷ later) = (issues_in s event ≡ false) × AreNotIssued s later

-- ---- what a disk makes of it

-- The host of the disk at a port asked for a command by a FIS that the controller sent.
pub record IsOfSlot (old : MachineState) (deeds : List Deed) (now : MachineState) (run : RunsRuled old deeds now) (n : ℕ) (p : Profile) (limit : ℕ) (calls : List Call)
    (c : Command) : Type 0 where
  pub asked : IsAskedFor p limit calls c
  -- It was sent from a slot, and heard with PM Port 0; behind a multiplier its PM Port was the port of the disk.
  pub dev : ℕ
  pub slot : ℕ
  pub fis : List ℕ
  pub sent : IsSentFrom old.controller (calls_in old deeds now run) dev slot fis
  pub heard : asked.bytes ≡ marked fis 0
  pub port : is_multiplier now.fan ≡ true → pm_port (record { bytes = fis; stamp = host_stamp dev }) ≡ n
  -- A queued command has the place that the tag in its FIS says: the slot, if the guest named that.
  pub tag : c.place < 32 → c.place ≡ field H2d Count fis % 256 / 8
  -- As long as nothing more is issued in the slot, it is the FIS of the command that is supplied for it.
  pub still : AreNotIssued slot sent.later → (runs : ControllerRuns old deeds now run) → (source : Source)
      → (sources_after slot no_sources old.controller (calls_in old deeds now run) now.controller runs.calls).issued ≡ Some source
      → IsFisOf (command_of source) fis

-- By these calls, before it was put at its port, and by those since, the disk took the command that the books have at a place: its host asked
-- for it before that, or by such a FIS.
pub data IsFromHost (old : MachineState) (deeds : List Deed) (now : MachineState) (run : RunsRuled old deeds now) (n : ℕ) (p : Profile) (limit : ℕ)
    (before since : List Call) (c : Command) : Type 0 where
  Before : IsAskedFor p limit before c → IsFromHost old deeds now run n p limit before since c
  Since : IsOfSlot old deeds now run n p limit (before ++ since) c → IsFromHost old deeds now run n p limit before since c

-- So it is of each disk, over every run from a machine that opens, whatever its guest, its devices and its media do.
abbrev pub CommandsAreOfSlots : Type 0
CommandsAreOfSlots = (ports : ℕ) (legacy : Bool) (old : MachineState) → IsOpeningMachine ports legacy old
    → (deeds : List Deed) (now : MachineState) (run : RunsRuled old deeds now) (n : ℕ) (d : DiskState) → (bay_at now n).unit ≡ Disk d
    → (lived : HasLived (life_in n no_life old deeds now run) d)
    → (p : Profile) (limit : ℕ) (before : List Call) → lived.disk ≡ reached p limit before
    → (place : ℕ) (page : Page) → page_in p limit (before ++ (life_in n no_life old deeds now run).calls) place ≡ Some page
    → IsFromHost old deeds now run n p limit before (life_in n no_life old deeds now run).calls page.command

-- A disk that was new as it was put there has no other commands.
abbrev pub CommandsOfNewDisks : Type 0
CommandsOfNewDisks = (ports : ℕ) (legacy : Bool) (old : MachineState) → IsOpeningMachine ports legacy old
    → (deeds : List Deed) (now : MachineState) (run : RunsRuled old deeds now) (n : ℕ) (d : DiskState) → (bay_at now n).unit ≡ Disk d
    → (lived : HasLived (life_in n no_life old deeds now run) d)
    → (p : Profile) (limit : ℕ) → lived.disk ≡ new_disk p limit
    → (place : ℕ) (page : Page) → page_in p limit (life_in n no_life old deeds now run).calls place ≡ Some page
    → IsOfSlot old deeds now run n p limit (life_in n no_life old deeds now run).calls page.command

-- And its calls in this run are all its calls, so what holds of all runs of a disk holds of it.
abbrev pub DisksAreThere : Type 0
DisksAreThere = (ports : ℕ) (legacy : Bool) (old : MachineState) → IsOpeningMachine ports legacy old
    → (deeds : List Deed) (now : MachineState) (run : RunsRuled old deeds now) (n : ℕ) (d : DiskState) → (bay_at now n).unit ≡ Disk d
    → HasLived (life_in n no_life old deeds now run) d
