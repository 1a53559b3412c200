-- The bytes of a FIS that the controller sends are those that were supplied: the FIS of a command that of its slot, as it was supplied and
-- issued (AHCI 1.3.1, 4.2.3 and 5.3, a port sends a command), and the payload of Data those of the places that the command's table names
-- (4.2.3.3; Serial ATA 3.x, Data, 46h).
use Rattle.std.specs.Prelude.{◌≡◌, ◌<◌, ◌==◌, ℕ, Bool, ◌+◌, ◌-◌, if◌then◌else◌, List, [], ◌∷◌, ◌++◌, length, take, slice_get, Option, Some}
use Rattle.std.specs.{Prelude.{MatchOption, Result, Ok}, declared.alloc.AllocError.AllocError}
use Rattle.slots.specs.Slots.{issue_at}
use Rattle.hba_commands.specs.declared.command.Command as core_command
use Rattle.hba_fbs.specs.Views.{last_command}
use Rattle.guest_fetch.specs.{Commands.Fetched, declared.moves.Move.Move}
use Rattle.ahci_controller.specs.{Feeding.Places, Next.Turns, States.ControllerState, declared.feeding.Fed.Fed}
use Rattle.ahci_controller.specs.declared.next.Next.TheVariants as next
use Rattle.controller_laws.specs.Sources.{AreSources, Source, Sources, command_of}
use Rattle.ahci_machine.specs.{Gathers.GatheringState, States.{HasRules, IsOpeningMachine, MachineState, gathering_at}, declared.answers.Told.Told}
use Rattle.ahci_machine.specs.declared.request.{GuestRead.GuestRead, Wanted.TheVariants.Data}
use Rattle.ahci_machine.specs.declared.act.Act.TheVariants as act
use Rattle.ahci_machine.specs.declared.answers.Told.TheVariants as told
use Rattle.machine_laws.specs.{ControllerLaws.RunsRuled, Controllers.GathersDue, Deeds.{Deed, Does, Moved, Supplied as Came}}

-- ---- commands

-- the FIS of the command that was issued last in the slot, for the device that owns it
pub record IsOrderOf (c : ControllerState) (dev slot : ℕ) (fis : List ℕ) : Type 0 where
  pub command : core_command.Command
  pub is : last_command c.core.commands slot ≡ Some command
  pub bytes : fis ≡ command.cfis
  pub owner : MatchOption (issue_at c.core.slots slot) ⊥ (λ issue. issue.dev ≡ dev)

-- and that command is the one that was supplied for the slot
abbrev pub IsFisOf : Option Fetched → List ℕ → Type 0
IsFisOf command fis = MatchOption command ⊥ (λ f. fis ≡ f.head.cfis)

pub record IsOrdered (c : ControllerState) (dev slot : ℕ) (fis : List ℕ) : Type 0 where
  pub issued : IsOrderOf c dev slot fis
  pub supplied : (sources : Sources) → AreSources c slot sources → (source : Source) → sources.issued ≡ Some source
      → IsFisOf (command_of source) fis

abbrev pub OrdersAreIssued : Type 0
OrdersAreIssued = (old : MachineState) (dev slot : ℕ) (fis : List ℕ) (new : MachineState) → HasRules old
    → Does old (Moved (act.Turns (next.Order dev slot fis))) new → IsOrdered old.controller dev slot fis

-- so it is of each command that the controller says to send
abbrev pub OrdersAreOfSlots : Type 0
OrdersAreOfSlots = (c d : ControllerState) (dev slot : ℕ) (fis : List ℕ) → Turns c (next.Order dev slot fis) d → IsOrderOf c dev slot fis

-- ---- Data

-- the bytes that came for the Data FIS of a device, since it is read
abbrev pub with_more : Result Told AllocError → List ℕ → List ℕ → List ℕ
with_more (Ok told.Kept) was bytes = was ++ bytes
with_more answer was bytes = was

abbrev pub came_by : (dev : ℕ) → (old : MachineState) → (deed : Deed) → (new : MachineState) → Does old deed new → List ℕ → List ℕ
came_by dev old (Moved (act.Does (next.Feed d number slot offset len))) new does was = if d == dev then [] else was
came_by dev old (Came (Data d number done) bytes) new does was = if d == dev then with_more does.answer was bytes else was
came_by dev old deed new does was = was

abbrev pub came_in : (dev : ℕ) → List ℕ → (old : MachineState) → (deeds : List Deed) → (new : MachineState) → RunsRuled old deeds new → List ℕ
came_in dev was old [] new run = was
came_in dev was old (deed ∷ later) new run =
    came_in dev (came_by dev old deed run.1.0 run.1.1 was) run.1.0 later new run.1.2

-- the FIS that is read for a device has its head, and then these bytes
abbrev pub data_with : (dev : ℕ) → List ℕ → List ℕ
data_with dev bytes = 0x46 ∷ dev ∷ 0 ∷ 0 ∷ bytes

pub record IsReadSoFar (dev : ℕ) (came : List ℕ) (g : GatheringState) : Type 0 where
  pub done : g.done ≡ length came
  pub bytes : take (4 + g.done) g.bytes ≡ data_with dev came

abbrev pub IsReading : MachineState → (dev : ℕ) → List ℕ → Type 0
IsReading m dev came = MatchOption (gathering_at m dev) (Unit {0}) (IsReadSoFar dev came)

abbrev pub OpensUnread : Type 0
OpensUnread = (ports : ℕ) (legacy : Bool) (m : MachineState) → IsOpeningMachine ports legacy m → (dev : ℕ) → IsReading m dev []

-- so it stays over every run
abbrev pub DataIsRead : Type 0
DataIsRead = (dev : ℕ) → dev < 16 → (old : MachineState) (deeds : List Deed) (new : MachineState) (run : RunsRuled old deeds new) → GathersDue old
    → (came : List ℕ) → IsReading old dev came → IsReading new dev (came_in dev came old deeds new run)

-- The FIS that goes has all of its bytes, and they are these.
abbrev pub DataIsWhatCame : Type 0
DataIsWhatCame = (old : MachineState) (dev : ℕ) (fed : Fed) (new : MachineState) (does : Does old (Moved (act.Gathers dev fed)) new) → GathersDue old
    → (came : List ℕ) → IsReading old dev came → does.does.gathering.bytes ≡ data_with dev came

-- The bytes that are asked for next lie where the table of the command in the slot says, from the first that has not come.
pub record AsksNext (old : MachineState) (dev : ℕ) (came : List ℕ) (read : GuestRead) : Type 0 where
  pub reading : GatheringState
  pub there : gathering_at old dev ≡ Some reading
  pub moves : List Move
  pub first : Move
  pub places : Places old.controller reading.feed.slot (reading.feed.offset + length came) (reading.feed.len - length came) (Some moves)
  pub head : slice_get moves 0 ≡ Some first
  pub is : read ≡ record { wanted = Data dev reading.feed.number (length came); at = first.at; len = first.len }

abbrev pub DataIsAskedInOrder : Type 0
DataIsAskedInOrder = (old : MachineState) (read : GuestRead) (new : MachineState) → Does old (Moved (act.Wants read)) new → GathersDue old
    → (dev number done : ℕ) → read.wanted ≡ Data dev number done → (came : List ℕ) → IsReading old dev came → AsksNext old dev came read
