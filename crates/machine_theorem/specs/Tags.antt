-- Commands and ends of one tag. A disk says that a command ended well at most once for each FIS that it heard with its tag, and the command
-- that is under way at the tag was asked for behind all those that ended (Serial ATA 3.x, 10.5, Register Host to Device and Set Device Bits, and
-- 13.6, native command queuing).
use Rattle.std.specs.Prelude.{ℕ, suc, ◌≡◌, ◌<◌, ◌≤◌, ◌+◌, ◌==◌, ◌&&◌, Bool, true, false, List, [], ◌∷◌, Some, Result, Ok, if◌then◌else◌}
use Rattle.fis_view.specs.{Seen.seen, declared.view.{Fis.Fis, FisFault.FisFault}}
use Rattle.fis_view.specs.declared.view.Fis.TheVariants as view
use Rattle.block_command.specs.{declared.command.Command.Command, Moments.Moment}
use Rattle.block_disk.specs.{Laws.Page, Table.is_under_way}
use Rattle.block_queue.specs.Line.{command_at, has_bit}
use Rattle.disk_pages.specs.declared.profile.Profile.{Profile}
use Rattle.sata_disk.specs.{Hearing.is_command, State.{DiskState, commands, new_disk}}
use Rattle.sata_disk.specs.declared.out.Out.TheVariants as out
use Rattle.sata_disk_books.specs.Books.{IsAskedFor, page_in}
use Rattle.sata_disk_laws.specs.{Calls.{AreCalls, Call, Hears, Sends}, Laws.reached, Once.place_in}
use Rattle.ahci_machine.specs.{States.{IsOpeningMachine, MachineState, bay_at}, declared.bay.Unit.TheVariants.Disk}
use Rattle.machine_laws.specs.{ControllerLaws.RunsRuled, Deeds.Deed, Heard.{HasLived, life_in, no_life}}

-- ---- what is counted

-- a FIS asks for a queued command with this tag
abbrev pub asks_with : (tag : ℕ) → Result Fis FisFault → Bool
asks_with tag (Ok (view.RegH2D f)) = is_command f && (place_in f == tag)
asks_with tag other = false

abbrev pub once_if : Bool → ℕ
once_if b = if b then 1 else 0

-- a call hears such a FIS
abbrev pub hears_with : (tag : ℕ) → Call → ℕ
hears_with tag (Hears bytes) = once_if (asks_with tag (seen bytes))
hears_with tag other = 0

-- by a call the disk says that the command with this tag ended well
abbrev pub ends_with : (tag : ℕ) → Call → ℕ
ends_with tag (Sends (out.Ends tags)) = once_if (has_bit tags tag)
ends_with tag other = 0

-- how many of these calls do
abbrev pub heard_with : (tag : ℕ) → List Call → ℕ
heard_with tag [] = 0
heard_with tag (c ∷ later) = hears_with tag c + heard_with tag later

abbrev pub ended_with : (tag : ℕ) → List Call → ℕ
ended_with tag [] = 0
ended_with tag (c ∷ later) = ends_with tag c + ended_with tag later

-- ---- the command that is under way

-- A FIS with the tag asked for the command, and all that ended with this tag did not need it: as many were heard before it.
pub record IsBehindEnds (p : Profile) (limit : ℕ) (calls : List Call) (tag : ℕ) (c : Command) : Type 0 where
  pub asked : IsAskedFor p limit calls c
  pub named : asks_with tag (seen asked.bytes) ≡ true
  pub behind : ended_with tag calls ≤ heard_with tag asked.before
  -- none has ended since
  pub standing : ended_with tag asked.later ≡ 0
  -- So where no more than one of those that were heard has not ended, it is the one that was heard last.
  pub last : heard_with tag calls ≤ suc (ended_with tag calls) → heard_with tag asked.later ≡ 0
  -- It is the command that the books have there.
  pub page : (page : Page) → page_in p limit calls tag ≡ Some page → page.command ≡ c

pub record IsCounted (p : Profile) (limit : ℕ) (calls : List Call) (d : DiskState) (tag : ℕ) : Type 0 where
  pub ends : ended_with tag calls ≤ heard_with tag calls
  pub held : (m : Moment) → command_at (commands d) tag ≡ Some m → is_under_way (Some m) ≡ true → IsBehindEnds p limit calls tag m.command

-- ---- the laws

-- So it is over every run of a disk.
abbrev pub TagsAreCounted : Type 0
TagsAreCounted = (p : Profile) (limit : ℕ) (calls : List Call) (tag : ℕ) → AreCalls (new_disk p limit) calls → tag < 32
    → IsCounted p limit calls (reached p limit calls) tag

-- So it is of each disk of a machine that was new as it was put there, over every run from a machine that opens.
abbrev pub TagsOfNewDisks : Type 0
TagsOfNewDisks = (ports : ℕ) (legacy : Bool) (old : MachineState) → IsOpeningMachine ports legacy old
    → (deeds : List Deed) (now : MachineState) (run : RunsRuled old deeds now) (n : ℕ) (d : DiskState) → (bay_at now n).unit ≡ Disk d
    → (lived : HasLived (life_in n no_life old deeds now run) d) → (p : Profile) (limit : ℕ) → lived.disk ≡ new_disk p limit
    → (tag : ℕ) → tag < 32 → IsCounted p limit (life_in n no_life old deeds now run).calls d tag
