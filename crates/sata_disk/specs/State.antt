-- What a SATA disk is at one moment: what it is to its host, and its commands.
use Rattle.std.specs.{Prelude.{ℕ, zero, suc, ◌≡◌, ◌<◌, ◌≤◌, ◌+◌, ◌^◌, Bool, true, Option, Some, None, if◌then◌else◌}, List.All}
use Rattle.block_command.specs.Moments.{Moment}
use Rattle.block_disk.specs.Table.{has_wire, is_under_way}
use Rattle.block_queue.specs.Line.{Line, command_at, first_below}
use Rattle.block_engine.specs.{Engine.{EngineState, line, none_engaged}, declared.{aside.AsideStage.AsideStage, request.{Range.Range, What.What}}}
use Rattle.block_engine.specs.declared.aside.AsideStage.TheVariants as stages
use Rattle.block_engine.specs.declared.request.What.TheVariants as what
use Rattle.ata_front.specs.{Fronts.opening, declared.{front.Front.Front, task.Task.Task}}
use Rattle.ata_front.specs.declared.task.Task.TheVariants as tasks
use Rattle.disk_pages.specs.{Profiles.facts_of, declared.profile.Profile.Profile}

pub record DiskState : Type 0 where
  -- what it is
  pub profile : Profile
  -- what it is to its host beside the commands that move sectors
  pub front : Front
  -- its commands
  pub engine : EngineState

abbrev pub commands : DiskState → Line
commands d = line d.engine

-- a disk that was not plugged in: its write cache is on
abbrev pub new_disk : Profile → (limit : ℕ) → DiskState
new_disk p limit = record { profile = p; front = opening true; engine = none_engaged limit }

-- ## Commands under way

abbrev pub is_taken : Line → ℕ → Bool
is_taken l p = is_under_way (command_at l p)

-- the tags below n at which a command is under way, bit t for tag t
unfoldable pub tags_below : Line → ℕ → ℕ
tags_below l zero = 0
tags_below l (suc n) = tags_below l n + (if is_taken l n then 2 ^ n else 0)

unfoldable pub tags_of : Line → ℕ
tags_of l = tags_below l 32

abbrev pub has_link : Line → ℕ → Bool
has_link l p = has_wire (command_at l p)

abbrev pub or_single : Option ℕ → ℕ
or_single None = 32
or_single (Some tag) = tag

-- Data of the host are for the queued command whose DMA Setup FIS went last and whose Data are not all done, or else for the
-- command that is not queued
unfoldable pub data_place : Line → ℕ
data_place l = or_single (first_below (has_link l) 32)

-- ## Sectors that are there

-- how many sectors the disk has
abbrev pub sectors_of : DiskState → ℕ
sectors_of d = (facts_of d.profile).sectors

-- the command of a place lies within so many sectors, and no more of it is done than it has
abbrev pub LiesWithin : (sectors : ℕ) → Option Moment → Type 0
LiesWithin sectors None = Unit {0}
LiesWithin sectors (Some m) = (m.done ≤ m.command.count) × (m.command.lba + m.command.count ≤ sectors)

abbrev pub IsWithin : (sectors : ℕ) → Range → Type 0
IsWithin sectors r = r.lba + r.count ≤ sectors

-- so do all commands, and what the last DATA SET MANAGEMENT discards
pub record AreWithin (sectors : ℕ) (e : EngineState) : Type 0 where
  pub commands : (p : ℕ) → p < 33 → LiesWithin sectors (command_at (line e) p)
  pub ranges : All (IsWithin sectors) e.ranges

-- so does what the caller is asked to load or to store
abbrev pub AsksWithin : (sectors : ℕ) → What → Type 0
AsksWithin sectors (what.Load lba count) = lba + count ≤ sectors
AsksWithin sectors (what.Store lba count) = lba + count ≤ sectors
AsksWithin sectors _ = Unit {0}

-- ## What every disk keeps

-- a command beside the queue is under way only while the host waits for it
abbrev pub IsBeside : Task → AsideStage → Type 0
IsBeside (tasks.Waits purpose) stage = Unit {0}
IsBeside _ stage = stage ≡ stages.Idle

pub record IsDisk (d : DiskState) : Type 0 where
  -- the front alone keeps the error of queued commands
  pub fault : d.engine.schedule.fault ≡ None
  pub beside : IsBeside d.front.task d.engine.stage
  -- while SRST is set the host waits for nothing
  pub reset : d.front.in_reset ≡ true → d.front.task ≡ tasks.Idle
  -- whatever led to it, the caller is asked for no sector that is not there
  pub within : AreWithin (sectors_of d) d.engine
