-- A SATA disk as words.
use Rattle.std.specs.{Prelude.{ℕ, ◌+◌, nat_le, List, Option, Some, None, Bool, true, false, not, ◌&&◌, ◌||◌, is_none}, List.list_all}
use Rattle.std.proofs.Common.{ap}
use Rattle.saved_state.specs.State.{IsToldApart, parts_apart, put_three, three_apart}
use Rattle.block_command.specs.Moments.{Moment, part_lba}
use Rattle.block_queue.specs.Line.{any_below, command_at}
use Rattle.block_engine.specs.{Engine.{EngineState, line}, Saved.{KeepsEngine, engine_apart, put_engine}, declared.aside.AsideStage.AsideStage}
use Rattle.block_engine.specs.declared.request.Range.{Range}
use Rattle.block_engine.specs.declared.aside.AsideStage.TheVariants as stages
use Rattle.ata_front.specs.{declared.{front.Front.Front, task.Task.Task}, Saved.{KeepsFront, front_apart, put_front}}
use Rattle.ata_front.specs.declared.task.Task.TheVariants as tasks
use Rattle.disk_pages.specs.{declared.profile.Profile.Profile, Profiles.facts_of, Saved.{KeepsProfile, profile_apart, put_profile}}
use Rattle.sata_disk.specs.State.{DiskState, IsDisk}

-- what it is, what it is to its host, and its commands
abbrev pub DiskParts : Type 0
DiskParts = Profile × Front × EngineState

abbrev pub disk_parts : DiskState → DiskParts
disk_parts d = (d.profile, d.front, d.engine)

abbrev pub put_disk_parts : DiskParts → List ℕ → List ℕ
put_disk_parts = put_three put_profile put_front put_engine

abbrev pub KeepsDiskParts : DiskParts → Type 0
KeepsDiskParts p = KeepsProfile p.0 × KeepsFront p.1 × KeepsEngine p.2

abbrev pub put_disk : DiskState → List ℕ → List ℕ
put_disk d rest = put_disk_parts (disk_parts d) rest

-- each part keeps to its rules, and they fit together
abbrev pub KeepsDisk : DiskState → Type 0
KeepsDisk d = KeepsDiskParts (disk_parts d) × IsDisk d

-- ## The rule as a test

abbrev pub is_waits : Task → Bool
is_waits (tasks.Waits purpose) = true
is_waits _ = false

abbrev pub is_idle : Task → Bool
is_idle tasks.Idle = true
is_idle _ = false

abbrev pub is_at_rest : AsideStage → Bool
is_at_rest stages.Idle = true
is_at_rest _ = false

-- a command beside the queue is under way only while the host waits for it
abbrev pub beside_fits : Task → AsideStage → Bool
beside_fits task stage = is_waits task || is_at_rest stage

-- the command of a place has a sector that is not there, or more of it is done than it has
abbrev pub is_past : (sectors : ℕ) → Option Moment → Bool
is_past sectors None = false
is_past sectors (Some m) = not (nat_le (part_lba m) (m.command.lba + m.command.count) && nat_le (m.command.lba + m.command.count) sectors)

abbrev pub is_past_at : (sectors : ℕ) → EngineState → (place : ℕ) → Bool
is_past_at sectors e p = is_past sectors (command_at (line e) p)

abbrev pub is_within : (sectors : ℕ) → Range → Bool
is_within sectors r = nat_le (r.lba + r.count) sectors

-- no command, and no range of the last DATA SET MANAGEMENT, has
abbrev pub are_within : (sectors : ℕ) → EngineState → Bool
are_within sectors e = not (any_below (is_past_at sectors e) 33) && list_all (is_within sectors) e.ranges

-- what the disk is, and what it is to its host, fits its commands
abbrev pub fits : Profile → Front → EngineState → Bool
fits p f e = (is_none e.schedule.fault && beside_fits f.task e.stage) && ((not f.in_reset || is_idle f.task) && are_within (facts_of p).sectors e)

abbrev pub fit : DiskParts → Bool
fit p = fits p.0 p.1 p.2

-- ## Words are those of one disk

pub disk_parts_apart : IsToldApart put_disk_parts KeepsDiskParts
disk_parts_apart = three_apart put_profile KeepsProfile profile_apart put_front KeepsFront front_apart put_engine KeepsEngine engine_apart

pub disk_apart : IsToldApart put_disk KeepsDisk
disk_apart = parts_apart put_disk_parts KeepsDiskParts KeepsDisk disk_parts disk_parts_apart (λ d k. k.0)
    (λ v w e. ap (λ p. record { profile = p.0; front = p.1; engine = p.2 }) e)
