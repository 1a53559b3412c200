-- What a disk makes of a FIS of its host (Serial ATA 3.x, 10.5, FIS types, 11.4, software reset, and 13.6, native command queuing;
-- ACS-3, 7.5, DATA SET MANAGEMENT, and 7.24, READ LOG EXT).
use Rattle.std.specs.Prelude.{ℕ, ◌≡◌, ◌*◌, ◌/◌, ◌==◌, ◌+◌, ◌<◌, ◌≤◌, ◌&&◌, nat_lt, Bool, true, false, List, map, drop, length, Option, Some, None}
use Rattle.std.specs.Prelude.{Result, Ok, if◌then◌else◌}
use Rattle.fis_view.specs.{Table.{H2d, C, field}, declared.view.{Fis.Fis, FisFault.FisFault}}
use Rattle.fis_view.specs.declared.view.Fis.TheVariants as view
use Rattle.block_command.specs.{declared.command.{Stage.Stage, Turn.Turn}, Moments.{IsCommand, Moment, is_queued, turn_of}, Laws.Comes}
use Rattle.block_command.specs.declared.command.Stage.TheVariants as stage
use Rattle.block_command.specs.declared.command.Turn.TheVariants as turn
use Rattle.block_disk.specs.{Table.with_input, Requests.with_table}
use Rattle.block_queue.specs.Line.{command_at, with_queue}
use Rattle.block_engine.specs.declared.{aside.{AsideKind.TheVariants.{Flush, Discard}, AsideStage.AsideStage}, request.Range.Range}
use Rattle.block_engine.specs.Engine.{EngineState, aside_taken, engine_reset, line, on_line, taken}
use Rattle.block_engine.specs.declared.aside.AsideStage.TheVariants as stages
use Rattle.ata_command.specs.{Asks.{aborted, asked}, Courses.resets, Trims.{extents_in, is_past_in}, declared.asked.{Asked.Asked, LogPage.LogPage}}
use Rattle.ata_command.specs.declared.{control.Standing.Standing, trim.Extent.Extent}
use Rattle.ata_command.specs.declared.asked.Asked.TheVariants as ask
use Rattle.ata_command.specs.declared.control.Standing.TheVariants as stand
use Rattle.ata_front.specs.{Fronts.{after_discard, after_plug, commanded, controlled, heard_data, standing}, declared.front.Heard.Heard}
use Rattle.ata_front.specs.declared.task.{Act.Act, Task.Task}
use Rattle.ata_front.specs.declared.task.Act.TheVariants as act
use Rattle.disk_pages.specs.{Logs.reads_log, Profiles.facts_of}
use Rattle.sata_disk.specs.{State.{DiskState, IsBeside, commands, data_place, tags_of}, declared.unheard.Unheard.{Unheard, TheVariants.NotOfHost}}
use Rattle.sata_disk.specs.declared.unheard.Unheard.TheVariants.{InReset, Busy, NotAwaited}

-- ## What becomes of the commands

abbrev pub engine_acted : EngineState → Act → EngineState
engine_acted e act.Nothing = e
engine_acted e (act.Takes c) = taken e c
engine_acted e act.Flushes = aside_taken e Flush e.ranges
engine_acted e act.Resets = engine_reset e

abbrev pub acted : DiskState → Heard → DiskState
acted d h = record { profile = d.profile; front = h.front; engine = engine_acted d.engine h.act }

-- the command can be taken, and one beside the queue is taken only where none is
abbrev pub MayAct : AsideStage → Task → Act → Type 0
MayAct s t act.Nothing = IsBeside t s
MayAct s t (act.Takes c) = (c.place < 33) × IsCommand c × (is_queued c.protocol ≡ nat_lt c.place 32) × IsBeside t s
MayAct s t act.Flushes = (s ≡ stages.Idle) × IsBeside t stages.Waiting
MayAct s t act.Resets = Unit {0}

-- a command that is taken lies within so many sectors
abbrev pub TakesWithin : (sectors : ℕ) → Act → Type 0
TakesWithin sectors (act.Takes c) = c.lba + c.count ≤ sectors
TakesWithin sectors _ = Unit {0}

-- ## Commands

-- one page of a log that is there; a command that reads any other is refused
abbrev pub page_asked : LogPage → Asked
page_asked p = if (p.count == 1) && reads_log p.log p.page p.count then ask.ReadsLog p else aborted

abbrev pub with_logs : Asked → Asked
with_logs (ask.ReadsLog p) = page_asked p
with_logs a = a

-- what the command of a FIS asks for
abbrev pub asked_of : DiskState → List ℕ → Asked
asked_of d f = with_logs (asked f (facts_of d.profile) d.front.settings)

abbrev pub command_told : DiskState → List ℕ → Heard
command_told d f = commanded d.front (asked_of d f) (tags_of (commands d))

abbrev pub command_unheard : Standing → Option Unheard
command_unheard stand.Reset = Some InReset
command_unheard stand.Single = Some Busy
command_unheard _ = None

-- C is 1 where the FIS writes the Command register, else it writes the Device Control register
abbrev pub is_command : List ℕ → Bool
is_command f = field H2d C f == 1

abbrev pub register_told : DiskState → List ℕ → Heard
register_told d f = if is_command f then command_told d f else controlled d.front (resets f)

abbrev pub register_heard : DiskState → List ℕ → DiskState
register_heard d f = acted d (register_told d f)

abbrev pub register_unheard : DiskState → List ℕ → Option Unheard
register_unheard d f = if is_command f then command_unheard (standing d.front (tags_of (commands d))) else None

-- ## Data

abbrev pub range_of : Extent → Range
range_of e = record { lba = e.lba; count = e.count }

abbrev pub unless_past : (sectors : ℕ) → List ℕ → Option (List Range)
unless_past sectors bytes =
    if is_past_in bytes sectors (length bytes / 8) then None else Some (map range_of (extents_in bytes (length bytes / 8)))

-- the ranges that so many blocks of a DATA SET MANAGEMENT name; none where other bytes came, or a sector is not there
abbrev pub ranges_of : (blocks sectors : ℕ) → List ℕ → Option (List Range)
ranges_of blocks sectors bytes = if length bytes == blocks * 512 then unless_past sectors bytes else None

abbrev pub discarding : DiskState → Option (List Range) → DiskState
discarding d None = record d { front = after_discard d.front false }
discarding d (Some ranges) = record d { front = after_discard d.front true; engine = aside_taken d.engine Discard ranges }

abbrev pub came_for : EngineState → (place : ℕ) → List ℕ → EngineState
came_for e p part = on_line e (with_queue (line e) (with_table (line e).queue (with_input (line e).queue.table p (Comes part))))

abbrev pub data_by : DiskState → Option ℕ → List ℕ → DiskState
data_by d None bytes = record d { engine = came_for d.engine (data_place (commands d)) bytes }
data_by d (Some blocks) bytes = discarding d (ranges_of blocks (facts_of d.profile).sectors bytes)

-- Data are the ranges that a DATA SET MANAGEMENT waits for, or else for a command
abbrev pub data_heard : DiskState → List ℕ → DiskState
data_heard d bytes = data_by d (heard_data d.front.task) bytes

abbrev pub is_receiving : Stage → Bool
is_receiving stage.Receiving = true
is_receiving _ = false

abbrev pub receives : Option Moment → Bool
receives None = false
receives (Some m) = is_receiving m.stage

-- nothing is next for the command
abbrev pub is_nothing : Turn → Bool
is_nothing turn.Nothing = true
is_nothing _ = false

abbrev pub waits : Option Moment → Bool
waits None = false
waits (Some m) = is_nothing (turn_of m.stage)

abbrev pub data_unheard_by : DiskState → Option ℕ → Option Unheard
data_unheard_by d None = if receives (command_at (commands d) (data_place (commands d))) then None else Some NotAwaited
data_unheard_by d (Some blocks) = None

abbrev pub data_unheard : DiskState → Option Unheard
data_unheard d = data_unheard_by d (heard_data d.front.task)

-- ## Each FIS

abbrev pub fis_heard : DiskState → Result Fis FisFault → DiskState
fis_heard d (Ok (view.RegH2D f)) = register_heard d f
fis_heard d (Ok (view.Payload f)) = data_heard d (drop 4 f)
fis_heard d _ = d

-- why a FIS leaves the disk as it is
abbrev pub fis_unheard : DiskState → Result Fis FisFault → Option Unheard
fis_unheard d (Ok (view.RegH2D f)) = register_unheard d f
fis_unheard d (Ok (view.Payload f)) = data_unheard d
fis_unheard d _ = Some NotOfHost

-- only Data want memory
abbrev pub carries_data : Result Fis FisFault → Bool
carries_data (Ok (view.Payload f)) = true
carries_data _ = false

-- what becomes of the commands may be done, and nothing is under way beside the queue where ranges come
abbrev pub MayRange : AsideStage → Option ℕ → Type 0
MayRange s None = Unit {0}
MayRange s (Some blocks) = s ≡ stages.Idle

abbrev pub MayHear : DiskState → Result Fis FisFault → Type 0
MayHear d (Ok (view.RegH2D f)) = MayAct d.engine.stage (register_told d f).front.task (register_told d f).act
MayHear d (Ok (view.Payload f)) = MayRange d.engine.stage (heard_data d.front.task)
MayHear d _ = Unit {0}

-- it was plugged in
abbrev pub plugged : DiskState → DiskState
plugged d = acted d (after_plug d.front)
