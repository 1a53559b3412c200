-- Which FIS a disk sends next, and what it is then (Serial ATA 3.x, 10.5 and 13.6).
use Rattle.std.specs.Prelude.{ℕ, ◌≡◌, ◌/◌, nat_lt, Bool, true, false, not, List, [], drop, length, Option, Some, None, slice_index_or, if◌then◌else◌}
use Rattle.std.specs.Option.{option_map}
use Rattle.fis_view.specs.Frames.{is_payload}
use Rattle.block_command.specs.{declared.command.Turn.Turn, Moments.{Moment, part_of, turn_of}}
use Rattle.block_command.specs.declared.command.Turn.TheVariants as turn
use Rattle.block_queue.specs.Line.{command_at}
use Rattle.block_scheduler.specs.Schedule.{ends_all, ends_sent, line_sent}
use Rattle.block_engine.specs.{declared.{aside.AsideStage.AsideStage, request.ErrorKind.ErrorKind}, Engine.{EngineState, IsEngineFis, MayGo}}
use Rattle.block_engine.specs.Engine.{aside_sent, line, on_line, with_schedule}
use Rattle.block_engine.specs.declared.aside.AsideStage.TheVariants as stages
use Rattle.block_engine.specs.declared.engine.EngineFis.TheVariants as fis
use Rattle.block_engine.specs.declared.request.ErrorKind.TheVariants as kinds
use Rattle.block_engine.specs.declared.request.Failure as caller
use Rattle.ata_reply.specs.{declared.reply.{AtaError.AtaError, Reply.Reply}, Replies.{Carries, Shows}}
use Rattle.ata_reply.specs.declared.reply.AtaError.TheVariants as ata
use Rattle.ata_reply.specs.declared.reply.Reply.TheVariants as replies
use Rattle.ata_front.specs.{CommandFis.command_reply, Fronts.{beside_sent, over, owed, queued_failed, said, single_sent}, declared.front.Front.Front}
use Rattle.ata_front.specs.declared.task.{Moving.Moving, Owed.Owed, Task.Task, Trouble.Trouble}
use Rattle.ata_front.specs.declared.task.Owed.TheVariants as owe
use Rattle.ata_front.specs.declared.task.Task.TheVariants as tasks
use Rattle.sata_disk.specs.{State.{DiskState, commands, is_taken}, Pages.IsPage, declared.out.Out.{Out, TheVariants.{Own, Page, Beside, Ends, Of}}}
use Rattle.sata_disk.specs.declared.out.Out.TheVariants.{Data}

-- ## Why a command failed

abbrev pub error_of : ErrorKind → AtaError
error_of kinds.Uncorrectable = ata.Uncorrectable
error_of kinds.NotFound = ata.NotFound
error_of kinds.Aborted = ata.Aborted

abbrev pub lba_at : Option Moment → ℕ
lba_at None = 0
lba_at (Some m) = m.command.lba

-- as the caller says; where it says nothing, the host sent more Data than were asked for
abbrev pub trouble_by : Option caller.Failure → Option Moment → Trouble
trouble_by None m = record { error = ata.Interface; lba = lba_at m }
trouble_by (Some f) m = record { error = error_of f.error; lba = f.lba }

abbrev pub trouble_at : EngineState → (place : ℕ) → Trouble
trouble_at e p = trouble_by (slice_index_or e.failures p None) (command_at (line e) p)

-- ## What goes next

abbrev pub own_of : Owed → Out
own_of (owe.Reply r) = Own r
own_of (owe.Page p) = Page p

abbrev pub is_done : AsideStage → Bool
is_done stages.Done = true
is_done _ = false

-- the end of the command beside the queue
abbrev pub beside_reply : DiskState → Reply
beside_reply d = over (is_done d.engine.stage) (trouble_at d.engine 32)

abbrev pub moving_of : Task → Moving
moving_of (tasks.Moves m) = m
moving_of _ = record { wide = true; left = 0 }

abbrev pub reply_at : DiskState → (place : ℕ) → Moment → Option Reply
reply_at d p m = command_reply m (moving_of d.front.task).left (trouble_at d.engine p) (moving_of d.front.task).wide

abbrev pub is_data : Turn → Bool
is_data turn.Data = true
is_data _ = false

abbrev pub out_by : DiskState → (place : ℕ) → Moment → (data' : Bool) → Option Out
out_by d p m true = Some (Data p (length (part_of m)))
out_by d p m false = option_map (λ r. Of p r) (reply_at d p m)

-- the FIS of the command of a place
abbrev pub out_at : DiskState → (place : ℕ) → Option Moment → Option Out
out_at d p None = None
out_at d p (Some m) = out_by d p m (is_data (turn_of m.stage))

abbrev pub IsCommandOut : DiskState → (place : ℕ) → Out → Type 0
IsCommandOut d p o = (owed d.front.task ≡ None) × IsEngineFis d.engine (Some (fis.Of p)) × MayGo d.engine (fis.Of p) × (Some o ≡ out_at d p (command_at (commands d) p))

-- What the disk owes of itself goes first, then what the commands say.
abbrev pub IsOut : DiskState → Option Out → Type 0
IsOut d None = (owed d.front.task ≡ None) × IsEngineFis d.engine None
IsOut d (Some (Own r)) = owed d.front.task ≡ Some (owe.Reply r)
IsOut d (Some (Page p)) = owed d.front.task ≡ Some (owe.Page p)
IsOut d (Some (Beside r)) = (owed d.front.task ≡ None) × IsEngineFis d.engine (Some fis.Aside) × (r ≡ beside_reply d)
IsOut d (Some (Ends tags)) = (owed d.front.task ≡ None) × IsEngineFis d.engine (Some (fis.Ends tags))
IsOut d (Some (Of p r)) = IsCommandOut d p (Of p r)
IsOut d (Some (Data p n)) = IsCommandOut d p (Data p n)

-- ## What was sent

-- the front keeps the error, and not the engine
abbrev pub place_sent : EngineState → (place : ℕ) → EngineState
place_sent e p = with_schedule e (record { line = (line_sent e.schedule p).line; limit = (line_sent e.schedule p).limit; fault = None })

abbrev pub single_front : Front → Task → (ended : Bool) → (sectors : ℕ) → Front
single_front f (tasks.Moves m) ended sectors = single_sent f ended sectors
single_front f _ ended sectors = f

abbrev pub front_sent : DiskState → (place sectors : ℕ) → Front
front_sent d p sectors = if nat_lt p 32
    then (if ends_all (commands d) p then queued_failed d.front p (trouble_at d.engine p) else d.front)
    else single_front d.front d.front.task (not (is_taken (line (place_sent d.engine p)) p)) sectors

abbrev pub command_sent : DiskState → (place sectors : ℕ) → DiskState
command_sent d p sectors = record { profile = d.profile; front = front_sent d p sectors; engine = place_sent d.engine p }

abbrev pub after_sent : DiskState → Out → DiskState
after_sent d (Own r) = record d { front = said d.front }
after_sent d (Page p) = record d { front = said d.front }
after_sent d (Beside r) = record d { front = beside_sent d.front (is_done d.engine.stage); engine = aside_sent d.engine }
after_sent d (Ends tags) = record d { engine = on_line d.engine (ends_sent (commands d) 32) }
after_sent d (Of p r) = command_sent d p 0
after_sent d (Data p n) = command_sent d p (n / 512)

-- ## The FIS

abbrev pub part_at : Option Moment → List ℕ
part_at None = []
part_at (Some m) = part_of m

-- whether a frame holds its bytes: so it does but for Data of another length than a Data FIS has
abbrev pub is_framed : DiskState → Out → Bool
is_framed d (Data p n) = is_payload (part_at (command_at (commands d) p))
is_framed d _ = true

-- these bytes are the FIS
abbrev pub IsFis : DiskState → Out → List ℕ → Type 0
IsFis d (Own r) b = Shows r b
IsFis d (Page p) b = IsPage d.profile d.front p (drop 4 b) × Carries (drop 4 b) b
IsFis d (Beside r) b = Shows r b
IsFis d (Ends tags) b = Shows (replies.Ends tags) b
IsFis d (Of p r) b = Shows r b
IsFis d (Data p n) b = Carries (part_at (command_at (commands d) p)) b
