-- The front of a disk, and what it makes of commands and resets (ACS-3, 4 and 7; Serial ATA 3.x, 11.4, software reset, and 13.6, native
-- command queuing).
use Rattle.std.specs.Prelude.{ℕ, ◌≡◌, ◌-◌, ◌==◌, nat_lt, Bool, true, false, Option, Some, None, if◌then◌else◌}
use Rattle.block_command.specs.declared.command.Command as block
use Rattle.ata_reply.specs.declared.reply.{AtaError.TheVariants.Aborted, Reply.Reply}
use Rattle.ata_reply.specs.declared.reply.Reply.TheVariants as reply
use Rattle.ata_command.specs.{Courses.course, declared.asked.{Asked.Asked, LogPage.LogPage, Move.Move, PowerTask.PowerTask, Refusal.Refusal}}
use Rattle.ata_command.specs.declared.{asked.SmartTask.SmartTask, control.Course.{Course, TheVariants.{Drop, Refuse, AbortAll, Take}}}
use Rattle.ata_command.specs.{declared.{control.Standing.Standing, settings.{Setting.Setting, Settings.Settings}}, Modes.power_on}
use Rattle.ata_command.specs.declared.asked.Asked.TheVariants as ask
use Rattle.ata_command.specs.declared.asked.PowerTask.TheVariants as power
use Rattle.ata_command.specs.declared.asked.SmartTask.TheVariants as smart
use Rattle.ata_command.specs.declared.control.Standing.TheVariants as stand
use Rattle.ata_command.specs.declared.settings.Setting.TheVariants as set
use Rattle.ata_front.specs.declared.{front.{Front.Front, Heard.Heard}, task.{Act.Act, Fault.{Fault, TheVariants.{Mixed, Queued}}, Owed.Owed}}
use Rattle.ata_front.specs.declared.task.{Page.Page, Purpose.Purpose, Task.{Task, TheVariants.{Idle, Owes, Moves, Waits, Announces, Gives, Sends}}}
use Rattle.ata_front.specs.declared.task.{Task.TheVariants.{Activates, Expects}, Trouble.Trouble}
use Rattle.ata_front.specs.declared.task.Act.TheVariants as act
use Rattle.ata_front.specs.declared.task.Owed.TheVariants as owe
use Rattle.ata_front.specs.declared.task.Page.TheVariants as page
use Rattle.ata_front.specs.declared.task.Purpose.TheVariants as purpose

-- the settings are those of power on, but for the write cache, which is as the caller wants it
abbrev pub opening : (write_cache : Bool) → Front
opening write_cache = record {
  task = Idle;
  fault = None;
  in_reset = false;
  settings = record power_on { write_cache = write_cache };
}

abbrev pub leaves : Front → Task → Heard
leaves f t = record { front = record f { task = t }; act = act.Nothing }

abbrev pub sets : Front → Settings → Heard
sets f s = record { front = record f { settings = s; task = Owes reply.Done }; act = act.Nothing }

abbrev pub aborted : Reply
aborted = reply.Failed (record { error = Aborted; lba = 0; wide = true })

-- ## Resets

abbrev pub after_plug : Front → Heard
after_plug f = record {
  front = record { task = Owes reply.Signature; fault = None; in_reset = false; settings = f.settings };
  act = act.Resets;
}

-- SRST drops all; the signature goes once it is cleared
abbrev pub controlled : Front → (srst : Bool) → Heard
controlled f true =
    record { front = record { task = Idle; fault = None; in_reset = true; settings = f.settings }; act = act.Resets }
controlled f false = record {
  front = if f.in_reset then record f { task = Owes reply.Signature; in_reset = false } else f;
  act = act.Nothing;
}

-- ## Commands

abbrev pub standing_by : Task → Option Fault → (tags : ℕ) → Standing
standing_by Idle None tags = stand.Queued tags
standing_by Idle (Some fault) tags = stand.Error
standing_by _ fault tags = stand.Single

-- while the host waits it has BSY, and sends no command
abbrev pub standing : Front → (tags : ℕ) → Standing
standing f tags = if f.in_reset then stand.Reset else standing_by f.task f.fault tags

abbrev pub failed_all : Front → Fault → Reply → Heard
failed_all f fault r = record { front = record f { task = Owes r; fault = Some fault }; act = act.Resets }

-- a queued command is accepted at once; the host waits for the end of any other
abbrev pub moves_task : Move → Task
moves_task m = if nat_lt m.command.place 32 then Owes reply.Accepted
    else Moves (record { wide = m.wide; left = m.command.count })

abbrev pub taken_moves : Front → Move → Heard
taken_moves f m = record { front = record f { task = moves_task m }; act = act.Takes m.command }

abbrev pub taken_flush : Front → Purpose → Heard
taken_flush f p = record { front = record f { task = Waits p }; act = act.Flushes }

-- the write cache goes off behind a flush
abbrev pub set_by : Front → Setting → Heard
set_by f (set.WriteCache false) = taken_flush f purpose.CacheOff
set_by f (set.WriteCache true) = sets f (record f.settings { write_cache = true })
set_by f (set.LookAhead on) = sets f (record f.settings { look_ahead = on })
set_by f (set.AutoActivate on) = sets f (record f.settings { auto_activate = on })
set_by f (set.Mode mode) = sets f (record f.settings { mode = mode })
set_by f (set.Reverts on) = leaves f (Owes reply.Done)

abbrev pub refused_by : Front → Refusal → Option ℕ → Heard
refused_by f r None = leaves f (Owes (reply.Failed (record { error = r.error; lba = r.lba; wide = r.wide })))
refused_by f r (Some tag) = failed_all f (Queued tag (record { error = r.error; lba = r.lba }))
    (reply.Failed (record { error = r.error; lba = r.lba; wide = r.wide }))

-- a queued command that is refused ends all others (Serial ATA 3.x, 13.6)
abbrev pub refused : Front → Refusal → Heard
refused f r = refused_by f r r.tag

-- what is in the write cache lasts before the disk goes to a mode in which it is lost
abbrev pub taken_power : Front → PowerTask → Heard
taken_power f power.Check = leaves f (Owes reply.Active)
taken_power f power.Idle = leaves f (Owes reply.Done)
taken_power f power.Standby =
    if f.settings.write_cache then taken_flush f purpose.Flush else leaves f (Owes reply.Done)

abbrev pub log_task : LogPage → Task
log_task p = if p.dma then Sends (page.Log p) else Announces (page.Log p)

abbrev pub task_of_smart : SmartTask → Task
task_of_smart smart.ReadData = Announces page.SmartData
task_of_smart smart.ReadThresholds = Announces page.SmartThresholds
task_of_smart smart.Nothing = Owes reply.Done
task_of_smart smart.ReturnStatus = Owes reply.Healthy

abbrev pub taken : Front → Asked → Heard
taken f (ask.Moves m) = taken_moves f m
taken f ask.Flushes = taken_flush f purpose.Flush
taken f (ask.Sets s) = set_by f s
taken f (ask.SetsMultiple m) = sets f (record f.settings { multiple = m })
taken f (ask.Trims blocks) = leaves f (Activates blocks)
taken f ask.Identifies = leaves f (Announces page.Identity)
taken f (ask.ReadsLog p) = leaves f (log_task p)
taken f (ask.Smart t) = leaves f (task_of_smart t)
taken f (ask.Power t) = taken_power f t
taken f (ask.Refused r) = refused f r

abbrev pub commanded_by : Front → Asked → Course → Heard
commanded_by f a Drop = record { front = f; act = act.Nothing }
commanded_by f a Refuse = leaves f (Owes aborted)
commanded_by f a AbortAll = failed_all f Mixed aborted
commanded_by f a Take = taken f a

abbrev pub commanded : Front → Asked → (tags : ℕ) → Heard
commanded f a tags = commanded_by f a (course a (standing f tags))

-- a command is taken only as it was asked for
abbrev pub IsOf : Asked → block.Command → Type 0
IsOf (ask.Moves m) c = c ≡ m.command
IsOf _ c = ⊥

abbrev pub MayTake : Act → Asked → Type 0
MayTake (act.Takes c) a = IsOf a c
MayTake _ a = Unit {0}

-- ## Ranges of DATA SET MANAGEMENT

abbrev pub heard_data : Task → Option ℕ
heard_data (Expects blocks) = Some blocks
heard_data _ = None

abbrev pub after_discard : Front → (are_there : Bool) → Front
after_discard f are_there = record f { task = if are_there then Waits purpose.Discard else Owes aborted }

-- ## What goes

abbrev pub page_announced : Reply
page_announced = reply.Announce (record { to_host = true; first = true; last = true; bytes = 512 })

abbrev pub owed : Task → Option Owed
owed (Owes r) = Some (owe.Reply r)
owed (Announces p) = Some (owe.Reply page_announced)
owed (Activates blocks) = Some (owe.Reply reply.Activate)
owed (Gives p) = Some (owe.Page p)
owed (Sends p) = Some (owe.Page p)
owed _ = None

abbrev pub is_log_10 : Page → Bool
is_log_10 (page.Log p) = p.log == 0x10
is_log_10 _ = false

-- the error is forgiven with its log
abbrev pub given : Front → Page → Task → Front
given f p t = record f { task = t; fault = if is_log_10 p then None else f.fault }

abbrev pub said_by : Front → Task → Front
said_by f (Owes r) = record f { task = Idle }
said_by f (Announces p) = record f { task = Gives p }
said_by f (Activates blocks) = record f { task = Expects blocks }
said_by f (Gives p) = given f p Idle
said_by f (Sends p) = given f p (Owes reply.Done)
said_by f _ = f

abbrev pub said : Front → Front
said f = said_by f f.task

abbrev pub over : (well : Bool) → Trouble → Reply
over true t = reply.Done
over false t = reply.Failed (record { error = t.error; lba = t.lba; wide = true })

-- the write cache is off once what was in it lasts
abbrev pub settings_then : Settings → Task → (well : Bool) → Settings
settings_then s (Waits purpose.CacheOff) true = record s { write_cache = false }
settings_then s _ well = s

abbrev pub beside_sent : Front → (well : Bool) → Front
beside_sent f well = record f { task = Idle; settings = settings_then f.settings f.task well }

abbrev pub task_less : Task → (ended : Bool) → ℕ → Task
task_less (Moves m) false sectors = Moves (record { wide = m.wide; left = m.left - sectors })
task_less _ ended sectors = Idle

abbrev pub single_sent : Front → (ended : Bool) → (sectors : ℕ) → Front
single_sent f ended sectors = record f { task = task_less f.task ended sectors }

abbrev pub queued_failed : Front → (tag : ℕ) → Trouble → Front
queued_failed f tag t = record f { fault = Some (Queued tag t) }
