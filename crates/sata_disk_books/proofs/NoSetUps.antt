-- What a disk owes of itself is no DMA Setup FIS.
use Rattle.std.proofs.Common.{◌≡◌, ℕ, true, false, List, drop, Some, None, sym, ap, subst}
use Rattle.std.specs.Prelude.{Option, Bool, nat_lt, if◌then◌else◌, Result, Ok}
use Rattle.fis_view.specs.{Seen.seen, declared.view.{Fis.Fis, FisFault.FisFault}}
use Rattle.fis_view.specs.declared.view.Fis.TheVariants as view
use Rattle.block_scheduler.specs.Schedule.{ends_all}
use Rattle.block_engine.specs.declared.request.Range.{Range}
use Rattle.ata_reply.specs.declared.reply.Reply.{Reply}
use Rattle.ata_reply.specs.declared.reply.Reply.TheVariants as replies
use Rattle.ata_command.specs.declared.asked.{Asked.Asked, LogPage.LogPage, Move.Move, PowerTask.PowerTask, Refusal.Refusal, SmartTask.SmartTask}
use Rattle.ata_command.specs.{declared.{control.Course.{Course, TheVariants.{Drop, Take}}, settings.Setting.Setting}, Courses.{course, resets}}
use Rattle.ata_command.specs.declared.asked.Asked.TheVariants as ask
use Rattle.ata_command.specs.declared.asked.PowerTask.TheVariants as power
use Rattle.ata_command.specs.declared.asked.SmartTask.TheVariants as smart
use Rattle.ata_command.specs.declared.settings.Setting.TheVariants as setting
use Rattle.ata_front.specs.Fronts.{after_discard, commanded_by, controlled, heard_data, leaves, over, owed, refused_by, said_by, set_by, standing}
use Rattle.ata_front.specs.{Fronts.{taken, taken_flush, taken_power, task_less, task_of_smart}, declared.front.{Front.Front, Heard.Heard}}
use Rattle.ata_front.specs.declared.task.{Owed.Owed, Task.Task, Trouble.Trouble}
use Rattle.ata_front.specs.declared.task.Owed.TheVariants as owe
use Rattle.ata_front.specs.declared.task.Purpose.TheVariants as purpose
use Rattle.ata_front.specs.declared.task.Task.TheVariants as tasks
use Rattle.disk_pages.specs.Profiles.{facts_of}
use Rattle.sata_disk.specs.{Hearing.{asked_of, command_told, data_by, discarding, fis_heard, is_command, ranges_of}, Sending.{IsOut, after_sent}}
use Rattle.sata_disk.specs.{Sending.{is_done, single_front, trouble_at}, State.{DiskState, commands, tags_of}, declared.out.Out.Out}
use Rattle.sata_disk.specs.declared.out.Out.TheVariants as out
use Rattle.sata_disk_laws.specs.Calls as call
use Rattle.sata_disk_laws.specs.Calls.{Call, after_call}

abbrev pub IsNoSetUp : Reply → Type 0
IsNoSetUp (replies.SetUp s) = ⊥
IsNoSetUp other = Unit {0}

-- ## What a front owes

abbrev Plain : Task → Type 0
Plain (tasks.Owes r) = IsNoSetUp r
Plain other = Unit {0}

abbrev pub IsPlain : Front → Type 0
IsPlain f = Plain f.task

set_plain : (f : Front) (s : Setting) → IsPlain (set_by f s).front
set_plain f (setting.WriteCache false) = tt
set_plain f other = tt

moves_plain : (m : Move) (b : Bool) (t : Task) → Plain t → Plain (if b then tasks.Owes replies.Accepted else t)
moves_plain m true t is = tt
moves_plain m false t is = is

log_plain : (p : LogPage) (b : Bool) (a c : Task) → Plain a → Plain c → Plain (if b then a else c)
log_plain p true a c one two = one
log_plain p false a c one two = two

smart_plain : (t : SmartTask) → Plain (task_of_smart t)
smart_plain smart.ReadData = tt
smart_plain other = tt

standby_plain : (b : Bool) (one two : Heard) → IsPlain one.front → IsPlain two.front → IsPlain (if b then one else two).front
standby_plain true one two first second = first
standby_plain false one two first second = second

power_plain : (f : Front) (t : PowerTask) → IsPlain (taken_power f t).front
power_plain f power.Standby = standby_plain f.settings.write_cache (taken_flush f purpose.Flush) (leaves f (tasks.Owes replies.Done)) tt tt
power_plain f other = tt

refused_plain : (f : Front) (r : Refusal) (tag : Option ℕ) → IsPlain (refused_by f r tag).front
refused_plain f r None = tt
refused_plain f r (Some tag) = tt

taken_plain : (f : Front) (a : Asked) → IsPlain (taken f a).front
taken_plain f (ask.Moves m) = moves_plain m (nat_lt m.command.place 32) _ tt
taken_plain f (ask.Sets s) = set_plain f s
taken_plain f (ask.ReadsLog p) = log_plain p p.dma _ _ tt tt
taken_plain f (ask.Smart t) = smart_plain t
taken_plain f (ask.Power t) = power_plain f t
taken_plain f (ask.Refused r) = refused_plain f r r.tag
taken_plain f other = tt

commanded_plain : (f : Front) (a : Asked) (c : Course) → IsPlain f → IsPlain (commanded_by f a c).front
commanded_plain f a Drop is = is
commanded_plain f a Take is = taken_plain f a
commanded_plain f a other is = tt

front_if : (b : Bool) (one two : Front) → IsPlain one → IsPlain two → IsPlain (if b then one else two)
front_if true one two first second = first
front_if false one two first second = second

controlled_plain : (f : Front) (srst : Bool) → IsPlain f → IsPlain (controlled f srst).front
controlled_plain f true is = tt
controlled_plain f false is = front_if f.in_reset _ f tt is

discard_plain : (f : Front) (b : Bool) → IsPlain (after_discard f b)
discard_plain f true = tt
discard_plain f false = tt

said_plain : (f : Front) (t : Task) → IsPlain f → IsPlain (said_by f t)
said_plain f (tasks.Owes r) is = tt
said_plain f (tasks.Announces p) is = tt
said_plain f (tasks.Activates blocks) is = tt
said_plain f (tasks.Gives p) is = tt
said_plain f (tasks.Sends p) is = tt
said_plain f other is = is

less_plain : (t : Task) (ended : Bool) (sectors : ℕ) → Plain (task_less t ended sectors)
less_plain (tasks.Moves m) false sectors = tt
less_plain t ended sectors = tt

single_plain : (f : Front) (t : Task) (ended : Bool) (sectors : ℕ) → IsPlain f → IsPlain (single_front f t ended sectors)
single_plain f (tasks.Moves m) ended sectors is = less_plain f.task ended sectors
single_plain f other ended sectors is = is

-- ## A disk

told_plain : (d : DiskState) (f : List ℕ) (b : Bool) → IsPlain d.front → IsPlain (if b then command_told d f else controlled d.front (resets f)).front
told_plain d f true is = commanded_plain d.front (asked_of d f) (course (asked_of d f) (standing d.front (tags_of (commands d)))) is
told_plain d f false is = controlled_plain d.front (resets f) is

range_plain : (d : DiskState) (x : Option (List Range)) → IsPlain (discarding d x).front
range_plain d None = discard_plain d.front false
range_plain d (Some ranges) = discard_plain d.front true

data_plain : (d : DiskState) (x : Option ℕ) (bytes : List ℕ) → IsPlain d.front → IsPlain (data_by d x bytes).front
data_plain d None bytes is = is
data_plain d (Some blocks) bytes is = range_plain d (ranges_of blocks (facts_of d.profile).sectors bytes)

fis_plain : (d : DiskState) (r : Result Fis FisFault) → IsPlain d.front → IsPlain (fis_heard d r).front
fis_plain d (Ok (view.RegH2D f)) is = told_plain d f (is_command f) is
fis_plain d (Ok (view.Payload f)) is = data_plain d (heard_data d.front.task) (drop 4 f) is
fis_plain d other is = is

part_plain : (d : DiskState) (p n : ℕ) → IsPlain d.front → IsPlain (after_sent d (out.Data p n)).front
part_plain d p n is =
    front_if (nat_lt p 32) _ _ (front_if (ends_all (commands d) p) _ d.front is is)
    (single_plain d.front d.front.task _ _ is)

out_plain : (d : DiskState) (o : Out) → IsPlain d.front → IsPlain (after_sent d o).front
out_plain d (out.Beside r) is = tt
out_plain d (out.Ends tags) is = is
out_plain d (out.Of p r) is =
    front_if (nat_lt p 32) _ _ (front_if (ends_all (commands d) p) _ d.front is is)
    (single_plain d.front d.front.task _ _ is)
out_plain d (out.Data p n) is = part_plain d p n is
out_plain d other is = said_plain d.front d.front.task is

pub call_plain : (d : DiskState) (c : Call) → IsPlain d.front → IsPlain (after_call d c).front
call_plain d call.Plugs is = tt
call_plain d (call.Hears f) is = fis_plain d (seen f) is
call_plain d (call.Sends o) is = out_plain d o is
call_plain d other is = is

-- ## Its FISes

abbrev reply_or : Reply → Option Owed → Reply
reply_or r (Some (owe.Reply x)) = x
reply_or r other = r

owed_plain : (t : Task) (r : Reply) → Plain t → owed t ≡ Some (owe.Reply r) → IsNoSetUp r
owed_plain (tasks.Owes x) r is e = subst IsNoSetUp (ap (reply_or x) e) is
owed_plain (tasks.Announces p) r is e = subst IsNoSetUp (ap (reply_or replies.Done) e) tt
owed_plain (tasks.Activates blocks) r is e = subst IsNoSetUp (ap (reply_or replies.Done) e) tt
owed_plain other r is e = absurd (cc)

over_plain : (b : Bool) (t : Trouble) → IsNoSetUp (over b t)
over_plain true t = tt
over_plain false t = tt

-- by a FIS that is of no command at its place
abbrev pub SetsUpNone : Out → Type 0
SetsUpNone (out.Own r) = IsNoSetUp r
SetsUpNone (out.Beside r) = IsNoSetUp r
SetsUpNone other = Unit {0}

pub sets_up_none : (d : DiskState) (o : Out) → IsPlain d.front → IsOut d (Some o) → SetsUpNone o
sets_up_none d (out.Own r) plain is = owed_plain d.front.task r plain is
sets_up_none d (out.Beside r) plain is = subst IsNoSetUp (sym is.2) (over_plain (is_done d.engine.stage) (trouble_at d.engine 32))
sets_up_none d other plain is = tt
