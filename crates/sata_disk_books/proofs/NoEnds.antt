-- What a disk owes of itself, and what a command says alone, is no end of a queued command.
use Rattle.std.proofs.Common.{◌≡◌, ℕ, true, false, List, [], ◌∷◌, drop, Some, None, sym, ap, subst}
use Rattle.std.specs.{Prelude.{Option, Bool, nat_lt, if◌then◌else◌, Result, Ok}, Option.option_map}
use Rattle.fis_view.specs.{Seen.seen, declared.view.{Fis.Fis, FisFault.FisFault}}
use Rattle.fis_view.specs.declared.view.Fis.TheVariants as view
use Rattle.block_command.specs.{declared.command.{Protocol.Protocol, Turn.Turn}, Moments.{Moment, turn_of}}
use Rattle.block_command.specs.declared.command.Protocol.TheVariants as protocol
use Rattle.block_command.specs.declared.command.Turn.TheVariants as turn
use Rattle.block_queue.specs.Line.{command_at}
use Rattle.block_scheduler.specs.Schedule.{ends_all}
use Rattle.block_engine.specs.declared.request.Range.{Range}
use Rattle.ata_reply.specs.declared.reply.Reply.{Reply}
use Rattle.ata_reply.specs.declared.reply.Reply.TheVariants as replies
use Rattle.ata_command.specs.declared.asked.{Asked.Asked, LogPage.LogPage, Move.Move, PowerTask.PowerTask, Refusal.Refusal, SmartTask.SmartTask}
use Rattle.ata_command.specs.{declared.{control.Course.{Course, TheVariants.{Drop, Take}}, settings.Setting.Setting}, Courses.{course, resets}}
use Rattle.ata_command.specs.declared.asked.Asked.TheVariants as ask
use Rattle.ata_command.specs.declared.asked.PowerTask.TheVariants as power
use Rattle.ata_command.specs.declared.asked.SmartTask.TheVariants as smart
use Rattle.ata_command.specs.declared.settings.Setting.TheVariants as setting
use Rattle.ata_front.specs.{CommandFis.{asks_by, command_reply, reply_by}, Fronts.{after_discard, commanded_by, controlled, heard_data, leaves, over}}
use Rattle.ata_front.specs.Fronts.{owed, refused_by, said_by, set_by, standing, taken, taken_flush, taken_power, task_less, task_of_smart}
use Rattle.ata_front.specs.declared.{front.{Front.Front, Heard.Heard}, task.{Owed.Owed, Task.Task, Trouble.Trouble}}
use Rattle.ata_front.specs.declared.task.Owed.TheVariants as owe
use Rattle.ata_front.specs.declared.task.Purpose.TheVariants as purpose
use Rattle.ata_front.specs.declared.task.Task.TheVariants as tasks
use Rattle.disk_pages.specs.Profiles.{facts_of}
use Rattle.sata_disk.specs.{Hearing.{asked_of, command_told, data_by, discarding, fis_heard, is_command, ranges_of}, Sending.{after_sent, is_data}}
use Rattle.sata_disk.specs.{Sending.{is_done, moving_of, out_at, out_by, single_front, trouble_at}, State.{DiskState, commands, new_disk, tags_of}}
use Rattle.sata_disk.specs.declared.out.Out.{Out}
use Rattle.sata_disk.specs.declared.out.Out.TheVariants as out
use Rattle.sata_disk_laws.specs.Calls as call
use Rattle.sata_disk_laws.specs.{Calls.{Call, after_call, after_calls}, Laws.reached}
use Rattle.sata_disk_books.specs.Ended.{IsNoEnd, NamesNone, OnlyEndsEnd}

-- ## What a front owes

abbrev Plain : Task → Type 0
Plain (tasks.Owes r) = IsNoEnd r
Plain other = Unit {0}

abbrev IsPlain : Front → Type 0
IsPlain f = Plain f.task

set_plain : (f : Front) (s : Setting) → IsPlain (set_by f s).front
set_plain f (setting.WriteCache false) = tt
set_plain f other = tt

moves_plain : (m : Move) (b : Bool) (t : Task) → Plain t → Plain (if b then tasks.Owes replies.Accepted else t)
moves_plain m true t is = tt
moves_plain m false t is = is

log_plain : (p : LogPage) (b : Bool) (a c : Task) → Plain a → Plain c → Plain (if b then a else c)
log_plain p true a c one two = one
log_plain p false a c one two = two

smart_plain : (t : SmartTask) → Plain (task_of_smart t)
smart_plain smart.ReadData = tt
smart_plain other = tt

standby_plain : (b : Bool) (one two : Heard) → IsPlain one.front → IsPlain two.front → IsPlain (if b then one else two).front
standby_plain true one two first second = first
standby_plain false one two first second = second

power_plain : (f : Front) (t : PowerTask) → IsPlain (taken_power f t).front
power_plain f power.Standby = standby_plain f.settings.write_cache (taken_flush f purpose.Flush) (leaves f (tasks.Owes replies.Done)) tt tt
power_plain f other = tt

refused_plain : (f : Front) (r : Refusal) (tag : Option ℕ) → IsPlain (refused_by f r tag).front
refused_plain f r None = tt
refused_plain f r (Some tag) = tt

taken_plain : (f : Front) (a : Asked) → IsPlain (taken f a).front
taken_plain f (ask.Moves m) = moves_plain m (nat_lt m.command.place 32) _ tt
taken_plain f (ask.Sets s) = set_plain f s
taken_plain f (ask.ReadsLog p) = log_plain p p.dma _ _ tt tt
taken_plain f (ask.Smart t) = smart_plain t
taken_plain f (ask.Power t) = power_plain f t
taken_plain f (ask.Refused r) = refused_plain f r r.tag
taken_plain f other = tt

commanded_plain : (f : Front) (a : Asked) (c : Course) → IsPlain f → IsPlain (commanded_by f a c).front
commanded_plain f a Drop is = is
commanded_plain f a Take is = taken_plain f a
commanded_plain f a other is = tt

front_if : (b : Bool) (one two : Front) → IsPlain one → IsPlain two → IsPlain (if b then one else two)
front_if true one two first second = first
front_if false one two first second = second

controlled_plain : (f : Front) (srst : Bool) → IsPlain f → IsPlain (controlled f srst).front
controlled_plain f true is = tt
controlled_plain f false is = front_if f.in_reset _ f tt is

discard_plain : (f : Front) (b : Bool) → IsPlain (after_discard f b)
discard_plain f true = tt
discard_plain f false = tt

said_plain : (f : Front) (t : Task) → IsPlain f → IsPlain (said_by f t)
said_plain f (tasks.Owes r) is = tt
said_plain f (tasks.Announces p) is = tt
said_plain f (tasks.Activates blocks) is = tt
said_plain f (tasks.Gives p) is = tt
said_plain f (tasks.Sends p) is = tt
said_plain f other is = is

less_plain : (t : Task) (ended : Bool) (sectors : ℕ) → Plain (task_less t ended sectors)
less_plain (tasks.Moves m) false sectors = tt
less_plain t ended sectors = tt

single_plain : (f : Front) (t : Task) (ended : Bool) (sectors : ℕ) → IsPlain f → IsPlain (single_front f t ended sectors)
single_plain f (tasks.Moves m) ended sectors is = less_plain f.task ended sectors
single_plain f other ended sectors is = is

-- ## A disk

told_plain : (d : DiskState) (f : List ℕ) (b : Bool) → IsPlain d.front → IsPlain (if b then command_told d f else controlled d.front (resets f)).front
told_plain d f true is = commanded_plain d.front (asked_of d f) (course (asked_of d f) (standing d.front (tags_of (commands d)))) is
told_plain d f false is = controlled_plain d.front (resets f) is

range_plain : (d : DiskState) (x : Option (List Range)) → IsPlain (discarding d x).front
range_plain d None = discard_plain d.front false
range_plain d (Some ranges) = discard_plain d.front true

data_plain : (d : DiskState) (x : Option ℕ) (bytes : List ℕ) → IsPlain d.front → IsPlain (data_by d x bytes).front
data_plain d None bytes is = is
data_plain d (Some blocks) bytes is = range_plain d (ranges_of blocks (facts_of d.profile).sectors bytes)

fis_plain : (d : DiskState) (r : Result Fis FisFault) → IsPlain d.front → IsPlain (fis_heard d r).front
fis_plain d (Ok (view.RegH2D f)) is = told_plain d f (is_command f) is
fis_plain d (Ok (view.Payload f)) is = data_plain d (heard_data d.front.task) (drop 4 f) is
fis_plain d other is = is

part_plain : (d : DiskState) (p n : ℕ) → IsPlain d.front → IsPlain (after_sent d (out.Data p n)).front
part_plain d p n is =
    front_if (nat_lt p 32) _ _ (front_if (ends_all (commands d) p) _ d.front is is)
    (single_plain d.front d.front.task _ _ is)

out_plain : (d : DiskState) (o : Out) → IsPlain d.front → IsPlain (after_sent d o).front
out_plain d (out.Beside r) is = tt
out_plain d (out.Ends tags) is = is
out_plain d (out.Of p r) is =
    front_if (nat_lt p 32) _ _ (front_if (ends_all (commands d) p) _ d.front is is)
    (single_plain d.front d.front.task _ _ is)
out_plain d (out.Data p n) is = part_plain d p n is
out_plain d other is = said_plain d.front d.front.task is

call_plain : (d : DiskState) (c : Call) → IsPlain d.front → IsPlain (after_call d c).front
call_plain d call.Plugs is = tt
call_plain d (call.Hears f) is = fis_plain d (seen f) is
call_plain d (call.Sends o) is = out_plain d o is
call_plain d other is = is

all_plain : (calls : List Call) (d : DiskState) → IsPlain d.front → IsPlain (after_calls d calls).front
unfolding after_calls
all_plain [] d is = is
all_plain (c ∷ later) d is = all_plain later (after_call d c) (call_plain d c is)

-- ## Its FISes

abbrev reply_or : Reply → Option Owed → Reply
reply_or r (Some (owe.Reply x)) = x
reply_or r other = r

owed_plain : (t : Task) (r : Reply) → Plain t → owed t ≡ Some (owe.Reply r) → IsNoEnd r
owed_plain (tasks.Owes x) r is e = subst IsNoEnd (ap (reply_or x) e) is
owed_plain (tasks.Announces p) r is e = subst IsNoEnd (ap (reply_or replies.Done) e) tt
owed_plain (tasks.Activates blocks) r is e = subst IsNoEnd (ap (reply_or replies.Done) e) tt
owed_plain other r is e = absurd (cc)

-- the reply of a command that says it alone
asks_plain : (m : Moment) (p : Protocol) → IsNoEnd (asks_by m p)
asks_plain m protocol.Pio = tt
asks_plain m other = tt

reply_if : (b : Bool) (one two : Reply) → IsNoEnd one → IsNoEnd two → IsNoEnd (if b then one else two)
reply_if true one two first second = first
reply_if false one two first second = second

abbrev IsNoEndIf : Option Reply → Type 0
IsNoEndIf None = Unit {0}
IsNoEndIf (Some r) = IsNoEnd r

turn_plain : (m : Moment) (t : Turn) (left : ℕ) (x : Trouble) (wide : Bool) → IsNoEndIf (reply_by m t left x wide)
turn_plain m turn.SetUp left x wide = tt
turn_plain m turn.Announce left x wide = tt
turn_plain m turn.Activate left x wide = asks_plain m m.command.protocol
turn_plain m turn.End left x wide = tt
turn_plain m turn.Fail left x wide = reply_if (nat_lt m.command.place 32) _ _ tt tt
turn_plain m other left x wide = tt

abbrev NamesNoneIf : Option Out → Type 0
NamesNoneIf None = Unit {0}
NamesNoneIf (Some o) = NamesNone o

of_plain : (p : ℕ) (r : Option Reply) → IsNoEndIf r → NamesNoneIf (option_map (λ x. out.Of p x) r)
of_plain p None is = tt
of_plain p (Some r) is = is

by_plain : (d : DiskState) (p : ℕ) (m : Moment) (b : Bool) → NamesNoneIf (out_by d p m b)
by_plain d p m true = tt
by_plain d p m false =
    of_plain p (command_reply m (moving_of d.front.task).left (trouble_at d.engine p) (moving_of d.front.task).wide)
    (turn_plain m (turn_of m.stage) (moving_of d.front.task).left (trouble_at d.engine p) (moving_of d.front.task).wide)

at_plain : (d : DiskState) (p : ℕ) (x : Option Moment) → NamesNoneIf (out_at d p x)
at_plain d p None = tt
at_plain d p (Some m) = by_plain d p m (is_data (turn_of m.stage))

over_plain : (b : Bool) (t : Trouble) → IsNoEnd (over b t)
over_plain true t = tt
over_plain false t = tt

pub only_ends_end : OnlyEndsEnd
only_ends_end p limit calls (out.Own r) is = owed_plain (reached p limit calls).front.task r (all_plain calls (new_disk p limit) tt) is
only_ends_end p limit calls (out.Beside r) is =
    subst IsNoEnd (sym is.2) (over_plain (is_done (reached p limit calls).engine.stage) (trouble_at (reached p limit calls).engine 32))
only_ends_end p limit calls (out.Of place r) is =
    subst NamesNoneIf (sym is.3) (at_plain (reached p limit calls) place (command_at (commands (reached p limit calls)) place))
only_ends_end p limit calls other is = tt
