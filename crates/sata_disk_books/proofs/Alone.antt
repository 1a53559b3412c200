-- While a disk is at work on a command that is not queued, and while an error stands, no queued command is under way.
use Rattle.std.proofs.{Common.{◌≡◌, ℕ, ◌/◌, true, false, List, [], ◌∷◌, drop, Some, None, refl, sym, ap, ◌∙◌, arith}, lemmas.Bool.{eqb-true}}
use Rattle.std.proofs.lemmas.{Bool.{ltb-false}, List.{get_or-set_other}}
use Rattle.std.specs.Prelude.{Option, Bool, is_some, nat_lt, ◌==◌, ◌&&◌, if◌then◌else◌, Result, Ok}
use Rattle.fis_view.specs.{Seen.seen as view_seen, declared.view.{Fis.Fis, FisFault.FisFault}}
use Rattle.fis_view.specs.declared.view.Fis.TheVariants as view
use Rattle.block_command.specs.{declared.command.Command.Command, Moments.opening}
use Rattle.block_disk.specs.{Requests.with_table, Table.{is_under_way, with_command}}
use Rattle.block_queue.specs.Line.{Line, command_at, line_gone, line_reset}
use Rattle.block_scheduler.specs.Schedule.{Schedule, ends_all, with_line}
use Rattle.block_engine.specs.{declared.request.Range.Range, Engine.line}
use Rattle.ata_command.specs.{Courses.{course, is_error_log, resets, stands_beside, tag_course}, declared.asked.{Asked.Asked, Move.Move}}
use Rattle.ata_command.specs.declared.{asked.{PowerTask.PowerTask, Refusal.Refusal}, control.Course.TheVariants.{AbortAll, Refuse, Take}}
use Rattle.ata_command.specs.declared.{control.Standing.Standing, settings.Setting.Setting}
use Rattle.ata_command.specs.declared.asked.Asked.TheVariants as ask
use Rattle.ata_command.specs.declared.asked.PowerTask.TheVariants as power
use Rattle.ata_command.specs.declared.control.Standing.TheVariants as stand
use Rattle.ata_command.specs.declared.settings.Setting.TheVariants as setting
use Rattle.ata_front.specs.Fronts.{commanded_by, controlled, heard_data, leaves, queued_failed, refused_by, said_by, set_by, standing, taken}
use Rattle.ata_front.specs.{Fronts.{taken_flush, taken_power}, declared.{front.{Front.Front, Heard.Heard}, task.{Fault.Fault, Task.Task}}}
use Rattle.ata_front.specs.declared.task.Act.TheVariants as act
use Rattle.ata_front.specs.declared.task.Purpose.TheVariants as purpose
use Rattle.ata_front.specs.declared.task.Task.TheVariants as tasks
use Rattle.ata_reply.specs.declared.reply.Reply.TheVariants as replies
use Rattle.disk_pages.specs.{Profiles.facts_of, declared.profile.Profile.Profile}
use Rattle.sata_disk.specs.{State.{DiskState, commands, new_disk, tags_of}, Hearing.{asked_of, command_told, data_by, discarding, engine_acted}}
use Rattle.sata_disk.specs.{Hearing.{fis_heard, is_command, ranges_of}, Sending.{after_sent, front_sent, place_sent, single_front, trouble_at}}
use Rattle.sata_disk.specs.declared.out.Out.{Out}
use Rattle.sata_disk.specs.declared.out.Out.TheVariants as out
use Rattle.sata_disk_laws.specs.Calls as call
use Rattle.sata_disk_laws.specs.Calls.{Call, after_call, after_calls}
use Rattle.sata_disk_books.proofs.{Asked.{ask_none, data_none, out_none, start_none}, Lone.{NoTags, call_free, error_fault, fis_free, gone_free}}
use Rattle.sata_disk_books.proofs.Lone.{no_tags, none, queued_fault, reset_free, sent_free}

-- the host waits for something, and nothing is owed to it by a Register FIS alone
abbrev pub is_at_work : Task → Bool
is_at_work tasks.Idle = false
is_at_work (tasks.Owes r) = false
is_at_work t = true

pub record IsAlone (f : Front) (l : Line) : Type 0 where
  pub working : is_at_work f.task ≡ true → NoTags l
  pub faulty : is_some f.fault ≡ true → NoTags l

abbrev AloneAfter : DiskState → Heard → Type 0
AloneAfter d h = IsAlone h.front (line (engine_acted d.engine h.act))

all_alone : (f : Front) (l : Line) → NoTags l → IsAlone f l
all_alone f l never = record { working = λ e. never; faulty = λ e. never }

-- ## A command comes

takes_case : (l : Line) (c : Command) (ranks : List ℕ) (b d : Bool) → nat_lt c.place 32 ≡ false → NoTags l
    → NoTags (if b then l else record l { queue = with_table l.queue (if d then l.queue.table else with_command l.queue.table c.place (Some (opening c))); ranks = ranks })
takes_case l c ranks true d high free = free
takes_case l c ranks false true high free = free
takes_case l c ranks false false high free = λ t low.
    ap is_under_way (get_or-set_other l.queue.table.places c.place t (Some (opening c)) None (λ same. let most = ltb-false c.place 32 high in omega (arith, low, same, most))) ∙ free t low

-- a queued command is accepted, any other is alone
moves_case : (d : DiskState) (m : Move) (b : Bool) → nat_lt m.command.place 32 ≡ b → d.front.fault ≡ None → (b ≡ false → NoTags (line d.engine))
    → IsAlone (record d.front { task = if b then tasks.Owes replies.Accepted else tasks.Moves (record { wide = m.wide; left = m.command.count }) }) (line (engine_acted d.engine (act.Takes m.command)))
moves_case d m true is clear free = record { working = λ e. absurd (cc); faulty = λ e. absurd (let never = sym (ap (λ (x : Option Fault). is_some x) clear) ∙ e in cc) }
moves_case d m false is clear free = all_alone _ _ (takes_case (line d.engine) m.command _ (is_under_way (command_at (line d.engine) m.command.place)) _ is (free refl))

set_alone : (d : DiskState) (s : Setting) → NoTags (line d.engine) → AloneAfter d (set_by d.front s)
set_alone d (setting.WriteCache false) free = all_alone _ _ free
set_alone d (setting.WriteCache true) free = all_alone _ _ free
set_alone d (setting.LookAhead on) free = all_alone _ _ free
set_alone d (setting.AutoActivate on) free = all_alone _ _ free
set_alone d (setting.Mode mode) free = all_alone _ _ free
set_alone d (setting.Reverts on) free = all_alone _ _ free

standby_alone : (d : DiskState) (b : Bool) → NoTags (line d.engine)
    → AloneAfter d (if b then taken_flush d.front purpose.Flush else leaves d.front (tasks.Owes replies.Done))
standby_alone d true free = all_alone _ _ free
standby_alone d false free = all_alone _ _ free

power_alone : (d : DiskState) (t : PowerTask) → NoTags (line d.engine) → AloneAfter d (taken_power d.front t)
power_alone d power.Check free = all_alone _ _ free
power_alone d power.Idle free = all_alone _ _ free
power_alone d power.Standby free = standby_alone d d.front.settings.write_cache free

refused_alone : (d : DiskState) (r : Refusal) (tag : Option ℕ) → IsAlone d.front (line d.engine) → AloneAfter d (refused_by d.front r tag)
refused_alone d r None was = record { working = λ e. absurd (cc); faulty = was.faulty }
refused_alone d r (Some tag) was = all_alone _ _ (reset_free (line d.engine))

abbrev is_move : Asked → Bool
is_move (ask.Moves m) = true
is_move _ = false

-- what may stand beside queued commands: another one, or what is refused
abbrev is_beside : Asked → Bool
is_beside (ask.Moves m) = nat_lt m.command.place 32
is_beside (ask.Refused r) = true
is_beside _ = false

taken_alone : (d : DiskState) (a : Asked) → (is_move a ≡ true → d.front.fault ≡ None) → (is_beside a ≡ false → NoTags (line d.engine))
    → IsAlone d.front (line d.engine)
    → AloneAfter d (taken d.front a)
taken_alone d (ask.Moves m) clear free was = moves_case d m (nat_lt m.command.place 32) refl (clear refl) free
taken_alone d ask.Flushes clear free was = all_alone _ _ (free refl)
taken_alone d (ask.Sets s) clear free was = set_alone d s (free refl)
taken_alone d (ask.SetsMultiple m) clear free was = all_alone _ _ (free refl)
taken_alone d (ask.Trims blocks) clear free was = all_alone _ _ (free refl)
taken_alone d ask.Identifies clear free was = all_alone _ _ (free refl)
taken_alone d (ask.ReadsLog p) clear free was = all_alone _ _ (free refl)
taken_alone d (ask.Smart t) clear free was = all_alone _ _ (free refl)
taken_alone d (ask.Power t) clear free was = power_alone d t (free refl)
taken_alone d (ask.Refused r) clear free was = refused_alone d r r.tag was

-- where an error stands
no_move : (a : Asked) → is_error_log a ≡ true → is_move a ≡ true → ⊥
no_move (ask.Moves m) e f = cc
no_move a e f = cc

error_alone : (d : DiskState) (a : Asked) (b : Bool) → is_error_log a ≡ b → NoTags (line d.engine) → IsAlone d.front (line d.engine)
    → AloneAfter d (commanded_by d.front a (if b then Take else Refuse))
error_alone d a true e free was = taken_alone d a (λ m. absurd (no_move a e m)) (λ r. free) was
error_alone d a false e free was = record { working = λ e. absurd (cc); faulty = was.faulty }

first_and : (a b : Bool) → (a && b) ≡ true → a ≡ true
first_and true b e = refl
first_and false b e = absurd (cc)

no_other : (a : Asked) (tags : ℕ) → stands_beside a tags ≡ true → is_beside a ≡ false → ⊥
no_other (ask.Moves m) tags e f = let low = first_and (nat_lt m.command.place 32) _ e in let both = sym low ∙ f in cc
no_other (ask.Refused r) tags e f = cc
no_other a tags e f = cc

beside_alone : (d : DiskState) (a : Asked) (tags : ℕ) (b : Bool) → stands_beside a tags ≡ b → d.front.fault ≡ None → IsAlone d.front (line d.engine)
    → AloneAfter d (commanded_by d.front a (if b then Take else AbortAll))
beside_alone d a tags true e clear was = taken_alone d a (λ m. clear) (λ r. absurd (no_other a tags e r)) was
beside_alone d a tags false e clear was = all_alone _ _ (reset_free (line d.engine))

queued_alone : (d : DiskState) (a : Asked) (tags : ℕ) (b : Bool) → (tags == 0) ≡ b → tags_of (commands d) ≡ tags → d.front.fault ≡ None → IsAlone d.front (line d.engine)
    → AloneAfter d (commanded_by d.front a (if b then Take else tag_course a tags))
queued_alone d a tags true e same clear was = taken_alone d a (λ m. clear) (λ r. no_tags (commands d) (same ∙ eqb-true tags 0 e)) was
queued_alone d a tags false e same clear was = beside_alone d a tags (stands_beside a tags) refl clear was

course_alone : (d : DiskState) (a : Asked) (s : Standing) → standing d.front (tags_of (commands d)) ≡ s → IsAlone d.front (line d.engine)
    → AloneAfter d (commanded_by d.front a (course a s))
course_alone d a stand.Reset e was = was
course_alone d a stand.Single e was = was
course_alone d a stand.Error e was =
    error_alone d a (is_error_log a) refl (was.faulty (error_fault d.front.in_reset d.front.task d.front.fault (tags_of (commands d)) e)) was
course_alone d a (stand.Queued tags) e was =
    let both = queued_fault d.front.in_reset d.front.task d.front.fault (tags_of (commands d)) tags e in
    queued_alone d a tags (tags == 0) refl both.1 both.0 was

control_case : (d : DiskState) (b : Bool) → IsAlone d.front (line d.engine)
    → IsAlone (if b then record d.front { task = tasks.Owes replies.Signature; in_reset = false } else d.front) (line d.engine)
control_case d true was = record { working = λ e. absurd (cc); faulty = was.faulty }
control_case d false was = was

control_alone : (d : DiskState) (srst : Bool) → IsAlone d.front (line d.engine) → AloneAfter d (controlled d.front srst)
control_alone d true was = all_alone _ _ (reset_free (line d.engine))
control_alone d false was = control_case d d.front.in_reset was

register_alone : (d : DiskState) (f : List ℕ) (b : Bool) → IsAlone d.front (line d.engine)
    → AloneAfter d (if b then command_told d f else controlled d.front (resets f))
register_alone d f true was = course_alone d (asked_of d f) (standing d.front (tags_of (commands d))) refl was
register_alone d f false was = control_alone d (resets f) was

-- ## Each call

kept : (f : Front) (old new : Line) → (NoTags old → NoTags new) → IsAlone f old → IsAlone f new
kept f old new free was = record { working = λ e. free (was.working e); faulty = λ e. free (was.faulty e) }

range_alone : (d : DiskState) (x : Option (List Range)) → NoTags (commands d) → IsAlone (discarding d x).front (commands (discarding d x))
range_alone d None free = all_alone _ _ free
range_alone d (Some ranges) free = all_alone _ _ free

waits_data : (t : Task) (blocks : ℕ) → heard_data t ≡ Some blocks → is_at_work t ≡ true
waits_data (tasks.Expects n) blocks e = refl
waits_data t blocks e = absurd (cc)

data_alone : (d : DiskState) (x : Option ℕ) (bytes : List ℕ) → heard_data d.front.task ≡ x → (NoTags (commands d) → NoTags (commands (data_by d x bytes)))
    → IsAlone d.front (commands d)
    → IsAlone (data_by d x bytes).front (commands (data_by d x bytes))
data_alone d None bytes e free was = kept d.front (commands d) (commands (data_by d None bytes)) free was
data_alone d (Some blocks) bytes e free was = range_alone d (ranges_of blocks (facts_of d.profile).sectors bytes) (was.working (waits_data d.front.task blocks e))

fis_alone : (d : DiskState) (f : List ℕ) (r : Result Fis FisFault) → view_seen f ≡ r → IsAlone d.front (commands d)
    → IsAlone (fis_heard d r).front (commands (fis_heard d r))
fis_alone d f (Ok (view.RegH2D g)) e was = register_alone d g (is_command g) was
fis_alone d f (Ok (view.Payload g)) e was =
    data_alone d (heard_data d.front.task) (drop 4 g) refl (fis_free d f (Ok (view.Payload g)) e (data_none none d (heard_data d.front.task) (drop 4 g))) was
fis_alone d f other e was = was

said_alone : (f : Front) (t : Task) (l : Line) → f.task ≡ t → IsAlone f l → IsAlone (said_by f t) l
said_alone f (tasks.Owes r) l e was = record { working = λ e. absurd (cc); faulty = was.faulty }
said_alone f (tasks.Announces p) l e was = all_alone _ l (was.working (ap is_at_work e))
said_alone f (tasks.Activates blocks) l e was = all_alone _ l (was.working (ap is_at_work e))
said_alone f (tasks.Gives p) l e was = all_alone _ l (was.working (ap is_at_work e))
said_alone f (tasks.Sends p) l e was = all_alone _ l (was.working (ap is_at_work e))
said_alone f other l e was = was

single_alone : (f : Front) (t : Task) (ended : Bool) (sectors : ℕ) (l : Line) → f.task ≡ t → IsAlone f l → IsAlone (single_front f t ended sectors) l
single_alone f (tasks.Moves m) ended sectors l e was = all_alone _ l (was.working (ap is_at_work e))
single_alone f other ended sectors l e was = was

failed_case : (f g : Front) (s : Schedule) (p : ℕ) (b : Bool) → (NoTags s.line → NoTags (line_gone s.line p)) → IsAlone f s.line
    → IsAlone (if b then g else f) (if b then record s { line = line_reset (line_gone s.line p); fault = Some p } else with_line s (line_gone s.line p)).line
failed_case f g s p true free was = all_alone g _ (reset_free (line_gone s.line p))
failed_case f g s p false free was = kept f s.line (line_gone s.line p) free was

place_case : (one two : Front) (l : Line) (b : Bool) → IsAlone one l → IsAlone two l → IsAlone (if b then one else two) l
place_case one two l true first second = first
place_case one two l false first second = second

sent_alone : (d : DiskState) (p sectors : ℕ) → IsAlone d.front (commands d) → IsAlone (front_sent d p sectors) (line (place_sent d.engine p))
sent_alone d p sectors was =
    let s : Schedule = d.engine.schedule in
    place_case _ _ (line (place_sent d.engine p)) (nat_lt p 32)
    (failed_case d.front (queued_failed d.front p (trouble_at d.engine p)) s p (ends_all s.line p) (gone_free s.line p) was)
    (single_alone d.front d.front.task _ sectors (line (place_sent d.engine p)) refl (kept d.front (commands d) (line (place_sent d.engine p)) (sent_free s p (ends_all s.line p)) was))

out_alone : (d : DiskState) (o : Out) → IsAlone d.front (commands d) → IsAlone (after_sent d o).front (commands (after_sent d o))
out_alone d (out.Own r) was = said_alone d.front d.front.task (commands d) refl was
out_alone d (out.Page p) was = said_alone d.front d.front.task (commands d) refl was
out_alone d (out.Beside r) was = record { working = λ e. absurd (cc); faulty = was.faulty }
out_alone d (out.Ends tags) was = kept d.front (commands d) _ (call_free d (call.Sends (out.Ends tags)) (out_none none (out.Ends tags))) was
out_alone d (out.Of p r) was = sent_alone d p 0 was
out_alone d (out.Data p n) was = sent_alone d p (n / 512) was

pub call_alone : (d : DiskState) (c : Call) → IsAlone d.front (commands d) → IsAlone (after_call d c).front (commands (after_call d c))
call_alone d call.Plugs was = all_alone _ _ (reset_free (commands d))
call_alone d (call.Hears f) was = fis_alone d f (view_seen f) refl was
call_alone d (call.Starts x) was = kept d.front (commands d) _ (call_free d (call.Starts x) (start_none none x)) was
call_alone d (call.Asks r) was = kept d.front (commands d) _ (call_free d (call.Asks r) (ask_none none r.place)) was
call_alone d (call.Answers number a) was = kept d.front (commands d) _ (call_free d (call.Answers number a) (tt, tt)) was
call_alone d (call.Sends o) was = out_alone d o was

pub calls_alone : (calls : List Call) (d : DiskState) → IsAlone d.front (commands d) → IsAlone (after_calls d calls).front (commands (after_calls d calls))
unfolding after_calls
calls_alone [] d was = was
calls_alone (c ∷ later) d was = calls_alone later (after_call d c) (call_alone d c was)

pub new_alone : (p : Profile) (limit : ℕ) → IsAlone (new_disk p limit).front (commands (new_disk p limit))
new_alone p limit = record { working = λ e. absurd (cc); faulty = λ e. absurd (cc) }
