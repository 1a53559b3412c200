-- While the disk is to send a page of its own, and while an error stands, no queued command is under way.
use Rattle.std.proofs.Common.{◌≡◌, ℕ, zero, suc, ◌+◌, ◌/◌, ◌^◌, ◌<◌, true, false, List, [], ◌∷◌, drop, get_or, set, Some, None, refl, sym, ap, ◌∙◌}
use Rattle.std.proofs.{Common.{subst, arith, inl, inr}, lemmas.{Bool.{cases_eq, eqb-true}, List.{get_or-set_other}}}
use Rattle.std.specs.{Prelude.{Option, Bool, is_some, nat_lt, not, ◌==◌, if◌then◌else◌, Result, Ok}, Option.option_map}
use Rattle.fis_view.specs.{Seen.seen as view_seen, declared.view.{Fis.Fis, FisFault.FisFault}}
use Rattle.fis_view.specs.declared.view.Fis.TheVariants as view
use Rattle.block_command.specs.{declared.command.{Command.Command, Stage.{Stage, TheVariants.Ended}}, Moments.{Moment, is_ended}, Laws.{Comes, Fails}}
use Rattle.block_command.specs.Laws.{Flushes, Goes, Input, Loads, Stores, after}
use Rattle.block_command.proofs.Door.{at}
use Rattle.block_disk.specs.{Table.{Table, is_under_way, with_input}, Requests.Queue}
use Rattle.block_disk.proofs.Door.{each_is}
use Rattle.block_queue.specs.Deeds as deed
use Rattle.block_queue.specs.{Deeds.{Deed, after_deed}, Line.{Line, line_gone, line_reset}}
use Rattle.block_scheduler.specs.Schedule.{Schedule, ends_all, with_line}
use Rattle.block_engine.specs.{declared.request.Range.Range, Engine.line}
use Rattle.ata_command.specs.{Courses.{course, is_error_log, resets, stands_beside, tag_course}, declared.asked.{Asked.Asked, Move.Move}}
use Rattle.ata_command.specs.declared.{asked.{PowerTask.PowerTask, Refusal.Refusal}, control.Course.TheVariants.{AbortAll, Refuse, Take}}
use Rattle.ata_command.specs.declared.{control.Standing.Standing, settings.Setting.Setting}
use Rattle.ata_command.specs.declared.asked.Asked.TheVariants as ask
use Rattle.ata_command.specs.declared.asked.PowerTask.TheVariants as power
use Rattle.ata_command.specs.declared.control.Standing.TheVariants as stand
use Rattle.ata_command.specs.declared.settings.Setting.TheVariants as setting
use Rattle.ata_front.specs.Fronts.{commanded_by, controlled, given, heard_data, leaves, queued_failed, refused_by, said_by, set_by, standing}
use Rattle.ata_front.specs.{Fronts.{standing_by, taken, taken_flush, taken_power, task_less}, declared.front.{Front.Front, Heard.Heard}}
use Rattle.ata_front.specs.declared.task.{Fault.Fault, Task.Task}
use Rattle.ata_front.specs.declared.task.Purpose.TheVariants as purpose
use Rattle.ata_front.specs.declared.task.Task.TheVariants as tasks
use Rattle.ata_reply.specs.declared.reply.Reply.TheVariants as replies
use Rattle.disk_pages.specs.Profiles.{facts_of}
use Rattle.sata_disk.specs.{State.{DiskState, commands, is_taken, tags_below, tags_of}, Hearing.{asked_of, command_told, data_by, discarding}}
use Rattle.sata_disk.specs.{Hearing.{engine_acted, fis_heard, is_command, ranges_of}, Sending.{after_sent, front_sent, place_sent, single_front}}
use Rattle.sata_disk.specs.{Sending.trouble_at, declared.out.Out.Out}
use Rattle.sata_disk.specs.declared.out.Out.TheVariants as out
use Rattle.sata_disk_laws.specs.Calls as call
use Rattle.sata_disk_laws.specs.Calls.{Call, after_call, fis_steps, steps_of}
use Rattle.sata_disk_books.proofs.{Asked.{Each, OfDeed, OfStep, ask_none, data_none, moves_deeds, out_none, start_none, steps_moves}, Does.deeds_by}
use Rattle.sata_disk_books.proofs.{Does.line_by, Walks.after_deeds}

abbrev pub NoTags : Line → Type 0
NoTags l = (t : ℕ) → t < 32 → is_taken l t ≡ false

abbrev pub is_paging : Task → Bool
is_paging (tasks.Announces p) = true
is_paging (tasks.Gives p) = true
is_paging (tasks.Sends p) = true
is_paging _ = false

pub record IsLone (f : Front) (l : Line) : Type 0 where
  pub paging : is_paging f.task ≡ true → NoTags l
  pub faulty : is_some f.fault ≡ true → NoTags l

-- ## No command is taken

ended_stays : (c : Command) (done : ℕ) (bytes : List ℕ) (sent : ℕ) (stage : Stage) (i : Input) → is_ended stage ≡ true → is_ended (after (at c done bytes sent stage) i).stage ≡ true
ended_stays c done bytes sent Ended Goes e = refl
ended_stays c done bytes sent Ended (Loads given) e = refl
ended_stays c done bytes sent Ended (Comes part) e = refl
ended_stays c done bytes sent Ended Stores e = refl
ended_stays c done bytes sent Ended Flushes e = refl
ended_stays c done bytes sent Ended Fails e = refl
ended_stays c done bytes sent stage i e = absurd (cc)

was_true : (b : Bool) → not b ≡ false → b ≡ true
was_true true e = refl
was_true false e = absurd (cc)

free_stays : (x : Option Moment) (i : Input) → is_under_way x ≡ false → is_under_way (option_map (λ m. after m i) x) ≡ false
free_stays None i e = refl
free_stays (Some m) i e = ap (λ b. not b) (ended_stays m.command m.done m.bytes m.sent m.stage i (was_true (is_ended m.stage) e))

set_free : (xs : List (Option Moment)) (p : ℕ) (x : Option Moment) → is_under_way (get_or xs p None) ≡ false → is_under_way x ≡ false → is_under_way (get_or (set xs p x) p None) ≡ false
set_free [] p x was is = was
set_free (y ∷ xs) zero x was is = is
set_free (y ∷ xs) (suc p) x was is = set_free xs p x was is

put_free : (xs : List (Option Moment)) (p t : ℕ) (x : Option Moment) → is_under_way (get_or xs t None) ≡ false → (t ≡ p → is_under_way x ≡ false) → is_under_way (get_or (set xs p x) t None) ≡ false
put_free xs p t x was is = elim (cases_eq t p) [
  | inl same ↦ rw same (set_free xs p x (sym (ap (λ k. is_under_way (get_or xs k None)) same) ∙ was) (is same))
  | inr apart ↦ ap is_under_way (get_or-set_other xs p t x None apart) ∙ was
]

abbrev Free : Table → Type 0
Free d = (t : ℕ) → t < 32 → is_under_way (get_or d.places t None) ≡ false

input_free : (d : Table) (p : ℕ) (i : Input) → Free d → Free (with_input d p i)
input_free d p i free t low =
    put_free d.places p t _ (free t low) (λ same. free_stays (get_or d.places p None) i (sym (ap (λ k. is_under_way (get_or d.places k None)) same) ∙ free t low))

answer_free : (q : Queue) (p : ℕ) (i : Input) (out : List ℕ) (b : Bool) → Free q.table → Free (if b then record { table = with_input q.table p i; out = out; next = q.next } else q).table
answer_free q p i out true free = input_free q.table p i free
answer_free q p i out false free = free

abbrev pub none : Command → Type 0
none c = ⊥

pub reset_free : (l : Line) → NoTags (line_reset l)
reset_free l t low = ap is_under_way (each_is (Option Moment) 33 t None)

deed_free : (l : Line) (d : Deed) → OfDeed none d → NoTags l → NoTags (after_deed l d)
deed_free l (deed.Takes c) never free = absurd never
deed_free l (deed.Starts p) never free = input_free l.queue.table p Goes free
deed_free l (deed.Sends p) never free = input_free l.queue.table p Goes free
deed_free l (deed.Asks p) never free = input_free l.queue.table p Goes free
deed_free l (deed.Hears p part) never free = input_free l.queue.table p (Comes part) free
deed_free l (deed.Answers p number i) never free = answer_free l.queue p i _ _ free
deed_free l deed.Resets never free = reset_free l
deed_free l deed.Draws never free = free

deeds_free : (ds : List Deed) (l : Line) → Each (OfDeed none) ds → NoTags l → NoTags (after_deeds l ds)
deeds_free [] l never free = free
deeds_free (d ∷ ds) l never free = deeds_free ds (after_deed l d) never.1 (deed_free l d never.0 free)

-- a call that takes none
pub call_free : (d : DiskState) (c : Call) → Each (OfStep none) (steps_of d c) → NoTags (commands d) → NoTags (commands (after_call d c))
call_free d c never free =
    subst NoTags (sym (line_by d c)) (deeds_free (deeds_by d c) (commands d) (moves_deeds none _ _ (steps_moves none (steps_of d c) d.engine never)) free)

-- ## No tag is taken

power_some : (m : ℕ) → 0 < 2 ^ m
power_some zero = omega arith
power_some (suc m) = let low = power_some m in omega (arith, low)

bit_case : (n m : ℕ) (b : Bool) → n + (if b then 2 ^ m else 0) ≡ 0 → (n ≡ 0) × (b ≡ false)
bit_case n m true e = absurd (let some = power_some m in omega (arith, e, some))
bit_case n m false e = (omega (arith, e), refl)

none_below : (l : Line) (n : ℕ) → tags_below l n ≡ 0 → (t : ℕ) → t < n → is_taken l t ≡ false
unfolding tags_below
none_below l zero e t low = absurd (omega (arith, low))
none_below l (suc n) e t low = elim (cases_eq t n) [
  | inl same ↦ ap (is_taken l) same ∙ (bit_case (tags_below l n) n (is_taken l n) e).1
  | inr apart ↦ none_below l n (bit_case (tags_below l n) n (is_taken l n) e).0 t (omega (arith, low, apart))
]

pub no_tags : (l : Line) → tags_of l ≡ 0 → NoTags l
unfolding tags_of
no_tags l e = none_below l 32 e

-- ## A command comes

abbrev LoneAfter : DiskState → Heard → Type 0
LoneAfter d h = IsLone h.front (line (engine_acted d.engine h.act))

all_lone : (f : Front) (l : Line) → NoTags l → IsLone f l
all_lone f l never = record { paging = λ e. never; faulty = λ e. never }

-- a task that sends no page
plain_lone : (f : Front) (t : Task) (l : Line) → is_paging t ≡ false → IsLone f l → IsLone (record f { task = t }) l
plain_lone f t l plain was = record { paging = λ e. absurd (let never = sym plain ∙ e in cc); faulty = was.faulty }

paging_lone : (f : Front) (t : Task) (l : Line) → NoTags l → IsLone (record f { task = t }) l
paging_lone f t l never = all_lone _ l never

moves_plain : (m : Move) (b : Bool) (t : Task) → is_paging t ≡ false → is_paging (if b then tasks.Owes replies.Accepted else t) ≡ false
moves_plain m true t is = refl
moves_plain m false t is = is

set_lone : (d : DiskState) (s : Setting) → IsLone d.front (line d.engine) → LoneAfter d (set_by d.front s)
set_lone d (setting.WriteCache false) was = plain_lone d.front (tasks.Waits purpose.CacheOff) (line d.engine) refl was
set_lone d (setting.WriteCache true) was = record { paging = λ e. absurd (cc); faulty = was.faulty }
set_lone d (setting.LookAhead on) was = record { paging = λ e. absurd (cc); faulty = was.faulty }
set_lone d (setting.AutoActivate on) was = record { paging = λ e. absurd (cc); faulty = was.faulty }
set_lone d (setting.Mode mode) was = record { paging = λ e. absurd (cc); faulty = was.faulty }
set_lone d (setting.Reverts on) was = record { paging = λ e. absurd (cc); faulty = was.faulty }

standby_lone : (d : DiskState) (b : Bool) → IsLone d.front (line d.engine) → LoneAfter d (if b then taken_flush d.front purpose.Flush else leaves d.front (tasks.Owes replies.Done))
standby_lone d true was = record { paging = λ e. absurd (cc); faulty = was.faulty }
standby_lone d false was = record { paging = λ e. absurd (cc); faulty = was.faulty }

power_lone : (d : DiskState) (t : PowerTask) → IsLone d.front (line d.engine) → LoneAfter d (taken_power d.front t)
power_lone d power.Check was = record { paging = λ e. absurd (cc); faulty = was.faulty }
power_lone d power.Idle was = record { paging = λ e. absurd (cc); faulty = was.faulty }
power_lone d power.Standby was = standby_lone d d.front.settings.write_cache was

refused_lone : (d : DiskState) (r : Refusal) (tag : Option ℕ) → IsLone d.front (line d.engine) → LoneAfter d (refused_by d.front r tag)
refused_lone d r None was = record { paging = λ e. absurd (cc); faulty = was.faulty }
refused_lone d r (Some tag) was = all_lone _ _ (reset_free (line d.engine))

abbrev moves_sectors : Asked → Bool
moves_sectors (ask.Moves m) = true
moves_sectors _ = false

abbrev reads_page : Asked → Bool
reads_page ask.Identifies = true
reads_page (ask.ReadsLog p) = true
reads_page (ask.Smart t) = true
reads_page _ = false

taken_lone : (d : DiskState) (a : Asked) → (moves_sectors a ≡ true → d.front.fault ≡ None) → (reads_page a ≡ true → NoTags (line d.engine)) → IsLone d.front (line d.engine)
    → LoneAfter d (taken d.front a)
taken_lone d (ask.Moves m) clear free was = record {
  paging = λ e. absurd (let never = moves_plain m (nat_lt m.command.place 32) (tasks.Moves (record { wide = m.wide; left = m.command.count })) refl in let both = sym never ∙ e in cc);
  faulty = λ e. absurd (let never = sym (ap (λ (x : Option Fault). is_some x) (clear refl)) ∙ e in cc);
}
taken_lone d ask.Flushes clear free was = record { paging = λ e. absurd (cc); faulty = was.faulty }
taken_lone d (ask.Sets s) clear free was = set_lone d s was
taken_lone d (ask.SetsMultiple m) clear free was = record { paging = λ e. absurd (cc); faulty = was.faulty }
taken_lone d (ask.Trims blocks) clear free was = record { paging = λ e. absurd (cc); faulty = was.faulty }
taken_lone d ask.Identifies clear free was = all_lone _ _ (free refl)
taken_lone d (ask.ReadsLog p) clear free was = all_lone _ _ (free refl)
taken_lone d (ask.Smart t) clear free was = all_lone _ _ (free refl)
taken_lone d (ask.Power t) clear free was = power_lone d t was
taken_lone d (ask.Refused r) clear free was = refused_lone d r r.tag was

-- where an error stands
no_move : (a : Asked) → is_error_log a ≡ true → moves_sectors a ≡ true → ⊥
no_move (ask.Moves m) e f = cc
no_move a e f = cc

error_lone : (d : DiskState) (a : Asked) (b : Bool) → is_error_log a ≡ b → NoTags (line d.engine) → IsLone d.front (line d.engine)
    → LoneAfter d (commanded_by d.front a (if b then Take else Refuse))
error_lone d a true e free was = taken_lone d a (λ m. absurd (no_move a e m)) (λ r. free) was
error_lone d a false e free was = record { paging = λ e. absurd (cc); faulty = was.faulty }

no_page : (a : Asked) (tags : ℕ) → stands_beside a tags ≡ true → reads_page a ≡ true → ⊥
no_page (ask.Moves m) tags e f = cc
no_page (ask.Refused r) tags e f = cc
no_page a tags e f = cc

beside_lone : (d : DiskState) (a : Asked) (tags : ℕ) (b : Bool) → stands_beside a tags ≡ b → d.front.fault ≡ None → IsLone d.front (line d.engine)
    → LoneAfter d (commanded_by d.front a (if b then Take else AbortAll))
beside_lone d a tags true e clear was = taken_lone d a (λ m. clear) (λ r. absurd (no_page a tags e r)) was
beside_lone d a tags false e clear was = all_lone _ _ (reset_free (line d.engine))

queued_lone : (d : DiskState) (a : Asked) (tags : ℕ) (b : Bool) → (tags == 0) ≡ b → tags_of (commands d) ≡ tags → d.front.fault ≡ None → IsLone d.front (line d.engine)
    → LoneAfter d (commanded_by d.front a (if b then Take else tag_course a tags))
queued_lone d a tags true e same clear was = taken_lone d a (λ m. clear) (λ r. no_tags (commands d) (same ∙ eqb-true tags 0 e)) was
queued_lone d a tags false e same clear was = beside_lone d a tags (stands_beside a tags) refl clear was

pub error_fault : (r : Bool) (t : Task) (x : Option Fault) (tags : ℕ) → (if r then stand.Reset else standing_by t x tags) ≡ stand.Error → is_some x ≡ true
error_fault true t x tags e = absurd (cc)
error_fault false tasks.Idle None tags e = absurd (cc)
error_fault false tasks.Idle (Some g) tags e = refl
error_fault false t x tags e = absurd (cc)

pub queued_fault : (r : Bool) (t : Task) (x : Option Fault) (tags k : ℕ) → (if r then stand.Reset else standing_by t x tags) ≡ stand.Queued k → (x ≡ None) × (tags ≡ k)
queued_fault true t x tags k e = absurd (cc)
queued_fault false tasks.Idle None tags k e = (refl, cc)
queued_fault false tasks.Idle (Some g) tags k e = absurd (cc)
queued_fault false t x tags k e = absurd (cc)

course_lone : (d : DiskState) (a : Asked) (s : Standing) → standing d.front (tags_of (commands d)) ≡ s → IsLone d.front (line d.engine)
    → LoneAfter d (commanded_by d.front a (course a s))
course_lone d a stand.Reset e was = was
course_lone d a stand.Single e was = was
course_lone d a stand.Error e was =
    error_lone d a (is_error_log a) refl (was.faulty (error_fault d.front.in_reset d.front.task d.front.fault (tags_of (commands d)) e)) was
course_lone d a (stand.Queued tags) e was =
    let both = queued_fault d.front.in_reset d.front.task d.front.fault (tags_of (commands d)) tags e in
    queued_lone d a tags (tags == 0) refl both.1 both.0 was

control_case : (d : DiskState) (b : Bool) → IsLone d.front (line d.engine)
    → IsLone (if b then record d.front { task = tasks.Owes replies.Signature; in_reset = false } else d.front) (line d.engine)
control_case d true was = record { paging = λ e. absurd (cc); faulty = was.faulty }
control_case d false was = was

control_lone : (d : DiskState) (srst : Bool) → IsLone d.front (line d.engine) → LoneAfter d (controlled d.front srst)
control_lone d true was = all_lone _ _ (reset_free (line d.engine))
control_lone d false was = control_case d d.front.in_reset was

register_lone : (d : DiskState) (f : List ℕ) (b : Bool) → IsLone d.front (line d.engine) → LoneAfter d (if b then command_told d f else controlled d.front (resets f))
register_lone d f true was = course_lone d (asked_of d f) (standing d.front (tags_of (commands d))) refl was
register_lone d f false was = control_lone d (resets f) was

-- ## Each call

kept : (f : Front) (old new : Line) → (NoTags old → NoTags new) → IsLone f old → IsLone f new
kept f old new free was = record { paging = λ e. free (was.paging e); faulty = λ e. free (was.faulty e) }

range_lone : (d : DiskState) (x : Option (List Range)) → IsLone d.front (commands d) → IsLone (discarding d x).front (commands (discarding d x))
range_lone d None was = record { paging = λ e. absurd (cc); faulty = was.faulty }
range_lone d (Some ranges) was = record { paging = λ e. absurd (cc); faulty = was.faulty }

data_lone : (d : DiskState) (x : Option ℕ) (bytes : List ℕ) → (NoTags (commands d) → NoTags (commands (data_by d x bytes))) → IsLone d.front (commands d)
    → IsLone (data_by d x bytes).front (commands (data_by d x bytes))
data_lone d None bytes free was = kept d.front (commands d) (commands (data_by d None bytes)) free was
data_lone d (Some blocks) bytes free was = range_lone d (ranges_of blocks (facts_of d.profile).sectors bytes) was

pub fis_free : (d : DiskState) (f : List ℕ) (r : Result Fis FisFault) → view_seen f ≡ r → Each (OfStep none) (fis_steps d r) → NoTags (commands d) → NoTags (commands (fis_heard d r))
fis_free d f r e never free =
    subst (λ (x : Result Fis FisFault). NoTags (commands (fis_heard d x))) e
    (call_free d (call.Hears f) (subst (λ (x : Result Fis FisFault). Each (OfStep none) (fis_steps d x)) (sym e) never) free)

fis_lone : (d : DiskState) (f : List ℕ) (r : Result Fis FisFault) → view_seen f ≡ r → IsLone d.front (commands d) → IsLone (fis_heard d r).front (commands (fis_heard d r))
fis_lone d f (Ok (view.RegH2D g)) e was = register_lone d g (is_command g) was
fis_lone d f (Ok (view.Payload g)) e was =
    data_lone d (heard_data d.front.task) (drop 4 g) (fis_free d f (Ok (view.Payload g)) e (data_none none d (heard_data d.front.task) (drop 4 g))) was
fis_lone d f other e was = was

fault_if : (b : Bool) (x : Option Fault) → is_some (if b then None else x) ≡ true → is_some x ≡ true
fault_if true x e = absurd (cc)
fault_if false x e = e

said_lone : (f : Front) (t : Task) (l : Line) → f.task ≡ t → IsLone f l → IsLone (said_by f t) l
said_lone f (tasks.Owes r) l e was = record { paging = λ e. absurd (cc); faulty = was.faulty }
said_lone f (tasks.Announces p) l e was = all_lone _ l (was.paging (ap is_paging e))
said_lone f (tasks.Activates blocks) l e was = record { paging = λ e. absurd (cc); faulty = was.faulty }
said_lone f (tasks.Gives p) l e was = all_lone _ l (was.paging (ap is_paging e))
said_lone f (tasks.Sends p) l e was = all_lone _ l (was.paging (ap is_paging e))
said_lone f other l e was = was

less_plain : (t : Task) (ended : Bool) (sectors : ℕ) → is_paging (task_less t ended sectors) ≡ false
less_plain (tasks.Moves m) false sectors = refl
less_plain t ended sectors = refl

single_lone : (f : Front) (t : Task) (ended : Bool) (sectors : ℕ) (l : Line) → IsLone f l → IsLone (single_front f t ended sectors) l
single_lone f (tasks.Moves m) ended sectors l was =
    record { paging = λ e. absurd (let never = sym (less_plain f.task ended sectors) ∙ e in cc); faulty = was.faulty }
single_lone f other ended sectors l was = was

failed_case : (f g : Front) (s : Schedule) (p : ℕ) (b : Bool) → (NoTags s.line → NoTags (line_gone s.line p)) → IsLone f s.line
    → IsLone (if b then g else f) (if b then record s { line = line_reset (line_gone s.line p); fault = Some p } else with_line s (line_gone s.line p)).line
failed_case f g s p true free was = all_lone g _ (reset_free (line_gone s.line p))
failed_case f g s p false free was = kept f s.line (line_gone s.line p) free was

place_case : (f one two : Front) (l : Line) (b : Bool) → IsLone one l → IsLone two l → IsLone (if b then one else two) l
place_case f one two l true first second = first
place_case f one two l false first second = second

pub gone_free : (l : Line) (p : ℕ) → NoTags l → NoTags (line_gone l p)
gone_free l p free = input_free l.queue.table p Goes free

pub sent_free : (s : Schedule) (p : ℕ) (b : Bool) → NoTags s.line
    → NoTags (if b then record s { line = line_reset (line_gone s.line p); fault = Some p } else with_line s (line_gone s.line p)).line
sent_free s p true free = reset_free (line_gone s.line p)
sent_free s p false free = gone_free s.line p free

sent_lone : (d : DiskState) (p sectors : ℕ) → IsLone d.front (commands d) → IsLone (front_sent d p sectors) (line (place_sent d.engine p))
sent_lone d p sectors was =
    let s : Schedule = d.engine.schedule in
    place_case d.front _ _ (line (place_sent d.engine p)) (nat_lt p 32)
    (failed_case d.front (queued_failed d.front p (trouble_at d.engine p)) s p (ends_all s.line p) (gone_free s.line p) was)
    (single_lone d.front d.front.task _ sectors (line (place_sent d.engine p)) (kept d.front (commands d) (line (place_sent d.engine p)) (sent_free s p (ends_all s.line p)) was))

out_lone : (d : DiskState) (o : Out) → IsLone d.front (commands d) → IsLone (after_sent d o).front (commands (after_sent d o))
out_lone d (out.Own r) was = said_lone d.front d.front.task (commands d) refl was
out_lone d (out.Page p) was = said_lone d.front d.front.task (commands d) refl was
out_lone d (out.Beside r) was = record { paging = λ e. absurd (cc); faulty = was.faulty }
out_lone d (out.Ends tags) was = kept d.front (commands d) _ (call_free d (call.Sends (out.Ends tags)) (out_none none (out.Ends tags))) was
out_lone d (out.Of p r) was = sent_lone d p 0 was
out_lone d (out.Data p n) was = sent_lone d p (n / 512) was

pub call_lone : (d : DiskState) (c : Call) → IsLone d.front (commands d) → IsLone (after_call d c).front (commands (after_call d c))
call_lone d call.Plugs was = all_lone _ _ (reset_free (commands d))
call_lone d (call.Hears f) was = fis_lone d f (view_seen f) refl was
call_lone d (call.Starts x) was = kept d.front (commands d) _ (call_free d (call.Starts x) (start_none none x)) was
call_lone d (call.Asks r) was = kept d.front (commands d) _ (call_free d (call.Asks r) (ask_none none r.place)) was
call_lone d (call.Answers number a) was = kept d.front (commands d) _ (call_free d (call.Answers number a) (tt, tt)) was
call_lone d (call.Sends o) was = out_lone d o was
