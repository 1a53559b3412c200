-- Where nothing of a sector is under way at a disk, and no command that is heard is a write of it or DATA SET MANAGEMENT, nothing of it comes to be under way.
use Rattle.std.proofs.Common.{◌≡◌, ℕ, true, false, List, [], ◌∷◌, ◌++◌, drop, Option, Some, None, refl, sym, ap, subst, ◌∙◌, inl, inr}
use Rattle.std.proofs.lemmas.Bool.{false≢true}
use Rattle.std.specs.Prelude.{◌/◌, Bool, not, nat_lt, if◌then◌else◌, Result, Ok}
use Rattle.fis_view.specs.{Seen.seen, declared.view.{Fis.Fis, FisFault.FisFault}}
use Rattle.fis_view.specs.declared.view.Fis.TheVariants as view
use Rattle.block_command.specs.{declared.command.Command.Command, Moments.Moment}
use Rattle.block_disk.specs.{Laws.Page, Table.is_under_way}
use Rattle.block_queue.specs.Line.{command_at}
use Rattle.block_engine.specs.declared.aside.AsideKind.TheVariants as kinds
use Rattle.block_engine.specs.{declared.request.Answer.Answer, Aside.{asks_for, is_waiting, settled}, Engine.{EngineState, answered, done_at}}
use Rattle.block_engine.specs.{Engine.{failed_by, is_discard, loaded_at, place_of}, Laws.{Step, after_step, after_steps}}
use Rattle.block_engine.specs.declared.request.Answer.TheVariants as answers
use Rattle.block_engine.specs.Laws as engine
use Rattle.ata_command.specs.{Courses.{course, resets}, declared.asked.{Asked.Asked, PowerTask.PowerTask, Refusal.Refusal, SmartTask.SmartTask}}
use Rattle.ata_command.specs.declared.{control.Course.{Course, TheVariants.{Drop, Refuse, AbortAll, Take}}, settings.Setting.Setting}
use Rattle.ata_command.specs.declared.asked.Asked.TheVariants as ask
use Rattle.ata_command.specs.declared.asked.PowerTask.TheVariants as power
use Rattle.ata_command.specs.declared.asked.SmartTask.TheVariants as smart
use Rattle.ata_command.specs.declared.settings.Setting.TheVariants as setting
use Rattle.ata_front.specs.Fronts.{commanded_by, controlled, heard_data, refused_by, said_by, set_by, standing, task_less, task_of_smart, taken}
use Rattle.ata_front.specs.{Fronts.taken_power, declared.{front.{Front.Front, Heard.Heard}, task.{Act.Act, Task.Task}}}
use Rattle.ata_front.specs.declared.task.Act.TheVariants as act
use Rattle.ata_front.specs.declared.task.Task.TheVariants as tasks
use Rattle.disk_pages.specs.declared.profile.Profile.{Profile}
use Rattle.sata_disk.specs.{Hearing.{asked_of, command_told, data_by, fis_heard, is_command, register_told}, Sending.{front_sent, single_front}}
use Rattle.sata_disk.specs.{State.{DiskState, commands, is_taken, new_disk, tags_of}, declared.out.Out.Out}
use Rattle.sata_disk.specs.declared.out.Out.TheVariants as out
use Rattle.sata_disk_books.specs.Books.{page_in}
use Rattle.sata_disk_books.proofs.Door.{call_after}
use Rattle.sata_disk_laws.specs.Calls as call
use Rattle.sata_disk_laws.specs.Calls.{Call, act_steps, after_call, after_calls, ask_steps, data_steps, fis_steps, out_steps, start_steps, steps_of}
use Rattle.sata_disk_laws.specs.Laws.{reached}
use Rattle.sata_disk_laws.proofs.Door.{calls_after}
use Rattle.sata_disk_media.specs.{Cells.covers, Laws.{IsUndisturbed, UndisturbedIsSpared}}
use Rattle.machine_theorem.specs.Unheard.{AllHearNone, HearsNone, IsQuiet, Leaves, UnheardIsSpared, is_trimming}
use Rattle.machine_theorem.proofs.{TagAsked.{Outcome, outcome, Outcome.{Nothing, Taken}}, TagCounts.held_of_taken, TagKept.{call_held, call_takes}}
use Rattle.machine_theorem.proofs.{TagKept.{held_at, held_of, held_parts, others_none}, TagPages.page_same}

-- ---- writes

abbrev NoWrites : DiskState → (s : ℕ) → Type 0
NoWrites d s = (place : ℕ) (c : Command) → held_at (commands d) place ≡ Some c → c.write ≡ true → covers c.lba c.count s ≡ false

heard_writes : (d : DiskState) (s : ℕ) (bytes : List ℕ) → Outcome d (seen bytes) → HearsNone d s (call.Hears bytes) → NoWrites d s
    → NoWrites (after_call d (call.Hears bytes)) s
heard_writes d s bytes (Nothing none) hears was place c h = was place c (call_held d (call.Hears bytes) place c none h)
heard_writes d s bytes (Taken f k viewed is at' steps move asks same) hears was place c h =
    elim (call_takes d (call.Hears bytes) k place c steps h) [
      | inl held ↦ was place c held
      | inr new ↦ subst (λ (x : Command). x.write ≡ true → covers x.lba x.count s ≡ false) (sym (new.0 ∙ same)) (subst (Leaves s) asks (hears f viewed is))
    ]

call_writes : (d : DiskState) (s : ℕ) (x : Call) → HearsNone d s x → NoWrites d s → NoWrites (after_call d x) s
call_writes d s (call.Hears bytes) hears was = heard_writes d s bytes (outcome d (seen bytes)) hears was
call_writes d s call.Plugs hears was = λ place c h. was place c (call_held d call.Plugs place c (others_none d call.Plugs tt) h)
call_writes d s (call.Starts x) hears was = λ place c h. was place c (call_held d (call.Starts x) place c (others_none d (call.Starts x) tt) h)
call_writes d s (call.Asks r) hears was = λ place c h. was place c (call_held d (call.Asks r) place c (others_none d (call.Asks r) tt) h)
call_writes d s (call.Answers k a) hears was = λ place c h. was place c (call_held d (call.Answers k a) place c (others_none d (call.Answers k a) tt) h)
call_writes d s (call.Sends o) hears was = λ place c h. was place c (call_held d (call.Sends o) place c (others_none d (call.Sends o) tt) h)

-- ---- what waits beside the queue

abbrev NoDiscard : EngineState → Type 0
NoDiscard e = is_discard e.kind ≡ true → is_waiting e.stage ≡ false

abbrev NoTrim : Step → Type 0
NoTrim (engine.TakesAside kinds.Discard ranges) = ⊥
NoTrim other = Unit {0}

settled_not : (well : Bool) → is_waiting (settled well) ≡ false
settled_not true = refl
settled_not false = refl

beside_not : (e : EngineState) (well b : Bool) → NoDiscard e → NoDiscard (if b then record e { stage = settled well } else record e { dropped = None })
beside_not e well true none = λ k. settled_not well
beside_not e well false none = none

answer_not : (e : EngineState) (x : Option ℕ) (k : ℕ) (a : Answer) → place_of e k ≡ x → NoDiscard e → NoDiscard (answered e k a)
answer_not e None k (answers.Loaded bytes) is none = subst (λ (x : Option ℕ). NoDiscard (loaded_at e x k bytes.items)) (sym is) none
answer_not e None k answers.Done is none = subst (λ (x : Option ℕ). NoDiscard (done_at e x k)) (sym is) (beside_not e true (asks_for e.stage k) none)
answer_not e None k (answers.Failed f) is none = subst (λ (x : Option ℕ). NoDiscard (failed_by e x k f)) (sym is) (beside_not e false (asks_for e.stage k) none)
answer_not e (Some q) k (answers.Loaded bytes) is none = subst (λ (x : Option ℕ). NoDiscard (loaded_at e x k bytes.items)) (sym is) none
answer_not e (Some q) k answers.Done is none = subst (λ (x : Option ℕ). NoDiscard (done_at e x k)) (sym is) none
answer_not e (Some q) k (answers.Failed f) is none = subst (λ (x : Option ℕ). NoDiscard (failed_by e x k f)) (sym is) none

step_not : (e : EngineState) (x : Step) → NoTrim x → NoDiscard e → NoDiscard (after_step e x)
step_not e (engine.TakesAside kinds.Flush ranges) calm none = λ k. absurd (false≢true k)
step_not e (engine.TakesAside kinds.Discard ranges) calm none = absurd calm
step_not e engine.AsksAside calm none = λ k. refl
step_not e (engine.Answers k a) calm none = answer_not e (place_of e k) k a refl none
step_not e engine.SendsAside calm none = λ k. refl
step_not e engine.Resets calm none = λ k. refl
step_not e (engine.Takes c) calm none = none
step_not e (engine.Starts p) calm none = none
step_not e (engine.Asks p) calm none = none
step_not e (engine.Hears p part) calm none = none
step_not e (engine.Sends p) calm none = none
step_not e engine.SendsEnds calm none = none
step_not e engine.Forgives calm none = none

abbrev NoTrims : List Step → Type 0
NoTrims [] = Unit {0}
NoTrims (x ∷ later) = NoTrim x × NoTrims later

steps_not : (xs : List Step) (e : EngineState) → NoTrims xs → NoDiscard e → NoDiscard (after_steps e xs)
unfolding after_steps
steps_not [] e calm none = none
steps_not (x ∷ later) e calm none = steps_not later (after_step e x) calm.1 (step_not e x calm.0 none)

act_trims : (e : EngineState) (a : Act) → NoTrims (act_steps e a)
act_trims e act.Nothing = tt
act_trims e (act.Takes c) = (tt, tt)
act_trims e act.Flushes = (tt, tt)
act_trims e act.Resets = (tt, tt)

data_trims : (d : DiskState) (t : Task) (bytes : List ℕ) → is_trimming t ≡ false → NoTrims (data_steps d (heard_data t) bytes)
data_trims d (tasks.Expects blocks) bytes calm = absurd (false≢true (sym calm))
data_trims d t bytes calm = (tt, tt)

fis_trims : (d : DiskState) (r : Result Fis FisFault) → is_trimming d.front.task ≡ false → NoTrims (fis_steps d r)
fis_trims d (Ok (view.RegH2D f)) calm = act_trims d.engine (register_told d f).act
fis_trims d (Ok (view.Payload f)) calm = data_trims d d.front.task (drop 4 f) calm
fis_trims d other calm = tt

start_trims : (x : Option ℕ) → NoTrims (start_steps x)
start_trims None = tt
start_trims (Some p) = (tt, tt)

ask_trims : (x : Option ℕ) → NoTrims (ask_steps x)
ask_trims None = (tt, tt)
ask_trims (Some p) = (tt, tt)

out_trims : (o : Out) → NoTrims (out_steps o)
out_trims (out.Own r) = tt
out_trims (out.Page p) = tt
out_trims (out.Beside r) = (tt, tt)
out_trims (out.Ends tags) = (tt, tt)
out_trims (out.Of p r) = (tt, (tt, tt))
out_trims (out.Data p n) = (tt, (tt, tt))

call_trims : (d : DiskState) (x : Call) → is_trimming d.front.task ≡ false → NoTrims (steps_of d x)
call_trims d call.Plugs calm = (tt, tt)
call_trims d (call.Hears bytes) calm = fis_trims d (seen bytes) calm
call_trims d (call.Starts x) calm = start_trims x
call_trims d (call.Asks r) calm = ask_trims r.place
call_trims d (call.Answers k a) calm = (tt, tt)
call_trims d (call.Sends o) calm = out_trims o

-- ---- what the host waits for

abbrev NotTrimming : Front → Type 0
NotTrimming f = is_trimming f.task ≡ false

either_task : (b : Bool) (x y : Task) → is_trimming x ≡ false → is_trimming y ≡ false → is_trimming (if b then x else y) ≡ false
either_task true x y e f = e
either_task false x y e f = f

either_front : (b : Bool) (x y : Front) → NotTrimming x → NotTrimming y → NotTrimming (if b then x else y)
either_front true x y e f = e
either_front false x y e f = f

either_heard : (b : Bool) (x y : Heard) → NotTrimming x.front → NotTrimming y.front → NotTrimming (if b then x else y).front
either_heard true x y e f = e
either_heard false x y e f = f

set_not : (f : Front) (x : Setting) → NotTrimming (set_by f x).front
set_not f (setting.WriteCache false) = refl
set_not f (setting.WriteCache true) = refl
set_not f (setting.LookAhead on) = refl
set_not f (setting.AutoActivate on) = refl
set_not f (setting.Mode mode) = refl
set_not f (setting.Reverts on) = refl

smart_not : (t : SmartTask) → is_trimming (task_of_smart t) ≡ false
smart_not smart.ReadData = refl
smart_not smart.ReadThresholds = refl
smart_not smart.Nothing = refl
smart_not smart.ReturnStatus = refl

power_not : (f : Front) (t : PowerTask) → NotTrimming (taken_power f t).front
power_not f power.Check = refl
power_not f power.Idle = refl
power_not f power.Standby = either_heard f.settings.write_cache _ _ refl refl

refused_not : (f : Front) (r : Refusal) (tag : Option ℕ) → NotTrimming (refused_by f r tag).front
refused_not f r None = refl
refused_not f r (Some tag) = refl

taken_not : (f : Front) (s : ℕ) (a : Asked) → Leaves s a → NotTrimming (taken f a).front
taken_not f s (ask.Moves m) leaves = either_task (nat_lt m.command.place 32) _ _ refl refl
taken_not f s ask.Flushes leaves = refl
taken_not f s (ask.Sets x) leaves = set_not f x
taken_not f s (ask.SetsMultiple m) leaves = refl
taken_not f s (ask.Trims blocks) leaves = absurd leaves
taken_not f s ask.Identifies leaves = refl
taken_not f s (ask.ReadsLog p) leaves = either_task p.dma _ _ refl refl
taken_not f s (ask.Smart t) leaves = smart_not t
taken_not f s (ask.Power t) leaves = power_not f t
taken_not f s (ask.Refused r) leaves = refused_not f r r.tag

course_not : (f : Front) (s : ℕ) (a : Asked) (c : Course) → Leaves s a → NotTrimming f → NotTrimming (commanded_by f a c).front
course_not f s a Drop leaves calm = calm
course_not f s a Refuse leaves calm = refl
course_not f s a AbortAll leaves calm = refl
course_not f s a Take leaves calm = taken_not f s a leaves

control_not : (f : Front) (srst : Bool) → NotTrimming f → NotTrimming (controlled f srst).front
control_not f true calm = refl
control_not f false calm = either_front f.in_reset _ f refl calm

register_not : (d : DiskState) (s : ℕ) (f : List ℕ) (b : Bool) → is_command f ≡ b → (is_command f ≡ true → Leaves s (asked_of d f)) → NotTrimming d.front
    → NotTrimming (register_told d f).front
register_not d s f true is leaves calm =
    subst (λ (b : Bool). NotTrimming (if b then command_told d f else controlled d.front (resets f)).front) (sym is)
    (course_not d.front s (asked_of d f) (course (asked_of d f) (standing d.front (tags_of (commands d)))) (leaves is) calm)
register_not d s f false is leaves calm =
    subst (λ (b : Bool). NotTrimming (if b then command_told d f else controlled d.front (resets f)).front) (sym is) (control_not d.front (resets f) calm)

data_not : (d : DiskState) (t : Task) (bytes : List ℕ) → is_trimming t ≡ false → NotTrimming d.front → NotTrimming (data_by d (heard_data t) bytes).front
data_not d (tasks.Expects blocks) bytes e calm = absurd (false≢true (sym e))
data_not d t bytes e calm = calm

fis_not : (d : DiskState) (s : ℕ) (r : Result Fis FisFault) → ((f : List ℕ) → r ≡ Ok (view.RegH2D f) → is_command f ≡ true → Leaves s (asked_of d f))
    → NotTrimming d.front → NotTrimming (fis_heard d r).front
fis_not d s (Ok (view.RegH2D f)) leaves calm = register_not d s f (is_command f) refl (leaves f refl) calm
fis_not d s (Ok (view.Payload f)) leaves calm = data_not d d.front.task (drop 4 f) calm calm
fis_not d s other leaves calm = calm

said_not : (f : Front) (t : Task) → is_trimming t ≡ false → NotTrimming f → NotTrimming (said_by f t)
said_not f (tasks.Owes r) e calm = refl
said_not f (tasks.Announces p) e calm = refl
said_not f (tasks.Activates blocks) e calm = absurd (false≢true (sym e))
said_not f (tasks.Gives p) e calm = refl
said_not f (tasks.Sends p) e calm = refl
said_not f t e calm = calm

less_not : (t : Task) (ended : Bool) (k : ℕ) → is_trimming (task_less t ended k) ≡ false
less_not (tasks.Moves m) true k = refl
less_not (tasks.Moves m) false k = refl
less_not t ended k = refl

single_not : (f : Front) (t : Task) (ended : Bool) (k : ℕ) → NotTrimming f → NotTrimming (single_front f t ended k)
single_not f (tasks.Moves m) ended k calm = less_not f.task ended k
single_not f t ended k calm = calm

front_not : (d : DiskState) (p k : ℕ) → NotTrimming d.front → NotTrimming (front_sent d p k)
front_not d p k calm = either_front (nat_lt p 32) _ _ (either_front _ _ d.front calm calm) (single_not d.front d.front.task _ k calm)

out_not : (d : DiskState) (o : Out) → NotTrimming d.front → NotTrimming (after_call d (call.Sends o)).front
out_not d (out.Own r) calm = said_not d.front d.front.task calm calm
out_not d (out.Page p) calm = said_not d.front d.front.task calm calm
out_not d (out.Beside r) calm = refl
out_not d (out.Ends tags) calm = calm
out_not d (out.Of p r) calm = front_not d p 0 calm
out_not d (out.Data p n) calm = front_not d p (n / 512) calm

call_not : (d : DiskState) (s : ℕ) (x : Call) → HearsNone d s x → NotTrimming d.front → NotTrimming (after_call d x).front
call_not d s call.Plugs hears calm = refl
call_not d s (call.Hears bytes) hears calm = fis_not d s (seen bytes) hears calm
call_not d s (call.Starts x) hears calm = calm
call_not d s (call.Asks r) hears calm = calm
call_not d s (call.Answers k a) hears calm = calm
call_not d s (call.Sends o) hears calm = out_not d o calm

-- ---- all of it

record Quiet (d : DiskState) (s : ℕ) : Type 0 where
  writes : NoWrites d s
  trims : is_trimming d.front.task ≡ false
  discards : NoDiscard d.engine

one_quiet : (d : DiskState) (s : ℕ) (x : Call) → HearsNone d s x → Quiet d s → Quiet (after_call d x) s
one_quiet d s x hears q = record {
  writes = call_writes d s x hears q.writes;
  trims = call_not d s x hears q.trims;
  discards = subst NoDiscard (sym (call_after d x)) (steps_not (steps_of d x) d.engine (call_trims d x q.trims) q.discards);
}

all_quiet : (calls : List Call) (d : DiskState) (s : ℕ) → AllHearNone d s calls → Quiet d s → Quiet (after_calls d calls) s
unfolding after_calls
all_quiet [] d s hears q = q
all_quiet (x ∷ later) d s hears q = all_quiet later (after_call d x) s hears.1 (one_quiet d s x hears.0 q)

first_hear : (xs ys : List Call) (d : DiskState) (s : ℕ) → AllHearNone d s (xs ++ ys) → AllHearNone d s xs
first_hear [] ys d s hears = tt
first_hear (x ∷ xs) ys d s hears = (hears.0, first_hear xs ys (after_call d x) s hears.1)

-- what is under way at a place has its command
held_writes : (x : Option Moment) (s : ℕ) (c : Command) → held_of x ≡ Some c
    → ((m : Moment) → x ≡ Some m → is_under_way (Some m) ≡ true → m.command.write ≡ true → covers m.command.lba m.command.count s ≡ false)
    → c.write ≡ true → covers c.lba c.count s ≡ false
held_writes None s c h none = absurd (cc)
held_writes (Some m) s c h none =
    let parts = held_parts m c h in
    subst (λ (k : Command). k.write ≡ true → covers k.lba k.count s ≡ false) parts.1 (none m refl (ap not parts.0))

quiet_of : (d : DiskState) (s : ℕ) → IsQuiet s d → Quiet d s
quiet_of d s q = record {
  writes = λ place c h. held_writes (command_at (commands d) place) s c h (q.writes place);
  trims = q.trims;
  discards = q.discards;
}

undisturbed : (p : Profile) (limit : ℕ) (calls : List Call) (s : ℕ) → Quiet (reached p limit calls) s → IsUndisturbed p limit calls s
undisturbed p limit calls s q = record { writes = none; discards = q.discards }
  where
    none : (place : ℕ) (g : Page) → page_in p limit calls place ≡ Some g → g.command.write ≡ true → covers g.command.lba g.command.count s ≡ true
        → is_taken (commands (reached p limit calls)) place ≡ false
    none place g page write cov = by (is_taken (commands (reached p limit calls)) place) refl
      where
        by : (b : Bool) → is_taken (commands (reached p limit calls)) place ≡ b → b ≡ false
        by false e = refl
        by true e =
            let held = held_of_taken (command_at (commands (reached p limit calls)) place) e in
            let same : g.command ≡ held.0 = page_same p limit calls place held.0 g held.1 page in
            let not' = subst (λ (c : Command). c.write ≡ true → covers c.lba c.count s ≡ false) (sym same) (q.writes place held.0 held.1) write in
            absurd (false≢true (sym not' ∙ cov))

pub unheard_is_spared : UndisturbedIsSpared → UnheardIsSpared
unheard_is_spared law p limit first later s are quiet hears = law p limit first later s are (λ before after is.
    undisturbed p limit (first ++ before) s (subst (λ (d : DiskState). Quiet d s) (sym (calls_after first before (new_disk p limit)))
    (all_quiet before (reached p limit first) s
    (first_hear before after (reached p limit first) s (subst (AllHearNone (reached p limit first) s) is hears)) (quiet_of (reached p limit first) s quiet))))
