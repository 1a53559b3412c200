-- From a FLUSH CACHE on until it is answered a disk has its flush waiting, out or answered, or owes its error.
use Rattle.std.proofs.Common.{◌≡◌, ◌⊎◌, ℕ, ◌+◌, ◌&&◌, Bool, true, false, not, List, [], ◌∷◌, ◌++◌, append_assoc, Option, Some, None, refl, sym, ap}
use Rattle.std.proofs.{Common.{subst, ◌∙◌, inl, inr, arith}, lemmas.{Bool.{and_parts, eqb-true, false≢true}, List.{append-nil}}}
use Rattle.std.specs.Prelude.{◌==◌, ◌/◌, ◌||◌, is_none, nat_lt, if◌then◌else◌, Result, Ok}
use Rattle.fis_view.specs.{Seen.seen, Table.{H2d, Command, field}, declared.view.{Fis.Fis, FisFault.FisFault}}
use Rattle.fis_view.specs.declared.view.Fis.TheVariants as view
use Rattle.block_engine.specs.{Aside.{asks_for, is_over, is_waiting, settled}, Engine.{EngineState, IsAskedOf, aside_due, aside_what}}
use Rattle.block_engine.specs.{Engine.{beside_answered, done_at, failed_by, line, loaded_at, may_ask, place_of}, declared.aside.AsideKind.AsideKind}
use Rattle.block_engine.specs.declared.{aside.AsideStage.AsideStage, request.{Answer.Answer, Failure.Failure, Request.Request}}
use Rattle.block_engine.specs.declared.aside.AsideKind.TheVariants as kinds
use Rattle.block_engine.specs.declared.aside.AsideStage.TheVariants as stages
use Rattle.block_engine.specs.declared.request.Answer.TheVariants as caller
use Rattle.block_engine.specs.declared.request.What.TheVariants as what
use Rattle.ata_command.specs.{Asks.{asked, asked_by}, Courses.{course, is_error_log, resets, stands_beside}, Opcodes.opcode_of}
use Rattle.ata_command.specs.declared.{asked.{Asked.Asked, Move.Move}, control.Course.{Course, TheVariants.{Drop, Refuse, AbortAll, Take}}}
use Rattle.ata_command.specs.declared.{control.Standing.Standing, opcode.Opcode.Opcode}
use Rattle.ata_command.specs.declared.asked.Asked.TheVariants as ask
use Rattle.ata_command.specs.declared.control.Standing.TheVariants as stand
use Rattle.ata_command.specs.declared.opcode.Opcode.TheVariants as code
use Rattle.ata_front.specs.{Fronts.{commanded_by, controlled, heard_data, over, owed, standing}, declared.{front.Front.Front, task.Task.Task}}
use Rattle.ata_front.specs.declared.task.Trouble.{Trouble}
use Rattle.ata_front.specs.declared.task.Owed.TheVariants as owe
use Rattle.ata_front.specs.declared.task.Task.TheVariants as tasks
use Rattle.ata_reply.specs.declared.reply.Reply.{Reply}
use Rattle.ata_reply.specs.declared.reply.Reply.TheVariants as replies
use Rattle.disk_pages.specs.{Profiles.facts_of, declared.profile.Profile.Profile}
use Rattle.sata_disk.specs.Hearing.{acted, asked_of, command_told, command_unheard, data_by, fis_heard, is_command, register_heard, register_unheard}
use Rattle.sata_disk.specs.{Hearing.with_logs, Sending.{IsFis, IsOut, after_sent, front_sent, is_done, single_front, trouble_at}, State.DiskState}
use Rattle.sata_disk.specs.{State.{commands, new_disk, tags_of}, declared.{out.Out.Out, unheard.Unheard.TheVariants.{Busy, InReset}}}
use Rattle.sata_disk.specs.declared.out.Out.TheVariants as out
use Rattle.sata_disk_books.specs.{Books.page_in, Ended.SinglesAreOfPages}
use Rattle.sata_disk_laws.specs.Calls.{Answers, AreCalls, Asks, Call, Hears, IsCall, Plugs, Sends, Starts, after_call, after_calls}
use Rattle.sata_disk_laws.specs.{Calls.asked_by as engine_asked, Laws.reached, Once.{AnswersAreSingle, Host, IsOutDue, OpenIsUnderWay, Wait, host_of}}
use Rattle.sata_disk_laws.specs.Once.{new_host, unheard_of, waits_for_nothing}
use Rattle.sata_disk_laws.proofs.Door.{calls_after, calls_both}
use Rattle.machine_theorem.specs.{Flushing.{FlushesEndSo, HasFlushed, IsFlushed, flushes, is_failure, is_flush, is_flushing}, InTurn.AreKeptOn}
use Rattle.machine_theorem.specs.InTurn.{CommandsGoInTurn, IsIdle, IsInTurn, IsKeptOn, answered_in, answers_one, commands as asks_one, heard_in}
use Rattle.machine_theorem.specs.{InTurn.{hears_one, is_answer, is_asking, is_register, sets_reset}, Tags.once_if, Transfers.fails_by}
use Rattle.machine_theorem.proofs.{Answered.heard_both, SinglesOwn.{Earns, earns}, TagCounts.{due_at, first_calls}, Transferring.one_then}
use Rattle.machine_theorem.proofs.Transferring.{rest_calls}

pub record Laws : Type 0 where
  pub single : AnswersAreSingle
  pub under_way : OpenIsUnderWay
  pub turn : CommandsGoInTurn
  pub pages : SinglesAreOfPages

-- ---- what such a command asks for

flush_opcode : (c : ℕ) → is_flush c ≡ true → opcode_of c ≡ code.Flush
flush_opcode c is = by (c == 0xE7) (c == 0xEA) refl refl is
  where
    by : (a b : Bool) → (c == 0xE7) ≡ a → (c == 0xEA) ≡ b → (a || b) ≡ true → opcode_of c ≡ code.Flush
    by true b e f g = ap opcode_of (eqb-true c 0xE7 e)
    by false true e f g = ap opcode_of (eqb-true c 0xEA f)
    by false false e f g = absurd (cc)

asks_flush : (d : DiskState) (f : List ℕ) → is_flush (field H2d Command f) ≡ true → asked_of d f ≡ ask.Flushes
unfolding asked
asks_flush d f is = ap (λ (o : Opcode). with_logs (asked_by o f (facts_of d.profile) d.front.settings)) (flush_opcode (field H2d Command f) is)

-- ---- how far its flush is

-- it is out under this number
record IsAskedAs (number : ℕ) (calls : List Call) : Type 0 where
  before : List Call
  request : Request
  later : List Call
  is : calls ≡ before ++ Asks request ∷ later
  number' : request.number ≡ number
  what : request.what ≡ what.Flush
  own : request.place ≡ None

abbrev IsStage : AsideStage → List Call → Type 0
IsStage stages.Idle since = ⊥
IsStage stages.Waiting since = Unit {0}
IsStage (stages.Asked number) since = IsAskedAs number since
IsStage stages.Done since = IsFlushed since
IsStage stages.Failed since = Unit {0}

abbrev IsAtFlush : Task → AsideKind → AsideStage → List Call → Type 0
IsAtFlush (tasks.Owes r) kind stage since = fails_by r ≡ true
IsAtFlush (tasks.Waits purpose) kind stage since = (kind ≡ kinds.Flush) × IsStage stage since
IsAtFlush other kind stage since = ⊥

record IsWorking (f : Front) (kind : AsideKind) (stage : AsideStage) (since : List Call) : Type 0 where
  clear : f.in_reset ≡ false
  task : IsAtFlush f.task kind stage since

abbrev Works : DiskState → List Call → Type 0
Works d since = IsWorking d.front d.engine.kind d.engine.stage since

-- ---- as it is heard

abbrev NotDropped : Course → Type 0
NotDropped Drop = ⊥
NotDropped other = Unit {0}

either : (b : Bool) (x y : Course) → NotDropped x → NotDropped y → NotDropped (if b then x else y)
either true x y p q = p
either false x y p q = q

not_dropped : (a : Asked) (s : Standing) → command_unheard s ≡ None → NotDropped (course a s)
not_dropped a stand.Reset e = absurd (cc)
not_dropped a stand.Single e = absurd (cc)
not_dropped a stand.Error e = either (is_error_log a) Take Refuse tt tt
not_dropped a (stand.Queued tags) e = either (tags == 0) Take _ tt (either (stands_beside a tags) Take AbortAll tt tt)

clear_of : (b : Bool) (s : Standing) → command_unheard (if b then stand.Reset else s) ≡ None → b ≡ false
clear_of true s e = absurd (cc)
clear_of false s e = refl

course_so : (d : DiskState) (c : Course) → d.front.in_reset ≡ false → NotDropped c → Works (acted d (commanded_by d.front ask.Flushes c)) []
course_so d Drop clear heard = absurd heard
course_so d Refuse clear heard = record { clear = clear; task = refl }
course_so d AbortAll clear heard = record { clear = clear; task = refl }
course_so d Take clear heard = record { clear = clear; task = (refl, tt) }

hears_it : (d : DiskState) (f : List ℕ) → is_command f ≡ true → is_flush (field H2d Command f) ≡ true → register_unheard d f ≡ None → Works (register_heard d f) []
hears_it d f c is free =
    let s : Standing = standing d.front (tags_of (commands d)) in
    let unheard : command_unheard s ≡ None = ap (λ (b : Bool). if b then command_unheard s else None) (sym c) ∙ free in
    subst (λ (b : Bool). Works (acted d (if b then command_told d f else controlled d.front (resets f))) []) (sym c)
    (subst (λ (a : Asked). Works (acted d (commanded_by d.front a (course a s))) []) (sym (asks_flush d f is))
    (course_so d (course ask.Flushes s) (clear_of d.front.in_reset _ unheard) (not_dropped ask.Flushes s unheard)))

hears_flush : (d : DiskState) (r : Result Fis FisFault) → flushes r ≡ true → ((f : List ℕ) → is_command f ≡ true → register_unheard d f ≡ None) → Works (fis_heard d r) []
hears_flush d (Ok (view.RegH2D f)) is free = let both = and_parts (is_command f) (is_flush (field H2d Command f)) is in hears_it d f both.0 both.1 (free f both.0)
hears_flush d other is free = absurd (cc)

-- ---- more calls

asked_more : (number : ℕ) (since : List Call) (x : Call) → IsAskedAs number since → IsAskedAs number (since ++ x ∷ [])
asked_more number since x a = record {
  before = a.before;
  request = a.request;
  later = a.later ++ x ∷ [];
  is = ap (λ (l : List Call). l ++ x ∷ []) a.is ∙ append_assoc a.before (Asks a.request ∷ a.later) (x ∷ []);
  number' = a.number';
  what = a.what;
  own = a.own;
}

flushed_more : (since : List Call) (x : Call) → IsFlushed since → IsFlushed (since ++ x ∷ [])
flushed_more since x a =
    let rest : List Call = Answers a.request.number caller.Done ∷ a.after in
    record {
      before = a.before;
      request = a.request;
      between = a.between;
      after = a.after ++ x ∷ [];
      is = ap (λ (l : List Call). l ++ x ∷ []) a.is ∙ append_assoc (a.before ++ Asks a.request ∷ a.between) rest (x ∷ []);
      what = a.what;
      own = a.own;
    }

stage_more : (stage : AsideStage) (since : List Call) (x : Call) → IsStage stage since → IsStage stage (since ++ x ∷ [])
stage_more stages.Idle since x is = is
stage_more stages.Waiting since x is = tt
stage_more (stages.Asked number) since x is = asked_more number since x is
stage_more stages.Done since x is = flushed_more since x is
stage_more stages.Failed since x is = tt

task_more : (t : Task) (kind : AsideKind) (stage : AsideStage) (since : List Call) (x : Call) → IsAtFlush t kind stage since → IsAtFlush t kind stage (since ++ x ∷ [])
task_more (tasks.Owes r) kind stage since x is = is
task_more (tasks.Waits purpose) kind stage since x is = (is.0, stage_more stage since x is.1)
task_more other kind stage since x is = is

works_more : (d : DiskState) (since : List Call) (x : Call) → Works d since → Works d (since ++ x ∷ [])
works_more d since x w = record { clear = w.clear; task = task_more d.front.task d.engine.kind d.engine.stage since x w.task }

-- ---- the flush is asked for

waiting_of : (a b c : Bool) → (a && b && c) ≡ true → a ≡ true
waiting_of true b c e = refl
waiting_of false b c e = absurd (cc)

stage_asked : (e : EngineState) (r : Request) (since : List Call) (stage : AsideStage) → e.stage ≡ stage → may_ask e ≡ true → e.kind ≡ kinds.Flush → r.number ≡ (line e).queue.next
    → r.what ≡ aside_what e.kind → r.place ≡ None → IsStage stage since → IsAskedAs (line e).queue.next (since ++ Asks r ∷ [])
stage_asked e r since stages.Waiting at may kind number what' place is = record {
  before = since;
  request = r;
  later = [];
  is = refl;
  number' = number;
  what = what' ∙ ap aside_what kind;
  own = place;
}
stage_asked e r since stages.Idle at may kind number what' place is = absurd is
stage_asked e r since other at may kind number what' place is = absurd (false≢true (ap is_waiting (sym at) ∙ waiting_of (is_waiting e.stage) _ _ may))

task_asked : (t : Task) (e : EngineState) (r : Request) (since : List Call) → may_ask e ≡ true → r.number ≡ (line e).queue.next → r.what ≡ aside_what e.kind → r.place ≡ None
    → IsAtFlush t e.kind e.stage since → IsAtFlush t e.kind (stages.Asked (line e).queue.next) (since ++ Asks r ∷ [])
task_asked (tasks.Owes x) e r since may number what' place is = is
task_asked (tasks.Waits purpose) e r since may number what' place is = (is.0, stage_asked e r since e.stage refl may is.0 number what' place is.1)
task_asked other e r since may number what' place is = is

asks_so : (d : DiskState) (r : Request) (since : List Call) (o : Option ℕ) → r.place ≡ o → (r.number ≡ (line d.engine).queue.next) × IsAskedOf d.engine (engine_asked d.engine o) r o
    → Works d since → Works (record d { engine = engine_asked d.engine o }) (since ++ Asks r ∷ [])
asks_so d r since None at asks w = record { clear = w.clear; task = task_asked d.front.task d.engine r since asks.1.1 asks.0 asks.1.3 at w.task }
asks_so d r since (Some p) at asks w = works_more (record d { engine = engine_asked d.engine (Some p) }) since (Asks r) (record { clear = w.clear; task = w.task })

-- ---- and answered

stage_done : (stage : AsideStage) (number : ℕ) (since : List Call) → asks_for stage number ≡ true → IsStage stage since → IsFlushed (since ++ Answers number caller.Done ∷ [])
stage_done (stages.Asked n) number since own a = record {
  before = a.before;
  request = a.request;
  between = a.later;
  after = [];
  is = ap (λ (l : List Call). l ++ Answers number caller.Done ∷ []) a.is
      ∙ ap (λ (k : ℕ). a.before ++ Asks a.request ∷ a.later ++ Answers k caller.Done ∷ []) (sym (a.number' ∙ eqb-true n number own));
  what = a.what;
  own = a.own;
}
stage_done other number since own is = absurd (cc)

stage_settled : (well : Bool) (stage : AsideStage) (number : ℕ) (a : Answer) (since : List Call) → (well ≡ true → a ≡ caller.Done) → asks_for stage number ≡ true → IsStage stage since
    → IsStage (settled well) (since ++ Answers number a ∷ [])
stage_settled true stage number a since good own is =
    subst (λ (x : Answer). IsFlushed (since ++ Answers number x ∷ [])) (sym (good refl)) (stage_done stage number since own is)
stage_settled false stage number a since good own is = tt

task_settled : (t : Task) (kind : AsideKind) (well : Bool) (stage : AsideStage) (number : ℕ) (a : Answer) (since : List Call) → (well ≡ true → a ≡ caller.Done) → asks_for stage number ≡ true
    → IsAtFlush t kind stage since → IsAtFlush t kind (settled well) (since ++ Answers number a ∷ [])
task_settled (tasks.Owes r) kind well stage number a since good own is = is
task_settled (tasks.Waits purpose) kind well stage number a since good own is = (is.0, stage_settled well stage number a since good own is.1)
task_settled other kind well stage number a since good own is = is

beside_so : (t : Task) (e : EngineState) (well : Bool) (number : ℕ) (a : Answer) (since : List Call) → (well ≡ true → a ≡ caller.Done) → IsAtFlush t e.kind e.stage since
    → IsAtFlush t (beside_answered e number well).kind (beside_answered e number well).stage (since ++ Answers number a ∷ [])
beside_so t e well number a since good is = by (asks_for e.stage number) refl
  where
    by : (b : Bool) → asks_for e.stage number ≡ b
        → IsAtFlush t (if b then record e { stage = settled well } else record e { dropped = None }).kind (if b then record e { stage = settled well } else record e { dropped = None }).stage
        (since ++ Answers number a ∷ [])
    by true own = task_settled t e.kind well e.stage number a since good own is
    by false own = task_more t e.kind e.stage since (Answers number a) is

loaded_so : (t : Task) (e : EngineState) (o : Option ℕ) (number : ℕ) (bytes : List ℕ) (since : List Call) (x : Call) → IsAtFlush t e.kind e.stage since
    → IsAtFlush t (loaded_at e o number bytes).kind (loaded_at e o number bytes).stage (since ++ x ∷ [])
loaded_so t e None number bytes since x is = task_more t e.kind e.stage since x is
loaded_so t e (Some p) number bytes since x is = task_more t e.kind e.stage since x is

done_so : (t : Task) (e : EngineState) (o : Option ℕ) (number : ℕ) (since : List Call) → IsAtFlush t e.kind e.stage since
    → IsAtFlush t (done_at e o number).kind (done_at e o number).stage (since ++ Answers number caller.Done ∷ [])
done_so t e None number since is = beside_so t e true number caller.Done since (λ good. refl) is
done_so t e (Some p) number since is = task_more t e.kind e.stage since (Answers number caller.Done) is

failed_so : (t : Task) (e : EngineState) (o : Option ℕ) (number : ℕ) (f : Failure) (since : List Call) → IsAtFlush t e.kind e.stage since
    → IsAtFlush t (failed_by e o number f).kind (failed_by e o number f).stage (since ++ Answers number (caller.Failed f) ∷ [])
failed_so t e None number f since is = beside_so t e false number (caller.Failed f) since (λ good. absurd (false≢true good)) is
failed_so t e (Some p) number f since is = task_more t e.kind e.stage since (Answers number (caller.Failed f)) is

answers_so : (d : DiskState) (number : ℕ) (a : Answer) (since : List Call) → Works d since → Works (after_call d (Answers number a)) (since ++ Answers number a ∷ [])
answers_so d number (caller.Loaded bytes) since w = record {
  clear = w.clear;
  task = loaded_so d.front.task d.engine (place_of d.engine number) number bytes.items since (Answers number (caller.Loaded bytes)) w.task;
}
answers_so d number caller.Done since w = record { clear = w.clear; task = done_so d.front.task d.engine (place_of d.engine number) number since w.task }
answers_so d number (caller.Failed f) since w = record { clear = w.clear; task = failed_so d.front.task d.engine (place_of d.engine number) number f since w.task }

-- ---- FISes

-- what a disk in such a front owes is an error
owes_error : (t : Task) (r : Reply) (kind : AsideKind) (stage : AsideStage) (since : List Call) → IsAtFlush t kind stage since → owed t ≡ Some (owe.Reply r) → fails_by r ≡ true
owes_error (tasks.Owes x) r kind stage since works is = subst (λ (y : Reply). fails_by y ≡ true) (by is) works
  where
    by : Some (owe.Reply x) ≡ Some (owe.Reply r) → x ≡ r
    by e = cc
owes_error (tasks.Waits purpose) r kind stage since works is = absurd (cc)
owes_error other r kind stage since works is = absurd works

owes_no_page : (t : Task) (p : _) (kind : AsideKind) (stage : AsideStage) (since : List Call) → IsAtFlush t kind stage since → owed t ≡ Some (owe.Page p) → ⊥
owes_no_page (tasks.Owes x) p kind stage since works is = cc
owes_no_page (tasks.Waits purpose) p kind stage since works is = cc
owes_no_page other p kind stage since works is = works

fails_register : (r : Reply) → fails_by r ≡ true → is_register r ≡ true
fails_register (replies.Failed f) is = refl
fails_register other is = absurd (cc)

no_blocks : (t : Task) (kind : AsideKind) (stage : AsideStage) (since : List Call) → IsAtFlush t kind stage since → heard_data t ≡ None
no_blocks (tasks.Owes x) kind stage since works = refl
no_blocks (tasks.Waits purpose) kind stage since works = refl
no_blocks other kind stage since works = absurd works

module _ (kind : AsideKind) (stage : AsideStage) (since : List Call) where
  single_so : (f : Front) (t : Task) (ended : Bool) (n : ℕ) → IsAtFlush t kind stage since → IsWorking f kind stage since → IsWorking (single_front f t ended n) kind stage since
  single_so f (tasks.Owes x) ended n is w = w
  single_so f (tasks.Waits purpose) ended n is w = w
  single_so f other ended n is w = absurd is

  if_works : (b : Bool) (f g : Front) → IsWorking f kind stage since → IsWorking g kind stage since → IsWorking (if b then f else g) kind stage since
  if_works true f g w v = w
  if_works false f g w v = v

  command_so : (d : DiskState) (p n : ℕ) → IsWorking d.front kind stage since → IsWorking (front_sent d p n) kind stage since
  command_so d p n w = if_works (nat_lt p 32) _ _ (if_works _ _ _ (record { clear = w.clear; task = w.task }) w) (single_so d.front d.front.task _ n w.task w)

over_register : (b : Bool) (t : Trouble) → is_register (over b t) ≡ true
over_register true t = refl
over_register false t = refl

-- no Register FIS goes
sends_so : (d : DiskState) (o : Out) (since : List Call) → IsOut d (Some o) → is_answer o ≡ false → Works d since → Works (after_sent d o) since
sends_so d (out.Own r) since is none w =
    absurd (false≢true (sym none ∙ fails_register r (owes_error d.front.task r d.engine.kind d.engine.stage since w.task is)))
sends_so d (out.Page p) since is none w = absurd (owes_no_page d.front.task p d.engine.kind d.engine.stage since w.task is)
sends_so d (out.Beside r) since is none w = absurd (false≢true (sym none ∙ ap is_register is.2 ∙ over_register (is_done d.engine.stage) (trouble_at d.engine 32)))
sends_so d (out.Ends tags) since is none w = record { clear = w.clear; task = w.task }
sends_so d (out.Of p r) since is none w = let v = command_so d.engine.kind d.engine.stage since d p 0 w in record { clear = v.clear; task = v.task }
sends_so d (out.Data p n) since is none w = let v = command_so d.engine.kind d.engine.stage since d p (n / 512) w in record { clear = v.clear; task = v.task }

-- no command comes, and no reset
control_so : (d : DiskState) (r i : Bool) (since : List Call) → d.front.in_reset ≡ i → i ≡ false → r ≡ false → Works d since → Works (acted d (controlled d.front r)) since
control_so d true i since is clear calm w = absurd (cc)
control_so d false i since is clear calm w =
    subst (λ (b : Bool). IsWorking (if b then record d.front { task = tasks.Owes replies.Signature; in_reset = false } else d.front) d.engine.kind d.engine.stage since) (sym (is ∙ clear)) w

register_so : (d : DiskState) (f : List ℕ) (since : List Call) → is_command f ≡ false → (not (is_command f) && resets f) ≡ false → Works d since → Works (register_heard d f) since
register_so d f since c calm w =
    subst (λ (b : Bool). Works (acted d (if b then command_told d f else controlled d.front (resets f))) since) (sym c)
    (control_so d (resets f) d.front.in_reset since refl w.clear (ap (λ (b : Bool). not b && resets f) (sym c) ∙ calm) w)

data_so : (d : DiskState) (o : Option ℕ) (bytes : List ℕ) (since : List Call) → o ≡ None → Works d since → Works (data_by d o bytes) since
data_so d None bytes since e w = record { clear = w.clear; task = w.task }
data_so d (Some blocks) bytes since e w = absurd (cc)

none_once : (b : Bool) → once_if b ≡ 0 → b ≡ false
none_once true e = absurd (cc)
none_once false e = refl

fis_so : (d : DiskState) (r : Result Fis FisFault) (since : List Call) → asks_one r ≡ false → sets_reset r ≡ false → Works d since → Works (fis_heard d r) since
fis_so d (Ok (view.RegH2D f)) since none calm w = register_so d f since none calm w
fis_so d (Ok (view.Payload f)) since none calm w = data_so d (heard_data d.front.task) _ since (no_blocks d.front.task d.engine.kind d.engine.stage since w.task) w
fis_so d other since none calm w = w

starts_so : (d : DiskState) (x : Option ℕ) (since : List Call) → Works d since → Works (after_call d (Starts x)) since
starts_so d None since w = record { clear = w.clear; task = w.task }
starts_so d (Some p) since w = record { clear = w.clear; task = w.task }

call_so : (d : DiskState) (x : Call) (since : List Call) → IsCall d x → IsKeptOn x → hears_one x ≡ 0 → answers_one x ≡ 0 → Works d since → Works (after_call d x) (since ++ x ∷ [])
call_so d Plugs since is on heard said w = absurd on
call_so d (Hears bytes) since is on heard said w = works_more (after_call d (Hears bytes)) since (Hears bytes) (fis_so d (seen bytes) since (none_once (asks_one (seen bytes)) heard) on w)
call_so d (Starts x) since is on heard said w = works_more (after_call d (Starts x)) since (Starts x) (starts_so d x since w)
call_so d (Asks r) since is on heard said w = asks_so d r since r.place refl is w
call_so d (Answers number a) since is on heard said w = answers_so d number a since w
call_so d (Sends o) since is on heard said w = works_more (after_call d (Sends o)) since (Sends o) (sends_so d o since is (none_once (is_answer o) said) w)

calls_so : (later : List Call) (d : DiskState) (since : List Call) → AreCalls d later → AreKeptOn later → heard_in later ≡ 0 → answered_in later ≡ 0 → Works d since
    → Works (after_calls d later) (since ++ later)
unfolding after_calls
calls_so [] d since are on heard said w = subst (λ (l : List Call). Works d l) (sym (append-nil since)) w
calls_so (x ∷ later) d since are on heard said w =
    subst (λ (l : List Call). Works (after_calls (after_call d x) later) l) (append_assoc since (x ∷ []) later)
    (calls_so later (after_call d x) (since ++ x ∷ []) are.1 on.1 (omega (arith, heard)) (omega (arith, said))
    (call_so d x since are.0 on.0 (omega (arith, heard)) (omega (arith, said)) w))

-- ---- the answer

over_so : (stage : AsideStage) (t : Trouble) (r : Reply) (since : List Call) → IsStage stage since → is_over stage ≡ true → r ≡ over (is_done stage) t
    → HasFlushed since (out.Beside r) ⊎ (is_failure (out.Beside r) ≡ true)
over_so stages.Done t r since is over is_end = inl (record { ends = ap out.Beside is_end; flush = is })
over_so stages.Failed t r since is over is_end = inr (ap fails_by is_end)
over_so other t r since is over is_end = absurd (cc)

beside_end : (d : DiskState) (t : Task) (r : Reply) (since : List Call) → IsAtFlush t d.engine.kind d.engine.stage since → owed t ≡ None → aside_due d.engine ≡ true
    → r ≡ over (is_done d.engine.stage) (trouble_at d.engine 32) → HasFlushed since (out.Beside r) ⊎ (is_failure (out.Beside r) ≡ true)
beside_end d (tasks.Owes x) r since is none due is_end = absurd (cc)
beside_end d (tasks.Waits purpose) r since is none due is_end =
    over_so d.engine.stage (trouble_at d.engine 32) r since is.1 (and_parts (is_over d.engine.stage) (is_none (line d.engine).queue.table.wire) due).0 is_end
beside_end d other r since is none due is_end = absurd is

of_place : (h : Host) (p : ℕ) (r : Reply) (since : List Call) → IsOutDue h (out.Of p r) → is_register r ≡ true → (out.Of p r ≡ out.Of 32 replies.Done → ⊥)
    → HasFlushed since (out.Of p r) ⊎ (is_failure (out.Of p r) ≡ true)
of_place h p replies.Done since due is never = absurd (never (ap (λ (q : ℕ). out.Of q replies.Done) due.2))
of_place h p (replies.Failed f) since due is never = inr refl
of_place h p replies.Signature since due is never = absurd due.2
of_place h p replies.Accepted since due is never = absurd due.2
of_place h p replies.Active since due is never = absurd due.2
of_place h p replies.Healthy since due is never = absurd due.2
of_place h p other since due is never = absurd (cc)

answer_so : (h : Host) (d : DiskState) (o : Out) (since : List Call) → Works d since → IsOutDue h o → IsOut d (Some o) → is_answer o ≡ true → (o ≡ out.Of 32 replies.Done → ⊥)
    → HasFlushed since o ⊎ (is_failure o ≡ true)
answer_so h d (out.Own r) since w due is answer never = inr (owes_error d.front.task r d.engine.kind d.engine.stage since w.task is)
answer_so h d (out.Beside r) since w due is answer never = beside_end d d.front.task r since w.task is.0 is.1 is.2
answer_so h d (out.Of p r) since w due is answer never = of_place h p r since due answer never
answer_so h d other since w due is answer never = absurd (cc)

-- ---- no other command ends

first_is : (front : List Call) (bytes other : List ℕ) (later rest : List Call) → Hears bytes ∷ later ≡ front ++ Hears other ∷ rest → is_asking other ≡ true → heard_in later ≡ 0 → bytes ≡ other
first_is [] bytes other later rest is asks none = by is
  where
    by : Hears bytes ∷ later ≡ Hears other ∷ rest → bytes ≡ other
    by e = cc
first_is (x ∷ front) bytes other later rest is asks none =
    let tail : later ≡ front ++ Hears other ∷ rest = by is in
    let sum : heard_in later ≡ heard_in front + (once_if (is_asking other) + heard_in rest) = ap heard_in tail ∙ heard_both front (Hears other ∷ rest) in
    let one : once_if (is_asking other) ≡ 1 = ap once_if asks in
    absurd (omega (arith, none, sum, one))
  where
    by : Hears bytes ∷ later ≡ x ∷ (front ++ Hears other ∷ rest) → later ≡ front ++ Hears other ∷ rest
    by e = cc

no_move : (a : Asked) (m : Move) → a ≡ ask.Flushes → a ≡ ask.Moves m → ⊥
no_move a m is other = by (sym is ∙ other)
  where
    by : ask.Flushes ≡ ask.Moves m → ⊥
    by e = cc

flush_is_command : (r : Result Fis FisFault) → flushes r ≡ true → sets_reset r ≡ false
flush_is_command (Ok (view.RegH2D f)) is = ap (λ (b : Bool). not b && resets f) (and_parts (is_command f) (is_flush (field H2d Command f)) is).0
flush_is_command other is = absurd (cc)

module _ (laws : Laws) (p : Profile) (limit : ℕ) (before : List Call) (bytes : List ℕ) (later : List Call) (are : AreCalls (new_disk p limit) (before ++ Hears bytes ∷ later))
    (flushing : is_flushing bytes ≡ true) (idle : IsIdle (host_of new_host before)) (on : AreKeptOn later) (heard : heard_in later ≡ 0) where
  abbrev all : List Call
  all = before ++ Hears bytes ∷ later

  not_single : (o : Out) (fis : List ℕ) → IsOut (reached p limit all) (Some o) → IsFis (reached p limit all) o fis → o ≡ out.Of 32 replies.Done → ⊥
  not_single o fis says is single =
      let says_end : IsOut (reached p limit all) (Some (out.Of 32 replies.Done)) = subst (λ (x : Out). IsOut (reached p limit all) (Some x)) single says in
      let e : Earns (page_in p limit all 32) =
      earns (page_in p limit all 32) (laws.pages p limit all 32 fis are says_end (subst (λ (x : Out). IsFis (reached p limit all) x fis) single is)) in
      let turn : IsInTurn p limit before (Hears bytes ∷ later) e.page.command =
      (laws.turn p limit before (Hears bytes ∷ later) are idle (flush_is_command (seen bytes) flushing, on)).ends says_end e.page e.is in
      let same : bytes ≡ turn.asked.bytes = first_is turn.front bytes turn.asked.bytes later turn.asked.later turn.split turn.asks heard in
      let flush : flushes (Ok (view.RegH2D turn.asked.fis)) ≡ true = ap flushes (sym turn.asked.viewed) ∙ ap is_flushing (sym same) ∙ flushing in
      let is_it : is_flush (field H2d Command turn.asked.fis) ≡ true = (and_parts (is_command turn.asked.fis) (is_flush (field H2d Command turn.asked.fis)) flush).1 in
      no_move (asked_of (reached p limit turn.asked.before) turn.asked.fis) turn.asked.move (asks_flush (reached p limit turn.asked.before) turn.asked.fis is_it) turn.asked.asks

-- ---- the law

pub end_so : Laws → FlushesEndSo
end_so laws p limit before bytes later are is idle on heard said o fis says is_fis answer =
    let all : List Call = before ++ Hears bytes ∷ later in
    let d : DiskState = reached p limit before in
    let first : AreCalls (new_disk p limit) before = first_calls before (Hears bytes ∷ later) (new_disk p limit) are in
    let rest : AreCalls d (Hears bytes ∷ later) = rest_calls before (Hears bytes ∷ later) (new_disk p limit) are in
    let h : Host = host_of new_host before in
    let free : unheard_of h ≡ None = ap (λ (b : Bool). if b then Some InReset else (if waits_for_nothing h.waits then None else Some Busy)) idle.clear ∙ ap (λ (w : Wait). if waits_for_nothing w then None else Some Busy) idle.waits in
    let works : Works (after_call d (Hears bytes)) [] = hears_flush d (seen bytes) is (λ f c. (laws.under_way p limit before first).heard f c ∙ free) in
    let then' : Works (after_calls (after_call d (Hears bytes)) later) later = calls_so later (after_call d (Hears bytes)) [] rest.1 on heard said works in
    let now : Works (reached p limit all) later =
    subst (λ (x : DiskState). Works x later) (sym (calls_after before (Hears bytes ∷ later) (new_disk p limit) ∙ one_then d (Hears bytes) later)) then' in
    let more : AreCalls (new_disk p limit) (all ++ Sends o ∷ []) = calls_both all (Sends o ∷ []) (new_disk p limit) are (says, tt) in
    let due : IsOutDue (host_of new_host all) o = due_at all (Sends o) new_host (laws.single p limit (all ++ Sends o ∷ []) more) in
    answer_so (host_of new_host all) (reached p limit all) o later now due says answer (not_single laws p limit before bytes later are is idle on heard o fis says is_fis)
