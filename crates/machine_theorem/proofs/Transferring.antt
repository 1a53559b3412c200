-- From the command on until it is answered a disk moves its sectors, or owes its error.
use Rattle.std.proofs.Common.{◌≡◌, ◌⊎◌, ℕ, ◌+◌, ◌&&◌, Bool, true, false, not, List, [], ◌∷◌, ◌++◌, Option, Some, None, refl, sym, ap, subst, ◌∙◌, inl}
use Rattle.std.proofs.{Common.{inr, arith}, lemmas.Bool.{and_parts, false≢true}}
use Rattle.std.specs.Prelude.{◌==◌, ◌/◌, ◌||◌, is_none, nat_le, nat_lt, if◌then◌else◌, Result, Ok}
use Rattle.fis_view.specs.{Seen.seen, Table.{H2d, Command, field}, declared.view.{Fis.Fis, FisFault.FisFault}}
use Rattle.fis_view.specs.declared.view.Fis.TheVariants as view
use Rattle.block_command.specs.declared.command.Command as block
use Rattle.block_engine.specs.{declared.aside.AsideStage.AsideStage, Aside.is_over, Engine.{EngineState, aside_due, line}}
use Rattle.block_engine.specs.declared.aside.AsideStage.TheVariants as stages
use Rattle.ata_command.specs.Asks.{DiskFacts, asked, asked_by, count_of, first_missing, lba_of, moved, protocol_of, tag_of_place, transferred_by}
use Rattle.ata_command.specs.{Courses.{course, is_error_log, resets, stands_beside}, Opcodes.opcode_of, declared.asked.{Asked.Asked, Move.Move}}
use Rattle.ata_command.specs.declared.{asked.Refusal.Refusal, control.Course.{Course, TheVariants.{Drop, Refuse, AbortAll, Take}}}
use Rattle.ata_command.specs.declared.{control.Standing.Standing, opcode.Opcode.Opcode, settings.Settings.Settings}
use Rattle.ata_command.specs.declared.asked.Asked.TheVariants as ask
use Rattle.ata_command.specs.declared.control.Standing.TheVariants as stand
use Rattle.ata_command.specs.declared.opcode.Opcode.TheVariants as code
use Rattle.ata_command.specs.declared.opcode.Transfer as moves
use Rattle.ata_front.specs.Fronts.{commanded_by, controlled, heard_data, moves_task, over, owed, refused_by, standing, taken, task_less}
use Rattle.ata_front.specs.declared.{front.Front.Front, task.{Task.Task, Trouble.Trouble}}
use Rattle.ata_front.specs.declared.task.Owed.TheVariants as owe
use Rattle.ata_front.specs.declared.task.Task.TheVariants as tasks
use Rattle.ata_reply.specs.declared.reply.{AtaError.TheVariants.NotFound, Reply.Reply}
use Rattle.ata_reply.specs.declared.reply.Reply.TheVariants as replies
use Rattle.disk_pages.specs.{Profiles.facts_of, declared.profile.Profile.Profile}
use Rattle.sata_disk.specs.Hearing.{asked_of, command_told, command_unheard, data_by, fis_heard, is_command, register_heard, register_unheard}
use Rattle.sata_disk.specs.{Hearing.with_logs, Sending.{IsOut, after_sent, front_sent, is_done, single_front, trouble_at}, State.DiskState}
use Rattle.sata_disk.specs.{State.{IsBeside, commands, new_disk, tags_of}, declared.{out.Out.Out, unheard.Unheard.TheVariants.{Busy, InReset}}}
use Rattle.sata_disk.specs.declared.out.Out.TheVariants as out
use Rattle.sata_disk_laws.specs.{Awaited.AsidesAreAwaited, Calls.{Answers, AreCalls, Asks, Call, Hears, IsCall, Plugs, Sends, Starts, after_call}}
use Rattle.sata_disk_laws.specs.{Calls.after_calls, Laws.reached, Once.{AnswersAreSingle, Host, IsOutDue, OpenIsUnderWay, Wait, host_of, new_host}}
use Rattle.sata_disk_laws.specs.Once.{unheard_of, waits_for_nothing}
use Rattle.sata_disk_laws.proofs.Door.{calls_after, calls_both}
use Rattle.machine_theorem.specs.InTurn.{AreKeptOn, IsIdle, IsKeptOn, answered_in, answers_one, commands as asks_one, heard_in, hears_one, is_answer}
use Rattle.machine_theorem.specs.{InTurn.{is_register, sets_reset}, Tags.once_if, OwnPages.TransfersSendNoPage, Transfers.{TransfersEndSo, fails}}
use Rattle.machine_theorem.specs.Transfers.{fails_by, is_transfer, is_transferring, transfers}
use Rattle.machine_theorem.proofs.TagCounts.{due_at, first_calls}

pub record Laws : Type 0 where
  pub single : AnswersAreSingle
  pub under_way : OpenIsUnderWay
  pub asides : AsidesAreAwaited

-- ---- what such a command asks for

-- sectors that are not of a queued command, or it is refused
abbrev pub IsTransferAsked : Asked → Type 0
IsTransferAsked (ask.Moves m) = nat_lt m.command.place 32 ≡ false
IsTransferAsked (ask.Refused r) = Unit {0}
IsTransferAsked other = ⊥

moved_so : (d : DiskFacts) (c : block.Command) (wide : Bool) → c.place ≡ 32 → IsTransferAsked (moved d c wide)
moved_so d c wide at = by (nat_le (c.lba + c.count) d.sectors)
  where
    by : (b : Bool) → IsTransferAsked (if b then ask.Moves (record { command = c; wide = wide }) else ask.Refused (record { error = NotFound; lba = first_missing d c.lba; wide = wide; tag = tag_of_place c.place }))
    by true = ap (λ (n : ℕ). nat_lt n 32) at
    by false = tt

transferred_so : (f : List ℕ) (t : moves.Transfer) (d : DiskFacts) (s : Settings) (o : Option ℕ) → IsTransferAsked (transferred_by f t d s o)
transferred_so f t d s None = tt
transferred_so f t d s (Some size) = moved_so d (record {
  place = 32;
  lba = lba_of f t.wide;
  count = count_of f t.wide;
  write = t.write;
  lasting = t.write && (t.fua || not s.write_cache);
  protocol = protocol_of t.way;
  block = size;
  auto_activate = false;
}) t.wide refl

logs_so : (a : Asked) → IsTransferAsked a → IsTransferAsked (with_logs a)
logs_so (ask.Moves m) is = is
logs_so (ask.Refused r) is = is
logs_so other is = absurd is

asked_so : (o : Opcode) (f : List ℕ) (d : DiskFacts) (s : Settings) → is_transfer o ≡ true → IsTransferAsked (with_logs (asked_by o f d s))
asked_so (code.Transfer t) f d s is = logs_so (asked_by (code.Transfer t) f d s) (transferred_so f t d s _)
asked_so other f d s is = absurd (cc)

asks_so : (d : DiskState) (f : List ℕ) → is_transfer (opcode_of (field H2d Command f)) ≡ true → IsTransferAsked (asked_of d f)
unfolding asked
asks_so d f is = asked_so (opcode_of (field H2d Command f)) f (facts_of d.profile) d.front.settings is

-- ---- what the disk makes of it

abbrev pub IsAtWork : Task → Type 0
IsAtWork tasks.Idle = Unit {0}
IsAtWork (tasks.Owes r) = fails_by r ≡ true
IsAtWork (tasks.Moves m) = Unit {0}
IsAtWork other = ⊥

pub record Works (f : Front) : Type 0 where
  pub clear : f.in_reset ≡ false
  pub task : IsAtWork f.task

task_so : (m : Move) → nat_lt m.command.place 32 ≡ false → IsAtWork (moves_task m)
task_so m e = by (nat_lt m.command.place 32) e
  where
    by : (b : Bool) → b ≡ false → IsAtWork (if b then tasks.Owes replies.Accepted else tasks.Moves (record { wide = m.wide; left = m.command.count }))
    by true e = absurd (cc)
    by false e = tt

refused_so : (f : Front) (r : Refusal) (o : Option ℕ) → f.in_reset ≡ false → Works (refused_by f r o).front
refused_so f r None clear = record { clear = clear; task = refl }
refused_so f r (Some tag) clear = record { clear = clear; task = refl }

taken_so : (f : Front) (a : Asked) → IsTransferAsked a → f.in_reset ≡ false → Works (taken f a).front
taken_so f (ask.Moves m) is clear = record { clear = clear; task = task_so m is }
taken_so f (ask.Refused r) is clear = refused_so f r r.tag clear
taken_so f other is clear = absurd is

abbrev NotDropped : Course → Type 0
NotDropped Drop = ⊥
NotDropped other = Unit {0}

course_so : (f : Front) (a : Asked) (c : Course) → IsTransferAsked a → f.in_reset ≡ false → NotDropped c → Works (commanded_by f a c).front
course_so f a Drop is clear heard = absurd heard
course_so f a Refuse is clear heard = record { clear = clear; task = refl }
course_so f a AbortAll is clear heard = record { clear = clear; task = refl }
course_so f a Take is clear heard = taken_so f a is clear

either : (b : Bool) (x y : Course) → NotDropped x → NotDropped y → NotDropped (if b then x else y)
either true x y p q = p
either false x y p q = q

not_dropped : (a : Asked) (s : Standing) → command_unheard s ≡ None → NotDropped (course a s)
not_dropped a stand.Reset e = absurd (cc)
not_dropped a stand.Single e = absurd (cc)
not_dropped a stand.Error e = either (is_error_log a) Take Refuse tt tt
not_dropped a (stand.Queued tags) e = either (tags == 0) Take _ tt (either (stands_beside a tags) Take AbortAll tt tt)

clear_of : (b : Bool) (s : Standing) → command_unheard (if b then stand.Reset else s) ≡ None → b ≡ false
clear_of true s e = absurd (cc)
clear_of false s e = refl

pub hears_moves : (d : DiskState) (f : List ℕ) → is_command f ≡ true → IsTransferAsked (asked_of d f) → register_unheard d f ≡ None → Works (register_heard d f).front
hears_moves d f c moves free =
    let s : Standing = standing d.front (tags_of (commands d)) in
    let unheard : command_unheard s ≡ None = ap (λ (b : Bool). if b then command_unheard s else None) (sym c) ∙ free in
    subst (λ (b : Bool). Works (if b then command_told d f else controlled d.front (resets f)).front) (sym c)
    (course_so d.front (asked_of d f) (course (asked_of d f) s) moves (clear_of d.front.in_reset _ unheard) (not_dropped (asked_of d f) s unheard))

hears_it : (d : DiskState) (f : List ℕ) → is_command f ≡ true → is_transfer (opcode_of (field H2d Command f)) ≡ true → register_unheard d f ≡ None → Works (register_heard d f).front
hears_it d f c t free = hears_moves d f c (asks_so d f t) free

pub hears_transfer : (d : DiskState) (r : Result Fis FisFault) → transfers r ≡ true → ((f : List ℕ) → is_command f ≡ true → register_unheard d f ≡ None) → Works (fis_heard d r).front
hears_transfer d (Ok (view.RegH2D f)) is free = let both = and_parts (is_command f) (is_transfer (opcode_of (field H2d Command f))) is in hears_it d f both.0 both.1 (free f both.0)
hears_transfer d other is free = absurd (cc)

-- ---- one call

-- what a disk in such a front owes is an error
owes_error : (t : Task) (r : Reply) → IsAtWork t → owed t ≡ Some (owe.Reply r) → fails_by r ≡ true
owes_error tasks.Idle r works is = absurd (cc)
owes_error (tasks.Owes x) r works is = subst (λ (y : Reply). fails_by y ≡ true) (by is) works
  where
    by : Some (owe.Reply x) ≡ Some (owe.Reply r) → x ≡ r
    by e = cc
owes_error (tasks.Moves m) r works is = absurd (cc)
owes_error other r works is = absurd works

pub owes_no_page : (t : Task) (p : _) → IsAtWork t → owed t ≡ Some (owe.Page p) → ⊥
owes_no_page tasks.Idle p works is = cc
owes_no_page (tasks.Owes x) p works is = cc
owes_no_page (tasks.Moves m) p works is = cc
owes_no_page other p works is = works

fails_register : (r : Reply) → fails_by r ≡ true → is_register r ≡ true
fails_register (replies.Failed f) is = refl
fails_register other is = absurd (cc)

no_blocks : (t : Task) → IsAtWork t → heard_data t ≡ None
no_blocks tasks.Idle works = refl
no_blocks (tasks.Owes x) works = refl
no_blocks (tasks.Moves m) works = refl
no_blocks other works = absurd works

less_so : (t : Task) (ended : Bool) (n : ℕ) → IsAtWork t → IsAtWork (task_less t ended n)
less_so (tasks.Moves m) true n works = tt
less_so (tasks.Moves m) false n works = tt
less_so other ended n works = tt

single_so : (f : Front) (t : Task) (ended : Bool) (n : ℕ) → Works f → Works (single_front f t ended n)
single_so f (tasks.Moves m) ended n w = record { clear = w.clear; task = less_so f.task ended n w.task }
single_so f other ended n w = w

if_works : (b : Bool) (f g : Front) → Works f → Works g → Works (if b then f else g)
if_works true f g w v = w
if_works false f g w v = v

command_so : (d : DiskState) (p n : ℕ) → Works d.front → Works (front_sent d p n)
command_so d p n w = if_works (nat_lt p 32) _ _ (if_works _ _ _ (record { clear = w.clear; task = w.task }) w) (single_so d.front d.front.task _ n w)

-- no Register FIS goes
sends_so : (d : DiskState) (o : Out) → IsOut d (Some o) → is_answer o ≡ false → Works d.front → Works (after_sent d o).front
sends_so d (out.Own r) is none w = absurd (false≢true (sym none ∙ fails_register r (owes_error d.front.task r w.task is)))
sends_so d (out.Page p) is none w = absurd (owes_no_page d.front.task p w.task is)
sends_so d (out.Beside r) is none w = absurd (false≢true (sym none ∙ ap is_register is.2 ∙ over_register (is_done d.engine.stage) (trouble_at d.engine 32)))
  where
    over_register : (b : Bool) (t : Trouble) → is_register (over b t) ≡ true
    over_register true t = refl
    over_register false t = refl
sends_so d (out.Ends tags) is none w = w
sends_so d (out.Of p r) is none w = command_so d p 0 w
sends_so d (out.Data p n) is none w = command_so d p (n / 512) w

-- no command comes, and no reset
control_so : (f : Front) (r i : Bool) → f.in_reset ≡ i → i ≡ false → r ≡ false → Works f → Works (controlled f r).front
control_so f true i is clear calm w = absurd (cc)
control_so f false i is clear calm w = subst (λ (b : Bool). Works (if b then record f { task = tasks.Owes replies.Signature; in_reset = false } else f)) (sym (is ∙ clear)) w

register_so : (d : DiskState) (f : List ℕ) → is_command f ≡ false → (not (is_command f) && resets f) ≡ false → Works d.front → Works (register_heard d f).front
register_so d f c calm w =
    subst (λ (b : Bool). Works (if b then command_told d f else controlled d.front (resets f)).front) (sym c)
    (control_so d.front (resets f) d.front.in_reset refl w.clear (ap (λ (b : Bool). not b && resets f) (sym c) ∙ calm) w)

data_so : (d : DiskState) (o : Option ℕ) (bytes : List ℕ) → o ≡ None → Works d.front → Works (data_by d o bytes).front
data_so d None bytes e w = w
data_so d (Some blocks) bytes e w = absurd (cc)

none_once : (b : Bool) → once_if b ≡ 0 → b ≡ false
none_once true e = absurd (cc)
none_once false e = refl

fis_so : (d : DiskState) (r : Result Fis FisFault) → asks_one r ≡ false → sets_reset r ≡ false → Works d.front → Works (fis_heard d r).front
fis_so d (Ok (view.RegH2D f)) none calm w = register_so d f none calm w
fis_so d (Ok (view.Payload f)) none calm w = data_so d (heard_data d.front.task) _ (no_blocks d.front.task w.task) w
fis_so d other none calm w = w

pub call_so : (d : DiskState) (x : Call) → IsCall d x → IsKeptOn x → hears_one x ≡ 0 → answers_one x ≡ 0 → Works d.front → Works (after_call d x).front
call_so d Plugs is on heard said w = absurd on
call_so d (Hears bytes) is on heard said w = fis_so d (seen bytes) (none_once (asks_one (seen bytes)) heard) on w
call_so d (Starts x) is on heard said w = w
call_so d (Asks r) is on heard said w = w
call_so d (Answers number a) is on heard said w = w
call_so d (Sends o) is on heard said w = sends_so d o is (none_once (is_answer o) said) w

pub calls_so : (later : List Call) (d : DiskState) → AreCalls d later → AreKeptOn later → heard_in later ≡ 0 → answered_in later ≡ 0 → Works d.front → Works (after_calls d later).front
unfolding after_calls
calls_so [] d are on heard said w = w
calls_so (x ∷ later) d are on heard said w =
    calls_so later (after_call d x) are.1 on.1 (omega (arith, heard)) (omega (arith, said)) (call_so d x are.0 on.0 (omega (arith, heard)) (omega (arith, said)) w)

-- ---- the answer

stage_idle : (e : EngineState) → e.stage ≡ stages.Idle → aside_due e ≡ true → ⊥
stage_idle e idle due = false≢true (sym (ap (λ (s : AsideStage). is_over s && is_none (line e).queue.table.wire) idle) ∙ due)

no_aside : (t : Task) (e : EngineState) → IsAtWork t → IsBeside t e.stage → aside_due e ≡ true → ⊥
no_aside tasks.Idle e works beside due = stage_idle e beside due
no_aside (tasks.Owes r) e works beside due = stage_idle e beside due
no_aside (tasks.Moves m) e works beside due = stage_idle e beside due
no_aside other e works beside due = works

of_place : (h : Host) (p : ℕ) (r : Reply) → IsOutDue h (out.Of p r) → is_register r ≡ true → (out.Of p r ≡ out.Of 32 replies.Done) ⊎ (fails (out.Of p r) ≡ true)
of_place h p replies.Done due is = inl (ap (λ (q : ℕ). out.Of q replies.Done) due.2)
of_place h p (replies.Failed f) due is = inr refl
of_place h p replies.Signature due is = absurd due.2
of_place h p replies.Accepted due is = absurd due.2
of_place h p replies.Active due is = absurd due.2
of_place h p replies.Healthy due is = absurd due.2
of_place h p other due is = absurd (cc)

answer_so : (h : Host) (d : DiskState) (o : Out) → Works d.front → IsBeside d.front.task d.engine.stage → IsOutDue h o → IsOut d (Some o) → is_answer o ≡ true
    → (o ≡ out.Of 32 replies.Done) ⊎ (fails o ≡ true)
answer_so h d (out.Own r) w beside due is answer = inr (owes_error d.front.task r w.task is)
answer_so h d (out.Beside r) w beside due is answer = absurd (no_aside d.front.task d.engine w.task beside is.1)
answer_so h d (out.Of p r) w beside due is answer = of_place h p r due answer
answer_so h d other w beside due is answer = absurd (cc)

-- ---- the law

pub rest_calls : (xs ys : List Call) (d : DiskState) → AreCalls d (xs ++ ys) → AreCalls (after_calls d xs) ys
unfolding after_calls
rest_calls [] ys d are = are
rest_calls (x ∷ xs) ys d are = rest_calls xs ys (after_call d x) are.1

pub one_then : (d : DiskState) (x : Call) (later : List Call) → after_calls d (x ∷ later) ≡ after_calls (after_call d x) later
unfolding after_calls
one_then d x later = refl

-- the front behind the command, and behind calls by which no other is heard or answered
pub works_behind : OpenIsUnderWay → (p : Profile) (limit : ℕ) (before : List Call) (bytes : List ℕ) (later : List Call)
    → AreCalls (new_disk p limit) (before ++ Hears bytes ∷ later) → is_transferring bytes ≡ true → IsIdle (host_of new_host before) → AreKeptOn later
    → heard_in later ≡ 0 → answered_in later ≡ 0 → Works (reached p limit (before ++ Hears bytes ∷ later)).front
works_behind under_way p limit before bytes later are is idle on heard said =
    let d : DiskState = reached p limit before in
    let first : AreCalls (new_disk p limit) before = first_calls before (Hears bytes ∷ later) (new_disk p limit) are in
    let rest : AreCalls d (Hears bytes ∷ later) = rest_calls before (Hears bytes ∷ later) (new_disk p limit) are in
    let h : Host = host_of new_host before in
    let free : unheard_of h ≡ None = ap (λ (b : Bool). if b then Some InReset else (if waits_for_nothing h.waits then None else Some Busy)) idle.clear ∙ ap (λ (w : Wait). if waits_for_nothing w then None else Some Busy) idle.waits in
    let works : Works (after_call d (Hears bytes)).front = hears_transfer d (seen bytes) is (λ f c. (under_way p limit before first).heard f c
    ∙ free) in
    let then' : Works (after_calls (after_call d (Hears bytes)) later).front = calls_so later (after_call d (Hears bytes)) rest.1 on heard said works in
    subst (λ (x : DiskState). Works x.front) (sym (calls_after before (Hears bytes ∷ later) (new_disk p limit)
    ∙ one_then d (Hears bytes) later)) then'

pub no_page : OpenIsUnderWay → TransfersSendNoPage
no_page under_way p limit before bytes later are is idle on heard said page says =
    owes_no_page (reached p limit (before ++ Hears bytes ∷ later)).front.task page
    (works_behind under_way p limit before bytes later are is idle on heard said).task says

pub end_so : Laws → TransfersEndSo
end_so laws p limit before bytes later are is idle on heard said o says answer =
    let all : List Call = before ++ Hears bytes ∷ later in
    let now : Works (reached p limit all).front = works_behind laws.under_way p limit before bytes later are is idle on heard said in
    let more : AreCalls (new_disk p limit) (all ++ Sends o ∷ []) = calls_both all (Sends o ∷ []) (new_disk p limit) are (says, tt) in
    let due : IsOutDue (host_of new_host all) o = due_at all (Sends o) new_host (laws.single p limit (all ++ Sends o ∷ []) more) in
    answer_so (host_of new_host all) (reached p limit all) o now (laws.asides p limit all are) due says answer
