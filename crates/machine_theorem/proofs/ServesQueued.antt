-- Where a guest sends a disk queued commands alone, and the disk takes each, it serves queued commands alone: none of its Data and none of its FISes is of another.
use Rattle.std.proofs.Common.{◌≡◌, ◌⊎◌, ℕ, ◌<◌, ◌/◌, ◌&&◌, Bool, true, false, not, List, [], ◌∷◌, ◌++◌, append_assoc, append-nil, drop, Option, Some}
use Rattle.std.proofs.{Common.{None, Ok, refl, sym, ap, subst, ◌∙◌, arith, inl, inr}, lemmas.Bool.{false≢true, lt-ltb, ltb-true}}
use Rattle.std.specs.{Prelude.{◌%◌, nat_lt, if◌then◌else◌, Result}, List.flat_map}
use Rattle.fis_view.specs.{Seen.{frame_of, seen}, Table.{H2d, Command, Count, field}, declared.view.{Fis.Fis, FisFault.FisFault}}
use Rattle.fis_view.specs.declared.view.Fis.TheVariants as view
use Rattle.block_command.specs.declared.command.Command as block
use Rattle.block_engine.specs.{declared.aside.AsideStage.AsideStage, Aside.is_over, Laws.Step}
use Rattle.block_engine.specs.declared.aside.AsideStage.TheVariants as stages
use Rattle.block_engine.specs.Laws as engine
use Rattle.ata_command.specs.{Courses.{course, resets}, declared.{asked.{Asked.Asked as Ask, Move.Move}, control.Course.{Course, TheVariants.Drop}}}
use Rattle.ata_command.specs.declared.control.Course.TheVariants.{Refuse, AbortAll, Take}
use Rattle.ata_command.specs.declared.asked.Asked.TheVariants as ask
use Rattle.ata_front.specs.{Fronts.{commanded_by, controlled, heard_data, owed, said_by, standing}, declared.front.{Front.Front, Heard.Heard}}
use Rattle.ata_front.specs.declared.task.{Act.Act, Owed.Owed, Page.Page, Task.Task}
use Rattle.ata_front.specs.declared.task.Act.TheVariants as act
use Rattle.ata_front.specs.declared.task.Owed.TheVariants as owe
use Rattle.ata_front.specs.declared.task.Task.TheVariants as tasks
use Rattle.ata_reply.specs.declared.reply.Reply.{Reply}
use Rattle.ata_reply.specs.declared.reply.Reply.TheVariants as replies
use Rattle.disk_pages.specs.declared.profile.Profile.{Profile}
use Rattle.sata_disk.specs.{Hearing.{asked_of, command_told, data_by, fis_heard, is_command, register_told}, Sending.IsOut, State.DiskState}
use Rattle.sata_disk.specs.{State.{IsBeside, commands, new_disk, tags_of}, declared.out.Out.Out}
use Rattle.sata_disk.specs.declared.out.Out.TheVariants as out
use Rattle.sata_disk_books.specs.InTurn.{AreOfQueue, IsNoPio, IsOfQueue, IsQueuedFis}
use Rattle.sata_disk_laws.specs.{Awaited.AsidesAreAwaited, Calls.{AreCalls, Call, Plugs, Hears, Starts, Asks, Answers, IsCall, Sends, act_steps}}
use Rattle.sata_disk_laws.specs.{Calls.{after_call, after_calls}, Laws.reached, Once.{AnswersAreSingle, Host, IsCallDue, IsDataAt, IsOfPlace}}
use Rattle.sata_disk_laws.specs.Once.{IsOpenAt, IsOutDue, host_of, is_queued_code, new_host, place_in}
use Rattle.machine_laws.specs.Falling.{heard_by}
use Rattle.machine_theorem.specs.{QueuedOnly.asks_single, QueuedWrites.{IsTaken, TakesAll, TakesBy, TakesIt}}
use Rattle.machine_theorem.proofs.{HostShut.{IsShut, NoneAsk, calls_shut, host_both}, TagKept.StepNone, TagAsked.{Outcome, outcome, Outcome.Nothing}}
use Rattle.machine_theorem.proofs.{TagAsked.Outcome.Taken, TagCounts.{due_at, first_calls, one_call_more}}

-- ---- what a disk owes of itself: nothing, or that a queued command is accepted

abbrev pub IsOwing : Task → Type 0
IsOwing t = (t ≡ tasks.Idle) ⊎ (t ≡ tasks.Owes replies.Accepted)

abbrev reply_or : Option Owed → Reply
reply_or (Some (owe.Reply r)) = r
reply_or other = replies.Accepted

own_is : (t : Task) (r : Reply) → IsOwing t → owed t ≡ Some (owe.Reply r) → r ≡ replies.Accepted
own_is t r (inl idle) is = absurd (let both : None ≡ Some (owe.Reply r) = sym (ap owed idle) ∙ is in cc)
own_is t r (inr owes) is = ap reply_or (sym is ∙ ap owed owes)

no_page : (t : Task) (p : Page) → IsOwing t → owed t ≡ Some (owe.Page p) → ⊥
no_page t p (inl idle) is = let both : None ≡ Some (owe.Page p) = sym (ap owed idle) ∙ is in cc
no_page t p (inr owes) is = let both : Some (owe.Reply replies.Accepted) ≡ Some (owe.Page p) = sym (ap owed owes) ∙ is in cc

is_idle : (t : Task) → IsOwing t → owed t ≡ None → t ≡ tasks.Idle
is_idle t (inl idle) is = idle
is_idle t (inr owes) is = absurd (let both : Some (owe.Reply replies.Accepted) ≡ None = sym (ap owed owes) ∙ is in cc)

said_idle : (f : Front) → IsOwing f.task → (said_by f f.task).task ≡ tasks.Idle
said_idle f (inl idle) = ap (λ t. (said_by f t).task) idle ∙ idle
said_idle f (inr owes) = ap (λ t. (said_by f t).task) owes

no_data : (t : Task) → IsOwing t → heard_data t ≡ None
no_data t (inl idle) = ap heard_data idle
no_data t (inr owes) = ap heard_data owes

-- ---- a command that it hears

task_taken : (f : Front) (m : Move) (k : Course) (c : block.Command) → (commanded_by f (ask.Moves m) k).act ≡ act.Takes c → nat_lt m.command.place 32 ≡ true
    → (commanded_by f (ask.Moves m) k).front.task ≡ tasks.Owes replies.Accepted
task_taken f m Drop c e low = absurd (cc)
task_taken f m Refuse c e low = absurd (cc)
task_taken f m AbortAll c e low = absurd (cc)
task_taken f m Take c e low = ap (λ (b : Bool). if b then tasks.Owes replies.Accepted else tasks.Moves (record { wide = m.wide; left = m.command.count })) low

told_command : (d : DiskState) (f : List ℕ) → is_command f ≡ true → register_told d f ≡ command_told d f
told_command d f is = by (is_command f) is
  where
    by : (b : Bool) → b ≡ true → (if b then command_told d f else controlled d.front (resets f)) ≡ command_told d f
    by true e = refl
    by false e = absurd (cc)

heard_task : (d : DiskState) (f : List ℕ) (m : Move) (c : block.Command) → is_command f ≡ true → asked_of d f ≡ ask.Moves m → (register_told d f).act ≡ act.Takes c
    → nat_lt m.command.place 32 ≡ true → (register_told d f).front.task ≡ tasks.Owes replies.Accepted
heard_task d f m c is asks takes low =
    let k : Course = course (asked_of d f) (standing d.front (tags_of (commands d))) in
    let told : register_told d f ≡ commanded_by d.front (ask.Moves m) k = told_command d f is ∙ ap (λ (a : Ask). commanded_by d.front a k) asks in
    ap (λ (h : Heard). h.front.task) told ∙ task_taken d.front m k c (ap (λ (h : Heard). h.act) (sym told) ∙ takes) low

abbrev frame_or : Result Fis FisFault → List ℕ
frame_or (Ok v) = frame_of v
frame_or other = []

frame_same : (f g : List ℕ) → ◌≡◌ {A = Result Fis FisFault} (Ok (view.RegH2D f)) (Ok (view.RegH2D g)) → f ≡ g
frame_same f g e = ap frame_or e

queued_place : (f : List ℕ) (a b : Bool) → a ≡ true → (a && not b) ≡ false → (if b then field H2d Count f % 256 / 8 else 32) < 32
queued_place f true true e h = omega arith
queued_place f true false e h = absurd (cc)
queued_place f false b e h = absurd (cc)

abbrev command_or : block.Command → List Step → block.Command
command_or c (engine.Takes k ∷ later) = k
command_or c other = c

takes_same : (j k : block.Command) → engine.Takes j ∷ [] ≡ engine.Takes k ∷ [] → j ≡ k
takes_same j k e = ap (command_or j) e

-- ---- one call

record ServesFis (d : DiskState) (r : Result Fis FisFault) : Type 0 where
  queue : IsQueuedFis d r
  owing : IsOwing (fis_heard d r).front.task

record Serves (d : DiskState) (c : Call) : Type 0 where
  queue : IsOfQueue d c
  owing : IsOwing (after_call d c).front.task

register_serves : (d : DiskState) (f : List ℕ) → TakesIt d f → asks_single (Ok (view.RegH2D f)) ≡ false → Outcome d (Ok (view.RegH2D f)) → ServesFis d (Ok (view.RegH2D f))
register_serves d f it single (Nothing none) = absurd (subst (λ (a : Act). StepNone (act_steps d.engine a)) it.takes none).0
register_serves d f it single (Taken g c same is place steps move asks whole) =
    let here : f ≡ g = frame_same f g same in
    let command : it.command ≡ c = takes_same it.command c (sym (ap (act_steps d.engine) it.takes) ∙ steps) in
    let low : place_in g < 32 =
    queued_place g (is_command g) (is_queued_code (field H2d Command g)) is (subst (λ (x : List ℕ). asks_single (Ok (view.RegH2D x)) ≡ false) here single) in
    let below : it.command.place < 32 = subst (λ (k : ℕ). k < 32) (sym place ∙ ap (λ (x : block.Command). x.place) (sym command)) low in
    let takes : (register_told d g).act ≡ act.Takes it.command = subst (λ (x : List ℕ). (register_told d x).act ≡ act.Takes it.command) here it.takes in
    let task : (register_told d g).front.task ≡ tasks.Owes replies.Accepted =
    heard_task d g move it.command is asks takes (lt-ltb move.command.place 32 (subst (λ (x : block.Command). x.place < 32) (command ∙ whole) below)) in
    record {
      queue = record { command = it.command; takes = it.takes; low = below };
      owing = inr (ap (λ (x : List ℕ). (register_told d x).front.task) here ∙ task);
    }

data_front : (d : DiskState) (x : Option ℕ) (bytes : List ℕ) → x ≡ None → (data_by d x bytes).front.task ≡ d.front.task
data_front d None bytes e = refl
data_front d (Some blocks) bytes e = absurd (cc)

fis_serves : (d : DiskState) (r : Result Fis FisFault) → IsOwing d.front.task → IsTaken d r → asks_single r ≡ false → Outcome d r → ServesFis d r
fis_serves d (Ok (view.RegH2D f)) owing taken single of = register_serves d f taken single of
fis_serves d (Ok (view.Payload f)) owing taken single of =
    let none : heard_data d.front.task ≡ None = no_data d.front.task owing in
    record { queue = none; owing = subst IsOwing (sym (data_front d (heard_data d.front.task) (drop 4 f) none)) owing }
fis_serves d other owing taken single of = record { queue = tt; owing = owing }

module _ (h : Host) (shut : IsShut h) where
  open_low : (p : ℕ) (b : Bool) → nat_lt p 32 ≡ b → IsOpenAt h p b → p < 32
  open_low p true e open' = ltb-true p 32 e
  open_low p false e open' = absurd (false≢true (sym shut ∙ open'.1.0))

  data_low : (p : ℕ) (b : Bool) → nat_lt p 32 ≡ b → IsDataAt h p b → p < 32
  data_low p true e open' = ltb-true p 32 e
  data_low p false e open' = absurd (false≢true (sym shut ∙ open'.1.0))

no_pio : (p : ℕ) (r : Reply) → p < 32 → IsOfPlace p r → IsNoPio r
no_pio p (replies.Announce a) low at = omega (arith, low, at)
no_pio p other low at = tt

front_same : (P : Front → Type 0) (a b : Bool) (x y z : Front) → a ≡ true → P x → P y → P (if a then (if b then x else y) else z)
front_same P true true x y z e one two = one
front_same P true false x y z e one two = two
front_same P false b x y z e one two = absurd (cc)

beside_none : (t : Task) (s : AsideStage) (free : Bool) → t ≡ tasks.Idle → IsBeside t s → (is_over s && free) ≡ true → ⊥
beside_none t s free idle beside due =
    let stage : s ≡ stages.Idle = subst (λ (x : Task). IsBeside x s) idle beside in
    let none : (is_over s && free) ≡ false = ap (λ (x : AsideStage). is_over x && free) stage in
    false≢true (sym none ∙ due)

out_serves : (d : DiskState) (h : Host) (o : Out) → IsShut h → IsBeside d.front.task d.engine.stage → IsOut d (Some o) → IsOutDue h o → IsOwing d.front.task
    → Serves d (Sends o)
out_serves d h (out.Own r) shut beside is due owing = record { queue = own_is d.front.task r owing is; owing = inl (said_idle d.front owing) }
out_serves d h (out.Page p) shut beside is due owing = absurd (no_page d.front.task p owing is)
out_serves d h (out.Beside r) shut beside is due owing =
    absurd (beside_none d.front.task d.engine.stage _ (is_idle d.front.task owing is.0) beside is.1)
out_serves d h (out.Ends tags) shut beside is due owing = record { queue = tt; owing = owing }
out_serves d h (out.Of p r) shut beside is due owing =
    let low : p < 32 = open_low h shut p (nat_lt p 32) refl due.1 in
    record {
      queue = (low, no_pio p r low due.2);
      owing = front_same (λ (f : Front). IsOwing f.task) (nat_lt p 32) _ _ _ _ (lt-ltb p 32 low) owing owing;
    }
out_serves d h (out.Data p n) shut beside is due owing =
    let low : p < 32 = data_low h shut p (nat_lt p 32) refl due in
    record { queue = low; owing = front_same (λ (f : Front). IsOwing f.task) (nat_lt p 32) _ _ _ _ (lt-ltb p 32 low) owing owing }

-- what holds of the FISes that are heard by a call
none_first : (xs ys : List (List ℕ)) → NoneAsk (xs ++ ys) → NoneAsk xs
none_first [] ys none = tt
none_first (x ∷ xs) ys none = (none.0, none_first xs ys none.1)

none_then : (xs ys : List (List ℕ)) → NoneAsk (xs ++ ys) → NoneAsk ys
none_then [] ys none = none
none_then (x ∷ xs) ys none = none_then xs ys none.1

call_serves : (d : DiskState) (h : Host) (c : Call) → IsShut h → IsBeside d.front.task d.engine.stage → IsCall d c → IsCallDue h c → NoneAsk (heard_by c) → TakesBy d c
    → IsOwing d.front.task → Serves d c
call_serves d h Plugs shut beside is due none takes owing = absurd takes
call_serves d h (Hears f) shut beside is due none takes owing =
    let s : ServesFis d (seen f) = fis_serves d (seen f) owing takes none.0 (outcome d (seen f)) in
    record { queue = s.queue; owing = s.owing }
call_serves d h (Starts x) shut beside is due none takes owing = record { queue = tt; owing = owing }
call_serves d h (Asks r) shut beside is due none takes owing = record { queue = tt; owing = owing }
call_serves d h (Answers number a) shut beside is due none takes owing = record { queue = tt; owing = owing }
call_serves d h (Sends o) shut beside is due none takes owing = out_serves d h o shut beside is due owing

-- ---- its calls

pub record Laws : Type 0 where
  pub single : AnswersAreSingle
  pub asides : AsidesAreAwaited

last_call : (xs : List Call) (c : Call) (d : DiskState) → AreCalls d (xs ++ c ∷ []) → IsCall (after_calls d xs) c
unfolding after_calls
last_call [] c d are = are.0
last_call (x ∷ xs) c d are = last_call xs c (after_call d x) are.1

-- behind some calls, by which it owes nothing but that a queued command is accepted
pub serves : Laws → (p : Profile) (limit : ℕ) (later xs : List Call) → AreCalls (new_disk p limit) (xs ++ later) → IsOwing (reached p limit xs).front.task
    → IsShut (host_of new_host xs) → NoneAsk (flat_map heard_by later) → TakesAll (reached p limit xs) later → AreOfQueue (reached p limit xs) later
serves laws p limit [] xs are owing shut none takes = tt
serves laws p limit (c ∷ later) xs are owing shut none takes =
    let d : DiskState = reached p limit xs in
    let all : AreCalls (new_disk p limit) ((xs ++ c ∷ []) ++ later) = subst (AreCalls (new_disk p limit)) (sym (append_assoc xs (c ∷ []) later)) are in
    let one : AreCalls (new_disk p limit) (xs ++ c ∷ []) = first_calls (xs ++ c ∷ []) later (new_disk p limit) all in
    let heard : NoneAsk (heard_by c) = none_first (heard_by c) (flat_map heard_by later) none in
    let it : Serves d c =
    call_serves d (host_of new_host xs) c shut (laws.asides p limit xs (first_calls xs (c ∷ []) (new_disk p limit) one)) (last_call xs c (new_disk p limit) one)
    (due_at xs c new_host (laws.single p limit (xs ++ c ∷ []) one)) heard takes.0 owing in
    let same : reached p limit (xs ++ c ∷ []) ≡ after_call d c = one_call_more p limit xs c in (
      it.queue,
      subst (λ (x : DiskState). AreOfQueue x later) same
          (serves laws p limit later (xs ++ c ∷ []) all (subst (λ (x : DiskState). IsOwing x.front.task) (sym same) it.owing)
          (ap (λ (k : Host). k.open_at 32) (host_both xs (c ∷ []) new_host)
          ∙ calls_shut (c ∷ []) (host_of new_host xs) shut (subst NoneAsk (sym (append-nil (heard_by c))) heard))
          (none_then (heard_by c) (flat_map heard_by later) none) (subst (λ (x : DiskState). TakesAll x later) (sym same) takes.1)),
    )
