-- What a call does to the commands of a disk, one deed after another, keeps who has the link, where none of them is a DMA Setup FIS or Data.
use Rattle.std.proofs.Common.{◌≡◌, ℕ, zero, suc, ◌<◌, ◌≤◌, true, false, List, [], ◌∷◌, ◌++◌, drop, Some, None, refl, sym, ap, ◌∙◌, subst, arith}
use Rattle.std.proofs.Common.{append-nil}
use Rattle.std.specs.Prelude.{Option, Bool, Result, Ok, ◌&&◌, if◌then◌else◌}
use Rattle.fis_view.specs.{Seen.seen as view_seen, declared.view.{Fis.Fis, FisFault.FisFault}}
use Rattle.fis_view.specs.declared.view.Fis.TheVariants as view
use Rattle.block_command.specs.{declared.command.Stage.{Stage, TheVariants.{Sending, SetUpRead, SetUpWrite}}, Moments.{Moment, turn_of}, Laws.Goes}
use Rattle.block_disk.specs.Requests.{Books, asks_at, entered_by, is_request, seen}
use Rattle.block_queue.specs.Deeds as deed
use Rattle.block_queue.specs.{Deeds.{Deed, IsDeed, act_of, after_deed, seen_of}, Line.{Line, command_at, may_send, may_start_at, starts}}
use Rattle.block_queue.proofs.Door.{of_and}
use Rattle.block_scheduler.specs.{Sets.{ends_at, is_end, turn_at}, Schedule.{Schedule, ends_all, ends_sent}, Laws.{AreMoves, IsMove, Move}}
use Rattle.block_scheduler.specs.Laws.{after_move, after_moves, all_deeds, deeds_of, end_deeds, ends_deeds}
use Rattle.block_scheduler.specs.Laws as move
use Rattle.block_engine.specs.{declared.request.{Answer.Answer, Range.Range, Request.Request}, Engine.{EngineState, IsAskedOf, IsEngineStart, line}}
use Rattle.block_engine.specs.{Engine.place_of, Laws.{AreSteps, Step, after_step, all_moves, answer_moves, moves_of}}
use Rattle.block_engine.specs.declared.request.Answer.TheVariants as answers
use Rattle.block_engine.specs.declared.aside.AsideStage.TheVariants as stages
use Rattle.block_engine.specs.Laws as engine
use Rattle.block_engine.proofs.Runs as engine_runs
use Rattle.block_engine.proofs.Runs.{found_low, step_are}
use Rattle.ata_front.specs.{Fronts.heard_data, declared.task.{Act.Act, Task.Task}}
use Rattle.ata_front.specs.declared.task.Act.TheVariants as act
use Rattle.sata_disk.specs.{State.{DiskState, commands, data_place, has_link, or_single}, Hearing.{MayAct, MayHear, MayRange, register_told}}
use Rattle.sata_disk.specs.{Sending.IsOut, declared.out.Out.Out}
use Rattle.sata_disk.specs.declared.out.Out.TheVariants as out
use Rattle.sata_disk_laws.specs.Calls as call
use Rattle.sata_disk_laws.specs.Calls.{Call, IsCall, act_steps, after_call, after_calls, all_steps, ask_steps, asked_by, data_steps, fis_steps}
use Rattle.sata_disk_laws.specs.Calls.{out_steps, range_steps, start_steps, steps_of}
use Rattle.sata_disk_books.specs.{Books.books_after, Counted.Counted}
use Rattle.sata_disk_books.proofs.{Holds.is_loud_stage, Sound.{IsQuiet, Stands, deed_stands, loud_at}, Walks.{after_deeds, all_deeds_both}}
use Rattle.sata_disk_books.proofs.Walks.{ends_after, line_after, line_then, moved, shown_both, shown_from}

-- ## Deeds

-- each may be done, and is none of those
abbrev pub AreDone : Line → List Deed → Type 0
AreDone l [] = Unit {0}
AreDone l (d ∷ ds) = IsDeed l d × IsQuiet l d × AreDone (after_deed l d) ds

done_both : (ds es : List Deed) (l : Line) → AreDone l ds → AreDone (after_deeds l ds) es → AreDone l (ds ++ es)
done_both [] es l are later = later
done_both (d ∷ ds) es l are later = (are.0, are.1, done_both ds es (after_deed l d) are.2 later)

pub deeds_stand : (ds : List Deed) (l : Line) (b : Books) (t : Option Counted) → Stands l b t → AreDone l ds → Stands (after_deeds l ds) (books_after b (seen_of l ds)) t
unfolding books_after seen_of
deeds_stand [] l b t is are = is
deeds_stand (d ∷ ds) l b t is are =
    deeds_stand ds (after_deed l d) (entered_by b (seen l.queue (act_of d))) t (deed_stands l b t d is are.0 are.1) are.2

-- ## Moves of a scheduler

stage_end : (s : Stage) → is_end (turn_of s) ≡ true → is_loud_stage s ≡ false
stage_end SetUpRead e = absurd (cc)
stage_end SetUpWrite e = absurd (cc)
stage_end Sending e = absurd (cc)
stage_end s e = refl

end_quiet : (x : Option Moment) → is_end (turn_at x) ≡ true → loud_at x Goes ≡ false
end_quiet None e = refl
end_quiet (Some m) e = stage_end m.stage e

end_done : (l : Line) (tag : ℕ) (b : Bool) → (ends_at l tag && may_send l tag) ≡ b → tag < 33 → AreDone l (if b then deed.Sends tag ∷ [] else [])
end_done l tag true e low = let both = of_and (ends_at l tag) (may_send l tag) e in ((low, both.1), end_quiet (command_at l tag) both.0, tt)
end_done l tag false e low = tt

ends_done : (l : Line) (n : ℕ) → n ≤ 32 → AreDone l (ends_deeds l n)
unfolding ends_deeds
ends_done l zero low = tt
ends_done l (suc n) low =
    done_both (ends_deeds l n) (end_deeds (ends_sent l n) n) l (ends_done l n (omega (arith, low)))
    (subst (λ (k : Line). AreDone k (end_deeds (ends_sent l n) n)) (sym (ends_after l n)) (end_done (ends_sent l n) n _ refl (omega (arith, low))))

abbrev pub IsQuietMove : Schedule → Move → Type 0
IsQuietMove s (move.Sends place) = loud_at (command_at s.line place) Goes ≡ false
IsQuietMove s m = Unit {0}

stage_starts : (s : Stage) → starts (turn_of s) ≡ true → is_loud_stage s ≡ false
stage_starts SetUpRead e = absurd (cc)
stage_starts SetUpWrite e = absurd (cc)
stage_starts Sending e = absurd (cc)
stage_starts s e = refl

start_quiet : (l : Line) (p : ℕ) (x : Option Moment) → may_start_at l p x ≡ true → loud_at x Goes ≡ false
start_quiet l p None e = absurd (cc)
start_quiet l p (Some m) e = stage_starts m.stage (of_and _ _ e).0

stage_asks : (s : Stage) → is_request (turn_of s) ≡ true → is_loud_stage s ≡ false
stage_asks SetUpRead e = absurd (cc)
stage_asks SetUpWrite e = absurd (cc)
stage_asks Sending e = absurd (cc)
stage_asks s e = refl

ask_quiet : (x : Option Moment) → asks_at x ≡ true → loud_at x Goes ≡ false
ask_quiet None e = absurd (cc)
ask_quiet (Some m) e = stage_asks m.stage e

sends_done : (l : Line) (p : ℕ) (b : Bool) → IsDeed l (deed.Sends p) → loud_at (command_at l p) Goes ≡ false
    → AreDone l (if b then deed.Sends p ∷ deed.Resets ∷ [] else deed.Sends p ∷ [])
sends_done l p true may quiet = (may, quiet, (tt, tt, tt))
sends_done l p false may quiet = (may, quiet, tt)

move_done : (s : Schedule) (m : Move) → IsMove s m → IsQuietMove s m → AreDone s.line (deeds_of s m)
move_done s (move.Takes c) is quiet = (is, tt, tt)
move_done s (move.Starts p) is quiet = (is, start_quiet s.line p (command_at s.line p) is.1, tt)
move_done s (move.Asks p) is quiet = (is, ask_quiet (command_at s.line p) is.1, tt)
move_done s (move.Sends p) is quiet = sends_done s.line p (ends_all s.line p) is quiet
move_done s move.SendsEnds is quiet = ends_done s.line 32 (omega arith)
move_done s (move.Hears p part) is quiet = (is, tt, tt)
move_done s (move.Answers p number i) is quiet = (is, tt, tt)
move_done s move.Draws is quiet = (tt, tt, tt)
move_done s move.Forgives is quiet = tt
move_done s move.Resets is quiet = (tt, tt, tt)

abbrev AreQuietMoves : Schedule → List Move → Type 0
AreQuietMoves s [] = Unit {0}
AreQuietMoves s (m ∷ later) = IsQuietMove s m × AreQuietMoves (after_move s m) later

moves_done : (ms : List Move) (s : Schedule) → AreMoves s ms → AreQuietMoves s ms → AreDone s.line (all_deeds s ms)
unfolding all_deeds
moves_done [] s are quiet = tt
moves_done (m ∷ later) s are quiet =
    done_both (deeds_of s m) (all_deeds (after_move s m) later) s.line (move_done s m are.0 quiet.0)
    (subst (λ (l : Line). AreDone l (all_deeds (after_move s m) later)) (moved s m) (moves_done later (after_move s m) are.1 quiet.1))

-- ## Steps of an engine

abbrev pub IsQuietStep : EngineState → Step → Type 0
IsQuietStep e (engine.Sends p) = loud_at (command_at (line e) p) Goes ≡ false
IsQuietStep e s = Unit {0}

answer_quiet : (e : EngineState) (x : Option ℕ) (number : ℕ) (a : Answer) → AreQuietMoves e.schedule (answer_moves e x number a)
answer_quiet e None number a = tt
answer_quiet e (Some p) number (answers.Loaded bytes) = (tt, tt)
answer_quiet e (Some p) number answers.Done = (tt, tt)
answer_quiet e (Some p) number (answers.Failed f) = (tt, tt)

step_quiet : (e : EngineState) (s : Step) → IsQuietStep e s → AreQuietMoves e.schedule (moves_of e s)
step_quiet e (engine.Sends p) is = (is, tt)
step_quiet e (engine.Answers number a) is = answer_quiet e (place_of e number) number a
step_quiet e (engine.TakesAside k ranges) is = tt
step_quiet e engine.SendsAside is = tt
step_quiet e other is = (tt, tt)

abbrev pub AreQuietSteps : EngineState → List Step → Type 0
AreQuietSteps e [] = Unit {0}
AreQuietSteps e (s ∷ later) = IsQuietStep e s × AreQuietSteps (after_step e s) later

none_done : (e : EngineState) → AreDone (line e) (all_deeds e.schedule (all_moves e []))
unfolding all_moves all_deeds
none_done e = tt

pub steps_done : (ss : List Step) (e : EngineState) → AreSteps e ss → AreQuietSteps e ss → AreDone (line e) (all_deeds e.schedule (all_moves e ss))
unfolding all_moves
steps_done [] e are quiet = none_done e
steps_done (s ∷ later) e are quiet =
    let first = moves_done (moves_of e s) e.schedule (step_are e s are.0) (step_quiet e s quiet.0) in
    let then' = steps_done later (after_step e s) are.1 quiet.1 in
    let same : (after_step e s).schedule ≡ after_moves e.schedule (moves_of e s) = engine_runs.moved e s in
    subst (λ (ds : List Deed). AreDone (line e) ds) (sym (all_deeds_both (moves_of e s) (all_moves (after_step e s) later) e.schedule))
    (done_both (all_deeds e.schedule (moves_of e s)) (all_deeds (after_moves e.schedule (moves_of e s)) (all_moves (after_step e s) later)) (line e) first
    (subst (λ (l : Line). AreDone l (all_deeds (after_moves e.schedule (moves_of e s)) (all_moves (after_step e s) later))) (line_after (moves_of e s) e.schedule)
    (subst (λ (x : Schedule). AreDone x.line (all_deeds x (all_moves (after_step e s) later))) same then')))

-- ## The steps of a call may be done

act_are : (e : EngineState) (t : Task) (a : Act) → MayAct e.stage t a → AreSteps e (act_steps e a)
act_are e t act.Nothing may = tt
act_are e t (act.Takes c) may = ((may.0, may.1, may.2), tt)
act_are e t act.Flushes may = (may.0, tt)
act_are e t act.Resets may = (tt, tt)

range_are : (e : EngineState) (x : Option (List Range)) → e.stage ≡ stages.Idle → AreSteps e (range_steps x)
range_are e None idle = tt
range_are e (Some ranges) idle = (idle, tt)

single_low : (x : Option ℕ) → ((k : ℕ) → x ≡ Some k → k < 32) → or_single x < 33
single_low None low = omega arith
single_low (Some k) low = let below = low k refl in omega (arith, below)

pub place_low : (l : Line) → data_place l < 33
unfolding data_place
place_low l = single_low _ (λ k e. found_low (has_link l) 32 k e)

data_are : (d : DiskState) (x : Option ℕ) (bytes : List ℕ) → MayRange d.engine.stage x → AreSteps d.engine (data_steps d x bytes)
data_are d None bytes may = (place_low (commands d), tt)
data_are d (Some blocks) bytes may = range_are d.engine _ may

fis_are : (d : DiskState) (x : Result Fis FisFault) → MayHear d x → AreSteps d.engine (fis_steps d x)
fis_are d (Ok (view.RegH2D f)) may = act_are d.engine (register_told d f).front.task (register_told d f).act may
fis_are d (Ok (view.Payload f)) may = data_are d (heard_data d.front.task) (drop 4 f) may
fis_are d other may = tt

start_are : (e : EngineState) (x : Option ℕ) → IsEngineStart e x → AreSteps e (start_steps x)
start_are e None is = tt
start_are e (Some p) is = ((is.1.0.below, is.1.0.passes, is.0), tt)

ask_are : (e : EngineState) (r : Request) (x : Option ℕ) → IsAskedOf e (asked_by e x) r x → AreSteps e (ask_steps x)
ask_are e r None is = (is.1, tt)
ask_are e r (Some p) is = ((is.0.below, is.0.passes), tt)

out_are : (d : DiskState) (o : Out) → IsOut d (Some o) → AreSteps d.engine (out_steps o)
out_are d (out.Beside r) is = (is.1, tt)
out_are d (out.Ends tags) is = (tt, tt)
out_are d (out.Of p r) is = (is.2, (tt, tt))
out_are d (out.Data p n) is = (is.2, (tt, tt))
out_are d other is = tt

pub call_are : (d : DiskState) (c : Call) → IsCall d c → AreSteps d.engine (steps_of d c)
call_are d call.Plugs is = (tt, tt)
call_are d (call.Hears f) is = fis_are d (view_seen f) is
call_are d (call.Starts x) is = start_are d.engine x is
call_are d (call.Asks r) is = ask_are d.engine r r.place is.1
call_are d (call.Answers number a) is = (is, tt)
call_are d (call.Sends o) is = out_are d o is

-- ## And are none of those

abbrev pub IsQuietCall : DiskState → Call → Type 0
IsQuietCall d (call.Sends (out.Of p r)) = loud_at (command_at (commands d) p) Goes ≡ false
IsQuietCall d (call.Sends (out.Data p n)) = ⊥
IsQuietCall d c = Unit {0}

act_quiet : (e : EngineState) (a : Act) → AreQuietSteps e (act_steps e a)
act_quiet e act.Nothing = tt
act_quiet e other = (tt, tt)

range_quiet : (e : EngineState) (x : Option (List Range)) → AreQuietSteps e (range_steps x)
range_quiet e None = tt
range_quiet e (Some ranges) = (tt, tt)

data_quiet : (d : DiskState) (x : Option ℕ) (bytes : List ℕ) → AreQuietSteps d.engine (data_steps d x bytes)
data_quiet d None bytes = (tt, tt)
data_quiet d (Some blocks) bytes = range_quiet d.engine _

fis_quiet : (d : DiskState) (x : Result Fis FisFault) → AreQuietSteps d.engine (fis_steps d x)
fis_quiet d (Ok (view.RegH2D f)) = act_quiet d.engine (register_told d f).act
fis_quiet d (Ok (view.Payload f)) = data_quiet d (heard_data d.front.task) (drop 4 f)
fis_quiet d other = tt

start_steps_quiet : (e : EngineState) (x : Option ℕ) → AreQuietSteps e (start_steps x)
start_steps_quiet e None = tt
start_steps_quiet e (Some p) = (tt, tt)

ask_steps_quiet : (e : EngineState) (x : Option ℕ) → AreQuietSteps e (ask_steps x)
ask_steps_quiet e None = (tt, tt)
ask_steps_quiet e (Some p) = (tt, tt)

out_quiet : (d : DiskState) (o : Out) → IsQuietCall d (call.Sends o) → AreQuietSteps d.engine (out_steps o)
out_quiet d (out.Beside r) is = (tt, tt)
out_quiet d (out.Ends tags) is = (tt, tt)
out_quiet d (out.Of p r) is = (is, (tt, tt))
out_quiet d (out.Data p n) is = absurd is
out_quiet d other is = tt

pub call_quiet : (d : DiskState) (c : Call) → IsQuietCall d c → AreQuietSteps d.engine (steps_of d c)
call_quiet d (call.Hears f) is = fis_quiet d (view_seen f)
call_quiet d (call.Starts x) is = start_steps_quiet d.engine x
call_quiet d (call.Asks r) is = ask_steps_quiet d.engine r.place
call_quiet d (call.Sends o) is = out_quiet d o is
call_quiet d other is = (tt, tt)

-- ## A call

abbrev pub deeds_by : DiskState → Call → List Deed
deeds_by d c = all_deeds d.engine.schedule (all_moves d.engine (steps_of d c))

one_steps : (d : DiskState) (c : Call) → all_steps d (c ∷ []) ≡ steps_of d c
unfolding all_steps
one_steps d c = append-nil (steps_of d c)

one_after : (d : DiskState) (c : Call) → after_calls d (c ∷ []) ≡ after_call d c
unfolding after_calls
one_after d c = refl

pub line_by : (d : DiskState) (c : Call) → commands (after_call d c) ≡ after_deeds (commands d) (deeds_by d c)
line_by d c =
    ap (λ (x : DiskState). commands x) (sym (one_after d c)) ∙ line_then d (c ∷ [])
    ∙ ap (λ (ss : List Step). after_deeds (commands d) (all_deeds d.engine.schedule (all_moves d.engine ss))) (one_steps d c)

pub shown_by : (d : DiskState) (c : Call) (later : List Call) → shown_from d (c ∷ later) ≡ seen_of (commands d) (deeds_by d c) ++ shown_from (after_call d c) later
shown_by d c later =
    shown_both d (c ∷ []) later
    ∙ ap (λ (ss : List Step). seen_of (commands d) (all_deeds d.engine.schedule (all_moves d.engine ss)) ++ shown_from (after_calls d (c ∷ [])) later) (one_steps d c)
    ∙ ap (λ (x : DiskState). seen_of (commands d) (deeds_by d c) ++ shown_from x later) (one_after d c)

pub call_stands : (d : DiskState) (b : Books) (t : Option Counted) (c : Call) → Stands (commands d) b t → IsCall d c → IsQuietCall d c
    → Stands (commands (after_call d c)) (books_after b (seen_of (commands d) (deeds_by d c))) t
call_stands d b t c is may quiet =
    subst (λ (l : Line). Stands l (books_after b (seen_of (commands d) (deeds_by d c))) t) (sym (line_by d c))
    (deeds_stand (deeds_by d c) (commands d) b t is (steps_done (steps_of d c) d.engine (call_are d c may) (call_quiet d c quiet)))

-- ## A FIS of a command

sent_case : (l : Line) (b : Books) (t : Option Counted) (p : ℕ) (c : Bool) → Stands (after_deed l (deed.Sends p)) (entered_by b (seen l.queue (act_of (deed.Sends p)))) t
    → Stands (after_deeds l (if c then deed.Sends p ∷ deed.Resets ∷ [] else deed.Sends p ∷ []))
    (books_after b (seen_of l (if c then deed.Sends p ∷ deed.Resets ∷ [] else deed.Sends p ∷ []))) t
unfolding books_after seen_of
sent_case l b t p true is = deed_stands (after_deed l (deed.Sends p)) (entered_by b (seen l.queue (act_of (deed.Sends p)))) t deed.Resets is tt tt
sent_case l b t p false is = is

pub sent_deeds : (e : EngineState) (p : ℕ) → all_deeds e.schedule (all_moves e (engine.Sends p ∷ engine.Forgives ∷ [])) ≡ deeds_of e.schedule (move.Sends p)
unfolding all_moves all_deeds
sent_deeds e p = append-nil (deeds_of e.schedule (move.Sends p))

pub sent_stands : (d : DiskState) (b : Books) (t : Option Counted) (p : ℕ) (o : Out) → out_steps o ≡ engine.Sends p ∷ engine.Forgives ∷ []
    → Stands (after_deed (commands d) (deed.Sends p)) (entered_by b (seen (commands d).queue (act_of (deed.Sends p)))) t
    → Stands (commands (after_call d (call.Sends o))) (books_after b (seen_of (commands d) (deeds_by d (call.Sends o)))) t
sent_stands d b t p o is now =
    let same : deeds_by d (call.Sends o) ≡ deeds_of d.engine.schedule (move.Sends p) =
    ap (λ (ss : List Step). all_deeds d.engine.schedule (all_moves d.engine ss)) is ∙ sent_deeds d.engine p in
    subst (λ (l : Line). Stands l (books_after b (seen_of (commands d) (deeds_by d (call.Sends o)))) t) (sym (line_by d (call.Sends o)))
    (subst (λ (ds : List Deed). Stands (after_deeds (commands d) ds) (books_after b (seen_of (commands d) ds)) t) (sym same)
    (sent_case (commands d) b t p (ends_all (commands d) p) now))
