-- What a call of a disk does to its commands are deeds that may be done; those of a call that asks and answers nothing are calm.
use Rattle.std.proofs.Common.{◌≡◌, ℕ, zero, suc, ◌<◌, ◌≤◌, true, false, List, [], ◌∷◌, ◌++◌, drop, Some, None, refl, sym, arith, subst}
use Rattle.std.specs.Prelude.{Option, Bool, ◌&&◌, if◌then◌else◌, Result, Ok}
use Rattle.fis_view.specs.{Seen.seen as view_seen, declared.view.{Fis.Fis, FisFault.FisFault}}
use Rattle.fis_view.specs.declared.view.Fis.TheVariants as view
use Rattle.block_queue.specs.Deeds as deed
use Rattle.block_queue.specs.{Deeds.{AreDeeds, Deed, after_deed}, Line.{Line, may_send}}
use Rattle.block_queue.proofs.Door.{of_and}
use Rattle.block_scheduler.specs.{Sets.ends_at, Schedule.{Schedule, ends_all, ends_sent}, Laws.{AreMoves, IsMove, Move, after_move, after_moves}}
use Rattle.block_scheduler.specs.Laws.{all_deeds, deeds_of, end_deeds, ends_deeds}
use Rattle.block_scheduler.specs.Laws as move
use Rattle.block_engine.specs.declared.aside.AsideStage.TheVariants as stages
use Rattle.block_engine.specs.{declared.request.{Range.Range, Request.Request}, Engine.{EngineState, IsAskedOf, IsEngineStart}, Laws.{AreSteps, Step}}
use Rattle.block_engine.specs.Laws.{after_step, all_moves, moves_of}
use Rattle.block_engine.specs.Laws as engine
use Rattle.block_engine.proofs.Runs as engine_runs
use Rattle.block_engine.proofs.Runs.{found_low}
use Rattle.ata_front.specs.{Fronts.heard_data, declared.task.{Act.Act, Task.Task}}
use Rattle.ata_front.specs.declared.task.Act.TheVariants as act
use Rattle.disk_pages.specs.Profiles.{facts_of}
use Rattle.sata_disk.specs.{State.{DiskState, commands, data_place, has_link, or_single}, Hearing.{MayAct, MayHear, MayRange, ranges_of}}
use Rattle.sata_disk.specs.{Hearing.register_told, Sending.IsOut, declared.out.Out.Out}
use Rattle.sata_disk.specs.declared.out.Out.TheVariants as out
use Rattle.sata_disk_laws.specs.Calls as call
use Rattle.sata_disk_laws.specs.Calls.{Call, IsCall, act_steps, ask_steps, asked_by, data_steps, fis_steps, out_steps, range_steps, start_steps}
use Rattle.sata_disk_laws.specs.Calls.{steps_of}
use Rattle.sata_disk_books.proofs.Door.{after_deeds, ends_after, moved}
use Rattle.sata_disk_media.proofs.Stored.{is_calm}

-- ## The steps of a call may be done

act_are : (e : EngineState) (t : Task) (a : Act) → MayAct e.stage t a → AreSteps e (act_steps e a)
act_are e t act.Nothing may = tt
act_are e t (act.Takes c) may = ((may.0, may.1, may.2), tt)
act_are e t act.Flushes may = (may.0, tt)
act_are e t act.Resets may = (tt, tt)

range_are : (e : EngineState) (x : Option (List Range)) → e.stage ≡ stages.Idle → AreSteps e (range_steps x)
range_are e None idle = tt
range_are e (Some ranges) idle = (idle, tt)

single_low : (x : Option ℕ) → ((k : ℕ) → x ≡ Some k → k < 32) → or_single x < 33
single_low None low = omega arith
single_low (Some k) low = let below = low k refl in omega (arith, below)

place_low : (l : Line) → data_place l < 33
unfolding data_place
place_low l = single_low _ (λ k e. found_low (has_link l) 32 k e)

data_are : (d : DiskState) (x : Option ℕ) (bytes : List ℕ) → MayRange d.engine.stage x → AreSteps d.engine (data_steps d x bytes)
data_are d None bytes may = (place_low (commands d), tt)
data_are d (Some blocks) bytes may = range_are d.engine _ may

fis_are : (d : DiskState) (x : Result Fis FisFault) → MayHear d x → AreSteps d.engine (fis_steps d x)
fis_are d (Ok (view.RegH2D f)) may = act_are d.engine (register_told d f).front.task (register_told d f).act may
fis_are d (Ok (view.Payload f)) may = data_are d (heard_data d.front.task) (drop 4 f) may
fis_are d other may = tt

start_are : (e : EngineState) (x : Option ℕ) → IsEngineStart e x → AreSteps e (start_steps x)
start_are e None is = tt
start_are e (Some p) is = ((is.1.0.below, is.1.0.passes, is.0), tt)

ask_are : (e : EngineState) (r : Request) (x : Option ℕ) → IsAskedOf e (asked_by e x) r x → AreSteps e (ask_steps x)
ask_are e r None is = (is.1, tt)
ask_are e r (Some p) is = ((is.0.below, is.0.passes), tt)

out_are : (d : DiskState) (o : Out) → IsOut d (Some o) → AreSteps d.engine (out_steps o)
out_are d (out.Beside r) is = (is.1, tt)
out_are d (out.Ends tags) is = (tt, tt)
out_are d (out.Of p r) is = (is.2, (tt, tt))
out_are d (out.Data p n) is = (is.2, (tt, tt))
out_are d other is = tt

pub call_are : (d : DiskState) (c : Call) → IsCall d c → AreSteps d.engine (steps_of d c)
call_are d call.Plugs is = (tt, tt)
call_are d (call.Hears f) is = fis_are d (view_seen f) is
call_are d (call.Starts x) is = start_are d.engine x is
call_are d (call.Asks r) is = ask_are d.engine r r.place is.1
call_are d (call.Answers number a) is = (is, tt)
call_are d (call.Sends o) is = out_are d o is

-- ## So may their deeds

moves_both : (ms ns : List Move) (s : Schedule) → AreMoves s ms → AreMoves (after_moves s ms) ns → AreMoves s (ms ++ ns)
unfolding after_moves
moves_both [] ns s are later = later
moves_both (m ∷ ms) ns s are later = (are.0, moves_both ms ns (after_move s m) are.1 later)

steps_moves : (steps : List Step) (e : EngineState) → AreSteps e steps → AreMoves e.schedule (all_moves e steps)
unfolding all_moves
steps_moves [] e are = tt
steps_moves (s ∷ later) e are = moves_both (moves_of e s) _ e.schedule (engine_runs.step_are e s are.0)
    (subst (λ x. AreMoves x (all_moves (after_step e s) later)) (engine_runs.moved e s) (steps_moves later (after_step e s) are.1))

are_both : (ds es : List Deed) (l : Line) → AreDeeds l ds → AreDeeds (after_deeds l ds) es → AreDeeds l (ds ++ es)
are_both [] es l are later = later
are_both (d ∷ ds) es l are later = (are.0, are_both ds es (after_deed l d) are.1 later)

end_are : (l : Line) (tag : ℕ) (b : Bool) → (ends_at l tag && may_send l tag) ≡ b → tag < 33 → AreDeeds l (if b then deed.Sends tag ∷ [] else [])
end_are l tag true e low = ((low, (of_and _ _ e).1), tt)
end_are l tag false e low = tt

ends_are : (l : Line) (n : ℕ) → n ≤ 32 → AreDeeds l (ends_deeds l n)
unfolding ends_deeds
ends_are l zero low = tt
ends_are l (suc n) low = are_both (ends_deeds l n) (end_deeds (ends_sent l n) n) l (ends_are l n (omega (arith, low)))
    (subst (λ k. AreDeeds k (end_deeds (ends_sent l n) n)) (sym (ends_after l n))
    (end_are (ends_sent l n) n (ends_at (ends_sent l n) n && may_send (ends_sent l n) n) refl (omega (arith, low))))

sends_are : (l : Line) (place : ℕ) (b : Bool) → place < 33 → may_send l place ≡ true
    → AreDeeds l (if b then deed.Sends place ∷ deed.Resets ∷ [] else deed.Sends place ∷ [])
sends_are l place true low may = ((low, may), (tt, tt))
sends_are l place false low may = ((low, may), tt)

move_are : (s : Schedule) (m : Move) → IsMove s m → AreDeeds s.line (deeds_of s m)
move_are s (move.Sends place) is = sends_are s.line place _ is.0 is.1
move_are s move.SendsEnds is = ends_are s.line 32 (omega arith)
move_are s move.Draws is = (tt, tt)
move_are s move.Forgives is = tt
move_are s move.Resets is = (tt, tt)
move_are s other is = (is, tt)

moves_are : (ms : List Move) (s : Schedule) → AreMoves s ms → AreDeeds s.line (all_deeds s ms)
unfolding all_deeds
moves_are [] s are = tt
moves_are (m ∷ later) s are = are_both (deeds_of s m) _ s.line (move_are s m are.0)
    (subst (λ l. AreDeeds l (all_deeds (after_move s m) later)) (moved s m) (moves_are later (after_move s m) are.1))

-- what a list of steps does to the commands
abbrev pub deeds_by : EngineState → List Step → List Deed
deeds_by e steps = all_deeds e.schedule (all_moves e steps)

pub deeds_are : (e : EngineState) (steps : List Step) → AreSteps e steps → AreDeeds e.schedule.line (deeds_by e steps)
deeds_are e steps are = moves_are (all_moves e steps) e.schedule (steps_moves steps e are)

-- ## Calm ones

abbrev pub AllOf : {X : Type 0} → (X → Bool) → List X → Type 0
AllOf test [] = Unit {0}
AllOf test (x ∷ later) = (test x ≡ true) × AllOf test later

all_both : {X : Type 0} (test : X → Bool) (xs ys : List X) → AllOf test xs → AllOf test ys → AllOf test (xs ++ ys)
all_both test [] ys first later = later
all_both test (x ∷ xs) ys first later = (first.0, all_both test xs ys first.1 later)

abbrev calm_move : Move → Bool
calm_move (move.Asks place) = false
calm_move (move.Answers place number i) = false
calm_move m = true

abbrev pub calm_step : Step → Bool
calm_step (engine.Asks place) = false
calm_step engine.AsksAside = false
calm_step (engine.Answers number a) = false
calm_step s = true

-- it asks and answers nothing
abbrev pub calm_call : Call → Bool
calm_call (call.Asks r) = false
calm_call (call.Answers number a) = false
calm_call c = true

end_calm : (tag : ℕ) (b : Bool) → AllOf is_calm (if b then deed.Sends tag ∷ [] else [])
end_calm tag true = (refl, tt)
end_calm tag false = tt

ends_calm : (l : Line) (n : ℕ) → AllOf is_calm (ends_deeds l n)
unfolding ends_deeds
ends_calm l zero = tt
ends_calm l (suc n) = all_both is_calm (ends_deeds l n) (end_deeds (ends_sent l n) n) (ends_calm l n)
    (end_calm n (ends_at (ends_sent l n) n && may_send (ends_sent l n) n))

sent_calm : (place : ℕ) (b : Bool) → AllOf is_calm (if b then deed.Sends place ∷ deed.Resets ∷ [] else deed.Sends place ∷ [])
sent_calm place true = (refl, (refl, tt))
sent_calm place false = (refl, tt)

move_calm : (s : Schedule) (m : Move) → calm_move m ≡ true → AllOf is_calm (deeds_of s m)
move_calm s (move.Asks place) e = absurd (cc)
move_calm s (move.Sends place) e = sent_calm place (ends_all s.line place)
move_calm s move.SendsEnds e = ends_calm s.line 32
move_calm s (move.Answers place number i) e = absurd (cc)
move_calm s move.Forgives e = tt
move_calm s other e = (refl, tt)

moves_calm : (ms : List Move) (s : Schedule) → AllOf calm_move ms → AllOf is_calm (all_deeds s ms)
unfolding all_deeds
moves_calm [] s all = tt
moves_calm (m ∷ later) s all = all_both is_calm (deeds_of s m) (all_deeds (after_move s m) later) (move_calm s m all.0) (moves_calm later (after_move s m) all.1)

step_calm : (e : EngineState) (s : Step) → calm_step s ≡ true → AllOf calm_move (moves_of e s)
step_calm e (engine.TakesAside k ranges) f = tt
step_calm e (engine.Asks p) f = absurd (cc)
step_calm e engine.AsksAside f = absurd (cc)
step_calm e (engine.Answers number a) f = absurd (cc)
step_calm e engine.SendsAside f = tt
step_calm e other f = (refl, tt)

steps_calm : (ss : List Step) (e : EngineState) → AllOf calm_step ss → AllOf calm_move (all_moves e ss)
unfolding all_moves
steps_calm [] e all = tt
steps_calm (s ∷ later) e all = all_both calm_move (moves_of e s) (all_moves (after_step e s) later) (step_calm e s all.0) (steps_calm later (after_step e s) all.1)

act_calm : (e : EngineState) (a : Act) → AllOf calm_step (act_steps e a)
act_calm e act.Nothing = tt
act_calm e other = (refl, tt)

range_calm : (x : Option (List Range)) → AllOf calm_step (range_steps x)
range_calm None = tt
range_calm (Some ranges) = (refl, tt)

data_calm : (d : DiskState) (x : Option ℕ) (bytes : List ℕ) → AllOf calm_step (data_steps d x bytes)
data_calm d None bytes = (refl, tt)
data_calm d (Some blocks) bytes = range_calm (ranges_of blocks (facts_of d.profile).sectors bytes)

fis_calm : (d : DiskState) (x : Result Fis FisFault) → AllOf calm_step (fis_steps d x)
fis_calm d (Ok (view.RegH2D f)) = act_calm d.engine (register_told d f).act
fis_calm d (Ok (view.Payload f)) = data_calm d (heard_data d.front.task) (drop 4 f)
fis_calm d other = tt

start_calm : (x : Option ℕ) → AllOf calm_step (start_steps x)
start_calm None = tt
start_calm (Some p) = (refl, tt)

out_calm : (o : Out) → AllOf calm_step (out_steps o)
out_calm (out.Beside r) = (refl, tt)
out_calm (out.Ends tags) = (refl, tt)
out_calm (out.Of p r) = (refl, (refl, tt))
out_calm (out.Data p n) = (refl, (refl, tt))
out_calm other = tt

pub call_calm : (d : DiskState) (c : Call) → calm_call c ≡ true → AllOf calm_step (steps_of d c)
call_calm d call.Plugs e = (refl, tt)
call_calm d (call.Hears f) e = fis_calm d (view_seen f)
call_calm d (call.Starts x) e = start_calm x
call_calm d (call.Sends o) e = out_calm o
call_calm d other e = absurd (cc)

pub calm_deeds : (d : DiskState) (c : Call) → calm_call c ≡ true → AllOf is_calm (deeds_by d.engine (steps_of d c))
calm_deeds d c e = moves_calm (all_moves d.engine (steps_of d c)) d.engine.schedule (steps_calm (steps_of d c) d.engine (call_calm d c e))
