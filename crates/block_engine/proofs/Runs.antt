-- A run of an engine is one of its scheduler.
use Rattle.std.proofs.Common.{◌≡◌, ℕ, zero, suc, ◌<◌, true, false, List, [], ◌∷◌, ◌++◌, Some, None, refl, sym, ap, ◌∙◌, arith, inl, inr, ◌⊎◌, subst}
use Rattle.std.proofs.lemmas.Option.{same_Some}
use Rattle.std.specs.Prelude.{Option, Bool, if◌then◌else◌}
use Rattle.block_command.specs.Laws.{Stores, Flushes}
use Rattle.block_disk.specs.{Table.is_under_way, Requests.is_answer}
use Rattle.block_queue.specs.{Line.{awaits, command_at, first_below, or_this}, Deeds.Goes}
use Rattle.block_scheduler.specs.{Schedule.{IsNextStart, Schedule}, Laws.{Move, after_move, after_moves}}
use Rattle.block_scheduler.specs.Laws as moves
use Rattle.block_scheduler.proofs.Runs as runs
use Rattle.block_engine.specs.{declared.{aside.AsideStage.AsideStage, request.Answer.Answer}, Aside.settled, Engine.{EngineState, IsEngineStart}}
use Rattle.block_engine.specs.{Engine.{answered, discards, done_at, failed_by, line, loaded_at, none_engaged, place_of}, Laws.{Step, Takes}}
use Rattle.block_engine.specs.Laws.{TakesAside, Starts, Asks, AsksAside, Answers, Hears, Sends, SendsEnds, SendsAside, Forgives, Resets, IsStep}
use Rattle.block_engine.specs.Laws.{after_step, AreSteps, after_steps, answer_moves, moves_of, all_moves, IsHeard, AreHeard, RequestsAreApart}
use Rattle.block_engine.specs.Laws.{EndsAreEarned, NumbersAreFresh, DataAreNamed, SomethingMoves}
use Rattle.block_engine.specs.declared.request.Answer.TheVariants as answers

-- ## Lists of moves

are_both : (ms ns : List Move) (s : Schedule) → moves.AreMoves s ms → moves.AreMoves (after_moves s ms) ns → moves.AreMoves s (ms ++ ns)
unfolding after_moves
are_both [] ns s are later = later
are_both (m ∷ ms) ns s are later = (are.0, are_both ms ns (after_move s m) are.1 later)

heard_both : (ms ns : List Move) (s : Schedule) → moves.AreHeard s ms → moves.AreHeard (after_moves s ms) ns → moves.AreHeard s (ms ++ ns)
unfolding after_moves
heard_both [] ns s are later = later
heard_both (m ∷ ms) ns s are later = (are.0, heard_both ms ns (after_move s m) are.1 later)

after_both : (ms ns : List Move) (s : Schedule) → after_moves s (ms ++ ns) ≡ after_moves (after_moves s ms) ns
unfolding after_moves
after_both [] ns s = refl
after_both (m ∷ ms) ns s = after_both ms ns (after_move s m)

none_moves : (s : Schedule) → s ≡ after_moves s []
unfolding after_moves
none_moves s = refl

one_moves : (s : Schedule) (m : Move) → after_move s m ≡ after_moves s (m ∷ [])
unfolding after_moves
one_moves s m = refl

-- ## One call

beside_case : (e : EngineState) (stage : AsideStage) (b : Bool)
    → (if b then record e { stage = stage } else record e { dropped = None }).schedule ≡ e.schedule
beside_case e stage true = refl
beside_case e stage false = refl

answer_moved : (e : EngineState) (x : Option ℕ) (number : ℕ) (a : Answer)
    → place_of e number ≡ x → (answered e number a).schedule ≡ after_moves e.schedule (answer_moves e x number a)
answer_moved e None number (answers.Loaded bytes) is = ap (λ x. (loaded_at e x number bytes.items).schedule) is ∙ none_moves e.schedule
answer_moved e None number answers.Done is = ap (λ x. (done_at e x number).schedule) is ∙ beside_case e (settled true) _ ∙ none_moves e.schedule
answer_moved e None number (answers.Failed f) is = ap (λ x. (failed_by e x number f).schedule) is ∙ beside_case e (settled false) _ ∙ none_moves e.schedule
answer_moved e (Some p) number (answers.Loaded bytes) is = ap (λ x. (loaded_at e x number bytes.items).schedule) is ∙ one_moves e.schedule _
answer_moved e (Some p) number answers.Done is = ap (λ x. (done_at e x number).schedule) is ∙ one_moves e.schedule _
answer_moved e (Some p) number (answers.Failed f) is = ap (λ x. (failed_by e x number f).schedule) is ∙ one_moves e.schedule _

pub moved : (e : EngineState) (s : Step) → (after_step e s).schedule ≡ after_moves e.schedule (moves_of e s)
moved e (Takes c) = one_moves e.schedule _
moved e (TakesAside k ranges) = none_moves e.schedule
moved e (Starts p) = one_moves e.schedule _
moved e (Asks p) = one_moves e.schedule _
moved e AsksAside = one_moves e.schedule moves.Draws
moved e (Answers number a) = answer_moved e _ number a refl
moved e (Hears p part) = one_moves e.schedule _
moved e (Sends p) = one_moves e.schedule _
moved e SendsEnds = one_moves e.schedule moves.SendsEnds
moved e SendsAside = none_moves e.schedule
moved e Forgives = one_moves e.schedule moves.Forgives
moved e Resets = one_moves e.schedule moves.Resets

-- a place that is found is a place
found_here : (n k : ℕ) (b : Bool) → (if b then Some n else None) ≡ Some k → k ≡ n
found_here n k true e = sym (same_Some n k e)
found_here n k false e = absurd (cc)

found_case : (n k : ℕ) (x : Option ℕ) (b : Bool) → (x ≡ Some k → k < n) → or_this x (if b then Some n else None) ≡ Some k → k < suc n
found_case n k None b low e = let same = found_here n k b e in omega (arith, same)
found_case n k (Some j) b low e = let below = low e in omega (arith, below)

pub found_low : (test : ℕ → Bool) (n k : ℕ) → first_below test n ≡ Some k → k < n
unfolding first_below
found_low test zero k e = absurd (cc)
found_low test (suc n) k e = found_case n k _ _ (λ f. found_low test n k f) e

done_answers : (b : Bool) → is_answer (if b then Stores else Flushes) ≡ true
done_answers true = refl
done_answers false = refl

answer_are : (e : EngineState) (x : Option ℕ) (number : ℕ) (a : Answer) → ((p : ℕ) → x ≡ Some p → p < 33)
    → moves.AreMoves e.schedule (answer_moves e x number a)
answer_are e None number a low = tt
answer_are e (Some p) number (answers.Loaded bytes) low = ((low p refl, refl), tt)
answer_are e (Some p) number answers.Done low = ((low p refl, done_answers _), tt)
answer_are e (Some p) number (answers.Failed f) low = ((low p refl, refl), tt)

pub step_are : (e : EngineState) (s : Step) → IsStep e s → moves.AreMoves e.schedule (moves_of e s)
step_are e (Takes c) is = (is, tt)
step_are e (TakesAside k ranges) is = tt
step_are e (Starts p) is = ((is.0, is.1), tt)
step_are e (Asks p) is = (is, tt)
step_are e AsksAside is = (tt, tt)
step_are e (Answers number a) is = answer_are e (place_of e number) number a (λ p f. found_low (awaits (line e) number) 33 p f)
step_are e (Hears p part) is = (is, tt)
step_are e (Sends p) is = (is, tt)
step_are e SendsEnds is = (tt, tt)
step_are e SendsAside is = tt
step_are e Forgives is = (tt, tt)
step_are e Resets is = (tt, tt)

answer_heard : (e : EngineState) (x : Option ℕ) (number : ℕ) (a : Answer) → moves.AreHeard e.schedule (answer_moves e x number a)
answer_heard e None number a = tt
answer_heard e (Some p) number (answers.Loaded bytes) = (tt, tt)
answer_heard e (Some p) number answers.Done = (tt, tt)
answer_heard e (Some p) number (answers.Failed f) = (tt, tt)

step_heard : (e : EngineState) (s : Step) → IsHeard e s → moves.AreHeard e.schedule (moves_of e s)
step_heard e (Takes c) is = (tt, tt)
step_heard e (TakesAside k ranges) is = tt
step_heard e (Starts p) is = (tt, tt)
step_heard e (Asks p) is = (tt, tt)
step_heard e AsksAside is = (tt, tt)
step_heard e (Answers number a) is = answer_heard e (place_of e number) number a
step_heard e (Hears p part) is = (is, tt)
step_heard e (Sends p) is = (tt, tt)
step_heard e SendsEnds is = (tt, tt)
step_heard e SendsAside is = tt
step_heard e Forgives is = (tt, tt)
step_heard e Resets is = (tt, tt)

-- ## Every run

all_are : (steps : List Step) (e : EngineState) → AreSteps e steps → moves.AreMoves e.schedule (all_moves e steps)
unfolding all_moves
all_are [] e are = tt
all_are (s ∷ later) e are = are_both (moves_of e s) _ e.schedule (step_are e s are.0)
    (subst (λ x. moves.AreMoves x (all_moves (after_step e s) later)) (moved e s) (all_are later (after_step e s) are.1))

all_heard : (steps : List Step) (e : EngineState) → AreHeard e steps → moves.AreHeard e.schedule (all_moves e steps)
unfolding all_moves
all_heard [] e are = tt
all_heard (s ∷ later) e are = heard_both (moves_of e s) _ e.schedule (step_heard e s are.0)
    (subst (λ x. moves.AreHeard x (all_moves (after_step e s) later)) (moved e s) (all_heard later (after_step e s) are.1))

all_after : (steps : List Step) (e : EngineState) → (after_steps e steps).schedule ≡ after_moves e.schedule (all_moves e steps)
unfolding after_steps all_moves
all_after [] e = none_moves e.schedule
all_after (s ∷ later) e = all_after later (after_step e s) ∙ ap (λ x. after_moves x (all_moves (after_step e s) later)) (moved e s)
    ∙ sym (after_both (moves_of e s) (all_moves (after_step e s) later) e.schedule)

pub requests_are_apart : RequestsAreApart
requests_are_apart limit steps are = runs.requests_are_apart limit _ (all_are steps (none_engaged limit) are)

pub ends_are_earned : EndsAreEarned
ends_are_earned limit steps are = runs.ends_are_earned limit _ (all_are steps (none_engaged limit) are)

pub data_are_named : DataAreNamed
data_are_named limit steps are heard = runs.data_are_named limit _ (all_are steps (none_engaged limit) are) (all_heard steps (none_engaged limit) heard)

pub numbers_are_fresh : NumbersAreFresh
numbers_are_fresh limit steps = runs.numbers_are_fresh limit (all_moves (none_engaged limit) steps)

next_moves : (e : EngineState) (s : Schedule) → e.schedule ≡ s → (p : ℕ)
    → (is_under_way (command_at s.line p) ≡ true → IsNextStart s None → Goes s.line)
    → is_under_way (command_at (line e) p) ≡ true → IsEngineStart e None → (discards e ≡ true) ⊎ Goes (line e)
next_moves e s same p goes alive (inl busy) = inl busy
next_moves e s same p goes alive (inr next) =
    inr (subst (λ x. Goes x.line) (sym same)
    (goes (subst (λ x. is_under_way (command_at x.line p) ≡ true) same alive) (subst (λ x. IsNextStart x None) same next)))

pub something_moves : SomethingMoves
something_moves limit steps p are room low alive next =
    next_moves (after_steps (none_engaged limit) steps) _ (all_after steps (none_engaged limit)) p
    (λ alive' next'. runs.something_moves limit (all_moves (none_engaged limit) steps) p (all_are steps (none_engaged limit) are) room low alive' next')
    alive next
