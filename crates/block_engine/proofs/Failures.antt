-- What an engine keeps of a failure is of the command that was taken last at its place.
use Rattle.std.proofs.Common.{◌≡◌, ℕ, ◌<◌, true, false, List, [], ◌∷◌, length, get_or, set, Some, None, refl, sym, ap, ◌∙◌, arith, subst}
use Rattle.std.proofs.lemmas.{Bool.{eqb-true, eqb-false}, Option.{none-some}, List.{get_or-set_same, get_or-set_other, length-set, length-replicate}}
use Rattle.std.specs.Prelude.{Option, Bool, not, ◌&&◌, ◌==◌, if◌then◌else◌, replicate}
use Rattle.block_command.specs.declared.{answer.AnswerError.AnswerError, command.Stage.{Stage, TheVariants.{Loading, Storing, Flushing}}}
use Rattle.block_command.specs.{Moments.{Moment, failure_fault, runs}, Laws.Fails}
use Rattle.block_disk.specs.{Table.{is_under_way, refusal_at}, Requests.is_out}
use Rattle.block_disk.proofs.Door.{each_is}
use Rattle.block_queue.specs.{declared.queue.Orphan.Orphan, Line.{IsLine, Line, awaits, command_at, line_refusal, orphan, orphan_refusal}}
use Rattle.block_queue.proofs.Door.{new_line}
use Rattle.block_scheduler.proofs.Runs.{line_of}
use Rattle.block_engine.specs.{declared.{aside.AsideStage.AsideStage, request.{Answer.Answer, Failure.Failure}}, Aside.{asks_for, settled}}
use Rattle.block_engine.specs.Engine.{EngineState, answered, done_at, fail_refusal, failed_by, line, loaded_at, none_engaged, or_else, place_of}
use Rattle.block_engine.specs.{Engine.runs_at, Laws.{Step, Takes, TakesAside, Starts, Asks, AsksAside, Answers, Hears, Sends, SendsEnds, SendsAside}}
use Rattle.block_engine.specs.Laws.{Forgives, Resets, IsStep, after_step, AreSteps, after_steps, moves_of, is_own, failure_after, failure_in}
use Rattle.block_engine.specs.Laws.{FailuresAreOwn}
use Rattle.block_engine.specs.declared.request.Answer.TheVariants as answers
use Rattle.block_engine.proofs.Runs.{found_low, moved, step_are}

-- ## The request that is out is of a command that runs

fault_runs : (stage : Stage) → failure_fault stage ≡ None → runs stage ≡ true
fault_runs Loading e = refl
fault_runs Storing e = refl
fault_runs Flushing e = refl
fault_runs stage e = absurd (cc)

-- no command runs beside a dropped store of its place
still_case : (l : Line) (q : ℕ) (m : Moment) (o : Orphan) (b : Bool) → IsLine l → q < 33 → command_at l q ≡ Some m → orphan l q ≡ Some o
    → runs m.stage ≡ b → false ≡ b
still_case l q m o false sound low here there e = refl
still_case l q m o true sound low here there e = absurd (none-some o (sym (sound.clear q m low here e).vacant ∙ there))

own_case : (l : Line) (q number : ℕ) (b : Bool) (x : Option Moment) (o : Option Orphan) → IsLine l → q < 33 → command_at l q ≡ x → orphan l q ≡ o
    → (if b then refusal_at x Fails else orphan_refusal o number Fails) ≡ None → b ≡ runs_at x
own_case l q number true None o sound low here there e = absurd (cc)
own_case l q number true (Some m) o sound low here there e = sym (fault_runs m.stage e)
own_case l q number false x None sound low here there e = absurd (cc)
own_case l q number false None (Some o) sound low here there e = refl
own_case l q number false (Some m) (Some o) sound low here there e = still_case l q m o _ sound low here there refl

own_runs : (l : Line) (q number : ℕ) → IsLine l → q < 33 → line_refusal l q number Fails ≡ None
    → is_out l.queue.out q number ≡ runs_at (command_at l q)
own_runs l q number sound low e = own_case l q number _ _ _ sound low refl refl e

or_none : (a b : Option AnswerError) → or_else a b ≡ None → b ≡ None
or_none None b e = e
or_none (Some x) b e = absurd (cc)

-- ## One place

set_case : (fs : List (Option Failure)) (q p : ℕ) (x : Option Failure) (b : Bool) → (p == q) ≡ b → q < length fs
    → get_or (set fs q x) p None ≡ (if b then x else get_or fs p None)
set_case fs q p x true e low = rw (eqb-true p q e) (get_or-set_same fs q x None low)
set_case fs q p x false e low = get_or-set_other fs q p x None (λ same. eqb-false p q e same)

take_case : (fs : List (Option Failure)) (q p : ℕ) (b u d : Bool) (f : Option Failure) → (p == q) ≡ d → (d ≡ true → u ≡ b) → q < length fs
    → get_or fs p None ≡ f → get_or (if b then fs else set fs q None) p None ≡ (if d && not u then None else f)
take_case fs q p true u true f e same low is = rw (same refl) is
take_case fs q p true u false f e same low is = is
take_case fs q p false u true f e same low is = rw (same refl) (set_case fs q p None true e low)
take_case fs q p false u false f e same low is = set_case fs q p None false e low ∙ is

aside_case : (fs : List (Option Failure)) (p : ℕ) (d : Bool) (f : Option Failure) → (p == 32) ≡ d → 32 < length fs
    → get_or fs p None ≡ f → get_or (set fs 32 None) p None ≡ (if d then None else f)
aside_case fs p true f e low is = set_case fs 32 p None true e low
aside_case fs p false f e low is = set_case fs 32 p None false e low ∙ is

fail_case : (fs : List (Option Failure)) (q p : ℕ) (r o d : Bool) (g : Failure) (f : Option Failure) → (p == q) ≡ d → o ≡ r → q < length fs
    → get_or fs p None ≡ f → get_or (if r then set fs q (Some g) else fs) p None ≡ (if d && o then Some g else f)
fail_case fs q p true o true g f e same low is = rw same (set_case fs q p (Some g) true e low)
fail_case fs q p true o false g f e same low is = set_case fs q p (Some g) false e low ∙ is
fail_case fs q p false o true g f e same low is = rw same is
fail_case fs q p false o false g f e same low is = is

-- ## One answer

beside_same : (e : EngineState) (stage : AsideStage) (b : Bool)
    → (if b then record e { stage = stage } else record e { dropped = None }).failures ≡ e.failures
beside_same e stage true = refl
beside_same e stage false = refl

loaded_same : (e : EngineState) (x : Option ℕ) (number : ℕ) (bytes : List ℕ) → (loaded_at e x number bytes).failures ≡ e.failures
loaded_same e None number bytes = refl
loaded_same e (Some q) number bytes = refl

done_same : (e : EngineState) (x : Option ℕ) (number : ℕ) → (done_at e x number).failures ≡ e.failures
done_same e None number = beside_same e (settled true) _
done_same e (Some q) number = refl

failed_known : (e : EngineState) (x : Option ℕ) (number p : ℕ) (g : Failure) (f : Option Failure) → ((q : ℕ) → x ≡ Some q → q < 33)
    → fail_refusal e x number g ≡ None → IsLine (line e) → length e.failures ≡ 33 → get_or e.failures p None ≡ f
    → get_or (failed_by e x number g).failures p None ≡ (if is_own e p x number then Some g else f)
failed_known e None number p g f found may sound long is =
    fail_case e.failures 32 p (asks_for e.stage number) _ _ g f refl refl (omega (arith, long)) is
failed_known e (Some q) number p g f found may sound long is =
    let low = found q refl in
    fail_case e.failures q p _ _ _ g f refl (own_runs (line e) q number sound low (or_none _ _ may)) (omega (arith, long, low)) is

answer_known : (e : EngineState) (number p : ℕ) (a : Answer) (f : Option Failure) → IsStep e (Answers number a) → IsLine (line e)
    → length e.failures ≡ 33 → get_or e.failures p None ≡ f
    → get_or (answered e number a).failures p None ≡ failure_after e p (Answers number a) f
answer_known e number p (answers.Loaded bytes) f may sound long is =
    ap (λ fs. get_or fs p None) (loaded_same e (place_of e number) number bytes.items) ∙ is
answer_known e number p answers.Done f may sound long is = ap (λ fs. get_or fs p None) (done_same e (place_of e number) number) ∙ is
answer_known e number p (answers.Failed g) f may sound long is =
    failed_known e (place_of e number) number p g f (λ q found. found_low (awaits (line e) number) 33 q found) may sound long is

-- ## One step

step_known : (e : EngineState) (s : Step) (p : ℕ) (f : Option Failure) → IsStep e s → IsLine (line e) → length e.failures ≡ 33
    → get_or e.failures p None ≡ f → get_or (after_step e s).failures p None ≡ failure_after e p s f
step_known e (Takes c) p f may sound long is = take_case e.failures c.place p _ _ _ f refl
    (λ same. ap (λ n. is_under_way (command_at (line e) n)) (eqb-true p c.place same)) (let low = may.0 in omega (arith, long, low)) is
step_known e (TakesAside k ranges) p f may sound long is = aside_case e.failures p _ f refl (omega (arith, long)) is
step_known e (Starts q) p f may sound long is = is
step_known e (Asks q) p f may sound long is = is
step_known e AsksAside p f may sound long is = is
step_known e (Answers number a) p f may sound long is = answer_known e number p a f may sound long is
step_known e (Hears q part) p f may sound long is = is
step_known e (Sends q) p f may sound long is = is
step_known e SendsEnds p f may sound long is = is
step_known e SendsAside p f may sound long is = is
step_known e Forgives p f may sound long is = is
step_known e Resets p f may sound long is = each_is (Option Failure) 33 p None

blank_long : (fs : List (Option Failure)) → fs ≡ replicate 33 None → length fs ≡ 33
blank_long fs e = ap length e ∙ length-replicate {A = Option Failure} 33 None

take_long : (fs : List (Option Failure)) (q : ℕ) (b : Bool) → length fs ≡ 33 → length (if b then fs else set fs q None) ≡ 33
take_long fs q true long = long
take_long fs q false long = length-set fs q None ∙ long

fail_long : (fs : List (Option Failure)) (q : ℕ) (g : Failure) (b : Bool) → length fs ≡ 33 → length (if b then set fs q (Some g) else fs) ≡ 33
fail_long fs q g true long = length-set fs q (Some g) ∙ long
fail_long fs q g false long = long

failed_long : (e : EngineState) (x : Option ℕ) (number : ℕ) (g : Failure) → length e.failures ≡ 33 → length (failed_by e x number g).failures ≡ 33
failed_long e None number g long = fail_long e.failures 32 g _ long
failed_long e (Some q) number g long = fail_long e.failures q g _ long

answer_long : (e : EngineState) (number : ℕ) (a : Answer) → length e.failures ≡ 33 → length (answered e number a).failures ≡ 33
answer_long e number (answers.Loaded bytes) long = ap length (loaded_same e (place_of e number) number bytes.items) ∙ long
answer_long e number answers.Done long = ap length (done_same e (place_of e number) number) ∙ long
answer_long e number (answers.Failed g) long = failed_long e (place_of e number) number g long

step_long : (e : EngineState) (s : Step) → length e.failures ≡ 33 → length (after_step e s).failures ≡ 33
step_long e (Takes c) long = take_long e.failures c.place _ long
step_long e (TakesAside k ranges) long = length-set e.failures 32 None ∙ long
step_long e (Starts q) long = long
step_long e (Asks q) long = long
step_long e AsksAside long = long
step_long e (Answers number a) long = answer_long e number a long
step_long e (Hears q part) long = long
step_long e (Sends q) long = long
step_long e SendsEnds long = long
step_long e SendsAside long = long
step_long e Forgives long = long
step_long e Resets long = blank_long _ refl

step_line : (e : EngineState) (s : Step) → IsStep e s → IsLine (line e) → IsLine (line (after_step e s))
step_line e s may sound = subst (λ x. IsLine x.line) (sym (moved e s)) (line_of (moves_of e s) e.schedule sound (step_are e s may))

-- ## Every run

run_known : (steps : List Step) (e : EngineState) (p : ℕ) (f : Option Failure) → AreSteps e steps → IsLine (line e) → length e.failures ≡ 33
    → get_or e.failures p None ≡ f → get_or (after_steps e steps).failures p None ≡ failure_in e p steps f
unfolding after_steps failure_in
run_known [] e p f are sound long is = is
run_known (s ∷ later) e p f are sound long is = run_known later (after_step e s) p (failure_after e p s f) are.1
    (step_line e s are.0 sound) (step_long e s long) (step_known e s p f are.0 sound long is)

pub failures_are_own : FailuresAreOwn
failures_are_own limit steps p are low =
    run_known steps (none_engaged limit) p None are new_line (blank_long _ refl) (each_is (Option Failure) 33 p None)
