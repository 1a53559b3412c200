-- A run of a disk is one of its engine.
use Rattle.std.proofs.Common.{◌≡◌, ℕ, ◌<◌, ◌⊎◌, arith, true, List, [], ◌∷◌, ◌++◌, drop, Some, None, refl, sym, ap, ◌∙◌, subst}
use Rattle.std.specs.Prelude.{Option, Result, Ok}
use Rattle.fis_view.specs.{Seen.seen, declared.view.{Fis.Fis, FisFault.FisFault}}
use Rattle.fis_view.specs.declared.view.Fis.TheVariants as view
use Rattle.block_disk.specs.Table.{is_under_way}
use Rattle.block_queue.specs.{Line.{Line, command_at}, Deeds.Goes}
use Rattle.block_engine.specs.declared.aside.AsideStage.TheVariants as stages
use Rattle.block_engine.specs.{declared.request.{Range.Range, Request.Request}, Engine.{EngineState, IsAskedOf, IsEngineStart, discards, line}}
use Rattle.block_engine.specs.{Engine.{none_engaged, started}, Laws.{AreSteps, IsStill, Step, after_step, after_steps}}
use Rattle.block_engine.specs.Laws as engine
use Rattle.block_engine.proofs.Runs.{found_low}
use Rattle.ata_front.specs.{Fronts.heard_data, declared.task.{Act.Act, Task.Task}}
use Rattle.ata_front.specs.declared.task.Act.TheVariants as act
use Rattle.sata_disk.specs.{State.{DiskState, commands, data_place, has_link, new_disk, or_single}, Hearing.{MayAct, MayHear, MayRange, data_by}}
use Rattle.sata_disk.specs.{Hearing.{discarding, engine_acted, fis_heard, register_told}, Sending.{IsOut, after_sent}, declared.out.Out.Out}
use Rattle.sata_disk.specs.declared.out.Out.TheVariants as out
use Rattle.sata_disk_laws.specs.Calls.{Call, Plugs, Hears, Starts, Asks, Answers, Sends, IsCall, AreCalls, after_call, after_calls, asked_by}
use Rattle.sata_disk_laws.specs.Calls.{act_steps, all_steps, ask_steps, data_steps, fis_steps, out_steps, range_steps, start_steps, steps_of}
use Rattle.sata_disk_laws.specs.Laws as laws

-- ## Runs that go on

pub calls_both : (calls later : List Call) (d : DiskState) → AreCalls d calls → AreCalls (after_calls d calls) later → AreCalls d (calls ++ later)
unfolding after_calls
calls_both [] later d are next = next
calls_both (c ∷ calls) later d are next = (are.0, calls_both calls later (after_call d c) are.1 next)

pub calls_after : (calls later : List Call) (d : DiskState) → after_calls d (calls ++ later) ≡ after_calls (after_calls d calls) later
unfolding after_calls
calls_after [] later d = refl
calls_after (c ∷ calls) later d = calls_after calls later (after_call d c)

-- a request that was asked
pub engine_asked : (old new : EngineState) (r : Request) (x : Option ℕ) → IsAskedOf old new r x → new ≡ asked_by old x
engine_asked old new r None is = is.2
engine_asked old new r (Some p) is = is.1

-- ## Lists of steps

pub are_both : (ss ts : List Step) (e : EngineState) → AreSteps e ss → AreSteps (after_steps e ss) ts → AreSteps e (ss ++ ts)
unfolding after_steps
are_both [] ts e are later = later
are_both (s ∷ ss) ts e are later = (are.0, are_both ss ts (after_step e s) are.1 later)

pub after_both : (ss ts : List Step) (e : EngineState) → after_steps e (ss ++ ts) ≡ after_steps (after_steps e ss) ts
unfolding after_steps
after_both [] ts e = refl
after_both (s ∷ ss) ts e = after_both ss ts (after_step e s)

none_steps : (e : EngineState) → e ≡ after_steps e []
unfolding after_steps
none_steps e = refl

one_step : (e : EngineState) (s : Step) → after_step e s ≡ after_steps e (s ∷ [])
unfolding after_steps
one_step e s = refl

two_steps : (e : EngineState) (s t : Step) → after_step (after_step e s) t ≡ after_steps e (s ∷ t ∷ [])
unfolding after_steps
two_steps e s t = refl

-- ## One call

act_after : (e : EngineState) (a : Act) → engine_acted e a ≡ after_steps e (act_steps e a)
act_after e act.Nothing = none_steps e
act_after e act.Resets = one_step e engine.Resets
act_after e other = one_step e _

range_after : (d : DiskState) (x : Option (List Range)) → (discarding d x).engine ≡ after_steps d.engine (range_steps x)
range_after d None = none_steps d.engine
range_after d (Some ranges) = one_step d.engine _

data_after : (d : DiskState) (x : Option ℕ) (bytes : List ℕ) → (data_by d x bytes).engine ≡ after_steps d.engine (data_steps d x bytes)
data_after d None bytes = one_step d.engine _
data_after d (Some blocks) bytes = range_after d _

fis_after : (d : DiskState) (x : Result Fis FisFault) → (fis_heard d x).engine ≡ after_steps d.engine (fis_steps d x)
fis_after d (Ok (view.RegH2D f)) = act_after d.engine (register_told d f).act
fis_after d (Ok (view.Payload f)) = data_after d (heard_data d.front.task) (drop 4 f)
fis_after d other = none_steps d.engine

start_after : (e : EngineState) (x : Option ℕ) → started e x ≡ after_steps e (start_steps x)
start_after e None = none_steps e
start_after e (Some p) = one_step e _

ask_after : (e : EngineState) (x : Option ℕ) → asked_by e x ≡ after_steps e (ask_steps x)
ask_after e None = one_step e engine.AsksAside
ask_after e (Some p) = one_step e _

out_after : (d : DiskState) (o : Out) → (after_sent d o).engine ≡ after_steps d.engine (out_steps o)
out_after d (out.Beside r) = one_step d.engine engine.SendsAside
out_after d (out.Ends tags) = one_step d.engine engine.SendsEnds
out_after d (out.Of p r) = two_steps d.engine (engine.Sends p) engine.Forgives
out_after d (out.Data p n) = two_steps d.engine (engine.Sends p) engine.Forgives
out_after d other = none_steps d.engine

pub call_after : (d : DiskState) (c : Call) → (after_call d c).engine ≡ after_steps d.engine (steps_of d c)
call_after d Plugs = one_step d.engine engine.Resets
call_after d (Hears f) = fis_after d (seen f)
call_after d (Starts x) = start_after d.engine x
call_after d (Asks r) = ask_after d.engine r.place
call_after d (Answers number a) = one_step d.engine _
call_after d (Sends o) = out_after d o

-- ## Its steps may be done

act_are : (e : EngineState) (t : Task) (a : Act) → MayAct e.stage t a → AreSteps e (act_steps e a)
act_are e t act.Nothing may = tt
act_are e t (act.Takes c) may = ((may.0, may.1, may.2), tt)
act_are e t act.Flushes may = (may.0, tt)
act_are e t act.Resets may = (tt, tt)

range_are : (e : EngineState) (x : Option (List Range)) → e.stage ≡ stages.Idle → AreSteps e (range_steps x)
range_are e None idle = tt
range_are e (Some ranges) idle = (idle, tt)

single_low : (x : Option ℕ) → ((k : ℕ) → x ≡ Some k → k < 32) → or_single x < 33
single_low None low = omega arith
single_low (Some k) low = let below = low k refl in omega (arith, below)

pub place_low : (l : Line) → data_place l < 33
unfolding data_place
place_low l = single_low _ (λ k e. found_low (has_link l) 32 k e)

data_are : (d : DiskState) (x : Option ℕ) (bytes : List ℕ) → MayRange d.engine.stage x → AreSteps d.engine (data_steps d x bytes)
data_are d None bytes may = (place_low (commands d), tt)
data_are d (Some blocks) bytes may = range_are d.engine _ may

fis_are : (d : DiskState) (x : Result Fis FisFault) → MayHear d x → AreSteps d.engine (fis_steps d x)
fis_are d (Ok (view.RegH2D f)) may = act_are d.engine (register_told d f).front.task (register_told d f).act may
fis_are d (Ok (view.Payload f)) may = data_are d (heard_data d.front.task) (drop 4 f) may
fis_are d other may = tt

start_are : (e : EngineState) (x : Option ℕ) → IsEngineStart e x → AreSteps e (start_steps x)
start_are e None is = tt
start_are e (Some p) is = ((is.1.0.below, is.1.0.passes, is.0), tt)

ask_are : (e : EngineState) (r : Request) (x : Option ℕ) → IsAskedOf e (asked_by e x) r x → AreSteps e (ask_steps x)
ask_are e r None is = (is.1, tt)
ask_are e r (Some p) is = ((is.0.below, is.0.passes), tt)

out_are : (d : DiskState) (o : Out) → IsOut d (Some o) → AreSteps d.engine (out_steps o)
out_are d (out.Beside r) is = (is.1, tt)
out_are d (out.Ends tags) is = (tt, tt)
out_are d (out.Of p r) is = (is.2, (tt, tt))
out_are d (out.Data p n) is = (is.2, (tt, tt))
out_are d other is = tt

pub call_are : (d : DiskState) (c : Call) → IsCall d c → AreSteps d.engine (steps_of d c)
call_are d Plugs is = (tt, tt)
call_are d (Hears f) is = fis_are d (seen f) is
call_are d (Starts x) is = start_are d.engine x is
call_are d (Asks r) is = ask_are d.engine r r.place is.1
call_are d (Answers number a) is = (is, tt)
call_are d (Sends o) is = out_are d o is

-- ## Every run

pub all_are : (calls : List Call) (d : DiskState) → AreCalls d calls → AreSteps d.engine (all_steps d calls)
unfolding all_steps
all_are [] d are = tt
all_are (c ∷ later) d are = are_both (steps_of d c) _ d.engine (call_are d c are.0)
    (subst (λ e. AreSteps e (all_steps (after_call d c) later)) (call_after d c) (all_are later (after_call d c) are.1))

pub all_after : (calls : List Call) (d : DiskState) → (after_calls d calls).engine ≡ after_steps d.engine (all_steps d calls)
unfolding after_calls all_steps
all_after [] d = none_steps d.engine
all_after (c ∷ later) d = all_after later (after_call d c) ∙ ap (λ e. after_steps e (all_steps (after_call d c) later)) (call_after d c)
    ∙ sym (after_both (steps_of d c) (all_steps (after_call d c) later) d.engine)

-- ## The laws

pub ends_are_earned : engine.EndsAreEarned → laws.EndsAreEarned
ends_are_earned ends p limit calls are = ends limit _ (all_are calls (new_disk p limit) are)

pub requests_are_apart : engine.RequestsAreApart → laws.RequestsAreApart
requests_are_apart apart p limit calls are = apart limit _ (all_are calls (new_disk p limit) are)

pub numbers_are_fresh : engine.NumbersAreFresh → laws.NumbersAreFresh
numbers_are_fresh fresh p limit calls = fresh limit _

pub discards_are_alone : engine.DiscardsAreAlone → laws.DiscardsAreAlone
discards_are_alone alone p limit calls are busy =
    let same : (after_calls (new_disk p limit) calls).engine ≡ after_steps (none_engaged limit) (all_steps (new_disk p limit) calls) = all_after calls (new_disk p limit) in
    let P : EngineState → Type 0 = λ e. discards e ≡ true in
    let Q : EngineState → Type 0 = λ e. IsStill (line e) in
    subst Q (sym same) (alone limit (all_steps (new_disk p limit) calls) (all_are calls (new_disk p limit) are) (subst P same busy))

pub something_moves : engine.SomethingMoves → laws.SomethingMoves
something_moves moves p limit calls place are room low alive next =
    let same : (after_calls (new_disk p limit) calls).engine ≡ after_steps (none_engaged limit) (all_steps (new_disk p limit) calls) = all_after calls (new_disk p limit) in
    let P : EngineState → Type 0 = λ e. is_under_way (command_at (line e) place) ≡ true in
    let Q : EngineState → Type 0 = λ e. IsEngineStart e None in
    let R : EngineState → Type 0 = λ e. (discards e ≡ true) ⊎ Goes (line e) in
    subst R (sym same) (moves limit (all_steps (new_disk p limit) calls) place (all_are calls (new_disk p limit) are) room low (subst P same alive) (subst Q same next))
