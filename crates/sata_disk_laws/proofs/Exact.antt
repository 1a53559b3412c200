-- Data of the host come for the queued command that the last DMA Setup FIS named: a command whose Data are on the link has the link.
use Rattle.std.proofs.Common.{◌≡◌, ℕ, zero, suc, ◌<◌, ◌≤◌, arith, true, false, List, [], ◌∷◌, ◌++◌, drop, Some, None, refl, sym, ap, ◌∙◌, subst}
use Rattle.std.proofs.lemmas.Option.{same_Some}
use Rattle.std.specs.Prelude.{Option, Bool, Result, Ok, not, is_none, ◌&&◌, ◌||◌, if◌then◌else◌}
use Rattle.fis_view.specs.{Seen.seen, declared.view.{Fis.Fis, FisFault.FisFault}}
use Rattle.fis_view.specs.declared.view.Fis.TheVariants as view
use Rattle.block_command.specs.{declared.command.{Command.Command, Stage.{Stage, TheVariants.{Waiting, Load, Store, Flush}}}, Moments.Moment}
use Rattle.block_command.specs.{Moments.turn_of, Laws.{Input, Goes, Comes, Loads, Stores, Flushes, Fails}}
use Rattle.block_disk.specs.Laws as laws
use Rattle.block_disk.specs.{Laws.{shown, wire_after}, Table.{Table, may_go_at, wants_wire, with_input}, Requests.{Queue, asks_at, is_answer}}
use Rattle.block_disk.specs.Requests.{is_request, with_table}
use Rattle.block_disk.proofs.Door.{Held, none_held, stays_held}
use Rattle.block_queue.specs.Line.{Line, awaits, command_at, first_below, line_gone, line_reset, may_send, may_start_at, or_this, starts}
use Rattle.block_queue.proofs.Door.{of_and}
use Rattle.block_scheduler.specs.{Sets.ends_at, Schedule.{Schedule, ends_sent}}
use Rattle.block_engine.specs.{Aside.settled, declared.{aside.AsideStage.AsideStage, request.{Failure.Failure, Answer.Answer, Range.Range}}}
use Rattle.block_engine.specs.{Engine.{EngineState, answered, done_at, done_of, failed_by, line, loaded_at, place_of}, Laws.{AreHeard, AreSteps}}
use Rattle.block_engine.specs.Laws.{IsHeard, IsStep, Step, after_step, after_steps}
use Rattle.block_engine.specs.declared.request.Answer.TheVariants as answers
use Rattle.block_engine.specs.Laws as engine
use Rattle.block_engine.proofs.Runs.{found_low}
use Rattle.ata_front.specs.{Fronts.heard_data, declared.task.Act.Act}
use Rattle.ata_front.specs.declared.task.Act.TheVariants as act
use Rattle.sata_disk.specs.{State.{DiskState, commands, data_place, has_link, new_disk, or_single}, Hearing.register_told, declared.out.Out.Out}
use Rattle.sata_disk.specs.declared.out.Out.TheVariants as out
use Rattle.sata_disk_laws.specs.Calls.{Call, Hears, Starts, Asks, Answers, Sends, AreCalls, after_call, act_steps, all_steps, ask_steps, data_steps}
use Rattle.sata_disk_laws.specs.Calls.{fis_steps, out_steps, range_steps, start_steps, steps_of}
use Rattle.sata_disk_laws.specs.Laws as wanted
use Rattle.sata_disk_laws.proofs.Runs.{call_after, call_are, all_are}

-- ## The link

abbrev pub Exact : Table → Type 0
Exact d = (w : Option ℕ) × Held d w

goes_on : (d : Table) (p : ℕ) (i : Input) → Exact d → laws.IsAllowed d (laws.Does p i) → Exact (with_input d p i)
goes_on d p i x may = (wire_after x.0 (shown d (laws.Does p i)), (stays_held d x.0 (laws.Does p i) x.1 may).1)

takes_case : (l : Line) (c : Command) (ranks : List ℕ) (b : Bool) → Exact l.queue.table → laws.IsAllowed l.queue.table (laws.Takes c)
    → Exact (if b then l else record l { queue = with_table l.queue (laws.after l.queue.table (laws.Takes c)); ranks = ranks }).queue.table
takes_case l c ranks true x may = x
takes_case l c ranks false x may = (wire_after x.0 (shown l.queue.table (laws.Takes c)), (stays_held l.queue.table x.0 (laws.Takes c) x.1 may).1)

start_goes : (d : Table) (m : Moment) (stage : Stage) → m.stage ≡ stage → starts (turn_of stage) ≡ true → may_go_at d (Some m) ≡ true
start_goes d m Waiting e s = ap (λ x. not (wants_wire (turn_of x)) || is_none d.wire) e
start_goes d m stage e s = absurd (cc)

start_may : (l : Line) (p : ℕ) (x : Option Moment) → may_start_at l p x ≡ true → may_go_at l.queue.table x ≡ true
start_may l p None e = absurd (cc)
start_may l p (Some m) e = start_goes l.queue.table m m.stage refl (of_and _ _ e).0

request_goes : (d : Table) (m : Moment) (stage : Stage) → m.stage ≡ stage → is_request (turn_of stage) ≡ true → may_go_at d (Some m) ≡ true
request_goes d m Load e s = ap (λ x. not (wants_wire (turn_of x)) || is_none d.wire) e
request_goes d m Store e s = ap (λ x. not (wants_wire (turn_of x)) || is_none d.wire) e
request_goes d m Flush e s = ap (λ x. not (wants_wire (turn_of x)) || is_none d.wire) e
request_goes d m stage e s = absurd (cc)

asks_may : (d : Table) (x : Option Moment) → asks_at x ≡ true → may_go_at d x ≡ true
asks_may d None e = absurd (cc)
asks_may d (Some m) e = request_goes d m m.stage refl e

answer_allowed : (d : Table) (p : ℕ) (i : Input) → is_answer i ≡ true → p < 33 → laws.IsAllowed d (laws.Does p i)
answer_allowed d p Goes e low = absurd (cc)
answer_allowed d p (Comes part) e low = absurd (cc)
answer_allowed d p other e low = low

answer_case : (q : Queue) (p : ℕ) (i : Input) (out : List ℕ) (b : Bool) → Exact q.table → is_answer i ≡ true → p < 33
    → Exact (if b then record { table = with_input q.table p i; out = out; next = q.next } else q).table
answer_case q p i out true x is low = goes_on q.table p i x (answer_allowed q.table p i is low)
answer_case q p i out false x is low = x

end_case : (l : Line) (tag : ℕ) (b : Bool) → (ends_at l tag && may_send l tag) ≡ b → tag < 33 → Exact l.queue.table
    → Exact (if b then line_gone l tag else l).queue.table
end_case l tag true e low x = goes_on l.queue.table tag Goes x (low, (of_and _ _ (of_and _ _ e).1).1)
end_case l tag false e low x = x

ends_exact : (l : Line) (n : ℕ) → n ≤ 32 → Exact l.queue.table → Exact (ends_sent l n).queue.table
unfolding ends_sent
ends_exact l zero low x = x
ends_exact l (suc n) low x = end_case (ends_sent l n) n _ refl (omega (arith, low)) (ends_exact l n (omega (arith, low)) x)

sent_case : (s : Schedule) (p : ℕ) (b : Bool) → Exact (line_gone s.line p).queue.table
    → Exact (if b then record s { line = line_reset (line_gone s.line p); fault = Some p } else record s { line = line_gone s.line p }).line.queue.table
sent_case s p true x = (None, none_held 33 None refl)
sent_case s p false x = x

beside_case : (e : EngineState) (stage : AsideStage) (b : Bool) → Exact (line e).queue.table
    → Exact (line (if b then record e { stage = stage } else record e { dropped = None })).queue.table
beside_case e stage true x = x
beside_case e stage false x = x

done_answers : (b : Bool) → is_answer (if b then Stores else Flushes) ≡ true
done_answers true = refl
done_answers false = refl

loaded_exact : (e : EngineState) (x : Option ℕ) (number : ℕ) (bytes : List ℕ) → ((p : ℕ) → x ≡ Some p → p < 33) → Exact (line e).queue.table
    → Exact (line (loaded_at e x number bytes)).queue.table
loaded_exact e None number bytes low is = is
loaded_exact e (Some p) number bytes low is = answer_case (line e).queue p (Loads bytes) _ _ is refl (low p refl)

done_exact : (e : EngineState) (x : Option ℕ) (number : ℕ) → ((p : ℕ) → x ≡ Some p → p < 33) → Exact (line e).queue.table
    → Exact (line (done_at e x number)).queue.table
done_exact e None number low is = beside_case e (settled true) _ is
done_exact e (Some p) number low is = answer_case (line e).queue p (done_of (line e) p number) _ _ is (done_answers _) (low p refl)

failed_exact : (e : EngineState) (x : Option ℕ) (number : ℕ) (f : Failure) → ((p : ℕ) → x ≡ Some p → p < 33) → Exact (line e).queue.table
    → Exact (line (failed_by e x number f)).queue.table
failed_exact e None number f low is = beside_case e (settled false) _ is
failed_exact e (Some p) number f low is = answer_case (line e).queue p Fails _ _ is refl (low p refl)

answer_exact : (e : EngineState) (number : ℕ) (a : Answer) → Exact (line e).queue.table → Exact (line (answered e number a)).queue.table
answer_exact e number (answers.Loaded bytes) is = loaded_exact e (place_of e number) number bytes.items (λ p f. found_low (awaits (line e) number) 33 p f) is
answer_exact e number answers.Done is = done_exact e (place_of e number) number (λ p f. found_low (awaits (line e) number) 33 p f) is
answer_exact e number (answers.Failed f) is = failed_exact e (place_of e number) number f (λ p f. found_low (awaits (line e) number) 33 p f) is

step_exact : (e : EngineState) (s : Step) → IsStep e s → IsHeard e s → Exact (line e).queue.table → Exact (line (after_step e s)).queue.table
step_exact e (engine.Takes c) is heard x = takes_case (line e) c _ _ x is
step_exact e (engine.Starts p) is heard x = goes_on (line e).queue.table p Goes x (is.0, start_may (line e) p (command_at (line e) p) is.1)
step_exact e (engine.Asks p) is heard x = goes_on (line e).queue.table p Goes x (is.0, asks_may (line e).queue.table (command_at (line e) p) is.1)
step_exact e (engine.Answers number a) is heard x = answer_exact e number a x
step_exact e (engine.Hears p part) is heard x = goes_on (line e).queue.table p (Comes part) x (is, heard)
step_exact e (engine.Sends p) is heard x = sent_case e.schedule p _ (goes_on (line e).queue.table p Goes x (is.0, (of_and _ _ is.1).1))
step_exact e engine.SendsEnds is heard x = ends_exact (line e) 32 (omega arith) x
step_exact e engine.Resets is heard x = (None, none_held 33 None refl)
step_exact e other is heard x = x

steps_exact : (ss : List Step) (e : EngineState) → AreSteps e ss → AreHeard e ss → Exact (line e).queue.table
    → Exact (line (after_steps e ss)).queue.table
unfolding after_steps
steps_exact [] e are heard x = x
steps_exact (s ∷ ss) e are heard x = steps_exact ss (after_step e s) are.1 heard.1 (step_exact e s are.0 heard.0 x)

-- ## Data come for the command that has the link

passes_case : (test : ℕ → Bool) (n k : ℕ) (x : Option ℕ) (b : Bool) → test n ≡ b → (x ≡ Some k → test k ≡ true)
    → or_this x (if b then Some n else None) ≡ Some k → test k ≡ true
passes_case test n k None true e low f = ap test (sym (same_Some n k f)) ∙ e
passes_case test n k None false e low f = absurd (cc)
passes_case test n k (Some j) b e low f = low f

found_passes : (test : ℕ → Bool) (n k : ℕ) → first_below test n ≡ Some k → test k ≡ true
unfolding first_below
found_passes test zero k e = absurd (cc)
found_passes test (suc n) k e = passes_case test n k _ _ refl (λ f. found_passes test n k f) e

single_wire : (x wire : Option ℕ) → ((k : ℕ) → x ≡ Some k → wire ≡ Some k) → or_single x < 32 → wire ≡ Some (or_single x)
single_wire None wire has low = absurd (omega (arith, low))
single_wire (Some k) wire has low = has k refl

place_wire : (l : Line) → Exact l.queue.table → data_place l < 32 → l.queue.table.wire ≡ Some (data_place l)
unfolding data_place
place_wire l x low = single_wire _ l.queue.table.wire (λ k e. x.1.is k (found_passes (has_link l) 32 k e)) low

act_heard : (e : EngineState) (a : Act) → AreHeard e (act_steps e a)
act_heard e act.Nothing = tt
act_heard e other = (tt, tt)

range_heard : (e : EngineState) (x : Option (List Range)) → AreHeard e (range_steps x)
range_heard e None = tt
range_heard e (Some ranges) = (tt, tt)

data_heard : (d : DiskState) (x : Option ℕ) (bytes : List ℕ) → Exact (commands d).queue.table → AreHeard d.engine (data_steps d x bytes)
data_heard d None bytes x = (place_wire (commands d) x, tt)
data_heard d (Some blocks) bytes x = range_heard d.engine _

fis_heard : (d : DiskState) (f : Result Fis FisFault) → Exact (commands d).queue.table → AreHeard d.engine (fis_steps d f)
fis_heard d (Ok (view.RegH2D f)) x = act_heard d.engine (register_told d f).act
fis_heard d (Ok (view.Payload f)) x = data_heard d (heard_data d.front.task) (drop 4 f) x
fis_heard d other x = tt

start_heard : (e : EngineState) (x : Option ℕ) → AreHeard e (start_steps x)
start_heard e None = tt
start_heard e (Some p) = (tt, tt)

ask_heard : (e : EngineState) (x : Option ℕ) → AreHeard e (ask_steps x)
ask_heard e None = (tt, tt)
ask_heard e (Some p) = (tt, tt)

out_heard : (e : EngineState) (o : Out) → AreHeard e (out_steps o)
out_heard e (out.Beside r) = (tt, tt)
out_heard e (out.Ends tags) = (tt, tt)
out_heard e (out.Of p r) = (tt, (tt, tt))
out_heard e (out.Data p n) = (tt, (tt, tt))
out_heard e other = tt

call_heard : (d : DiskState) (c : Call) → Exact (commands d).queue.table → AreHeard d.engine (steps_of d c)
call_heard d (Hears f) x = fis_heard d (seen f) x
call_heard d (Starts s) x = start_heard d.engine s
call_heard d (Asks r) x = ask_heard d.engine r.place
call_heard d (Sends o) x = out_heard d.engine o
call_heard d other x = (tt, tt)

-- ## Every run

heard_both : (ss ts : List Step) (e : EngineState) → AreHeard e ss → AreHeard (after_steps e ss) ts → AreHeard e (ss ++ ts)
unfolding after_steps
heard_both [] ts e are later = later
heard_both (s ∷ ss) ts e are later = (are.0, heard_both ss ts (after_step e s) are.1 later)

all_heard : (calls : List Call) (d : DiskState) → AreCalls d calls → Exact (commands d).queue.table → AreHeard d.engine (all_steps d calls)
unfolding all_steps
all_heard [] d are x = tt
all_heard (c ∷ later) d are x =
    let heard = call_heard d c x in
    let next : Exact (commands (after_call d c)).queue.table = subst (λ e. Exact (line e).queue.table) (sym (call_after d c))
    (steps_exact (steps_of d c) d.engine (call_are d c are.0) heard x) in
    heard_both (steps_of d c) _ d.engine heard
    (subst (λ e. AreHeard e (all_steps (after_call d c) later)) (call_after d c) (all_heard later (after_call d c) are.1 next))

pub data_are_named : engine.DataAreNamed → wanted.DataAreNamed
data_are_named named p limit calls are = named limit _ (all_are calls (new_disk p limit) are) (all_heard calls (new_disk p limit) are (None, none_held 33 None refl))
