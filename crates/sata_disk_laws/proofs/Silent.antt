-- A silent disk waits for somebody.
use Rattle.std.proofs.Common.{◌≡◌, ℕ, zero, suc, ◌<◌, ◌≤◌, ◌^◌, ◌⊎◌, inl, inr, arith, true, false, List, [], ◌∷◌, Some, None, refl, sym, ap, ◌∙◌}
use Rattle.std.proofs.{Common.subst, lemmas.Bool.{ltb-true}}
use Rattle.std.specs.Prelude.{Option, Bool, not, nat_lt, ◌&&◌, if◌then◌else◌}
use Rattle.block_command.specs.declared.command.{Command.Command, Stage.{Stage, TheVariants.{Waiting, Load, Loading, Announce, Sending, Activate}}}
use Rattle.block_command.specs.{declared.command.Stage.TheVariants.{Receiving, Store, Storing}, Moments.{Moment, is_set_up, turn_of}, Laws.Loads}
use Rattle.block_command.specs.Laws.{Stores, Flushes, Fails}
use Rattle.block_command.proofs.Door.{at}
use Rattle.block_disk.specs.{Table.has_wire, Requests.{is_answer, is_fis}}
use Rattle.block_disk.specs.Requests as requests
use Rattle.block_queue.specs.{Line.{IsLine, Line, PassesNowhere, awaits, command_at, line_gone, line_reset, may_send, starts}, Deeds.{Goes, MovesAt}}
use Rattle.block_queue.specs.Deeds.{MayStart, MaySend, MayAsk, CallerOwes, HostOwes, StoreOwed, waits_for_caller, waits_for_host}
use Rattle.block_queue.specs.Deeds as deed
use Rattle.block_queue.proofs.Door.{line_after, new_line, of_and}
use Rattle.block_scheduler.specs.{Sets.{asks_at, ends_at, is_end, sends_alone, sends_at, turn_at}, Schedule.{EndsNowhere, IsNextFis, Schedule}}
use Rattle.block_scheduler.specs.Schedule.{ends_sent}
use Rattle.block_engine.specs.{Aside.settled, declared.{aside.AsideStage.AsideStage, request.{Answer.Answer, Failure.Failure}}, Engine.AsksNothing}
use Rattle.block_engine.specs.Engine.{EngineState, answered, discards, done_at, done_of, failed_by, line, loaded_at, none_engaged, place_of}
use Rattle.block_engine.specs.Laws.{AreSteps, IsStep, Step, after_step, after_steps}
use Rattle.block_engine.specs.declared.request.Answer.TheVariants as answers
use Rattle.block_engine.specs.Laws as engine
use Rattle.sata_disk.specs.State.{DiskState, commands, new_disk}
use Rattle.sata_disk_laws.specs.{Calls.{after_calls, all_steps}, Laws.{IsSilent, Owed, ByCaller, ByHost, OfStore, SilenceIsOwed, reached}}
use Rattle.sata_disk_laws.proofs.Runs as runs
use Rattle.sata_disk_laws.proofs.Runs.{all_after, all_are}
use Rattle.block_engine.proofs.Runs.{found_low}

-- ## The line of a run

end_case : (l : Line) (tag : ℕ) (b : Bool) → (ends_at l tag && may_send l tag) ≡ b → tag < 33 → IsLine l → IsLine (if b then line_gone l tag else l)
end_case l tag true e low is = line_after l (deed.Sends tag) is (low, (of_and _ _ e).1)
end_case l tag false e low is = is

pub ends_line : (l : Line) (n : ℕ) → n ≤ 32 → IsLine l → IsLine (ends_sent l n)
unfolding ends_sent
ends_line l zero low is = is
ends_line l (suc n) low is = end_case (ends_sent l n) n _ refl (omega (arith, low)) (ends_line l n (omega (arith, low)) is)

sent_case : (s : Schedule) (p : ℕ) (b : Bool) → IsLine (line_gone s.line p)
    → IsLine (if b then record s { line = line_reset (line_gone s.line p); fault = Some p } else record s { line = line_gone s.line p }).line
sent_case s p true is = line_after (line_gone s.line p) deed.Resets is tt
sent_case s p false is = is

beside_case : (e : EngineState) (stage : AsideStage) (b : Bool) → IsLine (line e)
    → IsLine (line (if b then record e { stage = stage } else record e { dropped = None }))
beside_case e stage true is = is
beside_case e stage false is = is

done_answers : (b : Bool) → is_answer (if b then Stores else Flushes) ≡ true
done_answers true = refl
done_answers false = refl

loaded_line : (e : EngineState) (x : Option ℕ) (number : ℕ) (bytes : List ℕ) → ((p : ℕ) → x ≡ Some p → p < 33) → IsLine (line e)
    → IsLine (line (loaded_at e x number bytes))
loaded_line e None number bytes low is = is
loaded_line e (Some p) number bytes low is = line_after (line e) (deed.Answers p number (Loads bytes)) is (low p refl, refl)

done_line : (e : EngineState) (x : Option ℕ) (number : ℕ) → ((p : ℕ) → x ≡ Some p → p < 33) → IsLine (line e) → IsLine (line (done_at e x number))
done_line e None number low is = beside_case e (settled true) _ is
done_line e (Some p) number low is = line_after (line e) (deed.Answers p number (done_of (line e) p number)) is (low p refl, done_answers _)

failed_line : (e : EngineState) (x : Option ℕ) (number : ℕ) (f : Failure) → ((p : ℕ) → x ≡ Some p → p < 33) → IsLine (line e)
    → IsLine (line (failed_by e x number f))
failed_line e None number f low is = beside_case e (settled false) _ is
failed_line e (Some p) number f low is = line_after (line e) (deed.Answers p number Fails) is (low p refl, refl)

answer_line : (e : EngineState) (number : ℕ) (a : Answer) → IsLine (line e) → IsLine (line (answered e number a))
answer_line e number (answers.Loaded bytes) is = loaded_line e (place_of e number) number bytes.items (λ p f. found_low (awaits (line e) number) 33 p f) is
answer_line e number answers.Done is = done_line e (place_of e number) number (λ p f. found_low (awaits (line e) number) 33 p f) is
answer_line e number (answers.Failed f) is = failed_line e (place_of e number) number f (λ p f. found_low (awaits (line e) number) 33 p f) is

step_line : (e : EngineState) (s : Step) → IsStep e s → IsLine (line e) → IsLine (line (after_step e s))
step_line e (engine.Takes c) may is = line_after (line e) (deed.Takes c) is may
step_line e (engine.Starts p) may is = line_after (line e) (deed.Starts p) is (may.0, may.1)
step_line e (engine.Asks p) may is = line_after (line e) (deed.Asks p) is may
step_line e engine.AsksAside may is = line_after (line e) deed.Draws is tt
step_line e (engine.Answers number a) may is = answer_line e number a is
step_line e (engine.Hears p part) may is = line_after (line e) (deed.Hears p part) is may
step_line e (engine.Sends p) may is = sent_case e.schedule p _ (line_after (line e) (deed.Sends p) is may)
step_line e engine.SendsEnds may is = ends_line (line e) 32 (omega arith) is
step_line e engine.Resets may is = line_after (line e) deed.Resets is tt
step_line e other may is = is

pub steps_line : (ss : List Step) (e : EngineState) → AreSteps e ss → IsLine (line e) → IsLine (line (after_steps e ss))
unfolding after_steps
steps_line [] e are is = is
steps_line (s ∷ ss) e are is = steps_line ss (after_step e s) are.1 (step_line e s are.0 is)

-- ## Who has the link and sends nothing

none_end : (b : Bool) → not (b && false) ≡ false → ⊥
none_end true e = cc
none_end false e = cc

no_end : (p : ℕ) → not (nat_lt p 32 && false) ≡ false → ⊥
no_end p e = none_end (nat_lt p 32) e

owes_at : (l : Line) (p : ℕ) (c : Command) (done : ℕ) (bytes : List ℕ) (sent : ℕ) (stage : Stage) → p < 33
    → command_at l p ≡ Some (at c done bytes sent stage) → is_set_up (at c done bytes sent stage) stage ≡ true
    → sends_alone p (turn_of stage) ≡ false → requests.is_request (turn_of stage) ≡ false → (starts (turn_of stage) ≡ true → done ≡ 0) → Owed l
owes_at l p c done bytes sent Waiting low is set' quiet asks fresh = absurd (let none = fresh refl in let first : nat_lt 0 done ≡ false = ap (λ n. nat_lt 0 n) none in cc)
owes_at l p c done bytes sent Load low is set' quiet asks fresh = absurd (cc)
owes_at l p c done bytes sent Loading low is set' quiet asks fresh = ByCaller p _ low is refl
owes_at l p c done bytes sent Announce low is set' quiet asks fresh = absurd (no_end p quiet)
owes_at l p c done bytes sent Sending low is set' quiet asks fresh = absurd (no_end p quiet)
owes_at l p c done bytes sent Activate low is set' quiet asks fresh = absurd (no_end p quiet)
owes_at l p c done bytes sent Receiving low is set' quiet asks fresh = ByHost p _ low is refl
owes_at l p c done bytes sent Store low is set' quiet asks fresh = absurd (cc)
owes_at l p c done bytes sent Storing low is set' quiet asks fresh = ByCaller p _ low is refl
owes_at l p c done bytes sent stage low is set' quiet asks fresh = absurd (cc)

holder_owes : (l : Line) (p : ℕ) (x : Option Moment) → IsLine l → p < 33 → command_at l p ≡ x → has_wire x ≡ true → sends_at l p ≡ false
    → asks_at l p ≡ false → Owed l
holder_owes l p None line low is has quiet asks = absurd (cc)
holder_owes l p (Some m) line low is has quiet asks =
    owes_at l p m.command m.done m.bytes m.sent m.stage low is (of_and _ _ has).1
    (ap (λ x. sends_alone p (turn_at x)) (sym is) ∙ quiet)
    (ap (λ x. requests.asks_at x) (sym is) ∙ asks)
    (λ s. line.fresh p m low is s)

-- ## One that may send, while none does

sends_or_ends : (f b e : Bool) → f ≡ true → (f && not (b && e)) ≡ false → (b ≡ true) × (e ≡ true)
sends_or_ends true true true sends quiet = (refl, refl)
sends_or_ends true true false sends quiet = absurd (cc)
sends_or_ends true false e sends quiet = absurd (cc)
sends_or_ends false b e sends quiet = absurd (cc)

send_none : (l : Line) (p : ℕ) (x : Option Moment) → command_at l p ≡ x → requests.sends_at x ≡ true → p < 33 → EndsNowhere l
    → PassesNowhere (sends_at l) → Owed l
send_none l p None is sends low ends nowhere = absurd (cc)
send_none l p (Some m) is sends low ends nowhere =
    let both = sends_or_ends (is_fis (turn_of m.stage)) (nat_lt p 32) (is_end (turn_of m.stage)) sends
    (ap (λ x. sends_alone p (turn_at x)) (sym is) ∙ nowhere p low) in
    let not' : is_end (turn_of m.stage) ≡ false = ap (λ x. is_end (turn_at x)) (sym is) ∙ ends p (ltb-true p 32 both.0) in
    absurd (let yes = both.1 in cc)

send_case : (l : Line) (p : ℕ) (wire : Option ℕ) → IsLine l → l.queue.table.wire ≡ wire → IsNextFis l wire None → p < 33 → may_send l p ≡ true
    → PassesNowhere (asks_at l) → Owed l
send_case l p None line is next low sends nowhere = send_none l p (command_at l p) refl (of_and _ _ sends).0 low next.0 next.1
send_case l p (Some h) line is next low sends nowhere =
    let holds' = line.wired h is in
    holder_owes l h (command_at l h) line holds'.0 refl holds'.1 next (nowhere h holds'.0)

nothing_asked : (e : EngineState) → (line e).queue.next < 2 ^ 63 → AsksNothing e → PassesNowhere (asks_at (line e))
nothing_asked e low (inl worn) = absurd (omega (arith, low, worn))
nothing_asked e low (inr none) = none.1

owes : (d : DiskState) (g : Goes (commands d)) → IsLine (commands d) → IsSilent d → MovesAt (commands d) g.place → Owed (commands d)
owes d g line silent (MayStart e) = absurd (let no' = g.started in cc)
owes d g line silent (MaySend e) = send_case (commands d) g.place _ line refl silent.out.1.1 g.below e (nothing_asked d.engine silent.fresh silent.request)
owes d g line silent (MayAsk e) = absurd (let no' = nothing_asked d.engine silent.fresh silent.request g.place g.below in cc)
owes d g line silent (CallerOwes m is e) = ByCaller g.place m g.below is e
owes d g line silent (HostOwes m is e) = ByHost g.place m g.below is e
owes d g line silent (StoreOwed e) = OfStore g.place g.below e

silent_or : (d : DiskState) → IsLine (commands d) → IsSilent d → (discards d.engine ≡ true) ⊎ Goes (commands d)
    → (discards d.engine ≡ true) ⊎ Owed (commands d)
silent_or d line silent (inl busy) = inl busy
silent_or d line silent (inr g) = inr (owes d g line silent g.moves)

pub silence_is_owed : engine.SomethingMoves → SilenceIsOwed
silence_is_owed moves p limit calls place are room low alive silent =
    let same : (after_calls (new_disk p limit) calls).engine ≡ after_steps (none_engaged limit) (all_steps (new_disk p limit) calls) = all_after calls (new_disk p limit) in
    let is : IsLine (line (after_calls (new_disk p limit) calls).engine) = subst (λ e. IsLine (line e)) (sym same)
    (steps_line (all_steps (new_disk p limit) calls) (none_engaged limit) (all_are calls (new_disk p limit) are) new_line) in
    silent_or (reached p limit calls) is silent (runs.something_moves moves p limit calls place are room low alive silent.start)
