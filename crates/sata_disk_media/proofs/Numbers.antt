-- Over every run of an engine the requests that are not answered have numbers of their own.
use Rattle.std.proofs.Common.{◌≡◌, ℕ, true, false, Some, None, refl, sym, arith, subst}
use Rattle.std.specs.Prelude.{Option, Bool, if◌then◌else◌}
use Rattle.block_command.specs.Laws as command
use Rattle.block_engine.specs.{declared.request.Answer.Answer, Aside.settled, Engine.{EngineState, answered, done_at, done_of, failed_by, line}}
use Rattle.block_engine.specs.{Engine.{loaded_at, none_engaged, place_of}, Laws.{Step, Takes, TakesAside, Asks, AsksAside, Answers, Sends, SendsEnds}}
use Rattle.block_engine.specs.{Laws.{SendsAside, Forgives, Resets, after_step}, Numbers.AreNumbered}
use Rattle.block_engine.specs.declared.request.Answer.TheVariants as answers
use Rattle.block_engine.proofs.Holders.{answered_line, asked_aside, asked_line, drops, ends_line, none_dropped, none_numbered, reset_line, rests}
use Rattle.block_engine.proofs.Holders.{same_line, sent_line, settled_less, taken_line, waits}

abbrev pub Numbered : EngineState → Type 0
Numbered e = AreNumbered (line e) e.stage e.dropped

beside_case : (e : EngineState) (well b : Bool) → Numbered e → Numbered (if b then record e { stage = settled well } else record e { dropped = None })
beside_case e well true are = settled_less (line e) e.stage e.dropped well are
beside_case e well false are = none_dropped (line e) e.stage e.dropped are

answer_case : (e : EngineState) (x : Option ℕ) (number : ℕ) (a : Answer) → place_of e number ≡ x → Numbered e → Numbered (answered e number a)
answer_case e None number (answers.Loaded bytes) is are = subst (λ x. Numbered (loaded_at e x number bytes.items)) (sym is) are
answer_case e None number answers.Done is are = subst (λ x. Numbered (done_at e x number)) (sym is) (beside_case e true _ are)
answer_case e None number (answers.Failed f) is are = subst (λ x. Numbered (failed_by e x number f)) (sym is) (beside_case e false _ are)
answer_case e (Some p) number (answers.Loaded bytes) is are = subst (λ x. Numbered (loaded_at e x number bytes.items)) (sym is)
    (answered_line (line e) p number (command.Loads bytes.items) e.stage e.dropped are)
answer_case e (Some p) number answers.Done is are = subst (λ x. Numbered (done_at e x number)) (sym is)
    (answered_line (line e) p number (done_of (line e) p number) e.stage e.dropped are)
answer_case e (Some p) number (answers.Failed f) is are = subst (λ x. Numbered (failed_by e x number f)) (sym is)
    (answered_line (line e) p number command.Fails e.stage e.dropped are)

pub step_numbered : (e : EngineState) (s : Step) → Numbered e → Numbered (after_step e s)
step_numbered e (Takes c) are = taken_line (line e) c e.stage e.dropped are
step_numbered e (TakesAside k ranges) are = waits (line e) e.stage e.dropped are
step_numbered e (Asks p) are = asked_line (line e) _ p e.stage e.dropped refl refl refl are
step_numbered e AsksAside are = asked_aside (line e) _ e.stage e.dropped refl refl refl are
step_numbered e (Answers number a) are = answer_case e _ number a refl are
step_numbered e (Sends p) are = sent_line e.schedule p e.stage e.dropped are
step_numbered e SendsEnds are = ends_line (line e) 32 e.stage e.dropped are
step_numbered e SendsAside are = rests (line e) e.stage e.dropped are
step_numbered e Forgives are = are
step_numbered e Resets are = drops _ e.kind e.stage e.dropped (reset_line (line e) e.stage e.dropped are)
step_numbered e other are = same_line (line e) _ e.stage e.dropped refl refl (omega arith) are

pub new_numbered : (limit : ℕ) → Numbered (none_engaged limit)
new_numbered limit = none_numbered
