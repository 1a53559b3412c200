-- What a run does to the command beside the queue.
use Rattle.std.proofs.Common.{◌≡◌, ℕ, true, false, List, [], ◌∷◌, ◌++◌, Some, None, refl, sym, ap, ◌∙◌}
use Rattle.std.specs.Prelude.{Option, Bool, if◌then◌else◌}
use Rattle.block_queue.proofs.Door.{of_and}
use Rattle.block_engine.specs.Aside as aside
use Rattle.block_engine.specs.{Aside.{AsideStep, asks_for, is_over, is_waiting, settled}, Engine.{EngineState, answered, done_at, failed_by, line}}
use Rattle.block_engine.specs.{Engine.{loaded_at, none_engaged, place_of}, Laws.{AreSteps, IsStep, Step, after_step, after_steps}}
use Rattle.block_engine.specs.declared.{aside.AsideStage.{AsideStage, TheVariants.{Idle, Waiting}}, request.Answer.Answer}
use Rattle.block_engine.specs.Laws as engine
use Rattle.block_engine.specs.declared.request.Answer.TheVariants as answers
use Rattle.sata_disk.specs.State.{new_disk}
use Rattle.sata_disk_laws.specs.{Calls.all_steps, Asides.{AsidesAreEarned, after_asides, answer_aside, aside_of, asides_of}}
use Rattle.sata_disk_laws.proofs.Runs.{all_after, all_are}

none_asides : (a : AsideStage) → a ≡ after_asides a []
unfolding after_asides
none_asides a = refl

one_aside : (a : AsideStage) (s : AsideStep) → aside.after_step a s ≡ after_asides a (s ∷ [])
unfolding after_asides
one_aside a s = refl

asides_both : (ss ts : List AsideStep) (a : AsideStage) → after_asides a (ss ++ ts) ≡ after_asides (after_asides a ss) ts
unfolding after_asides
asides_both [] ts a = refl
asides_both (s ∷ ss) ts a = asides_both ss ts (aside.after_step a s)

waiting_is : (a : AsideStage) → is_waiting a ≡ true → a ≡ Waiting
waiting_is Waiting e = refl
waiting_is a e = absurd (cc)

settle_case : (e : EngineState) (stage : AsideStage) (b : Bool)
    → (if b then record e { stage = stage } else record e { dropped = None }).stage ≡ (if b then stage else e.stage)
settle_case e stage true = refl
settle_case e stage false = refl

loaded_stage : (e : EngineState) (x : Option ℕ) (number : ℕ) (bytes : List ℕ) → (loaded_at e x number bytes).stage ≡ e.stage
loaded_stage e None number bytes = refl
loaded_stage e (Some p) number bytes = refl

answer_stage : (e : EngineState) (x : Option ℕ) (number : ℕ) (a : Answer) → place_of e number ≡ x
    → (answered e number a).stage ≡ after_asides e.stage (answer_aside x number a)
answer_stage e None number (answers.Loaded bytes) is = loaded_stage e (place_of e number) number bytes.items ∙ none_asides e.stage
answer_stage e (Some p) number (answers.Loaded bytes) is = loaded_stage e (place_of e number) number bytes.items ∙ none_asides e.stage
answer_stage e None number answers.Done is =
    ap (λ x. (done_at e x number).stage) is ∙ settle_case e (settled true) _ ∙ one_aside e.stage (aside.Answers number true)
answer_stage e (Some p) number answers.Done is = ap (λ x. (done_at e x number).stage) is ∙ none_asides e.stage
answer_stage e None number (answers.Failed f) is =
    ap (λ x. (failed_by e x number f).stage) is ∙ settle_case e (settled false) _ ∙ one_aside e.stage (aside.Answers number false)
answer_stage e (Some p) number (answers.Failed f) is = ap (λ x. (failed_by e x number f).stage) is ∙ none_asides e.stage

step_stage : (e : EngineState) (s : Step) → IsStep e s → (after_step e s).stage ≡ after_asides e.stage (aside_of e s)
step_stage e (engine.TakesAside k ranges) is = ap (λ a. aside.after_take a) (sym is) ∙ one_aside e.stage aside.Takes
step_stage e engine.AsksAside is =
    ap (λ a. aside.after_ask a (line e).queue.next) (sym (waiting_is e.stage (of_and _ _ (of_and _ _ is).0).0)) ∙ one_aside e.stage _
step_stage e (engine.Answers number a) is = answer_stage e (place_of e number) number a refl
step_stage e engine.SendsAside is =
    ap (λ b. if b then Idle else e.stage) (sym (of_and (is_over e.stage) _ is).0) ∙ one_aside e.stage aside.Sends
step_stage e engine.Resets is = one_aside e.stage aside.Resets
step_stage e other is = none_asides e.stage

steps_stage : (ss : List Step) (e : EngineState) → AreSteps e ss → (after_steps e ss).stage ≡ after_asides e.stage (asides_of e ss)
unfolding after_steps asides_of
steps_stage [] e are = none_asides e.stage
steps_stage (s ∷ ss) e are = steps_stage ss (after_step e s) are.1
    ∙ ap (λ a. after_asides a (asides_of (after_step e s) ss)) (step_stage e s are.0)
    ∙ sym (asides_both (aside_of e s) (asides_of (after_step e s) ss) e.stage)

pub asides_are_earned : aside.AsidesAreEarned → AsidesAreEarned
asides_are_earned earned p limit calls are = record {
  stage = ap (λ e. e.stage) (all_after calls (new_disk p limit))
      ∙ steps_stage (all_steps (new_disk p limit) calls) (none_engaged limit) (all_are calls (new_disk p limit) are);
  earned = earned _;
}
