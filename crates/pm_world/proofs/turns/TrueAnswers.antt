-- For the field `truth` of `laws`. What the driver says over a run is true, and the port takes every write of it.
use Rattle.std.proofs.Common.{◌≡◌, ℕ, List, [], ◌∷◌, ◌++◌, true, sym, subst, length}
use Rattle.std.specs.Prelude.{Ok}
use Rattle.host_memory.specs.Memory.{is_memory_size, zeroed}
use Rattle.hba_driver.specs.{declared.mode.Mode.Mode, HostTurns.{Does, DoesAll, Host, HostTurn, Polled}}
use Rattle.hba_driver.proofs.Door.{done_is_true, writes_are_accepted, zeroed_right}
use Rattle.pm_world.specs.{TrueAnswers.{EachIsTrue, IsTrue, TellsTruth}, Places.{Places, new_world_in, opening_host_in}, Rules.{Rule, Run}, Runs.over}
use Rattle.pm_world.specs.{Turns.turn_of, declared.{step.Step.Step, step.Answer.Answer}}
use Rattle.pm_world.specs.declared.step.Answer.TheVariants as answer
use Rattle.pm_world.proofs.turns.{Delivery.sized, HostFold.rule_does}

module _ (mode : Mode) (memory : ℕ) (right : is_memory_size memory ≡ true) (turns : List HostTurn) (old : Places) (does : DoesAll (opening_host_in mode memory) turns old.host) where
  is_true : (s : Step) (a : Answer) (new : Places) → Rule old s (Ok a) new → IsTrue mode memory turns old.host does a
  is_true s (answer.Polled completion) new rule =
      let polls : DoesAll old.host (Polled completion ∷ []) new.host = rule_does old s (answer.Polled completion) new rule in
      λ done. done_is_true.polled mode 0 (zeroed memory) (zeroed_right memory right) turns old.host does completion new.host (subst (λ (m : Host). Does old.host (Polled completion) m) (sym polls.2) polls.1) done
  is_true s _ new rule = tt

each_is_true : (old : Places) (steps : List Step) (answers : List Answer) (new : Places) (run : Run old steps answers new) → EachIsTrue old steps answers new run
each_is_true old [] answers new run = tt
each_is_true old (s ∷ steps) [] new run = tt
each_is_true old (s ∷ steps) (a ∷ answers) new run = (
  λ mode config units fits before told made does.
      is_true mode config.memory (sized config (length units) fits) (over turn_of (new_world_in mode config units) before told old made) old does s a run.0 run.1,
  each_is_true run.0 steps answers new run.2,
)

pub tells_truth : (old : Places) (steps : List Step) (answers : List Answer) (new : Places) (run : Run old steps answers new) → TellsTruth old steps answers new run
tells_truth old steps answers new run = record {
  done = each_is_true old steps answers new run;
  accepted = λ mode config units fits before told made does.
      writes_are_accepted mode 0 (zeroed config.memory) (zeroed_right config.memory (sized config (length units) fits)) (over turn_of (new_world_in mode config units) before told old made ++ over turn_of old steps answers new run) new.host does;
}
