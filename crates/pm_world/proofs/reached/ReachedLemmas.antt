-- For `World::step` and `World::run`. What steps make of a world that came by a run from a new one.
use Rattle.std.proofs.Common.{List, [], ◌∷◌, ◌++◌, take, refl, sym, subst}
use Rattle.std.specs.Prelude.{ℕ, IfErr, OnOk, Result, Ok, Err}
use Rattle.pm_world.specs.{Laws.AreLawful, Places.{Places, new_world_in}, Rules.{Outcome, Rule, Run, Stops}, Runs.IsReached}
use Rattle.pm_world.specs.declared.{step.Answer.Answer, step.Step.Step, step.StepError.StepError}
use Rattle.pm_world.proofs.{upward.Law.run_append, steps.Refusals.same_where_refused}

pub reached_run : (old : Places) (steps : List Step) (answers : List Answer) (new : Places) → IsReached old → Run old steps answers new → IsReached new
reached_run old steps answers new r run = record {
  mode = r.mode;
  config = r.config;
  units = r.units;
  fits = r.fits;
  steps = r.steps ++ steps;
  answers = r.answers ++ answers;
  run = run_append (new_world_in r.mode r.config r.units) old new r.steps r.answers steps answers r.run run;
}

pub reached_step : (old : Places) (s : Step) (outcome : Outcome) (new : Places) → IsReached old → Rule old s outcome new → IsReached new
reached_step old s (Ok a) new r rule = reached_run old (s ∷ []) (a ∷ []) new r (new, rule, refl)
reached_step old s (Err e) new r rule = subst IsReached (sym (same_where_refused old s (Err e) new rule)) r

pub reached_stops : (old : Places) (steps : List Step) (i : ℕ) (e : StepError) (answers : List Answer) (new : Places) → IsReached old
    → Stops old steps i e answers new → IsReached new
reached_stops old steps i e answers new r stops = reached_run old (take i steps) answers new r stops.run

-- whatever a run answers, with what was told
pub reached_told : {A : Type 0} (old : Places) (steps : List Step) (result : Result A (ℕ × StepError)) (new : Places) (told : List Answer) → IsReached old
    → OnOk result (Run old steps told new)
    → IfErr result (λ e. Stops old steps e.0 e.1 told new × AreLawful old (take e.0 steps) told new)
    → IsReached new
reached_told old steps (Ok a) new told r run stops = reached_run old steps told new r run
reached_told old steps (Err e) new told r run stops = reached_stops old steps e.0 e.1 told new r stops.0
