-- For `resets_are_issued`. The driver's side of the tick that issues a software reset.
use Rattle.std.proofs.{Common.{◌≡◌, ℕ, true, false, refl, sym, ◌∙◌, ap, subst, inl, inr, Option, Some}, lemmas.Bool.cases_Bool}
use Rattle.std.specs.Prelude.{◌||◌}
use Rattle.slots.specs.Slots.{match_some}
use Rattle.hba_driver.specs.declared.path.{Stage.{Stage, TheVariants.{Identify, AssertReset, ReadLog, ReleaseReset, AwaitReset}}, TaskFile.TaskFile}
use Rattle.hba_driver.specs.{declared.{plan.Plan.Plan, slot.Phase.{Phase, TheVariants.{Aside, Ended}}, turn.Act.Act}, Drivers.{Driver, has_ended_in}}
use Rattle.hba_driver.specs.{Drivers.{is_aside_in, is_issued_in, waits_in}, HostTurns.{Host, Ticked, sight_in}, Resetting.EachResetIsDriven}
use Rattle.hba_driver.specs.{Resetting.IsSetDriven, Sights.file_shown, Steady.{IsCalmAct, detects}, Tended.{Awaits, Fine, Identifies, IsAtStage}}
use Rattle.hba_driver.specs.{Tended.{IsBeingReset, IsTendedBy, Logs, Releases, Spoilt, TendsOn, WorksOn}, Ticks.{after_tick, due, plan_after, seen}}
use Rattle.hba_driver.specs.Ticks.{turn}
use Rattle.hba_driver.specs.declared.turn.Act.TheVariants as act
use Rattle.hba_driver.proofs.{steady.SteadyTurns.acted_plan, anew.{TendedLemmas.{at_stage, stage_is, unworked}, TendedTurns.turn_tended}}

abbrev IsSetting : Stage → Type 0
IsSetting AssertReset = Unit {0}
IsSetting other = ⊥

path_set : (n : ℕ) (old : Host) (file : TaskFile) → due (sight_in old) old.driver ≡ Some (act.Steps n AssertReset) → WorksOn n AssertReset true (after_tick (sight_in old) file old.driver).plan
unfolding after_tick plan_after
path_set n old file is =
    ap (λ (p : Plan). p.path) (acted_plan (turn (sight_in old) old.driver).act file (seen (sight_in old) old.driver))
    ∙ ap (λ (a : Option Act). (match_some a (seen (sight_in old) old.driver).plan (λ x. plan_after x file (seen (sight_in old) old.driver).plan)).path) is

-- no tended device is at that stage
not_tended : (n : ℕ) (plan : Plan) → IsTendedBy n plan → IsAtStage n IsSetting plan → ⊥
not_tended n plan (Fine fine path) there = subst IsSetting (path there.0 there.1.0 there.1.1.0).0 there.1.1.1
not_tended n plan (Releases device works) there = stage_is n ReleaseReset true plan IsSetting works there
not_tended n plan (Awaits device works) there = stage_is n AwaitReset false plan IsSetting works there
not_tended n plan (Identifies device works) there = stage_is n Identify true plan IsSetting works there
not_tended n plan (Logs before file device works) there = stage_is n (ReadLog file) true plan IsSetting works there
not_tended n plan (Spoilt device free) there = unworked n plan IsSetting free there

withdrawn_by : (p : Phase) → ((waits_in p || is_issued_in p) ≡ true → ⊥) → (is_aside_in p || has_ended_in p) ≡ true
withdrawn_by Aside none = refl
withdrawn_by (Ended o) none = refl
withdrawn_by other none = absurd (none refl)

set_driven : (n : ℕ) (h : Host) → IsBeingReset n h.driver → IsSetDriven n h
set_driven n h reset = record {
  plan = record { device = reset.device; path = reset.works };
  unsought = elim (cases_Bool (detects n h.driver.plan.asked h.driver.plan.order)) [ inl on ↦ absurd (reset.order on) | inr off ↦ off ];
  withdrawn = λ s e there of_dev. withdrawn_by e.head.phase (λ lives. reset.none s e (record { stands = there; of_dev = of_dev; lives = lives }));
}

pub each_reset_is_driven : EachResetIsDriven
each_reset_is_driven n old acted new below does on is tended =
    let calm : IsCalmAct n (due (sight_in old) old.driver) = subst (IsCalmAct n) (sym is) tt in
    let tends : TendsOn n old (Ticked acted) new = turn_tended n old (Ticked acted) new below does on calm tended in
    let works : WorksOn n AssertReset true new.driver.plan = subst (λ (d : Driver). WorksOn n AssertReset true d.plan) (sym does.driver) (path_set n old (file_shown new.port) is) in
    elim tends.next [
      | inl still ↦ absurd (not_tended n new.driver.plan still.plan.way (at_stage n AssertReset true new.driver.plan IsSetting works tt))
      | inr reset ↦ set_driven n new reset.1
    ]
