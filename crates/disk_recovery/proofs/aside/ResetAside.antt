-- For `resets_set_aside`. The tick that issues the software reset of a disk sets the device aside.
use Rattle.std.proofs.Common.{◌≡◌, ℕ, ◌<◌, ◌≤◌, Bool, true, false, List, [], ◌∷◌, refl, sym, ◌∙◌, ap, subst, inl, inr, arith, Option, Some, None}
use Rattle.std.proofs.lemmas.Bool.{cases_Bool, true≢false}
use Rattle.std.specs.Prelude.{is_some}
use Rattle.slots.specs.Slots.{Issue, issue_at}
use Rattle.hba_fbs.specs.Views.{view_of}
use Rattle.disk_model.specs.Histories.{Happening}
use Rattle.hba_laws.specs.Client.{Touches}
use Rattle.hba_driver.specs.declared.{mode.Mode.TheVariants.Switching, path.Stage.{Stage, TheVariants.{AssertReset, AwaitReset, Identify, ReadLog}}}
use Rattle.hba_driver.specs.{declared.{path.Stage.TheVariants.ReleaseReset, plan.Plan.Plan}, Drivers.Driver, Effects.{ActsAll, effects_of}}
use Rattle.hba_driver.specs.{Effects.stage_effects, HostTurns.{Does, DoesAll, Host, Ticked, sight_in}, Orders.control, Paths.stage_fields}
use Rattle.hba_driver.specs.{Resetting.IsSetDriven, Sights.file_shown, Slot30.{IsAt30, IsOn30, Sets}, Steady.IsCalmAct, Tended.{Awaits, Fine}}
use Rattle.hba_driver.specs.{Tended.{Identifies, IsAtStage, IsReleasing, IsResetTurn, IsTendedBy, Logs, Releases, Spoilt, TendsOn}, Ticks.done_ended}
use Rattle.hba_driver.specs.{Ticks.{due, effects_due, seen}, Between.{Due, IsUp, Issues30, MayStep, Runs, beside}}
use Rattle.hba_driver.proofs.Door.{at_stage, due_seen, each_reset_is_driven, free_slot, not_below, not_busy, runs_turn, seen_served, sound_beside}
use Rattle.hba_driver.proofs.Door.{stage_is, step30, tick_acts, tick_is, turn_tended, unworked, up_of}
use Rattle.disk_recovery.specs.{Together.{IsServedOn, ResetsAt}, Resets.ResetSetsAside}
use Rattle.disk_recovery.proofs.together.TogetherParts.{calm_turns_go_on}
use Rattle.disk_simulation.specs.Same.{SlotCommand}

assert_given : (n : ℕ) → stage_fields n AssertReset ≡ Some (control n 4)
unfolding stage_fields
assert_given n = refl

-- no device that is served is at the stage that sets SRST
abbrev IsSetting : Stage → Type 0
IsSetting AssertReset = Unit {0}
IsSetting other = ⊥

never : (n : ℕ) (plan : Plan) → IsTendedBy n plan → IsAtStage n IsSetting plan → ⊥
never n plan (Fine fine path) there = subst IsSetting (path there.0 there.1.0 there.1.1.0).0 there.1.1.1
never n plan (Releases device works) there = stage_is n ReleaseReset true plan IsSetting works there
never n plan (Awaits device works) there = stage_is n AwaitReset false plan IsSetting works there
never n plan (Identifies device works) there = stage_is n Identify true plan IsSetting works there
never n plan (Logs before file device works) there = stage_is n (ReadLog file) true plan IsSetting works there
never n plan (Spoilt device free) there = unworked n plan IsSetting free there

module _ (n : ℕ) (base : List Happening) (old : Host) (acted : Bool) (new : Host) (given : List Happening) (commands : ℕ → SlotCommand)
    (touches : Touches) (below : n < 15) (does : Does old (Ticked acted) new) (is : IsResetTurn n old (Ticked acted)) (on : IsOn30 touches old)
    (h : IsServedOn n base old given commands touches) (well : (view_of n old.port).fault ≡ None) where
  run : DoesAll old (Ticked acted ∷ []) new
  run = (new, does, refl)

  calm : IsCalmAct n (due (sight_in old) old.driver)
  calm = subst (IsCalmAct n) (sym is) tt

  driven : IsSetDriven n new
  driven = each_reset_is_driven n old acted new (omega (arith, below)) does on.sound.drives is h.tended

  -- nothing of it was issued before
  begins : ResetsAt n old (Ticked acted) new touches
  begins = elim (calm_turns_go_on n base old (Ticked acted) new run given commands touches below calm h) [
    | inl on ↦
        absurd (never n new.driver.plan on.on.tended.plan.way (at_stage n AssertReset true new.driver.plan IsSetting driven.plan.path tt))
    | inr resets ↦ resets
  ]

  opened_then : 7 ≤ old.driver.plan.opened
  opened_then =
      let runs = subst (Runs old.driver.plan) is (runs_turn (sight_in old) old.driver.plan (done_ended (sight_in old).issued old.driver.entries)) in
      not_below old.driver.plan.opened 7 runs.0

  opened_now : 7 ≤ new.driver.plan.opened
  opened_now = elim (tick_is (sight_in old) (file_shown new.port) old.driver) [
    | inl first ↦ let less : old.driver.plan.opened < 7 = first.less in absurd (omega (arith, opened_then, less))
    | inr going ↦
        subst (λ (k : ℕ). 7 ≤ k) (sym (ap (λ (d : Driver). d.plan.opened) does.driver ∙ going.opened_is)) opened_then
  ]

  up : IsUp old.port.registers
  up =
      let runs = subst (Runs old.driver.plan) is (runs_turn (sight_in old) old.driver.plan (done_ended (sight_in old).issued old.driver.entries)) in
      up_of old.driver.plan.opened old.driver.plan.restarted old.port.registers opened_then (not_below old.driver.plan.restarted 2 runs.1)
      on.sound.registers

  may : MayStep (seen (sight_in old) old.driver).plan n AssertReset
  may = subst (Due (sight_in old) (seen (sight_in old) old.driver).plan (seen (sight_in old) old.driver).entries) is
      (due_seen (sight_in old) old.driver)

  free30 : issue_at old.port.slots 30 ≡ None
  free30 = elim (cases_Bool (is_some (issue_at old.port.slots 30))) [
    | inl busy ↦
        absurd (not_busy (seen (sight_in old) old.driver) (beside old.port old.memory) touches 30 30
        (sound_beside old.port old.memory on.sound.ruled on.sound.memory)
        (seen_served old.driver.plan.mode old.port old.memory old.driver touches (sound_beside old.port old.memory on.sound.ruled on.sound.memory) on.served)
        (free_slot (seen (sight_in old) old.driver) n AssertReset may) busy refl)
    | inr idle ↦ by_none (issue_at old.port.slots 30) idle
  ]
    where
      by_none : (o : Option Issue) → is_some o ≡ false → o ≡ None
      by_none None e = refl
      by_none (Some i) e = absurd (true≢false e)

  effects : ActsAll (stage_effects Switching n AssertReset) old.port old.memory new.port new.memory
  unfolding effects_of
  effects = subst (λ x. ActsAll (effects_due Switching x) old.port old.memory new.port new.memory) is (tick_acts old acted new does on.sound)

  issued : Issues30 n (control n 4) old.port new.port
  issued =
      step30 n AssertReset (control n 4) old.port new.port old.memory new.memory below (assert_given n) up on.unarmed free30 on.sound.memory
      effects

  -- it is in no software reset yet
  unreset : (view_of n old.port).state.resetting ≡ false
  unreset = elim (cases_Bool (view_of n old.port).state.resetting) [
    | inl set ↦
        let tends : TendsOn n old (Ticked acted) new = turn_tended n old (Ticked acted) new (omega (arith, below)) does on.sound.drives calm h.tended in
        let there : IsAtStage n IsReleasing new.driver.plan = tends.awaiting (h.resets set).0 set in
        absurd (stage_is n AssertReset true new.driver.plan IsReleasing driven.plan.path there)
    | inr off ↦ off
  ]

  set_aside : IsAt30 n Sets new
  set_aside = record {
    opened = opened_now;
    fault = ap is_some (issued.fault ∙ well);
    apart = λ w. record {
      plan = driven.plan;
      slot = issued.unsent;
      context = issued.context ∙ begins.free.context;
      resetting = ap (λ s. s.resetting) issued.state ∙ unreset;
      withdrawn = driven.withdrawn;
    };
  }

pub reset_sets_aside : ResetSetsAside
reset_sets_aside n base old acted new given commands touches below does is on h well =
    (set_aside n base old acted new given commands touches below does is on h well, (driven n base old acted new given commands touches below does is on h well).unsought)
