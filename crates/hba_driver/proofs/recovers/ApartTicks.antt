-- For `devices_are_apart`. Each tick leads a device that recovers from a stage of slot 30 to a stage.
use Rattle.std.proofs.Common.{◌≡◌, ◌≢◌, ℕ, ◌<◌, ◌≤◌, ◌⊎◌, Bool, true, false, ◌||◌, nat_lt, refl, sym, ◌∙◌, ap, subst, inl, inr, arith, Option, Some}
use Rattle.std.proofs.{Common.None, lemmas.{Bool.{cases_Bool, cases_eq, false≢true, le-ltb, lt-ltb, true≢false}, List.get_or-replicate}}
use Rattle.std.proofs.lemmas.List.FromFn.{get_or-map-range_with_len}
use Rattle.std.specs.{Prelude.{if◌then◌else◌, is_some}, Option.{option_map, option_or}}
use Rattle.port_errors.specs.{Errors.{cleared_device, named_by, shown as errors_shown}, declared.cause.Stop.Stop}
use Rattle.slots.specs.Slots.{Issue, has_bit, issue_at, match_some, own_issue}
use Rattle.hba_fbs.specs.Views.{DeviceView, Port, last_command, stopped_view, view_of}
use Rattle.hba_laws.specs.Client.{Touches}
use Rattle.hba_laws.proofs.Door.{own_in}
use Rattle.hba_driver.specs.{declared.{mode.Mode.TheVariants.Switching, order.Order.Order, path.Stage.Stage, plan.Plan.Plan}, Seeing.Sight}
use Rattle.hba_driver.specs.declared.{slot.Phase.{Phase, TheVariants.{Aside, Ended}}, turn.Act.Act, path.Recovery.TheVariants.{Log, Reset}}
use Rattle.hba_driver.specs.declared.{path.TaskFile.TaskFile, plan.Device.{Device, TheVariants.{Absent, Ready, Recovering}}, turn.Turn.Turn}
use Rattle.hba_driver.specs.{Drivers.{Driver, Entry, device_at, entry_at, has_ended_in, is_aside_in}, Effects.{ActsAll, clearing, effects_of}}
use Rattle.hba_driver.specs.{Effects.stage_effects, HostTurns.{Does, Host, Ticked, sight_in}, Laws.{Goes, is_withdrawn}, Paths.{reads_page, recovery}}
use Rattle.hba_driver.specs.{Paths.stage_fields, Sights.{file_shown, sight_of}, Slot30.{Asks, Cleared, Clears, Faulty, FindsNone, IsApart30, IsAt30}}
use Rattle.hba_driver.specs.Slot30.{IsOn30, IsPlan30, IsSlot30, LogSent, Off, On, Sets, Stage30, TicksLead30, TicksOn30, Turns30, IsLogged, fields30}
use Rattle.hba_driver.specs.{Slot30.{is_faulty, is_resetting}, Steady.{IsCalmAct, IsFlushTick}, Ticks.{acted, after_tick, cleared_plan, done_ended}}
use Rattle.hba_driver.specs.{Ticks.{due, effects_due, from_reset, plan_after, recovering, seen, turn}, Turns.{control_news, control_seen}}
use Rattle.hba_driver.specs.{Turns.{control_turn, early_due, fault_due, is_in_reset, is_there, plain_turn, restart_due, turn_of}, Between.{Due, IsUp}}
use Rattle.hba_driver.specs.Between.{Issues30, MayClear, MayEnd, MayStep, Runs, beside}
use Rattle.hba_driver.specs.declared.turn.Act.TheVariants as act
use Rattle.hba_driver.proofs.{known.ActLemmas.here_act, recovers.{ApartActs.{Begins30, Rests30, act_plans, not_issued}, ApartFiles.clearing_shown}}
use Rattle.hba_driver.proofs.recovers.{ApartFiles.file_error, ApartPlans.{IsFound, Shows, fields_turn, turn_plan}, ApartPushes.{IsDriven30, kept30}}
use Rattle.hba_driver.proofs.recovers.ApartViews.{clearing_own_view, clearing_view, issuing_view, order_view, sending_view, step30}
use Rattle.hba_driver.proofs.{known.AwaitLemmas.here_effects, ends.DoneLemmas.free_slot as slot_free, events.DrivenLemmas.{not_below, tick_is}}
use Rattle.hba_driver.proofs.{ticks.DueLemmas.{goes_turn, runs_turn}, issued.EndingLemmas.may_end, events.EventLemmas.sound_beside}
use Rattle.hba_driver.proofs.{requests.HistoryLemmas.back_of, ticks.LifeLemmas.{due_seen, keeps_tick}, events.OpenLemmas.up_of}
use Rattle.hba_driver.proofs.{issued.{ServedLemmas.seen_served, ServingLemmas.not_busy}, ticks.ServeLemmas.ticks_serve, steady.SteadyLemmas.of_turn}
use Rattle.hba_driver.proofs.{steady.{SteadyLemmas.unless_here, SteadyTurns.acted_plan}, modes.SwitchLemmas.{sight_is, tick_acts}}
use Rattle.hba_driver.proofs.{slot31.Tick31Lemmas.faulty_shown, issued.TickingLemmas.{free_slot, step_dev}}

-- ---- requests

withdrawn_aside : (q : Phase) → Goes Aside q → (is_aside_in q || has_ended_in q) ≡ true
withdrawn_aside Aside h = refl
withdrawn_aside (Ended o) h = refl
withdrawn_aside other h = absurd (true≢false h)

withdrawn_goes : (p q : Phase) → (is_aside_in p || has_ended_in p) ≡ true → Goes p q → (is_aside_in q || has_ended_in q) ≡ true
withdrawn_goes Aside q h k = withdrawn_aside q k
withdrawn_goes (Ended o) q h k = subst (λ (x : Phase). (is_aside_in x || has_ended_in x) ≡ true) (sym k) refl
withdrawn_goes other q h k = absurd (false≢true h)

ticked_withdrawn : (n : ℕ) (old : Host) (acted : Bool) (new : Host) → Does old (Ticked acted) new → ((s : ℕ) (x : Entry) → entry_at old.driver.entries s ≡ Some x → x.head.dev ≡ n → is_withdrawn x.head ≡ true)
    → (s : ℕ) (x : Entry) → entry_at new.driver.entries s ≡ Some x → x.head.dev ≡ n → is_withdrawn x.head ≡ true
ticked_withdrawn n old acted new does h s x there of_dev =
    let after : Driver = after_tick (sight_in old) (file_shown new.port) old.driver in
    let b = back_of (entry_at old.driver.entries s) (entry_at after.entries s) (keeps_tick (sight_in old) (file_shown new.port) old.driver s) x (ap (λ (d : Driver). entry_at d.entries s) (sym does.driver) ∙ there) in
    withdrawn_goes b.0.head.phase x.head.phase (h s b.0 b.1 (sym (ap (λ (e : Entry). e.head.dev) b.2.same) ∙ of_dev)) b.2.goes

-- ---- what is due

reported : (o : Option ℕ) (cause : Option Stop) (dev : ℕ) → named_by (errors_shown o cause) ≡ Some dev → o ≡ Some dev
reported None cause dev is = let bad : None ≡ Some dev = is in cc
reported (Some x) None dev is = is
reported (Some x) (Some c) dev is = cc

-- a fault that is cleared stood before
pub cleared_faulty : (port : Port) (dev : ℕ) → Rattle.hba_driver.specs.Effects.IsRuled port → cleared_device port.errors ≡ Some dev → is_some (view_of dev port).fault ≡ true
cleared_faulty port dev ruled is = (ruled.faults.reported_is_marked dev (reported port.errors.reported port.errors.port dev is)).1

module _ (n : ℕ) (past : Touches) (h : Host) (low : n < 15) (on : IsOn30 past h) (stage : Stage30) (at : IsAt30 n stage h) (acts : Bool) (new : Host) (does : Does h (Ticked acts) new) (flush : IsFlushTick n h → ⊥) where
  abbrev v : Sight
  v = sight_in h

  abbrev q : Plan
  q = (seen v h.driver).plan

  opened_then : h.driver.plan.opened ≡ new.driver.plan.opened
  opened_then = elim (tick_is v (file_shown new.port) h.driver) [
    | inl first ↦ absurd (omega (arith, at.opened, first.less))
    | inr going ↦ sym (ap (λ (d : Driver). d.plan.opened) does.driver ∙ going.opened_is)
  ]

  opened_now : 7 ≤ new.driver.plan.opened
  opened_now = subst (λ (k : ℕ). 7 ≤ k) opened_then at.opened

  up : nat_lt h.driver.plan.restarted 2 ≡ false → IsUp h.port.registers
  up more = up_of h.driver.plan.opened h.driver.plan.restarted h.port.registers at.opened (not_below h.driver.plan.restarted 2 more) on.sound.registers

  -- ---- what slot 30 shows

  bit30 : (i : Issue) → own_issue (view_of n h.port).slots 30 ≡ Some i → has_bit v.issued 30 ≡ true
  bit30 i there = elim (cases_Bool (has_bit v.issued 30)) [
    | inl set ↦ set
    | inr off ↦
        let none : issue_at h.port.slots 30 ≡ None = slot_free h.driver.plan.mode h.port h.memory 30 on.sound.ruled.table (omega arith) off in
        let bad : None ≡ Some i = sym none ∙ (own_in n 30 h.port.slots i there).1 in
        cc
  ]

  in_reset : (view_of n h.port).state.resetting ≡ true → is_in_reset v n ≡ true
  unfolding sight_of
  in_reset is = get_or-map-range_with_len (λ dev. (view_of dev h.port).state.resetting) 0 16 n n false (omega (arith, low)) (omega arith) ∙ is

  shows : (s : Stage30) → stage ≡ s → is_faulty stage ≡ false → IsSlot30 n s h.port → Shows n s v
  shows Asks is well slot = bit30 _ slot.issued
  shows LogSent is well slot = bit30 slot.issue slot.issued
  shows Sets is well slot = bit30 _ slot.issued
  shows Clears is well slot = bit30 _ slot.issued
  shows Off is well slot = in_reset ((at.apart well).resetting ∙ ap is_resetting is)
  shows other is well slot = tt

  -- ---- the act is calm

  calm_by : (a : Option Act) → due v h.driver ≡ a → is_faulty stage ≡ false → MayEnd Switching a h.port → IsCalmAct n a
  calm_by (Some act.Stops) is well may = on.going.ticks act.Stops is
  calm_by (Some (act.Clears dev)) is well may = λ same. false≢true (sym well ∙ sym at.fault ∙ subst (λ (k : ℕ). is_some (view_of k h.port).fault ≡ true) (sym same) (cleared_faulty h.port dev on.sound.ruled may.1.faulty))
  calm_by (Some (act.Orders order)) is well may = λ same. flush (is ∙ ap (λ (o : Order). Some (act.Orders o)) same)
  calm_by other is well may = tt

  -- ---- a stage that is not the fault

  module _ (well : is_faulty stage ≡ false) (there : FindsNone n h → ⊥) where
    apart : IsApart30 n stage h
    apart = at.apart well

    found : IsFound n v h.driver.plan
    found order came = elim (cases_Bool (is_there v.answer)) [
      | inl is ↦ is
      | inr none ↦ absurd (there (record { order = order; came = came; none = none }))
    ]

    plans : IsPlan30 n stage q
    plans = turn_plan n stage v h.driver.plan (done_ended v.issued h.driver.entries) well (shows stage refl well apart.slot) found apart.plan

    served : Rattle.hba_driver.specs.Served.IsServed (seen v h.driver) (beside h.port h.memory) past
    served = seen_served h.driver.plan.mode h.port h.memory h.driver past (sound_beside h.port h.memory on.sound.ruled on.sound.memory) on.served

    low_dev : (dev : ℕ) (step : Stage) → MayStep q dev step → dev < 15
    low_dev dev step may = step_dev (seen v h.driver) dev step served.bounded.path may

    free30 : (step : Stage) → MayStep q n step → issue_at h.port.slots 30 ≡ None
    free30 step may = elim (cases_Bool (is_some (issue_at h.port.slots 30))) [
      | inl busy ↦
          absurd (not_busy (seen v h.driver) (beside h.port h.memory) past 30 30 (sound_beside h.port h.memory on.sound.ruled on.sound.memory) served (free_slot (seen v h.driver) n step may) busy refl)
      | inr idle ↦ by_none (issue_at h.port.slots 30) idle
    ]
      where
        by_none : (o : Option Issue) → is_some o ≡ false → o ≡ None
        by_none None e = refl
        by_none (Some i) e = absurd (true≢false e)

    -- the act leaves the view
    view_by : (a : Option Act) → due v h.driver ≡ a → MayEnd Switching a h.port → IsCalmAct n a → Due v q (seen v h.driver).entries a → Runs h.driver.plan a → ((dev : ℕ) (step : Stage) → a ≡ Some (act.Steps dev step) → dev ≢ n)
        → ActsAll (effects_due Switching a) h.port h.memory new.port new.memory → view_of n new.port ≡ view_of n h.port
    unfolding effects_of ActsAll
    view_by None is may calm known runs none es = ap (view_of n) es.0
    view_by (Some (act.Opens k)) is may calm known runs none es = absurd (omega (arith, at.opened, known.1, (goes_turn v h.driver.plan (done_ended v.issued h.driver.entries)).opened))
    view_by (Some act.Stops) is may calm known runs none es = absurd calm
    view_by (Some (act.Restarts k)) is may calm known runs none es = absurd (on.going.ticks (act.Restarts k) is)
    view_by (Some (act.Clears dev)) is may calm known runs none es = clearing_view n dev h.port new.port h.memory new.memory (omega (arith, low)) (λ e. calm (sym e)) may.1.faulty es
    view_by (Some (act.Orders order)) is may calm known runs none es = order_view n order h.port new.port h.memory new.memory low calm (up runs.1) es
    view_by (Some (act.Steps dev step)) is may calm known runs none es =
        let below : dev < 15 = low_dev dev step known in
        sending_view n 30 dev (stage_fields dev step) (reads_page step) h.port new.port h.memory new.memory (omega (arith, low)) (omega (arith, below)) (none dev step refl) (up runs.1) es
    view_by (Some (act.Issues slot dev queued)) is may calm known runs none es =
        let w = known.0 in
        let below : dev < 15 = subst (λ (k : ℕ). k < 15) w.of_dev (served.bounded.entries slot w.entry w.stands).dev in
        issuing_view n slot dev queued h.port new.port h.memory new.memory (omega (arith, low)) (omega (arith, below))
        (not_issued n stage v (file_shown new.port) q (seen v h.driver).entries well plans slot dev w) (up runs.1) es

    -- the act leaves the command of slot 30
    last_by : (a : Option Act) → Due v q (seen v h.driver).entries a → ((dev : ℕ) (step : Stage) → a ≡ Some (act.Steps dev step) → ⊥) → ActsAll (effects_due Switching a) h.port h.memory new.port new.memory
        → last_command new.port.commands 30 ≡ last_command h.port.commands 30
    unfolding ActsAll
    last_by None known none es = ap (λ (p : Port). last_command p.commands 30) es.0
    last_by (Some a) known none es =
        here_effects (effects_due Switching (Some a)) h.port new.port h.memory new.memory (here_act a (λ dev step e. none dev step (ap (λ (x : Act). Some x) e)) (λ slot dev queued e. below slot dev queued (subst (λ (x : Act). Due v q (seen v h.driver).entries (Some x)) e known))) es
      where
        below : (slot dev : ℕ) (queued : Bool) → Due v q (seen v h.driver).entries (Some (act.Issues slot dev queued)) → slot ≢ 30
        below slot dev queued d same =
            let less : slot < 30 = d.0.below in
            omega (arith, less, same)

    plan_now : new.driver.plan ≡ match_some (due v h.driver) q (λ x. plan_after x (file_shown new.port) q)
    unfolding after_tick
    plan_now = ap (λ (d : Driver). d.plan) does.driver ∙ acted_plan (due v h.driver) (file_shown new.port) (seen v h.driver)

    driven_now : (next : Stage30) → IsPlan30 n next new.driver.plan → IsDriven30 n next new.driver
    driven_now next p = record {
      opened = opened_now;
      plan = λ w. p;
      withdrawn = λ w. ticked_withdrawn n h acts new does apart.withdrawn;
    }

    same_follows : (s : Stage30) → TicksOn30 s s
    same_follows Faulty = inl refl
    same_follows Cleared = inl refl
    same_follows On = inl refl
    same_follows other = refl

    none_held : (a : Option Act) → ((dev : ℕ) (step : Stage) → a ≡ Some (act.Steps dev step) → stage ≡ Cleared) → is_some (fields30 n stage) ≡ true → (dev : ℕ) (step : Stage) → a ≡ Some (act.Steps dev step) → ⊥
    none_held a free some dev step e = false≢true (sym (ap (λ (s : Stage30). is_some (fields30 n s)) (free dev step e)) ∙ some)

    rests_then : Rests30 n stage new.driver.plan (due v h.driver) → Turns30 n stage (Ticked acts) new
    rests_then r = record {
      next = stage;
      at = kept30 n stage h new
          (view_by (due v h.driver) refl (may_end h on.sound) (calm_by (due v h.driver) refl well (may_end h on.sound)) (due_seen v h.driver) (runs_turn v h.driver.plan (done_ended v.issued h.driver.entries)) r.none (tick_acts h acts new does on.sound))
          (λ some. last_by (due v h.driver) (due_seen v h.driver) (none_held (due v h.driver) r.free some) (tick_acts h acts new does on.sound)) (driven_now stage r.is) at;
      is = same_follows stage;
    }

    begins_then : Begins30 n stage new.driver.plan (due v h.driver) → Turns30 n stage (Ticked acts) new
    unfolding effects_of
    begins_then b =
        let known : MayStep q n b.step = subst (Due v q (seen v h.driver).entries) b.due (due_seen v h.driver) in
        let runs = subst (Runs h.driver.plan) b.due (runs_turn v h.driver.plan (done_ended v.issued h.driver.entries)) in
        let es : ActsAll (stage_effects Switching n b.step) h.port h.memory new.port new.memory = subst (λ (x : Option Act). ActsAll (effects_due Switching x) h.port h.memory new.port new.memory) b.due (tick_acts h acts new does on.sound) in
        let i : Issues30 n b.fields h.port new.port = step30 n b.step b.fields h.port new.port h.memory new.memory low b.given (up runs.1) on.unarmed (free30 b.step known) on.sound.memory es in
        let d : IsDriven30 n b.next new.driver = driven_now b.next b.is in
        record {
          next = b.next;
          at = record {
            opened = d.opened;
            fault = ap is_some i.fault ∙ at.fault ∙ well ∙ sym b.well;
            apart = λ w. record {
              plan = d.plan w;
              slot = b.holds new.port i.unsent;
              context = i.context ∙ apart.context;
              resetting = ap (λ s. s.resetting) i.state ∙ apart.resetting ∙ sym b.resets;
              withdrawn = d.withdrawn w;
            };
          };
          is = b.follows;
        }

    pub tick_well : Turns30 n stage (Ticked acts) new
    tick_well =
        let a = act_plans n stage v (file_shown new.port) q (seen v h.driver).entries well plans (due v h.driver) (calm_by (due v h.driver) refl well (may_end h on.sound)) (of_turn v h.driver.plan (done_ended v.issued h.driver.entries)) (due_seen v h.driver)
        (fields_turn v h.driver.plan (done_ended v.issued h.driver.entries)) in
        elim (subst (λ (p : Plan). Rests30 n stage p (due v h.driver) ⊎ Begins30 n stage p (due v h.driver)) (sym plan_now) a) [
          | inl r ↦ rests_then r
          | inr b ↦ begins_then b
        ]

  -- ---- the fault

  module _ (failed : is_faulty stage ≡ true) where
    reported_some : (o : Option ℕ) → h.port.errors.reported ≡ o → is_some o ≡ true
    reported_some None is = absurd (false≢true (sym (ap is_some (on.sound.ruled.faults.none_is_marked is n)) ∙ at.fault ∙ failed))
    reported_some (Some dev) is = refl

    due_of : (a : Act) → early_due v h.driver.plan ≡ Some a → (due v h.driver ≡ Some a) × (q ≡ h.driver.plan)
    unfolding turn_of
    due_of a first =
        let p : Plan = h.driver.plan in
        let whole : turn v h.driver ≡ plain_turn p (early_due v p) false =
        ap (λ (b : Bool). if b then plain_turn p (early_due v p) false else control_turn v (control_news v p) (control_seen v p) (done_ended v.issued h.driver.entries)) (ap is_some first) in
        (ap (λ (t : Turn). t.act) whole ∙ first, ap (λ (t : Turn). t.plan) whole)

    record Clearing30 : Type 0 where
      pub dev : ℕ
      pub is : due v h.driver ≡ Some (act.Clears dev)
      pub same : q ≡ h.driver.plan

    early_is : early_due v h.driver.plan ≡ option_or (restart_due h.driver.plan) (fault_due v)
    unfolding early_due
    early_is = ap (λ (b : Bool). option_or (if b then Some (act.Opens h.driver.plan.opened) else None) (option_or (restart_due h.driver.plan) (fault_due v))) (le-ltb h.driver.plan.opened 7 at.opened)

    by_stopped : (b : Bool) → v.stopped ≡ b → early_due v h.driver.plan ≡ fault_due v → Clearing30
    by_stopped true is early =
        let d = due_of act.Stops (early ∙ ap (λ (b : Bool). if b then Some act.Stops else option_map act.Clears v.faulty) is) in
        absurd (on.going.ticks act.Stops d.0)
    by_stopped false is early =
        let shown_is = faulty_shown h.port h.memory on.sound.ruled on.going.faultless (reported_some h.port.errors.reported refl) in
        let d = due_of (act.Clears shown_is.0) (early ∙ ap (λ (b : Bool). if b then Some act.Stops else option_map act.Clears v.faulty) is ∙ ap (option_map act.Clears) (ap (λ (s : Sight). s.faulty) (sight_is h on.sound) ∙ shown_is.1)) in
        record { dev = shown_is.0; is = d.0; same = d.1 }

    by_restart : (b : Bool) → nat_lt h.driver.plan.restarted 2 ≡ b → Clearing30
    by_restart true is =
        let d = due_of (act.Restarts h.driver.plan.restarted) (early_is ∙ ap (λ (b : Bool). option_or (if b then Some (act.Restarts h.driver.plan.restarted) else None) (fault_due v)) is) in
        absurd (on.going.ticks (act.Restarts h.driver.plan.restarted) d.0)
    by_restart false is = by_stopped v.stopped refl (early_is ∙ ap (λ (b : Bool). option_or (if b then Some (act.Restarts h.driver.plan.restarted) else None) (fault_due v)) is)

    clears_due : Clearing30
    clears_due = by_restart (nat_lt h.driver.plan.restarted 2) refl

    clears_plan : (c : Clearing30) → new.driver.plan ≡ cleared_plan c.dev (file_shown new.port) h.driver.plan
    unfolding after_tick plan_after
    clears_plan c =
        ap (λ (d : Driver). d.plan) does.driver ∙ ap (λ (x : Option Act). (acted x (file_shown new.port) (seen v h.driver)).plan) c.is
        ∙ ap (λ (p : Plan). cleared_plan c.dev (file_shown new.port) p) c.same

    clears_effects : (c : Clearing30) → ActsAll (clearing Switching c.dev) h.port h.memory new.port new.memory
    unfolding effects_of
    clears_effects c = subst (λ (x : Option Act). ActsAll (effects_due Switching x) h.port h.memory new.port new.memory) c.is (tick_acts h acts new does on.sound)

    may_clear : (c : Clearing30) → MayClear c.dev h.port
    may_clear c = (subst (λ (x : Option Act). MayEnd Switching x h.port) c.is (may_end h on.sound)).1

    -- the device's own fault
    own_plan : (c : Clearing30) → c.dev ≡ n → new.driver.plan ≡ recovering n (file_shown new.port) h.driver.plan
    own_plan c same =
        clears_plan c ∙ ap (λ (k : ℕ). cleared_plan k (file_shown new.port) h.driver.plan) same
        ∙ ap (λ (b : Bool). if b then recovering n (file_shown new.port) h.driver.plan else from_reset h.driver.plan) (lt-ltb n 15 low)

    own_device : (c : Clearing30) → c.dev ≡ n → device_at new.driver.plan n ≡ Recovering (recovery (device_at h.driver.plan n) (file_shown new.port))
    own_device c same =
        ap (λ (d : Driver). device_at d.plan n) does.driver
        ∙ ticks_serve.recovers v (file_shown new.port) h.driver n (c.is ∙ ap (λ (k : ℕ). Some (act.Clears k)) same) low on.served.bounded.devices
        ∙ ap (λ (p : Plan). Recovering (recovery (device_at p n) (file_shown new.port))) c.same

    own_view : (c : Clearing30) → c.dev ≡ n → view_of n new.port ≡ stopped_view (view_of n h.port)
    own_view c same =
        let may = may_clear c in
        clearing_own_view n h.port new.port h.memory new.memory (omega (arith, low)) may.switches (may.faulty ∙ ap (λ (k : ℕ). Some k) same)
        (subst (λ (k : ℕ). ActsAll (clearing Switching k) h.port h.memory new.port new.memory) same (clears_effects c))

    clears_own : (c : Clearing30) → c.dev ≡ n → IsAt30 n Cleared new
    clears_own c same =
        let view = own_view c same in
        record {
          opened = opened_now;
          fault = ap (λ (w : DeviceView). is_some w.fault) view;
          apart = λ w. record {
            plan = record {
              way = recovery (device_at h.driver.plan n) (file_shown new.port);
              device = own_device c same;
              away = λ x there. (unless_here n h.driver.plan.path x (ap (λ (p : Plan). p.path) (sym (own_plan c same)) ∙ there)).1;
            };
            slot = ap (λ (w : DeviceView). own_issue w.slots 30) view ∙ get_or-replicate 32 30 None None (omega arith);
            context = ap (λ (w : DeviceView). w.slots.context) view;
            resetting = ap (λ (w : DeviceView). w.state.resetting) view;
            withdrawn = λ s e there of_dev.
                ticks_serve.withdraws v (file_shown new.port) h.driver n s e (c.is ∙ ap (λ (k : ℕ). Some (act.Clears k)) same) (ap (λ (d : Driver). entry_at d.entries s) (sym does.driver) ∙ there) of_dev;
          };
        }

    other_view : (c : Clearing30) → c.dev ≢ n → view_of n new.port ≡ view_of n h.port
    other_view c other = clearing_view n c.dev h.port new.port h.memory new.memory (omega (arith, low)) other (may_clear c).faulty (clears_effects c)

    clears_other : (c : Clearing30) → c.dev ≢ n → IsAt30 n stage new
    clears_other c other = record {
      opened = opened_now;
      fault = ap (λ (w : DeviceView). is_some w.fault) (other_view c other) ∙ at.fault;
      apart = λ w. absurd (true≢false (sym failed ∙ w));
    }

    faulty_is : (s : Stage30) → is_faulty s ≡ true → s ≡ Faulty
    faulty_is Faulty e = refl
    faulty_is s e = absurd (false≢true e)

    pub tick_failed : Turns30 n stage (Ticked acts) new
    tick_failed =
        let c = clears_due in
        elim (cases_eq c.dev n) [
          | inl same ↦ record { next = Cleared; at = clears_own c same; is = subst (λ (s : Stage30). TicksOn30 s Cleared) (sym (faulty_is stage failed)) (inr refl) }
          | inr other ↦ record { next = stage; at = clears_other c other; is = subst (λ (s : Stage30). TicksOn30 s s) (sym (faulty_is stage failed)) (inl refl) }
        ]

    logged_by : (d : Device) (shown_file file : TaskFile) → Recovering (recovery d shown_file) ≡ Recovering (Log file) → (d ≡ Ready) × (file ≡ shown_file) × (has_bit shown_file.status 0 ≡ true)
    logged_by Ready shown_file file is = by_bit (has_bit shown_file.status 0) refl is
      where
        by_bit : (b : Bool) → has_bit shown_file.status 0 ≡ b → Recovering (if b then Log shown_file else Reset) ≡ Recovering (Log file) → (Ready ≡ Ready) × (file ≡ shown_file) × (has_bit shown_file.status 0 ≡ true)
        by_bit true e k = (refl, cc, e)
        by_bit false e k = cc
    logged_by other shown_file file is = cc

    pub logged_then : (file : TaskFile) → is_some (view_of n new.port).fault ≡ false → device_at new.driver.plan n ≡ Recovering (Log file) → IsLogged n h new file
    logged_then file well device =
        let c = clears_due in
        elim (cases_eq c.dev n) [
          | inl same ↦
              let l = logged_by (device_at h.driver.plan n) (file_shown new.port) file (sym (own_device c same) ∙ device) in
              record {
                ready = l.0;
                shown = l.1;
                failed = file_error n new.port (view_of n h.port).state
                    (clearing_shown n h.port new.port h.memory new.memory (omega (arith, low)) (may_clear c).switches (subst (λ (k : ℕ). ActsAll (clearing Switching k) h.port h.memory new.port new.memory) same (clears_effects c)))
                    (ap (λ (w : DeviceView). w.state) (own_view c same)) l.2;
              }
          | inr other ↦ absurd (false≢true (sym well ∙ ap (λ (w : DeviceView). is_some w.fault) (other_view c other) ∙ at.fault ∙ failed))
        ]

pub ticks_lead : (n : ℕ) → TicksLead30 n
ticks_lead n = record {
  turns = λ past old acted new stage low on does at flush there. elim (cases_Bool (is_faulty stage)) [
    | inl failed ↦ tick_failed n past old low on stage at acted new does flush failed
    | inr well ↦ tick_well n past old low on stage at acted new does flush well there
  ];
  logged = λ past old acted new file low on does at flush well device. logged_then n past old low on Faulty at acted new does flush refl file well device;
}
