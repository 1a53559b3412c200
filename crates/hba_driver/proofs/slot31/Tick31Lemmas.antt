-- For `orders_take_turns`. Each tick leads slot 31 from a stage to a stage.
use Rattle.std.proofs.Common.{◌≡◌, ◌≢◌, ℕ, ◌+◌, ◌<◌, ◌≤◌, ◌⊎◌, Bool, true, false, nat_lt, [], refl, sym, ◌∙◌, ap, subst, inl, inr, arith, Option}
use Rattle.std.proofs.{Common.{Some, None}, lemmas.Bool.{cases_Bool, cases_eq, false≢true, le-ltb, lt-ltb, true≢false}}
use Rattle.std.specs.{Prelude.{◌==◌, if◌then◌else◌, is_none, is_some}, Option.{option_map, option_or}}
use Rattle.fis_view.specs.declared.build.H2dFields.{H2dFields}
use Rattle.host_memory.specs.Memory.{Memory}
use Rattle.port_errors.specs.{Errors.{Errors, cause_of, cleared_device, named_by, shown as errors_shown}, declared.cause.Stop.Stop}
use Rattle.slots.specs.Slots.{Issue, has_bit, issue_at, lowest_below, match_some, own_issue}
use Rattle.slots.proofs.Door.{lowest_is}
use Rattle.hba_fbs.specs.Views.{Port}
use Rattle.hba_laws.specs.{Parts.DevicePart, Isolation.{Cleared, part_after}}
use Rattle.hba_laws.proofs.Door.{own_in, the}
use Rattle.hba_driver.specs.declared.{mode.Mode.TheVariants.Switching, order.Order.{Order, TheVariants.{ResetOn, ResetOff, AwaitSignature}}}
use Rattle.hba_driver.specs.{declared.{order.Order.TheVariants.{CountPorts, Enable, Open, Scan, Clear, Detect, Watch}, plan.Plan.Plan}, Seeing.Sight}
use Rattle.hba_driver.specs.{declared.turn.Act.Act, Drivers.Driver, Effects.{ActsAll, IsRuled, clearing, effects_of, order_effects, sending}}
use Rattle.hba_driver.specs.{HostTurns.{Does, Host, Ticked, sight_in}, Orders.{next_order, order_fields, scan_from}, Paths.{reads_page, stage_fields}}
use Rattle.hba_driver.specs.{Sights.{file_shown, sight_of}, Slot31.{Anew, Control, Goes31, IsAt31, IsIn, IsLow, IsUnsent, Fails, Kept, Looked}}
use Rattle.hba_driver.specs.Slot31.{Ordered, Resets, Rests, Signs, Stage31, StaysOn, TicksOn, Told, Waits, control_in, control_of, has_failed}
use Rattle.hba_driver.specs.{Slot31.{is_idle, is_off, is_pending, is_resetting}, Ticks.{acted, after_tick, cleared_plan, done_ended, due}}
use Rattle.hba_driver.specs.{Ticks.{effects_due, from_reset, plan_after, recovering, seen, turn}, declared.turn.Turn.Turn, Turns.control_news}
use Rattle.hba_driver.specs.{Turns.{control_seen, control_turn, early_due, fault_due, met_order, plain_turn, restart_due, turn_of}, Between.Due}
use Rattle.hba_driver.specs.Between.{IsGoing, IsUp, MayEnd, Waiting, beside}
use Rattle.hba_driver.specs.declared.turn.Act.TheVariants as act
use Rattle.hba_driver.proofs.slot31.ControlLemmas.{Issues31, Leaves15, Runs15, clearing_leaves, clearing_own, command_leaves, issuing_leaves}
use Rattle.hba_driver.proofs.{slot31.ControlLemmas.{leaves_then, nothing_leaves, order31}, ends.DoneLemmas.free_slot as slot_free}
use Rattle.hba_driver.proofs.{events.DrivenLemmas.tick_is, ticks.DueLemmas.goes_turn, issued.EndingLemmas.{faulty_reported, may_end}}
use Rattle.hba_driver.proofs.{events.EventLemmas.sound_beside, goes_on.GoingLemmas.{leaves, never_stops}, ticks.LifeLemmas.due_seen}
use Rattle.hba_driver.proofs.{events.OpenLemmas.up_of, issued.{ServedLemmas.seen_served, ServingLemmas.not_busy}, slot31.Slot31Lemmas.IsAllowed}
use Rattle.hba_driver.proofs.slot31.Slot31Lemmas.{IsOther, Looks, Orders, Stays, Ticks31, met_off, next_off, seen_free, seen_out, seen_unasked}
use Rattle.hba_driver.proofs.{slot31.Slot31Lemmas.ticks31, goes_on.StopLemmas.either, modes.SwitchLemmas.{sight_is, tick_acts}}
use Rattle.hba_driver.proofs.issued.TickingLemmas.{free_order, step_dev}

-- ---- PxFBS shows the device that is reported

pub faulty_shown : (port : Port) (memory : Memory) → IsRuled port → port.errors.port ≡ None → is_some port.errors.reported ≡ true → (dev : ℕ) × ((sight_of Switching port memory).faulty ≡ Some dev)
faulty_shown port memory ruled none some = by_reported port.errors.reported refl some
  where
    by_reported : (o : Option ℕ) → port.errors.reported ≡ o → is_some o ≡ true → (dev : ℕ) × ((sight_of Switching port memory).faulty ≡ Some dev)
    by_reported None is e = absurd (false≢true e)
    by_reported (Some dev) is e = (dev, faulty_reported port memory dev ruled none is)

-- ---- orders keep to fan-out ports

met_low : (v : Sight) (o : Order) → IsLow o → IsLow (met_order v o)
unfolding met_order
met_low v AwaitSignature h = either IsLow v.resetting AwaitSignature _ tt (either IsLow (v.answer == 0x96690101) CountPorts ResetOn tt tt)
met_low v Watch h = either IsLow v.notified Scan Watch tt tt
met_low v o h = h

scanned_low : (found from : ℕ) → IsLow (scan_from found from)
unfolding scan_from
scanned_low found from = by_port (lowest_below _ 15) (λ port is. (lowest_is _ 15 port is).below)
  where
    by_port : (o : Option ℕ) → ((port : ℕ) → o ≡ Some port → port < 15) → IsLow (match_some o Watch Clear)
    by_port None low = tt
    by_port (Some port) low = low port refl

next_low : (ports found : ℕ) (o : Order) → IsLow (next_order ports found o)
unfolding next_order
next_low ports found Enable = either IsLow (nat_lt 0 ports) (Open 0) Scan tt tt
next_low ports found (Open port) = either IsLow (nat_lt (port + 1) ports) (Open (port + 1)) Scan tt tt
next_low ports found Scan = scanned_low found 0
next_low ports found (Detect port) = scanned_low found (port + 1)
next_low ports found o = tt

-- while the signature is awaited nothing is issued
await_none : (o : Order) → o ≡ AwaitSignature → is_some (order_fields o) ≡ false
unfolding order_fields
await_none o is = ap (λ (x : Order). is_some (order_fields x)) is

-- whether a software reset is under way, and whether an answer was an error
abbrev flags31 : Stage31 → Bool × Bool
flags31 stage = (is_resetting stage, has_failed stage)

-- ---- order, asked and part tell the stage

pub in_same : (stage : Stage31) (o p : Order) (a b : Bool) (x y : DevicePart) → p ≡ o → b ≡ a → y ≡ x → IsIn stage o a x → IsIn stage p b y
in_same stage o p a b x y order asked part is =
    subst (λ (q : Order). IsIn stage q b y) (sym order) (subst (λ (c : Bool). IsIn stage o c y) (sym asked) (subst (IsIn stage o a) (sym part) is))

module _ (h : Host) (g : IsGoing h) (stage : Stage31) (at : IsAt31 stage h) where
  abbrev v : Sight
  v = sight_in h

  abbrev p : Plan
  p = h.driver.plan

  -- ---- what is due is allowed

  reported : (errors : Errors) (o : Option ℕ) (cause : Option Stop) (dev : ℕ) → cause ≡ None → named_by (errors_shown o cause) ≡ Some dev → o ≡ Some dev
  reported errors None cause dev none is = let bad : None ≡ Some dev = is in cc
  reported errors (Some x) None dev none is = is
  reported errors (Some x) (Some c) dev none is = cc

  not_control : has_failed stage ≡ false → (dev : ℕ) → cleared_device h.port.errors ≡ Some dev → dev < 15
  not_control well dev is =
      let on : h.port.errors.reported ≡ Some dev = reported h.port.errors h.port.errors.reported h.port.errors.port dev g.calm.faultless is in
      let marked = g.way.sound.ruled.faults.reported_is_marked dev on in
      let other : dev ≢ 15 = λ same. false≢true (sym well ∙ sym at.fault ∙ subst (λ (n : ℕ). is_some (cause_of h.port.errors n) ≡ true) same marked.1) in
      below dev marked.0 other
    where
      below : (n : ℕ) → n < 16 → n ≢ 15 → n < 15
      below n less other = omega (arith, less, other)

  cleared : (a : Option Act) → MayEnd Switching a h.port → (dev : ℕ) → a ≡ Some (act.Clears dev) → cleared_device h.port.errors ≡ Some dev
  cleared (Some (act.Clears d)) may dev is =
      let same : d ≡ dev = cc in
      may.1.faulty ∙ ap (λ (n : ℕ). Some n) same
  cleared other may dev is = cc

  cleared_due : (dev : ℕ) → due v h.driver ≡ Some (act.Clears dev) → cleared_device h.port.errors ≡ Some dev
  cleared_due dev is = cleared (due v h.driver) (may_end h g.way.sound) dev is

  allowed : has_failed stage ≡ false → IsAllowed (due v h.driver)
  allowed well = record { leaves = leaves h g.way.sound g.calm g.up; clears = λ dev is. not_control well dev (cleared_due dev is) }

  -- ---- the port is open

  module _ (least : 7 ≤ h.driver.plan.opened) where
    up : IsUp h.port.registers
    up = up_of h.driver.plan.opened h.driver.plan.restarted h.port.registers least (omega (arith, g.up)) g.way.sound.registers

    pub runs : Runs15 h.port h.memory
    runs = record {
      ruled = g.way.sound.ruled;
      sized = g.way.sound.memory;
      calm = g.calm;
      started = up.starts;
      area = g.way.sound.registers.area (omega (arith, least));
    }

    -- slot 31 is free while no order is asked
    free31 : (seen v h.driver).plan.asked ≡ false → issue_at h.port.slots 31 ≡ None
    free31 asked = elim (cases_Bool (is_some (issue_at h.port.slots 31))) [
      | inl busy ↦
          absurd (not_busy (seen v h.driver) (beside h.port h.memory) g.way.past 31 31 (sound_beside h.port h.memory g.way.sound.ruled g.way.sound.memory)
          (seen_served h.driver.plan.mode h.port h.memory h.driver g.way.past (sound_beside h.port h.memory g.way.sound.ruled g.way.sound.memory) g.way.served)
          (free_order (seen v h.driver) asked) busy refl)
      | inr idle ↦ by_none (issue_at h.port.slots 31) idle
    ]
      where
        by_none : (o : Option Issue) → is_some o ≡ false → o ≡ None
        by_none None e = refl
        by_none (Some i) e = absurd (true≢false e)

    step_leaves : (dev : ℕ) (o : Option H2dFields) (buffer : Bool) (new : Host) → dev < 15 → ActsAll (match_some o [] (λ f. sending Switching 30 dev f buffer)) h.port h.memory new.port new.memory
        → Leaves15 h.port h.memory new.port new.memory
    unfolding ActsAll
    step_leaves dev None buffer new low acts = nothing_leaves h.port new.port h.memory new.memory acts.0 acts.1 runs
    step_leaves dev (Some f) buffer new low acts =
        let stored : Leaves15 h.port h.memory acts.0 acts.1 = command_leaves 30 f buffer h.port acts.0 h.memory acts.1 refl runs acts.2 in
        leaves_then h.port acts.0 new.port h.memory acts.1 new.memory stored
        (issuing_leaves 30 dev false acts.0 new.port acts.1 new.memory low (subst (λ (q : Port). IsUp q.registers) (sym acts.2.0) up) stored.runs acts.4)

    -- an act that is not an order leaves the control port's part
    other_leaves : has_failed stage ≡ false → (a : Option Act) → due v h.driver ≡ a → IsOther a → Due v (seen v h.driver).plan (seen v h.driver).entries a → (new : Host) → ActsAll (effects_due Switching a) h.port h.memory new.port new.memory
        → Leaves15 h.port h.memory new.port new.memory
    unfolding effects_of ActsAll
    other_leaves well None is other known new acts = nothing_leaves h.port new.port h.memory new.memory acts.0 acts.1 runs
    other_leaves well (Some (act.Opens k)) is other known new acts =
        absurd (omega (arith, least, known.1, (goes_turn v h.driver.plan (done_ended v.issued h.driver.entries)).opened))
    other_leaves well (Some (act.Clears dev)) is other known new acts =
        let cleared_is : cleared_device h.port.errors ≡ Some dev = cleared_due dev is in
        clearing_leaves dev h.port new.port h.memory new.memory (λ same. far dev (not_control well dev cleared_is) same) cleared_is runs acts
      where
        far : (n : ℕ) → n < 15 → n ≡ 15 → ⊥
        far n less same = omega (arith, less, same)
    other_leaves well (Some (act.Orders o)) is other known new acts = absurd other
    other_leaves well (Some (act.Steps dev s)) is other known new acts =
        step_leaves dev (stage_fields dev s) (reads_page s) new
        (step_dev (seen v h.driver) dev s (seen_served h.driver.plan.mode h.port h.memory h.driver g.way.past (sound_beside h.port h.memory g.way.sound.ruled g.way.sound.memory) g.way.served).bounded.path known) acts
    other_leaves well (Some (act.Issues slot dev queued)) is other known new acts =
        let w : Waiting (seen v h.driver).plan (seen v h.driver).entries slot dev = known.0 in
        let bounds = (seen_served h.driver.plan.mode h.port h.memory h.driver g.way.past (sound_beside h.port h.memory g.way.sound.ruled g.way.sound.memory) g.way.served).bounded.entries slot w.entry w.stands in
        issuing_leaves slot dev queued h.port new.port h.memory new.memory (subst (λ (n : ℕ). n < 15) w.of_dev bounds.dev) up runs acts
    other_leaves well (Some rest) is other known new acts = absurd (leaves h g.way.sound g.calm g.up rest is)

    -- ---- what is seen of slot 31

    bit31 : (i : Issue) → own_issue (control_of h).view.slots 31 ≡ Some i → has_bit v.issued 31 ≡ true
    bit31 i there = elim (cases_Bool (has_bit v.issued 31)) [
      | inl on ↦ on
      | inr off ↦
          let none : issue_at h.port.slots 31 ≡ None = slot_free h.driver.plan.mode h.port h.memory 31 g.way.sound.ruled.table (omega arith) off in
          let bad : None ≡ Some i = sym none ∙ (own_in 15 31 h.port.slots i there).1 in
          cc
    ]

    resets_seen : v.resetting ≡ is_resetting stage
    unfolding sight_of
    resets_seen = at.resetting

    seen_low : IsLow (control_seen v p).order
    seen_low = elim (cases_Bool p.asked) [
      | inl asked ↦ elim (cases_Bool (has_bit v.issued 31)) [
        | inl on ↦ subst (λ (q : Plan). IsLow q.order) (sym (seen_out v p asked on)) at.low
        | inr off ↦ subst (λ (q : Plan). IsLow q.order) (sym (seen_free v p asked off)) (met_low v _ (next_low _ _ p.order))
      ]
      | inr free ↦ subst (λ (q : Plan). IsLow q.order) (sym (seen_unasked v p free)) (met_low v p.order at.low)
    ]

    met_reset : (o : Order) → o ≡ ResetOff → met_order v o ≡ ResetOff
    unfolding met_order
    met_reset o is = ap (met_order v) is

    next_on : (ports found : ℕ) (o : Order) → o ≡ ResetOn → met_order v (next_order ports found o) ≡ ResetOff
    unfolding met_order next_order
    next_on ports found o is = ap (λ (x : Order). met_order v (next_order ports found x)) is

    met_await : v.resetting ≡ true → (o : Order) → o ≡ AwaitSignature → met_order v o ≡ AwaitSignature
    unfolding met_order
    met_await on o is = ap (met_order v) is ∙ ap (λ (b : Bool). if b then AwaitSignature else if v.answer == 0x96690101 then CountPorts else ResetOn) on

    next_reset : v.resetting ≡ true → (ports found : ℕ) (o : Order) → o ≡ ResetOff → met_order v (next_order ports found o) ≡ AwaitSignature
    unfolding next_order
    next_reset on ports found o is = ap (λ (x : Order). met_order v (next_order ports found x)) is ∙ met_await on AwaitSignature refl

    -- ---- a tick that issues no order, in a plan that shows this

    -- stage, order and whether it is asked, as they are seen
    pub record Seen31 : Type 0 where
      pub next : Stage31
      pub stays : StaysOn stage next
      pub resets : flags31 next ≡ flags31 stage
      pub is : IsIn next (control_seen v p).order (control_seen v p).asked (control_of h)
      pub waits : next ≡ Waits → stage ≡ Waits
      pub stands : is_pending stage ≡ true → (control_seen v p).order ≡ p.order

    seen_same : control_seen v p ≡ p → Seen31
    seen_same same = record {
      next = stage;
      stays = inl refl;
      resets = refl;
      is = in_same stage p.order (control_seen v p).order p.asked (control_seen v p).asked (control_of h) (control_of h) (ap (λ (q : Plan). q.order) same) (ap (λ (q : Plan). q.asked) same) refl at.is;
      waits = λ w. w;
      stands = λ held. ap (λ (q : Plan). q.order) same;
    }

    -- where nothing is issued that was not answered
    seen_as : (q : Plan) (next : Stage31) → control_seen v p ≡ q → StaysOn stage next → flags31 next ≡ flags31 stage → IsIn next q.order q.asked (control_of h) → (next ≡ Waits → ⊥) → is_pending stage ≡ false → Seen31
    seen_as q next same stays resets is other free = record {
      next = next;
      stays = stays;
      resets = resets;
      is = subst (λ (x : Plan). IsIn next x.order x.asked (control_of h)) (sym same) is;
      waits = λ w. absurd (other w);
      stands = λ held. absurd (false≢true (sym free ∙ held));
    }

    by_stage : has_failed stage ≡ false → (s : Stage31) → stage ≡ s → IsIn s p.order p.asked (control_of h) → Seen31
    by_stage well Rests same is =
        seen_as (record p { order = met_order v p.order }) Rests (seen_unasked v p is.0) (inl (sym same)) (ap flags31 (sym same)) (is.0, met_off v p.order is.1) (λ w. absurd (cc)) (ap is_pending same)
    by_stage well Resets same (inl is) = elim (cases_Bool (has_bit v.issued 31)) [
      | inl on ↦ seen_same (seen_out v p is.1 on)
      | inr off ↦ seen_as _ Resets (seen_free v p is.1 off) (inl (sym same)) (ap flags31 (sym same)) (inr (next_on _ _ p.order is.0, inl refl)) (λ w. absurd (cc)) (ap is_pending same)
    ]
    by_stage well Resets same (inr (order, inl free)) =
        seen_as (record p { order = met_order v p.order }) Resets (seen_unasked v p free) (inl (sym same)) (ap flags31 (sym same)) (inr (met_reset p.order order, inl free)) (λ w. absurd (cc)) (ap is_pending same)
    by_stage well Resets same (inr (order, inr is)) = seen_same (seen_out v p is.0 (bit31 _ is.1.issued))
    by_stage well Signs same (free, inl is) = elim (cases_Bool (has_bit v.issued 31)) [
      | inl on ↦ seen_same (seen_out v p is.1 on)
      | inr off ↦
          seen_as _ Signs (seen_free v p is.1 off) (inl (sym same)) (ap flags31 (sym same)) (free, inr (next_reset (resets_seen ∙ ap is_resetting same) _ _ p.order is.0, refl)) (λ w. absurd (cc)) (ap is_pending same)
    ]
    by_stage well Signs same (free, inr is) =
        seen_as (record p { order = met_order v p.order }) Signs (seen_unasked v p is.1) (inl (sym same)) (ap flags31 (sym same)) (free, inr (met_await (resets_seen ∙ ap is_resetting same) p.order is.0, is.1)) (λ w. absurd (cc)) (ap is_pending same)
    by_stage well Told same is = elim (cases_Bool (has_bit v.issued 31)) [
      | inl on ↦ seen_same (seen_out v p is.0 on)
      | inr off ↦
          seen_as _ Rests (seen_free v p is.0 off) (inr (ap is_idle same, refl)) (ap flags31 (sym same)) (refl, met_off v _ (next_off _ _ p.order is.1)) (λ w. absurd (cc)) (ap is_pending same)
    ]
    by_stage well Fails same is = absurd (false≢true (sym well ∙ ap has_failed same))
    by_stage well other same is = seen_same (seen_out v p is.0 (bit31 _ is.2.issued))

    pub seen31 : has_failed stage ≡ false → Seen31
    seen31 well = by_stage well stage refl at.is

    -- ---- the tick

    -- what it leaves
    pub record Ticked31 (new : Host) : Type 0 where
      pub next : Stage31
      pub stays : TicksOn stage next
      pub now : IsAt31 next new
      pub clears : (n : ℕ) → due v h.driver ≡ Some (act.Orders (Clear n)) → (next ≡ Waits) × (new.driver.plan.order ≡ Clear n) × (is_idle stage ≡ true)
      pub stands : is_pending stage ≡ true → new.driver.plan.order ≡ p.order
      pub flushed : (n : ℕ) → next ≡ Waits → is_idle stage ≡ true → new.driver.plan.order ≡ Clear n → due v h.driver ≡ Some (act.Orders (Clear n))
      pub goes : Goes31 h new

    opened_then : (new : Host) (a : Bool) → Does h (Ticked a) new → h.driver.plan.opened ≡ new.driver.plan.opened
    opened_then new a does = elim (tick_is v (file_shown new.port) h.driver) [
      | inl first ↦ absurd (omega (arith, least, first.less))
      | inr going ↦ sym (ap (λ (d : Driver). d.plan.opened) does.driver ∙ going.opened_is)
    ]

    not_ordered : (n : ℕ) (a : Option Act) → IsOther a → a ≡ Some (act.Orders (Clear n)) → ⊥
    not_ordered n a other is = subst IsOther is other

    -- no order is issued
    tick_other : has_failed stage ≡ false → (new : Host) (a : Bool) → Does h (Ticked a) new → IsOther (due v h.driver) → (next : Stage31) (o : Order) (b : Bool) → StaysOn stage next → flags31 next ≡ flags31 stage → IsIn next o b (control_of h)
        → IsLow o → new.driver.plan.order ≡ o → new.driver.plan.asked ≡ b → (next ≡ Waits → stage ≡ Waits) → (is_pending stage ≡ true → o ≡ p.order) → ((control_of new).view ≡ (control_of h).view → Goes31 h new) → Ticked31 new
    tick_other well new a does other next o b stays resets is low order asked waits stands goes =
        let part : control_of new ≡ control_of h = (other_leaves well (due v h.driver) refl other (due_seen v h.driver) new (tick_acts h a new does g.way.sound)).same in
        record {
          next = next;
          stays = inl stays;
          now = record {
            fault = ap (λ (x : DevicePart). is_some x.view.fault) part ∙ at.fault ∙ sym (ap (λ (x : Bool × Bool). x.1) resets);
            context = ap (λ (x : DevicePart). x.view.slots.context) part ∙ at.context;
            resetting = ap (λ (x : DevicePart). x.view.state.resetting) part ∙ at.resetting ∙ sym (ap (λ (x : Bool × Bool). x.0) resets);
            is = in_same next o new.driver.plan.order b new.driver.plan.asked (control_of h) (control_of new) order asked part is;
            low = subst IsLow (sym order) low;
            closed = λ less. absurd (omega (arith, least, less, opened_then new a does));
          };
          clears = λ n due_is. absurd (not_ordered n (due v h.driver) other due_is);
          stands = λ held. order ∙ stands held;
          flushed = λ n w idle clear. absurd (false≢true (sym (ap is_idle (waits w)) ∙ idle));
          goes = goes (ap (λ (x : DevicePart). x.view) part);
        }

    -- one is
    tick_ordered : (new : Host) (a : Bool) → Does h (Ticked a) new → (o : Order) → due v h.driver ≡ Some (act.Orders o) → (seen v h.driver).plan.asked ≡ false → (fields : H2dFields) → order_fields o ≡ Some fields → IsLow o
        → new.driver.plan.order ≡ o → new.driver.plan.asked ≡ true → (next : Stage31) → StaysOn stage next → flags31 next ≡ flags31 stage → ((part : DevicePart) → IsUnsent o part → IsIn next o true part)
        → ((n : ℕ) → o ≡ Clear n → (next ≡ Waits) × (is_idle stage ≡ true)) → is_pending stage ≡ false → (IsUnsent o (control_of new) → Goes31 h new) → Ticked31 new
    unfolding effects_of
    tick_ordered new a does o due_is free fields are low order asked next stays resets is clears none goes =
        let acts : ActsAll (order_effects Switching o) h.port h.memory new.port new.memory = subst (λ (x : Option Act). ActsAll (effects_due Switching x) h.port h.memory new.port new.memory) due_is (tick_acts h a new does g.way.sound) in
        let i : Issues31 fields h.port h.memory new.port new.memory = order31 o fields h.port new.port h.memory new.memory are low up g.way.unarmed (free31 free) runs acts in
        let unsent : IsUnsent o (control_of new) = record { fields = fields; are = are; issued = i.issued; command = i.command; there = i.there; work = i.work; built = i.built } in
        record {
          next = next;
          stays = inl stays;
          now = record {
            fault = ap is_some i.fault ∙ at.fault ∙ sym (ap (λ (x : Bool × Bool). x.1) resets);
            context = i.context ∙ at.context;
            resetting = ap (λ s. s.resetting) i.state ∙ at.resetting ∙ sym (ap (λ (x : Bool × Bool). x.0) resets);
            is = in_same next o new.driver.plan.order true new.driver.plan.asked (control_of new) (control_of new) order asked refl (is (control_of new) unsent);
            low = subst IsLow (sym order) low;
            closed = λ less. absurd (omega (arith, least, less, opened_then new a does));
          };
          clears = λ n due_clear.
              let same : o ≡ Clear n = cc in
              let both = clears n same in
              (both.0, order ∙ same, both.1);
          stands = λ held. absurd (false≢true (sym none ∙ held));
          flushed = λ n w idle clear. due_is ∙ ap (λ (x : Order). Some (act.Orders x)) (sym order ∙ clear);
          goes = goes unsent;
        }

    -- which stage follows where an order is issued that was seen to be due
    record Then31 (o : Order) : Type 0 where
      pub next : Stage31
      pub stays : StaysOn stage next
      pub resets : flags31 next ≡ flags31 stage
      pub is : (part : DevicePart) → IsUnsent o part → IsIn next o true part
      pub clears : (n : ℕ) → o ≡ Clear n → (next ≡ Waits) × (is_idle stage ≡ true)
      pub free : is_pending stage ≡ false

    off_then : (o : Order) → o ≡ ResetOff → stage ≡ Resets → Then31 o
    off_then o is same = record {
      next = Resets;
      stays = inl (sym same);
      resets = ap flags31 (sym same);
      is = λ part unsent. inr (is, inr (refl, unsent));
      clears = λ n clear. let bad : ResetOff ≡ Clear n = sym is ∙ clear in cc;
      free = ap is_pending same;
    }

    idle_free : (s : Stage31) → is_idle s ≡ true → is_pending s ≡ false
    idle_free Rests e = refl
    idle_free Told e = refl
    idle_free s e = absurd (false≢true e)

    wait_then : (o : Order) → is_off o ≡ false → is_idle stage ≡ true → flags31 stage ≡ (false, false) → Then31 o
    wait_then o is idle quiet = record {
      next = Waits;
      stays = inr (idle, refl);
      resets = sym quiet;
      is = λ part unsent. (refl, is, unsent);
      clears = λ n clear. (refl, idle);
      free = idle_free stage idle;
    }

    -- an order that is seen unasked
    then31 : has_failed stage ≡ false → (s : Seen31) (o : Order) → (control_seen v p).asked ≡ false → (control_seen v p).order ≡ o → is_some (order_fields o) ≡ true → Then31 o
    then31 well s o asked order fields = by_next s.next refl (in_same s.next (control_seen v p).order o (control_seen v p).asked false (control_of h) (control_of h) (sym order) (sym asked) refl s.is)
      where
        from : (n : Stage31) → s.next ≡ n → StaysOn stage n
        from n same = subst (StaysOn stage) same s.stays

        idle_of : StaysOn stage Rests → (is_idle stage ≡ true) × (flags31 stage ≡ (false, false))
        idle_of (inl same) = (ap is_idle (sym same), ap flags31 (sym same))
        idle_of (inr h) = (h.0, quiet_idle stage h.0)
          where
            quiet_idle : (x : Stage31) → is_idle x ≡ true → flags31 x ≡ (false, false)
            quiet_idle Rests e = refl
            quiet_idle Told e = refl
            quiet_idle other e = absurd (false≢true e)

        resets_of : StaysOn stage Resets → stage ≡ Resets
        resets_of (inl same) = sym same
        resets_of (inr h) = absurd (false≢true h.1)

        no_fields : o ≡ AwaitSignature → Then31 o
        no_fields is = absurd (false≢true (sym (await_none o is) ∙ fields))

        by_next : (n : Stage31) → s.next ≡ n → IsIn n o false (control_of h) → Then31 o
        by_next Rests same is = let both = idle_of (from Rests same) in wait_then o is.1 both.0 both.1
        by_next Resets same (inl is) = absurd (false≢true is.1)
        by_next Resets same (inr is) = off_then o is.0 (resets_of (from Resets same))
        by_next Signs same (free, inl is) = absurd (false≢true is.1)
        by_next Signs same (free, inr is) = no_fields is.0
        by_next Fails same is = absurd (false≢true (sym well ∙ sym (ap (λ (x : Bool × Bool). x.1) s.resets) ∙ ap has_failed same))
        by_next other same is = absurd (false≢true is.0)

    tick_by : has_failed stage ≡ false → (new : Host) (a : Bool) → Does h (Ticked a) new → Ticks31 v p new.driver.plan (due v h.driver) → Ticked31 new
    tick_by well new a does (Stays other same) =
        tick_other well new a does other stage p.order p.asked (inl refl) refl at.is at.low (ap (λ (c : Control). c.order) same) (ap (λ (c : Control). c.asked) same) (λ w. w) (λ held. refl) (Kept same)
    tick_by well new a does (Looks other same) =
        let s : Seen31 = seen31 well in
        tick_other well new a does other s.next (control_seen v p).order (control_seen v p).asked s.stays s.resets s.is seen_low (ap (λ (c : Control). c.order) same) (ap (λ (c : Control). c.asked) same) s.waits s.stands (Looked same)
    tick_by well new a does (Orders o due_is free order fields same) =
        let t : Then31 o = then31 well (seen31 well) o free order fields in
        let f = the (order_fields o) fields in
        tick_ordered new a does o due_is (free_seen o due_is (due_seen v h.driver)) f.0 f.1 (subst IsLow order seen_low) (ap (λ (c : Control). c.order) same ∙ order) (ap (λ (c : Control). c.asked) same) t.next t.stays t.resets t.is t.clears t.free
        (λ unsent. Ordered (at.fault ∙ well) free same (subst (λ (x : Order). IsUnsent x (control_of new)) (sym (ap (λ (c : Control). c.order) same ∙ order)) unsent))
      where
        free_seen : (x : Order) → due v h.driver ≡ Some (act.Orders x) → Due v (seen v h.driver).plan (seen v h.driver).entries (due v h.driver) → (seen v h.driver).plan.asked ≡ false
        free_seen x is known = subst (λ (y : Option Act). Due v (seen v h.driver).plan (seen v h.driver).entries y) is known

    -- ---- after an error

    faulty_on : (o : Option ℕ) → h.port.errors.reported ≡ o → is_some (cause_of h.port.errors 15) ≡ true → is_some o ≡ true
    faulty_on None is marked = absurd (false≢true (sym (ap is_some (g.way.sound.ruled.faults.none_is_marked is 15)) ∙ marked))
    faulty_on (Some dev) is marked = refl

    -- the clearing of the control port's own error
    own_cleared : (new : Host) → ActsAll (clearing Switching 15) h.port h.memory new.port new.memory → cleared_device h.port.errors ≡ Some 15 → control_of new ≡ part_after 15 (control_of h) Cleared
    own_cleared new acts is = clearing_own h.port new.port h.memory new.memory is up.switches runs acts

    fails_tick : (new : Host) (a : Bool) → Does h (Ticked a) new → stage ≡ Fails → (act_is : Option Act) → due v h.driver ≡ act_is → Due v (seen v h.driver).plan (seen v h.driver).entries act_is
        → (seen v h.driver).plan ≡ p → (dev : ℕ) → act_is ≡ Some (act.Clears dev) → Ticked31 new
    unfolding effects_of after_tick plan_after
    fails_tick new a does fails act_is due_is known plan dev clears =
        let is : due v h.driver ≡ Some (act.Clears dev) = due_is ∙ clears in
        let cleared_is : cleared_device h.port.errors ≡ Some dev = cleared_due dev is in
        let acts : ActsAll (clearing Switching dev) h.port h.memory new.port new.memory = subst (λ (x : Option Act). ActsAll (effects_due Switching x) h.port h.memory new.port new.memory) is (tick_acts h a new does g.way.sound) in
        let after : new.driver.plan ≡ cleared_plan dev (file_shown new.port) p =
        ap (λ (d : Driver). d.plan) does.driver ∙ ap (λ (x : Option Act). (acted x (file_shown new.port) (seen v h.driver)).plan) is ∙ ap (λ (q : Plan). cleared_plan dev (file_shown new.port) q) plan in
        elim (cases_eq dev 15) [
          | inl own ↦ record {
            next = Rests;
            stays = inr (fails, refl);
            now =
                let part : control_of new ≡ part_after 15 (control_of h) Cleared =
                own_cleared new (subst (λ (n : ℕ). ActsAll (clearing Switching n) h.port h.memory new.port new.memory) own acts) (cleared_is ∙ ap (λ (n : ℕ). Some n) own) in
                let reset : new.driver.plan ≡ from_reset p = after ∙ ap (λ (n : ℕ). cleared_plan n (file_shown new.port) p) own in
                record {
                  fault = ap (λ (x : DevicePart). is_some x.view.fault) part;
                  context = ap (λ (x : DevicePart). x.view.slots.context) part;
                  resetting = ap (λ (x : DevicePart). x.view.state.resetting) part;
                  is = (ap (λ (q : Plan). q.asked) reset, ap (λ (q : Plan). is_off q.order) reset);
                  low = subst (λ (q : Plan). IsLow q.order) (sym reset) tt;
                  closed = λ less. refl;
                };
            clears = λ n order. let bad : Some (act.Clears dev) ≡ Some (act.Orders (Clear n)) = sym is ∙ order in cc;
            stands = λ held. absurd (false≢true (sym (ap is_pending fails) ∙ held));
            flushed = λ n w idle clear. absurd (false≢true (sym (ap is_idle fails) ∙ idle));
            goes =
                let reset : new.driver.plan ≡ from_reset p = after ∙ ap (λ (n : ℕ). cleared_plan n (file_shown new.port) p) own in
                Anew (ap (λ (q : Plan). q.order) reset) (ap (λ (q : Plan). q.asked) reset);
          }
          | inr other ↦ record {
            next = Fails;
            stays = inl (inl (sym fails));
            now =
                let part : control_of new ≡ control_of h = (clearing_leaves dev h.port new.port h.memory new.memory other cleared_is runs acts).same in
                let low : nat_lt dev 15 ≡ true = low_of dev (may_low dev is (may_end h g.way.sound)) other in
                let same : new.driver.plan ≡ recovering dev (file_shown new.port) p = after ∙ ap (λ (b : Bool). if b then recovering dev (file_shown new.port) p else from_reset p) low in
                record {
                  fault = ap (λ (x : DevicePart). is_some x.view.fault) part ∙ at.fault ∙ ap has_failed fails;
                  context = ap (λ (x : DevicePart). x.view.slots.context) part ∙ at.context;
                  resetting = ap (λ (x : DevicePart). x.view.state.resetting) part ∙ at.resetting ∙ ap is_resetting fails;
                  is = tt;
                  low = subst (λ (q : Plan). IsLow q.order) (sym same) at.low;
                  closed = λ less. absurd (omega (arith, least, less, opened_then new a does));
                };
            clears = λ n order. let bad : Some (act.Clears dev) ≡ Some (act.Orders (Clear n)) = sym is ∙ order in cc;
            stands = λ held. absurd (false≢true (sym (ap is_pending fails) ∙ held));
            flushed = λ n w idle clear. absurd (false≢true (sym (ap is_idle fails) ∙ idle));
            goes =
                let low : nat_lt dev 15 ≡ true = low_of dev (may_low dev is (may_end h g.way.sound)) other in
                let same : new.driver.plan ≡ recovering dev (file_shown new.port) p = after ∙ ap (λ (b : Bool). if b then recovering dev (file_shown new.port) p else from_reset p) low in
                Kept (ap control_in same) (ap (λ (x : DevicePart). x.view) (clearing_leaves dev h.port new.port h.memory new.memory other cleared_is runs acts).same);
          }
        ]
      where
        low_of : (n : ℕ) → n < 16 → n ≢ 15 → nat_lt n 15 ≡ true
        low_of n below other = lt-ltb n 15 (omega (arith, below, other))

        may_low : (n : ℕ) → due v h.driver ≡ Some (act.Clears n) → MayEnd Switching (due v h.driver) h.port → n < 16
        may_low n is may = (subst (λ (x : Option Act). MayEnd Switching x h.port) is may).1.below

    -- the fault of a device comes before all else
    failed_due : stage ≡ Fails → (dev : ℕ) × (due v h.driver ≡ Some (act.Clears dev)) × ((seen v h.driver).plan ≡ p)
    unfolding early_due turn_of
    failed_due fails =
        let marked : is_some (cause_of h.port.errors 15) ≡ true = at.fault ∙ ap has_failed fails in
        let shown_is = faulty_shown h.port h.memory g.way.sound.ruled g.calm.faultless (faulty_on h.port.errors.reported refl marked) in
        let first : early_due v p ≡ Some (act.Clears shown_is.0) =
        ap (λ (b : Bool). option_or (if b then Some (act.Opens p.opened) else None) (option_or (restart_due p) (fault_due v))) (le-ltb p.opened 7 least)
        ∙ ap (λ (b : Bool). option_or (if b then Some (act.Restarts p.restarted) else None) (fault_due v)) (le-ltb p.restarted 2 (omega (arith, g.up)))
        ∙ ap (λ (b : Bool). if b then Some act.Stops else option_map act.Clears v.faulty) (never_stops h g.way.sound g.calm)
        ∙ ap (option_map act.Clears) (ap (λ (s : Sight). s.faulty) (sight_is h g.way.sound) ∙ shown_is.1) in
        let whole : turn v h.driver ≡ plain_turn p (early_due v p) false =
        ap (λ (b : Bool). if b then plain_turn p (early_due v p) false else control_turn v (control_news v p) (control_seen v p) (done_ended v.issued h.driver.entries)) (ap is_some first) in
        (shown_is.0, ap (λ (t : Turn). t.act) whole ∙ first, ap (λ (t : Turn). t.plan) whole)

    tick_failed : (new : Host) (a : Bool) → Does h (Ticked a) new → stage ≡ Fails → Ticked31 new
    tick_failed new a does fails =
        let f = failed_due fails in
        fails_tick new a does fails (due v h.driver) refl (due_seen v h.driver) f.2 f.0 f.1

    fails_is : (s : Stage31) → has_failed s ≡ true → s ≡ Fails
    fails_is Fails e = refl
    fails_is s e = absurd (false≢true e)

    pub tick31 : (new : Host) (a : Bool) → Does h (Ticked a) new → Ticked31 new
    tick31 new a does = elim (cases_Bool (has_failed stage)) [
      | inl failed ↦ tick_failed new a does (fails_is stage failed)
      | inr well ↦ tick_by well new a does (subst (λ (d : Driver). Ticks31 v p d.plan (due v h.driver)) (sym does.driver) (ticks31 v (file_shown new.port) h.driver (allowed well)))
    ]

    -- ---- what it leaves of the control port

    -- an order that is issued stands in slot 31
    pub order_stands : (new : Host) (a : Bool) → Does h (Ticked a) new → (o : Order) → due v h.driver ≡ Some (act.Orders o) → (control_seen v p).order ≡ o → is_some (order_fields o) ≡ true → is_none (own_issue (control_of new).view.slots 31) ≡ false
    unfolding effects_of
    order_stands new a does o due_is order some =
        let fields = the (order_fields o) some in
        let acts : ActsAll (order_effects Switching o) h.port h.memory new.port new.memory = subst (λ (x : Option Act). ActsAll (effects_due Switching x) h.port h.memory new.port new.memory) due_is (tick_acts h a new does g.way.sound) in
        let free : (seen v h.driver).plan.asked ≡ false = subst (λ (x : Option Act). Due v (seen v h.driver).plan (seen v h.driver).entries x) due_is (due_seen v h.driver) in
        let i : Issues31 fields.0 h.port h.memory new.port new.memory = order31 o fields.0 h.port new.port h.memory new.memory fields.1 (subst IsLow order seen_low) up g.way.unarmed (free31 free) runs acts in
        ap is_none i.issued

    -- an act that is no order leaves its part, or slot 31 begins anew
    pub other_stays : (new : Host) (a : Bool) → Does h (Ticked a) new → IsOther (due v h.driver) → (control_of new ≡ control_of h) ⊎ (new.driver.plan.order ≡ ResetOn)
    unfolding effects_of after_tick plan_after
    other_stays new a does other = elim (cases_Bool (has_failed stage)) [
      | inl failed ↦
          let f = failed_due (fails_is stage failed) in
          let acts : ActsAll (clearing Switching f.0) h.port h.memory new.port new.memory = subst (λ (x : Option Act). ActsAll (effects_due Switching x) h.port h.memory new.port new.memory) f.1 (tick_acts h a new does g.way.sound) in
          let after : new.driver.plan ≡ cleared_plan f.0 (file_shown new.port) p =
          ap (λ (d : Driver). d.plan) does.driver ∙ ap (λ (x : Option Act). (acted x (file_shown new.port) (seen v h.driver)).plan) f.1 ∙ ap (λ (q : Plan). cleared_plan f.0 (file_shown new.port) q) f.2 in
          elim (cases_eq f.0 15) [
            | inl own ↦ inr (ap (λ (q : Plan). q.order) (after ∙ ap (λ (n : ℕ). cleared_plan n (file_shown new.port) p) own))
            | inr far ↦ inl (clearing_leaves f.0 h.port new.port h.memory new.memory far (cleared_due f.0 f.1) runs acts).same
          ]
      | inr well ↦ inl (other_leaves well (due v h.driver) refl other (due_seen v h.driver) new (tick_acts h a new does g.way.sound)).same
    ]
