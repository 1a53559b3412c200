-- For `orders_take_turns`. Each turn of a host leads slot 31 from a stage to a stage.
use Rattle.std.proofs.Common.{◌≡◌, ℕ, zero, suc, ◌+◌, ◌<◌, ◌≤◌, ◌==◌, Bool, true, false, ◌&&◌, List, [], ◌∷◌, ◌++◌, refl, sym, ◌∙◌, ap, subst, inl}
use Rattle.std.proofs.{Common.{inr, arith, Option, Some, None}, lemmas.Bool.{cases_eq, cases_lt, eq-eqb, false≢true, lt-ltb, ne_eqb, true≢false}}
use Rattle.std.specs.{Prelude.{if◌then◌else◌, not, is_none, is_some, ◌||◌}, List.list_any}
use Rattle.fis_view.specs.Frames.{Stamped}
use Rattle.host_memory.specs.Memory.{Memory}
use Rattle.slots.specs.Slots.{match_some, own_issue, slots_of}
use Rattle.hba_fbs.specs.{declared.report.TakeReport.TakeReport, Sending.{Gives, Nothing, Outgoing, data_due, next_receiver, next_to_send, order_due}}
use Rattle.hba_fbs.specs.{Sending.outgoing, Taking.port_of, declared.register.Register.{Register, TheVariants.{Clb, Clbu, Fb, Fbu, Cmd, Fbs}}}
use Rattle.hba_fbs.specs.{Offsets.register_at, Views.{DeviceView, Port, last_command, stopped_view, view_of}, Writing.view_after}
use Rattle.hba_laws.specs.Hosts as event
use Rattle.hba_laws.specs.{Isolation.{OwnEvent, Went, own_events, part_after_all}, Parts.commands_of}
use Rattle.hba_driver.specs.declared.{effect.Effect.Effect, mode.Mode.{Mode, TheVariants.Switching}, order.Order.TheVariants.Clear, plan.Plan.Plan}
use Rattle.hba_driver.specs.{declared.turn.Act.Act, Drivers.Driver, Effects.{Acts, ActsAll, effects_of, emptying, opening_write, order_command}}
use Rattle.hba_driver.specs.{Effects.order_effects, Events.{opening_host, shared_by}, Going.{IsOfControl, IsReport}, HostTurns.{Does, DoesAll, Host}}
use Rattle.hba_driver.specs.{HostTurns.{HostTurn, Polled, Pushed, Put, Submitted, Ticked, Took, sight_in}, Sights.file_shown, Slot31.{Asks, Comes31}}
use Rattle.hba_driver.specs.Slot31.{IsAt31, IsIn, IsLow, Kept, MayBe31, MayCome31, OrdersTakeTurns, Rests, Signs, Stage31, Turns31, control_in}
use Rattle.hba_driver.specs.{Slot31.{control_of, has_failed, is_off, is_pending, is_resetting, orders_clear}, Laws.flushes, Ticks.{done_ended, due}}
use Rattle.hba_driver.specs.{Ticks.effects_due, Between.{IsGoing, IsOfControlIn, Opening, Runs}}
use Rattle.hba_driver.specs.declared.effect.Effect.TheVariants as effect
use Rattle.hba_driver.specs.declared.turn.Act.TheVariants as act
use Rattle.hba_driver.proofs.{slot31.ControlLemmas.part_event, events.DrivenLemmas.{tick_is, tried_at}, ticks.DueLemmas.runs_turn}
use Rattle.hba_driver.proofs.{goes_on.{GoingLemmas.{going_opens, going_turn, stops_none}, PageLemmas.poll_plan}, slot31.Push31Lemmas.Pushed31}
use Rattle.hba_driver.proofs.{slot31.{Push31Lemmas.push31, Tick31Lemmas.tick31, Took31Lemmas.{Alike31, Took31}}, ticks.ServeLemmas.act_clears}
use Rattle.hba_driver.proofs.slot31.Took31Lemmas.{alike_in, going_runs, kept31, took31, took_other}

-- ---- turns that leave port and plan

same_port31 : (stage : Stage31) (old new : Host) → new.port ≡ old.port → new.driver.plan ≡ old.driver.plan → IsAt31 stage old → IsAt31 stage new
same_port31 stage old new port plan at =
    let like : Alike31 (control_of old) (control_of new) = record {
      issue = ap (λ (p : Port). own_issue (slots_of 15 p.slots) 31) port;
      command = λ there. ap (λ (p : Port). commands_of (slots_of 15 p.slots) (last_command p.commands) 31) port;
    } in
    record {
      fault = ap (λ (p : Port). is_some (view_of 15 p).fault) port ∙ at.fault;
      context = ap (λ (p : Port). (view_of 15 p).slots.context) port ∙ at.context;
      resetting = ap (λ (p : Port). (view_of 15 p).state.resetting) port ∙ at.resetting;
      is = alike_in stage new.driver.plan.order new.driver.plan.asked (control_of old) (control_of new) like (subst (λ (q : Plan). IsIn stage q.order q.asked (control_of old)) (sym plan) at.is);
      low = subst (λ (q : Plan). IsLow q.order) (sym plan) at.low;
      closed = λ less. at.closed (subst (λ (q : Plan). q.opened < 7) plan less);
    }

-- ---- a frame goes out

not_running : (started : Bool) (b : Bool) → started ≡ false → (started && b) ≡ false
not_running false b h = refl
not_running true b h = absurd (true≢false h)

-- a port that is not open gives none
pub closed_gives : (old : Host) → IsGoing old → old.driver.plan.opened < 7 → outgoing old.port old.memory ≡ Nothing
closed_gives old g less =
    ap (λ (b : Bool). if not b then Nothing else match_some (next_receiver old.port) (match_some (next_to_send old.port) Nothing (order_due old.port)) (data_due old.port old.memory))
    (not_running old.port.registers.started (is_none old.port.errors.port) (g.way.sound.registers.stopped (omega (arith, less))))

module _ (old : Host) (g : IsGoing old) (frame : Option Stamped) (new : Host) (n : IsGoing new) (does : Does old (Pushed frame) new) (stage : Stage31) (at : IsAt31 stage old) where
  -- nothing goes to the control port
  push_other : own_events 15 (shared_by old) (event.Gave frame) ≡ [] → IsAt31 stage new
  push_other none = elim (cases_lt old.driver.plan.opened 7) [
    | inl less ↦
        let gives = subst (λ (o : Outgoing). Gives o old.port old.memory frame new.port) (closed_gives old g less) does.gives in
        same_port31 stage old new gives.1 (ap (λ (d : Driver). d.plan) does.driver) at
    | inr least ↦
        kept31 stage old new does.driver
        (part_event old.port new.port old.memory new.memory (event.Gave frame) (going_runs old g least) (going_runs new n (subst (λ (d : Driver). 7 ≤ d.plan.opened) (sym does.driver) least)) (does.gives, does.memory) (stops_none old g).gives
        ∙ ap (λ (es : List OwnEvent). part_after_all 15 (control_of old) (es ++ [])) none) at
  ]

push_turn : (old : Host) → IsGoing old → (frame : Option Stamped) (new : Host) → IsGoing new → Does old (Pushed frame) new → (stage : Stage31) → IsAt31 stage old → Turns31 stage old (Pushed frame) new
push_turn old g None new n does stage at = record { next = stage; at = push_other old g None new n does stage at refl; is = refl; stands = tt }
push_turn old g (Some f) new n does stage at = elim (cases_eq f.stamp.port 15) [
  | inl own ↦
      let p : Pushed31 stage old f new = push31 old g stage at f new does own in
      record { next = p.next; at = p.at; is = (λ same. record { unsent = p.unsent; bytes = p.bytes; follows = p.follows }, λ other. absurd (other own)); stands = tt }
  | inr other ↦ record {
    next = stage;
    at = push_other old g (Some f) new n does stage at (ap (λ (b : Bool). if b then Went ∷ [] else []) (ne_eqb f.stamp.port 15 other));
    is = (λ own. absurd (other own), λ not_own. refl);
    stands = tt;
  }
]

-- ---- a frame comes

-- what may come is a FIS of the control port
of_control : (stage : Stage31) (frame : List ℕ) → MayCome31 stage frame → IsReport frame
of_control Signs frame (inl is) = inr is.viewed
of_control Signs frame (inr is) = inl is.viewed
of_control Asks frame (inl is) = inr is.viewed
of_control Asks frame (inr is) = inl is.viewed
of_control other frame is = inr is.viewed

took_turn : (old : Host) → IsGoing old → (frame : List ℕ) (report : TakeReport) (new : Host) → IsGoing new → Does old (Took frame report) new → IsOfControl frame → (stage : Stage31) → IsAt31 stage old
    → (port_of frame ≡ 15 → MayCome31 stage frame) → Turns31 stage old (Took frame report) new
took_turn old g frame report new n does of stage at may = elim (cases_eq (port_of frame) 15) [
  | inl own ↦
      let t : Took31 stage frame new = took31 old g new n frame report does of own stage at (may own) in
      record { next = t.next; at = t.at; is = (λ same. t.follows, λ other. absurd (other own)); stands = t.waits }
  | inr other ↦ record { next = stage; at = took_other old g new n frame report does of stage other at; is = (λ own. absurd (other own), λ not_own. refl); stands = λ w. w }
]

-- ---- a tick

-- a write that opens the port leaves the view
open_write : (g : Register) (offset value : ℕ) (old new : Port) (before after : Memory) → register_at offset ≡ Some g → view_after g old before value 15 ≡ view_of 15 old → Acts (effect.Writes offset value) old before new after
    → view_of 15 new ≡ view_of 15 old
open_write g offset value old new before after at same acts = elim (tried_at g offset value old before new at acts.0) [
  | inl taken ↦ taken.accepts.views 15 (omega arith) ∙ same
  | inr refused ↦ ap (view_of 15) refused.stays
]

falls_not : (started b : Bool) (x y : DeviceView) → started ≡ false → (if started && b then x else y) ≡ y
falls_not false b x y h = refl
falls_not true b x y h = absurd (true≢false h)

opens_view : (k : ℕ) → k < 7 → (old new : Port) (before after : Memory) → old.registers.started ≡ false → Acts (opening_write Switching k) old before new after → view_of 15 new ≡ view_of 15 old
unfolding opening_write register_at view_after
opens_view zero less old new before after off acts = open_write Clb 0 0 old new before after refl refl acts
opens_view (suc zero) less old new before after off acts = open_write Clbu 4 0 old new before after refl refl acts
opens_view (suc (suc zero)) less old new before after off acts = open_write Fb 8 4096 old new before after refl refl acts
opens_view (suc (suc (suc zero))) less old new before after off acts = open_write Fbu 12 0 old new before after refl refl acts
opens_view (suc (suc (suc (suc zero)))) less old new before after off acts = open_write Fbs 64 1 old new before after refl refl acts
opens_view (suc (suc (suc (suc (suc zero))))) less old new before after off acts =
    open_write Cmd 24 16 old new before after refl (falls_not old.registers.started _ (stopped_view (view_of 15 old)) (view_of 15 old) off) acts
opens_view (suc (suc (suc (suc (suc (suc zero)))))) less old new before after off acts =
    open_write Cmd 24 131089 old new before after refl (falls_not old.registers.started _ (stopped_view (view_of 15 old)) (view_of 15 old) off) acts
opens_view (suc (suc (suc (suc (suc (suc (suc k))))))) less old new before after off acts = absurd (omega (arith, less))

opening_view : (k : ℕ) → k < 7 → (old new : Port) (before after : Memory) → old.registers.started ≡ false → ActsAll (opening_write Switching k ∷ []) old before new after → view_of 15 new ≡ view_of 15 old
unfolding ActsAll
opening_view k less old new before after off acts = ap (view_of 15) acts.4.0 ∙ opens_view k less old acts.0 before acts.1 off acts.2

module _ (old : Host) (g : IsGoing old) (stage : Stage31) (at : IsAt31 stage old) (acted : Bool) (new : Host) (does : Does old (Ticked acted) new) where
  -- what is due if a device is flushed
  clears_due : (n : ℕ) → orders_clear n old ≡ true → due (sight_in old) old.driver ≡ Some (act.Orders (Clear n))
  clears_due n flushed = act_clears old.driver.plan.mode n (due (sight_in old) old.driver) flushed

  first_any : (b c : Bool) → b ≡ true → (b || c) ≡ true
  first_any true c e = refl
  first_any false c e = absurd (false≢true e)

  -- if its port is cleared, the device is flushed
  flushed_by : (n : ℕ) → due (sight_in old) old.driver ≡ Some (act.Orders (Clear n)) → orders_clear n old ≡ true
  unfolding effects_of order_effects
  flushed_by n is = ap (λ (a : Option Act). list_any (flushes n) (effects_due old.driver.plan.mode a)) is
      ∙ first_any (n == n) (list_any (flushes n) (emptying old.driver.plan.mode n ++ order_command old.driver.plan.mode (Clear n))) (eq-eqb n n refl)

  never_closed : old.driver.plan.opened < 7 → (n : ℕ) → orders_clear n old ≡ true → ⊥
  never_closed less n flushed =
      let runs = subst (Runs old.driver.plan) (clears_due n flushed) (runs_turn (sight_in old) old.driver.plan (done_ended (sight_in old).issued old.driver.entries)) in
      false≢true (sym runs.0 ∙ lt-ltb old.driver.plan.opened 7 less)

  closed_tick : old.driver.plan.opened < 7 → (first : Opening (sight_in old) (file_shown new.port) old.driver) → Turns31 stage old (Ticked acted) new
  closed_tick less first =
      let rests : stage ≡ Rests = at.closed less in
      let same : view_of 15 new.port ≡ view_of 15 old.port =
      opening_view old.driver.plan.opened less old.port new.port old.memory new.memory (g.way.sound.registers.stopped (omega (arith, less)))
      (subst (λ (m : Mode). ActsAll (opening_write m old.driver.plan.opened ∷ []) old.port old.memory new.port new.memory) g.way.sound.drives
      (subst (λ (es : List Effect). ActsAll es old.port old.memory new.port new.memory) first.one does.does)) in
      let plan : new.driver.plan ≡ record old.driver.plan { opened = old.driver.plan.opened + 1 } = ap (λ (d : Driver). d.plan) does.driver ∙ first.plan_is in
      let is : IsIn Rests old.driver.plan.order old.driver.plan.asked (control_of old) = subst (λ (s : Stage31). IsIn s old.driver.plan.order old.driver.plan.asked (control_of old)) rests at.is in
      record {
        next = Rests;
        at = record {
          fault = ap (λ (v : DeviceView). is_some v.fault) same ∙ at.fault ∙ ap has_failed rests;
          context = ap (λ (v : DeviceView). v.slots.context) same ∙ at.context;
          resetting = ap (λ (v : DeviceView). v.state.resetting) same ∙ at.resetting ∙ ap is_resetting rests;
          is = (ap (λ (q : Plan). q.asked) plan ∙ is.0, ap (λ (q : Plan). is_off q.order) plan ∙ is.1);
          low = subst (λ (q : Plan). IsLow q.order) (sym plan) at.low;
          closed = λ l. refl;
        };
        is = record { stays = inl (inl (sym rests)); clears = λ n flushed. absurd (never_closed less n flushed); goes = Kept (ap control_in plan) same };
        stands = (λ held. absurd (false≢true (sym (ap is_pending rests) ∙ held)), λ n waits idle clear. cc);
      }

  tick_turn : Turns31 stage old (Ticked acted) new
  tick_turn = elim (tick_is (sight_in old) (file_shown new.port) old.driver) [
    | inl first ↦ closed_tick first.less first
    | inr going ↦
        let t = tick31 old g stage at going.least new acted does in
        record {
          next = t.next;
          at = t.now;
          is = record {
            stays = t.stays;
            clears = λ n flushed.
                let c = t.clears n (clears_due n flushed) in
                (c.0, c.1, subst IsLow c.1 t.now.low, c.2);
            goes = t.goes;
          };
          stands = (t.stands, λ n waits idle clear. flushed_by n (t.flushed n waits idle clear));
        }
  ]

-- ---- each turn

-- a FIS that may come is one of the control port
pub control_in31 : (stage : Stage31) (t : HostTurn) → MayBe31 stage t → IsOfControlIn t
control_in31 stage (Took frame report) may = λ own. of_control stage frame (may own)
control_in31 stage other may = tt

pub turn31 : (old : Host) → IsGoing old → (t : HostTurn) (new : Host) → IsGoing new → Does old t new → (stage : Stage31) → IsAt31 stage old → MayBe31 stage t → Turns31 stage old t new
turn31 old g (Took frame report) new n does stage at may = took_turn old g frame report new n does (control_in31 stage (Took frame report) may) stage at may
turn31 old g (Pushed frame) new n does stage at may = push_turn old g frame new n does stage at
turn31 old g (Ticked a) new n does stage at may = tick_turn old g stage at a new does
turn31 old g (Submitted dev request ticket) new n does stage at may = record { next = stage; at = same_port31 stage old new does.port (ap (λ (d : Driver). d.plan) does.taken.driver) at; is = refl; stands = tt }
turn31 old g (Polled c) new n does stage at may =
    record { next = stage; at = same_port31 stage old new does.port (ap (λ (d : Driver). d.plan) does.driver ∙ poll_plan old.driver) at; is = refl; stands = tt }
turn31 old g (Put place bytes) new n does stage at may = record { next = stage; at = same_port31 stage old new does.port (ap (λ (d : Driver). d.plan) does.driver) at; is = refl; stands = tt }

pub opens31 : (given : ℕ) (start : Memory) → IsAt31 Rests (opening_host given start)
opens31 given start = record { fault = refl; context = refl; resetting = refl; is = (refl, refl); low = tt; closed = λ less. refl }

comes31 : (turns : List HostTurn) (old new : Host) (run : DoesAll old turns new) → IsGoing old → (stage : Stage31) → IsAt31 stage old → Comes31 stage old turns new run
comes31 [] old new run g stage at = tt
comes31 (t ∷ turns) old new run g stage at = λ may.
    let n : IsGoing run.0 = going_turn old t run.0 run.1 g (control_in31 stage t may) in
    let next : Turns31 stage old t run.0 = turn31 old g t run.0 n run.1 stage at may in
    (next, comes31 turns run.0 new run.2 n next.next next.at)

pub orders_take_turns : OrdersTakeTurns
orders_take_turns given start right turns h run = (opens31 given start, comes31 turns (opening_host given start) h run (going_opens given start right) Rests (opens31 given start))
