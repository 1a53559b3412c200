-- For `ends_go_on`. From where the fault of a disk that failed was cleared up to where its log is asked for, the port shows neither BSY nor
-- DRQ of it.
use Rattle.std.proofs.Common.{◌≡◌, ◌≢◌, ℕ, ◌^◌, ◌<◌, ◌⊎◌, Bool, true, false, List, [], ◌∷◌, min, refl, sym, ap, subst, ◌∙◌, inl, inr, arith, Some, None}
use Rattle.std.specs.{Prelude.{◌==◌, if◌then◌else◌, bit_and}, Int.bit_at}
use Rattle.std.proofs.lemmas.{Bool.cases_eq, Nat.Bits.{bit_at-lt, bit_at_and}}
use Rattle.hba_fbs.specs.{declared.{register.Register.TheVariants.Ci, state.DeviceState.DeviceState}, Issuing.{aimed, view_issued}, Sending.outgoing}
use Rattle.hba_fbs.specs.{Status.{is_busy, wants_data}, Taking.{ignores, port_of}, Views.{DeviceView, stopped_view, view_of}, Writing.view_after}
use Rattle.hba_laws.specs.{Client.Touches, Hosts.{HostEvent, Runs}}
use Rattle.hba_laws.specs.Hosts as event
use Rattle.disk_simulation.specs.Elsewhere.{IsElsewhere, LeavesDevice}
use Rattle.disk_simulation.proofs.Door.{others_leave_device}
use Rattle.hba_driver.specs.{Events.{events_over, shared_by}, HostTurns.{Does, DoesAll, Host, HostTurn, Pushed, Ticked, Took}, Served.RunServes}
use Rattle.hba_driver.specs.Slot30.{Asks, Cleared, Clears, Faulty, IsAt30, IsNext30, IsOn30, On, Stage30, TicksOn30, Turns30, is_faulty}
use Rattle.hba_driver.specs.Steady.{IsCalmTick, IsFlushTick, Issues}
use Rattle.hba_driver.proofs.Door.{turns_serve}
use Rattle.disk_recovery.specs.{Between.AreAway, Ends.IsBesideTurn, Stages.{GoesByLog, IsIdle}}
use Rattle.disk_recovery.proofs.aside.ApartDriver.{calm_tick, cleared_view, pushed_none, pushed_other}
use Rattle.disk_recovery.proofs.aside.BesideLemmas.{EventsAway, IsUnticked, events_away}

-- ---- a device whose fault is cleared

bit_cases : (s k : ℕ) → (bit_at s k ≡ 0) ⊎ (bit_at s k ≡ 1)
bit_cases s k = by_size (bit_at s k) (bit_at-lt s k)
  where
    by_size : (b : ℕ) → b < 2 → (b ≡ 0) ⊎ (b ≡ 1)
    by_size b low = elim (cases_eq b 0) [ inl none ↦ inl none | inr some ↦ inr (omega (arith, low, some)) ]

stopped_busy : (s : ℕ) → is_busy (bit_and s 0x77) ≡ false
stopped_busy s = elim (bit_cases s 7) [
  | inl is ↦ ap (λ (b : ℕ). b == 1) (bit_at_and s 0x77 7 ∙ ap (λ (b : ℕ). min b (bit_at 0x77 7)) is)
  | inr is ↦ ap (λ (b : ℕ). b == 1) (bit_at_and s 0x77 7 ∙ ap (λ (b : ℕ). min b (bit_at 0x77 7)) is)
]

stopped_data : (s : ℕ) → wants_data (bit_and s 0x77) ≡ false
stopped_data s = elim (bit_cases s 3) [
  | inl is ↦ ap (λ (b : ℕ). b == 1) (bit_at_and s 0x77 3 ∙ ap (λ (b : ℕ). min b (bit_at 0x77 3)) is)
  | inr is ↦ ap (λ (b : ℕ). b == 1) (bit_at_and s 0x77 3 ∙ ap (λ (b : ℕ). min b (bit_at 0x77 3)) is)
]

stopped_idle : (n : ℕ) (v : DeviceView) (h : Host) → view_of n h.port ≡ stopped_view v → IsIdle n h
stopped_idle n v h is = record {
  busy = ap (λ (w : DeviceView). is_busy w.state.status) is ∙ stopped_busy v.state.status;
  wants = ap (λ (w : DeviceView). wants_data w.state.status) is ∙ stopped_data v.state.status;
}

-- ---- a calm turn

issues_by : (v issued : DeviceView) (b : Bool) → issued.state ≡ v.state → (if b then issued else v).state ≡ v.state
issues_by v issued true same = same
issues_by v issued false same = refl

issues_state : (n value : ℕ) (old new : event.Host) → n < 16 → event.Does old (event.Wrote Ci value) new → (view_of n new.port).state ≡ (view_of n old.port).state
unfolding view_after
issues_state n value old new small does =
    let v : DeviceView = view_of n old.port in
    ap (λ (w : DeviceView). w.state) (does.1.views n small)
    ∙ issues_by v (view_issued old.port.registers old.memory value v) (n == aimed old.port.registers old.memory.structure value) refl

state_away : (n slot : ℕ) (old new : event.Host) (events : List HostEvent) (run : Runs old events new) → n < 16 → AreAway n slot old new events run
    → (view_of n new.port).state ≡ (view_of n old.port).state
state_away n slot old new [] run small away = ap (λ (h : event.Host). (view_of n h.port).state) run
state_away n slot old new (e ∷ events) run small away = state_away n slot run.0 new events run.2 small away.1 ∙ by_one away.0
  where
    by_one : IsElsewhere n old e ⊎ Issues n slot old e → (view_of n run.0.port).state ≡ (view_of n old.port).state
    by_one (inl elsewhere) =
        let left : LeavesDevice n old e run.0 = others_leave_device n old run.0 e small run.1 elsewhere in ap (λ (w : DeviceView). w.state) left.view
    by_one (inr i) = issues_state n (2 ^ slot) old run.0 small (subst (λ (x : HostEvent). event.Does old x run.0) i.is run.1)

module _ (n : ℕ) (past : Touches) (old : Host) (turn : HostTurn) (new : Host) (below : n < 15) (on : IsOn30 past old) (does : Does old turn new) where
  small : n < 16
  small = omega (arith, below)

  calm_state : (acts : Bool) → turn ≡ Ticked acts → IsCalmTick n old → (view_of n new.port).state ≡ (view_of n old.port).state
  calm_state acts is calm =
      let run : DoesAll old (Ticked acts ∷ []) new = (new, subst (λ (t : HostTurn). Does old t new) is does, refl) in
      let s : RunServes old new (Ticked acts ∷ []) run past = turns_serve.runs old new (Ticked acts ∷ []) run on.sound past on.served in
      let events : EventsAway n old new (Ticked acts) run s.runs = events_away n old (Ticked acts) new run s.runs on.sound on.served.bounded calm in
      state_away n events.slot (shared_by old) (shared_by new) (events_over old new (Ticked acts ∷ []) run) s.runs small events.away

-- ---- a turn beside the link

same_idle : (n : ℕ) (old new : Host) → (view_of n new.port).state ≡ (view_of n old.port).state → IsIdle n old → IsIdle n new
same_idle n old new same idle = record {
  busy = ap (λ (s : DeviceState). is_busy s.status) same ∙ idle.busy;
  wants = ap (λ (s : DeviceState). wants_data s.status) same ∙ idle.wants;
}

goes_view : (n : ℕ) (old new : Host) (stage : Stage30) → (view_of n new.port).state ≡ (view_of n old.port).state → GoesByLog n stage old → GoesByLog n stage new
goes_view n old new Cleared same goes = same_idle n old new same goes
goes_view n old new Asks same goes = same_idle n old new same goes
goes_view n old new _ same goes = tt

-- it leaves the view, unless it is a tick
view_beside : (n : ℕ) (old : Host) (turn : HostTurn) (new : Host) → IsUnticked turn → Does old turn new → IsBesideTurn n old turn → view_of n new.port ≡ view_of n old.port
view_beside n old (Took frame report) new none does beside = by_skip (ignores (port_of frame) old.port frame) refl
  where
    by_skip : (b : Bool) → ignores (port_of frame) old.port frame ≡ b → view_of n new.port ≡ view_of n old.port
    by_skip true e = ap (view_of n) (does.ignored e).port
    by_skip false e = (does.heard e).others n (λ same. beside (sym same))
view_beside n old (Pushed None) new none does beside = pushed_none n old new (outgoing old.port old.memory) None does.gives refl
view_beside n old (Pushed (Some frame)) new none does beside = pushed_other n old new (outgoing old.port old.memory) frame does.gives beside
view_beside n old (Ticked acts) new none does beside = absurd none
view_beside n old other new none does beside = ap (view_of n) does.port

-- and the stage
stage_beside : (n : ℕ) (stage next : Stage30) (old : Host) (turn : HostTurn) → IsUnticked turn → IsBesideTurn n old turn → IsNext30 n stage turn next → next ≡ stage
stage_beside n stage next old (Took frame report) none beside is = is.1 beside
stage_beside n stage next old (Pushed (Some frame)) none beside is = is.1 beside
stage_beside n stage next old (Ticked acts) none beside is = absurd none
stage_beside n stage next old other none beside is = is

-- ---- a tick

module _ (n : ℕ) (past : Touches) (old : Host) (acts : Bool) (new : Host) (below : n < 15) (on : IsOn30 past old) (does : Does old (Ticked acts) new)
    (flush : IsFlushTick n old → ⊥) where
  still_idle : (stage next : Stage30) → is_faulty stage ≡ false → IsAt30 n stage old → IsIdle n old → GoesByLog n next new
  still_idle stage next well at idle =
      let same : (view_of n new.port).state ≡ (view_of n old.port).state =
      calm_state n past old (Ticked acts) new below on does acts refl (calm_tick n past old below on stage at acts new does flush well) in
      by_next next (same_idle n old new same idle)
    where
      by_next : (s : Stage30) → IsIdle n new → GoesByLog n s new
      by_next Cleared now = now
      by_next Asks now = now
      by_next _ now = tt

  to_stage : (next stage : Stage30) → next ≡ stage → GoesByLog n stage new → GoesByLog n next new
  to_stage next stage is goes = subst (λ (s : Stage30). GoesByLog n s new) (sym is) goes

  ticks_idle : (stage next : Stage30) → IsAt30 n stage old → IsAt30 n next new → TicksOn30 stage next → GoesByLog n stage old → GoesByLog n next new
  ticks_idle Faulty next at now (inl is) goes = to_stage next Faulty is tt
  ticks_idle Faulty next at now (inr is) goes =
      let there : IsAt30 n Cleared new = subst (λ (s : Stage30). IsAt30 n s new) is now in
      to_stage next Cleared is (stopped_idle n (view_of n old.port) new (cleared_view n past old below on Faulty at acts new does flush refl there.fault))
  ticks_idle Cleared next at now is goes = still_idle Cleared next refl at goes
  ticks_idle Asks next at now is goes = still_idle Asks next refl at goes
  ticks_idle On next at now (inl is) goes = to_stage next On is tt
  ticks_idle On next at now (inr is) goes = to_stage next Clears is tt
  ticks_idle other next at now is goes = to_stage next other is tt

-- a device whose log is about to be asked for stays idle
pub idles : (n : ℕ) (past : Touches) (old : Host) (turn : HostTurn) (new : Host) (stage : Stage30) → n < 15 → IsOn30 past old → Does old turn new
    → IsBesideTurn n old turn → IsAt30 n stage old → (t : Turns30 n stage turn new) → GoesByLog n stage old → GoesByLog n t.next new
idles n past old (Ticked acts) new stage below on does beside at t goes = ticks_idle n past old acts new below on does beside stage t.next at t.at t.is goes
idles n past old other new stage below on does beside at t goes =
    subst (λ (s : Stage30). GoesByLog n s new) (sym (stage_beside n stage t.next old other tt beside t.is))
    (goes_view n old new stage (ap (λ (w : DeviceView). w.state) (view_beside n old other new tt does beside)) goes)
