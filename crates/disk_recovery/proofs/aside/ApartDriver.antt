-- For `ends_go_on`. What the driver and the port do with a device that is set aside: from stage to stage of slot 30,
-- and to its reset where they went there.
use Rattle.std.proofs.Common.{◌≡◌, ◌≢◌, ℕ, ◌<◌, ◌||◌, Bool, true, false, nat_lt, List, length, refl, sym, ap, subst, ◌∙◌, inl, inr, arith, Option}
use Rattle.std.proofs.{Common.{Some, None}, lemmas.Bool.{cases_eq, false≢true, le-ltb, true≢false, Decides.nat_tests}}
use Rattle.std.specs.{Prelude.{◌⊎◌, if◌then◌else◌, is_some, ◌%◌, ◌/◌, ◌==◌}, Option.{option_map, option_or}}
use Rattle.fis_view.specs.{Built.{IsBuilt, h2d_given}, Frames.{IsFrame, Stamped, marked}, Table.{H2d, field}, declared.build.H2dFields.H2dFields}
use Rattle.fis_view.specs.Table as name
use Rattle.hba_commands.proofs.Door.{built_long}
use Rattle.slots.specs.Slots.{has_bit}
use Rattle.hba_fbs.specs.{Sending.{Data, Gives, Order as Goes, Outgoing, outgoing}, Taking.{ignores, is_running, port_of}, Views.DeviceView}
use Rattle.hba_fbs.specs.Views.{stopped_view, view_of}
use Rattle.disk_model.specs.declared.request.Request.TheVariants as asked
use Rattle.disk_model.specs.{Anew.IsRequest, Requests.{command_request, names_error_log, request_of}}
use Rattle.disk_simulation.proofs.Door.{marks_ask_nothing}
use Rattle.hba_laws.specs.Client.{Touches}
use Rattle.hba_laws.proofs.Door.{some_inj}
use Rattle.hba_driver.specs.declared.{mode.Mode.TheVariants.Switching, path.Recovery.{Recovery, TheVariants.{Log, Reset}}}
use Rattle.hba_driver.specs.declared.{path.Stage.TheVariants.ReadLog, plan.{Device.TheVariants.{Ready, Recovering}, Plan.Plan}, slot.Phase.Phase}
use Rattle.hba_driver.specs.{declared.slot.Phase.TheVariants.{Aside, Ended}, Drivers.{Driver, Entry, device_at, has_ended_in, is_aside_in}}
use Rattle.hba_driver.specs.{Drivers.{is_issued_in, waits_in}, Effects.{ActsAll, clearing, effects_of}, HostTurns.{Does, Host, HostTurn, Polled}}
use Rattle.hba_driver.specs.{HostTurns.{Pushed, Put, Submitted, Ticked, Took, sight_in}, Orders.{control, log_fields}, Sights.file_shown, Slot30.Asks}
use Rattle.hba_driver.specs.Slot30.{Cleared, Clears, Faulty, FindsNone, IsAt30, IsCleared, IsLogged, IsNext30, IsOn30, IsUnflushed, IsUnsought}
use Rattle.hba_driver.specs.Slot30.{MayCome30, Off, On, Sets, Stage30, TakesOn30, TicksOn30, Turns30, fields30, is_faulty, sent30}
use Rattle.hba_driver.specs.{Steady.{IsCalmTick, IsClearTick, IsFine, IsFlushTick, detects}, Tended.{Awaits, Fine, Identifies, IsLiveAt, IsTended}}
use Rattle.hba_driver.specs.{Tended.{IsTendedBy, Logs, Releases, Spoilt, TendsOn}, Ticks.{acted, after_tick, cleared_plan, done_ended, due}}
use Rattle.hba_driver.specs.{Ticks.{effects_due, from_reset, plan_after, recovering, seen, turn}, Turns.{control_news, control_seen, control_turn}}
use Rattle.hba_driver.specs.{Turns.{early_due, fault_due, opening_due, plain_turn, restart_due, turn_of}, Between.{MayClear, MayEnd}}
use Rattle.hba_driver.proofs.Door.{calm_or_flush, cleared_faulty, clearing_own_view, clearing_view, faulty_shown, may_end, pushes_on, set_other}
use Rattle.hba_driver.proofs.Door.{sight_is, skipped_as, stays_on, stays_unsought, takes_lead, tick_acts, ticks_lead, turn_tended}
use Rattle.disk_recovery.proofs.{honest.{FisLemmas.{fields_read, request_by}, PushLemmas.frame_by}, aside.BesideLemmas.{IsUnticked, plan_same}}
use Rattle.disk_recovery.proofs.aside.ApartLines.{request30}
use Rattle.disk_recovery.specs.Stages.{GoesByReset}

-- ---- from stage to stage

-- what may come is what the line of the device allows, and no tick flushes the device
abbrev pub MayBe30 : ℕ → Stage30 → Host → HostTurn → Type 0
MayBe30 n stage old (Took frame report) = port_of frame ≡ n → MayCome30 stage frame
MayBe30 n stage old (Ticked acts) = IsFlushTick n old → ⊥
MayBe30 n stage old turn = Prim.Unit {0}

-- a device that is not being looked for is not found to be gone
finds_none : (n : ℕ) (old : Host) → IsUnsought n old → FindsNone n old → ⊥
finds_none n old off found = false≢true (sym off ∙ ap (detects n old.driver.plan.asked) found.order ∙ own n)
  where
    own : (k : ℕ) → (k == k) ≡ true
    own k = grind (arith, nat_tests)

unflushed : (n : ℕ) (stage : Stage30) (old : Host) (turn : HostTurn) → MayBe30 n stage old turn → IsUnflushed n old turn
unflushed n stage old (Ticked acts) may = may
unflushed n stage old other may = tt

-- it is not being looked for after the turn
pub still_off : (n : ℕ) (stage : Stage30) (old : Host) (turn : HostTurn) (new : Host) → Does old turn new → MayBe30 n stage old turn → IsUnsought n old
    → IsUnsought n new
still_off n stage old turn new does may off = stays_unsought n old turn new does (unflushed n stage old turn may) off

pub leads : (n : ℕ) (past : Touches) (old : Host) (turn : HostTurn) (new : Host) (stage : Stage30) → n < 15 → IsOn30 past old → Does old turn new
    → MayBe30 n stage old turn → IsUnsought n old
    → IsAt30 n stage old → Turns30 n stage turn new
leads n past old (Took frame report) new stage low on does may off at = (takes_lead n).turns past old frame report new stage low on.served does at may
leads n past old (Pushed frame) new stage low on does may off at = pushes_on n past old frame new stage low on.sound on.served does at
leads n past old (Ticked acts) new stage low on does may off at = (ticks_lead n).turns past old acts new stage low on does at may (finds_none n old off)
leads n past old (Submitted dev request ticket) new stage low on does may off at =
    record { next = stage; at = (stays_on n).submitted old dev request ticket new stage does at; is = refl }
leads n past old (Polled completion) new stage low on does may off at =
    record { next = stage; at = (stays_on n).polled old completion new stage does at; is = refl }
leads n past old (Put at bytes) new stage low on does may off is =
    record { next = stage; at = (stays_on n).put old at bytes new stage does is; is = refl }

-- ---- the plan of a turn that is no tick

device_same : (n : ℕ) (old : Host) (turn : HostTurn) (new : Host) → IsUnticked turn → Does old turn new
    → device_at new.driver.plan n ≡ device_at old.driver.plan n
device_same n old turn new none does = ap (λ (p : Plan). device_at p n) (plan_same old turn new does none)

no_fields : (fields : H2dFields) {A : Type 0} → None ≡ Some fields → A
no_fields fields e = let wrong : None ≡ Some fields = e in cc

-- ---- a device with a fault, in a turn that is no tick

pub faulty_ignored : (r f s : Bool) → f ≡ true → (Rattle.std.specs.Prelude.not r || f || s) ≡ true
faulty_ignored true true s h = refl
faulty_ignored false true s h = refl
faulty_ignored r false s h = absurd (false≢true h)

module _ (n : ℕ) (old new : Host) where
  pub pushed_none : (o : Outgoing) (frame : Option Stamped) → Gives o old.port old.memory frame new.port → frame ≡ None
      → view_of n new.port ≡ view_of n old.port
  pushed_none (Data dev offset len command) None gives is = absurd gives
  pushed_none (Data dev offset len command) (Some f) gives is = cc is
  pushed_none (Goes dev slot command) None gives is = absurd gives
  pushed_none (Goes dev slot command) (Some f) gives is = cc is
  pushed_none other frame gives is = ap (view_of n) gives.1

  pub pushed_other : (o : Outgoing) (f : Stamped) → Gives o old.port old.memory (Some f) new.port → f.stamp.port ≢ n
      → view_of n new.port ≡ view_of n old.port
  pushed_other (Data dev offset len command) f gives other = gives.others n (λ e. other (ap (λ (x : Stamped). x.stamp.port) gives.frame_is ∙ sym e))
  pushed_other (Goes dev slot command) f gives other = gives.others n (λ e. other (ap (λ (x : Stamped). x.stamp.port) gives.frame_is ∙ sym e))
  pushed_other rest f gives other = ap (view_of n) gives.1

  faulty_view : (turn : HostTurn) → IsUnticked turn → Does old turn new → IsAt30 n Faulty old → (next : Stage30) → IsNext30 n Faulty turn next
      → (view_of n new.port ≡ view_of n old.port) × (next ≡ Faulty)
  faulty_view (Took frame report) none does at next is = elim (cases_eq (port_of frame) n) [
    | inl own ↦
        let skip : ignores (port_of frame) old.port frame ≡ true =
        ap (λ (k : ℕ). ignores k old.port frame) own
        ∙ skipped_as n old.port frame (faulty_ignored (is_running old.port) (is_some (view_of n old.port).fault) _ at.fault) in
        (ap (view_of n) (does.ignored skip).port, is.0 own)
    | inr other ↦ (by_skip other (ignores (port_of frame) old.port frame) refl, is.1 other)
  ]
    where
      by_skip : port_of frame ≢ n → (b : Bool) → ignores (port_of frame) old.port frame ≡ b → view_of n new.port ≡ view_of n old.port
      by_skip other true e = ap (view_of n) (does.ignored e).port
      by_skip other false e = (does.heard e).others n (λ same. other (sym same))
  faulty_view (Pushed None) none does at next is = (pushed_none (outgoing old.port old.memory) None does.gives refl, is)
  faulty_view (Pushed (Some frame)) none does at next is = elim (cases_eq frame.stamp.port n) [
    | inl own ↦ no_fields (is.0 own).fields (is.0 own).are
    | inr other ↦ (pushed_other (outgoing old.port old.memory) frame does.gives other, is.1 other)
  ]
  faulty_view (Ticked acts) none does at next is = absurd none
  faulty_view other none does at next is = (ap (view_of n) does.port, is)

-- ---- a tick

if_then : {A : Type 0} (b : Bool) (x y : A) → b ≡ true → (if b then x else y) ≡ x
if_then true x y e = refl
if_then false x y e = absurd (false≢true e)

if_else : {A : Type 0} (b : Bool) (x y : A) → b ≡ false → (if b then x else y) ≡ y
if_else false x y e = refl
if_else true x y e = absurd (true≢false e)

or_some : {A : Type 0} (o p : Option A) (x : A) → o ≡ Some x → option_or o p ≡ Some x
or_some None p x e = cc e
or_some (Some y) p x e = e

or_none : {A : Type 0} (o p : Option A) → o ≡ None → option_or o p ≡ p
or_none None p e = refl
or_none (Some y) p e = cc e

map_some : {A B : Type 0} (f : A → B) (o : Option A) (x : A) → o ≡ Some x → option_map f o ≡ Some (f x)
map_some f o x e = ap (option_map f) e

module _ (n : ℕ) (past : Touches) (h : Host) (low : n < 15) (on : IsOn30 past h) (stage : Stage30) (at : IsAt30 n stage h) (acts : Bool) (new : Host)
    (does : Does h (Ticked acts) new) (flush : IsFlushTick n h → ⊥) where
  may_clear : (dev : ℕ) → IsClearTick dev h → MayClear dev h.port
  may_clear dev is = (subst (λ x. MayEnd Switching x h.port) is (may_end h on.sound)).1

  unclear : is_faulty stage ≡ false → IsClearTick n h → ⊥
  unclear well is = false≢true (sym well ∙ sym at.fault ∙ cleared_faulty h.port n on.sound.ruled (may_clear n is).faulty)

  pub calm_tick : is_faulty stage ≡ false → IsCalmTick n h
  calm_tick well = elim (calm_or_flush n h on.going (unclear well)) [
    | inl calm ↦ calm
    | inr flushes ↦ absurd (flush flushes)
  ]

  -- ---- with a fault, as in hba_driver/proofs/recovers/ApartTicks.antt

  module _ (failed : is_faulty stage ≡ true) where
    reported_some : (o : Option ℕ) → h.port.errors.reported ≡ o → is_some o ≡ true
    reported_some None is = absurd (false≢true (sym (ap is_some (on.sound.ruled.faults.none_is_marked is n)) ∙ at.fault ∙ failed))
    reported_some (Some dev) is = refl

    due_is : is_some (early_due (sight_in h) h.driver.plan) ≡ true
        → (due (sight_in h) h.driver ≡ early_due (sight_in h) h.driver.plan) × ((seen (sight_in h) h.driver).plan ≡ h.driver.plan)
    unfolding turn_of
    due_is some =
        let p : Plan = h.driver.plan in
        let entries : List (Option Entry) = done_ended (sight_in h).issued h.driver.entries in (
          ap (λ (b : Bool). (if b then plain_turn p (early_due (sight_in h) p) false
              else control_turn (sight_in h) (control_news (sight_in h) p) (control_seen (sight_in h) p) entries).act) some,
          ap (λ (b : Bool). (if b then plain_turn p (early_due (sight_in h) p) false
              else control_turn (sight_in h) (control_news (sight_in h) p) (control_seen (sight_in h) p) entries).plan) some,
        )

    record Clearing30 : Type 0 where
      pub dev : ℕ
      pub is : IsClearTick dev h
      pub same : (seen (sight_in h) h.driver).plan ≡ h.driver.plan

    early_is : early_due (sight_in h) h.driver.plan ≡ option_or (restart_due h.driver.plan) (fault_due (sight_in h))
    unfolding early_due
    early_is = or_none (opening_due h.driver.plan) _ (if_else (nat_lt h.driver.plan.opened 7) _ _ (le-ltb h.driver.plan.opened 7 at.opened))

    by_stopped : (b : Bool) → (sight_in h).stopped ≡ b → early_due (sight_in h) h.driver.plan ≡ fault_due (sight_in h) → Clearing30
    by_stopped true is early =
        let stops = early ∙ if_then (sight_in h).stopped _ _ is in
        let never = on.going.ticks _ ((due_is (ap is_some stops)).0 ∙ stops) in
        absurd never
    by_stopped false is early =
        let shown_is = faulty_shown h.port h.memory on.sound.ruled on.going.faultless (reported_some h.port.errors.reported refl) in
        let clears = early ∙ if_else (sight_in h).stopped _ _ is ∙ map_some _ (sight_in h).faulty shown_is.0 (ap (λ v. v.faulty) (sight_is h on.sound) ∙ shown_is.1) in
        let d = due_is (ap is_some clears) in
        record { dev = shown_is.0; is = d.0 ∙ clears; same = d.1 }

    by_restart : (b : Bool) → nat_lt h.driver.plan.restarted 2 ≡ b → Clearing30
    by_restart true is =
        let restarts =
        early_is ∙ or_some (restart_due h.driver.plan) (fault_due (sight_in h)) _ (if_then (nat_lt h.driver.plan.restarted 2) _ _ is) in
        let never = on.going.ticks _ ((due_is (ap is_some restarts)).0 ∙ restarts) in
        absurd never
    by_restart false is =
        by_stopped (sight_in h).stopped refl
        (early_is ∙ or_none (restart_due h.driver.plan) (fault_due (sight_in h)) (if_else (nat_lt h.driver.plan.restarted 2) _ _ is))

    clears_due : Clearing30
    clears_due = by_restart (nat_lt h.driver.plan.restarted 2) refl

    clears_plan : (c : Clearing30) → new.driver.plan ≡ cleared_plan c.dev (file_shown new.port) h.driver.plan
    unfolding after_tick plan_after
    clears_plan c =
        ap (λ (d : Driver). d.plan) does.driver ∙ ap (λ x. (acted x (file_shown new.port) (seen (sight_in h) h.driver)).plan) c.is
        ∙ ap (λ (p : Plan). cleared_plan c.dev (file_shown new.port) p) c.same

    clears_effects : (dev : ℕ) → IsClearTick dev h → ActsAll (clearing Switching dev) h.port h.memory new.port new.memory
    unfolding effects_of
    clears_effects dev is = subst (λ x. ActsAll (effects_due Switching x) h.port h.memory new.port new.memory) is (tick_acts h acts new does on.sound)

    own_view : (c : Clearing30) → c.dev ≡ n → view_of n new.port ≡ stopped_view (view_of n h.port)
    own_view c same =
        let may = may_clear c.dev c.is in
        clearing_own_view n h.port new.port h.memory new.memory (omega (arith, low)) may.switches (may.faulty ∙ ap (λ (k : ℕ). Some k) same)
        (subst (λ (k : ℕ). ActsAll (clearing Switching k) h.port h.memory new.port new.memory) same (clears_effects c.dev c.is))

    other_view : (c : Clearing30) → c.dev ≢ n → view_of n new.port ≡ view_of n h.port
    other_view c other =
        clearing_view n c.dev h.port new.port h.memory new.memory (omega (arith, low)) other (may_clear c.dev c.is).faulty (clears_effects c.dev c.is)

    device_if : (b : Bool) (dev : ℕ) → dev ≢ n
        → device_at (if b then recovering dev (file_shown new.port) h.driver.plan else from_reset h.driver.plan) n ≡ device_at h.driver.plan n
    device_if true dev other = set_other h.driver.plan.devices dev n _ (λ e. other (sym e))
    device_if false dev other = refl

    other_device : (c : Clearing30) → c.dev ≢ n → device_at new.driver.plan n ≡ device_at h.driver.plan n
    other_device c other = ap (λ (p : Plan). device_at p n) (clears_plan c) ∙ device_if (nat_lt c.dev 15) c.dev other

    -- its fault is cleared, and that of no other device
    pub cleared_view : is_some (view_of n new.port).fault ≡ false → view_of n new.port ≡ stopped_view (view_of n h.port)
    cleared_view none =
        let c : Clearing30 = clears_due in
        elim (cases_eq c.dev n) [
          | inl same ↦ own_view c same
          | inr other ↦ absurd (true≢false (sym (ap (λ (w : DeviceView). is_some w.fault) (other_view c other) ∙ at.fault ∙ failed) ∙ none))
        ]

    -- the fault of the device stands on
    stands_on : is_some (view_of n new.port).fault ≡ true
        → (view_of n new.port ≡ view_of n h.port) × (device_at new.driver.plan n ≡ device_at h.driver.plan n)
    stands_on still =
        let c : Clearing30 = clears_due in
        elim (cases_eq c.dev n) [
          | inl same ↦ absurd (false≢true (sym (ap (λ (w : DeviceView). is_some w.fault) (own_view c same)) ∙ still))
          | inr other ↦ (other_view c other, other_device c other)
        ]

-- ---- to its reset

-- it is reset, and the reset was issued
abbrev IsLate : Stage30 → Type 0
IsLate Sets = Prim.Unit {0}
IsLate On = Prim.Unit {0}
IsLate Clears = Prim.Unit {0}
IsLate Off = Prim.Unit {0}
IsLate _ = ⊥

late_goes : (n : ℕ) (stage : Stage30) (h : Host) → IsLate stage → GoesByReset n stage h
late_goes n Sets h late = tt
late_goes n On h late = tt
late_goes n Clears h late = tt
late_goes n Off h late = tt
late_goes n _ h late = absurd late

late_ticks : (stage next : Stage30) → IsLate stage → TicksOn30 stage next → IsLate next
late_ticks Sets next late is = subst IsLate (sym is) tt
late_ticks On next late (inl is) = subst IsLate (sym is) tt
late_ticks On next late (inr is) = subst IsLate (sym is) tt
late_ticks Clears next late is = subst IsLate (sym is) tt
late_ticks Off next late is = subst IsLate (sym is) tt
late_ticks _ next late is = absurd late

recovers_on : (n : ℕ) (way : Recovery) (h : Host) → device_at h.driver.plan n ≡ Recovering way → GoesByReset n Faulty h
recovers_on n way h is ready = let wrong : Recovering way ≡ Ready = sym is ∙ ready in cc

-- where a turn that is no tick leads
abbrev LeadsTo : ℕ → Stage30 → Stage30 → Type 0
LeadsTo n stage next = (next ≡ stage) ⊎ (((is_some (fields30 n stage) ≡ true) × (next ≡ sent30 stage)) ⊎ TakesOn30 stage next)

leads_to : (n : ℕ) (stage next : Stage30) (turn : HostTurn) → IsUnticked turn → IsNext30 n stage turn next → LeadsTo n stage next
leads_to n stage next (Took frame report) none is = elim (cases_eq (port_of frame) n) [
  | inl own ↦ inr (inr (is.0 own))
  | inr other ↦ inl (is.1 other)
]
leads_to n stage next (Pushed (Some frame)) none is = elim (cases_eq frame.stamp.port n) [
  | inl own ↦ inr (inl (ap is_some (is.0 own).are, (is.0 own).after))
  | inr other ↦ inl (is.1 other)
]
leads_to n stage next (Ticked acts) none is = absurd none
leads_to n stage next other none is = inl is

module _ (n : ℕ) (old : Host) (turn : HostTurn) (new : Host) (none : IsUnticked turn) (does : Does old turn new) where
  abbrev ToReset : Stage30 → Type 0
  ToReset next = GoesByReset n next new

  to_stage : (next stage : Stage30) → next ≡ stage → ToReset stage → ToReset next
  to_stage next stage is goes = subst ToReset (sym is) goes

  to_late : (next stage : Stage30) → next ≡ stage → IsLate stage → ToReset next
  to_late next stage is late = to_stage next stage is (late_goes n stage new late)

  cleared_to : (next : Stage30) → device_at old.driver.plan n ≡ Recovering Reset → LeadsTo n Cleared next → ToReset next
  cleared_to next device (inl is) = to_stage next Cleared is (device_same n old turn new none does ∙ device)
  cleared_to next device (inr (inl is)) = to_stage next Cleared is.1 (device_same n old turn new none does ∙ device)
  cleared_to next device (inr (inr (inl is))) = to_stage next Cleared is (device_same n old turn new none does ∙ device)
  cleared_to next device (inr (inr (inr is))) = to_stage next Faulty is (recovers_on n Reset new (device_same n old turn new none does ∙ device))

  sets_to : (next : Stage30) → device_at old.driver.plan n ≡ Recovering Reset → LeadsTo n Sets next → ToReset next
  sets_to next device (inl is) = to_late next Sets is tt
  sets_to next device (inr (inl is)) = to_late next On is.1 tt
  sets_to next device (inr (inr (inl is))) = to_late next Sets is tt
  sets_to next device (inr (inr (inr is))) = to_stage next Faulty is (recovers_on n Reset new (device_same n old turn new none does ∙ device))

  on_to : (next : Stage30) → LeadsTo n On next → ToReset next
  on_to next (inl is) = to_late next On is tt
  on_to next (inr (inl is)) = to_late next On is.1 tt
  on_to next (inr (inr is)) = to_late next On is tt

  clears_to : (next : Stage30) → LeadsTo n Clears next → ToReset next
  clears_to next (inl is) = to_late next Clears is tt
  clears_to next (inr (inl is)) = to_late next Off is.1 tt
  clears_to next (inr (inr is)) = to_late next Clears is tt

  off_to : (next : Stage30) → LeadsTo n Off next → ToReset next
  off_to next (inl is) = to_late next Off is tt
  off_to next (inr (inl is)) = to_late next Off is.1 tt
  off_to next (inr (inr is)) = to_late next Off is tt

  rests_on : (stage next : Stage30) → IsAt30 n stage old → IsNext30 n stage turn next → GoesByReset n stage old → ToReset next
  rests_on Faulty next at is goes =
      let same = faulty_view n old new turn none does at next is in
      to_stage next Faulty same.1
      (λ ready. ap (λ (w : DeviceView). has_bit w.state.status 0) same.0 ∙ goes (sym (device_same n old turn new none does) ∙ ready))
  rests_on Cleared next at is goes = cleared_to next goes (leads_to n Cleared next turn none is)
  rests_on Sets next at is goes = sets_to next (at.apart refl).plan.device (leads_to n Sets next turn none is)
  rests_on On next at is goes = on_to next (leads_to n On next turn none is)
  rests_on Clears next at is goes = clears_to next (leads_to n Clears next turn none is)
  rests_on Off next at is goes = off_to next (leads_to n Off next turn none is)
  rests_on other next at is goes = absurd goes

-- a request that was withdrawn neither waits nor is issued
not_live : (p : Phase) → (is_aside_in p || has_ended_in p) ≡ true → (waits_in p || is_issued_in p) ≡ true → ⊥
not_live Aside gone lives = false≢true lives
not_live (Ended o) gone lives = false≢true lives
not_live other gone lives = false≢true gone

-- the device is to be reset, and slot 30 does not work on it
spoilt_tended : (n : ℕ) (h : Host) → IsAt30 n Cleared h → IsUnsought n h → device_at h.driver.plan n ≡ Recovering Reset → IsTended n h.driver
spoilt_tended n h at off device = record {
  plan = record {
    way = Spoilt device (at.apart refl).plan.away;
    order = λ on. absurd (true≢false (sym on ∙ off));
  };
  requests = record {
    ready = λ s e live. absurd (none s e live);
    alone = λ s r e f live other flush. absurd (none s e live);
  };
}
  where
    none : (s : ℕ) (e : Entry) → IsLiveAt n s h.driver.entries e → ⊥
    none s e live = not_live e.head.phase ((at.apart refl).withdrawn s e live.stands live.of_dev) live.lives

still_spoilt : (n : ℕ) (p : Plan) → IsTendedBy n p → IsCleared n p → device_at p n ≡ Recovering Reset
still_spoilt n p (Fine fine path) c = absurd (subst IsFine c.device fine)
still_spoilt n p (Releases device works) c = device
still_spoilt n p (Awaits device works) c = device
still_spoilt n p (Identifies device works) c = device
still_spoilt n p (Logs before file device works) c = absurd (c.away (record { dev = n; stage = ReadLog file; asked = true }) works refl)
still_spoilt n p (Spoilt device free) c = device

module _ (n : ℕ) (past : Touches) (old : Host) (acts : Bool) (new : Host) (low : n < 15) (on : IsOn30 past old) (does : Does old (Ticked acts) new)
    (flush : IsFlushTick n old → ⊥) (off : IsUnsought n old) where
  faulty_ticks : (next : Stage30) → IsAt30 n Faulty old → IsAt30 n next new → TicksOn30 Faulty next → GoesByReset n Faulty old
      → GoesByReset n next new
  faulty_ticks next at now (inl is) goes =
      let same = stands_on n past old low on Faulty at acts new does flush refl (subst (λ (s : Stage30). IsAt30 n s new) is now).fault in
      subst (λ (s : Stage30). GoesByReset n s new) (sym is)
      (λ ready. ap (λ (w : DeviceView). has_bit w.state.status 0) same.0 ∙ goes (sym same.1 ∙ ready))
  faulty_ticks next at now (inr is) goes = subst (λ (s : Stage30). GoesByReset n s new) (sym is) (by_way c.way c.device)
    where
      there : IsAt30 n Cleared new
      there = subst (λ (s : Stage30). IsAt30 n s new) is now

      c : IsCleared n new.driver.plan
      c = (there.apart refl).plan

      by_way : (way : Recovery) → device_at new.driver.plan n ≡ Recovering way → device_at new.driver.plan n ≡ Recovering Reset
      by_way Reset device = device
      by_way (Log file) device =
          let l : IsLogged n old new file = (ticks_lead n).logged past old acts new file low on does at flush there.fault device in
          absurd (false≢true (sym (goes l.ready) ∙ l.failed))

  cleared_ticks : (next : Stage30) → IsAt30 n Cleared old → IsAt30 n next new → TicksOn30 Cleared next
      → device_at old.driver.plan n ≡ Recovering Reset
      → GoesByReset n next new
  cleared_ticks next at now follows device = by_next follows
    where
      tends : TendsOn n old (Ticked acts) new
      tends =
          turn_tended n old (Ticked acts) new (omega (arith, low)) does on.sound.drives (calm_tick n past old low on Cleared at acts new does flush refl)
          (spoilt_tended n old at off device)

      by_next : TicksOn30 Cleared next → GoesByReset n next new
      by_next (inl is) =
          let there : IsAt30 n Cleared new = subst (λ (s : Stage30). IsAt30 n s new) is now in
          subst (λ (s : Stage30). GoesByReset n s new) (sym is)
          (elim tends.next [
            | inl tended ↦ still_spoilt n new.driver.plan tended.plan.way (there.apart refl).plan
            | inr resets ↦ resets.1.device
          ])
      by_next (inr (inl is)) =
          let there : IsAt30 n Asks new = subst (λ (s : Stage30). IsAt30 n s new) is now in
          let reads = (there.apart refl).plan in
          let begun = (tends.begun (record { dev = n; stage = ReadLog reads.file; asked = true }, (reads.path, (refl, tt)))).0 in
          absurd ((at.apart refl).plan.away begun.0 begun.1.0 begun.1.1.0)
      by_next (inr (inr is)) = subst (λ (s : Stage30). GoesByReset n s new) (sym is) tt

  ticks_go : (stage next : Stage30) → IsAt30 n stage old → IsAt30 n next new → TicksOn30 stage next → GoesByReset n stage old → GoesByReset n next new
  ticks_go Faulty next at now is goes = faulty_ticks next at now is goes
  ticks_go Cleared next at now is goes = cleared_ticks next at now is goes
  ticks_go Sets next at now is goes = late_goes n next new (late_ticks Sets next tt is)
  ticks_go On next at now is goes = late_goes n next new (late_ticks On next tt is)
  ticks_go Clears next at now is goes = late_goes n next new (late_ticks Clears next tt is)
  ticks_go Off next at now is goes = late_goes n next new (late_ticks Off next tt is)
  ticks_go other next at now is goes = absurd goes

-- a device that goes by its reset does so on
pub resets : (n : ℕ) (past : Touches) (old : Host) (turn : HostTurn) (new : Host) (stage : Stage30) → n < 15 → IsOn30 past old → Does old turn new
    → MayBe30 n stage old turn → IsUnsought n old → IsAt30 n stage old → (t : Turns30 n stage turn new) → GoesByReset n stage old → GoesByReset n t.next new
resets n past old (Ticked acts) new stage low on does may off at t goes = ticks_go n past old acts new low on does may off stage t.next at t.at t.is goes
resets n past old other new stage low on does may off at t goes = rests_on n old other new tt does stage t.next at t.is goes

-- ---- what slot 30 holds asks the disk for that

log_asks : (f : List ℕ) → command_request f 0x2F ≡ (if names_error_log f then asked.ReadErrorLog else asked.Other)
log_asks f = refl

names_log : (f : List ℕ) → field H2d name.Lba f ≡ 16 → field H2d name.Count f ≡ 1 → names_error_log f ≡ true
names_log f lba count = rw (lba, count) refl

log_is : (n : ℕ) (f : List ℕ) → IsBuilt H2d (h2d_given (log_fields n)) f → request_of f ≡ asked.ReadErrorLog
log_is n f built =
    let r = fields_read (log_fields n) f built in
    request_by f 0x2F r.c r.command ∙ log_asks f ∙ ap (λ (b : Bool). if b then asked.ReadErrorLog else asked.Other) (names_log f r.lba r.count)

reset_by : (f : List ℕ) (value : ℕ) → field H2d name.C f ≡ 0 → field H2d name.Control f ≡ value → request_of f ≡ asked.Reset (value / 4 % 2 == 1)
reset_by f value c control = rw (c, control) refl

control_is : (n value : ℕ) (f : List ℕ) → IsBuilt H2d (h2d_given (control n value)) f → request_of f ≡ asked.Reset (value % 256 / 4 % 2 == 1)
control_is n value f built = let r = fields_read (control n value) f built in reset_by f (value % 256) r.c r.control

asks_for : (n : ℕ) (stage : Stage30) (fields : H2dFields) (f : List ℕ) → fields30 n stage ≡ Some fields → IsBuilt H2d (h2d_given fields) f
    → request_of f ≡ request30 stage
asks_for n Asks fields f are built =
    log_is n f (subst (λ (x : H2dFields). IsBuilt H2d (h2d_given x) f) (some_inj fields (log_fields n) (sym are)) built)
asks_for n Sets fields f are built =
    control_is n 4 f (subst (λ (x : H2dFields). IsBuilt H2d (h2d_given x) f) (some_inj fields (control n 4) (sym are)) built)
asks_for n Clears fields f are built =
    control_is n 0 f (subst (λ (x : H2dFields). IsBuilt H2d (h2d_given x) f) (some_inj fields (control n 0) (sym are)) built)
asks_for n _ fields f are built = no_fields fields are

framed : (fields : H2dFields) (f : List ℕ) → IsBuilt H2d (h2d_given fields) f → IsFrame f
framed fields f built =
    let all : length f ≡ 20 = built_long fields f built in
    frame_by f (omega (arith, all)) (omega (arith, all)) (omega (arith, all))

pub requests : (n : ℕ) (stage : Stage30) (fields : H2dFields) (bytes : List ℕ) → fields30 n stage ≡ Some fields → IsBuilt H2d (h2d_given fields) bytes
    → IsRequest (marked bytes 0) (request30 stage)
requests n stage fields bytes are built =
    (marks_ask_nothing bytes 0 (framed fields bytes built) (omega arith)).request (request30 stage)
    (record { frame = bytes; is = built.viewed; asks = asks_for n stage fields bytes are built })
