-- For `rested_disks_have_signed`. The host has the signature of a disk that is new to the driver, and keeps it over each turn that does not
-- flush the disk; and it has it once it took a FIS of the disk.
use Rattle.std.proofs.Common.{◌≡◌, ◌≢◌, ℕ, ◌<◌, Bool, true, false, List, ◌∷◌, refl, sym, ap, subst, ◌∙◌, inl, inr, Option, None, arith}
use Rattle.std.proofs.lemmas.Bool.{eq-eqb, true≢false}
use Rattle.std.specs.Prelude.{is_some}
use Rattle.fis_view.specs.Frames.{IsFrame, marked}
use Rattle.hba_fbs.specs.{declared.report.TakeReport.TakeReport, Taking.port_of, Views.view_of}
use Rattle.disk_model.specs.{declared.plan.DiskPlan.DiskPlan, Histories.Happening}
use Rattle.hba_laws.specs.Client.{Touches}
use Rattle.hba_driver.specs.{declared.{order.Order.Order, plan.Plan.Plan}, Drivers.Driver, HostTurns.{Does, Host, HostTurn, Polled, Pushed, Put}}
use Rattle.hba_driver.specs.{HostTurns.{Submitted, Ticked, Took}, Slot30.{Asks, Cleared, Clears, Faulty, FindsNone, IsAt30, IsPlan30, LogSent}}
use Rattle.hba_driver.specs.{Slot30.{MayCome30, Off, On, Sets, Stage30, Turns30, is_faulty}, Steady.{HasSignature, IsCalmTick, IsFlushTick, detects}}
use Rattle.hba_driver.proofs.Door.{calm_or_flush, pushes_on, stays_on, takes_lead, ticks_lead}
use Rattle.disk_recovery.specs.Ends.{Apart, AreEnds, IsRunning, IsSetAside, IsTogether, Together}
use Rattle.disk_recovery.proofs.Door.{never_cleared}
use Rattle.world_rests.proofs.{SignPlans.{IsNew, new_was}, SignRows.signature_stays, SignTakes.{new_recovering, takes_signature}}

-- if the device is new to the driver, and no fault of it stands, its signature is in its row
abbrev pub HasIfNew : ℕ → Host → Type 0
HasIfNew n h = IsNew n h.driver.plan → (view_of n h.port).fault ≡ None → HasSignature n h

-- no FIS of the device is taken, and it is not flushed
abbrev pub IsAsideTurn : ℕ → Host → HostTurn → Type 0
IsAsideTurn n old (Took frame report) = port_of frame ≢ n
IsAsideTurn n old (Ticked acted) = IsFlushTick n old → ⊥
IsAsideTurn n old turn = Unit {0}

-- ---- a device that is set aside is not new

fault_none : {A : Type 0} (o : Option A) (b : Bool) → is_some o ≡ b → o ≡ None → b ≡ false
fault_none o b is none = sym is ∙ ap is_some none

plan_recovers : {X : Type 0} (n : ℕ) (stage : Stage30) (plan : Plan) → is_faulty stage ≡ false → IsPlan30 n stage plan → IsNew n plan → X
plan_recovers n Faulty plan well is new = absurd (true≢false well)
plan_recovers n Cleared plan well is new = new_recovering n plan is.way new is.device
plan_recovers n Asks plan well is new = new_recovering n plan _ new is.device
plan_recovers n LogSent plan well is new = new_recovering n plan _ new is.device
plan_recovers n Sets plan well is new = new_recovering n plan _ new is.device
plan_recovers n On plan well (inl is) new = new_recovering n plan _ new is.device
plan_recovers n On plan well (inr is) new = new_recovering n plan _ new is.device
plan_recovers n Clears plan well is new = new_recovering n plan _ new is.device
plan_recovers n Off plan well (inl is) new = new_recovering n plan _ new is.device
plan_recovers n Off plan well (inr is) new = new_recovering n plan _ new is.device

pub never_apart : {X : Type 0} (n : ℕ) (stage : Stage30) (h : Host) → IsAt30 n stage h → IsNew n h.driver.plan → (view_of n h.port).fault ≡ None → X
never_apart n stage h at new fine =
    let well : is_faulty stage ≡ false = fault_none (view_of n h.port).fault (is_faulty stage) at.fault fine in
    plan_recovers n stage h.driver.plan well (at.apart well).plan new

-- ---- a turn

module _ (n : ℕ) (below : n < 15) (plan : DiskPlan) (sectors : ℕ) (disk : List Happening) (touches : Touches) (old : Host)
    (runs : IsRunning plan sectors disk touches old) where
  -- it stays apart
  module _ (down up : List (List ℕ)) (a : IsSetAside n old disk down up) (new : Host) (is_new : IsNew n new.driver.plan)
      (fine : (view_of n new.port).fault ≡ None) where
    by_next : {X : Type 0} (turn : HostTurn) → Turns30 n a.stage turn new → X
    by_next turn t = never_apart n t.next new t.at is_new fine

    sought_none : FindsNone n old → ⊥
    sought_none finds =
        let on : detects n old.driver.plan.asked old.driver.plan.order ≡ true =
        subst (λ (o : Order). detects n old.driver.plan.asked o ≡ true) (sym finds.order) (eq-eqb n n refl) in
        true≢false (sym on ∙ a.off)

    apart_turn : {X : Type 0} (turn : HostTurn) → Does old turn new → IsAsideTurn n old turn → X
    apart_turn (Took frame report) does aside =
        by_next (Took frame report) ((takes_lead n).turns touches old frame report new a.stage below runs.on.served does a.at (λ own. absurd (aside own)))
    apart_turn (Pushed frame) does aside = by_next (Pushed frame) (pushes_on n touches old frame new a.stage below runs.on.sound runs.on.served does a.at)
    apart_turn (Ticked acted) does aside = by_next (Ticked acted) ((ticks_lead n).turns touches old acted new a.stage below runs.on does a.at aside sought_none)
    apart_turn (Submitted dev request ticket) does aside =
        never_apart n a.stage new ((stays_on n).submitted old dev request ticket new a.stage does a.at) is_new fine
    apart_turn (Polled completion) does aside = never_apart n a.stage new ((stays_on n).polled old completion new a.stage does a.at) is_new fine
    apart_turn (Put at bytes) does aside = never_apart n a.stage new ((stays_on n).put old at bytes new a.stage does a.at) is_new fine

  -- they are together, and what is known of the device was known before
  module _ (down up : List (List ℕ)) (floors : ℕ → ℕ) (t : IsTogether n old disk down up floors touches) (has : HasIfNew n old) (new : Host)
      (is_new : IsNew n new.driver.plan) where
    calm : (IsFlushTick n old → ⊥) → IsCalmTick n old
    calm unflushed = elim (calm_or_flush n old runs.on.going (never_cleared n old runs.on.sound t.well)) [ inl is ↦ is | inr flush ↦ absurd (unflushed flush) ]

    together_turn : (turn : HostTurn) → Does old turn new → IsAsideTurn n old turn → HasSignature n new
    together_turn (Ticked acted) does aside =
        let steady : IsCalmTick n old = calm aside in
        let was : IsNew n old.driver.plan = new_was n old (Ticked acted) new does steady t.served.tended.plan.order is_new in
        signature_stays n old (Ticked acted) new (omega (arith, below)) does runs.on.sound steady (has was t.well)
    together_turn (Took frame report) does aside =
        signature_stays n old (Took frame report) new (omega (arith, below)) does runs.on.sound aside
        (has (new_was n old (Took frame report) new does tt t.served.tended.plan.order is_new) t.well)
    together_turn (Pushed frame) does aside =
        signature_stays n old (Pushed frame) new (omega (arith, below)) does runs.on.sound tt
        (has (new_was n old (Pushed frame) new does tt t.served.tended.plan.order is_new) t.well)
    together_turn (Submitted dev request ticket) does aside =
        signature_stays n old (Submitted dev request ticket) new (omega (arith, below)) does runs.on.sound tt
        (has (new_was n old (Submitted dev request ticket) new does tt t.served.tended.plan.order is_new) t.well)
    together_turn (Polled completion) does aside =
        signature_stays n old (Polled completion) new (omega (arith, below)) does runs.on.sound tt
        (has (new_was n old (Polled completion) new does tt t.served.tended.plan.order is_new) t.well)
    together_turn (Put at bytes) does aside =
        signature_stays n old (Put at bytes) new (omega (arith, below)) does runs.on.sound tt
        (has (new_was n old (Put at bytes) new does tt t.served.tended.plan.order is_new) t.well)

  pub aside_turn : (down up : List (List ℕ)) (floors : ℕ → ℕ) → AreEnds n old disk down up floors touches → HasIfNew n old → (turn : HostTurn) (new : Host)
      → Does old turn new → IsAsideTurn n old turn → HasIfNew n new
  aside_turn down up floors (Together t) has turn new does aside = λ is_new fine. together_turn down up floors t has new is_new turn does aside
  aside_turn down up floors (Apart a are) has turn new does aside = λ is_new fine. apart_turn down up a new is_new fine turn does aside

  -- ---- a FIS of the device

  module _ (bytes : List ℕ) (report : TakeReport) (new : Host) (framed : IsFrame bytes) (from : port_of (marked bytes n) ≡ n)
      (does : Does old (Took (marked bytes n) report) new) where
    plan_was : IsNew n new.driver.plan → IsNew n old.driver.plan
    plan_was is_new = subst (λ (d : Driver). IsNew n d.plan) does.driver is_new

    apart_takes : {X : Type 0} (down up : List (List ℕ)) → IsSetAside n old disk down up → IsNew n new.driver.plan → (view_of n new.port).fault ≡ None → X
    apart_takes {X} down up a is_new fine = by_stage a.stage refl
      where
        set_aside : (stage : Stage30) → a.stage ≡ stage → is_faulty stage ≡ false → X
        set_aside stage is well =
            let plain : is_faulty a.stage ≡ false = ap is_faulty is ∙ well in
            plan_recovers n a.stage old.driver.plan plain (a.at.apart plain).plan (plan_was is_new)

        by_stage : (stage : Stage30) → a.stage ≡ stage → X
        by_stage Faulty is =
            by_next down up a new is_new fine (Took (marked bytes n) report)
            ((takes_lead n).turns touches old (marked bytes n) report new a.stage below runs.on.served does a.at
            (λ own. subst (λ (s : Stage30). MayCome30 s (marked bytes n)) (sym is) tt))
        by_stage Cleared is = set_aside Cleared is refl
        by_stage Asks is = set_aside Asks is refl
        by_stage LogSent is = set_aside LogSent is refl
        by_stage Sets is = set_aside Sets is refl
        by_stage On is = set_aside On is refl
        by_stage Clears is = set_aside Clears is refl
        by_stage Off is = set_aside Off is refl

    pub taking_turn : (down up : List (List ℕ)) (floors : ℕ → ℕ) → AreEnds n old disk down (bytes ∷ up) floors touches → HasIfNew n new
    taking_turn down up floors (Together t) =
        λ is_new fine. takes_signature n below plan sectors old disk down up bytes floors touches runs t (plan_was is_new) framed from report new does fine
    taking_turn down up floors (Apart a are) = λ is_new fine. apart_takes down (bytes ∷ up) a is_new fine
