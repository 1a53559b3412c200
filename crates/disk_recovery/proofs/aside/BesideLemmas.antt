-- For `ends_go_on`. What a turn beside the link leaves of a device: one that recovers from nothing, what is awaited of
-- it, and its task file.
use Rattle.std.proofs.Common.{◌≡◌, ℕ, zero, suc, ◌^◌, ◌<◌, ◌⊎◌, Bool, true, false, List, [], ◌∷◌, ◌++◌, sym, ◌∙◌, ap, subst, inl, inr, Option, Some, None}
use Rattle.host_memory.specs.Memory.{Memory}
use Rattle.hba_commands.specs.declared.command.Command as issued_command
use Rattle.hba_fbs.specs.{declared.register.Register.TheVariants.Ci, Issuing.asked, Views.view_of}
use Rattle.hba_laws.specs.{Client.{Touches, own}, Delivering.{issued_below, touched, touches_after}, History.{History, is_at, unless, waiting_in}}
use Rattle.hba_laws.specs.{Hosts.{HostEvent, Runs}, Between.{history_below, with_issued}}
use Rattle.hba_laws.specs.Hosts as event
use Rattle.hba_laws.proofs.Door.{own_app, own_below_is}
use Rattle.disk_simulation.specs.{Elsewhere.{IsElsewhere, LeavesDevice}, Files.IsFineFile}
use Rattle.disk_simulation.proofs.Door.{files_are_left, others_leave_device}
use Rattle.hba_driver.specs.{declared.{path.TaskFile.TaskFile, plan.Plan.Plan}, Drivers.{Driver, device_at}}
use Rattle.hba_driver.specs.Events.{IsSoundHost, events_over, shared_by}
use Rattle.hba_driver.specs.{HostTurns.{Does, DoesAll, Host, HostTurn, Polled, Pushed, Submitted, Ticked, Took, sight_in}, Served.AreBounded}
use Rattle.hba_driver.specs.{Sights.file_shown, Steady.{IsCalmTick, IsFine, IsSteadyPlan, IsSteadyTurn, Issues, slot_in}}
use Rattle.hba_driver.specs.{Ticks.{after_tick, done_ended, seen, turn}, Between.{PlanKeeps, Signs}}
use Rattle.hba_driver.proofs.Door.{act_keeps, acted_plan, keeps_then, of_turn, poll_plan, signed_by, tick_beside, turn_keeps}
use Rattle.disk_recovery.specs.{Kept.IsCalmTurn, Between.AreAway}
use Rattle.disk_recovery.proofs.honest.AwayLemmas.{beside_away}

-- ---- the plan

-- as tick_plan of hba_driver/proofs/steady/SteadyTurns.antt
tick_plan : (n : ℕ) (old : Host) (file : TaskFile) → IsCalmTick n old → IsSteadyPlan n old.driver.plan
    → PlanKeeps n (Signs n old) old.driver.plan (after_tick (sight_in old) file old.driver).plan
unfolding after_tick
tick_plan n old file calm h =
    let v = sight_in old in
    let first = turn_keeps n (Signs n old) v old.driver.plan (done_ended v.issued old.driver.entries) h in
    let second = act_keeps n (Signs n old) v file (turn v old.driver).plan first.steady (turn v old.driver).act
    (λ bit on. signed_by n old.driver.plan.mode old.port old.memory on bit) calm (of_turn v old.driver.plan (done_ended v.issued old.driver.entries)) in
    let whole = keeps_then n (Signs n old) old.driver.plan (turn v old.driver).plan _ first second in
    subst (λ (p : Plan). PlanKeeps n (Signs n old) old.driver.plan p)
    (sym (acted_plan (turn v old.driver).act file (seen v old.driver))) whole

-- the turn is none in which the driver ticks
abbrev pub IsUnticked : HostTurn → Type 0
IsUnticked (Ticked acted) = ⊥
IsUnticked turn = Unit {0}

-- it leaves the plan
pub plan_same : (old : Host) (turn : HostTurn) (new : Host) → Does old turn new → IsUnticked turn → new.driver.plan ≡ old.driver.plan
plan_same old (Ticked acted) new does unticked = absurd unticked
plan_same old (Submitted dev request ticket) new does unticked = ap (λ (d : Driver). d.plan) does.taken.driver
plan_same old (Polled completion) new does unticked = ap (λ (d : Driver). d.plan) does.driver ∙ poll_plan old.driver
plan_same old other new does unticked = ap (λ (d : Driver). d.plan) does.driver

fine_as : (n : ℕ) (p q : Plan) → q ≡ p → IsFine (device_at p n) → IsFine (device_at q n)
fine_as n p q same fine = subst (λ (x : Plan). IsFine (device_at x n)) (sym same) fine

-- a device that recovers from nothing goes on to
pub fine_stays : (n : ℕ) (old : Host) (turn : HostTurn) (new : Host) → Does old turn new → IsSteadyTurn n old turn → IsSteadyPlan n old.driver.plan
    → IsFine (device_at new.driver.plan n)
fine_stays n old (Ticked acted) new does steady h =
    fine_as n (after_tick (sight_in old) (file_shown new.port) old.driver).plan new.driver.plan (ap (λ (d : Driver). d.plan) does.driver)
    (tick_plan n old (file_shown new.port) steady h).steady.fine
fine_stays n old other new does steady h = fine_as n old.driver.plan new.driver.plan (plan_same old other new does tt) h.fine

-- ---- the events of a calm turn

-- they are none of the device's, or issue for it in one slot
pub record EventsAway (n : ℕ) (old new : Host) (turn : HostTurn) (run : DoesAll old (turn ∷ []) new)
    (runs : Runs (shared_by old) (events_over old new (turn ∷ []) run) (shared_by new)) : Type 0 where
  pub slot : ℕ
  pub away : AreAway n slot (shared_by old) (shared_by new) (events_over old new (turn ∷ []) run) runs

pub events_away : (n : ℕ) (old : Host) (turn : HostTurn) (new : Host) (run : DoesAll old (turn ∷ []) new)
    (runs : Runs (shared_by old) (events_over old new (turn ∷ []) run) (shared_by new)) → IsSoundHost old → AreBounded old.driver
    → IsCalmTurn n old turn → EventsAway n old new turn run runs
events_away n old (Took frame report) new run runs sound bounded calm = record { slot = 31; away = (inl calm, tt) }
events_away n old (Pushed frame) new run runs sound bounded calm = absurd calm
events_away n old (Ticked a) new run runs sound bounded calm = record {
  slot = slot_in old;
  away = beside_away n (slot_in old) (shared_by old) (shared_by new) (events_over old new (Ticked a ∷ []) run) runs
      (tick_beside n old a new run sound bounded calm runs);
}
events_away n old (Polled c) new run runs sound bounded calm = record { slot = 31; away = tt }
events_away n old other new run runs sound bounded calm = record { slot = 31; away = (inl tt, tt) }

-- ---- what is awaited

kept_by : (b : Bool) (o : Option ℕ) (s : ℕ) → unless b o ≡ Some s → o ≡ Some s
kept_by true o s is = cc
kept_by false o s is = is

waits_with : (memory : Memory) (m : ℕ) (o : Option issued_command.Command) (past : History) (s : ℕ)
    → waiting_in (with_issued memory m o past) ≡ Some s → waiting_in past ≡ Some s
waits_with memory m None past s is = is
waits_with memory m (Some command) past s is = kept_by (is_at m (waiting_in past)) (waiting_in past) s is

waits_below : (memory : Memory) (commands : ℕ → Option issued_command.Command) (past : History) (m s : ℕ)
    → waiting_in (history_below memory commands past m) ≡ Some s → waiting_in past ≡ Some s
waits_below memory commands past zero s is = is
waits_below memory commands past (suc m) s is =
    waits_below memory commands past m s (waits_with memory m (commands m) (history_below memory commands past m) s is)

waits_issues : (n slot s : ℕ) (old : event.Host) (e : HostEvent) (past : Touches) → Issues n slot old e
    → waiting_in (own n (touched old e ++ past)) ≡ Some s → waiting_in (own n past) ≡ Some s
waits_issues n slot s old e past i is =
    let asks : ℕ → Option issued_command.Command = asked old.port.registers old.memory (2 ^ slot) in
    let there : waiting_in (own n (touched old (event.Wrote Ci (2 ^ slot)) ++ past)) ≡ Some s =
    subst (λ (x : HostEvent). waiting_in (own n (touched old x ++ past)) ≡ Some s) i.is is in
    let told : own n (touched old (event.Wrote Ci (2 ^ slot)) ++ past)
    ≡ history_below old.memory (asked old.port.registers old.memory (2 ^ slot)) (own n past) 32 =
    own_app n (touched old (event.Wrote Ci (2 ^ slot))) past
    ∙ ap (λ (d : ℕ). own n (issued_below d old.memory (asked old.port.registers old.memory (2 ^ slot)) 32) ++ own n past) i.for_dev
    ∙ own_below_is n old.memory (asked old.port.registers old.memory (2 ^ slot)) (own n past) 32 in
    waits_below old.memory (asked old.port.registers old.memory (2 ^ slot)) (own n past) 32 s (sym (ap waiting_in told) ∙ there)

-- what waits for its answer waited before
pub waits_away : (n slot s : ℕ) (old new : event.Host) (events : List HostEvent) (run : Runs old events new) (past : Touches) → n < 16
    → AreAway n slot old new events run → waiting_in (own n (touches_after past old new events run)) ≡ Some s → waiting_in (own n past) ≡ Some s
waits_away n slot s old new [] run past small away is = is
waits_away n slot s old new (e ∷ events) run past small away is =
    by_one away.0 (waits_away n slot s run.0 new events run.2 (touched old e ++ past) small away.1 is)
  where
    by_one : IsElsewhere n old e ⊎ Issues n slot old e → waiting_in (own n (touched old e ++ past)) ≡ Some s → waiting_in (own n past) ≡ Some s
    by_one (inl elsewhere) waits =
        let left : LeavesDevice n old e run.0 = others_leave_device n old run.0 e small run.1 elsewhere in
        sym (ap waiting_in (own_app n (touched old e) past ∙ ap (λ (h : History). h ++ own n past) left.history)) ∙ waits
    by_one (inr i) waits = waits_issues n slot s old e past i waits

-- ---- the task file

-- it stays without an error
pub file_away : (n slot : ℕ) (old new : event.Host) (events : List HostEvent) (run : Runs old events new) → n < 16 → AreAway n slot old new events run
    → IsFineFile (view_of n old.port) → IsFineFile (view_of n new.port)
file_away n slot old new [] run small away is = subst (λ (h : event.Host). IsFineFile (view_of n h.port)) (sym run) is
file_away n slot old new (e ∷ events) run small away is = file_away n slot run.0 new events run.2 small away.1 (by_one away.0)
  where
    by_one : IsElsewhere n old e ⊎ Issues n slot old e → IsFineFile (view_of n run.0.port)
    by_one (inl elsewhere) =
        let left : LeavesDevice n old e run.0 = others_leave_device n old run.0 e small run.1 elsewhere in subst IsFineFile (sym left.view) is
    by_one (inr i) =
        files_are_left.issues n (2 ^ slot) old run.0 small (subst (λ (x : HostEvent). event.Does old x run.0) i.is run.1) is
