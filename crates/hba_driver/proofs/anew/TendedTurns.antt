-- For `turns_tend`. What a turn leaves of the driver's plan and requests for a device that is together with its disk.
use Rattle.std.proofs.Common.{◌≡◌, ◌≢◌, ℕ, ◌<◌, ◌⊎◌, ◌||◌, Bool, true, false, List, set, refl, sym, ◌∙◌, ap, subst, inl, inr, arith, Option, Some}
use Rattle.std.proofs.{Common.None, lemmas.{Bool.false≢true, List.FromFn.get_or-map-range_with_len}}
use Rattle.host_memory.specs.Memory.{Memory}
use Rattle.slots.specs.Slots.{has_bit, issue_at}
use Rattle.hba_fbs.specs.Views.{Port, view_of}
use Rattle.hba_laws.proofs.Door.{some_inj}
use Rattle.hba_driver.specs.declared.{mode.Mode.Mode, path.{Path.Path, Recovery.TheVariants.Reset, TaskFile.TaskFile}, plan.Device.TheVariants.Ready}
use Rattle.hba_driver.specs.declared.{path.Stage.TheVariants.AssertReset, plan.Plan.Plan, request.{Completion.Completion, Request.Request}}
use Rattle.hba_driver.specs.{Seeing.Sight, declared.{slot.Phase.{Phase, TheVariants.{Aside, Ended}}, turn.Act.Act}, Drivers.{Driver, Entry}}
use Rattle.hba_driver.specs.{Drivers.{device_at, entry_at, has_ended_in, is_issued, is_issued_in, new_driver, waits, waits_in}, Events.IsSoundHost}
use Rattle.hba_driver.specs.{HostTurns.{Does, Host, HostTurn, Ticked, Submitted, Polled, sight_in}, Laws.{Goes, Keeps}, Sights.{file_shown, sight_of}}
use Rattle.hba_driver.specs.Steady.{HasSignature, IsCalmTick, IsFine, IsFlushTick, IsOpenAt, IsSteady, IsSteadyTurn, IsSwitching, slot_in, slot_of}
use Rattle.hba_driver.specs.{Submits.{after_submit, submit_refusal}, Tended.{AreTended, Fine, IsAskedOn, IsAtStage, IsBegun, IsLiveAt, IsReleasing}}
use Rattle.hba_driver.specs.{Tended.{IsStepless, IsSteplessTurn, IsTended, IsTendedPlan, TendsOn, TurnsTend}, Ticks.{after_tick, done_ended, due}}
use Rattle.hba_driver.specs.{Ticks.{seen, turn}, Turns.{is_in_reset, turn_of}, Between.{Due, PollFacts}}
use Rattle.hba_driver.specs.declared.turn.Act.TheVariants as act
use Rattle.hba_driver.proofs.{ends.DoneLemmas.free_slot, ticks.DueLemmas.{due_turn, goes_turn}, requests.HistoryLemmas.{freed, poll_facts}}
use Rattle.hba_driver.proofs.{ticks.LifeLemmas.keeps_tick, anew.FlushLemmas.flush_unreset, steady.SteadyTurns.{Alone, IsKind, acted_plan}}
use Rattle.hba_driver.proofs.steady.SteadyTurns.{alone_fewer, alone_keep, alone_submit, fewer_by, flush_steady, opens_steady, signed_by}
use Rattle.hba_driver.proofs.anew.TendedLemmas.{PlanTends, recovering_ready, turn_tends}

-- ---- requests that go on

live_unended : (p : Phase) → (waits_in p || is_issued_in p) ≡ true → has_ended_in p ≡ false
live_unended (Ended o) h = absurd (false≢true h)
live_unended other h = refl

-- a request that waits or is issued is open
pub live_open : (n s : ℕ) (entries : List (Option Entry)) (e : Entry) → IsLiveAt n s entries e → IsOpenAt n s entries e
live_open n s entries e there = record { stands = there.stands; of_dev = there.of_dev; unended = live_unended e.head.phase there.lives }

issued_lives : (p : Phase) → is_issued_in p ≡ true → (waits_in p || is_issued_in p) ≡ true
issued_lives Aside h = absurd (false≢true h)
issued_lives (Ended o) h = absurd (false≢true h)
issued_lives other h = refl

-- an issued request is live
pub issued_live : (e : Entry) → is_issued e.head ≡ true → (waits e.head || is_issued e.head) ≡ true
issued_live e h = issued_lives e.head.phase h

lived_before : (p q : Phase) → Goes p q → (waits_in q || is_issued_in q) ≡ true → (waits_in p || is_issued_in p) ≡ true
lived_before Aside q goes h = absurd (false≢true (sym goes ∙ h))
lived_before (Ended o) q goes h = sym (ap (λ (x : Phase). waits_in x || is_issued_in x) goes) ∙ h
lived_before other q goes h = refl

live_kind : (n : ℕ) → IsKind n (IsLiveAt n)
live_kind n = record {
  stands = λ s entries e h. live_open n s entries e h;
  again = λ s old new e here h. record { stands = here; of_dev = h.of_dev; lives = h.lives };
  back = λ s old new e f here on h. record { stands = here; of_dev = sym (ap (λ (x : Entry). x.head.dev) on.same) ∙ h.of_dev; lives = lived_before e.head.phase f.head.phase on.goes h.lives };
}

tended_alone : (n : ℕ) (plan : Plan) (entries : List (Option Entry)) → AreTended n plan entries → Alone n (IsLiveAt n) plan entries
tended_alone n plan entries h = record { ready = h.ready; alone = h.alone }

alone_tended : (n : ℕ) (plan : Plan) (entries : List (Option Entry)) → Alone n (IsLiveAt n) plan entries → AreTended n plan entries
alone_tended n plan entries h = record { ready = h.ready; alone = h.alone }

-- ---- a device with which nothing has failed since its flush

pub steady_tends : (n : ℕ) (d : Driver) → IsSteady n d → IsTended n d
steady_tends n d h = record {
  plan = record { way = Fine h.plan.fine h.plan.path; order = h.plan.order };
  requests = record {
    ready = λ s e there. h.requests.ready s e (live_open n s d.entries e there);
    alone = λ s r e f there other flush. h.requests.alone s r e f (live_open n s d.entries e there) (live_open n r d.entries f other) flush;
  };
}

unasked_on : (n : ℕ) (plan : Plan) → (Rattle.hba_driver.specs.Steady.IsAskedOf n plan → ⊥) → IsAskedOn n plan → ⊥
unasked_on n plan none (inl r) = none (inl r)
unasked_on n plan none (inr there) = none (inr (there.0, (there.1.0, there.1.1.0)))

pub opens_tended : (n given : ℕ) → IsTended n (new_driver given) × (IsAskedOn n (new_driver given).plan → ⊥)
opens_tended n given = (steady_tends n (new_driver given) (opens_steady n given).0, unasked_on n (new_driver given).plan (opens_steady n given).1)

pub flush_tended : (n : ℕ) (old : Host) (a : Bool) (new : Host) → Does old (Ticked a) new → IsFlushTick n old → IsTended n new.driver × (IsAskedOn n new.driver.plan → ⊥)
flush_tended n old a new does is =
    let steady = flush_steady n old a new does is in
    (steady_tends n new.driver steady.0, unasked_on n new.driver.plan steady.1)

-- ---- a tick

in_reset_is : (n : ℕ) (mode : Mode) (port : Port) (memory : Memory) → n < 16 → is_in_reset (sight_of mode port memory) n ≡ (view_of n port).state.resetting
unfolding sight_of
in_reset_is n mode port memory below = get_or-map-range_with_len (λ dev. (view_of dev port).state.resetting) 0 16 n n false below (omega arith)

tick_plan : (n : ℕ) (old : Host) (file : TaskFile) → IsSwitching old → IsCalmTick n old → IsTendedPlan n old.driver.plan
    → PlanTends n (HasSignature n old) (sight_in old) (due (sight_in old) old.driver) old.driver.plan (after_tick (sight_in old) file old.driver).plan
unfolding after_tick
tick_plan n old file on calm h =
    let v : Sight = sight_in old in
    let whole = turn_tends n (HasSignature n old) v file old.driver.plan (done_ended v.issued old.driver.entries) (λ bit. signed_by n old.driver.plan.mode old.port old.memory on bit) on h calm in
    subst (λ (p : Plan). PlanTends n (HasSignature n old) (sight_in old) (due (sight_in old) old.driver) old.driver.plan p) (sym (acted_plan (turn v old.driver).act file (seen v old.driver))) whole

tick_tends : (n : ℕ) (old : Host) (a : Bool) (new : Host) → n < 16 → Does old (Ticked a) new → IsSwitching old → IsCalmTick n old → IsTended n old.driver → TendsOn n old (Ticked a) new
tick_tends n old a new below does on calm h =
    let v : Sight = sight_in old in
    let after : Driver = after_tick v (file_shown new.port) old.driver in
    let plan = subst (λ (x : Driver). PlanTends n (HasSignature n old) (sight_in old) (due (sight_in old) old.driver) old.driver.plan x.plan) (sym does.driver) (tick_plan n old (file_shown new.port) on calm h.plan) in
    let requests : AreTended n new.driver.plan new.driver.entries =
    alone_tended n new.driver.plan new.driver.entries
    (alone_keep n (IsLiveAt n) (live_kind n) old.driver.plan new.driver.plan old.driver.entries new.driver.entries plan.ready
    (λ s. subst (λ (x : Driver). Keeps (entry_at old.driver.entries s) (entry_at x.entries s)) (sym does.driver) (keeps_tick v (file_shown new.port) old.driver s)) (tended_alone n old.driver.plan old.driver.entries h.requests)) in
    let shown : is_in_reset (sight_in old) n ≡ (view_of n old.port).state.resetting = in_reset_is n old.driver.plan.mode old.port old.memory below in
    record {
      next = elim plan.next [
        | inl on ↦ inl (record { plan = on; requests = requests })
        | inr reset ↦ inr (
          reset.0,
          record {
            device = reset.1.0;
            works = reset.1.1.0;
            order = reset.1.1.1;
            none = λ s e there. recovering_ready Reset (sym reset.1.0 ∙ requests.ready s e there);
          },
        )
      ];
      ready = plan.ready;
      asks = λ on. elim (plan.asks on) [
        | inl was ↦ inl was
        | inr more ↦ elim more [
          | inl signed ↦ inr (inl signed)
          | inr over ↦ inr (inr (over.0, sym shown ∙ over.1))
        ]
      ];
      well = plan.well;
      begun = plan.begun;
      releasing = plan.releasing;
      awaiting = λ there set. plan.awaiting there (shown ∙ set);
    }

-- ---- the other turns

-- they leave the plan
plan_stays : (n : ℕ) (old : Host) (t : HostTurn) (new : Host) → new.driver.plan ≡ old.driver.plan → (IsAtStage n IsBegun new.driver.plan → IsSteplessTurn old t) → IsTended n new.driver → TendsOn n old t new
plan_stays n old t new same stepless h = record {
  next = inl h;
  ready = λ r. subst (λ (p : Plan). device_at p n ≡ Ready) (sym same) r;
  asks = λ on. inl (subst (λ (p : Plan). IsAskedOn n p) same on);
  well = λ f. inl (subst (λ (p : Plan). IsFine (device_at p n)) same f);
  begun = λ there. (subst (λ (p : Plan). IsAtStage n IsBegun p) same there, stepless there);
  releasing = λ there. subst (λ (p : Plan). IsAtStage n IsReleasing p) same there;
  awaiting = λ there set. subst (λ (p : Plan). IsAtStage n IsReleasing p) (sym same) there;
}

driver_stays : (n : ℕ) (old new : Host) → new.driver ≡ old.driver → IsTended n old.driver → IsTended n new.driver
driver_stays n old new is h = subst (λ (x : Driver). IsTended n x) (sym is) h

submit_tended : (n : ℕ) (d : Driver) (memory : Memory) (dev : ℕ) (request : Request) → submit_refusal d memory dev request ≡ None → IsTended n d → IsTended n (after_submit d dev request)
submit_tended n d memory dev request accepted h =
    record { plan = h.plan; requests = alone_tended n d.plan _ (alone_submit n (IsLiveAt n) (live_kind n) d memory dev request accepted (tended_alone n d.plan d.entries h.requests)) }

poll_tends : (n : ℕ) (old : Host) (c : Completion) (new : Host) → Does old (Polled c) new → IsTended n old.driver → TendsOn n old (Polled c) new
poll_tends n old c new does h =
    let f : PollFacts old.driver c = poll_facts old.driver c does.polled in
    let tended : IsTended n (record old.driver { entries = set old.driver.entries f.place None }) =
    record { plan = h.plan; requests = alone_tended n old.driver.plan _ (alone_fewer n (IsLiveAt n) (live_kind n) old.driver.plan old.driver.entries _ (fewer_by old.driver.entries f.place) (tended_alone n old.driver.plan old.driver.entries h.requests)) } in
    plan_stays n old (Polled c) new (ap (λ (x : Driver). x.plan) (does.driver ∙ freed old.driver c f)) (λ there. tt)
    (subst (λ (x : Driver). IsTended n x) (sym (does.driver ∙ freed old.driver c f)) tended)

-- ---- the slot of a tick

-- a tick that issues no command of the driver's own for a device issues in another slot
stepless_by : (v : Sight) (plan : Plan) (entries : List (Option Entry)) (a : Option Act) → Due v plan entries a → IsStepless a → slot_of a ≢ 30
stepless_by v plan entries (Some (act.Steps dev stage)) is stepless at = stepless
stepless_by v plan entries (Some (act.Issues slot dev queued)) is stepless at = let low = is.0.below in omega (arith, at, low)
stepless_by v plan entries other is stepless at = omega (arith, at)

pub stepless_slot : (old : Host) (a : Bool) → IsSteplessTurn old (Ticked a) → slot_in old ≢ 30
stepless_slot old a stepless =
    stepless_by (sight_in old) (turn (sight_in old) old.driver).plan (done_ended (sight_in old).issued old.driver.entries) (due (sight_in old) old.driver)
    (due_turn (sight_in old) old.driver.plan (done_ended (sight_in old).issued old.driver.entries)) stepless

-- ---- what slot 30 held

out_or_none : (n : ℕ) (x : Path) (o : Option Path) (low : Type 0) → o ≡ Some x → x.asked ≡ true → ((o ≡ None) × low) ⊎ (o ≡ Some (record { dev = n; stage = AssertReset; asked = false })) → ⊥
out_or_none n x o low there asked (inl none) = let bad : None ≡ Some x = sym none.0 ∙ there in cc bad
out_or_none n x o low there asked (inr goes) =
    let y : Path = record { dev = n; stage = AssertReset; asked = false } in
    let same : y ≡ x = some_inj y x (sym goes ∙ there) in
    false≢true (ap (λ (p : Path). p.asked) same ∙ asked)

reset_over : (n : ℕ) (v : Sight) (plan : Plan) (entries : List (Option Entry)) (x : Path) (b : Bool) → has_bit v.issued 30 ≡ b → (turn_of v plan entries).act ≡ Some (act.Steps n AssertReset) → plan.path ≡ Some x → x.asked ≡ true → b ≡ false
reset_over n v plan entries x false bit is here asked = refl
reset_over n v plan entries x true bit is here asked =
    let stays : (turn_of v plan entries).plan.path ≡ Some x = (goes_turn v plan entries).path bit x here asked in
    absurd (out_or_none n x (turn_of v plan entries).plan.path (n < 15) stays asked (subst (λ (a : Option Act). Due v (turn_of v plan entries).plan entries a) is (due_turn v plan entries)))

pub slot_over : (n : ℕ) (old : Host) (p : Path) → IsSoundHost old → due (sight_in old) old.driver ≡ Some (act.Steps n AssertReset) → old.driver.plan.path ≡ Some p → p.asked ≡ true → issue_at old.port.slots 30 ≡ None
slot_over n old p sound is here asked =
    free_slot old.driver.plan.mode old.port old.memory 30 sound.ruled.table (omega arith)
    (reset_over n (sight_in old) old.driver.plan (done_ended (sight_in old).issued old.driver.entries) p (has_bit (sight_in old).issued 30) refl is here asked)

-- ---- each turn

pub turn_tended : (n : ℕ) (old : Host) (t : HostTurn) (new : Host) → n < 16 → Does old t new → IsSwitching old → IsSteadyTurn n old t → IsTended n old.driver → TendsOn n old t new
turn_tended n old (Ticked a) new below does on calm h = tick_tends n old a new below does on calm h
turn_tended n old (Submitted dev request ticket) new below does on calm h =
    plan_stays n old (Submitted dev request ticket) new (ap (λ (x : Driver). x.plan) does.taken.driver) (λ there. tt)
    (subst (λ (x : Driver). IsTended n x) (sym does.taken.driver) (submit_tended n old.driver old.memory dev request does.accepted h))
turn_tended n old (Polled c) new below does on calm h = poll_tends n old c new does h
turn_tended n old other new below does on calm h = plan_stays n old other new (ap (λ (x : Driver). x.plan) does.driver) (λ there. tt) (driver_stays n old new does.driver h)

pub each_is_tended : (n : ℕ) → TurnsTend n
each_is_tended n = record {
  steady = λ d h. steady_tends n d h;
  opens = λ given. opens_tended n given;
  flushed = λ old a new does is. flush_tended n old a new does is;
  unreset = λ old a new below does is. flush_unreset n old a new below does is;
  over = λ old a p sound is here asked. slot_over n old p sound is here asked;
  stays = λ old t new below does on calm h. turn_tended n old t new below does on calm h;
}
