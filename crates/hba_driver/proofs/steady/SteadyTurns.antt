-- For `turns_are_steady`. What a turn leaves of the driver's plan and requests for a device with which nothing has
-- failed.
use Rattle.std.proofs.Common.{◌≡◌, ◌≢◌, ℕ, ◌+◌, ◌<◌, ◌⊎◌, ◌&&◌, ◌||◌, Bool, true, false, List, length, map, replicate, get_or, set, refl, sym, ◌∙◌}
use Rattle.std.proofs.{Common.{ap, subst, inl, inr, arith, Option, Some, None}, lemmas.Bool.{cases_eq, cases_lt, false≢true, or_parts, true≢false}}
use Rattle.std.proofs.lemmas.{Bool.Decides.nat_tests, List.{get_or-replicate, get_or_past, length-replicate, FromFn.{get_or-map-range_with_len}}}
use Rattle.std.proofs.lemmas.List.FromFn.{length-map-range_with_len}
use Rattle.std.specs.{Prelude.{if◌then◌else◌, ◌==◌, not, slice_index_or}, List.{list_any, range_with_len}, Option.option_or}
use Rattle.fis_view.specs.Seen.{seen as seen_in}
use Rattle.host_memory.specs.Memory.{Memory}
use Rattle.slots.specs.Slots.{match_some}
use Rattle.hba_fbs.specs.Views.{Port}
use Rattle.hba_laws.proofs.Door.{some_inj}
use Rattle.hba_driver.specs.declared.{mode.Mode.{Mode, TheVariants.{CommandBased, Switching}}, order.Order.{Order, TheVariants.Clear}, path.Path.Path}
use Rattle.hba_driver.specs.declared.{path.{Stage.Stage, TaskFile.TaskFile}, plan.{Device.{Device, TheVariants.{Absent, Starting, Ready}}, Plan.Plan}}
use Rattle.hba_driver.specs.{declared.{request.{Completion.Completion, Request.Request, SubmitError.SubmitError}, slot.Phase.Phase}, Seeing.Sight}
use Rattle.hba_driver.specs.{declared.{slot.Phase.TheVariants.{Waits, Issued, Aside, Ended}, turn.Act.Act}, Drivers.{Driver, Entry, device_at}}
use Rattle.hba_driver.specs.Drivers.{entry_at, has_ended, has_ended_in, holds, is_aside_in, is_issued, is_issued_in, new_driver, waits, waits_in}
use Rattle.hba_driver.specs.{Effects.{effects_of, order_effects}, Orders.{identify_fields, is_flush, order_fields}, Paths.stage_fields}
use Rattle.hba_driver.specs.{Going.GoesOn as PortGoesOn, HostTurns.{Does, Host, HostTurn, Ticked, Submitted, Polled, sight_in}, Laws.{Goes, GoesOn}}
use Rattle.hba_driver.specs.{Laws.{Keeps, Kept, flushes}, Requests.{blocks, device_refusal}, Sights.{file_shown, is_ata, last_d2h, sight_of}}
use Rattle.hba_driver.specs.Steady.{AreSteady, IsAskedOf, IsCalmAct, IsCalmTick, IsClearTick, IsFine, IsFlushTick, IsOpenAt, IsSteady, IsSteadyPlan}
use Rattle.hba_driver.specs.{Steady.{IsSteadyTurn, slot_in, slot_of}, Submits.{after_submit, is_blocked, new_entry, next_slot, queue_refusal}}
use Rattle.hba_driver.specs.{Submits.submit_refusal, Ticks.{acted, after_tick, done_ended, due, effects, effects_due, plan_after, seen, turn, unless}}
use Rattle.hba_driver.specs.Between.{DriverKeeps, PlanKeeps, PollFacts, Signs}
use Rattle.hba_driver.specs.declared.request.SubmitError.TheVariants as refusal
use Rattle.hba_driver.specs.declared.turn.Act.TheVariants as act
use Rattle.hba_driver.proofs.{requests.HistoryLemmas.{back_of, freed, poll_facts}, ticks.LifeLemmas.{keeps_seen, keeps_tick, waits_if_may}}
use Rattle.hba_driver.proofs.{calls.RequestLemmas.set_cases, ticks.ServeLemmas.ticks_serve, steady.SteadyLemmas.{act_keeps, keeps_then, of_turn}}
use Rattle.hba_driver.proofs.{steady.SteadyLemmas.{turn_keeps, unless_here}, calls.SubmitLemmas.none_conflict, events.TurnLemmas.first_none}

-- ---- requests that go on

ended_before : (p q : Phase) → Goes p q → has_ended_in q ≡ false → has_ended_in p ≡ false
ended_before (Ended o) q h k = absurd (true≢false (sym (ap has_ended_in h) ∙ k))
ended_before other q h k = refl

unended_in : (p : Phase) → is_issued_in p ≡ true → has_ended_in p ≡ false
unended_in (Ended o) h = absurd (false≢true h)
unended_in other h = refl

-- what is issued has not ended
pub issued_unended : (e : Entry) → is_issued e.head ≡ true → has_ended e.head ≡ false
issued_unended e h = unended_in e.head.phase h

second_none : (a b : Option SubmitError) → option_or a b ≡ None → b ≡ None
second_none None b h = h
second_none (Some e) b h = cc

unrefused : (b : Bool) (e : SubmitError) → (if b then Some e else None) ≡ None → b ≡ false
unrefused true e h = cc
unrefused false e h = refl

pub not_blocked : (d : Driver) (memory : Memory) (dev : ℕ) (request : Request) → submit_refusal d memory dev request ≡ None → is_blocked d dev request ≡ false
unfolding submit_refusal
not_blocked d memory dev request h =
    let rest = second_none (device_refusal (device_at d.plan dev)) _ h in
    unrefused (is_blocked d dev request) refusal.QueueBusy (first_none (queue_refusal d dev request) _ rest)

ready_device : (device : Device) → device_refusal device ≡ None → device ≡ Ready
ready_device Ready h = refl
ready_device other h = cc

pub is_ready_dev : (d : Driver) (memory : Memory) (dev : ℕ) (request : Request) → submit_refusal d memory dev request ≡ None → device_at d.plan dev ≡ Ready
unfolding submit_refusal
is_ready_dev d memory dev request h = ready_device (device_at d.plan dev) (first_none (device_refusal (device_at d.plan dev)) _ h)

none_some : (e : Entry) {P : Type 0} → None ≡ Some e → P
none_some e h = cc

stands_below : (entries : List (Option Entry)) (s : ℕ) (e : Entry) → entry_at entries s ≡ Some e → s < length entries
stands_below entries s e here = elim (cases_lt s (length entries)) [
  | inl below ↦ below
  | inr past ↦ none_some e (sym (get_or_past entries s None past) ∙ here)
]

all_false : (a b c : Bool) → a ≡ true → b ≡ true → (a && (b && c)) ≡ false → c ≡ false
all_false true true c p q h = h
all_false true false c p q h = absurd (false≢true q)
all_false false b c p q h = absurd (false≢true p)

neither : (a b : Bool) → (a || b) ≡ false → (a ≡ false) × (b ≡ false)
neither false b h = (refl, h)
neither true b h = absurd (true≢false h)

equal_is : (x y : ℕ) → x ≡ y → (x == y) ≡ true
equal_is x y h = grind (arith, nat_tests)

not_ended : (b : Bool) → b ≡ false → not b ≡ true
not_ended false h = refl
not_ended true h = absurd (true≢false h)

-- an open request of the device beside the new one: neither is a Flush
pub no_flush : (d : Driver) (dev s : ℕ) (request : Request) (e : Entry) → is_blocked d dev request ≡ false → IsOpenAt dev s d.entries e → (is_flush request.work ≡ false) × (is_flush e.head.work ≡ false)
no_flush d dev s request e free there =
    let below = stands_below d.entries s e there.stands in
    let one : holds (blocks dev request.work) (Some e) ≡ false =
    subst (λ (o : Option Entry). holds (blocks dev request.work) o ≡ false) there.stands (none_conflict (holds (blocks dev request.work)) d.entries s free below) in
    neither (is_flush request.work) (is_flush e.head.work)
    (all_false (e.head.dev == dev) (not (has_ended e.head)) _ (equal_is e.head.dev dev there.of_dev) (not_ended (has_ended e.head) there.unended) (and_assoc (e.head.dev == dev) (not (has_ended e.head)) _ one))
  where
    and_assoc : (a b c : Bool) → (a && b && c) ≡ false → (a && (b && c)) ≡ false
    and_assoc true true c h = h
    and_assoc true false c h = refl
    and_assoc false b c h = refl

-- ---- requests of a kind: those that are open, or that are live

-- they stand only while the device is ready, and a Flush alone
pub record Alone (n : ℕ) (At : ℕ → List (Option Entry) → Entry → Type 0) (plan : Plan) (entries : List (Option Entry)) : Type 0 where
  pub ready : (s : ℕ) (e : Entry) → At s entries e → device_at plan n ≡ Ready
  pub alone : (s r : ℕ) (e f : Entry) → At s entries e → At r entries f → is_flush e.head.work ≡ true → s ≡ r

-- such a request is open, and what it was before was such a request
pub record IsKind (n : ℕ) (At : ℕ → List (Option Entry) → Entry → Type 0) : Type 0 where
  pub stands : (s : ℕ) (entries : List (Option Entry)) (e : Entry) → At s entries e → IsOpenAt n s entries e
  pub again : (s : ℕ) (old new : List (Option Entry)) (e : Entry) → entry_at old s ≡ Some e → At s new e → At s old e
  pub back : (s : ℕ) (old new : List (Option Entry)) (e f : Entry) → entry_at old s ≡ Some e → GoesOn e f → At s new f → At s old e

module _ (n : ℕ) (At : ℕ → List (Option Entry) → Entry → Type 0) (kind : IsKind n At) where
  record Was (s : ℕ) (old : List (Option Entry)) (f : Entry) : Type 0 where
    pub entry : Entry
    pub is : At s old entry
    pub work : f.head.work ≡ entry.head.work

  was : (s : ℕ) (old new : List (Option Entry)) (f : Entry) → Keeps (entry_at old s) (entry_at new s) → At s new f → Was s old f
  was s old new f keeps there =
      let b = back_of (entry_at old s) (entry_at new s) keeps f (kind.stands s new f there).stands in
      record { entry = b.0; is = kind.back s old new b.0 f b.1 b.2 there; work = ap (λ (x : Entry). x.head.work) b.2.same }

  pub alone_keep : (p q : Plan) (old new : List (Option Entry)) → (device_at p n ≡ Ready → device_at q n ≡ Ready) → ((s : ℕ) → Keeps (entry_at old s) (entry_at new s)) → Alone n At p old → Alone n At q new
  alone_keep p q old new ready keeps h = record {
    ready = λ s f there. let b = was s old new f (keeps s) there in ready (h.ready s b.entry b.is);
    alone = λ s r e f there other flush.
        let b = was s old new e (keeps s) there in
        let c = was r old new f (keeps r) other in
        h.alone s r b.entry c.entry b.is c.is (sym (ap is_flush b.work) ∙ flush);
  }

  pub alone_fewer : (plan : Plan) (old new : List (Option Entry)) → ((s : ℕ) (e : Entry) → entry_at new s ≡ Some e → entry_at old s ≡ Some e) → Alone n At plan old → Alone n At plan new
  alone_fewer plan old new stood h = record {
    ready = λ s e there. h.ready s e (before s e there);
    alone = λ s r e f there other flush. h.alone s r e f (before s e there) (before r f other) flush;
  }
    where
      before : (s : ℕ) (e : Entry) → At s new e → At s old e
      before s e there = kind.again s old new e (stood s e (kind.stands s new e there).stands) there

  module _ (d : Driver) (memory : Memory) (dev : ℕ) (request : Request) (accepted : submit_refusal d memory dev request ≡ None) where
    fresh : Entry
    fresh = new_entry (d.given + 1) dev request

    cases : (s : ℕ) (e : Entry) → At s (after_submit d dev request).entries e → ((s ≡ next_slot d) × (fresh ≡ e)) ⊎ At s d.entries e
    unfolding fresh
    cases s e there = elim (set_cases d.entries (next_slot d) (Some fresh) s e (kind.stands s (after_submit d dev request).entries e there).stands) [
      | inl at ↦ inl (at.0, some_inj fresh e at.1)
      | inr beside ↦ inr (kind.again s d.entries (after_submit d dev request).entries e beside.1 there)
    ]

    to_dev : (s : ℕ) (e : Entry) → fresh ≡ e → At s (after_submit d dev request).entries e → dev ≡ n
    unfolding fresh
    to_dev s e is there = ap (λ (x : Entry). x.head.dev) is ∙ (kind.stands s (after_submit d dev request).entries e there).of_dev

    to_work : (e : Entry) → fresh ≡ e → e.head.work ≡ request.work
    unfolding fresh
    to_work e is = sym (ap (λ (x : Entry). x.head.work) is)

    beside : (s r : ℕ) (e f : Entry) → fresh ≡ f → At r (after_submit d dev request).entries f → At s d.entries e → (is_flush request.work ≡ false) × (is_flush e.head.work ≡ false)
    beside s r e f is new there =
        no_flush d dev s request e (not_blocked d memory dev request accepted) (subst (λ (k : ℕ). IsOpenAt k s d.entries e) (sym (to_dev r f is new)) (kind.stands s d.entries e there))

    pub alone_submit : Alone n At d.plan d.entries → Alone n At d.plan (after_submit d dev request).entries
    alone_submit h = record {
      ready = λ s e there. elim (cases s e there) [
        | inl new ↦ subst (λ (k : ℕ). device_at d.plan k ≡ Ready) (to_dev s e new.1 there) (is_ready_dev d memory dev request accepted)
        | inr was ↦ h.ready s e was
      ];
      alone = λ s r e f there other flush. elim (cases s e there) [
        | inl new ↦ elim (cases r f other) [
          | inl also ↦ new.0 ∙ sym also.0
          | inr was ↦ absurd (false≢true (sym (beside r s f e new.1 there was).0 ∙ sym (ap is_flush (to_work e new.1)) ∙ flush))
        ]
        | inr was ↦ elim (cases r f other) [
          | inl new ↦ absurd (false≢true (sym (beside s r e f new.1 other was).1 ∙ flush))
          | inr too ↦ h.alone s r e f was too flush
        ]
      ];
    }

pub fewer_by : (entries : List (Option Entry)) (place s : ℕ) (e : Entry) → entry_at (set entries place None) s ≡ Some e → entry_at entries s ≡ Some e
fewer_by entries place s e there = elim (set_cases entries place None s e there) [ inl at ↦ none_some e at.1 | inr beside ↦ beside.1 ]

-- those that are open
open_kind : (n : ℕ) → IsKind n (IsOpenAt n)
open_kind n = record {
  stands = λ s entries e h. h;
  again = λ s old new e here h. record { stands = here; of_dev = h.of_dev; unended = h.unended };
  back = λ s old new e f here on h. record { stands = here; of_dev = sym (ap (λ (x : Entry). x.head.dev) on.same) ∙ h.of_dev; unended = ended_before e.head.phase f.head.phase on.goes h.unended };
}

steady_alone : (n : ℕ) (plan : Plan) (entries : List (Option Entry)) → AreSteady n plan entries → Alone n (IsOpenAt n) plan entries
steady_alone n plan entries h = record { ready = h.ready; alone = h.alone }

alone_steady : (n : ℕ) (plan : Plan) (entries : List (Option Entry)) → Alone n (IsOpenAt n) plan entries → AreSteady n plan entries
alone_steady n plan entries h = record { ready = h.ready; alone = h.alone }

-- ---- a tick

pub acted_plan : (a : Option Act) (file : TaskFile) (d : Driver) → (acted a file d).plan ≡ match_some a d.plan (λ x. plan_after x file d.plan)
acted_plan None file d = refl
acted_plan (Some a) file d = refl

pub signed_by : (n : ℕ) (mode : Mode) (port : Port) (memory : Memory) → mode ≡ Switching → slice_index_or (sight_of mode port memory).signed n false ≡ true → is_ata (seen_in (last_d2h memory.structure n)) ≡ true
unfolding sight_of
signed_by n CommandBased port memory on h = absurd (cc)
signed_by n Switching port memory on h = elim (cases_lt n 16) [
  | inl below ↦ sym (get_or-map-range_with_len (λ dev. is_ata (seen_in (last_d2h memory.structure dev))) 0 16 n n false below (omega arith)) ∙ h
  | inr past ↦
      let long = length-map-range_with_len (λ dev. is_ata (seen_in (last_d2h memory.structure dev))) 0 16 in
      absurd (false≢true (sym (get_or_past (map (λ dev. is_ata (seen_in (last_d2h memory.structure dev))) (range_with_len 0 16)) n false (omega (arith, long, past))) ∙ h))
]

tick_plan : (n : ℕ) (old : Host) (file : TaskFile) → IsCalmTick n old → IsSteadyPlan n old.driver.plan → PlanKeeps n (Signs n old) old.driver.plan (after_tick (sight_in old) file old.driver).plan
unfolding after_tick
tick_plan n old file calm h =
    let v : Sight = sight_in old in
    let first = turn_keeps n (Signs n old) v old.driver.plan (done_ended v.issued old.driver.entries) h in
    let second = act_keeps n (Signs n old) v file (turn v old.driver).plan first.steady (turn v old.driver).act (λ bit on. signed_by n old.driver.plan.mode old.port old.memory on bit) calm (of_turn v old.driver.plan (done_ended v.issued old.driver.entries)) in
    let whole = keeps_then n (Signs n old) old.driver.plan (turn v old.driver).plan _ first second in
    subst (λ (p : Plan). PlanKeeps n (Signs n old) old.driver.plan p) (sym (acted_plan (turn v old.driver).act file (seen v old.driver))) whole

keeps_same : (n : ℕ) (signs : Type 0) (d e : Driver) → e ≡ d → IsSteady n d → DriverKeeps n signs d e
keeps_same n signs d e is h = subst (λ (x : Driver). DriverKeeps n signs d x) (sym is) (record { steady = h; asks = λ a. inl a })

tick_keeps : (n : ℕ) (old : Host) (a : Bool) (new : Host) → Does old (Ticked a) new → IsCalmTick n old → IsSteady n old.driver → DriverKeeps n (Signs n old) old.driver new.driver
tick_keeps n old a new does calm h =
    let v : Sight = sight_in old in
    let plan = tick_plan n old (file_shown new.port) calm h.plan in
    let after : Driver = after_tick v (file_shown new.port) old.driver in
    subst (λ (x : Driver). DriverKeeps n (Signs n old) old.driver x) (sym does.driver) (record {
      steady = record {
        plan = plan.steady;
        requests = alone_steady n after.plan after.entries
            (alone_keep n (IsOpenAt n) (open_kind n) old.driver.plan after.plan old.driver.entries after.entries plan.ready (λ s. keeps_tick v (file_shown new.port) old.driver s) (steady_alone n old.driver.plan old.driver.entries h.requests));
      };
      asks = plan.asks;
    })

-- ---- a request is taken, or polled

submit_steady : (n : ℕ) (d : Driver) (memory : Memory) (dev : ℕ) (request : Request) → submit_refusal d memory dev request ≡ None → IsSteady n d → IsSteady n (after_submit d dev request)
submit_steady n d memory dev request accepted h =
    record { plan = h.plan; requests = alone_steady n d.plan _ (alone_submit n (IsOpenAt n) (open_kind n) d memory dev request accepted (steady_alone n d.plan d.entries h.requests)) }

poll_keeps : (n : ℕ) (old : Host) (c : Completion) (new : Host) → Does old (Polled c) new → IsSteady n old.driver → DriverKeeps n (Signs n old) old.driver new.driver
poll_keeps n old c new does h =
    let f : PollFacts old.driver c = poll_facts old.driver c does.polled in
    let steady : IsSteady n (record old.driver { entries = set old.driver.entries f.place None }) =
    record { plan = h.plan; requests = alone_steady n old.driver.plan _ (alone_fewer n (IsOpenAt n) (open_kind n) old.driver.plan old.driver.entries _ (fewer_by old.driver.entries f.place) (steady_alone n old.driver.plan old.driver.entries h.requests)) } in
    subst (λ (x : Driver). DriverKeeps n (Signs n old) old.driver x) (sym (does.driver ∙ freed old.driver c f)) (record { steady = steady; asks = λ a. inl a })

-- ---- each turn

pub turn_steady : (n : ℕ) (old : Host) (t : HostTurn) (new : Host) → Does old t new → IsSteadyTurn n old t → IsSteady n old.driver → DriverKeeps n (Signs n old) old.driver new.driver
turn_steady n old (Ticked a) new does calm h = tick_keeps n old a new does calm h
turn_steady n old (Submitted dev request ticket) new does calm h =
    subst (λ (x : Driver). DriverKeeps n (Signs n old) old.driver x) (sym does.taken.driver)
    (record { steady = submit_steady n old.driver old.memory dev request does.accepted h; asks = λ a. inl a })
turn_steady n old (Polled c) new does calm h = poll_keeps n old c new does h
turn_steady n old other new does calm h = keeps_same n (Signs n old) old.driver new.driver does.driver h

-- ---- while nothing is known of the device

absent_ready : (d : Device) → d ≡ Absent → d ≡ Ready → ⊥
absent_ready d is r = cc

-- the device is absent, slot 30 does not work on it, and none of its requests is open
empty_steady : (n : ℕ) (d : Driver) → device_at d.plan n ≡ Absent → ((p : Path) → d.plan.path ≡ Some p → p.dev ≢ n) → ((s : ℕ) (e : Entry) → IsOpenAt n s d.entries e → ⊥) → IsSteady n d × (IsAskedOf n d.plan → ⊥)
empty_steady n d absent path none = (
  record {
    plan = record {
      fine = subst IsFine (sym absent) tt;
      path = λ p here to. absurd (path p here to);
      order = λ on. absent;
    };
    requests = record { ready = λ s e there. absurd (none s e there); alone = λ s r e f there other flush. absurd (none s e there) };
  },
  λ asked. elim asked [ inl r ↦ absent_ready _ absent r | inr there ↦ path there.0 there.1.0 there.1.1 ],
)

none_path : (x : Path) {P : Type 0} → None ≡ Some x → P
none_path x h = cc

absent_new : (n : ℕ) → get_or (replicate 15 Absent) n Absent ≡ Absent
absent_new n = elim (cases_lt n 15) [
  | inl below ↦ get_or-replicate 15 n Absent Absent below
  | inr past ↦ get_or_past (replicate 15 Absent) n Absent (rw (length-replicate {A = Device} 15 Absent) past)
]

no_entry : (s : ℕ) (e : Entry) → entry_at (replicate 30 None) s ≡ Some e → ⊥
no_entry s e h = elim (cases_lt s 30) [
  | inl less ↦ none_some e (sym (get_or-replicate 30 s None None less) ∙ h)
  | inr least ↦ none_some e (sym (get_or_past (replicate 30 None) s None (rw (length-replicate {A = Option Entry} 30 None) least)) ∙ h)
]

pub opens_steady : (n given : ℕ) → IsSteady n (new_driver given) × (IsAskedOf n (new_driver given).plan → ⊥)
opens_steady n given = empty_steady n (new_driver given) (absent_new n) (λ p here. none_path p here) (λ s e there. no_entry s e there.stands)

-- ---- the flush

or_left : (a b : Bool) → a ≡ true → (a || b) ≡ true
or_left true b h = refl
or_left false b h = absurd (false≢true h)

flush_effects : (n : ℕ) (mode : Mode) (a : Option Act) → a ≡ Some (act.Orders (Clear n)) → list_any (flushes n) (effects_due mode a) ≡ true
unfolding effects_of order_effects order_fields
flush_effects n mode a is = subst (λ (x : Option Act). list_any (flushes n) (effects_due mode x) ≡ true) (sym is) (or_left (n == n) _ (equal_is n n refl))

flush_path : (n : ℕ) (v : Sight) (file : TaskFile) (d : Driver) → due v d ≡ Some (act.Orders (Clear n)) → (p : Path) → (after_tick v file d).plan.path ≡ Some p → p.dev ≢ n
unfolding after_tick plan_after
flush_path n v file d is p here =
    let there : unless n (seen v d).plan.path ≡ Some p = sym (ap (λ (x : Option Act). (acted x file (seen v d)).plan.path) is) ∙ here in
    (unless_here n (seen v d).plan.path p there).1

pub flush_steady : (n : ℕ) (old : Host) (a : Bool) (new : Host) → Does old (Ticked a) new → IsFlushTick n old → IsSteady n new.driver × (IsAskedOf n new.driver.plan → ⊥)
flush_steady n old a new does is =
    let v : Sight = sight_in old in
    let file : TaskFile = file_shown new.port in
    let flushed : list_any (flushes n) (effects v old.driver) ≡ true = flush_effects n old.driver.plan.mode (due v old.driver) is in
    let all : IsSteady n (after_tick v file old.driver) × (IsAskedOf n (after_tick v file old.driver).plan → ⊥) =
    empty_steady n (after_tick v file old.driver) (ticks_serve.leaves v file old.driver n flushed) (λ p here. flush_path n v file old.driver is p here)
    (λ s e there. true≢false (sym (ticks_serve.ends v file old.driver n s e flushed there.stands there.of_dev) ∙ there.unended)) in
    subst (λ (x : Driver). IsSteady n x × (IsAskedOf n x.plan → ⊥)) (sym does.driver) all

-- ---- slot 30 works on the device

-- only to identify it
pub steady_fields : (n : ℕ) (plan : Plan) (p : Path) → IsSteadyPlan n plan → plan.path ≡ Some p → p.dev ≡ n → stage_fields p.dev p.stage ≡ Some (identify_fields n)
unfolding stage_fields
steady_fields n plan p h here to =
    let was = h.path p here to in
    ap (λ (s : Stage). stage_fields p.dev s) was.0 ∙ ap (λ (k : ℕ). Some (identify_fields k)) to

starting_ready : (d : Device) → d ≡ Starting → d ≡ Ready → ⊥
starting_ready d is r = cc

-- only while none of its requests is open
pub steps_alone : (n : ℕ) (d : Driver) (p : Path) (s : ℕ) (e : Entry) → IsSteady n d → d.plan.path ≡ Some p → p.dev ≡ n → IsOpenAt n s d.entries e → ⊥
steps_alone n d p s e h here to there = starting_ready (device_at d.plan n) (h.plan.path p here to).1.1 (h.requests.ready s e there)

-- ---- while the port goes on

-- an order flushes the device, or not
flush_or_other : (n : ℕ) (o : Order) → (o ≢ Clear n) ⊎ (o ≡ Clear n)
flush_or_other n (Clear port) = elim (cases_eq port n) [
  | inl same ↦ inr (ap Clear same)
  | inr other ↦ inl (λ e. other (let same : port ≡ n = cc in same))
]
flush_or_other n o = inl (λ e. cc)

-- a tick that clears no fault of a device is calm for it, or flushes it
pub calm_or_flush : (n : ℕ) (h : Host) → PortGoesOn h → (IsClearTick n h → ⊥) → IsCalmTick n h ⊎ IsFlushTick n h
calm_or_flush n h goes unclear = by_act (due (sight_in h) h.driver) refl
  where
    by_act : (o : Option Act) → due (sight_in h) h.driver ≡ o → IsCalmAct n o ⊎ (o ≡ Some (act.Orders (Clear n)))
    by_act (Some act.Stops) is = absurd (goes.ticks act.Stops is)
    by_act (Some (act.Clears dev)) is = inl (λ same. unclear (is ∙ ap (λ (k : ℕ). Some (act.Clears k)) (sym same)))
    by_act (Some (act.Orders o)) is = elim (flush_or_other n o) [
      | inl other ↦ inl other
      | inr same ↦ inr (ap (λ (x : Order). Some (act.Orders x)) same)
    ]
    by_act other is = inl tt

-- ---- a request that began

still_begun : (p q : Phase) → waits_in p ≡ false → Goes p q → waits_in q ≡ false
still_begun Waits q begun goes = absurd (true≢false begun)
still_begun Issued q begun goes = goes
still_begun Aside q begun goes = (or_parts (waits_in q) (is_issued_in q) goes).0
still_begun (Ended o) q begun goes = ap waits_in goes

-- it does not wait again
pub begun_later : (e f : Entry) → waits_in e.head.phase ≡ false → GoesOn e f → waits_in f.head.phase ≡ false
begun_later e f begun on = still_begun e.head.phase f.head.phase begun on.goes

not_withdrawn : (p : Phase) → is_issued_in p ≡ true → (is_aside_in p || has_ended_in p) ≡ true → ⊥
not_withdrawn Issued is other = false≢true other
not_withdrawn rest is other = false≢true is

kept_of : (o p : Option Entry) (e : Entry) → o ≡ Some e → Keeps o p → Kept e p
kept_of None p e h keeps = cc
kept_of (Some x) p e h keeps = subst (λ (y : Entry). Kept y p) (some_inj x e h) keeps

-- a tick that leaves it issued is calm for its device, and issues nothing in its slot
module _ (old : Host) (acted_so : Bool) (new : Host) (does : Does old (Ticked acted_so) new) (s : ℕ) (e f : Entry) (low : s < 30) (here : entry_at old.driver.entries s ≡ Some e)
    (there : entry_at new.driver.entries s ≡ Some f) (on : GoesOn e f) (begun : waits_in e.head.phase ≡ false) (is : is_issued f.head ≡ true) where
  f_after : entry_at (after_tick (sight_in old) (file_shown new.port) old.driver).entries s ≡ Some f
  f_after = ap (λ (d : Driver). entry_at d.entries s) (sym does.driver) ∙ there

  dev_is : f.head.dev ≡ e.head.dev
  dev_is = ap (λ (x : Entry). x.head.dev) on.same

  never_flushed : IsFlushTick e.head.dev old → ⊥
  never_flushed flush =
      let steady = flush_steady e.head.dev old acted_so new does flush in
      steady.1 (inl (steady.0.requests.ready s f (record { stands = there; of_dev = dev_is; unended = issued_unended f is })))

  pub begun_calm : IsCalmTick e.head.dev old
  begun_calm = by_act (due (sight_in old) old.driver) refl
    where
      by_act : (o : Option Act) → due (sight_in old) old.driver ≡ o → IsCalmAct e.head.dev o
      by_act (Some act.Stops) due_is =
          absurd (true≢false (sym (ticks_serve.stops (sight_in old) (file_shown new.port) old.driver s f due_is f_after) ∙ issued_unended f is))
      by_act (Some (act.Clears dev)) due_is = λ same.
          not_withdrawn f.head.phase is (ticks_serve.withdraws (sight_in old) (file_shown new.port) old.driver dev s f due_is f_after (dev_is ∙ same))
      by_act (Some (act.Orders o)) due_is = λ same. never_flushed (due_is ∙ ap (λ (x : Order). Some (act.Orders x)) same)
      by_act other due_is = tt

  seen_begun : holds waits (entry_at (seen (sight_in old) old.driver).entries s) ≡ true → ⊥
  seen_begun waits_so =
      let k : Kept e (entry_at (seen (sight_in old) old.driver).entries s) =
      kept_of (entry_at old.driver.entries s) (entry_at (seen (sight_in old) old.driver).entries s) e here (keeps_seen (sight_in old) old.driver s) in
      let it : waits k.entry.head ≡ true = sym (ap (holds waits) k.is) ∙ waits_so in
      true≢false (sym it ∙ begun_later e k.entry begun k.on)

  pub begun_slot : s ≢ slot_in old
  begun_slot = by_act (due (sight_in old) old.driver) refl
    where
      by_act : (o : Option Act) → due (sight_in old) old.driver ≡ o → s ≡ slot_of o → ⊥
      by_act (Some (act.Issues slot dev queued)) due_is at =
          let its : holds waits (entry_at (seen (sight_in old) old.driver).entries slot) ≡ true =
          waits_if_may (turn (sight_in old) old.driver).plan (entry_at (seen (sight_in old) old.driver).entries slot) (ticks_serve.ready (sight_in old) old.driver slot dev queued due_is) in
          seen_begun (subst (λ (k : ℕ). holds waits (entry_at (seen (sight_in old) old.driver).entries k) ≡ true) (sym at) its)
      by_act other due_is at = omega (arith, at, low)
