-- For `turns_are_steady`. What a calm tick leaves of the plan of a device with which nothing has failed.
use Rattle.std.proofs.Common.{◌≡◌, ◌≢◌, ℕ, ◌+◌, ◌⊎◌, ◌&&◌, Bool, true, false, nat_lt, List, length, get_or, set, refl, sym, ◌∙◌, ap, subst, inl, inr, arith, Option, Some, None}
use Rattle.std.specs.{Prelude.{if◌then◌else◌, ◌==◌, ◌%◌, not, is_some}, List.range_with_len, Option.{option_map, option_or}}
use Rattle.std.proofs.lemmas.{Bool.{cases_eq, cases_lt, false≢true, ne_eqb}, Bool.Decides.nat_tests}
use Rattle.std.proofs.lemmas.List.{get_or_past, get_or-set_other, get_or-set_same, length-set}
use Rattle.slots.specs.Slots.{lowest_below, match_some}
use Rattle.hba_driver.specs.declared.order.Order.{Order, TheVariants.{ResetOn, AwaitSignature, CountPorts, Enable, Open, Scan, Clear, Detect, Watch}}
use Rattle.hba_driver.specs.declared.{path.Path.Path, path.Stage.{Stage, TheVariants.{Identify, ReadLog}}, path.TaskFile.TaskFile}
use Rattle.hba_driver.specs.declared.{plan.Device.{Device, TheVariants.{Absent, Starting, Ready, Unusable, Recovering}}, plan.Plan.Plan}
use Rattle.hba_driver.specs.{Seeing.Sight, declared.turn.Act.Act, Drivers.{Entry, device_at, with_device}, Orders.{next_order, open_from, scan_from}}
use Rattle.hba_driver.specs.{Paths.{first_stage, next_stage}, Steady.{IsCalmAct, IsFine, IsSteadyPlan, detects}}
use Rattle.hba_driver.specs.Ticks.{from_reset, ordered, plan_after, recovering, unless}
use Rattle.hba_driver.specs.Turns.{advanced, allowed, answered, control_news, control_seen, control_turn, detected, device_due, device_or_request}
use Rattle.hba_driver.specs.Turns.{device_seen, early_due, fault_due, found_of, is_back, is_due, is_there, issue_of, may_issue, met, met_order}
use Rattle.hba_driver.specs.Turns.{met_path, noted, opening_due, order_allowed, order_due, path_answered, path_due, path_met, path_to, request_due}
use Rattle.hba_driver.specs.{Turns.{restart_due, signed_order, stage_due, stage_for, step_of, turn_of, with_next}, Between.{DueOf, PlanKeeps}}
use Rattle.hba_driver.specs.declared.turn.Act.TheVariants as act
use Rattle.hba_driver.proofs.ticks.DueLemmas.{early_by, met_asked, late_by, order_allowed_by, turn_by}

-- ---- what does not concern the device

-- The device and its path are as they were. It is looked for only if it was before.
pub record Beside (n : ℕ) (p q : Plan) : Type 0 where
  pub device : device_at q n ≡ device_at p n
  pub path : (x : Path) → x.dev ≡ n → p.path ≡ Some x → q.path ≡ Some x
  pub back : (x : Path) → x.dev ≡ n → q.path ≡ Some x → p.path ≡ Some x
  pub order : detects n q.asked q.order ≡ true → detects n p.asked p.order ≡ true

pub beside_same : (n : ℕ) (p : Plan) → Beside n p p
beside_same n p = record { device = refl; path = λ x to here. here; back = λ x to here. here; order = λ on. on }

pub beside_then : (n : ℕ) (p q r : Plan) → Beside n p q → Beside n q r → Beside n p r
beside_then n p q r h k = record {
  device = k.device ∙ h.device;
  path = λ x to here. k.path x to (h.path x to here);
  back = λ x to here. h.back x to (k.back x to here);
  order = λ on. h.order (k.order on);
}

beside_path : (n : ℕ) (p q : Plan) → device_at q n ≡ device_at p n → q.path ≡ p.path → (detects n q.asked q.order ≡ true → detects n p.asked p.order ≡ true) → Beside n p q
beside_path n p q device path order = record { device = device; path = λ x to here. path ∙ here; back = λ x to here. sym path ∙ here; order = order }

-- ---- what goes on

keeps_none : (n : ℕ) (signs : Type 0) (p : Plan) → IsSteadyPlan n p → PlanKeeps n signs p p
keeps_none n signs p h = record { steady = h; ready = λ r. r; asks = λ a. inl a }

pub keeps_then : (n : ℕ) (signs : Type 0) (p q r : Plan) → PlanKeeps n signs p q → PlanKeeps n signs q r → PlanKeeps n signs p r
keeps_then n signs p q r h k = record {
  steady = k.steady;
  ready = λ is. k.ready (h.ready is);
  asks = λ a. elim (k.asks a) [ inl was ↦ h.asks was | inr signed ↦ inr signed ];
}

-- if the device is as it was, and slot 30 works on it only if it did before
keeps_beside : (n : ℕ) (signs : Type 0) (p q : Plan) → IsSteadyPlan n p → device_at q n ≡ device_at p n → ((x : Path) → q.path ≡ Some x → x.dev ≡ n → p.path ≡ Some x)
    → (detects n q.asked q.order ≡ true → detects n p.asked p.order ≡ true) → PlanKeeps n signs p q
keeps_beside n signs p q h same path order = record {
  steady = record {
    fine = subst IsFine (sym same) h.fine;
    path = λ x here is. let was = h.path x (path x here is) is in (was.0, (was.1.0, same ∙ was.1.1));
    order = λ on. same ∙ h.order (order on);
  };
  ready = λ is. same ∙ is;
  asks = λ a. elim a [
    | inl is ↦ inl (inl (sym same ∙ is))
    | inr there ↦ inl (inr (there.0, (path there.0 there.1.0 there.1.1, there.1.1)))
  ];
}

keeps_as : (n : ℕ) (signs : Type 0) (p q : Plan) → IsSteadyPlan n p → Beside n p q → PlanKeeps n signs p q
keeps_as n signs p q h b = keeps_beside n signs p q h b.device (λ x here to. b.back x to here) b.order

-- ---- devices that are set

pub set_other : (devices : List Device) (m n : ℕ) (device : Device) → n ≢ m → get_or (set devices m device) n Absent ≡ get_or devices n Absent
set_other devices m n device other = get_or-set_other devices m n device Absent other

-- an element of a list that is set is what it is set to, or past the end
pub set_same : (devices : List Device) (n : ℕ) (device : Device) → (get_or (set devices n device) n Absent ≡ device) ⊎ (get_or (set devices n device) n Absent ≡ Absent)
set_same devices n device = elim (cases_lt n (length devices)) [
  | inl below ↦ inl (get_or-set_same devices n device Absent below)
  | inr past ↦ inr (get_or_past (set devices n device) n Absent (rw (length-set devices n device) past))
]

absent_ready : (d : Device) → d ≡ Absent → d ≡ Ready → ⊥
absent_ready d is r = cc

absent_starting : (d : Device) → d ≡ Absent → d ≡ Starting → ⊥
absent_starting d is r = cc

starting_ready : (d : Device) → d ≡ Starting → d ≡ Ready → ⊥
starting_ready d is r = cc

-- ---- slot 31

detected_cases : (answer : ℕ) (device : Device) → device ≡ Absent → (detected answer device ≡ Starting) ⊎ (detected answer device ≡ Absent)
detected_cases answer device none = subst (λ (d : Device). (detected answer d ≡ Starting) ⊎ (detected answer d ≡ Absent)) (sym none) (by_test (is_there answer))
  where
    by_test : (b : Bool) → ((if b then Starting else Absent) ≡ Starting) ⊎ ((if b then Starting else Absent) ≡ Absent)
    by_test true = inl refl
    by_test false = inr refl

pub never : (n found from : ℕ) → detects n false (scan_from found from) ≡ true → ⊥
unfolding scan_from
never n found from h = by_case (lowest_below (λ port. Rattle.std.specs.Prelude.nat_le from port && Rattle.slots.specs.Slots.has_bit found port) 15) h
  where
    by_case : (o : Option ℕ) → detects n false (match_some o Watch Clear) ≡ true → ⊥
    by_case None k = false≢true k
    by_case (Some p) k = false≢true k

pub never_open : (n ports from : ℕ) → detects n false (open_from ports from) ≡ true → ⊥
never_open n ports from h = by_test (nat_lt from ports) h
  where
    by_test : (b : Bool) → detects n false (if b then Open from else Scan) ≡ true → ⊥
    by_test true k = false≢true k
    by_test false k = false≢true k

pub equal_is : (x y : ℕ) → x ≡ y → (x == y) ≡ true
equal_is x y e = grind (arith, nat_tests)

module _ (n : ℕ) (v : Sight) (plan : Plan) where
  answers_beside : (order : Order) → plan.order ≡ order → plan.asked ≡ true → order ≢ Detect n → Beside n plan (with_next order (noted v order plan))
  unfolding noted next_order
  answers_beside Enable is out other = beside_path n plan _ refl refl (λ on. absurd (never_open n plan.ports 0 on))
  answers_beside (Open port) is out other = beside_path n plan _ refl refl (λ on. absurd (never_open n plan.ports (port + 1) on))
  answers_beside Scan is out other = beside_path n plan _ refl refl (λ on. absurd (never n v.answer 0 on))
  answers_beside (Clear port) is out other = beside_path n plan _ refl refl (λ on. subst (λ (o : Order). detects n plan.asked o ≡ true) (sym is) (subst (λ (b : Bool). detects n b (Clear port) ≡ true) (sym out) on))
  answers_beside (Detect port) is out other = beside_path n plan _ (set_other plan.devices port n (detected v.answer (device_at plan port)) (λ e. other (ap Detect (sym e)))) refl (λ on. absurd (never n plan.found (port + 1) on))
  answers_beside rest is out other = beside_path n plan (with_next rest (noted v rest plan)) refl refl (λ on. absurd (false≢true on))

  answered_if : plan.order ≢ Detect n → (a out : Bool) → plan.asked ≡ a → Beside n plan (if a && not out then with_next plan.order (noted v plan.order plan) else plan)
  answered_if other true false on = answers_beside plan.order refl on other
  answered_if other true true on = beside_same n plan
  answered_if other false out on = beside_same n plan

  answered_beside : plan.order ≢ Detect n → Beside n plan (answered v plan)
  answered_beside other = answered_if other plan.asked (Rattle.hba_driver.specs.Turns.is_out v plan) refl

  signed_never : detects n false (signed_order v) ≡ true → ⊥
  signed_never on = by_test v.resetting (v.answer == 0x96690101) on
    where
      by_test : (b c : Bool) → detects n false (if b then AwaitSignature else if c then CountPorts else ResetOn) ≡ true → ⊥
      by_test true c k = false≢true k
      by_test false true k = false≢true k
      by_test false false k = false≢true k

  met_never : (order : Order) → detects n false (met_order v order) ≡ true → detects n false order ≡ true
  unfolding met_order
  met_never AwaitSignature on = absurd (signed_never on)
  met_never Watch on = by_test v.notified on
    where
      by_test : (b : Bool) → detects n false (if b then Scan else Watch) ≡ true → detects n false Watch ≡ true
      by_test true k = k
      by_test false k = k
  met_never other on = on

  met_if : (a : Bool) → plan.asked ≡ a → Beside n plan (if a then plan else record plan { order = met_order v plan.order })
  met_if true is = beside_same n plan
  met_if false is = beside_path n plan _ refl refl (λ on. subst (λ (b : Bool). detects n b plan.order ≡ true) (sym is) (met_never plan.order (subst (λ (b : Bool). detects n b (met_order v plan.order) ≡ true) is on)))

  pub met_beside : Beside n plan (met v plan)
  met_beside = met_if plan.asked refl

pub control_beside : (n : ℕ) (v : Sight) (plan : Plan) → plan.order ≢ Detect n → Beside n plan (control_seen v plan)
control_beside n v plan other = beside_then n plan (answered v plan) (control_seen v plan) (answered_beside n v plan other) (met_beside n v (answered v plan))

pub detect_or_other : (n : ℕ) (o : Order) → (o ≡ Detect n) ⊎ (o ≢ Detect n)
detect_or_other n (Detect port) = elim (cases_eq port n) [
  | inl same ↦ inl (ap Detect same)
  | inr other ↦ inr (λ e. other (let same : port ≡ n = cc in same))
]
detect_or_other n o = inr (λ e. cc)

-- if the search for a device is answered, the device was absent
module _ (n : ℕ) (signs : Type 0) (v : Sight) (plan : Plan) (h : IsSteadyPlan n plan) where
  detected_here : plan.order ≡ Detect n → PlanKeeps n signs plan (with_next (Detect n) (noted v (Detect n) plan))
  unfolding noted next_order
  detected_here is =
      let none : device_at plan n ≡ Absent = h.order (subst (λ (o : Order). detects n plan.asked o ≡ true) (sym is) (equal_is n n refl)) in
      let now : (device_at (with_device n (detected v.answer (device_at plan n)) plan) n ≡ Starting) ⊎ (device_at (with_device n (detected v.answer (device_at plan n)) plan) n ≡ Absent) =
      set_cases_at plan.devices n v.answer (device_at plan n) none in
      record {
        steady = record {
          fine = elim now [ inl s ↦ subst IsFine (sym s) tt | inr a ↦ subst IsFine (sym a) tt ];
          path = λ x here to. absurd (absent_starting (device_at plan n) none (h.path x here to).1.1);
          order = λ on. absurd (never n plan.found (n + 1) on);
        };
        ready = λ r. absurd (absent_ready (device_at plan n) none r);
        asks = λ a. elim a [
          | inl r ↦ elim now [ inl s ↦ absurd (starting_ready _ s r) | inr b ↦ absurd (absent_ready _ b r) ]
          | inr there ↦ inl (inr there)
        ];
      }
    where
      set_cases_at : (devices : List Device) (n answer : ℕ) (was : Device) → was ≡ Absent
          → (get_or (set devices n (detected answer was)) n Absent ≡ Starting) ⊎ (get_or (set devices n (detected answer was)) n Absent ≡ Absent)
      set_cases_at devices n answer was absent = elim (set_same devices n (detected answer was)) [
        | inl is ↦ elim (detected_cases answer was absent) [ inl s ↦ inl (is ∙ s) | inr a ↦ inr (is ∙ a) ]
        | inr past ↦ inr past
      ]

  sought_if : (b : Bool) → plan.order ≡ Detect n → PlanKeeps n signs plan (if b then with_next plan.order (noted v plan.order plan) else plan)
  sought_if true is = subst (λ (o : Order). PlanKeeps n signs plan (with_next o (noted v o plan))) (sym is) (detected_here is)
  sought_if false is = keeps_none n signs plan h

  answered_keeps : PlanKeeps n signs plan (answered v plan)
  answered_keeps = elim (detect_or_other n plan.order) [ inl is ↦ sought_if (plan.asked && not (Rattle.hba_driver.specs.Turns.is_out v plan)) is | inr other ↦ keeps_as n signs plan _ h (answered_beside n v plan other) ]

control_keeps : (n : ℕ) (signs : Type 0) (v : Sight) (plan : Plan) → IsSteadyPlan n plan → PlanKeeps n signs plan (control_seen v plan)
control_keeps n signs v plan h =
    let first = answered_keeps n signs v plan h in
    keeps_then n signs plan (answered v plan) (control_seen v plan) first (keeps_as n signs (answered v plan) _ first.steady (met_beside n v (answered v plan)))

-- ---- slot 30

pub same_path : (x y : Path) → Some x ≡ Some y → x ≡ y
same_path x y h = cc

pub none_path : (x : Path) {P : Type 0} → None ≡ Some x → P
none_path x h = cc

pub path_to_dev : (dev : ℕ) (stage : Option Stage) (x : Path) → path_to dev stage ≡ Some x → x.dev ≡ dev
path_to_dev dev None x h = none_path x h
path_to_dev dev (Some s) x h =
    let next : Path = record { dev = dev; stage = s; asked = false } in
    ap (λ (p : Path). p.dev) (sym (same_path next x h))

-- what is found of another device
module _ (n : ℕ) (v : Sight) (plan : Plan) where
  found_device : (stage : Stage) (dev : ℕ) → dev ≢ n → device_at (found_of v stage dev plan) n ≡ device_at plan n
  unfolding found_of
  found_device Identify dev other = set_other plan.devices dev n _ (λ e. other (sym e))
  found_device (ReadLog file) dev other = set_other plan.devices dev n _ (λ e. other (sym e))
  found_device rest dev other = refl

  pub found_order : (stage : Stage) (dev : ℕ) → detects n (found_of v stage dev plan).asked (found_of v stage dev plan).order ≡ detects n plan.asked plan.order
  unfolding found_of
  found_order Identify dev = refl
  found_order other dev = refl

  advanced_beside : (path : Path) → plan.path ≡ Some path → path.dev ≢ n → Beside n plan (advanced v path plan)
  advanced_beside path here other = record {
    device = found_device path.stage path.dev other;
    path = λ x to there. absurd (other (ap (λ (p : Path). p.dev) (same_path path x (sym here ∙ there)) ∙ to));
    back = λ x to there. absurd (other (sym (path_to_dev path.dev (next_stage path.stage) x there) ∙ to));
    order = λ on. sym (found_order path.stage path.dev) ∙ on;
  }

  -- a path of the device whose command is out stays
  path_met_beside : ((x : Path) → plan.path ≡ Some x → x.dev ≡ n → x.asked ≡ true) → Beside n plan (path_met v plan)
  path_met_beside out = record {
    device = refl;
    path = λ x to here. ap (option_map (met_path v)) here ∙ ap Some (met_asked v x (out x here to));
    back = λ x to there. met_same plan.path refl x there to;
    order = λ on. on;
  }
    where
      met_dev : (b : Bool) (path : Path) → (if b then path else record path { stage = Rattle.hba_driver.specs.Turns.met_stage v path.dev path.stage }).dev ≡ path.dev
      met_dev true path = refl
      met_dev false path = refl

      met_same : (o : Option Path) → plan.path ≡ o → (x : Path) → option_map (met_path v) o ≡ Some x → x.dev ≡ n → o ≡ Some x
      met_same None here x there to = none_path x there
      met_same (Some path) here x there to =
          let is : met_path v path ≡ x = same_path (met_path v path) x there in
          ap Some (sym (met_asked v path (out path here (sym (met_dev path.asked path) ∙ ap (λ (p : Path). p.dev) is ∙ to))) ∙ is)

  back_beside : ((x : Path) → plan.path ≡ Some x → x.dev ≢ n) → (o : Option Path) → plan.path ≡ o → Beside n plan (match_some o plan (λ path. if is_back v path then advanced v path plan else plan))
  back_beside free None here = beside_same n plan
  back_beside free (Some path) here = by_back (is_back v path)
    where
      by_back : (b : Bool) → Beside n plan (if b then advanced v path plan else plan)
      by_back true = advanced_beside path here (free path here)
      by_back false = beside_same n plan

-- slot 30 works on another device, or on none
pub device_beside : (n : ℕ) (v : Sight) (plan : Plan) → ((x : Path) → plan.path ≡ Some x → x.dev ≢ n) → Beside n plan (device_seen v plan)
device_beside n v plan free =
    let first : Beside n plan (path_answered v plan) = back_beside n v plan free plan.path refl in
    beside_then n plan (path_answered v plan) (device_seen v plan) first (path_met_beside n v (path_answered v plan) (λ x here to. absurd (free x (first.back x to here) to)))

module _ (n : ℕ) (signs : Type 0) (v : Sight) (plan : Plan) (h : IsSteadyPlan n plan) where
  -- its IDENTIFY data came: it is ready or unusable
  identified : (path : Path) → plan.path ≡ Some path → path.dev ≡ n → PlanKeeps n signs plan (record (found_of v Identify path.dev plan) { path = path_to path.dev (next_stage Identify) })
  unfolding found_of next_stage
  identified path here to =
      let was : device_at plan n ≡ Starting = (h.path path here to).1.1 in
      let device : Device = if v.usable then Ready else Unusable in
      let now : (device_at (with_device path.dev device plan) n ≡ device) ⊎ (device_at (with_device path.dev device plan) n ≡ Absent) =
      subst (λ (k : ℕ). (device_at (with_device k device plan) n ≡ device) ⊎ (device_at (with_device k device plan) n ≡ Absent)) (sym to) (set_same plan.devices n device) in
      record {
        steady = record {
          fine = elim now [ inl s ↦ subst IsFine (sym s) (fine_by v.usable) | inr a ↦ subst IsFine (sym a) tt ];
          path = λ x there k. none_path x there;
          order = λ on. absurd (absent_starting (device_at plan n) (h.order on) was);
        };
        ready = λ r. absurd (starting_ready (device_at plan n) was r);
        asks = λ a. inl (inr (path, (here, to)));
      }
    where
      fine_by : (b : Bool) → IsFine (if b then Ready else Unusable)
      fine_by true = tt
      fine_by false = tt

  advanced_keeps : (path : Path) → plan.path ≡ Some path → PlanKeeps n signs plan (advanced v path plan)
  advanced_keeps path here = elim (cases_eq path.dev n) [
    | inl to ↦ subst (λ (s : Stage). PlanKeeps n signs plan (record (found_of v s path.dev plan) { path = path_to path.dev (next_stage s) })) (sym (h.path path here to).0) (identified path here to)
    | inr other ↦ keeps_as n signs plan (advanced v path plan) h (advanced_beside n v plan path here other)
  ]

  back_keeps : (b : Bool) (path : Path) → plan.path ≡ Some path → PlanKeeps n signs plan (if b then advanced v path plan else plan)
  back_keeps true path here = advanced_keeps path here
  back_keeps false path here = keeps_none n signs plan h

  answered_by : (o : Option Path) → plan.path ≡ o → PlanKeeps n signs plan (match_some o plan (λ path. if is_back v path then advanced v path plan else plan))
  answered_by None here = keeps_none n signs plan h
  answered_by (Some path) here = back_keeps (is_back v path) path here

device_keeps : (n : ℕ) (signs : Type 0) (v : Sight) (plan : Plan) → IsSteadyPlan n plan → PlanKeeps n signs plan (device_seen v plan)
device_keeps n signs v plan h =
    let first = answered_by n signs v plan h plan.path refl in
    keeps_then n signs plan (path_answered v plan) (device_seen v plan) first
    (keeps_as n signs (path_answered v plan) _ first.steady (path_met_beside n v (path_answered v plan) (λ x here to. (first.steady.path x here to).1.0)))

-- ---- the turn

pub turn_keeps : (n : ℕ) (signs : Type 0) (v : Sight) (plan : Plan) (entries : List (Option Entry)) → IsSteadyPlan n plan → PlanKeeps n signs plan (turn_of v plan entries).plan
turn_keeps n signs v plan entries h =
    let first = control_keeps n signs v plan h in
    turn_by (λ t. PlanKeeps n signs plan t.plan) v plan entries (keeps_none n signs plan h) first (keeps_then n signs plan (control_seen v plan) _ first (device_keeps n signs v (control_seen v plan) first.steady))

-- ---- what is due

pub of_device : (v : Sight) (plan : Plan) (entries : List (Option Entry)) → DueOf v plan (device_or_request v plan entries)
of_device v plan entries = late_by (DueOf v plan) tt v plan entries (λ dev stage way fields. elim way [ inl free ↦ inr free.1.1 | inr on ↦ inl on ]) (λ slot e h. tt)

pub of_turn : (v : Sight) (plan : Plan) (entries : List (Option Entry)) → DueOf v (turn_of v plan entries).plan (turn_of v plan entries).act
of_turn v plan entries =
    turn_by (λ t. DueOf v t.plan t.act) v plan entries (early_by (DueOf v plan) tt v plan (λ h. tt) (λ h. tt) (λ h. tt) (λ dev h. tt))
    (order_allowed_by (DueOf v (control_seen v plan)) tt v (control_seen v plan) entries (λ un fields. refl)) (of_device v (device_seen v (control_seen v plan)) entries)

-- ---- what an act leaves

pub unless_here : (port : ℕ) (o : Option Path) (x : Path) → unless port o ≡ Some x → (o ≡ Some x) × (x.dev ≢ port)
unless_here port None x h = none_path x h
unless_here port (Some path) x h = by_case (cases_eq path.dev port)
  where
    by_case : (path.dev ≡ port) ⊎ (path.dev ≢ port) → (Some path ≡ Some x) × (x.dev ≢ port)
    by_case (inl same) = none_path x (sym (ap (λ (b : Bool). if b then None else Some path) (equal_is path.dev port same)) ∙ h)
      where
        equal_is : (a b : ℕ) → a ≡ b → (a == b) ≡ true
        equal_is a b e = grind (arith, nat_tests)
    by_case (inr other) =
        let is : Some path ≡ Some x = sym (ap (λ (b : Bool). if b then None else Some path) (ne_eqb path.dev port other)) ∙ h in
        (is, λ same. other (ap (λ (p : Path). p.dev) (same_path path x is) ∙ same))

none_stage : (s : Stage) {P : Type 0} → None ≡ Some s → P
none_stage s e = cc

-- a stage is due for a device that does not recover only if the device starts and has signed
starts : (device : Device) (signed : Bool) (stage : Stage) → IsFine device → first_stage device signed ≡ Some stage → (device ≡ Starting) × ((signed ≡ true) × (stage ≡ Identify))
starts Starting true stage fine h = (refl, (refl, is_stage stage h))
  where
    is_stage : (s : Stage) → Some Identify ≡ Some s → s ≡ Identify
    is_stage s e = cc
starts Starting false stage fine h = none_stage stage h
starts (Recovering way) signed stage fine h = absurd fine
starts other signed stage fine h = none_stage stage h

-- no stage is due, and an order that is due is the plan's
abbrev pub Plainly : Plan → Option Act → Type 0
Plainly plan (Some (act.Steps dev stage)) = ⊥
Plainly plan (Some (act.Orders order)) = order ≡ plan.order
Plainly plan a = Unit {0}

-- an order that is out
pub detects_out : (n : ℕ) (asked : Bool) (order : Order) → order ≢ Clear n → detects n true order ≡ true → detects n asked order ≡ true
detects_out n asked (Clear port) other on = absurd (other (ap Clear (equal_of port n on)))
  where
    equal_of : (a b : ℕ) → (true && (a == b)) ≡ true → a ≡ b
    equal_of a b e = grind (arith, nat_tests)
detects_out n asked rest other on = on

-- the path of another device is given up
unless_stays : (dev : ℕ) (o : Option Path) (x : Path) → x.dev ≢ dev → o ≡ Some x → unless dev o ≡ Some x
unless_stays dev None x other h = none_path x h
unless_stays dev (Some path) x other h = ap (λ (b : Bool). if b then None else Some path) (ne_eqb path.dev dev (λ e. other (sym (ap (λ (p : Path). p.dev) (same_path path x h)) ∙ e))) ∙ h

module _ (n : ℕ) (file : TaskFile) (plan : Plan) where
  -- another device recovers, or is flushed
  aside : (dev : ℕ) (device : Device) (q : Plan) → n ≢ dev → q.devices ≡ set plan.devices dev device → q.path ≡ unless dev plan.path → (detects n q.asked q.order ≡ true → detects n plan.asked plan.order ≡ true) → Beside n plan q
  aside dev device q other devices path order = record {
    device = ap (λ (ds : List Device). get_or ds n Absent) devices ∙ set_other plan.devices dev n device other;
    path = λ x to here. path ∙ unless_stays dev plan.path x (λ e. other (sym to ∙ e)) here;
    back = λ x to here. (unless_here dev plan.path x (sym path ∙ here)).0;
    order = order;
  }

  cleared_if : (b : Bool) (dev : ℕ) → n ≢ dev → Beside n plan (if b then recovering dev file plan else from_reset plan)
  cleared_if true dev other = aside dev _ (recovering dev file plan) other refl refl (λ on. on)
  cleared_if false dev other = beside_path n plan (from_reset plan) refl refl (λ on. absurd (false≢true on))

  out : (order : Order) → order ≢ Clear n → order ≡ plan.order → detects n true plan.order ≡ true → detects n plan.asked plan.order ≡ true
  out order other is on = detects_out n plan.asked plan.order (λ e. other (is ∙ e)) on

  ordered_beside : (order : Order) → order ≢ Clear n → order ≡ plan.order → Beside n plan (ordered order plan)
  ordered_beside (Clear port) other is = aside port Absent (ordered (Clear port) plan) (λ e. other (ap Clear (sym e))) refl refl (out (Clear port) other is)
  ordered_beside rest other is = beside_path n plan (ordered rest plan) refl refl (out rest other is)

  pub act_beside : (a : Option Act) → IsCalmAct n a → Plainly plan a → Beside n plan (match_some a plan (λ x. plan_after x file plan))
  unfolding plan_after
  act_beside (Some act.Stops) calm due = absurd calm
  act_beside (Some (act.Clears dev)) calm due = cleared_if (nat_lt dev 15) dev calm
  act_beside (Some (act.Orders order)) calm due = ordered_beside order calm due
  act_beside (Some (act.Steps dev stage)) calm due = absurd due
  act_beside other calm due = beside_path n plan (match_some other plan (λ x. plan_after x file plan)) refl refl (λ on. on)

module _ (n : ℕ) (signs : Type 0) (v : Sight) (file : TaskFile) (plan : Plan) (h : IsSteadyPlan n plan) where
  -- slot 30 begins to work on a device
  stepped : (dev : ℕ) (stage : Stage) → Plan
  stepped dev stage = record plan { path = Some (record { dev = dev; stage = stage; asked = true }) }

  step_here : (stage : Stage) → (Rattle.std.specs.Prelude.slice_index_or v.signed n false ≡ true → signs) → stage_for v plan n ≡ Some stage → PlanKeeps n signs plan (record plan { path = Some (record { dev = n; stage = stage; asked = true }) })
  step_here stage signed due =
      let is = starts (device_at plan n) (Rattle.std.specs.Prelude.slice_index_or v.signed n false) stage h.fine due in
      record {
        steady = record {
          fine = h.fine;
          path = λ x there to.
              let made : Path = record { dev = n; stage = stage; asked = true } in
              let same : made ≡ x = same_path made x there in
              (sym (ap (λ (p : Path). p.stage) same) ∙ is.1.1, (sym (ap (λ (p : Path). p.asked) same), is.0));
          order = h.order;
        };
        ready = λ r. r;
        asks = λ a. inr (signed is.1.0);
      }

  step_keeps : (dev : ℕ) (stage : Stage) → (Rattle.std.specs.Prelude.slice_index_or v.signed n false ≡ true → signs) → (plan.path ≡ Some (record { dev = dev; stage = stage; asked = false })) ⊎ (stage_for v plan dev ≡ Some stage)
      → PlanKeeps n signs plan (record plan { path = Some (record { dev = dev; stage = stage; asked = true }) })
  step_keeps dev stage signed due = elim (cases_eq dev n) [
    | inl same ↦ elim due [
      | inl goes ↦ absurd (false≢true (h.path (record { dev = dev; stage = stage; asked = false }) goes same).1.0)
      | inr first ↦
          subst (λ (k : ℕ). PlanKeeps n signs plan (record plan { path = Some (record { dev = k; stage = stage; asked = true }) })) (sym same)
          (step_here stage signed (subst (λ (k : ℕ). stage_for v plan k ≡ Some stage) same first))
    ]
    | inr other ↦
        keeps_beside n signs plan (record plan { path = Some (record { dev = dev; stage = stage; asked = true }) }) h refl
        (λ x there to.
        let made : Path = record { dev = dev; stage = stage; asked = true } in
        absurd (other (ap (λ (p : Path). p.dev) (same_path made x there) ∙ to))) (λ on. on)
  ]

  pub act_keeps : (a : Option Act) → (Rattle.std.specs.Prelude.slice_index_or v.signed n false ≡ true → signs) → IsCalmAct n a → DueOf v plan a → PlanKeeps n signs plan (match_some a plan (λ x. plan_after x file plan))
  unfolding plan_after
  act_keeps (Some (act.Steps dev stage)) signed calm due = step_keeps dev stage signed due
  act_keeps other signed calm due = keeps_as n signs plan _ h (act_beside n file plan other calm due)
