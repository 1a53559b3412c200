-- For `turns_tend`. What a calm tick leaves of the plan of a device that is together with its disk.
use Rattle.std.proofs.Common.{◌≡◌, ℕ, ◌⊎◌, Bool, true, false, List, get_or, set, refl, sym, ◌∙◌, ap, subst, inl, inr, Option, Some, None}
use Rattle.std.proofs.lemmas.Bool.{cases_eq, true≢false}
use Rattle.std.specs.{Prelude.{if◌then◌else◌, not, slice_index_or}, Option.{option_map, option_or}}
use Rattle.slots.specs.Slots.{lowest_below, match_some}
use Rattle.hba_driver.specs.declared.{mode.Mode.{Mode, TheVariants.{Switching, CommandBased}}, order.Order.Order, path.{Path.Path, Recovery.Recovery}}
use Rattle.hba_driver.specs.declared.path.{Recovery.TheVariants.{Log, Reset}, Stage.{Stage, TheVariants.{Identify, ReadLog, AssertReset}}}
use Rattle.hba_driver.specs.declared.{path.{Stage.TheVariants.{ReleaseReset, AwaitReset}, TaskFile.TaskFile}, plan.Device.Device}
use Rattle.hba_driver.specs.{declared.{plan.{Device.TheVariants.{Absent, Ready, Unusable, Recovering}, Plan.Plan}, turn.Act.Act}, Seeing.Sight}
use Rattle.hba_driver.specs.{declared.turn.Turn.Turn, Drivers.{Entry, device_at}, Paths.{first_stage, next_stage, stage_fields}, Steady.IsAskedOf}
use Rattle.hba_driver.specs.{Steady.{IsCalmAct, IsFine, IsSteadyPlan, detects}, Tended.{Awaits, Fine, Identifies, IsAskedOn, IsAsking, IsAtStage}}
use Rattle.hba_driver.specs.Tended.{IsBegun, IsReleasing, IsStepless, IsTendedBy, IsTendedPlan, IsUnworked, Logs, Releases, Spoilt, WorksOn}
use Rattle.hba_driver.specs.{Ticks.plan_after, Turns.{advanced, allowed, control_news, control_seen, device_due, device_or_request, device_seen}}
use Rattle.hba_driver.specs.Turns.{device_turn, early_due, found_of, is_back, is_due, is_in_reset, met_path, met_stage, path_due, path_met}
use Rattle.hba_driver.specs.{Turns.{plain_turn, request_due, stage_due, stage_for, turn_of}, Between.{DueOf, PlanKeeps}}
use Rattle.hba_driver.specs.declared.turn.Act.TheVariants as act
use Rattle.hba_driver.proofs.ticks.DueLemmas.{allowed_by, early_by, goes_control, goes_device, order_allowed_by, request_by, turn_by}
use Rattle.hba_driver.proofs.steady.SteadyLemmas.{Beside, Plainly, act_beside, act_keeps, beside_same, control_beside, device_beside, equal_is}
use Rattle.hba_driver.proofs.steady.SteadyLemmas.{keeps_then, of_device, of_turn, set_same, turn_keeps}

-- ---- paths

same_path : (x y : Path) → Some x ≡ Some y → x ≡ y
same_path x y h = cc

none_path : (x : Path) {P : Type 0} → None ≡ Some x → P
none_path x h = cc

-- slot 30 works on the device at one stage
pub stage_is : (n : ℕ) (stage : Stage) (asked : Bool) (plan : Plan) (stages : Stage → Type 0) → WorksOn n stage asked plan → IsAtStage n stages plan → stages stage
stage_is n stage asked plan stages works there =
    let x : Path = record { dev = n; stage = stage; asked = asked } in
    let same : x ≡ there.0 = same_path x there.0 (sym works ∙ there.1.0) in
    subst (λ (p : Path). stages p.stage) (sym same) there.1.1.1

pub at_stage : (n : ℕ) (stage : Stage) (asked : Bool) (plan : Plan) (stages : Stage → Type 0) → WorksOn n stage asked plan → stages stage → IsAtStage n stages plan
at_stage n stage asked plan stages works is = (record { dev = n; stage = stage; asked = asked }, (works, (refl, is)))

pub unworked : (n : ℕ) (plan : Plan) (stages : Stage → Type 0) → IsUnworked n plan → IsAtStage n stages plan → ⊥
unworked n plan stages free there = free there.0 there.1.0 there.1.1.0

pub recovering_ready : (way : Recovery) → Recovering way ≡ Ready → ⊥
recovering_ready way h = cc

recovering_absent : (way : Recovery) → Recovering way ≡ Absent → ⊥
recovering_absent way h = cc

-- ---- what a tick leaves

-- for a tick with this sight, for which this is due
pub record PlanTends (n : ℕ) (signs : Type 0) (v : Sight) (a : Option Act) (p q : Plan) : Type 0 where
  pub next : IsTendedPlan n q ⊎ ((a ≡ Some (act.Steps n AssertReset)) × ((device_at q n ≡ Recovering Reset) × (WorksOn n AssertReset true q × (detects n q.asked q.order ≡ true → ⊥))))
  pub ready : device_at p n ≡ Ready → device_at q n ≡ Ready
  pub asks : IsAskedOn n q → IsAskedOn n p ⊎ ((IsFine (device_at p n) × signs) ⊎ (IsAtStage n IsReleasing p × (is_in_reset v n ≡ false)))
  pub well : IsFine (device_at q n) → IsFine (device_at p n) ⊎ IsAskedOn n p
  pub begun : IsAtStage n IsBegun q → IsAtStage n IsBegun p × IsStepless a
  pub releasing : IsAtStage n IsReleasing q → IsAtStage n IsReleasing p
  pub awaiting : IsAtStage n IsReleasing p → is_in_reset v n ≡ true → IsAtStage n IsReleasing q

-- ---- a device that does not recover

identify_not : (stages : Stage → Type 0) (s : Stage) → s ≡ Identify → (stages Identify → ⊥) → stages s → ⊥
identify_not stages s is not h = not (subst stages is h)

none_begun : IsBegun Identify → ⊥
none_begun h = h

none_releasing : IsReleasing Identify → ⊥
none_releasing h = h

module _ (n : ℕ) (signs : Type 0) (v : Sight) (a : Option Act) (p q : Plan) (h : IsSteadyPlan n p) (keeps : PlanKeeps n signs p q) where
  asked_before : IsAskedOn n q → IsAskedOn n p ⊎ ((IsFine (device_at p n) × signs) ⊎ (IsAtStage n IsReleasing p × (is_in_reset v n ≡ false)))
  asked_before asked = elim (keeps.asks (plainly asked)) [
    | inl was ↦ inl (back was)
    | inr signed ↦ inr (inl (h.fine, signed))
  ]
    where
      plainly : IsAskedOn n q → IsAskedOf n q
      plainly (inl r) = inl r
      plainly (inr there) = inr (there.0, (there.1.0, there.1.1.0))

      back : IsAskedOf n p → IsAskedOn n p
      back (inl r) = inl r
      back (inr there) = inr (there.0, (there.1.0, (there.1.1, subst IsAsking (sym (h.path there.0 there.1.0 there.1.1).0) tt)))

  pub fine_tends : PlanTends n signs v a p q
  fine_tends = record {
    next = inl (record { way = Fine keeps.steady.fine keeps.steady.path; order = keeps.steady.order });
    ready = keeps.ready;
    asks = asked_before;
    well = λ f. inl h.fine;
    begun = λ there. absurd (identify_not IsBegun there.0.stage (keeps.steady.path there.0 there.1.0 there.1.1.0).0 none_begun there.1.1.1);
    releasing = λ there. absurd (identify_not IsReleasing there.0.stage (keeps.steady.path there.0 there.1.0 there.1.1.0).0 none_releasing there.1.1.1);
    awaiting = λ there set. absurd (identify_not IsReleasing there.0.stage (h.path there.0 there.1.0 there.1.1.0).0 none_releasing there.1.1.1);
  }

-- ---- a device that recovers

-- the order does not look for the device
abbrev pub IsUnsought : ℕ → Plan → Type 0
IsUnsought n plan = detects n plan.asked plan.order ≡ true → ⊥

-- the device and its path are as they were
pub record Leaves (n : ℕ) (p q : Plan) : Type 0 where
  pub device : device_at q n ≡ device_at p n
  pub path : (x : Path) → x.dev ≡ n → p.path ≡ Some x → q.path ≡ Some x
  pub back : (x : Path) → x.dev ≡ n → q.path ≡ Some x → p.path ≡ Some x
  pub unsought : IsUnsought n q

leaves_of : (n : ℕ) (p q : Plan) → IsUnsought n p → Beside n p q → Leaves n p q
leaves_of n p q h b = record { device = b.device; path = b.path; back = b.back; unsought = λ on. h (b.order on) }

leaves_then : (n : ℕ) (p q r : Plan) → Leaves n p q → Beside n q r → Leaves n p r
leaves_then n p q r h k = record {
  device = k.device ∙ h.device;
  path = λ x to here. k.path x to (h.path x to here);
  back = λ x to here. h.back x to (k.back x to here);
  unsought = λ on. h.unsought (k.order on);
}

pub control_leaves : (n : ℕ) (v : Sight) (plan : Plan) → IsUnsought n plan → Leaves n plan (control_seen v plan)
control_leaves n v plan h = leaves_of n plan (control_seen v plan) h (control_beside n v plan (λ is. h (subst (λ (o : Order). detects n plan.asked o ≡ true) (sym is) (equal_is n n refl))))

-- ---- acts that do not concern slot 30

plainly_stepless : (plan : Plan) (a : Option Act) → Plainly plan a → IsStepless a
plainly_stepless plan (Some (act.Steps dev stage)) h = h
plainly_stepless plan other h = tt

act_leaves : (n : ℕ) (file : TaskFile) (plan : Plan) → IsUnsought n plan → (a : Option Act) → IsCalmAct n a → Plainly plan a → Leaves n plan (match_some a plan (λ x. plan_after x file plan))
act_leaves n file plan h a calm due = leaves_of n plan _ h (act_beside n file plan a calm due)

-- ---- what becomes of the device

abbrev path_at : ℕ → Stage → Bool → Path
path_at n stage asked = record { dev = n; stage = stage; asked = asked }

unsought_order : (n : ℕ) (plan : Plan) → IsUnsought n plan → detects n plan.asked plan.order ≡ true → device_at plan n ≡ Absent
unsought_order n plan h on = absurd (h on)

module _ (n : ℕ) (signs : Type 0) (v : Sight) (a : Option Act) (p q : Plan) (unready : device_at p n ≡ Ready → ⊥) where
  -- slot 30 works on it at this stage
  to_work : (way : Recovery) (stage : Stage) (asked : Bool) → device_at q n ≡ Recovering way → WorksOn n stage asked q
      → IsTendedPlan n q ⊎ ((a ≡ Some (act.Steps n AssertReset)) × ((device_at q n ≡ Recovering Reset) × (WorksOn n AssertReset true q × (detects n q.asked q.order ≡ true → ⊥))))
      → (IsAsking stage → IsAskedOn n p ⊎ ((IsFine (device_at p n) × signs) ⊎ (IsAtStage n IsReleasing p × (is_in_reset v n ≡ false))))
      → (IsBegun stage → IsAtStage n IsBegun p × IsStepless a) → (IsReleasing stage → IsAtStage n IsReleasing p)
      → (IsAtStage n IsReleasing p → is_in_reset v n ≡ true → IsReleasing stage) → PlanTends n signs v a p q
  to_work way stage asked device works next asks begun releasing awaiting = record {
    next = next;
    ready = λ r. absurd (unready r);
    asks = λ on. elim on [
      | inl r ↦ absurd (recovering_ready way (sym device ∙ r))
      | inr there ↦ asks (stage_is n stage asked q IsAsking works there)
    ];
    well = λ f. absurd (subst IsFine device f);
    begun = λ there. begun (stage_is n stage asked q IsBegun works there);
    releasing = λ there. releasing (stage_is n stage asked q IsReleasing works there);
    awaiting = λ there set. at_stage n stage asked q IsReleasing works (awaiting there set);
  }

  -- its page came
  to_steady : IsAskedOn n p → (IsAtStage n IsReleasing p → ⊥) → IsSteadyPlan n q → PlanTends n signs v a p q
  to_steady asked unreleased steady = record {
    next = inl (record { way = Fine steady.fine steady.path; order = steady.order });
    ready = λ r. absurd (unready r);
    asks = λ on. inl asked;
    well = λ f. inr asked;
    begun = λ there. absurd (identify_not IsBegun there.0.stage (steady.path there.0 there.1.0 there.1.1.0).0 none_begun there.1.1.1);
    releasing = λ there. absurd (identify_not IsReleasing there.0.stage (steady.path there.0 there.1.0 there.1.1.0).0 none_releasing there.1.1.1);
    awaiting = λ there set. absurd (unreleased there);
  }

  -- it is to be reset
  to_spoilt : (IsAtStage n IsReleasing p → ⊥) → device_at q n ≡ Recovering Reset → IsUnsought n q → IsUnworked n q → PlanTends n signs v a p q
  to_spoilt unreleased device unsought free = record {
    next = inl (record { way = Spoilt device free; order = unsought_order n q unsought });
    ready = λ r. absurd (unready r);
    asks = λ on. elim on [
      | inl r ↦ absurd (recovering_ready Reset (sym device ∙ r))
      | inr there ↦ absurd (unworked n q IsAsking free there)
    ];
    well = λ f. absurd (subst IsFine device f);
    begun = λ there. absurd (unworked n q IsBegun free there);
    releasing = λ there. absurd (unworked n q IsReleasing free there);
    awaiting = λ there set. absurd (unreleased there);
  }

  -- its reset is issued
  to_reset : a ≡ Some (act.Steps n AssertReset) → (IsAtStage n IsReleasing p → ⊥) → device_at q n ≡ Recovering Reset → IsUnsought n q → WorksOn n AssertReset true q → PlanTends n signs v a p q
  to_reset is unreleased device unsought works =
      to_work Reset AssertReset true device works (inr (is, (device, (works, unsought)))) (λ k. absurd k) (λ k. absurd k) (λ k. absurd k) (λ there set. absurd (unreleased there))

  -- SRST was cleared before
  to_released : IsAtStage n IsReleasing p → IsAtStage n IsBegun p → IsStepless a → device_at q n ≡ Recovering Reset → IsUnsought n q → WorksOn n ReleaseReset true q ⊎ WorksOn n AwaitReset false q → PlanTends n signs v a p q
  to_released at begun stepless device unsought (inl works) =
      to_work Reset ReleaseReset true device works (inl (record { way = Releases device works; order = unsought_order n q unsought })) (λ k. absurd k) (λ k. (begun, stepless)) (λ k. at) (λ there set. tt)
  to_released at begun stepless device unsought (inr works) =
      to_work Reset AwaitReset false device works (inl (record { way = Awaits device works; order = unsought_order n q unsought })) (λ k. absurd k) (λ k. (begun, stepless)) (λ k. at) (λ there set. tt)

  -- the device signed
  to_signed : IsAtStage n IsReleasing p → device_at q n ≡ Recovering Reset → IsUnsought n q → WorksOn n Identify true q → is_in_reset v n ≡ false → PlanTends n signs v a p q
  to_signed at device unsought works off =
      to_work Reset Identify true device works (inl (record { way = Identifies device works; order = unsought_order n q unsought })) (λ k. inr (inr (at, off))) (λ k. absurd k) (λ k. absurd k)
      (λ there set. absurd (true≢false (sym set ∙ off)))

  to_identifies : WorksOn n Identify true p → device_at q n ≡ Recovering Reset → IsUnsought n q → WorksOn n Identify true q → PlanTends n signs v a p q
  to_identifies was device unsought works =
      to_work Reset Identify true device works (inl (record { way = Identifies device works; order = unsought_order n q unsought })) (λ k. inl (inr (at_stage n Identify true p IsAsking was tt))) (λ k. absurd k) (λ k. absurd k)
      (λ there set. stage_is n Identify true p IsReleasing was there)

  to_logs : (before file : TaskFile) → IsStepless a → WorksOn n (ReadLog file) true p → device_at q n ≡ Recovering (Log before) → IsUnsought n q → WorksOn n (ReadLog file) true q → PlanTends n signs v a p q
  to_logs before file stepless was device unsought works =
      to_work (Log before) (ReadLog file) true device works (inl (record { way = Logs before file device works; order = unsought_order n q unsought }))
      (λ k. inl (inr (at_stage n (ReadLog file) true p IsAsking was tt))) (λ k. (at_stage n (ReadLog file) true p IsBegun was tt, stepless)) (λ k. absurd k)
      (λ there set. stage_is n (ReadLog file) true p IsReleasing was there)

-- ---- what slot 30 shows

seen_as : (v : Sight) (plan : Plan) (x : Path) → plan.path ≡ Some x → device_seen v plan ≡ path_met v (if is_back v x then advanced v x plan else plan)
seen_as v plan x here = ap (λ (o : Option Path). path_met v (match_some o plan (λ path. if is_back v path then advanced v path plan else plan))) here

-- SRST was cleared; the signature is awaited, or came
data ReleasedSeen (n : ℕ) (v : Sight) (q : Plan) : Type 0 where
  Going : device_at q n ≡ Recovering Reset → IsUnsought n q → WorksOn n ReleaseReset true q → ReleasedSeen n v q
  Waiting : device_at q n ≡ Recovering Reset → IsUnsought n q → WorksOn n AwaitReset false q → ReleasedSeen n v q
  Signed : device_at q n ≡ Recovering Reset → IsUnsought n q → WorksOn n Identify false q → is_in_reset v n ≡ false → ReleasedSeen n v q

releases_seen : (n : ℕ) (v : Sight) (plan : Plan) → device_at plan n ≡ Recovering Reset → IsUnsought n plan → WorksOn n ReleaseReset true plan → ReleasedSeen n v (device_seen v plan)
unfolding found_of next_stage met_stage
releases_seen n v plan device unsought works =
    subst (λ (q : Plan). ReleasedSeen n v q) (sym (seen_as v plan (path_at n ReleaseReset true) works)) (by_back (is_back v (path_at n ReleaseReset true)))
  where
    by_in : (c : Bool) → is_in_reset v n ≡ c → ReleasedSeen n v (path_met v (advanced v (path_at n ReleaseReset true) plan))
    by_in true is = Waiting device unsought (ap (λ (c : Bool). Some (path_at n (if c then AwaitReset else Identify) false)) is)
    by_in false is = Signed device unsought (ap (λ (c : Bool). Some (path_at n (if c then AwaitReset else Identify) false)) is) is

    by_back : (b : Bool) → ReleasedSeen n v (path_met v (if b then advanced v (path_at n ReleaseReset true) plan else plan))
    by_back true = by_in (is_in_reset v n) refl
    by_back false = Going device unsought (ap (option_map (met_path v)) works)

awaits_seen : (n : ℕ) (v : Sight) (plan : Plan) → device_at plan n ≡ Recovering Reset → IsUnsought n plan → WorksOn n AwaitReset false plan → ReleasedSeen n v (device_seen v plan)
unfolding met_stage
awaits_seen n v plan device unsought works =
    subst (λ (q : Plan). ReleasedSeen n v q) (sym (seen_as v plan (path_at n AwaitReset false) works)) (by_in (is_in_reset v n) refl)
  where
    by_in : (c : Bool) → is_in_reset v n ≡ c → ReleasedSeen n v (path_met v plan)
    by_in true is = Waiting device unsought (ap (option_map (met_path v)) works ∙ ap (λ (c : Bool). Some (path_at n (if c then AwaitReset else Identify) false)) is)
    by_in false is = Signed device unsought (ap (option_map (met_path v)) works ∙ ap (λ (c : Bool). Some (path_at n (if c then AwaitReset else Identify) false)) is) is

-- A page of the device is out, or came. In the second case slot 30 is free, and the device does not recover,
-- or its log was not whole.
data PageSeen (n : ℕ) (way : Recovery) (stage : Stage) (q : Plan) : Type 0 where
  StillOut : device_at q n ≡ Recovering way → IsUnsought n q → WorksOn n stage true q → PageSeen n way stage q
  Came : IsFine (device_at q n) → IsUnsought n q → q.path ≡ None → PageSeen n way stage q
  Bad : device_at q n ≡ Recovering Reset → IsUnsought n q → q.path ≡ None → PageSeen n way stage q

fine_set : (devices : List Device) (n : ℕ) (device : Device) → IsFine device → IsFine (get_or (set devices n device) n Absent)
fine_set devices n device fine = elim (set_same devices n device) [ inl is ↦ subst IsFine (sym is) fine | inr past ↦ subst IsFine (sym past) tt ]

identifies_seen : (n : ℕ) (v : Sight) (plan : Plan) → device_at plan n ≡ Recovering Reset → IsUnsought n plan → WorksOn n Identify true plan → PageSeen n Reset Identify (device_seen v plan)
unfolding found_of next_stage
identifies_seen n v plan device unsought works =
    subst (λ (q : Plan). PageSeen n Reset Identify q) (sym (seen_as v plan (path_at n Identify true) works)) (by_back (is_back v (path_at n Identify true)))
  where
    fine_by : (b : Bool) → IsFine (if b then Ready else Unusable)
    fine_by true = tt
    fine_by false = tt

    by_back : (b : Bool) → PageSeen n Reset Identify (path_met v (if b then advanced v (path_at n Identify true) plan else plan))
    by_back true = Came (fine_set plan.devices n (if v.usable then Ready else Unusable) (fine_by v.usable)) unsought refl
    by_back false = StillOut device unsought (ap (option_map (met_path v)) works)

logs_seen : (n : ℕ) (v : Sight) (plan : Plan) (before file : TaskFile) → device_at plan n ≡ Recovering (Log before) → IsUnsought n plan → WorksOn n (ReadLog file) true plan → PageSeen n (Log before) (ReadLog file) (device_seen v plan)
unfolding found_of next_stage
logs_seen n v plan before file device unsought works =
    subst (λ (q : Plan). PageSeen n (Log before) (ReadLog file) q) (sym (seen_as v plan (path_at n (ReadLog file) true) works)) (by_back (is_back v (path_at n (ReadLog file) true)))
  where
    by_set : (b : Bool) → (if v.log.whole then Ready else Recovering Reset) ≡ (if b then Ready else Recovering Reset) → PageSeen n (Log before) (ReadLog file) (path_met v (advanced v (path_at n (ReadLog file) true) plan))
    by_set true is = Came (fine_set plan.devices n (if v.log.whole then Ready else Recovering Reset) (subst IsFine (sym is) tt)) unsought refl
    by_set false is = elim (set_same plan.devices n (if v.log.whole then Ready else Recovering Reset)) [
      | inl at ↦ Bad (at ∙ is) unsought refl
      | inr past ↦ Came (subst IsFine (sym past) tt) unsought refl
    ]

    by_back : (b : Bool) → PageSeen n (Log before) (ReadLog file) (path_met v (if b then advanced v (path_at n (ReadLog file) true) plan else plan))
    by_back true = by_set v.log.whole refl
    by_back false = StillOut device unsought (ap (option_map (met_path v)) works)

-- ---- slot 30 works on another device, or on none

-- the device is to be reset, and slot 30 does not work on it
record IsLeft (n : ℕ) (q : Plan) : Type 0 where
  pub device : device_at q n ≡ Recovering Reset
  pub unsought : IsUnsought n q
  pub free : IsUnworked n q

left_seen : (n : ℕ) (v : Sight) (plan : Plan) → IsLeft n plan → IsLeft n (device_seen v plan)
left_seen n v plan h =
    let b : Beside n plan (device_seen v plan) = device_beside n v plan h.free in
    record { device = b.device ∙ h.device; unsought = λ on. h.unsought (b.order on); free = λ x here to. h.free x (b.back x to here) to }

-- ---- what is due by slot 30

due_is : (v : Sight) (q : Plan) (y : Path) → q.path ≡ Some y → device_due v q ≡ path_due y
unfolding device_due
due_is v q y here = ap (λ (o : Option Path). match_some o (match_some (lowest_below (is_due v q) 15) None (stage_due v q)) path_due) here

none_due : (n : ℕ) → path_due (path_at n AwaitReset false) ≡ None
unfolding stage_fields
none_due n = refl

identify_due : (n : ℕ) → path_due (path_at n Identify false) ≡ Some (act.Steps n Identify)
unfolding stage_fields
identify_due n = refl

reset_stage : (device : Device) (signed : Bool) (stage : Stage) → device ≡ Recovering Reset → first_stage device signed ≡ Some stage → stage ≡ AssertReset
reset_stage device signed stage is due =
    let it : Some AssertReset ≡ Some stage = sym (ap (λ (d : Device). first_stage d signed) is) ∙ due in cc

-- ---- turns

abbrev pub TurnTends : ℕ → Type 0 → Sight → TaskFile → Plan → Turn → Type 0
TurnTends n signs v file p t = IsCalmAct n t.act → PlanTends n signs v t.act p (match_some t.act t.plan (λ x. plan_after x file t.plan))

-- another name of what is due
renamed : (n : ℕ) (signs : Type 0) (v : Sight) (file : TaskFile) (p q : Plan) (a b : Option Act) → a ≡ b → (IsCalmAct n b → PlanTends n signs v b p (match_some b q (λ x. plan_after x file q)))
    → IsCalmAct n a → PlanTends n signs v a p (match_some a q (λ x. plan_after x file q))
renamed n signs v file p q a b is f = subst (λ (c : Option Act). IsCalmAct n c → PlanTends n signs v c p (match_some c q (λ x. plan_after x file q))) (sym is) f

module _ (n : ℕ) (signs : Type 0) (v : Sight) (file : TaskFile) (p : Plan) (entries : List (Option Entry)) where
  -- a turn that does not look at slot 30, and one that does
  abbrev Keeps : Type 0
  Keeps = (q : Plan) (a : Option Act) → Leaves n p q → IsStepless a → PlanTends n signs v a p q

  abbrev Looks : Type 0
  Looks = (q : Plan) (news : Bool) → q.mode ≡ Switching → Leaves n p q → TurnTends n signs v file p (device_turn v news q entries)

  plain_tends : Keeps → (r : Plan) (a : Option Act) (news : Bool) → Leaves n p r → Plainly r a → TurnTends n signs v file p (plain_turn r a news)
  plain_tends keep r a news leaves due calm =
      keep (match_some a r (λ x. plan_after x file r)) a (leaves_then n p r (match_some a r (λ x. plan_after x file r)) leaves (act_beside n file r a calm due)) (plainly_stepless r a due)

  whole_tends : p.mode ≡ Switching → IsUnsought n p → Keeps → Looks → TurnTends n signs v file p (turn_of v p entries)
  whole_tends switching unsought keep looks =
      let control = control_leaves n v p unsought in
      turn_by (TurnTends n signs v file p) v p entries
      (plain_tends keep p (early_due v p) false (leaves_of n p p unsought (beside_same n p)) (early_by (Plainly p) tt v p (λ h. tt) (λ h. tt) (λ h. tt) (λ dev h. tt)))
      (plain_tends keep (control_seen v p) _ (control_news v p) control (order_allowed_by (Plainly (control_seen v p)) tt v (control_seen v p) entries (λ un fields. refl)))
      (looks (control_seen v p) (control_news v p) ((goes_control v p).mode ∙ switching) control)

  -- the request that is due, if it may go
  abbrev request_of : Plan → Option Act
  request_of q = allowed q.mode v q entries (request_due q entries)

  none_allowed : (mode : Mode) (q : Plan) → allowed mode v q entries None ≡ None
  none_allowed Switching q = refl
  none_allowed CommandBased q = refl

  -- no stage is due, since slot 30 is held
  holding : (q : Plan) → IsUnsought n q → device_due v q ≡ None
      → ((r : Plan) (a : Option Act) → Leaves n q r → IsStepless a → PlanTends n signs v a p r) → IsCalmAct n (device_or_request v q entries)
      → PlanTends n signs v (device_or_request v q entries) p (match_some (device_or_request v q entries) q (λ x. plan_after x file q))
  holding q unsought none f =
      let plainly : Plainly q (request_of q) = allowed_by (Plainly q) tt q.mode v q entries (request_due q entries) (request_by (Plainly q) tt q entries (λ slot e h. tt)) in
      renamed n signs v file p q (device_or_request v q entries) (request_of q)
      (ap (λ (o : Option Act). option_or (allowed q.mode v q entries o) (request_of q)) none ∙ ap (λ (o : Option Act). option_or o (request_of q)) (none_allowed q.mode q))
      (λ calm. f (match_some (request_of q) q (λ x. plan_after x file q)) (request_of q) (act_leaves n file q unsought (request_of q) calm plainly) (plainly_stepless q (request_of q) plainly))

  -- ---- each state

  module _ (signed : slice_index_or v.signed n false ≡ true → signs) where
    unready : (way : Recovery) → device_at p n ≡ Recovering way → device_at p n ≡ Ready → ⊥
    unready way device r = recovering_ready way (sym device ∙ r)

    released_looks : device_at p n ≡ Recovering Reset → IsAtStage n IsReleasing p → IsAtStage n IsBegun p → (q : Plan) (news : Bool) → q.mode ≡ Switching → ReleasedSeen n v (device_seen v q) → TurnTends n signs v file p (device_turn v news q entries)
    unfolding plan_after
    released_looks device at begun q news switching (Going there unsought works) =
        holding (device_seen v q) unsought (due_is v (device_seen v q) (path_at n ReleaseReset true) works) (λ r a leaves stepless.
        to_released n signs v a p r (unready Reset device) at begun stepless (leaves.device ∙ there) leaves.unsought (inl (leaves.path (path_at n ReleaseReset true) refl works)))
    released_looks device at begun q news switching (Waiting there unsought works) =
        holding (device_seen v q) unsought (due_is v (device_seen v q) (path_at n AwaitReset false) works ∙ none_due n) (λ r a leaves stepless.
        to_released n signs v a p r (unready Reset device) at begun stepless (leaves.device ∙ there) leaves.unsought (inr (leaves.path (path_at n AwaitReset false) refl works)))
    released_looks device at begun q news switching (Signed there unsought works off) =
        renamed n signs v file p (device_seen v q) (device_or_request v (device_seen v q) entries) (Some (act.Steps n Identify))
        (ap (λ (m : Mode). option_or (allowed m v (device_seen v q) entries (device_due v (device_seen v q))) (allowed m v (device_seen v q) entries (request_due (device_seen v q) entries))) ((goes_device v q).mode ∙ switching)
        ∙ ap (λ (o : Option Act). option_or o (request_due (device_seen v q) entries)) (due_is v (device_seen v q) (path_at n Identify false) works ∙ identify_due n)) (λ calm. stepped (device_seen v q) there unsought)
      where
        stepped : (r : Plan) → device_at r n ≡ Recovering Reset → IsUnsought n r → PlanTends n signs v (Some (act.Steps n Identify)) p (plan_after (act.Steps n Identify) file r)
        stepped r there unsought = to_signed n signs v (Some (act.Steps n Identify)) p (record r { path = Some (path_at n Identify true) }) (unready Reset device) at there unsought refl off

    -- its page came
    came_looks : (device_at p n ≡ Ready → ⊥) → IsAskedOn n p → (IsAtStage n IsReleasing p → ⊥) → (q : Plan) (news : Bool) → IsFine (device_at (device_seen v q) n) → IsUnsought n (device_seen v q) → (device_seen v q).path ≡ None
        → TurnTends n signs v file p (device_turn v news q entries)
    came_looks not_ready asked unreleased q news fine unsought none calm =
        let steady : IsSteadyPlan n (device_seen v q) = record {
          fine = fine;
          path = λ x here to. none_path x (sym none ∙ here);
          order = unsought_order n (device_seen v q) unsought;
        } in
        to_steady n signs v (device_or_request v (device_seen v q) entries) p _ not_ready asked unreleased
        (act_keeps n signs v file (device_seen v q) steady (device_or_request v (device_seen v q) entries) signed calm (of_device v (device_seen v q) entries)).steady

    -- it is to be reset
    left_plain : (device_at p n ≡ Ready → ⊥) → (IsAtStage n IsReleasing p → ⊥) → (q : Plan) → IsLeft n q → (a : Option Act) → Plainly q a → IsCalmAct n a → PlanTends n signs v a p (match_some a q (λ x. plan_after x file q))
    left_plain not_ready unreleased q left a due calm =
        let l : Leaves n q (match_some a q (λ x. plan_after x file q)) = act_leaves n file q left.unsought a calm due in
        to_spoilt n signs v a p (match_some a q (λ x. plan_after x file q)) not_ready unreleased (l.device ∙ left.device) l.unsought (λ x there to. left.free x (l.back x to there) to)

    left_acts : (device_at p n ≡ Ready → ⊥) → (IsAtStage n IsReleasing p → ⊥) → (q : Plan) → IsLeft n q → (a : Option Act) → DueOf v q a → IsCalmAct n a → PlanTends n signs v a p (match_some a q (λ x. plan_after x file q))
    unfolding plan_after
    left_acts not_ready unreleased q left (Some (act.Steps dev stage)) due calm = elim (cases_eq dev n) [
      | inl same ↦ elim due [
        | inl goes ↦ absurd (left.free (path_at dev stage false) goes same)
        | inr first ↦
            let is : stage ≡ AssertReset = reset_stage (device_at q n) (slice_index_or v.signed n false) stage left.device (subst (λ (k : ℕ). stage_for v q k ≡ Some stage) same first) in
            to_reset n signs v (Some (act.Steps dev stage)) p (record q { path = Some (path_at dev stage true) }) not_ready (ap (λ (k : ℕ). Some (act.Steps k stage)) same ∙ ap (λ (s : Stage). Some (act.Steps n s)) is) unreleased
            left.device left.unsought (ap (λ (k : ℕ). Some (path_at k stage true)) same ∙ ap (λ (s : Stage). Some (path_at n s true)) is)
      ]
      | inr other ↦
          to_spoilt n signs v (Some (act.Steps dev stage)) p (record q { path = Some (path_at dev stage true) }) not_ready unreleased left.device left.unsought
          (λ x there to. other (ap (λ (y : Path). y.dev) (same_path (path_at dev stage true) x there) ∙ to))
    ]
    left_acts not_ready unreleased q left None due calm = to_spoilt n signs v None p q not_ready unreleased left.device left.unsought left.free
    left_acts not_ready unreleased q left (Some act.Stops) due calm = absurd calm
    left_acts not_ready unreleased q left (Some (act.Orders order)) due calm = left_plain not_ready unreleased q left (Some (act.Orders order)) due calm
    left_acts not_ready unreleased q left other due calm = left_plain not_ready unreleased q left other tt calm

    left_looks : (device_at p n ≡ Ready → ⊥) → (IsAtStage n IsReleasing p → ⊥) → (q : Plan) (news : Bool) → IsLeft n (device_seen v q) → TurnTends n signs v file p (device_turn v news q entries)
    left_looks not_ready unreleased q news left calm =
        left_acts not_ready unreleased (device_seen v q) left (device_or_request v (device_seen v q) entries) (of_device v (device_seen v q) entries) calm

    -- a page of it is out
    page_looks : (way : Recovery) (stage : Stage) → (device_at p n ≡ Ready → ⊥) → IsAskedOn n p → (IsAtStage n IsReleasing p → ⊥) → (q : Plan) (news : Bool) → PageSeen n way stage (device_seen v q)
        → (device_at (device_seen v q) n ≡ Recovering way → WorksOn n stage true (device_seen v q) → (r : Plan) (a : Option Act) → Leaves n (device_seen v q) r → IsStepless a → PlanTends n signs v a p r)
        → TurnTends n signs v file p (device_turn v news q entries)
    page_looks way stage not_ready asked unreleased q news (StillOut device unsought works) still =
        holding (device_seen v q) unsought (due_is v (device_seen v q) (path_at n stage true) works) (still device works)
    page_looks way stage not_ready asked unreleased q news (Came fine unsought none) still = came_looks not_ready asked unreleased q news fine unsought none
    page_looks way stage not_ready asked unreleased q news (Bad device unsought none) still =
        left_looks not_ready unreleased q news (record { device = device; unsought = unsought; free = λ x here to. none_path x (sym none ∙ here) })

    unsought_by : (way : Recovery) → (detects n p.asked p.order ≡ true → device_at p n ≡ Absent) → device_at p n ≡ Recovering way → IsUnsought n p
    unsought_by way order device on = recovering_absent way (sym device ∙ order on)

    by_way : p.mode ≡ Switching → IsTendedBy n p → (detects n p.asked p.order ≡ true → device_at p n ≡ Absent) → TurnTends n signs v file p (turn_of v p entries)
    by_way switching (Fine fine path) order = λ calm.
        let h : IsSteadyPlan n p = record { fine = fine; path = path; order = order } in
        let first = turn_keeps n signs v p entries h in
        let second = act_keeps n signs v file (turn_of v p entries).plan first.steady (turn_of v p entries).act signed calm (of_turn v p entries) in
        fine_tends n signs v (turn_of v p entries).act p _ h (keeps_then n signs p (turn_of v p entries).plan _ first second)
    by_way switching (Releases device works) order =
        let at : IsAtStage n IsReleasing p = at_stage n ReleaseReset true p IsReleasing works tt in
        let begun : IsAtStage n IsBegun p = at_stage n ReleaseReset true p IsBegun works tt in
        whole_tends switching (unsought_by Reset order device)
        (λ q a leaves stepless. to_released n signs v a p q (unready Reset device) at begun stepless (leaves.device ∙ device) leaves.unsought (inl (leaves.path (path_at n ReleaseReset true) refl works)))
        (λ q news mode leaves. released_looks device at begun q news mode (releases_seen n v q (leaves.device ∙ device) leaves.unsought (leaves.path (path_at n ReleaseReset true) refl works)))
    by_way switching (Awaits device works) order =
        let at : IsAtStage n IsReleasing p = at_stage n AwaitReset false p IsReleasing works tt in
        let begun : IsAtStage n IsBegun p = at_stage n AwaitReset false p IsBegun works tt in
        whole_tends switching (unsought_by Reset order device)
        (λ q a leaves stepless. to_released n signs v a p q (unready Reset device) at begun stepless (leaves.device ∙ device) leaves.unsought (inr (leaves.path (path_at n AwaitReset false) refl works)))
        (λ q news mode leaves. released_looks device at begun q news mode (awaits_seen n v q (leaves.device ∙ device) leaves.unsought (leaves.path (path_at n AwaitReset false) refl works)))
    by_way switching (Identifies device works) order =
        let unreleased : IsAtStage n IsReleasing p → ⊥ = λ there. stage_is n Identify true p IsReleasing works there in
        whole_tends switching (unsought_by Reset order device)
        (λ q a leaves stepless. to_identifies n signs v a p q (unready Reset device) works (leaves.device ∙ device) leaves.unsought (leaves.path (path_at n Identify true) refl works))
        (λ q news mode leaves. page_looks Reset Identify (unready Reset device) (inr (at_stage n Identify true p IsAsking works tt)) unreleased q news
        (identifies_seen n v q (leaves.device ∙ device) leaves.unsought (leaves.path (path_at n Identify true) refl works))
        (λ there on r a more stepless. to_identifies n signs v a p r (unready Reset device) works (more.device ∙ there) more.unsought (more.path (path_at n Identify true) refl on)))
    by_way switching (Logs before page device works) order =
        let unreleased : IsAtStage n IsReleasing p → ⊥ = λ there. stage_is n (ReadLog page) true p IsReleasing works there in
        whole_tends switching (unsought_by (Log before) order device)
        (λ q a leaves stepless. to_logs n signs v a p q (unready (Log before) device) before page stepless works (leaves.device ∙ device) leaves.unsought (leaves.path (path_at n (ReadLog page) true) refl works))
        (λ q news mode leaves. page_looks (Log before) (ReadLog page) (unready (Log before) device) (inr (at_stage n (ReadLog page) true p IsAsking works tt)) unreleased q news
        (logs_seen n v q before page (leaves.device ∙ device) leaves.unsought (leaves.path (path_at n (ReadLog page) true) refl works))
        (λ there on r a more stepless. to_logs n signs v a p r (unready (Log before) device) before page stepless works (more.device ∙ there) more.unsought (more.path (path_at n (ReadLog page) true) refl on)))
    by_way switching (Spoilt device free) order =
        let unreleased : IsAtStage n IsReleasing p → ⊥ = unworked n p IsReleasing free in
        whole_tends switching (unsought_by Reset order device)
        (λ q a leaves stepless. to_spoilt n signs v a p q (unready Reset device) unreleased (leaves.device ∙ device) leaves.unsought (λ x there to. free x (leaves.back x to there) to))
        (λ q news mode leaves. left_looks (unready Reset device) unreleased q news
        (left_seen n v q (record { device = leaves.device ∙ device; unsought = leaves.unsought; free = λ x there to. free x (leaves.back x to there) to })))

    pub turn_tends : p.mode ≡ Switching → IsTendedPlan n p → TurnTends n signs v file p (turn_of v p entries)
    turn_tends switching h = by_way switching h.way h.order
