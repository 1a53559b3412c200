-- For `devices_are_apart`. What a tick leaves of the plan of a device that recovers.
use Rattle.std.proofs.Common.{◌≡◌, ℕ, zero, suc, ◌&&◌, Bool, true, false, List, [], ◌∷◌, get_or, set, refl, sym, ◌∙◌, ap, inl, inr, Option, Some}
use Rattle.std.proofs.lemmas.Bool.{true≢false}
use Rattle.std.specs.{Prelude.{if◌then◌else◌, not, is_some}, Option.option_map}
use Rattle.slots.specs.Slots.{has_bit, match_some}
use Rattle.hba_driver.specs.declared.{order.Order.{Order, TheVariants.Detect}, path.{Path.Path, Recovery.{Recovery, TheVariants.{Log, Reset}}}}
use Rattle.hba_driver.specs.declared.{path.Stage.{Stage, TheVariants.{Identify, ReadLog, AssertReset, ReleaseReset, AwaitReset}}, plan.Device.Device}
use Rattle.hba_driver.specs.{declared.{plan.{Device.TheVariants.{Absent, Recovering}, Plan.Plan}, turn.Act.Act}, Seeing.Sight, Drivers.Entry}
use Rattle.hba_driver.specs.{Drivers.{device_at, with_device}, Paths.{next_stage, stage_fields}, Tended.IsUnworked, Slot30.{Asks, Cleared, Clears}}
use Rattle.hba_driver.specs.Slot30.{Faulty, IsCleared, IsPlan30, LogSent, Off, On, ReadsLog, Resets, Sets, Stage30, is_faulty, path_of}
use Rattle.hba_driver.specs.Turns.{advanced, answered, control_seen, detected, device_seen, found_of, is_back, is_in_reset, is_out, is_there, met}
use Rattle.hba_driver.specs.Turns.{met_path, met_stage, noted, path_met, turn_of, with_next}
use Rattle.hba_driver.specs.declared.turn.Act.TheVariants as act
use Rattle.hba_driver.proofs.{ticks.DueLemmas.{early_by, late_by, order_allowed_by, turn_by}, known.KnownLemmas.path_control}
use Rattle.hba_driver.proofs.steady.SteadyLemmas.{control_beside, detect_or_other, device_beside, met_beside}

-- ---- slot 31 leaves a device that recovers, unless none is found at its port

pub record Leaves (n : ℕ) (p q : Plan) : Type 0 where
  pub device : device_at q n ≡ device_at p n
  pub path : q.path ≡ p.path

-- setting an element of a list to what it is
set_kept : (devices : List Device) (n : ℕ) → get_or (set devices n (get_or devices n Absent)) n Absent ≡ get_or devices n Absent
set_kept [] n = refl
set_kept (d ∷ devices) zero = refl
set_kept (d ∷ devices) (suc n) = set_kept devices n

-- an answer of PSCR[0] of the device shows that it is there
abbrev pub IsFound : ℕ → Sight → Plan → Type 0
IsFound n v plan = plan.order ≡ Detect n → (plan.asked && not (is_out v plan)) ≡ true → is_there v.answer ≡ true

module _ (n : ℕ) (v : Sight) (plan : Plan) (way : Recovery) (recovers : device_at plan n ≡ Recovering way) (found : IsFound n v plan) where
  recovers_on : is_there v.answer ≡ true → device_at (with_device n (detected v.answer (device_at plan n)) plan) n ≡ device_at plan n
  recovers_on there = ap (λ (d : Device). get_or (set plan.devices n d) n Absent) same ∙ set_kept plan.devices n
    where
      same : detected v.answer (device_at plan n) ≡ device_at plan n
      same = ap (detected v.answer) recovers ∙ ap (λ (b : Bool). if b then Recovering way else Absent) there ∙ sym recovers

  answered_same : (b : Bool) → (plan.asked && not (is_out v plan)) ≡ b → plan.order ≡ Detect n → device_at (if b then with_next plan.order (noted v plan.order plan) else plan) n ≡ device_at plan n
  unfolding noted
  answered_same true came is = ap (λ (o : Order). device_at (with_next o (noted v o plan)) n) is ∙ recovers_on (found is came)
  answered_same false came is = refl

  control_same : device_at (control_seen v plan) n ≡ device_at plan n
  control_same = elim (detect_or_other n plan.order) [
    | inl is ↦ (met_beside n v (answered v plan)).device ∙ answered_same (plan.asked && not (is_out v plan)) refl is
    | inr other ↦ (control_beside n v plan other).device
  ]

  pub control_leaves : Leaves n plan (control_seen v plan)
  control_leaves = record { device = control_same; path = path_control v plan }

-- ---- slot 30

pub recovers : (n : ℕ) (stage : Stage30) (p : Plan) → is_faulty stage ≡ false → IsPlan30 n stage p → (way : Recovery) × (device_at p n ≡ Recovering way)
recovers n Faulty p well h = absurd (true≢false well)
recovers n Cleared p well h = (h.way, h.device)
recovers n Sets p well h = (Reset, h.device)
recovers n On p well (inl h) = (Reset, h.device)
recovers n On p well (inr h) = (Reset, h.device)
recovers n Clears p well h = (Reset, h.device)
recovers n Off p well (inl h) = (Reset, h.device)
recovers n Off p well (inr h) = (Reset, h.device)
recovers n other p well h = (Log h.file, h.device)

resets_as : (n : ℕ) (stage : Stage) (asked : Bool) (p q : Plan) → device_at q n ≡ device_at p n → q.path ≡ p.path → Resets n stage asked p → Resets n stage asked q
resets_as n stage asked p q device path h = record { device = device ∙ h.device; path = path ∙ h.path }

reads_as : (n : ℕ) (p q : Plan) → device_at q n ≡ device_at p n → q.path ≡ p.path → ReadsLog n p → ReadsLog n q
reads_as n p q device path h = record { file = h.file; device = device ∙ h.device; path = path ∙ h.path }

cleared_as : (n : ℕ) (p q : Plan) → device_at q n ≡ device_at p n → IsUnworked n q → IsCleared n p → IsCleared n q
cleared_as n p q device away h = record { way = h.way; device = device ∙ h.device; away = away }

-- if device and path are as they were
pub plan_as : (n : ℕ) (stage : Stage30) (p q : Plan) → device_at q n ≡ device_at p n → q.path ≡ p.path → IsPlan30 n stage p → IsPlan30 n stage q
plan_as n Faulty p q device path h = tt
plan_as n Cleared p q device path h = cleared_as n p q device (λ x there. h.away x (sym path ∙ there)) h
plan_as n Sets p q device path h = resets_as n AssertReset true p q device path h
plan_as n On p q device path (inl h) = inl (resets_as n AssertReset true p q device path h)
plan_as n On p q device path (inr h) = inr (resets_as n ReleaseReset false p q device path h)
plan_as n Clears p q device path h = resets_as n ReleaseReset true p q device path h
plan_as n Off p q device path (inl h) = inl (resets_as n ReleaseReset true p q device path h)
plan_as n Off p q device path (inr h) = inr (resets_as n AwaitReset false p q device path h)
plan_as n other p q device path h = reads_as n p q device path h

-- what is found of a reset
module _ (n : ℕ) (v : Sight) (c : Plan) where
  -- the path is the device's
  seen_own : (path : Path) → c.path ≡ Some path → device_seen v c ≡ path_met v (if is_back v path then advanced v path c else c)
  seen_own path here = ap (λ (o : Option Path). path_met v (match_some o c (λ path. if is_back v path then advanced v path c else c))) here

  still : (path : Path) → c.path ≡ Some path → is_back v path ≡ false → device_seen v c ≡ path_met v c
  still path here unanswered = seen_own path here ∙ ap (λ (b : Bool). path_met v (if b then advanced v path c else c)) unanswered

  back : (path : Path) → c.path ≡ Some path → is_back v path ≡ true → device_seen v c ≡ path_met v (advanced v path c)
  back path here answered = seen_own path here ∙ ap (λ (b : Bool). path_met v (if b then advanced v path c else c)) answered

  -- its command is out
  out_same : (stage : Stage) → has_bit v.issued 30 ≡ true → c.path ≡ path_of n stage true → (device_at (device_seen v c) n ≡ device_at c n) × ((device_seen v c).path ≡ c.path)
  out_same stage on here =
      let path : Path = record { dev = n; stage = stage; asked = true } in
      let is : device_seen v c ≡ path_met v c = still path here (ap (λ (b : Bool). true && not b) on) in
      (ap (λ (q : Plan). device_at q n) is, ap (λ (q : Plan). q.path) is ∙ ap (option_map (met_path v)) here ∙ sym here)

  -- one more look at a path that is not asked
  free_same : (stage : Stage) → met_stage v n stage ≡ stage → c.path ≡ path_of n stage false → (device_at (device_seen v c) n ≡ device_at c n) × ((device_seen v c).path ≡ c.path)
  free_same stage met here =
      let path : Path = record { dev = n; stage = stage; asked = false } in
      let is : device_seen v c ≡ path_met v c = still path here refl in (
        ap (λ (q : Plan). device_at q n) is,
        ap (λ (q : Plan). q.path) is ∙ ap (option_map (met_path v)) here ∙ ap (λ (s : Stage). path_of n s false) met ∙ sym here,
      )

  release_met : met_stage v n ReleaseReset ≡ ReleaseReset
  unfolding met_stage
  release_met = refl

  await_met : is_in_reset v n ≡ true → met_stage v n AwaitReset ≡ AwaitReset
  unfolding met_stage
  await_met on = ap (λ (b : Bool). if b then AwaitReset else Identify) on

  asserted : (b : Bool) → is_back v (record { dev = n; stage = AssertReset; asked = true }) ≡ b → Resets n AssertReset true c → IsPlan30 n On (device_seen v c)
  unfolding found_of next_stage met_stage
  asserted true over h =
      let is = back (record { dev = n; stage = AssertReset; asked = true }) h.path over in
      inr (record { device = ap (λ (q : Plan). device_at q n) is ∙ h.device; path = ap (λ (q : Plan). q.path) is })
  asserted false wait h =
      let is = still (record { dev = n; stage = AssertReset; asked = true }) h.path wait in
      inl (record { device = ap (λ (q : Plan). device_at q n) is ∙ h.device; path = ap (λ (q : Plan). q.path) is ∙ ap (option_map (met_path v)) h.path })

  released : (b : Bool) → is_in_reset v n ≡ true → is_back v (record { dev = n; stage = ReleaseReset; asked = true }) ≡ b → Resets n ReleaseReset true c → IsPlan30 n Off (device_seen v c)
  unfolding found_of next_stage
  released true on over h =
      let is = back (record { dev = n; stage = ReleaseReset; asked = true }) h.path over in
      inr (record { device = ap (λ (q : Plan). device_at q n) is ∙ h.device; path = ap (λ (q : Plan). q.path) is ∙ ap (λ (s : Stage). path_of n s false) (await_met on) })
  released false on wait h =
      let is = still (record { dev = n; stage = ReleaseReset; asked = true }) h.path wait in
      inl (record { device = ap (λ (q : Plan). device_at q n) is ∙ h.device; path = ap (λ (q : Plan). q.path) is ∙ ap (option_map (met_path v)) h.path })

-- what slot 30 shows at a stage: the command that is not answered, and the reset that is under way
abbrev pub Shows : ℕ → Stage30 → Sight → Type 0
Shows n Asks v = has_bit v.issued 30 ≡ true
Shows n LogSent v = has_bit v.issued 30 ≡ true
Shows n Sets v = has_bit v.issued 30 ≡ true
Shows n Clears v = has_bit v.issued 30 ≡ true
Shows n Off v = is_in_reset v n ≡ true
Shows n stage v = Unit {0}

plan_of : (n : ℕ) (stage : Stage30) (p q : Plan) → IsPlan30 n stage p → (device_at q n ≡ device_at p n) × (q.path ≡ p.path) → IsPlan30 n stage q
plan_of n stage p q h is = plan_as n stage p q is.0 is.1 h

pub seen_plan : (n : ℕ) (stage : Stage30) (v : Sight) (c : Plan) → is_faulty stage ≡ false → Shows n stage v → IsPlan30 n stage c → IsPlan30 n stage (device_seen v c)
seen_plan n Faulty v c well shows h = absurd (true≢false well)
seen_plan n Cleared v c well shows h = let b = device_beside n v c h.away in cleared_as n c (device_seen v c) b.device (λ x there to. h.away x (b.back x to there) to) h
seen_plan n Sets v c well shows h = plan_of n Sets c (device_seen v c) h (out_same n v c AssertReset shows h.path)
seen_plan n On v c well shows (inl h) = asserted n v c (is_back v (record { dev = n; stage = AssertReset; asked = true })) refl h
seen_plan n On v c well shows (inr h) = plan_of n On c (device_seen v c) (inr h) (free_same n v c ReleaseReset (release_met n v c) h.path)
seen_plan n Clears v c well shows h = plan_of n Clears c (device_seen v c) h (out_same n v c ReleaseReset shows h.path)
seen_plan n Off v c well shows (inl h) = released n v c (is_back v (record { dev = n; stage = ReleaseReset; asked = true })) shows refl h
seen_plan n Off v c well shows (inr h) = plan_of n Off c (device_seen v c) (inr h) (free_same n v c AwaitReset (await_met n v c shows) h.path)
seen_plan n other v c well shows h = plan_of n other c (device_seen v c) h (out_same n v c (ReadLog h.file) shows h.path)

-- ---- the turn

pub turn_plan : (n : ℕ) (stage : Stage30) (v : Sight) (p : Plan) (entries : List (Option Entry)) → is_faulty stage ≡ false → Shows n stage v → IsFound n v p → IsPlan30 n stage p → IsPlan30 n stage (turn_of v p entries).plan
turn_plan n stage v p entries well shows found h =
    let r = recovers n stage p well h in
    let l : Leaves n p (control_seen v p) = control_leaves n v p r.0 r.1 found in
    let c : IsPlan30 n stage (control_seen v p) = plan_of n stage p (control_seen v p) h (l.device, l.path) in
    turn_by (λ t. IsPlan30 n stage t.plan) v p entries h c (seen_plan n stage v (control_seen v p) well shows c)

-- ---- what a stage issues has fields

abbrev pub HasFields : Option Act → Type 0
HasFields (Some (act.Steps dev stage)) = is_some (stage_fields dev stage) ≡ true
HasFields a = Unit {0}

pub fields_turn : (v : Sight) (p : Plan) (entries : List (Option Entry)) → HasFields (turn_of v p entries).act
fields_turn v p entries =
    turn_by (λ t. HasFields t.act) v p entries (early_by HasFields tt v p (λ h. tt) (λ h. tt) (λ h. tt) (λ dev h. tt))
    (order_allowed_by HasFields tt v (control_seen v p) entries (λ un fields. tt)) (late_by HasFields tt v (device_seen v (control_seen v p)) entries (λ dev stage way fields. fields) (λ slot e h. tt))
