-- For `rested_disks_have_signed`. What the driver knows of a device that is new to it: it is taken to be absent, or it starts and slot 30
-- does not work on it. After a tick that is calm for the device it is new only if it was before.
use Rattle.std.proofs.Common.{◌≡◌, ◌≢◌, ℕ, zero, suc, ◌+◌, ◌&&◌, Bool, true, false, nat_lt, List, [], ◌∷◌, get_or, set, refl, sym, ◌∙◌, ap, subst}
use Rattle.std.proofs.{Common.{inl, inr, Option, Some, None}, lemmas.{Bool.{cases_eq, eq-eqb, ne_eqb}, List.{get_or-set_other}}}
use Rattle.std.specs.{Prelude.{◌⊎◌, not, if◌then◌else◌}, Option.option_map}
use Rattle.slots.specs.Slots.{match_some}
use Rattle.hba_driver.specs.declared.{order.Order.{Order, TheVariants.{Clear, CountPorts, Detect, Scan}}, path.Path.Path}
use Rattle.hba_driver.specs.declared.path.{Recovery.TheVariants.Reset, Stage.{Stage, TheVariants.{AssertReset, AwaitReset, Identify, ReadLog}}}
use Rattle.hba_driver.specs.declared.{path.{Stage.TheVariants.ReleaseReset, TaskFile.TaskFile}, plan.Device.{Device, TheVariants.{Absent, Ready}}}
use Rattle.hba_driver.specs.{declared.plan.{Device.TheVariants.{Recovering, Starting, Unusable}, Plan.Plan}, Between.{MayStep, PollFacts}}
use Rattle.hba_driver.specs.{Drivers.{Driver, Entry, device_at}, HostTurns.{Does, Host, HostTurn, Polled, Submitted, Ticked, sight_in}}
use Rattle.hba_driver.specs.{Orders.order_fields, Paths.{next_stage, stage_fields}, Seeing.Sight, Sights.file_shown, Steady.{IsCalmAct, IsSteadyTurn}}
use Rattle.hba_driver.specs.{Steady.detects, Tended.IsUnworked, Ticks.{after_tick, done_ended, due, from_reset, ordered, plan_after, recovering}}
use Rattle.hba_driver.specs.{Ticks.{seen, unless}, Turns.{advanced, answered, control_seen, device_or_request, device_seen, early_due, fault_due}}
use Rattle.hba_driver.specs.Turns.{found_of, is_back, is_out, issue_of, met_order, met_path, met_stage, noted, opening_due, order_allowed, order_due}
use Rattle.hba_driver.specs.Turns.{path_answered, path_met, path_to, restart_due, step_of, turn_of, with_next}
use Rattle.hba_driver.proofs.Door.{acted_plan, freed, poll_facts, turn_was}
use Rattle.world_rests.proofs.SignDue.{TypeOf, early_by, else_by, if_by, late_by, map_by, order_by, turn_by, unless_by}

pub data IsNew (n : ℕ) (plan : Plan) : Type 0 where
  IsAbsent : device_at plan n ≡ Absent → IsNew n plan
  Starts : device_at plan n ≡ Starting → IsUnworked n plan → IsNew n plan

-- it starts afterwards, unworked, only if it did before
abbrev Started : ℕ → Plan → Plan → Type 0
Started n p q = device_at q n ≡ Starting → IsUnworked n q → (device_at p n ≡ Starting) × IsUnworked n p

started_as : (n : ℕ) (p q : Plan) → device_at q n ≡ device_at p n → q.path ≡ p.path → Started n p q
started_as n p q device path starts away = (sym device ∙ starts, λ x here. away x (path ∙ here))

started_then : (n : ℕ) (p q r : Plan) → Started n p q → Started n q r → Started n p r
started_then n p q r h k starts away = let was = k starts away in h was.0 was.1

-- ---- devices that are set

-- a device that is set to something else than starting
set_never : (devices : List Device) (n : ℕ) (device : Device) → (device ≡ Starting → ⊥) → get_or (set devices n device) n Absent ≡ Starting → ⊥
set_never [] n device not h = cc
set_never (d ∷ devices) zero device not h = not h
set_never (d ∷ devices) (suc n) device not h = set_never devices n device not h

set_other : (devices : List Device) (k n : ℕ) (device : Device) → k ≢ n → get_or (set devices k device) n Absent ≡ get_or devices n Absent
set_other devices k n device other = get_or-set_other devices k n device Absent (λ e. other (sym e))

-- ---- slot 31

noted_path : (v : Sight) (order : Order) (p : Plan) → (noted v order p).path ≡ p.path
unfolding noted
noted_path v CountPorts p = refl
noted_path v Scan p = refl
noted_path v (Detect port) p = refl
noted_path v order p = refl

control_path : (v : Sight) (p : Plan) → (control_seen v p).path ≡ p.path
control_path v p = by_met (answered v p).asked ∙ by_answer (p.asked && not (is_out v p))
  where
    by_met : (b : Bool) → (if b then answered v p else record (answered v p) { order = met_order v (answered v p).order }).path ≡ (answered v p).path
    by_met true = refl
    by_met false = refl

    by_answer : (b : Bool) → (if b then with_next p.order (noted v p.order p) else p).path ≡ p.path
    by_answer true = noted_path v p.order p
    by_answer false = refl

noted_device : (n : ℕ) (v : Sight) (order : Order) (p : Plan) → order ≢ Detect n → device_at (noted v order p) n ≡ device_at p n
unfolding noted
noted_device n v CountPorts p other = refl
noted_device n v Scan p other = refl
noted_device n v (Detect port) p other = set_other p.devices port n _ (λ e. other (ap Detect e))
noted_device n v order p other = refl

control_device : (n : ℕ) (v : Sight) (p : Plan) → p.order ≢ Detect n → device_at (control_seen v p) n ≡ device_at p n
control_device n v p other = by_met (answered v p).asked ∙ by_answer (p.asked && not (is_out v p))
  where
    by_met : (b : Bool)
        → device_at (if b then answered v p else record (answered v p) { order = met_order v (answered v p).order }) n ≡ device_at (answered v p) n
    by_met true = refl
    by_met false = refl

    by_answer : (b : Bool) → device_at (if b then with_next p.order (noted v p.order p) else p) n ≡ device_at p n
    by_answer true = noted_device n v p.order p other
    by_answer false = refl

detect_or_other : (n : ℕ) (o : Order) → (o ≡ Detect n) ⊎ (o ≢ Detect n)
detect_or_other n (Detect port) = elim (cases_eq port n) [
  | inl same ↦ inl (ap Detect same)
  | inr other ↦ inr (λ e. other (let same : port ≡ n = cc in same))
]
detect_or_other n o = inr (λ e. cc)

-- it is looked for only while it is taken to be absent
abbrev pub IsSought : ℕ → Plan → Type 0
IsSought n p = detects n p.asked p.order ≡ true → device_at p n ≡ Absent

control_started : (n : ℕ) (v : Sight) (p : Plan) → IsSought n p → device_at (control_seen v p) n ≡ Starting → IsUnworked n (control_seen v p) → IsNew n p
control_started n v p sought starts away = elim (detect_or_other n p.order) [
  | inl is ↦ IsAbsent (sought (subst (λ (o : Order). detects n p.asked o ≡ true) (sym is) (eq-eqb n n refl)))
  | inr other ↦ let was = started_as n p (control_seen v p) (control_device n v p other) (control_path v p) starts away in Starts was.0 was.1
]

-- ---- slot 30

found_device : (n : ℕ) (v : Sight) (stage : Stage) (dev : ℕ) (p : Plan) → dev ≢ n → device_at (found_of v stage dev p) n ≡ device_at p n
unfolding found_of
found_device n v Identify dev p other = set_other p.devices dev n _ other
found_device n v (ReadLog file) dev p other = set_other p.devices dev n _ other
found_device n v stage dev p other = refl

usable_never : (b : Bool) → (if b then Ready else Unusable) ≡ Starting → ⊥
usable_never true is = cc
usable_never false is = cc

whole_never : (b : Bool) → (if b then Ready else Recovering Reset) ≡ Starting → ⊥
whole_never true is = cc
whole_never false is = cc

-- a path of the device that goes on works on it, and one that ends leaves it identified or not, but not starting
advanced_own : (n : ℕ) (v : Sight) (stage : Stage) (p : Plan) → device_at (found_of v stage n p) n ≡ Starting
    → ((x : Path) → path_to n (next_stage stage) ≡ Some x → x.dev ≢ n) → ⊥
unfolding found_of next_stage
advanced_own n v Identify p starts away = set_never p.devices n _ (usable_never v.usable) starts
advanced_own n v (ReadLog file) p starts away = set_never p.devices n _ (whole_never v.log.whole) starts
advanced_own n v AssertReset p starts away = away _ refl refl
advanced_own n v ReleaseReset p starts away = away _ refl refl
advanced_own n v AwaitReset p starts away = away _ refl refl

same_path : (x y : Path) → Some x ≡ Some y → x ≡ y
same_path x y e = cc

advanced_started : (n : ℕ) (v : Sight) (p : Plan) (path : Path) → p.path ≡ Some path → Started n p (advanced v path p)
advanced_started n v p path here starts away = elim (cases_eq path.dev n) [
  | inl same ↦
      absurd (advanced_own n v path.stage p (subst (λ (k : ℕ). device_at (found_of v path.stage k p) n ≡ Starting) same starts)
      (subst (λ (k : ℕ). (x : Path) → path_to k (next_stage path.stage) ≡ Some x → x.dev ≢ n) same away))
  | inr other ↦ (
    sym (found_device n v path.stage path.dev p other) ∙ starts,
    λ x at dev. other (ap (λ (y : Path). y.dev) (same_path path x (sym here ∙ at)) ∙ dev),
  )
]

answered_started : (n : ℕ) (v : Sight) (p : Plan) → Started n p (path_answered v p)
answered_started n v p = by_path p.path refl
  where
    by_back : (path : Path) → p.path ≡ Some path → (b : Bool) → Started n p (if b then advanced v path p else p)
    by_back path here true = advanced_started n v p path here
    by_back path here false = started_as n p p refl refl

    by_path : (o : Option Path) → p.path ≡ o → Started n p (match_some o p (λ path. if is_back v path then advanced v path p else p))
    by_path None here = started_as n p p refl refl
    by_path (Some path) here = by_back path here (is_back v path)

met_dev : (v : Sight) (path : Path) → (met_path v path).dev ≡ path.dev
met_dev v path = by_test path.asked
  where
    by_test : (b : Bool) → (if b then path else record path { stage = met_stage v path.dev path.stage }).dev ≡ path.dev
    by_test true = refl
    by_test false = refl

met_started : (n : ℕ) (v : Sight) (p : Plan) → Started n p (path_met v p)
met_started n v p starts away =
    (starts, λ x here dev. away (met_path v x) (ap (λ (o : Option Path). option_map (met_path v) o) here) (met_dev v x ∙ dev))

device_started : (n : ℕ) (v : Sight) (p : Plan) → Started n p (device_seen v p)
device_started n v p = started_then n p (path_answered v p) (device_seen v p) (answered_started n v p) (met_started n v (path_answered v p))

-- ---- acts

unless_other : (dev : ℕ) (x : Path) → x.dev ≢ dev → unless dev (Some x) ≡ Some x
unless_other dev x other = ap (λ (b : Bool). if b then None else Some x) (ne_eqb x.dev dev other)

-- slot 30 gives up another device
given_up : (n dev : ℕ) (p q : Plan) → dev ≢ n → device_at q n ≡ device_at p n → q.path ≡ unless dev p.path → Started n p q
given_up n dev p q other device path starts away = (
  sym device ∙ starts,
  λ x here at. away x (path ∙ ap (unless dev) here ∙ unless_other dev x (λ e. other (sym e ∙ at))) at,
)

cleared_started : (n : ℕ) (file : TaskFile) (p : Plan) (dev : ℕ) (b : Bool) → n ≢ dev → Started n p (if b then recovering dev file p else from_reset p)
cleared_started n file p dev true other = given_up n dev p (recovering dev file p) (λ e. other (sym e)) (set_other p.devices dev n _ (λ e. other (sym e))) refl
cleared_started n file p dev false other = started_as n p (from_reset p) refl refl

ordered_started : (n : ℕ) (p : Plan) (order : Order) → order ≢ Clear n → Started n p (ordered order p)
ordered_started n p (Clear port) other =
    given_up n port p (ordered (Clear port) p) (λ e. other (ap Clear e)) (set_other p.devices port n _ (λ e. other (ap Clear e))) refl
ordered_started n p rest other = started_as n p (record p { asked = true }) refl refl

none_path : {X : Type 0} (x : Path) → None ≡ Some x → X
none_path x e = cc

step_started : (n : ℕ) (file : TaskFile) (p : Plan) (dev : ℕ) (stage : Stage) → MayStep p dev stage
    → Started n p (record p { path = Some (record { dev = dev; stage = stage; asked = true }) })
step_started n file p dev stage may starts away = (starts, λ x here at. by_may may x here at)
  where
    by_may : MayStep p dev stage → (x : Path) → p.path ≡ Some x → x.dev ≢ n
    by_may (inl free) x here at = none_path x (sym free.0 ∙ here)
    by_may (inr own) x here at =
        let same : record { dev = dev; stage = stage; asked = false } ≡ x = same_path _ x (sym own ∙ here) in
        away _ refl (ap (λ (y : Path). y.dev) same ∙ at)

module _ (n : ℕ) (file : TaskFile) (v : Sight) (p : Plan) where
  -- the act lets it start only if it did before
  abbrev StartsOn : TypeOf (early_due v p) → Type 0
  StartsOn o = IsCalmAct n o → Started n p (match_some o p (λ x. plan_after x file p))

  none_on : StartsOn None
  none_on calm = started_as n p p refl refl

  opening_on : StartsOn (opening_due p)
  unfolding plan_after
  opening_on = if_by StartsOn none_on (nat_lt p.opened 7) _ (λ calm. started_as n p (record p { opened = p.opened + 1 }) refl refl)

  restart_on : StartsOn (restart_due p)
  unfolding plan_after
  restart_on = if_by StartsOn none_on (nat_lt p.restarted 2) _ (λ calm. started_as n p (record p { restarted = p.restarted + 1 }) refl refl)

  fault_on : StartsOn (fault_due v)
  unfolding plan_after
  fault_on =
      else_by StartsOn none_on v.stopped _ _ (λ calm. absurd calm)
      (map_by StartsOn none_on _ v.faulty (λ dev calm. cleared_started n file p dev (nat_lt dev 15) calm))

  early_on : StartsOn (early_due v p)
  early_on = early_by v p StartsOn none_on opening_on restart_on fault_on

  order_on : StartsOn (order_due p)
  unfolding plan_after
  order_on = unless_by StartsOn none_on p.asked _ (λ un. map_by StartsOn none_on _ (order_fields p.order) (λ fields calm. ordered_started n p p.order calm))

  control_on : (entries : List (Option Entry)) → StartsOn (order_allowed v p entries)
  control_on entries = order_by v p StartsOn none_on entries order_on

  step_on : (dev : ℕ) (stage : Stage) → MayStep p dev stage → StartsOn (step_of dev stage)
  unfolding plan_after
  step_on dev stage may = map_by StartsOn none_on _ (stage_fields dev stage) (λ fields calm. step_started n file p dev stage may)

  issue_on : (slot : ℕ) (e : Entry) → StartsOn (issue_of slot (Some e))
  unfolding plan_after
  issue_on slot e calm = started_as n p p refl refl

  late_on : (entries : List (Option Entry)) → StartsOn (device_or_request v p entries)
  late_on entries = late_by v p StartsOn none_on step_on issue_on entries

-- ---- a tick

module _ (n : ℕ) (file : TaskFile) (v : Sight) (p : Plan) (entries : List (Option Entry)) (sought : IsSought n p) where
  abbrev Was : Plan → TypeOf (early_due v p) → Type 0
  Was q o =
      IsCalmAct n o → device_at (match_some o q (λ x. plan_after x file q)) n ≡ Starting → IsUnworked n (match_some o q (λ x. plan_after x file q)) → IsNew n p

  due_was : Was (turn_of v p entries).plan (turn_of v p entries).act
  due_was =
      turn_by v p entries Was
      (λ calm starts away. let was = early_on n file v p calm starts away in Starts was.0 was.1)
      (λ calm starts away. let was = control_on n file v (control_seen v p) entries calm starts away in control_started n v p sought was.0 was.1)
      (λ calm starts away.
      let was = late_on n file v (device_seen v (control_seen v p)) entries calm starts away in
      let then_was = device_started n v (control_seen v p) was.0 was.1 in
      control_started n v p sought then_was.0 then_was.1)

tick_new : (n : ℕ) (old : Host) (file : TaskFile) → IsCalmAct n (due (sight_in old) old.driver) → IsSought n old.driver.plan
    → device_at (after_tick (sight_in old) file old.driver).plan n ≡ Starting
    → IsUnworked n (after_tick (sight_in old) file old.driver).plan → IsNew n old.driver.plan
unfolding after_tick
tick_new n old file calm sought starts away =
    let v : Sight = sight_in old in
    let is = acted_plan (due v old.driver) file (seen v old.driver) in
    due_was n file v old.driver.plan (done_ended v.issued old.driver.entries) sought calm (sym (ap (λ (p : Plan). device_at p n) is) ∙ starts)
    (subst (IsUnworked n) is away)

-- ---- a turn

same_new : (n : ℕ) (p q : Plan) → q ≡ p → IsNew n q → IsNew n p
same_new n p q same new = subst (IsNew n) same new

pub new_was : (n : ℕ) (old : Host) (t : HostTurn) (new : Host) → Does old t new → IsSteadyTurn n old t → IsSought n old.driver.plan → IsNew n new.driver.plan
    → IsNew n old.driver.plan
new_was n old t new does calm sought (IsAbsent absent) = IsAbsent (turn_was n old t new does calm sought absent)
new_was n old t new does calm sought (Starts starts away) = by_turn t does calm
  where
    by_turn : (u : HostTurn) → Does old u new → IsSteadyTurn n old u → IsNew n old.driver.plan
    by_turn (Ticked a) d c =
        tick_new n old (file_shown new.port) c sought (sym (ap (λ (x : Driver). device_at x.plan n) d.driver) ∙ starts)
        (subst (λ (x : Driver). IsUnworked n x.plan) d.driver away)
    by_turn (Submitted dev request ticket) d c = same_new n old.driver.plan new.driver.plan (ap (λ (x : Driver). x.plan) d.taken.driver) (Starts starts away)
    by_turn (Polled completion) d c =
        let f : PollFacts old.driver completion = poll_facts old.driver completion d.polled in
        same_new n old.driver.plan new.driver.plan (ap (λ (x : Driver). x.plan) (d.driver ∙ freed old.driver completion f)) (Starts starts away)
    by_turn other d c = same_new n old.driver.plan new.driver.plan (ap (λ (x : Driver). x.plan) d.driver) (Starts starts away)
