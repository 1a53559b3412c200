-- For `ticks_keep`. What a tick knows of the plan and of what it does next.
use Rattle.std.proofs.Common.{◌≡◌, ℕ, ◌<◌, ◌⊎◌, Bool, nat_lt, inl, inr, arith, true, false, List, length, refl, sym, ◌∙◌, ap, subst, Option, Some}
use Rattle.std.proofs.{Common.None, lemmas.{Bool.{false≢true, true≢false, Decides.nat_tests}, List.length-set}}
use Rattle.std.specs.{Prelude.{if◌then◌else◌, ◌&&◌, not, is_some}, Option.{option_map, option_or}}
use Rattle.fis_view.specs.declared.build.H2dFields.{H2dFields}
use Rattle.slots.specs.Slots.{has_bit, lowest_below, match_some}
use Rattle.slots.proofs.Door.{lowest_is}
use Rattle.hba_driver.specs.declared.{mode.Mode.{Mode, TheVariants.{Switching, CommandBased}}, order.Order.{Order, TheVariants.{CountPorts, Scan}}}
use Rattle.hba_driver.specs.declared.{order.Order.TheVariants.Detect, path.{Path.Path, Stage.{Stage, TheVariants.{Identify, ReadLog}}}}
use Rattle.hba_driver.specs.{declared.{plan.Plan.Plan, turn.{Act.Act, Turn.Turn}}, Seeing.Sight, Drivers.{Entry, IsPath, entry_at, waits}}
use Rattle.hba_driver.specs.{Orders.{is_queued, order_fields}, Paths.{next_stage, stage_fields}, Turns.{advanced, allowed, answered, control_news}}
use Rattle.hba_driver.specs.Turns.{control_seen, control_turn, device_due, device_of, device_or_request, device_seen, device_turn, early_due}
use Rattle.hba_driver.specs.Turns.{fault_due, found_of, is_back, is_due, issue_of, may_go_to, may_issue, met, met_order, met_path, noted}
use Rattle.hba_driver.specs.Turns.{order_allowed, order_due, path_answered, path_due, path_met, path_to, plain_turn, request_due, stage_due}
use Rattle.hba_driver.specs.{Turns.{stage_for, step_of, turn_of, with_next}, Between.{Due, Runs}}
use Rattle.hba_driver.specs.declared.turn.Act.TheVariants as act

-- ---- what is due

-- ---- what holds of each act that may be due holds of what is due

-- why a stage is due: slot 30 is free, or a path that holds it goes on with this stage
abbrev pub StepsBy : Sight → Plan → (dev : ℕ) → Stage → Type 0
StepsBy v plan dev stage = ((plan.path ≡ None) × ((dev < 15) × (stage_for v plan dev ≡ Some stage))) ⊎ (plan.path ≡ Some (record { dev = dev; stage = stage; asked = false }))

-- why a request is due
pub record IssuesBy (plan : Plan) (entries : List (Option Entry)) (slot : ℕ) (e : Entry) : Type 0 where
  pub below : slot < 30
  pub stands : entry_at entries slot ≡ Some e
  pub may : may_issue plan (Some e) ≡ true

module _ (P : Option Act → Type 0) (none : P None) where
  pub or_by : (a b : Option Act) → P a → P b → P (option_or a b)
  or_by None b h k = k
  or_by (Some a) b h k = h

  if_by : (b : Bool) (a : Option Act) → (b ≡ true → P a) → P (if b then a else None)
  if_by true a h = h refl
  if_by false a h = none

  unless_by : (b : Bool) (a : Option Act) → (b ≡ false → P a) → P (if b then None else a)
  unless_by true a h = none
  unless_by false a h = h refl

  -- what may go of it
  pub allowed_by : (mode : Mode) (v : Sight) (plan : Plan) (entries : List (Option Entry)) (a : Option Act) → P a → P (allowed mode v plan entries a)
  allowed_by Switching v plan entries a h = h
  allowed_by CommandBased v plan entries None h = none
  allowed_by CommandBased v plan entries (Some a) h = if_by (may_go_to v plan entries (device_of a)) (Some a) (λ goes. h)

  -- what comes before everything else
  pub early_by : (v : Sight) (plan : Plan) → (nat_lt plan.opened 7 ≡ true → P (Some (act.Opens plan.opened))) → (nat_lt plan.restarted 2 ≡ true → P (Some (act.Restarts plan.restarted)))
      → (v.stopped ≡ true → P (Some act.Stops)) → ((dev : ℕ) → v.faulty ≡ Some dev → P (Some (act.Clears dev))) → P (early_due v plan)
  unfolding early_due
  early_by v plan opens restarts stops clears = or_by _ _ (if_by (nat_lt plan.opened 7) _ opens) (or_by _ _ (if_by (nat_lt plan.restarted 2) _ restarts) (by_stopped v.stopped refl))
    where
      by_faulty : (o : Option ℕ) → v.faulty ≡ o → P (option_map act.Clears o)
      by_faulty None is = none
      by_faulty (Some dev) is = clears dev is

      by_stopped : (b : Bool) → v.stopped ≡ b → P (if b then Some act.Stops else option_map act.Clears v.faulty)
      by_stopped true is = stops is
      by_stopped false is = by_faulty v.faulty refl

  -- slot 31
  pub order_by : (plan : Plan) → (plan.asked ≡ false → is_some (order_fields plan.order) ≡ true → P (Some (act.Orders plan.order))) → P (order_due plan)
  order_by plan orders = unless_by plan.asked _ (λ un. by_fields un (order_fields plan.order) refl)
    where
      by_fields : plan.asked ≡ false → (o : Option H2dFields) → order_fields plan.order ≡ o → P (option_map (λ f. act.Orders plan.order) o)
      by_fields un None is = none
      by_fields un (Some f) is = orders un (ap is_some is)

  -- slot 30
  module _ (v : Sight) (plan : Plan) (steps : (dev : ℕ) (stage : Stage) → StepsBy v plan dev stage → is_some (stage_fields dev stage) ≡ true → P (Some (act.Steps dev stage))) where
    step_by : (dev : ℕ) (stage : Stage) → StepsBy v plan dev stage → P (step_of dev stage)
    step_by dev stage way = by_fields (stage_fields dev stage) refl
      where
        by_fields : (o : Option H2dFields) → stage_fields dev stage ≡ o → P (option_map (λ f. act.Steps dev stage) o)
        by_fields None is = none
        by_fields (Some f) is = steps dev stage way (ap is_some is)

    stage_by : (dev : ℕ) (o : Option Stage) → stage_for v plan dev ≡ o → plan.path ≡ None → dev < 15 → P (match_some o None (step_of dev))
    stage_by dev None is free low = none
    stage_by dev (Some stage) is free low = step_by dev stage (inl (free, (low, is)))

    lowest_by : (o : Option ℕ) → lowest_below (is_due v plan) 15 ≡ o → plan.path ≡ None → P (match_some o None (stage_due v plan))
    lowest_by None is free = none
    lowest_by (Some dev) is free = stage_by dev (stage_for v plan dev) refl free (lowest_is (is_due v plan) 15 dev is).below

    path_by : (o : Option Path) → plan.path ≡ o → P (match_some o (match_some (lowest_below (is_due v plan) 15) None (stage_due v plan)) path_due)
    path_by None is = lowest_by (lowest_below (is_due v plan) 15) refl is
    path_by (Some x) is = unless_by x.asked _ (λ un. step_by x.dev x.stage (inr (is ∙ ap (λ (b : Bool). Some (record x { asked = b })) un)))

    pub device_by : P (device_due v plan)
    unfolding device_due
    device_by = path_by plan.path refl

  -- the requests
  module _ (plan : Plan) (entries : List (Option Entry)) (issues : (slot : ℕ) (e : Entry) → IssuesBy plan entries slot e → P (Some (act.Issues slot e.head.dev (is_queued e.head.work)))) where
    entry_by : (slot : ℕ) (o : Option Entry) → entry_at entries slot ≡ o → slot < 30 → may_issue plan o ≡ true → P (issue_of slot o)
    entry_by slot None is below may = none
    entry_by slot (Some e) is below may = issues slot e (record { below = below; stands = is; may = may })

    slot_by : (o : Option ℕ) → lowest_below (λ slot. may_issue plan (entry_at entries slot)) 30 ≡ o → P (match_some o None (λ slot. issue_of slot (entry_at entries slot)))
    slot_by None is = none
    slot_by (Some slot) is = let low = lowest_is (λ slot. may_issue plan (entry_at entries slot)) 30 slot is in entry_by slot (entry_at entries slot) refl low.below low.passes

    pub request_by : P (request_due plan entries)
    unfolding request_due
    request_by = slot_by (lowest_below (λ slot. may_issue plan (entry_at entries slot)) 30) refl

  pub order_allowed_by : (v : Sight) (plan : Plan) (entries : List (Option Entry)) → (plan.asked ≡ false → is_some (order_fields plan.order) ≡ true → P (Some (act.Orders plan.order))) → P (order_allowed v plan entries)
  order_allowed_by v plan entries orders = allowed_by plan.mode v plan entries (order_due plan) (order_by plan orders)

  pub late_by : (v : Sight) (plan : Plan) (entries : List (Option Entry)) → ((dev : ℕ) (stage : Stage) → StepsBy v plan dev stage → is_some (stage_fields dev stage) ≡ true → P (Some (act.Steps dev stage)))
      → ((slot : ℕ) (e : Entry) → IssuesBy plan entries slot e → P (Some (act.Issues slot e.head.dev (is_queued e.head.work)))) → P (device_or_request v plan entries)
  late_by v plan entries steps issues = or_by _ _ (allowed_by plan.mode v plan entries _ (device_by v plan steps)) (allowed_by plan.mode v plan entries _ (request_by plan entries issues))

-- ---- what holds of the three turns that a turn may be holds of it

turn_if : (P : Turn → Type 0) (b : Bool) (t u : Turn) → P t → P u → P (if b then t else u)
turn_if P true t u h k = h
turn_if P false t u h k = k

pub turn_by : (P : Turn → Type 0) (v : Sight) (plan : Plan) (entries : List (Option Entry)) → P (plain_turn plan (early_due v plan) false)
    → P (plain_turn (control_seen v plan) (order_allowed v (control_seen v plan) entries) (control_news v plan)) → P (device_turn v (control_news v plan) (control_seen v plan) entries) → P (turn_of v plan entries)
unfolding turn_of
turn_by P v plan entries early order device = turn_if P (is_some (early_due v plan)) _ _ early (turn_if P (is_some (order_allowed v (control_seen v plan) entries)) _ _ order device)

-- ---- what is known of what is due

less_of : (n m : ℕ) → nat_lt n m ≡ true → n < m
less_of n m h = grind (arith, nat_tests)

first : (b c : Bool) → (b && c) ≡ true → b ≡ true
first true c h = refl
first false c h = absurd (false≢true h)

pub due_turn : (v : Sight) (plan : Plan) (entries : List (Option Entry)) → Due v (turn_of v plan entries).plan entries (turn_of v plan entries).act
due_turn v plan entries =
    turn_by (λ t. Due v t.plan entries t.act) v plan entries
    (early_by (Due v plan entries) tt v plan (λ h. (refl, less_of plan.opened 7 h)) (λ h. (refl, less_of plan.restarted 2 h)) (λ h. h) (λ dev h. h))
    (order_allowed_by (Due v (control_seen v plan) entries) tt v (control_seen v plan) entries (λ un fields. un))
    (late_by (Due v (device_seen v (control_seen v plan)) entries) tt v (device_seen v (control_seen v plan)) entries (λ dev stage way fields. elim way [ inl free ↦ inl (free.0, free.1.0) | inr on ↦ inr on ])
    (λ slot e h. (record { below = h.below; entry = e; stands = h.stands; may = h.may; waits_is = first (waits e.head) _ h.may; of_dev = refl }, refl)))

-- ---- what was seen of the plan

-- an order waits for its answer while its command is out, and so does a path
pub record PlanGoes (v : Sight) (p q : Plan) : Type 0 where
  pub asked : has_bit v.issued 31 ≡ true → p.asked ≡ true → q.asked ≡ true
  pub path : has_bit v.issued 30 ≡ true → (x : Path) → p.path ≡ Some x → x.asked ≡ true → q.path ≡ Some x
  pub back : (x : Path) → q.path ≡ Some x → x.asked ≡ true → p.path ≡ Some x
  pub devices : length q.devices ≡ length p.devices
  pub opened : q.opened ≡ p.opened
  pub restarted : q.restarted ≡ p.restarted
  pub mode : q.mode ≡ p.mode
  pub low : IsPath p.path → IsPath q.path

goes_same : (v : Sight) (p : Plan) → PlanGoes v p p
goes_same v p = record { asked = λ b h. h; path = λ b x here a. here; back = λ x here a. here; devices = refl; opened = refl; restarted = refl; mode = refl; low = λ h. h }

goes_then : (v : Sight) (p q r : Plan) → PlanGoes v p q → PlanGoes v q r → PlanGoes v p r
goes_then v p q r h k = record { asked = λ b a. k.asked b (h.asked b a); path = λ b x here a. k.path b x (h.path b x here a) a; back = λ x here a. h.back x (k.back x here a) a; devices = k.devices ∙ h.devices; opened = k.opened ∙ h.opened; restarted = k.restarted ∙ h.restarted; mode = k.mode ∙ h.mode; low = λ x. k.low (h.low x) }

-- the rest of the plan is as it was
record Alike (p q : Plan) : Type 0 where
  pub path : q.path ≡ p.path
  pub devices : length q.devices ≡ length p.devices
  pub opened : q.opened ≡ p.opened
  pub restarted : q.restarted ≡ p.restarted
  pub mode : q.mode ≡ p.mode

alike_noted : (v : Sight) (order : Order) (plan : Plan) → Alike plan (noted v order plan)
unfolding noted
alike_noted v (Detect port) plan = record { path = refl; devices = length-set plan.devices port _; opened = refl; restarted = refl; mode = refl }
alike_noted v order plan = record { path = refl; devices = refl; opened = refl; restarted = refl; mode = refl }

goes_answer : (v : Sight) (b c : Bool) (next plan : Plan) → has_bit v.issued 31 ≡ c → Alike plan next → PlanGoes v plan (if b && not c then next else plan)
goes_answer v true true next plan is same = goes_same v plan
goes_answer v false c next plan is same = goes_same v plan
goes_answer v true false next plan is same = record {
  asked = λ bit h. absurd (true≢false (sym bit ∙ is));
  path = λ bit x here a. same.path ∙ here;
  back = λ x here a. sym same.path ∙ here;
  devices = same.devices;
  opened = same.opened;
  restarted = same.restarted;
  mode = same.mode;
  low = λ h. subst IsPath (sym same.path) h;
}

goes_answered : (v : Sight) (plan : Plan) → PlanGoes v plan (answered v plan)
goes_answered v plan =
    let same : Alike plan (noted v plan.order plan) = alike_noted v plan.order plan in
    goes_answer v plan.asked (has_bit v.issued 31) (with_next plan.order (noted v plan.order plan)) plan refl
    (record { path = same.path; devices = same.devices; opened = same.opened; restarted = same.restarted; mode = same.mode })

goes_if : (v : Sight) (b : Bool) (p q r : Plan) → PlanGoes v p q → PlanGoes v p r → PlanGoes v p (if b then q else r)
goes_if v true p q r h k = h
goes_if v false p q r h k = k

goes_met : (v : Sight) (plan : Plan) → PlanGoes v plan (met v plan)
goes_met v plan =
    goes_if v plan.asked plan plan (record plan { order = met_order v plan.order }) (goes_same v plan) (record { asked = λ b h. h; path = λ b x here a. here; back = λ x here a. here; devices = refl; opened = refl; restarted = refl; mode = refl; low = λ h. h })

pub goes_control : (v : Sight) (plan : Plan) → PlanGoes v plan (control_seen v plan)
goes_control v plan = goes_then v plan (answered v plan) (control_seen v plan) (goes_answered v plan) (goes_met v (answered v plan))

alike_found : (v : Sight) (stage : Stage) (dev : ℕ) (plan : Plan) → Alike plan (found_of v stage dev plan)
unfolding found_of
alike_found v Identify dev plan = record { path = refl; devices = length-set plan.devices dev _; opened = refl; restarted = refl; mode = refl }
alike_found v (ReadLog file) dev plan = record { path = refl; devices = length-set plan.devices dev _; opened = refl; restarted = refl; mode = refl }
alike_found v stage dev plan = record { path = refl; devices = refl; opened = refl; restarted = refl; mode = refl }

asked_found : (v : Sight) (stage : Stage) (dev : ℕ) (plan : Plan) → (found_of v stage dev plan).asked ≡ plan.asked
unfolding found_of
asked_found v Identify dev plan = refl
asked_found v stage dev plan = refl

same_path : (x y : Path) → Some x ≡ Some y → x ≡ y
same_path x y h = cc

path_low : (dev : ℕ) (stage : Option Stage) → dev < 15 → IsPath (path_to dev stage)
path_low dev None h = tt
path_low dev (Some s) h = h

met_if : (b : Bool) (x y : Path) → x.dev < 15 → y.dev < 15 → (if b then x else y).dev < 15
met_if true x y h k = h
met_if false x y h k = k

met_low : (v : Sight) (o : Option Path) → IsPath o → IsPath (option_map (met_path v) o)
met_low v None h = tt
met_low v (Some path) h = met_if path.asked path _ h h

-- a path that goes on has no command out yet
unasked : (dev : ℕ) (stage : Option Stage) (x : Path) → path_to dev stage ≡ Some x → x.asked ≡ true → ⊥
unasked dev None x here a = cc
unasked dev (Some s) x here a =
    let next : Path = record { dev = dev; stage = s; asked = false } in
    let is : next ≡ x = same_path next x here in
    false≢true (ap (λ (p : Path). p.asked) is ∙ a)

goes_back : (v : Sight) (bit : Bool) (path : Path) (plan : Plan) → plan.path ≡ Some path → has_bit v.issued 30 ≡ bit → PlanGoes v plan (if path.asked && not bit then advanced v path plan else plan)
goes_back v bit path plan here is = by_asked path.asked bit is refl
  where
    by_asked : (a bit : Bool) → has_bit v.issued 30 ≡ bit → path.asked ≡ a → PlanGoes v plan (if a && not bit then advanced v path plan else plan)
    by_asked true true is a = goes_same v plan
    by_asked true false is a =
        let same : Alike plan (found_of v path.stage path.dev plan) = alike_found v path.stage path.dev plan in
        record {
          asked = λ b h. asked_found v path.stage path.dev plan ∙ h;
          path = λ on x there ax. absurd (true≢false (sym on ∙ is));
          back = λ x there ax. absurd (unasked path.dev (next_stage path.stage) x there ax);
          devices = same.devices;
          opened = same.opened;
          restarted = same.restarted;
          mode = same.mode;
          low = λ h. path_low path.dev (next_stage path.stage) (subst IsPath here h);
        }
    by_asked false bit is a = goes_same v plan

goes_answered_by : (v : Sight) (o : Option Path) (plan : Plan) → plan.path ≡ o → PlanGoes v plan (match_some o plan (λ path. if is_back v path then advanced v path plan else plan))
goes_answered_by v None plan here = goes_same v plan
goes_answered_by v (Some path) plan here = goes_back v (has_bit v.issued 30) path plan here refl

pub met_asked : (v : Sight) (path : Path) → path.asked ≡ true → met_path v path ≡ path
met_asked v path h = ap (λ (b : Bool). if b then path else record path { stage = Rattle.hba_driver.specs.Turns.met_stage v path.dev path.stage }) h

met_back : (v : Sight) (o : Option Path) (x : Path) → option_map (met_path v) o ≡ Some x → x.asked ≡ true → o ≡ Some x
met_back v None x here a = here
met_back v (Some path) x here a = by_asked path.asked refl (same_path (met_path v path) x here)
  where
    by_asked : (b : Bool) → path.asked ≡ b → met_path v path ≡ x → Some path ≡ Some x
    by_asked true on is = ap Some (sym (met_asked v path on) ∙ is)
    by_asked false off is =
        let asked_is : (met_path v path).asked ≡ false =
        ap (λ (b : Bool). (if b then path else record path { stage = Rattle.hba_driver.specs.Turns.met_stage v path.dev path.stage }).asked) off ∙ off in
        absurd (false≢true (sym asked_is ∙ ap (λ (p : Path). p.asked) is ∙ a))

goes_path_met : (v : Sight) (plan : Plan) → PlanGoes v plan (path_met v plan)
goes_path_met v plan = record {
  asked = λ b h. h;
  path = λ b x here a. ap (option_map (met_path v)) here ∙ ap Some (met_asked v x a);
  back = λ x here a. met_back v plan.path x here a;
  devices = refl;
  opened = refl;
  restarted = refl;
  mode = refl;
  low = λ h. met_low v plan.path h;
}

pub goes_device : (v : Sight) (plan : Plan) → PlanGoes v plan (device_seen v plan)
goes_device v plan = goes_then v plan (path_answered v plan) (device_seen v plan) (goes_answered_by v plan.path plan refl) (goes_path_met v (path_answered v plan))

pub goes_turn : (v : Sight) (plan : Plan) (entries : List (Option Entry)) → PlanGoes v plan (turn_of v plan entries).plan
goes_turn v plan entries =
    let first = goes_control v plan in
    turn_by (λ t. PlanGoes v plan t.plan) v plan entries (goes_same v plan) first (goes_then v plan (control_seen v plan) _ first (goes_device v (control_seen v plan)))

-- ---- what comes only once the port is open and runs

runs_any : (plan : Plan) (a : Option Act) → nat_lt plan.opened 7 ≡ false → nat_lt plan.restarted 2 ≡ false → Runs plan a
runs_any plan None ready up = tt
runs_any plan (Some (act.Opens k)) ready up = tt
runs_any plan (Some (act.Restarts k)) ready up = ready
runs_any plan (Some a) ready up = (ready, up)

runs_as : (p q : Plan) (a : Option Act) → q.opened ≡ p.opened → q.restarted ≡ p.restarted → Runs p a → Runs q a
runs_as p q None ready up h = tt
runs_as p q (Some (act.Opens k)) ready up h = tt
runs_as p q (Some (act.Restarts k)) ready up h = ap (λ (n : ℕ). nat_lt n 7) ready ∙ h
runs_as p q (Some a) ready up h = (ap (λ (n : ℕ). nat_lt n 7) ready ∙ h.0, ap (λ (n : ℕ). nat_lt n 2) up ∙ h.1)

runs_by : (v : Sight) (plan : Plan) (entries : List (Option Entry)) (b c : Bool) → nat_lt plan.opened 7 ≡ b → nat_lt plan.restarted 2 ≡ c → Runs plan (turn_of v plan entries).act
unfolding turn_of early_due
runs_by v plan entries true c ready up = rw ready tt
runs_by v plan entries false true ready up = rw (ready, up) ready
runs_by v plan entries false false ready up = runs_any plan (turn_of v plan entries).act ready up

pub runs_turn : (v : Sight) (plan : Plan) (entries : List (Option Entry)) → Runs plan (turn_of v plan entries).act
runs_turn v plan entries = runs_by v plan entries (nat_lt plan.opened 7) (nat_lt plan.restarted 2) refl refl

-- the same for the plan of the turn
pub runs_then : (v : Sight) (plan : Plan) (entries : List (Option Entry)) → Runs (turn_of v plan entries).plan (turn_of v plan entries).act
runs_then v plan entries =
    let goes : PlanGoes v plan (turn_of v plan entries).plan = goes_turn v plan entries in
    runs_as plan (turn_of v plan entries).plan (turn_of v plan entries).act goes.opened goes.restarted (runs_turn v plan entries)

-- ---- with command-based switching nothing is issued beside another device

-- if it issues a command, nothing is issued for another device
abbrev pub MayGo : Sight → Plan → List (Option Entry) → Option Act → Type 0
MayGo v plan entries None = Unit {0}
MayGo v plan entries (Some a) = may_go_to v plan entries (device_of a) ≡ true

alone_goes : (mode : Mode) (v : Sight) (plan : Plan) (entries : List (Option Entry)) (a : Option Act) → mode ≡ CommandBased → MayGo v plan entries (allowed mode v plan entries a)
alone_goes Switching v plan entries a is = cc
alone_goes CommandBased v plan entries None is = tt
alone_goes CommandBased v plan entries (Some a) is = if_by (MayGo v plan entries) tt (may_go_to v plan entries (device_of a)) (Some a) (λ goes. goes)

-- what comes before everything else issues no command
pub turn_alone : (v : Sight) (plan : Plan) (entries : List (Option Entry)) → plan.mode ≡ CommandBased → MayGo v (turn_of v plan entries).plan entries (turn_of v plan entries).act
turn_alone v plan entries is =
    let control = (goes_control v plan).mode ∙ is in
    let device = (goes_device v (control_seen v plan)).mode ∙ control in
    turn_by (λ t. MayGo v t.plan entries t.act) v plan entries (early_by (MayGo v plan entries) tt v plan (λ h. refl) (λ h. refl) (λ h. refl) (λ dev h. refl))
    (alone_goes (control_seen v plan).mode v (control_seen v plan) entries _ control)
    (or_by (MayGo v (device_seen v (control_seen v plan)) entries) tt _ _ (alone_goes (device_seen v (control_seen v plan)).mode v (device_seen v (control_seen v plan)) entries _ device)
    (alone_goes (device_seen v (control_seen v plan)).mode v (device_seen v (control_seen v plan)) entries _ device))
