-- For `rested_plans_match`. What a tick makes of slot 31, and of what the driver takes a device to be.
use Rattle.std.proofs.Common.{◌≡◌, ◌≢◌, ℕ, zero, suc, ◌+◌, ◌<◌, ◌==◌, ◌&&◌, Bool, true, false, nat_lt, not, if◌then◌else◌, List, [], ◌∷◌, get_or}
use Rattle.std.proofs.{Common.{length, set, refl, sym, ap, subst, ◌∙◌, inl, inr, Option, Some, None}, lemmas.{List.{get_or-set_same}, Bool.and_parts}}
use Rattle.std.proofs.lemmas.Bool.{cases_Bool, cases_eq, eq-eqb, eqb-true, false≢true, lt-ltb, or_left, true≢false}
use Rattle.std.specs.{Prelude.{is_some, nat_le}, List.list_any, Option.{option_map, option_or}}
use Rattle.hba_fbs.specs.Views.{Port}
use Rattle.slots.specs.Slots.{has_bit, lowest_below, match_some}
use Rattle.hba_driver.specs.declared.{mode.Mode.{Mode, TheVariants.{CommandBased, Switching}}, order.Order.{Order, TheVariants.AwaitSignature}}
use Rattle.hba_driver.specs.declared.{order.Order.TheVariants.{Clear, CountPorts, Detect, Enable, Open, ResetOn, Scan, Watch}, path.Path.Path}
use Rattle.hba_driver.specs.declared.path.{Recovery.TheVariants.Reset, Stage.{Stage, TheVariants.{Identify, ReadLog}}, TaskFile.TaskFile}
use Rattle.hba_driver.specs.{declared.plan.{Device.{Device, TheVariants.{Absent, Ready, Recovering, Unusable}}, Plan.Plan}, Between.MayClear}
use Rattle.hba_driver.specs.{Between.MayEnd, Drivers.{Driver, Entry, device_at, entry_at, with_device}, Effects.{effects_of, order_effects}}
use Rattle.hba_driver.specs.{Going.leaves_port, Laws.flushes, Seeing.Sight, Steady.{IsCalmAct, detects}, Orders.{next_order, open_from, order_fields}}
use Rattle.hba_driver.specs.{Orders.scan_from, Paths.{recovery, stage_fields}, Tended.IsUnworked, Ticks.{after_tick, done_ended, due, effects_due}}
use Rattle.hba_driver.specs.{Ticks.{from_reset, ordered, plan_after, recovering, seen, turn}, Turns.{advanced, allowed, control_news, control_seen}}
use Rattle.hba_driver.specs.Turns.{control_turn, detected, device_due, device_or_request, device_seen, device_turn, early_due, fault_due, found_of}
use Rattle.hba_driver.specs.Turns.{is_back, is_due, issue_of, may_issue, met_order, noted, opening_due, order_allowed, order_due, path_answered}
use Rattle.hba_driver.specs.Turns.{path_due, plain_turn, request_due, restart_due, signed_order, stage_due, stage_for, step_of, turn_of, with_next}
use Rattle.hba_driver.proofs.Door.{acted_plan, seen_free, seen_out, seen_unasked, set_other}

-- ---- lists of devices

set_absent : (devices : List Device) (k n : ℕ) (device : Device) → (device ≡ Absent → ⊥) → get_or (set devices k device) n Absent ≡ Absent → get_or devices n Absent ≡ Absent
set_absent [] k n device not h = refl
set_absent (d ∷ devices) zero zero device not h = absurd (not h)
set_absent (d ∷ devices) zero (suc n) device not h = h
set_absent (d ∷ devices) (suc k) zero device not h = h
set_absent (d ∷ devices) (suc k) (suc n) device not h = set_absent devices k n device not h

-- ---- what slot 30 makes of a device

-- It is taken to be absent only if it was before; and it stays so if slot 30 does not work on it.
pub record Leaves (n : ℕ) (p q : Plan) : Type 0 where
  pub order : q.order ≡ p.order
  pub asked : q.asked ≡ p.asked
  pub was : device_at q n ≡ Absent → device_at p n ≡ Absent
  pub stays : device_at p n ≡ Absent → IsUnworked n p → device_at q n ≡ Absent

leaves_same : (n : ℕ) (p : Plan) → Leaves n p p
leaves_same n p = record { order = refl; asked = refl; was = λ h. h; stays = λ h free. h }

usable_there : (b : Bool) → (if b then Ready else Unusable) ≡ Absent → ⊥
usable_there true is = cc
usable_there false is = cc

whole_there : (b : Bool) → (if b then Ready else Recovering Reset) ≡ Absent → ⊥
whole_there true is = cc
whole_there false is = cc

module _ (n : ℕ) (v : Sight) (p : Plan) where
  set_leaves : (path : Path) → p.path ≡ Some path → (device : Device) → (device ≡ Absent → ⊥) → (next : Option Path) → Leaves n p (record (with_device path.dev device p) { path = next })
  set_leaves path here device there next = record {
    order = refl;
    asked = refl;
    was = set_absent p.devices path.dev n device there;
    stays = λ absent free. set_other p.devices path.dev n device (λ same. free path here (sym same)) ∙ absent;
  }

  found_leaves : (path : Path) → p.path ≡ Some path → (next : Option Path) → Leaves n p (record (found_of v path.stage path.dev p) { path = next })
  unfolding found_of
  found_leaves path here next = by_stage path.stage
    where
      by_stage : (s : Stage) → Leaves n p (record (found_of v s path.dev p) { path = next })
      by_stage Identify = set_leaves path here (if v.usable then Ready else Unusable) (usable_there v.usable) next
      by_stage (ReadLog file) = set_leaves path here (if v.log.whole then Ready else Recovering Reset) (whole_there v.log.whole) next
      by_stage s = record { order = refl; asked = refl; was = λ h. h; stays = λ h free. h }

  path_leaves : (o : Option Path) → p.path ≡ o → Leaves n p (match_some o p (λ path. if is_back v path then advanced v path p else p))
  path_leaves None is = leaves_same n p
  path_leaves (Some path) is = by_back (is_back v path)
    where
      by_back : (b : Bool) → Leaves n p (if b then advanced v path p else p)
      by_back true = found_leaves path is _
      by_back false = leaves_same n p

  device_leaves : Leaves n p (device_seen v p)
  device_leaves = let l : Leaves n p (path_answered v p) = path_leaves p.path refl in record { order = l.order; asked = l.asked; was = l.was; stays = l.stays }

-- ---- what an act leaves of the plan

-- what holds of none and of each that is due
module _ {A : Type 0} (P : Option A → Type 0) (none : P None) where
  or_by : (a b : Option A) → P a → P b → P (option_or a b)
  or_by None b one two = two
  or_by (Some x) b one two = one

  if_by : (b : Bool) (x : A) → P (Some x) → P (if b then Some x else None)
  if_by true x one = one
  if_by false x one = none

  else_by : (b : Bool) (x : A) (o : Option A) → P (Some x) → P o → P (if b then Some x else o)
  else_by true x o one two = one
  else_by false x o one two = two

  unless_by : (b : Bool) (o : Option A) → (b ≡ false → P o) → P (if b then None else o)
  unless_by true o one = none
  unless_by false o one = one refl

  allow_by : (o : Option A) (t : A → Bool) → P o → P (match_some o None (λ a. if t a then Some a else None))
  allow_by None t one = none
  allow_by (Some a) t one = if_by (t a) a one

  map_by : {B : Type 0} (f : B → A) (o : Option B) → ((x : B) → P (Some (f x))) → P (option_map f o)
  map_by f None each = none
  map_by f (Some x) each = each x

  match_by : {B : Type 0} (f : B → Option A) (o : Option B) → ((x : B) → P (f x)) → P (match_some o None f)
  match_by f None each = none
  match_by f (Some x) each = each x

turn_if : {A : Type 0} (P : A → Type 0) (b : Bool) (t u : A) → (b ≡ true → P t) → (b ≡ false → P u) → P (if b then t else u)
turn_if P true t u one two = one refl
turn_if P false t u one two = two refl

module _ (n : ℕ) (file : TaskFile) (port : Port) (p : Plan) where
  -- What comes first: the port is opened, a fault of a device is cleared, or the port is stopped. With this said of the act: that it is calm
  -- for the device, leaves the port as it is, and may end a fault.
  pub data Firsts (r : Plan) (calm leaves ends : Type 0) : Type 0 where
    Kept : r.order ≡ p.order → r.asked ≡ p.asked → device_at r n ≡ device_at p n → calm → Firsts r calm leaves ends
    Cleared : (dev : ℕ) → (ends → MayClear dev port) → r ≡ (if nat_lt dev 15 then recovering dev file p else from_reset p) → (n ≢ dev → calm) → Firsts r calm leaves ends
    Stopped : (leaves → ⊥) → Firsts r calm leaves ends

  -- What comes then: the order of slot 31, or a command of slot 30 or of a request, or nothing. And whether the device is flushed.
  pub data Lasts (r : Plan) (calm : Type 0) (flush : Bool) : Type 0 where
    Left : r.order ≡ p.order → r.asked ≡ p.asked → device_at r n ≡ device_at p n → calm → Lasts r calm flush
    Ordered : r ≡ ordered p.order p → p.asked ≡ false → (p.order ≡ Clear n → flush ≡ true) → (p.order ≢ Clear n → calm) → Lasts r calm flush

  abbrev FirstIn : {A : Type 0} → (A → Plan) → (calm leaves ends : Option A → Type 0) → Option A → Type 0
  FirstIn after calm leaves ends o = Firsts (match_some o p after) (calm o) (leaves o) (ends o)

  abbrev LastIn : {A : Type 0} → (A → Plan) → (calm : Option A → Type 0) → (flush : Option A → Bool) → Option A → Type 0
  LastIn after calm flush o = Lasts (match_some o p after) (calm o) (flush o)

  first_made : (v : Sight) → FirstIn (λ x. plan_after x file p) (IsCalmAct n) (λ o. (a : _) → o ≡ Some a → leaves_port a) (λ o. MayEnd Switching o port) (early_due v p)
  unfolding plan_after early_due
  first_made v =
      or_by (FirstIn (λ x. plan_after x file p) (IsCalmAct n) (λ o. (a : _) → o ≡ Some a → leaves_port a) (λ o. MayEnd Switching o port)) (Kept refl refl refl tt) (opening_due p) (option_or (restart_due p) (fault_due v))
      (if_by (FirstIn (λ x. plan_after x file p) (IsCalmAct n) (λ o. (a : _) → o ≡ Some a → leaves_port a) (λ o. MayEnd Switching o port)) (Kept refl refl refl tt) (nat_lt p.opened 7) _ (Kept refl refl refl tt))
      (or_by (FirstIn (λ x. plan_after x file p) (IsCalmAct n) (λ o. (a : _) → o ≡ Some a → leaves_port a) (λ o. MayEnd Switching o port)) (Kept refl refl refl tt) (restart_due p) (fault_due v)
      (if_by (FirstIn (λ x. plan_after x file p) (IsCalmAct n) (λ o. (a : _) → o ≡ Some a → leaves_port a) (λ o. MayEnd Switching o port)) (Kept refl refl refl tt) (nat_lt p.restarted 2) _ (Kept refl refl refl tt))
      (else_by (FirstIn (λ x. plan_after x file p) (IsCalmAct n) (λ o. (a : _) → o ≡ Some a → leaves_port a) (λ o. MayEnd Switching o port)) (Kept refl refl refl tt) v.stopped _ _ (Stopped (λ leaves. leaves _ refl))
      (map_by (FirstIn (λ x. plan_after x file p) (IsCalmAct n) (λ o. (a : _) → o ≡ Some a → leaves_port a) (λ o. MayEnd Switching o port)) (Kept refl refl refl tt) _ v.faulty (λ dev. Cleared dev (λ ends. ends.1) refl (λ other. other)))))

  flush_any : (mode : Mode) (o : Order) → o ≡ Clear n → list_any (flushes n) (order_effects mode o) ≡ true
  unfolding order_effects
  flush_any mode o is = ap (λ (x : Order). list_any (flushes n) (order_effects mode x)) is ∙ or_left (n == n) _ (eq-eqb n n refl)

  order_made : (mode : Mode) → LastIn (λ x. plan_after x file p) (IsCalmAct n) (λ o. list_any (flushes n) (effects_due mode o)) (order_due p)
  unfolding plan_after effects_of
  order_made mode =
      unless_by (LastIn (λ x. plan_after x file p) (IsCalmAct n) (λ o. list_any (flushes n) (effects_due mode o))) (Left refl refl refl tt) p.asked _
      (λ unasked. map_by (LastIn (λ x. plan_after x file p) (IsCalmAct n) (λ o. list_any (flushes n) (effects_due mode o))) (Left refl refl refl tt) _ (order_fields p.order)
      (λ fields. Ordered refl unasked (flush_any mode p.order) (λ other. other)))

  allowed_order : (mode m : Mode) (v : Sight) (entries : List (Option Entry))
      → LastIn (λ x. plan_after x file p) (IsCalmAct n) (λ o. list_any (flushes n) (effects_due mode o)) (allowed m v p entries (order_due p))
  allowed_order mode Switching v entries = order_made mode
  allowed_order mode CommandBased v entries =
      allow_by (LastIn (λ x. plan_after x file p) (IsCalmAct n) (λ o. list_any (flushes n) (effects_due mode o))) (Left refl refl refl tt) (order_due p) _ (order_made mode)

  step_made : (mode : Mode) (dev : ℕ) (stage : Stage) → LastIn (λ x. plan_after x file p) (IsCalmAct n) (λ o. list_any (flushes n) (effects_due mode o)) (step_of dev stage)
  unfolding plan_after
  step_made mode dev stage =
      map_by (LastIn (λ x. plan_after x file p) (IsCalmAct n) (λ o. list_any (flushes n) (effects_due mode o))) (Left refl refl refl tt) _ (stage_fields dev stage) (λ fields. Left refl refl refl tt)

  stage_made : (mode : Mode) (v : Sight) (dev : ℕ) → LastIn (λ x. plan_after x file p) (IsCalmAct n) (λ o. list_any (flushes n) (effects_due mode o)) (stage_due v p dev)
  stage_made mode v dev =
      match_by (LastIn (λ x. plan_after x file p) (IsCalmAct n) (λ o. list_any (flushes n) (effects_due mode o))) (Left refl refl refl tt) (step_of dev) (stage_for v p dev) (step_made mode dev)

  path_made : (mode : Mode) (v : Sight) (o : Option Path)
      → LastIn (λ x. plan_after x file p) (IsCalmAct n) (λ o. list_any (flushes n) (effects_due mode o)) (match_some o (match_some (lowest_below (is_due v p) 15) None (stage_due v p)) path_due)
  path_made mode v None =
      match_by (LastIn (λ x. plan_after x file p) (IsCalmAct n) (λ o. list_any (flushes n) (effects_due mode o))) (Left refl refl refl tt) (stage_due v p) (lowest_below (is_due v p) 15) (stage_made mode v)
  path_made mode v (Some x) =
      unless_by (LastIn (λ x. plan_after x file p) (IsCalmAct n) (λ o. list_any (flushes n) (effects_due mode o))) (Left refl refl refl tt) x.asked (step_of x.dev x.stage) (λ unasked. step_made mode x.dev x.stage)

  device_made : (mode : Mode) (v : Sight) → LastIn (λ x. plan_after x file p) (IsCalmAct n) (λ o. list_any (flushes n) (effects_due mode o)) (device_due v p)
  unfolding device_due
  device_made mode v = path_made mode v p.path

  allowed_device : (mode m : Mode) (v : Sight) (entries : List (Option Entry))
      → LastIn (λ x. plan_after x file p) (IsCalmAct n) (λ o. list_any (flushes n) (effects_due mode o)) (allowed m v p entries (device_due v p))
  allowed_device mode Switching v entries = device_made mode v
  allowed_device mode CommandBased v entries =
      allow_by (LastIn (λ x. plan_after x file p) (IsCalmAct n) (λ o. list_any (flushes n) (effects_due mode o))) (Left refl refl refl tt) (device_due v p) _ (device_made mode v)

  issue_made : (mode : Mode) (slot : ℕ) (e : Option Entry) → LastIn (λ x. plan_after x file p) (IsCalmAct n) (λ o. list_any (flushes n) (effects_due mode o)) (issue_of slot e)
  unfolding plan_after
  issue_made mode slot None = Left refl refl refl tt
  issue_made mode slot (Some e) = Left refl refl refl tt

  request_made : (mode : Mode) (entries : List (Option Entry)) → LastIn (λ x. plan_after x file p) (IsCalmAct n) (λ o. list_any (flushes n) (effects_due mode o)) (request_due p entries)
  unfolding request_due
  request_made mode entries =
      match_by (LastIn (λ x. plan_after x file p) (IsCalmAct n) (λ o. list_any (flushes n) (effects_due mode o))) (Left refl refl refl tt) (λ slot. issue_of slot (entry_at entries slot))
      (lowest_below (λ slot. may_issue p (entry_at entries slot)) 30) (λ slot. issue_made mode slot (entry_at entries slot))

  allowed_request : (mode m : Mode) (v : Sight) (entries : List (Option Entry))
      → LastIn (λ x. plan_after x file p) (IsCalmAct n) (λ o. list_any (flushes n) (effects_due mode o)) (allowed m v p entries (request_due p entries))
  allowed_request mode Switching v entries = request_made mode entries
  allowed_request mode CommandBased v entries =
      allow_by (LastIn (λ x. plan_after x file p) (IsCalmAct n) (λ o. list_any (flushes n) (effects_due mode o))) (Left refl refl refl tt) (request_due p entries) _ (request_made mode entries)

  rest_made : (mode : Mode) (v : Sight) (entries : List (Option Entry)) → LastIn (λ x. plan_after x file p) (IsCalmAct n) (λ o. list_any (flushes n) (effects_due mode o)) (device_or_request v p entries)
  rest_made mode v entries =
      or_by (LastIn (λ x. plan_after x file p) (IsCalmAct n) (λ o. list_any (flushes n) (effects_due mode o))) (Left refl refl refl tt) (allowed p.mode v p entries (device_due v p))
      (allowed p.mode v p entries (request_due p entries)) (allowed_device mode p.mode v entries) (allowed_request mode p.mode v entries)

-- ---- the tick

-- A tick does what comes first; or the driver looks at what came, and then does what comes then.
module _ (n : ℕ) (v : Sight) (file : TaskFile) (port : Port) (p : Plan) where
  pub data Makes (r : Plan) (calm leaves ends : Type 0) (flush : Bool) : Type 0 where
    First : Firsts n file port p r calm leaves ends → Makes r calm leaves ends flush
    Last : (s : Plan) → Leaves n (control_seen v p) s → Lasts n file port s r calm flush → is_some (early_due v p) ≡ false → Makes r calm leaves ends flush

module _ (n : ℕ) (v : Sight) (file : TaskFile) (port : Port) (d : Driver) (mode : Mode) where
  abbrev p : Plan
  p = d.plan

  abbrev q : Plan
  q = control_seen v p

  abbrev entries : List (Option Entry)
  entries = done_ended v.issued d.entries

  turn_makes : Makes n v file port p (match_some (turn v d).act (turn v d).plan (λ x. plan_after x file (turn v d).plan)) (IsCalmAct n (turn v d).act) ((a : _) → (turn v d).act ≡ Some a → leaves_port a)
      (MayEnd Switching (turn v d).act port) (list_any (flushes n) (effects_due mode (turn v d).act))
  unfolding turn_of
  turn_makes =
      turn_if (λ t. Makes n v file port p (match_some t.act t.plan (λ x. plan_after x file t.plan)) (IsCalmAct n t.act) ((a : _) → t.act ≡ Some a → leaves_port a) (MayEnd Switching t.act port)
      (list_any (flushes n) (effects_due mode t.act))) (is_some (early_due v p)) (plain_turn p (early_due v p) false) (control_turn v (control_news v p) q entries) (λ some. First (first_made n file port p v))
      (λ none. turn_if (λ t. Makes n v file port p (match_some t.act t.plan (λ x. plan_after x file t.plan)) (IsCalmAct n t.act) ((a : _) → t.act ≡ Some a → leaves_port a) (MayEnd Switching t.act port)
      (list_any (flushes n) (effects_due mode t.act))) (is_some (order_allowed v q entries)) (plain_turn q (order_allowed v q entries) (control_news v p)) (device_turn v (control_news v p) q entries)
      (λ some. Last q (leaves_same n q) (allowed_order n file port q mode q.mode v entries) none)
      (λ nothing. Last (device_seen v q) (device_leaves n v q) (rest_made n file port (device_seen v q) mode v entries) none))

  pub tick_makes : Makes n v file port p (after_tick v file d).plan (IsCalmAct n (due v d)) ((a : _) → due v d ≡ Some a → leaves_port a) (MayEnd Switching (due v d) port) (list_any (flushes n) (effects_due mode (due v d)))
  unfolding after_tick
  tick_makes =
      subst (λ (r : Plan). Makes n v file port p r (IsCalmAct n (due v d)) ((a : _) → due v d ≡ Some a → leaves_port a) (MayEnd Switching (due v d) port) (list_any (flushes n) (effects_due mode (due v d))))
      (sym (acted_plan (due v d) file (seen v d))) turn_makes

-- what an act leaves

pub ordered_device : (n : ℕ) (p : Plan) (o : Order) → o ≢ Clear n → device_at (ordered o p) n ≡ device_at p n
ordered_device n p (Clear port) other = set_other p.devices port n _ (λ e. other (ap Clear (sym e)))
ordered_device n p o other = refl

pub ordered_order : (p : Plan) (o : Order) → ((ordered o p).order ≡ p.order) × ((ordered o p).asked ≡ true)
ordered_order p (Clear port) = (refl, refl)
ordered_order p o = (refl, refl)

pub cleared_is : (n dev : ℕ) (file : TaskFile) (p : Plan) → dev < 15 → (if nat_lt dev 15 then recovering dev file p else from_reset p) ≡ recovering dev file p
cleared_is n dev file p low = ap (λ (b : Bool). if b then recovering dev file p else from_reset p) (lt-ltb dev 15 low)

pub recovering_there : (n dev : ℕ) (file : TaskFile) (p : Plan) → n < length p.devices → dev ≡ n → device_at (recovering dev file p) n ≢ Absent
recovering_there n dev file p below same absent =
    let is : get_or (set p.devices n (Recovering (recovery (device_at p dev) file))) n Absent ≡ Recovering (recovery (device_at p dev) file) = get_or-set_same p.devices n (Recovering (recovery (device_at p dev) file)) Absent below in
    let wrong : Recovering (recovery (device_at p dev) file) ≡ Absent = sym is ∙ subst (λ (k : ℕ). get_or (set p.devices k (Recovering (recovery (device_at p dev) file))) n Absent ≡ Absent) same absent in
    cc

pub recovering_other : (n dev : ℕ) (file : TaskFile) (p : Plan) → n ≢ dev → device_at (recovering dev file p) n ≡ device_at p n
recovering_other n dev file p other = set_other p.devices dev n _ other

-- while nothing comes first, no device is shown with a fault
none_either : {A : Type 0} (x y : Option A) → is_some (option_or x y) ≡ false → is_some y ≡ false
none_either None y e = e
none_either (Some x) y e = absurd (true≢false e)

none_stops : {A B : Type 0} (b : Bool) (x : A) (f : B → A) (o : Option B) → is_some (if b then Some x else option_map f o) ≡ false → o ≡ None
none_stops true x f o e = absurd (true≢false e)
none_stops false x f None e = refl
none_stops false x f (Some y) e = absurd (true≢false e)

pub late_faulty : (v : Sight) (p : Plan) → is_some (early_due v p) ≡ false → v.faulty ≡ None
unfolding early_due
late_faulty v p none = none_stops v.stopped _ _ v.faulty (none_either (restart_due p) (fault_due v) (none_either (opening_due p) (option_or (restart_due p) (fault_due v)) none))

-- ---- the driver looks at what came

scan_never : (n found from : ℕ) → detects n false (scan_from found from) ≡ true → ⊥
unfolding scan_from
scan_never n found from on = by_lowest (lowest_below (λ port. nat_le from port && has_bit found port) 15) on
  where
    by_lowest : (o : Option ℕ) → detects n false (match_some o Watch Clear) ≡ true → ⊥
    by_lowest None on = false≢true on
    by_lowest (Some p) on = false≢true on

open_never : (n ports from : ℕ) → detects n false (open_from ports from) ≡ true → ⊥
open_never n ports from on = by_test (nat_lt from ports) on
  where
    by_test : (b : Bool) → detects n false (if b then Open from else Scan) ≡ true → ⊥
    by_test true on = false≢true on
    by_test false on = false≢true on

signed_never : (n : ℕ) (v : Sight) → detects n false (signed_order v) ≡ true → ⊥
signed_never n v on = by_test v.resetting (v.answer == 0x96690101) on
  where
    by_test : (b c : Bool) → detects n false (if b then AwaitSignature else if c then CountPorts else ResetOn) ≡ true → ⊥
    by_test true c on = false≢true on
    by_test false true on = false≢true on
    by_test false false on = false≢true on

met_never : (n : ℕ) (v : Sight) (order : Order) → detects n false (met_order v order) ≡ true → detects n false order ≡ true
unfolding met_order
met_never n v AwaitSignature on = absurd (signed_never n v on)
met_never n v Watch on = by_test v.notified on
  where
    by_test : (b : Bool) → detects n false (if b then Scan else Watch) ≡ true → detects n false Watch ≡ true
    by_test true on = on
    by_test false on = on
met_never n v other on = on

met_on : (n : ℕ) (v : Sight) (order : Order) → detects n false order ≡ true → detects n false (met_order v order) ≡ true
unfolding met_order
met_on n v AwaitSignature on = absurd (false≢true on)
met_on n v Watch on = absurd (false≢true on)
met_on n v other on = on

unasked_on : (n : ℕ) (asked : Bool) (order : Order) → detects n false order ≡ true → detects n asked order ≡ true
unasked_on n asked (Detect port) on = on
unasked_on n asked (Clear port) on = absurd (false≢true on)
unasked_on n asked order on = absurd (false≢true on)

module _ (n : ℕ) (v : Sight) (p : Plan) where
  -- the plan once an answer was noted
  abbrev noted_plan : Order → Plan
  noted_plan o = record (with_next o (noted v o p)) { order = met_order v (next_order (noted v o p).ports (noted v o p).found o) }

  -- ---- what is sought then was sought before

  next_detects : (o : Order) → p.asked ≡ true → detects n false (next_order (noted v o p).ports (noted v o p).found o) ≡ true → detects n p.asked o ≡ true
  unfolding next_order noted
  next_detects Enable asked on = absurd (open_never n p.ports 0 on)
  next_detects (Open port) asked on = absurd (open_never n p.ports (port + 1) on)
  next_detects Scan asked on = absurd (scan_never n v.answer 0 on)
  next_detects (Clear port) asked on = ap (λ (b : Bool). b && (port == n)) asked ∙ on
  next_detects (Detect port) asked on = absurd (scan_never n p.found (port + 1) on)
  next_detects o asked on = absurd (false≢true on)

  pub seen_detects : detects n (control_seen v p).asked (control_seen v p).order ≡ true → detects n p.asked p.order ≡ true
  seen_detects on = elim (cases_Bool p.asked) [
    | inr unasked ↦
        let q = seen_unasked v p unasked in
        let off : detects n false (met_order v p.order) ≡ true = ap (λ (b : Bool). detects n b (met_order v p.order)) (sym unasked) ∙ ap (λ (x : Plan). detects n x.asked x.order) (sym q) ∙ on in
        unasked_on n p.asked p.order (met_never n v p.order off)
    | inl asked ↦ elim (cases_Bool (has_bit v.issued 31)) [
      | inl out ↦ ap (λ (x : Plan). detects n x.asked x.order) (sym (seen_out v p asked out)) ∙ on
      | inr off ↦ next_detects p.order asked (met_never n v _ (ap (λ (x : Plan). detects n x.asked x.order) (sym (seen_free v p asked off)) ∙ on))
    ]
  ]

  -- ---- what becomes of the device

  -- it stays what it is, and is sought if it was; or an answer of its port came
  pub data Looks (r : Plan) : Type 0 where
    Same : device_at r n ≡ device_at p n → (detects n p.asked p.order ≡ true → detects n r.asked r.order ≡ true) → Looks r
    Told : p.order ≡ Detect n → p.asked ≡ true → has_bit v.issued 31 ≡ false → device_at r n ≡ detected v.answer (device_at p n) → Looks r

  module _ (asked : p.asked ≡ true) (off : has_bit v.issued 31 ≡ false) (below : n < length p.devices) where
    detect_looks : (port : ℕ) → p.order ≡ Detect port → Looks (noted_plan (Detect port))
    unfolding noted
    detect_looks port is = elim (cases_eq port n) [
      | inl same ↦
          Told (is ∙ ap Detect same) asked off
          (subst (λ (k : ℕ). get_or (set p.devices k (detected v.answer (device_at p k))) n Absent ≡ detected v.answer (device_at p n)) (sym same) (get_or-set_same p.devices n (detected v.answer (device_at p n)) Absent below))
      | inr other ↦
          Same (set_other p.devices port n _ (λ e. other (sym e)))
          (λ on. absurd (other (eqb-true port n (ap (λ (o : Order). detects n p.asked o) (sym is) ∙ on))))
    ]

    clear_looks : (port : ℕ) → p.order ≡ Clear port → Looks (noted_plan (Clear port))
    unfolding noted next_order met_order
    clear_looks port is =
        Same refl (λ on. (and_parts p.asked (port == n) (ap (λ (o : Order). detects n p.asked o) (sym is) ∙ on)).1)

    other_looks : (o : Order) → p.order ≡ o → device_at (noted v o p) n ≡ device_at p n → detects n p.asked o ≡ false → Looks (noted_plan o)
    other_looks o is device none = Same device (λ on. absurd (false≢true (sym none ∙ ap (λ (x : Order). detects n p.asked x) (sym is) ∙ on)))

    free_looks : (o : Order) → p.order ≡ o → Looks (noted_plan o)
    unfolding noted
    free_looks (Detect port) is = detect_looks port is
    free_looks (Clear port) is = clear_looks port is
    free_looks o is = other_looks o is refl refl

  pub seen_looks : n < length p.devices → Looks (control_seen v p)
  seen_looks below = elim (cases_Bool p.asked) [
    | inr unasked ↦
        subst Looks (sym (seen_unasked v p unasked))
        (Same refl (λ on. ap (λ (b : Bool). detects n b (met_order v p.order)) unasked ∙ met_on n v p.order (ap (λ (b : Bool). detects n b p.order) (sym unasked) ∙ on)))
    | inl asked ↦ elim (cases_Bool (has_bit v.issued 31)) [
      | inl out ↦ subst Looks (sym (seen_out v p asked out)) (Same refl (λ on. on))
      | inr off ↦ subst Looks (sym (seen_free v p asked off)) (free_looks asked off below p.order refl)
    ]
  ]

  -- ---- slot 30 keeps what it works on

  noted_path : (o : Order) → (noted v o p).path ≡ p.path
  unfolding noted
  noted_path (Detect port) = refl
  noted_path o = refl

  pub seen_path : (control_seen v p).path ≡ p.path
  seen_path = elim (cases_Bool p.asked) [
    | inr unasked ↦ ap (λ (x : Plan). x.path) (seen_unasked v p unasked)
    | inl asked ↦ elim (cases_Bool (has_bit v.issued 31)) [
      | inl out ↦ ap (λ (x : Plan). x.path) (seen_out v p asked out)
      | inr off ↦ ap (λ (x : Plan). x.path) (seen_free v p asked off) ∙ noted_path p.order
    ]
  ]
