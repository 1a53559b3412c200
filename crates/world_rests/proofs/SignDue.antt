-- For `rested_disks_have_signed`. What holds of each act that may be due in a tick holds of the one that is due.
use Rattle.std.proofs.Common.{◌≡◌, ℕ, ◌<◌, Bool, true, false, List, refl, ap, ◌∙◌, inl, inr, Option, Some, None}
use Rattle.std.specs.{Prelude.{if◌then◌else◌, is_some}, Option.{option_map, option_or}}
use Rattle.slots.specs.Slots.{lowest_below, match_some}
use Rattle.slots.proofs.Door.{lowest_is}
use Rattle.hba_driver.specs.declared.{mode.Mode.{Mode, TheVariants.{CommandBased, Switching}}, path.{Path.Path, Stage.Stage}, plan.Plan.Plan}
use Rattle.hba_driver.specs.{Between.MayStep, Drivers.{Entry, entry_at}, Seeing.Sight, Turns.{allowed, control_news, control_seen, control_turn}}
use Rattle.hba_driver.specs.Turns.{device_due, device_or_request, device_seen, device_turn, early_due, fault_due, is_due, issue_of, may_issue}
use Rattle.hba_driver.specs.Turns.{opening_due, order_allowed, order_due, path_due, plain_turn, request_due, restart_due, stage_due, stage_for}
use Rattle.hba_driver.specs.Turns.{step_of, turn_of}

abbrev pub TypeOf : {A : Type 0} → A → Type 0
TypeOf {A} a = A

-- what holds of none and of each
module _ {A : Type 0} (P : Option A → Type 0) (none : P None) where
  or_by : (a b : Option A) → P a → P b → P (option_or a b)
  or_by None b one two = two
  or_by (Some x) b one two = one

  pub if_by : (b : Bool) (x : A) → P (Some x) → P (if b then Some x else None)
  if_by true x one = one
  if_by false x one = none

  pub else_by : (b : Bool) (x : A) (o : Option A) → P (Some x) → P o → P (if b then Some x else o)
  else_by true x o one two = one
  else_by false x o one two = two

  pub unless_by : (b : Bool) (o : Option A) → (b ≡ false → P o) → P (if b then None else o)
  unless_by true o one = none
  unless_by false o one = one refl

  allow_by : (o : Option A) (t : A → Bool) → P o → P (match_some o None (λ a. if t a then Some a else None))
  allow_by None t one = none
  allow_by (Some a) t one = if_by (t a) a one

  pub map_by : {B : Type 0} (f : B → A) (o : Option B) → ((x : B) → P (Some (f x))) → P (option_map f o)
  map_by f None each = none
  map_by f (Some x) each = each x

  match_by : {B : Type 0} (f : B → Option A) (o : Option B) → ((x : B) → o ≡ Some x → P (f x)) → P (match_some o None f)
  match_by f None each = none
  match_by f (Some x) each = each x refl

module _ (v : Sight) (p : Plan) (P : TypeOf (early_due v p) → Type 0) (none : P None) where
  pub early_by : P (opening_due p) → P (restart_due p) → P (fault_due v) → P (early_due v p)
  unfolding early_due
  early_by opens restarts faults = or_by P none (opening_due p) _ opens (or_by P none (restart_due p) (fault_due v) restarts faults)

  allowed_by : (m : Mode) (entries : List (Option Entry)) (o : TypeOf (early_due v p)) → P o → P (allowed m v p entries o)
  allowed_by Switching entries o one = one
  allowed_by CommandBased entries o one = allow_by P none o _ one

  pub order_by : (entries : List (Option Entry)) → P (order_due p) → P (order_allowed v p entries)
  order_by entries one = allowed_by p.mode entries (order_due p) one

  -- slot 30
  module _ (steps : (dev : ℕ) (stage : Stage) → MayStep p dev stage → P (step_of dev stage)) where
    stage_by : (dev : ℕ) → p.path ≡ None → dev < 15 → P (stage_due v p dev)
    stage_by dev free low = match_by P none (step_of dev) (stage_for v p dev) (λ stage is. steps dev stage (inl (free, low)))

    path_by : (o : Option Path) → p.path ≡ o → P (match_some o (match_some (lowest_below (is_due v p) 15) None (stage_due v p)) path_due)
    path_by None is = match_by P none (stage_due v p) (lowest_below (is_due v p) 15) (λ dev found. stage_by dev is (lowest_is (is_due v p) 15 dev found).below)
    path_by (Some x) is =
        unless_by P none x.asked (step_of x.dev x.stage) (λ un. steps x.dev x.stage (inr (is ∙ ap (λ (b : Bool). Some (record x { asked = b })) un)))

    device_by : P (device_due v p)
    unfolding device_due
    device_by = path_by p.path refl

    -- and the requests
    module _ (issues : (slot : ℕ) (e : Entry) → P (issue_of slot (Some e))) (entries : List (Option Entry)) where
      issue_by : (slot : ℕ) (o : Option Entry) → P (issue_of slot o)
      issue_by slot None = none
      issue_by slot (Some e) = issues slot e

      request_by : P (request_due p entries)
      unfolding request_due
      request_by =
          match_by P none (λ slot. issue_of slot (entry_at entries slot)) (lowest_below (λ slot. may_issue p (entry_at entries slot)) 30)
          (λ slot is. issue_by slot (entry_at entries slot))

      pub late_by : P (device_or_request v p entries)
      late_by =
          or_by P none (allowed p.mode v p entries (device_due v p)) (allowed p.mode v p entries (request_due p entries))
          (allowed_by p.mode entries (device_due v p) device_by) (allowed_by p.mode entries (request_due p entries) request_by)

turn_if : {A : Type 0} (P : A → Type 0) (b : Bool) (t u : A) → P t → P u → P (if b then t else u)
turn_if P true t u one two = one
turn_if P false t u one two = two

-- the act that is due, with the plan once the tick has looked
pub turn_by : (v : Sight) (p : Plan) (entries : List (Option Entry)) (P : Plan → TypeOf (early_due v p) → Type 0) → P p (early_due v p)
    → P (control_seen v p) (order_allowed v (control_seen v p) entries)
    → P (device_seen v (control_seen v p)) (device_or_request v (device_seen v (control_seen v p)) entries)
    → P (turn_of v p entries).plan (turn_of v p entries).act
unfolding turn_of
turn_by v p entries P early order late =
    turn_if (λ t. P t.plan t.act) (is_some (early_due v p)) (plain_turn p (early_due v p) false)
    (control_turn v (control_news v p) (control_seen v p) entries) early
    (turn_if (λ t. P t.plan t.act) (is_some (order_allowed v (control_seen v p) entries))
    (plain_turn (control_seen v p) (order_allowed v (control_seen v p) entries) (control_news v p))
    (device_turn v (control_news v p) (control_seen v p) entries) order late)
