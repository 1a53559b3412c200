-- For `devices_are_apart`. A device that is not being looked for is not looked for until a tick flushes it.
use Rattle.std.proofs.Common.{◌≡◌, ◌≢◌, ℕ, Bool, true, false, nat_lt, List, refl, sym, ◌∙◌, ap, subst, inl, inr, Option, Some, None}
use Rattle.std.specs.Prelude.{if◌then◌else◌}
use Rattle.std.proofs.lemmas.Bool.{cases_Bool, false≢true}
use Rattle.slots.specs.Slots.{match_some}
use Rattle.hba_driver.specs.{declared.{order.Order.{Order, TheVariants.Clear}, path.Path.Path, path.TaskFile.TaskFile, plan.Plan.Plan}, Seeing.Sight}
use Rattle.hba_driver.specs.{declared.turn.Act.Act, Drivers.{Driver, Entry}, HostTurns.{Does, Host, HostTurn, Polled, Submitted, Ticked, sight_in}}
use Rattle.hba_driver.specs.{Sights.file_shown, Slot30.{IsUnflushed, StaysUnsought}, Steady.{IsFlushTick, detects}}
use Rattle.hba_driver.specs.Ticks.{after_tick, done_ended, due, from_reset, ordered, plan_after, recovering, seen, turn}
use Rattle.hba_driver.specs.{Turns.{advanced, control_seen, device_seen, is_back, turn_of}, Between.DueOf}
use Rattle.hba_driver.specs.declared.turn.Act.TheVariants as act
use Rattle.hba_driver.proofs.{goes_on.PageLemmas.poll_plan, ticks.DueLemmas.turn_by, steady.SteadyLemmas.{detects_out, found_order, of_turn}}
use Rattle.hba_driver.proofs.{steady.SteadyTurns.acted_plan, anew.TendedLemmas.{IsUnsought, control_leaves}}

-- ---- what is seen of slot 30

abbrev is_sought : ℕ → Plan → Bool
is_sought n plan = detects n plan.asked plan.order

back_order : (n : ℕ) (v : Sight) (plan : Plan) (path : Path) (b : Bool) → is_sought n (if b then advanced v path plan else plan) ≡ is_sought n plan
back_order n v plan path true = found_order n v plan path.stage path.dev
back_order n v plan path false = refl

path_order : (n : ℕ) (v : Sight) (plan : Plan) (o : Option Path) → is_sought n (match_some o plan (λ path. if is_back v path then advanced v path plan else plan)) ≡ is_sought n plan
path_order n v plan None = refl
path_order n v plan (Some path) = back_order n v plan path (is_back v path)

device_unsought : (n : ℕ) (v : Sight) (plan : Plan) → IsUnsought n plan → IsUnsought n (device_seen v plan)
device_unsought n v plan h on = h (sym (path_order n v plan plan.path) ∙ on)

-- ---- the turn

turn_unsought : (n : ℕ) (v : Sight) (p : Plan) (entries : List (Option Entry)) → IsUnsought n p → IsUnsought n (turn_of v p entries).plan
turn_unsought n v p entries h =
    let c : IsUnsought n (control_seen v p) = (control_leaves n v p h).unsought in
    turn_by (λ t. IsUnsought n t.plan) v p entries h c (device_unsought n v (control_seen v p) c)

-- ---- the act

module _ (n : ℕ) (file : TaskFile) (plan : Plan) (h : IsUnsought n plan) where
  cleared_if : (b : Bool) (dev : ℕ) → IsUnsought n (if b then recovering dev file plan else from_reset plan)
  cleared_if true dev = h
  cleared_if false dev = λ on. false≢true on

  out : (order : Order) → order ≢ Clear n → order ≡ plan.order → detects n true plan.order ≡ true → ⊥
  out order other is on = h (detects_out n plan.asked plan.order (λ e. other (is ∙ e)) on)

  ordered_unsought : (order : Order) → order ≢ Clear n → order ≡ plan.order → IsUnsought n (ordered order plan)
  ordered_unsought (Clear port) other is = out (Clear port) other is
  ordered_unsought rest other is = out rest other is

  act_unsought : (v : Sight) (a : Option Act) → DueOf v plan a → (a ≢ Some (act.Orders (Clear n))) → IsUnsought n (match_some a plan (λ x. plan_after x file plan))
  unfolding plan_after
  act_unsought v (Some act.Stops) of other = λ on. false≢true on
  act_unsought v (Some (act.Clears dev)) of other = cleared_if (nat_lt dev 15) dev
  act_unsought v (Some (act.Orders order)) of other = ordered_unsought order (λ e. other (ap (λ (o : Order). Some (act.Orders o)) e)) of
  act_unsought v rest of other = h

-- ---- a turn of the host

tick_unsought : (n : ℕ) (old : Host) (file : TaskFile) → (IsFlushTick n old → ⊥) → IsUnsought n old.driver.plan → IsUnsought n (after_tick (sight_in old) file old.driver).plan
unfolding after_tick
tick_unsought n old file flush h =
    let v : Sight = sight_in old in
    subst (IsUnsought n) (sym (acted_plan (turn v old.driver).act file (seen v old.driver)))
    (act_unsought n file (seen v old.driver).plan (turn_unsought n v old.driver.plan (done_ended v.issued old.driver.entries) h) v (due v old.driver)
    (of_turn v old.driver.plan (done_ended v.issued old.driver.entries)) flush)

plan_unsought : (n : ℕ) (old : Host) (t : HostTurn) (new : Host) → Does old t new → IsUnflushed n old t → IsUnsought n old.driver.plan → IsUnsought n new.driver.plan
plan_unsought n old (Ticked a) new does flush h = subst (IsUnsought n) (ap (λ (x : Driver). x.plan) (sym does.driver)) (tick_unsought n old (file_shown new.port) flush h)
plan_unsought n old (Submitted dev request ticket) new does flush h = subst (IsUnsought n) (ap (λ (x : Driver). x.plan) (sym does.taken.driver)) h
plan_unsought n old (Polled c) new does flush h = subst (IsUnsought n) (sym (ap (λ (x : Driver). x.plan) does.driver ∙ poll_plan old.driver)) h
plan_unsought n old other new does flush h = subst (IsUnsought n) (ap (λ (x : Driver). x.plan) (sym does.driver)) h

pub stays_unsought : (n : ℕ) → StaysUnsought n
stays_unsought n old t new does flush off = elim (cases_Bool (is_sought n new.driver.plan)) [
  | inl on ↦ absurd (plan_unsought n old t new does flush (λ was. false≢true (sym off ∙ was)) on)
  | inr none ↦ none
]
