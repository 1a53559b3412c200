-- For `absent_before`. If the driver takes a device to be absent after a turn that does not flush it, it did so before
-- the turn.
use Rattle.std.proofs.Common.{◌≡◌, ◌≢◌, ℕ, zero, suc, Bool, true, false, List, [], ◌∷◌, get_or, set, refl, sym, ◌∙◌, ap, subst, inl, inr, Option}
use Rattle.std.proofs.{Common.{Some, None}, lemmas.List.{get_or-set_other}}
use Rattle.std.specs.Prelude.{not, nat_lt, if◌then◌else◌}
use Rattle.slots.specs.Slots.{match_some}
use Rattle.hba_driver.specs.declared.{order.Order.{Order, TheVariants.Clear}, path.{Path.Path, Recovery.TheVariants.Reset, Stage.Stage}}
use Rattle.hba_driver.specs.declared.{path.{Stage.TheVariants.{Identify, ReadLog}, TaskFile.TaskFile}, plan.Device.{Device, TheVariants.Absent}}
use Rattle.hba_driver.specs.{declared.{plan.{Device.TheVariants.{Ready, Recovering, Unusable}, Plan.Plan}, turn.{Act.Act, Turn.Turn}}, Seeing.Sight}
use Rattle.hba_driver.specs.{Absent.EachWasAbsent, Drivers.{Driver, Entry, device_at}, HostTurns.{Does, Host, HostTurn, Polled, Submitted, Ticked}}
use Rattle.hba_driver.specs.{HostTurns.sight_in, Sights.file_shown, Steady.{IsCalmAct, IsSteadyTurn, detects}, Ticks.{after_tick, done_ended}}
use Rattle.hba_driver.specs.{Ticks.{from_reset, ordered, plan_after, recovering, seen, turn}, Turns.{advanced, control_news, control_seen}}
use Rattle.hba_driver.specs.{Turns.{device_seen, early_due, found_of, is_back, plain_turn, turn_of}, Between.{IsSoughtAbsent, PollFacts, WasAbsent}}
use Rattle.hba_driver.specs.declared.turn.Act.TheVariants as act
use Rattle.hba_driver.proofs.{ticks.DueLemmas.turn_by, requests.HistoryLemmas.{freed, poll_facts}, steady.SteadyLemmas.control_beside}
use Rattle.hba_driver.proofs.steady.{SteadyLemmas.{detect_or_other, equal_is}, SteadyTurns.acted_plan}

-- a device that is set to something other than absent
set_absent : (devices : List Device) (k n : ℕ) (device : Device) → (device ≡ Absent → ⊥) → get_or (set devices k device) n Absent ≡ Absent → get_or devices n Absent ≡ Absent
set_absent [] k n device not h = refl
set_absent (d ∷ devices) zero zero device not h = absurd (not h)
set_absent (d ∷ devices) zero (suc n) device not h = h
set_absent (d ∷ devices) (suc k) zero device not h = h
set_absent (d ∷ devices) (suc k) (suc n) device not h = set_absent devices k n device not h

set_other : (devices : List Device) (k n : ℕ) (device : Device) → n ≢ k → get_or (set devices k device) n Absent ≡ Absent → get_or devices n Absent ≡ Absent
set_other devices k n device other h = sym (get_or-set_other devices k n device Absent other) ∙ h

-- ---- slot 31

control_was : (n : ℕ) (v : Sight) (p : Plan) → IsSoughtAbsent n p → WasAbsent n p (control_seen v p)
control_was n v p sought h = elim (detect_or_other n p.order) [
  | inl is ↦ sought (subst (λ (o : Order). detects n p.asked o ≡ true) (sym is) (equal_is n n refl))
  | inr other ↦ sym (control_beside n v p other).device ∙ h
]

-- ---- slot 30

usable_there : (b : Bool) → (if b then Ready else Unusable) ≡ Absent → ⊥
usable_there true is = cc
usable_there false is = cc

whole_there : (b : Bool) → (if b then Ready else Recovering Reset) ≡ Absent → ⊥
whole_there true is = cc
whole_there false is = cc

found_was : (n : ℕ) (v : Sight) (stage : Stage) (dev : ℕ) (p : Plan) → WasAbsent n p (found_of v stage dev p)
unfolding found_of
found_was n v Identify dev p h = set_absent p.devices dev n _ (usable_there v.usable) h
found_was n v (ReadLog file) dev p h = set_absent p.devices dev n _ (whole_there v.log.whole) h
found_was n v other dev p h = h

back_was : (n : ℕ) (v : Sight) (p : Plan) (path : Path) (b : Bool) → WasAbsent n p (if b then advanced v path p else p)
back_was n v p path true h = found_was n v path.stage path.dev p h
back_was n v p path false h = h

path_was : (n : ℕ) (v : Sight) (p : Plan) (o : Option Path) → WasAbsent n p (match_some o p (λ path. if is_back v path then advanced v path p else p))
path_was n v p None h = h
path_was n v p (Some path) h = back_was n v p path (is_back v path) h

device_was : (n : ℕ) (v : Sight) (p : Plan) → WasAbsent n p (device_seen v p)
device_was n v p h = path_was n v p p.path h

-- ---- acts

cleared_was : (n : ℕ) (file : TaskFile) (p : Plan) (dev : ℕ) (b : Bool) → n ≢ dev → WasAbsent n p (if b then recovering dev file p else from_reset p)
cleared_was n file p dev true other h = set_other p.devices dev n _ other h
cleared_was n file p dev false other h = h

ordered_was : (n : ℕ) (p : Plan) (order : Order) → order ≢ Clear n → WasAbsent n p (ordered order p)
ordered_was n p (Clear port) other h = set_other p.devices port n _ (λ e. other (ap Clear (sym e))) h
ordered_was n p rest other h = h

module _ (n : ℕ) (file : TaskFile) where
  act_was : (p : Plan) (a : Option Act) → IsCalmAct n a → WasAbsent n p (match_some a p (λ x. plan_after x file p))
  unfolding plan_after
  act_was p (Some act.Stops) calm h = absurd calm
  act_was p (Some (act.Clears dev)) calm h = cleared_was n file p dev (nat_lt dev 15) calm h
  act_was p (Some (act.Orders order)) calm h = ordered_was n p order calm h
  act_was p other calm h = h

  -- ---- a turn of the plan

  abbrev TurnWas : Plan → Turn → Type 0
  TurnWas p t = IsCalmAct n t.act → WasAbsent n p (match_some t.act t.plan (λ x. plan_after x file t.plan))

  plain_was : (p r : Plan) (a : Option Act) (news : Bool) → WasAbsent n p r → TurnWas p (plain_turn r a news)
  plain_was p r a news was calm h = was (act_was r a calm h)

  whole_was : (v : Sight) (p : Plan) (entries : List (Option Entry)) → IsSoughtAbsent n p → TurnWas p (turn_of v p entries)
  whole_was v p entries sought =
      turn_by (TurnWas p) v p entries (plain_was p p (early_due v p) false (λ h. h)) (plain_was p (control_seen v p) _ (control_news v p) (control_was n v p sought))
      (λ calm h. control_was n v p sought (device_was n v (control_seen v p) (act_was (device_seen v (control_seen v p)) _ calm h)))

-- ---- a turn of the host

tick_was : (n : ℕ) (old : Host) (file : TaskFile) → IsCalmAct n (turn (sight_in old) old.driver).act → IsSoughtAbsent n old.driver.plan → WasAbsent n old.driver.plan (after_tick (sight_in old) file old.driver).plan
unfolding after_tick
tick_was n old file calm sought h =
    whole_was n file (sight_in old) old.driver.plan (done_ended (sight_in old).issued old.driver.entries) sought calm (sym (ap (λ (p : Plan). device_at p n) (acted_plan (turn (sight_in old) old.driver).act file (seen (sight_in old) old.driver))) ∙ h)

same_was : (n : ℕ) (old new : Host) → new.driver.plan ≡ old.driver.plan → WasAbsent n old.driver.plan new.driver.plan
same_was n old new same h = sym (ap (λ (p : Plan). device_at p n) same) ∙ h

pub turn_was : (n : ℕ) (old : Host) (t : HostTurn) (new : Host) → Does old t new → IsSteadyTurn n old t → IsSoughtAbsent n old.driver.plan → WasAbsent n old.driver.plan new.driver.plan
turn_was n old (Ticked a) new does calm sought absent = tick_was n old (file_shown new.port) calm sought (sym (ap (λ (x : Driver). device_at x.plan n) does.driver) ∙ absent)
turn_was n old (Submitted dev request ticket) new does calm sought absent = same_was n old new (ap (λ (x : Driver). x.plan) does.taken.driver) absent
turn_was n old (Polled c) new does calm sought absent =
    let f : PollFacts old.driver c = poll_facts old.driver c does.polled in
    same_was n old new (ap (λ (x : Driver). x.plan) (does.driver ∙ freed old.driver c f)) absent
turn_was n old other new does calm sought absent = same_was n old new (ap (λ (x : Driver). x.plan) does.driver) absent

pub each_was_absent : EachWasAbsent
each_was_absent n old t new does calm sought absent = turn_was n old t new does calm sought absent
