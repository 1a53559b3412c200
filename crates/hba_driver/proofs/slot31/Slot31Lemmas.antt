-- For `orders_take_turns`. Each turn of a host leads slot 31 from a stage to a stage.
use Rattle.std.proofs.{Common.{◌≡◌, ℕ, ◌+◌, ◌<◌, Bool, true, false, ◌&&◌, nat_lt, List, refl, sym, ◌∙◌, ap, Option, Some, None}, lemmas.Bool.{lt-ltb}}
use Rattle.std.proofs.lemmas.Bool.{true≢false}
use Rattle.std.specs.Prelude.{◌==◌, if◌then◌else◌, not, is_some}
use Rattle.slots.specs.Slots.{has_bit, match_some}
use Rattle.hba_driver.specs.declared.order.Order.{Order, TheVariants.{ResetOn, ResetOff, AwaitSignature, CountPorts, Enable, Open, Scan, Clear}}
use Rattle.hba_driver.specs.declared.{order.Order.TheVariants.{Detect, Watch}, path.{Path.Path, Stage.{Stage, TheVariants.{Identify, ReadLog}}}}
use Rattle.hba_driver.specs.{declared.{path.TaskFile.TaskFile, plan.Plan.Plan, turn.Act.Act}, Seeing.Sight, Drivers.{Driver, Entry}}
use Rattle.hba_driver.specs.{Orders.{next_order, order_fields, scan_from}, Slot31.{Control, control_in, is_off, is_on}, Ticks.{acted, after_tick}}
use Rattle.hba_driver.specs.{Ticks.{done_ended, due, from_reset, plan_after, recovering, seen}, Turns.{advanced, answered, control_seen, device_seen}}
use Rattle.hba_driver.specs.{Turns.{found_of, is_back, met, met_order, noted, turn_of, with_next}, Going.leaves_port}
use Rattle.hba_driver.specs.declared.turn.Act.TheVariants as act
use Rattle.hba_driver.proofs.{ticks.DueLemmas.{early_by, late_by, order_allowed_by, turn_by}, goes_on.StopLemmas.either}

-- ---- the part of a plan that concerns slot 31

found_same : (v : Sight) (stage : Stage) (dev : ℕ) (plan : Plan) → control_in (found_of v stage dev plan) ≡ control_in plan
unfolding found_of
found_same v Identify dev plan = refl
found_same v stage dev plan = refl

back_same : (v : Sight) (plan : Plan) (o : Option Path) → control_in (match_some o plan (λ path. if is_back v path then advanced v path plan else plan)) ≡ control_in plan
back_same v plan None = refl
back_same v plan (Some path) = either (λ (p : Plan). control_in p ≡ control_in plan) (is_back v path) (advanced v path plan) plan (found_same v path.stage path.dev plan) refl

device_same : (v : Sight) (plan : Plan) → control_in (device_seen v plan) ≡ control_in plan
device_same v plan = back_same v plan plan.path

-- ---- what a turn does to it

-- an act that is not an order
abbrev pub IsOther : Option Act → Type 0
IsOther (Some (act.Orders order)) = ⊥
IsOther a = Unit {0}

-- Either a fault comes first, and nothing is looked at. Or everything is looked at, and then the act is the
-- order that is due, or no order.
pub data IsSeen (v : Sight) (p : Plan) (a : Option Act) (q : Plan) : Type 0 where
  Early : IsOther a → control_in q ≡ control_in p → IsSeen v p a q
  Looked : IsOther a → control_in q ≡ control_in (control_seen v p) → IsSeen v p a q
  Ordered : (o : Order) → a ≡ Some (act.Orders o) → control_in q ≡ control_in (control_seen v p) → q.asked ≡ false → q.order ≡ o → is_some (order_fields o) ≡ true → IsSeen v p a q

pub turn_seen : (v : Sight) (p : Plan) (entries : List (Option Entry)) → IsSeen v p (turn_of v p entries).act (turn_of v p entries).plan
turn_seen v p entries =
    turn_by (λ t. IsSeen v p t.act t.plan) v p entries (Early (early_by IsOther tt v p (λ h. tt) (λ h. tt) (λ h. tt) (λ dev h. tt)) refl)
    (order_allowed_by (λ a. IsSeen v p a (control_seen v p)) (Looked tt refl) v (control_seen v p) entries (λ un fields. Ordered (control_seen v p).order refl refl un refl fields))
    (Looked (late_by IsOther tt v (device_seen v (control_seen v p)) entries (λ dev stage way fields. tt) (λ slot e h. tt)) (device_same v (control_seen v p)))

-- ---- what an act leaves of it

-- what holds for the acts of a host that goes on and whose control port has no fault
pub record IsAllowed (a : Option Act) : Type 0 where
  pub leaves : (b : Act) → a ≡ Some b → leaves_port b
  pub clears : (dev : ℕ) → a ≡ Some (act.Clears dev) → dev < 15

acted_same : (a : Option Act) (file : TaskFile) (d : Driver) → IsOther a → IsAllowed a → control_in (acted a file d).plan ≡ control_in d.plan
unfolding plan_after
acted_same (Some act.Stops) file d other may = absurd (may.leaves act.Stops refl)
acted_same (Some (act.Clears dev)) file d other may =
    ap (λ (b : Bool). control_in (if b then recovering dev file d.plan else from_reset d.plan)) (lt-ltb dev 15 (may.clears dev refl))
acted_same (Some (act.Orders order)) file d other may = absurd other
acted_same rest file d other may = refl

pub acted_order : (o : Order) (file : TaskFile) (d : Driver) → control_in (acted (Some (act.Orders o)) file d).plan ≡ record (control_in d.plan) { asked = true }
unfolding plan_after
acted_order (Clear port) file d = refl
acted_order o file d = refl

-- what a tick makes of it
pub data Ticks31 (v : Sight) (p r : Plan) (a : Option Act) : Type 0 where
  Stays : IsOther a → control_in r ≡ control_in p → Ticks31 v p r a
  Looks : IsOther a → control_in r ≡ control_in (control_seen v p) → Ticks31 v p r a
  Orders : (o : Order) → a ≡ Some (act.Orders o) → (control_seen v p).asked ≡ false → (control_seen v p).order ≡ o → is_some (order_fields o) ≡ true → control_in r ≡ record (control_in (control_seen v p)) { asked = true } → Ticks31 v p r a

pub ticks31 : (v : Sight) (file : TaskFile) (d : Driver) → IsAllowed (due v d) → Ticks31 v d.plan (after_tick v file d).plan (due v d)
unfolding after_tick
ticks31 v file d may = by_seen (turn_seen v d.plan (done_ended v.issued d.entries))
  where
    same : IsOther (due v d) → control_in (acted (due v d) file (seen v d)).plan ≡ control_in (seen v d).plan
    same other = acted_same (due v d) file (seen v d) other may

    by_seen : IsSeen v d.plan (due v d) (seen v d).plan → Ticks31 v d.plan (acted (due v d) file (seen v d)).plan (due v d)
    by_seen (Early other is) = Stays other (same other ∙ is)
    by_seen (Looked other is) = Looks other (same other ∙ is)
    by_seen (Ordered o a is asked order fields) =
        Orders o a (sym (ap (λ (c : Control). c.asked) is) ∙ asked) (sym (ap (λ (c : Control). c.order) is) ∙ order) fields
        (ap (λ (x : Option Act). control_in (acted x file (seen v d)).plan) a ∙ acted_order o file (seen v d) ∙ ap (λ (c : Control). record c { asked = true }) is)

-- ---- what is seen of slot 31

pub seen_out : (v : Sight) (p : Plan) → p.asked ≡ true → has_bit v.issued 31 ≡ true → control_seen v p ≡ p
seen_out v p asked out = ap (met v) first ∙ ap (λ (b : Bool). if b then p else record p { order = met_order v p.order }) asked
  where
    first : answered v p ≡ p
    first = ap (λ (b : Bool). if b && not (has_bit v.issued 31) then with_next p.order (noted v p.order p) else p) asked
        ∙ ap (λ (b : Bool). if true && not b then with_next p.order (noted v p.order p) else p) out

pub seen_free : (v : Sight) (p : Plan) → p.asked ≡ true → has_bit v.issued 31 ≡ false
    → control_seen v p ≡ record (with_next p.order (noted v p.order p)) { order = met_order v (next_order (noted v p.order p).ports (noted v p.order p).found p.order) }
seen_free v p asked out = ap (met v) first
  where
    first : answered v p ≡ with_next p.order (noted v p.order p)
    first = ap (λ (b : Bool). if b && not (has_bit v.issued 31) then with_next p.order (noted v p.order p) else p) asked
        ∙ ap (λ (b : Bool). if true && not b then with_next p.order (noted v p.order p) else p) out

pub seen_unasked : (v : Sight) (p : Plan) → p.asked ≡ false → control_seen v p ≡ record p { order = met_order v p.order }
seen_unasked v p asked = ap (met v) first ∙ ap (λ (b : Bool). if b then p else record p { order = met_order v p.order }) asked
  where
    first : answered v p ≡ p
    first = ap (λ (b : Bool). if b && not (has_bit v.issued 31) then with_next p.order (noted v p.order p) else p) asked

-- ---- which orders follow which

pub met_off : (v : Sight) (o : Order) → is_off o ≡ false → is_off (met_order v o) ≡ false
unfolding met_order
met_off v AwaitSignature h = either (λ (o : Order). is_off o ≡ false) v.resetting AwaitSignature _ refl (either (λ (o : Order). is_off o ≡ false) (v.answer == 0x96690101) CountPorts ResetOn refl refl)
met_off v Watch h = either (λ (o : Order). is_off o ≡ false) v.notified Scan Watch refl refl
met_off v ResetOff h = absurd (true≢false h)
met_off v o h = h

scan_off : (o : Option ℕ) → is_off (match_some o Watch Clear) ≡ false
scan_off None = refl
scan_off (Some port) = refl

scanned_off : (found from : ℕ) → is_off (scan_from found from) ≡ false
unfolding scan_from
scanned_off found from = scan_off _

pub next_off : (ports found : ℕ) (o : Order) → is_on o ≡ false → is_off (next_order ports found o) ≡ false
unfolding next_order
next_off ports found ResetOn h = absurd (true≢false h)
next_off ports found Enable h = either (λ (o : Order). is_off o ≡ false) (nat_lt 0 ports) (Open 0) Scan refl refl
next_off ports found (Open port) h = either (λ (o : Order). is_off o ≡ false) (nat_lt (port + 1) ports) (Open (port + 1)) Scan refl refl
next_off ports found Scan h = scanned_off found 0
next_off ports found (Detect port) h = scanned_off found (port + 1)
next_off ports found other h = refl
