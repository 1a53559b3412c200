-- For `rested_ports_are_open`. How far the driver is with setting up the multiplier, over each way.
use Rattle.std.proofs.Common.{◌≡◌, ◌⊎◌, ℕ, ◌&&◌, ◌||◌, Bool, true, false, List, [], ◌∷◌, refl, sym, ap, subst, ◌∙◌, inl, inr, Option, Some, None}
use Rattle.std.proofs.lemmas.{Bool.{false≢true, true≢false}, Option.same_Some}
use Rattle.std.specs.Prelude.{is_some, not}
use Rattle.fis_view.specs.{Frames.Stamped, Seen.seen}
use Rattle.slots.specs.Slots.{Issue, own_issue}
use Rattle.pm_control.specs.Requests.{request_in}
use Rattle.pm_registers.specs.RegisterMap.{RegisterMap}
use Rattle.multiplier.specs.{Arbiter.control_port, State.pm_port}
use Rattle.hba_laws.specs.Parts.{DevicePart}
use Rattle.hba_driver.specs.{declared.order.Order.{Order, TheVariants.{CountPorts, Enable, Open, SetMask}}, HostTurns.Host, Scans.told_in}
use Rattle.hba_driver.specs.{Sights.answer_in, Slot31.{Asks, Fails, IsAt31, IsFree31, IsIn, IsUnsent, Resets, Rests, Signs, Stage31, Told, Waits}}
use Rattle.hba_driver.specs.Slot31.{control_of, has_failed, is_off, is_on}
use Rattle.pm_world.specs.Line.{EndsIn, IsEnd, IsReset, NoneDown, NoneUp, OnLine, is_reply}
use Rattle.world_rests.proofs.{Ordering.{Done, Upto, wish}, Orders.{Among, none_down, resets_down}, Setting.IsShape, Slot31.none_there}
use Rattle.world_rests.proofs.{Turning.none_reply, Ways.Line}

-- ---- what is on its way

-- an order with a command is asked
abbrev pub is_asking : Order → Bool → Bool
is_asking order asked = asked && not (is_on order || is_off order)

abbrev pub is_ordered : Host → Bool
is_ordered h = is_asking h.driver.plan.order h.driver.plan.asked

-- the control port has no fault
abbrev pub IsWell : Host → Type 0
IsWell h = is_some (control_of h).view.fault ≡ false

-- a FIS of a software reset
abbrev pub IsOfReset : Stamped → Type 0
IsOfReset f = IsReset f ⊎ IsEnd f

-- the command of the order waits in slot 31, or goes down
pub data IsComing (l : Line) : Type 0 where
  Unsent : IsAt31 Waits l.host → IsComing l
  Falls : (f : Stamped) → Among f l.down → pm_port f ≡ control_port → IsComing l

-- nothing of the control port is on its way
pub record IsClear (l : Line) : Type 0 where
  pub down : NoneDown l.down
  pub waits : l.pm.answer ≡ None
  pub up : NoneUp l.up

-- an answer with such a value waits, goes up, or came to the host
pub data IsSaid (P : ℕ → Type 0) (l : Line) : Type 0 where
  Held : (f : Stamped) → l.pm.answer ≡ Some f → is_reply f ≡ true → P (answer_in (seen f.bytes)) → IsSaid P l
  Rises : (f : Stamped) → Among f l.up → is_reply f ≡ true → P (answer_in (seen f.bytes)) → IsSaid P l
  Came : IsClear l → (IsFree31 (control_of l.host) → P (told_in (control_of l.host))) → IsSaid P l

-- what the driver has set in the multiplier
pub record IsSet (ports : ℕ) (l : Line) : Type 0 where
  pub upto : Upto l.host.driver.plan.order l.pm.registers l.host.driver.plan.ports
  pub done : is_ordered l.host ≡ true → IsComing l ⊎ Done l.host.driver.plan.order l.pm.registers
  pub told : is_ordered l.host ≡ true → l.host.driver.plan.order ≡ CountPorts → IsComing l ⊎ IsSaid (λ v. v ≡ ports) l

-- the same, and what goes down to the control port is what the order asks for, or of a software reset
pub record IsSetUp (ports : ℕ) (l : Line) : Type 0 where
  pub shape : IsShape ports l.pm.registers
  pub falls : (f : Stamped) → Among f l.down → pm_port f ≡ control_port → is_ordered l.host ≡ true → request_in f.bytes ≡ wish l.host.driver.plan.order
  pub resets : (f : Stamped) → Among f l.down → pm_port f ≡ control_port → is_ordered l.host ≡ false → IsOfReset f
  pub set : IsWell l.host → IsSet ports l

-- ---- parts of an asked order

pub record IsCommand (order : Order) (asked : Bool) : Type 0 where
  pub asks : asked ≡ true
  pub on : is_on order ≡ false
  pub off : is_off order ≡ false

pub command_of : (order : Order) (asked : Bool) → is_asking order asked ≡ true → IsCommand order asked
command_of order asked is = by_parts asked (is_on order) (is_off order) refl refl refl is
  where
    by_parts : (a b c : Bool) → asked ≡ a → is_on order ≡ b → is_off order ≡ c → (a && not (b || c)) ≡ true → IsCommand order asked
    by_parts true false false x y z is = record { asks = x; on = y; off = z }
    by_parts true true c x y z is = absurd (false≢true is)
    by_parts true false true x y z is = absurd (false≢true is)
    by_parts false b c x y z is = absurd (false≢true is)

pub asking_of : (order : Order) (asked : Bool) → IsCommand order asked → is_asking order asked ≡ true
asking_of order asked c = ap (λ (a : Bool). a && not (is_on order || is_off order)) c.asks ∙ ap (λ (b : Bool). true && not (b || is_off order)) c.on ∙ ap (λ (b : Bool). true && not (false || b)) c.off

pub count_asks : (order : Order) (asked : Bool) → asked ≡ true → order ≡ CountPorts → is_asking order asked ≡ true
count_asks order asked is same = ap (λ (o : Order). is_asking o asked) same ∙ ap (λ (a : Bool). is_asking CountPorts a) is

-- an order that is no command sets nothing by itself
pub done_free : (o : Order) (m : RegisterMap) → (is_on o ≡ false → is_off o ≡ false → Done o m) → Done o m
done_free SetMask m k = k refl refl
done_free Enable m k = k refl refl
done_free (Open p) m k = k refl refl
done_free o m k = tt

-- ---- what each stage says of the line

ends_among : (xs : List Stamped) (f : Stamped) → EndsIn IsReset IsEnd xs → Among f xs → pm_port f ≡ control_port → IsOfReset f
ends_among [] f ends there own = absurd ends
ends_among (x ∷ xs) f (inl h) (inl same) own = absurd (h.0 (ap pm_port same ∙ own))
ends_among (x ∷ xs) f (inl h) (inr rest) own = ends_among xs f h.1 rest own
ends_among (x ∷ xs) f (inr (inl h)) (inl same) own = inl (subst IsReset same h.1)
ends_among (x ∷ xs) f (inr (inl h)) (inr rest) own = ends_among xs f h.2 rest own
ends_among (x ∷ xs) f (inr (inr h)) (inl same) own = inr (subst IsEnd same h.1)
ends_among (x ∷ xs) f (inr (inr h)) (inr rest) own = absurd (none_down xs f h.2 rest own)

-- while nothing is asked, only a software reset goes down
pub unasked_by : (s : Stage31) (o : Order) (asked : Bool) (part : DevicePart) (down : List Stamped) (waits : Option Stamped) (up : List Stamped) → asked ≡ false → IsIn s o asked part → OnLine s down waits up
    → (f : Stamped) → Among f down → pm_port f ≡ control_port → IsOfReset f
unasked_by Resets o asked part down waits up none is line f there own = inl (resets_down down f line.0 there own)
unasked_by Signs o asked part down waits up none is (inl line) f there own = ends_among down f line.0 there own
unasked_by Signs o asked part down waits up none is (inr line) f there own = absurd (none_down down f line.0 there own)
unasked_by Asks o asked part down waits up none is line f there own = absurd (true≢false (sym is.0 ∙ none))
unasked_by s o asked part down waits up none is line f there own = absurd (none_down down f line.0 there own)

pub sent_not : {P : Type 0} (i j : Issue) (o : Option Issue) → o ≡ Some i → o ≡ Some j → i.sent ≡ false → j.sent ≡ true → P
sent_not i j o one two unsent sent = absurd (false≢true (sym unsent ∙ ap (λ (x : Issue). x.sent) (same_Some i j (sym one ∙ two)) ∙ sent))

-- while a command waits in slot 31, at most the first FIS of a software reset goes down
pub unsent_by : (s : Stage31) (o : Order) (asked : Bool) (part : DevicePart) (down : List Stamped) (waits : Option Stamped) (up : List Stamped) → IsUnsent o part → IsIn s o asked part → OnLine s down waits up
    → (f : Stamped) → Among f down → pm_port f ≡ control_port → IsReset f
unsent_by Resets o asked part down waits up u is line f there own = resets_down down f line.0 there own
unsent_by Signs o asked part down waits up u is line f there own = none_there _ (own_issue part.view.slots 31) is.0 u.issued
unsent_by Asks o asked part down waits up u is line f there own = sent_not _ is.2.issue (own_issue part.view.slots 31) u.issued is.2.issued refl is.2.sent
unsent_by s o asked part down waits up u is line f there own = absurd (none_down down f line.0 there own)

-- and none if the command is no part of one
pub unsent_none : (s : Stage31) (o : Order) (asked : Bool) (part : DevicePart) (down : List Stamped) (waits : Option Stamped) (up : List Stamped) → IsCommand o asked → IsUnsent o part → IsIn s o asked part → OnLine s down waits up
    → (f : Stamped) → Among f down → pm_port f ≡ control_port → ⊥
unsent_none Resets o asked part down waits up c u (inl is) line f there own = true≢false (sym (ap is_on is.0) ∙ c.on)
unsent_none Resets o asked part down waits up c u (inr is) line f there own = true≢false (sym (ap is_off is.0) ∙ c.off)
unsent_none Signs o asked part down waits up c u is line f there own = none_there _ (own_issue part.view.slots 31) is.0 u.issued
unsent_none Asks o asked part down waits up c u is line f there own = sent_not _ is.2.issue (own_issue part.view.slots 31) u.issued is.2.issued refl is.2.sent
unsent_none s o asked part down waits up c u is line f there own = none_down down f line.0 there own

-- where slot 31 is free again, nothing is on its way
pub free_by : (s : Stage31) (o : Order) (asked : Bool) (part : DevicePart) (down : List Stamped) (waits : Option Stamped) (up : List Stamped) → IsCommand o asked → IsFree31 part → IsIn s o asked part → OnLine s down waits up
    → NoneDown down × (waits ≡ None) × NoneUp up
free_by Resets o asked part down waits up c free (inl is) line = absurd (true≢false (sym (ap is_on is.0) ∙ c.on))
free_by Resets o asked part down waits up c free (inr is) line = absurd (true≢false (sym (ap is_off is.0) ∙ c.off))
free_by Signs o asked part down waits up c free (none, inl is) line = absurd (true≢false (sym (ap is_off is.0) ∙ c.off))
free_by Signs o asked part down waits up c free (none, inr is) line = absurd (true≢false (sym c.asks ∙ is.1))
free_by Asks o asked part down waits up c free is line = none_there is.2.issue (own_issue part.view.slots 31) free is.2.issued
free_by s o asked part down waits up c free is line = line

-- an answer that is taken is the last
pub reply_by : (s : Stage31) (down : List Stamped) (waits : Option Stamped) (f : Stamped) (rest : List Stamped) → OnLine s down waits (f ∷ rest) → is_reply f ≡ true → NoneDown down × (waits ≡ None) × NoneUp rest
reply_by Signs down waits f rest (inl line) reply = none_reply f rest reply line.2
reply_by Signs down waits f rest (inr (none, inl come)) reply = none_reply f rest reply come.3
reply_by Signs down waits f rest (inr (none, inr (quiet, inl (inl other)))) reply = absurd (true≢false (sym reply ∙ other.0))
reply_by Signs down waits f rest (inr (none, inr (quiet, inl (inr one)))) reply = (none, quiet, one.2)
reply_by Signs down waits f rest (inr (none, inr (quiet, inr gone))) reply = none_reply f rest reply gone
reply_by Asks down waits f rest (inl line) reply = none_reply f rest reply line.2
reply_by Asks down waits f rest (inr (none, inl come)) reply = none_reply f rest reply come.3
reply_by Asks down waits f rest (inr (none, inr (quiet, inl (inl other)))) reply = absurd (true≢false (sym reply ∙ other.0))
reply_by Asks down waits f rest (inr (none, inr (quiet, inl (inr one)))) reply = (none, quiet, one.2)
reply_by Asks down waits f rest (inr (none, inr (quiet, inr gone))) reply = none_reply f rest reply gone
reply_by s down waits f rest line reply = none_reply f rest reply line.2

-- the stage of a command that waits
pub waits_by : (s : Stage31) (h : Host) → IsAt31 Waits h → IsAt31 s h → IsIn s h.driver.plan.order h.driver.plan.asked (control_of h) → s ≡ Waits
waits_by Waits h w at is = refl
waits_by Rests h w at is = absurd (true≢false (sym w.is.0 ∙ is.0))
waits_by Resets h w at (inl is) = none_there _ (own_issue (control_of h).view.slots 31) is.2 w.is.2.issued
waits_by Resets h w at (inr is) = absurd (true≢false (sym (ap is_off is.0) ∙ w.is.1))
waits_by Signs h w at is = none_there _ (own_issue (control_of h).view.slots 31) is.0 w.is.2.issued
waits_by Asks h w at is = sent_not _ is.2.issue (own_issue (control_of h).view.slots 31) w.is.2.issued is.2.issued refl is.2.sent
waits_by Told h w at (asked, on, inl free) = none_there _ (own_issue (control_of h).view.slots 31) free w.is.2.issued
waits_by Told h w at (asked, on, inr sent) = sent_not _ sent.issue (own_issue (control_of h).view.slots 31) w.is.2.issued sent.issued refl sent.sent
waits_by Fails h w at is = absurd (true≢false (sym at.fault ∙ w.fault))

pub waits_of : (s : Stage31) (o : Order) (asked : Bool) (part : DevicePart) → IsCommand o asked → IsUnsent o part → has_failed s ≡ false → IsIn s o asked part → s ≡ Waits
waits_of Waits o asked part c u well is = refl
waits_of Rests o asked part c u well is = absurd (true≢false (sym c.asks ∙ is.0))
waits_of Resets o asked part c u well (inl is) = absurd (true≢false (sym (ap is_on is.0) ∙ c.on))
waits_of Resets o asked part c u well (inr is) = absurd (true≢false (sym (ap is_off is.0) ∙ c.off))
waits_of Signs o asked part c u well is = none_there _ (own_issue part.view.slots 31) is.0 u.issued
waits_of Asks o asked part c u well is = sent_not _ is.2.issue (own_issue part.view.slots 31) u.issued is.2.issued refl is.2.sent
waits_of Told o asked part c u well (a, on, inl free) = none_there _ (own_issue part.view.slots 31) free u.issued
waits_of Told o asked part c u well (a, on, inr sent) = sent_not _ sent.issue (own_issue part.view.slots 31) u.issued sent.issued refl sent.sent
waits_of Fails o asked part c u well is = absurd (true≢false well)
