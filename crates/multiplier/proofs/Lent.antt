-- A port that was lent to a call on it, and came back as it was or as another one.
use Rattle.std.proofs.Common.{◌≡◌, ℕ, ◌<◌, ◌≤◌, true, false, Option, Some, None, Result, Ok, Err, refl, sym, ap, ◌∙◌, subst, arith}
use Rattle.std.proofs.lemmas.{List.{set-get_or}, Option.same_Some}
use Rattle.std.specs.Prelude.{is_some, slice_index_or, slice_set}
use Rattle.fis_view.specs.{Frames.Stamped, declared.frame.Stamp.Stamp}
use Rattle.pm_registers.specs.RegisterMap as map
use Rattle.pm_ports.specs.Port as port
use Rattle.pm_ports.specs.{Offering.IsOffered, declared.port.Offered.{Offered, TheVariants.{Held, Dropped}}}
use Rattle.multiplier.specs.{declared.given.Given.{Given, TheVariants.Down}, State.{PmState, IsSound, port_at, stamped, with_port}}
use Rattle.multiplier.specs.Rules.{FromDeviceRule, KeepsPorts, NextDownRule, with_device}
use Rattle.multiplier.proofs.{Sound.{at_default, came_sound, down_sound, kept_sound, up_sound}, GiveLemmas.{KeepsPorts-same, keeps_set}}

-- The multiplier that a call got, old, was opened as pm, and its port n was lent at the index m, as p.
pub record Lent (pm old : PmState) (n m : ℕ) (p : port.PortState) : Type 0 where
  pub is : pm ≡ old
  pub sound : IsSound pm
  pub small : n < 15
  pub same : m ≡ n
  pub here : p ≡ slice_index_or pm.ports m p

pub lends : (pm old : PmState) (n m : ℕ) (p : port.PortState) → pm ≡ old → IsSound pm → n < old.registers.ports → m ≡ n → p ≡ slice_index_or pm.ports m p → Lent pm old n m p
lends pm old n m p is sound below same here =
    let most : pm.registers.ports ≤ 15 = sound.registers.ports in
    let count : pm.registers.ports ≡ old.registers.ports = ap (λ (s : PmState). s.registers.ports) is in
    record { is = is; sound = sound; small = omega arith; same = same; here = here }

pub lent_small : (pm old : PmState) (n m : ℕ) (p : port.PortState) → pm ≡ old → IsSound pm → n < 15 → m ≡ n → p ≡ slice_index_or pm.ports m p → Lent pm old n m p
lent_small pm old n m p is sound small same here = record { is = is; sound = sound; small = small; same = same; here = here }

module _ (pm old : PmState) (n m : ℕ) (p q : port.PortState) (lent : Lent pm old n m p) where
  pub old_sound : IsSound old
  old_sound = subst IsSound lent.is lent.sound

  pub lent_is : slice_index_or pm.ports m p ≡ port_at old n
  lent_is =
      let small : n < 15 = lent.small in
      let same : m ≡ n = lent.same in
      at_default pm m p lent.sound (omega arith) lent.here ∙ (ap (port_at pm) same ∙ ap (λ (s : PmState). port_at s n) lent.is)

  -- ---- it came back as it was

  pub same_back : q ≡ slice_index_or pm.ports m p → record pm { ports = slice_set pm.ports m q } ≡ old
  same_back e =
      ap (λ ps. let s : PmState = record pm { ports = ps } in s) (ap (λ r. slice_set pm.ports m r) e ∙ set-get_or pm.ports m p) ∙ lent.is

  pub same_sound : q ≡ slice_index_or pm.ports m p → IsSound (record pm { ports = slice_set pm.ports m q })
  same_sound e = subst IsSound (sym (same_back e)) old_sound

  -- ---- it came back as another one

  pub another : (r : port.PortState) (given : Option Given) → q ≡ r
      → record pm { ports = slice_set pm.ports m q; given = given } ≡ record old { ports = slice_set old.ports n r; given = given }
  another r given e =
      ap (λ x. let s : PmState = record pm { ports = slice_set pm.ports m x; given = given } in s) e
      ∙ (ap (λ k. let s : PmState = record pm { ports = slice_set pm.ports k r; given = given } in s) lent.same
      ∙ ap (λ (t : PmState). let s : PmState = record t { ports = slice_set t.ports n r; given = given } in s) lent.is)

  pub up_back : (x y : Stamped) → q ≡ port.with_up (slice_index_or pm.ports m p) (Some x) → x ≡ y
      → record pm { ports = slice_set pm.ports m q; given = None } ≡ with_port old n (port.with_up (port_at old n) (Some y))
  up_back x y e same = another _ None (e ∙ (ap (λ r. port.with_up r (Some x)) lent_is ∙ ap (λ z. port.with_up (port_at old n) (Some z)) same))

  pub up_back_sound : (x y : Stamped) → q ≡ port.with_up (slice_index_or pm.ports m p) (Some x) → x ≡ y
      → y.stamp.port ≡ n → port.is_gone (port_at old n) y.stamp.conn ≡ false → IsSound (record pm { ports = slice_set pm.ports m q; given = None })
  up_back_sound x y e same stamp stays =
      subst IsSound (sym (up_back x y e same)) (up_sound old n (Some y) old_sound (λ f is.
      let this : y ≡ f = same_Some y f is in
      (ap (λ (g : Stamped). g.stamp.port) (sym this) ∙ stamp, ap (λ (g : Stamped). port.is_gone (port_at old n) g.stamp.conn) (sym this) ∙ stays)))

  pub down_back : (x y : Stamped) → q ≡ port.with_down (slice_index_or pm.ports m p) (Some x) → x ≡ y
      → record pm { ports = slice_set pm.ports m q; given = None } ≡ with_port old n (port.with_down (port_at old n) (Some y))
  down_back x y e same = another _ None (e ∙ (ap (λ r. port.with_down r (Some x)) lent_is ∙ ap (λ z. port.with_down (port_at old n) (Some z)) same))

  pub down_back_sound : (x y : Stamped) → q ≡ port.with_down (slice_index_or pm.ports m p) (Some x) → x ≡ y
      → (port_at old n).present ≡ Some y.stamp.conn → IsSound (record pm { ports = slice_set pm.ports m q; given = None })
  down_back_sound x y e same present =
      subst IsSound (sym (down_back x y e same)) (down_sound old n (Some y) old_sound (λ f is. present ∙ ap (λ (g : Stamped). Some g.stamp.conn) (same_Some y f is)))

  -- ---- a frame that a device offers

  offered : (f g : Stamped) (result : Result Offered Stamped) → g ≡ stamped n f → IsOffered (slice_index_or pm.ports m p) g result q → IsOffered (port_at old n) (stamped n f) result q
  offered f g result is offer =
      subst (λ r. IsOffered r (stamped n f) result q) lent_is (subst (λ (h : Stamped). IsOffered (slice_index_or pm.ports m p) h result q) is offer)

  pub offer_held : (f g : Stamped) → g ≡ stamped n f → IsOffered (slice_index_or pm.ports m p) g (Ok Held) q
      → FromDeviceRule old n f (Ok Held) (record pm { ports = slice_set pm.ports m q; given = None })
  offer_held f g is offer =
      let h : IsOffered (port_at old n) (stamped n f) (Ok Held) q = offered f g (Ok Held) is offer in
      (h.0, h.1, another _ None h.2)

  pub offer_dropped : (f g : Stamped) → g ≡ stamped n f → IsOffered (slice_index_or pm.ports m p) g (Ok Dropped) q
      → FromDeviceRule old n f (Ok Dropped) (record pm { ports = slice_set pm.ports m q })
  offer_dropped f g is offer =
      let h : IsOffered (port_at old n) (stamped n f) (Ok Dropped) q = offered f g (Ok Dropped) is offer in
      (h.0, same_back (h.1 ∙ sym lent_is))

  -- the frame is given back with the stamp that it had
  pub offer_refused : (f g back again : Stamped) (sent : Stamp) → g ≡ stamped n f → IsOffered (slice_index_or pm.ports m p) g (Err back) q
      → again ≡ record back { stamp = sent } → sent ≡ f.stamp
      → FromDeviceRule old n f (Err again) (record pm { ports = slice_set pm.ports m q })
  offer_refused f g back again sent is offer put had =
      let h : IsOffered (port_at old n) (stamped n f) (Err back) q = offered f g (Err back) is offer in
      let whole : again ≡ f =
      put ∙ (ap (λ (b : Stamped). let s : Stamped = record b { stamp = sent } in s) h.2 ∙ ap (λ (t : Stamp). let s : Stamped = record f { stamp = t } in s) had) in
      (h.0, h.1, whole, same_back (h.3 ∙ sym lent_is))

  -- ---- a frame for a device

  pub down_given : (frame : Stamped) (stamp : Stamp) → q ≡ port.with_down (slice_index_or pm.ports m p) None → Some frame ≡ (slice_index_or pm.ports m p).down → stamp ≡ frame.stamp
      → NextDownRule old n (Some frame) (record pm { ports = slice_set pm.ports m q; given = Some (Down n stamp) })
  down_given frame stamp e down is = (
    ap (λ (r : port.PortState). r.down) (sym lent_is) ∙ sym down,
    another (port.with_down (port_at old n) None) _ (e ∙ ap (λ r. port.with_down r None) lent_is)
        ∙ ap (λ (t : Stamp). let s : PmState = record (with_port old n (port.with_down (port_at old n) None)) { given = Some (Down n t) } in s) is,
  )

  none_taken : (r : port.PortState) → r.down ≡ None → port.with_down r None ≡ r
  none_taken r e = ap (λ d. port.with_down r d) (sym e)

  pub down_none : q ≡ port.with_down (slice_index_or pm.ports m p) None → None ≡ (slice_index_or pm.ports m p).down
      → NextDownRule old n None (record pm { ports = slice_set pm.ports m q })
  down_none e down =
      (ap (λ (r : port.PortState). r.down) (sym lent_is) ∙ sym down, same_back (e ∙ none_taken (slice_index_or pm.ports m p) (sym down)))

  -- ---- a device that came

  pub came_back : (registers : map.RegisterMap) (conn : ℕ) → q ≡ port.with_connection (slice_index_or pm.ports m p) conn → registers ≡ map.after_insert pm.registers n
      → record pm { registers = registers; ports = slice_set pm.ports m q; given = None } ≡ with_device old n conn
  came_back registers conn e inserts =
      ap (λ (t : PmState). let s : PmState = record t { registers = registers } in s) (another _ None (e ∙ ap (λ r. port.with_connection r conn) lent_is))
      ∙ ap (λ rs. let s : PmState = record (with_port old n (port.with_connection (port_at old n) conn)) { registers = rs } in s)
      (inserts ∙ ap (λ (t : PmState). map.after_insert t.registers n) lent.is)

  pub came_back_sound : (registers : map.RegisterMap) (conn : ℕ) → None ≡ port.came_refusal (slice_index_or pm.ports m p) conn → q ≡ port.with_connection (slice_index_or pm.ports m p) conn
      → registers ≡ map.after_insert pm.registers n → IsSound (record pm { registers = registers; ports = slice_set pm.ports m q; given = None })
  came_back_sound registers conn lets e inserts =
      subst IsSound (sym (came_back registers conn e inserts)) (came_sound old n conn old_sound lent.small (ap (λ r. port.came_refusal r conn) (sym lent_is) ∙ sym lets))

-- ---- what the rule of an offer leaves

pub offer_rule_sound : (old new : PmState) (n : ℕ) (frame : Stamped) (result : Result Offered Stamped) → IsSound old → FromDeviceRule old n frame result new → IsSound new
offer_rule_sound old new n frame (Ok Dropped) sound h = subst IsSound (sym h.1) sound
offer_rule_sound old new n frame (Ok Held) sound h = subst IsSound (sym h.2) (kept_sound old n frame sound h.0)
offer_rule_sound old new n frame (Err back) sound h = subst IsSound (sym h.3) sound

pub offer_rule_keeps : (old new : PmState) (n : ℕ) (frame : Stamped) (result : Result Offered Stamped) → FromDeviceRule old n frame result new → KeepsPorts old new
offer_rule_keeps old new n frame (Ok Dropped) h = KeepsPorts-same old new h.1
offer_rule_keeps old new n frame (Ok Held) h =
    keeps_set old new n (port.with_up (port_at old n) (Some (stamped n frame))) refl refl refl (ap (λ (pm : PmState). pm.registers.ports) h.2) (ap (λ (pm : PmState). pm.ports) h.2)
offer_rule_keeps old new n frame (Err back) h = KeepsPorts-same old new h.3
