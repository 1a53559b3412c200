-- Which connections of a port are gone, and what a removal leaves in its places.
use Rattle.std.proofs.Common.{◌≡◌, ℕ, zero, suc, ◌<◌, ◌≤◌, Bool, true, false, not, [], ◌∷◌, map, slice_index, Option, Some, None, refl, sym, ap, ◌∙◌}
use Rattle.std.proofs.{Common.{arith, inl, inr}, lemmas.Bool.{and_parts, cases_Bool, eqb-true, ltb-true, lt-ltb, leb-true, le-leb, leb-false}}
use Rattle.std.proofs.lemmas.Option.{same_Some}
use Rattle.std.specs.Prelude.{if◌then◌else◌, nat_lt, nat_le, is_some}
use Rattle.fis_view.specs.Frames.{Stamped}
use Rattle.pm_ports.specs.Port as port
use Rattle.pm_ports.specs.declared.port.{GoneError.{GoneError, TheVariants.NotThere}, PortError.{PortError, TheVariants.AlreadyThere}}
use Rattle.pm_ports.specs.declared.port.PortError.TheVariants.{OldConnection}
use Rattle.multiplier.specs.{State.IsSoundPort, Between.{Ports, at}}

-- ---- connections up to one

pub up_to : (highest conn : ℕ) → 0 < conn → conn ≤ highest → port.is_up_to highest conn ≡ true
up_to highest conn some most = rw (lt-ltb 0 conn some, le-leb conn highest most) refl

pub up_to_is : (highest conn : ℕ) → port.is_up_to highest conn ≡ true → (0 < conn) × (conn ≤ highest)
up_to_is highest conn is =
    let parts = and_parts (nat_lt 0 conn) (nat_le conn highest) is in
    (ltb-true 0 conn parts.0, leb-true conn highest parts.1)

pub not_up_to : (highest conn : ℕ) → (conn ≤ highest → conn ≡ 0) → port.is_up_to highest conn ≡ false
not_up_to highest conn none =
    elim (cases_Bool (port.is_up_to highest conn)) [
      | inl is ↦
          let both = up_to_is highest conn is in
          let zero : conn ≡ 0 = none both.1 in
          let some : 0 < conn = both.0 in
          absurd (omega arith)
      | inr not_so ↦ not_so
    ]

-- what is gone stays gone
pub still_up_to : (highest more conn : ℕ) → highest ≤ more → port.is_up_to highest conn ≡ true → port.is_up_to more conn ≡ true
still_up_to highest more conn grows is =
    let both = up_to_is highest conn is in
    let some : 0 < conn = both.0 in
    let most : conn ≤ highest = both.1 in
    up_to more conn some (omega arith)

pub never_up_to : (highest more conn : ℕ) → highest ≤ more → port.is_up_to more conn ≡ false → port.is_up_to highest conn ≡ false
never_up_to highest more conn grows not_so =
    elim (cases_Bool (port.is_up_to highest conn)) [
      | inl is ↦ let so : port.is_up_to more conn ≡ true = still_up_to highest more conn grows is in absurd cc
      | inr never ↦ never
    ]

-- ---- what a removal leaves

left_by : (b : Bool) (was frame : Stamped) → port.only_if (not b) was ≡ Some frame → (was ≡ frame) × (b ≡ false)
left_by true was frame e = absurd cc
left_by false was frame e = (same_Some was frame e, refl)

-- a frame that is left was there, and is of no connection that is gone
pub left_is : (highest : ℕ) (place : Option Stamped) (frame : Stamped) → port.left_in highest place ≡ Some frame
    → (place ≡ Some frame) × (port.is_up_to highest frame.stamp.conn ≡ false)
left_is highest None frame e = absurd cc
left_is highest (Some was) frame e =
    let b = left_by (port.is_up_to highest was.stamp.conn) was frame e in
    (ap (λ (f : Stamped). Some f) b.0, ap (λ (f : Stamped). port.is_up_to highest f.stamp.conn) (sym b.0) ∙ b.1)

-- a frame that is of none that is gone is left
pub left_all : (highest : ℕ) (place : Option Stamped) → ((frame : Stamped) → place ≡ Some frame → port.is_up_to highest frame.stamp.conn ≡ false)
    → port.left_in highest place ≡ place
left_all highest None none = refl
left_all highest (Some frame) none = ap (λ (b : Bool). port.only_if (not b) frame) (none frame refl)

-- ---- which connections come and go

-- a connection that is let in comes where none is present, and is above the last
accepted_by : (there : Bool) (conn last : ℕ) → (if there then Some AlreadyThere else if nat_le conn last then Some OldConnection else None) ≡ None
    → (there ≡ false) × (last < conn)
accepted_by true conn last e = absurd cc
accepted_by false conn last e = (refl, by_order (nat_le conn last) refl e)
  where
    by_order : (b : Bool) → nat_le conn last ≡ b → (let o : Option PortError = (if b then Some OldConnection else None) in o) ≡ None → last < conn
    by_order true is e = absurd cc
    by_order false is e = leb-false conn last is

none_by : (o : Option ℕ) → is_some o ≡ false → o ≡ None
none_by None e = refl
none_by (Some x) e = absurd cc

pub accepted : (p : port.PortState) (conn : ℕ) → port.came_refusal p conn ≡ None → (p.present ≡ None) × (p.last < conn)
accepted p conn e = let a = accepted_by (is_some p.present) conn p.last e in (none_by p.present a.0, a.1)

-- the connection that goes is the one that is present
present_by : (o : Option ℕ) (conn : ℕ) → port.is_present o conn ≡ true → o ≡ Some conn
present_by None conn e = absurd cc
present_by (Some there) conn e = ap (λ (c : ℕ). Some c) (sym (eqb-true conn there e))

goes_by : (b : Bool) → (let o : Option GoneError = (if b then None else Some NotThere) in o) ≡ None → b ≡ true
goes_by true e = refl
goes_by false e = absurd cc

pub goes : (p : port.PortState) (conn : ℕ) → port.gone_refusal p conn ≡ None → p.present ≡ Some conn
goes p conn e = present_by p.present conn (goes_by (port.is_present p.present conn) e)

-- ---- ports

-- a device came
pub came_port : (n conn : ℕ) (p : port.PortState) → IsSoundPort n (is_some p.present) p → p.present ≡ None → p.last < conn
    → IsSoundPort n true (port.with_connection p conn)
came_port n conn p is none above = record {
  sound = record {
    counted = λ c e. let same : conn ≡ c = same_Some conn c e in omega arith;
    last = λ c e. sym (same_Some conn c e);
    above = λ c e. let same : conn ≡ c = same_Some conn c e in let away : p.gone ≡ p.last = is.sound.away none in omega arith;
    away = λ e. absurd cc;
  };
  agrees = refl;
  stamped = is.stamped;
  stays = is.stays;
  meant = λ frame e. let not_so : None ≡ Some frame.stamp.conn = sym none ∙ is.meant frame e in absurd cc;
}

-- a device went: no frame for it is left
pub gone_port : (n conn : ℕ) (shown : Bool) (p : port.PortState) → IsSoundPort n shown p → p.present ≡ Some conn
    → IsSoundPort n false (port.with_removal p conn)
gone_port n conn shown p is there = record {
  sound = record {
    counted = λ c e. absurd cc;
    last = λ c e. absurd cc;
    above = λ c e. absurd cc;
    away = λ e. is.sound.last conn there;
  };
  agrees = refl;
  stamped = λ frame e. is.stamped frame (left_is conn p.up frame e).0;
  stays = λ frame e. (left_is conn p.up frame e).1;
  meant = λ frame e.
      let was = left_is conn p.down frame e in
      let same : conn ≡ frame.stamp.conn = same_Some conn frame.stamp.conn (sym there ∙ is.meant frame was.0) in
      let some : 0 < conn = is.sound.counted conn there in
      let so : port.is_up_to conn frame.stamp.conn ≡ true = up_to conn frame.stamp.conn (omega arith) (omega arith) in
      let not_so : port.is_up_to conn frame.stamp.conn ≡ false = was.1 in
      absurd cc;
}

-- the removals that are recorded, port by port
pub removal_at : (ports : Ports) (n : ℕ) → slice_index (map (λ (p : port.PortState). p.gone) ports) n ≡ (at ports n).gone
removal_at [] n = refl
removal_at (p ∷ ports) zero = refl
removal_at (p ∷ ports) (suc n) = removal_at ports n
