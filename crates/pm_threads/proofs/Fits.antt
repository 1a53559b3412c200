-- What a setup that fits says of its numbers.
use Rattle.std.proofs.{Common.{◌≡◌, ◌≤◌, ℕ, Bool, true, false, sym, subst, arith}, lemmas.Bool.{and_parts, Decides.nat_tests}}
use Rattle.std.specs.{Prelude.{◌&&◌, ◌==◌, nat_le, nat_lt, not, length}, List.list_all}
use Rattle.host_memory.specs.Memory.{is_memory_size}
use Rattle.pm_threads.specs.{Links.LinksState, Setups.{can_run, is_fitting, lies_in}, declared.setup.Setup.Setup}

pub first_three : (a b u t m x p q r : Bool) → ((((((((a && b) && u) && t) && m) && x) && p) && q) && r) ≡ true → (a ≡ true) × (b ≡ true) × (u ≡ true)
first_three a b u t m x p q r h =
    let s1 = and_parts (((((((a && b) && u) && t) && m) && x) && p) && q) r h in
    let s2 = and_parts ((((((a && b) && u) && t) && m) && x) && p) q s1.0 in
    let s3 = and_parts (((((a && b) && u) && t) && m) && x) p s2.0 in
    let s4 = and_parts ((((a && b) && u) && t) && m) x s3.0 in
    let s5 = and_parts (((a && b) && u) && t) m s4.0 in
    let s6 = and_parts ((a && b) && u) t s5.0 in
    let s7 = and_parts (a && b) u s6.0 in
    let s8 = and_parts a b s7.0 in
    (s8.0, s8.1, s7.1)

pub unit_for_each : (ports units : ℕ) → (nat_le 1 ports ≡ true) × (nat_le ports 15 ≡ true) × ((units == ports) ≡ true) → (1 ≤ units) × (units ≤ 15)
unit_for_each ports units h =
    let a = h.0 in let b = h.1 in let c = h.2 in
    (grind (arith, nat_tests, a, b, c), grind (arith, nat_tests, a, b, c))

pub puts_part : (a b u t m x p q r : Bool) → ((((((((a && b) && u) && t) && m) && x) && p) && q) && r) ≡ true → p ≡ true
puts_part a b u t m x p q r h =
    let s1 = and_parts (((((((a && b) && u) && t) && m) && x) && p) && q) r h in
    let s2 = and_parts ((((((a && b) && u) && t) && m) && x) && p) q s1.0 in
    let s3 = and_parts (((((a && b) && u) && t) && m) && x) p s2.0 in
    s3.1

pub size_part : (a b u t m x p q r : Bool) → ((((((((a && b) && u) && t) && m) && x) && p) && q) && r) ≡ true → x ≡ true
size_part a b u t m x p q r h =
    let s1 = and_parts (((((((a && b) && u) && t) && m) && x) && p) && q) r h in
    let s2 = and_parts ((((((a && b) && u) && t) && m) && x) && p) q s1.0 in
    let s3 = and_parts (((((a && b) && u) && t) && m) && x) p s2.0 in
    let s4 = and_parts ((((a && b) && u) && t) && m) x s3.0 in
    s4.1

pub as_many : (ports units : ℕ) → (units == ports) ≡ true → units ≡ ports
as_many ports units h = grind (arith, nat_tests, h)

module _ {D : Type 0} (ports : ℕ) (s : Setup D) (h : is_fitting ports s ≡ true) where
  pub fits_puts : list_all (λ put. lies_in s.memory put.0 (length put.1.items)) s.puts.items ≡ true
  fits_puts =
      puts_part (nat_le 1 ports) (nat_le ports 15) (length s.units.items == ports) (nat_le 1 s.turns) (nat_le s.turns 16777216)
      (is_memory_size s.memory) (list_all (λ put. lies_in s.memory put.0 (length put.1.items)) s.puts.items)
      (list_all (λ planned. nat_lt planned.dev ports) s.plan.items) (list_all (λ pull. nat_lt pull.0 ports) s.pulls.items) h

  pub fits_size : is_memory_size s.memory ≡ true
  fits_size =
      size_part (nat_le 1 ports) (nat_le ports 15) (length s.units.items == ports) (nat_le 1 s.turns) (nat_le s.turns 16777216)
      (is_memory_size s.memory) (list_all (λ put. lies_in s.memory put.0 (length put.1.items)) s.puts.items)
      (list_all (λ planned. nat_lt planned.dev ports) s.plan.items) (list_all (λ pull. nat_lt pull.0 ports) s.pulls.items) h

  pub fits_units : length s.units.items ≡ ports
  fits_units = as_many ports (length s.units.items)
      (first_three (nat_le 1 ports) (nat_le ports 15) (length s.units.items == ports) (nat_le 1 s.turns) (nat_le s.turns 16777216)
      (is_memory_size s.memory) (list_all (λ put. lies_in s.memory put.0 (length put.1.items)) s.puts.items)
      (list_all (λ planned. nat_lt planned.dev ports) s.plan.items) (list_all (λ pull. nat_lt pull.0 ports) s.pulls.items) h).2

pub may_run : {D : Type 0} (l : LinksState) (ports : ℕ) (s : Setup D) → l.given ≡ false → ports ≡ length l.devices → is_fitting ports s ≡ true
    → can_run l s ≡ true
may_run l ports s free there fits =
    subst (λ (given : Bool). (not given && is_fitting (length l.devices) s) ≡ true) (sym free)
    (subst (λ (n : ℕ). is_fitting n s ≡ true) there fits)
