-- The rule of a restored queue: what fits is what every queue keeps.
use Rattle.std.proofs.Common.{◌≡◌, ◌∙◌, ℕ, ◌+◌, ◌<◌, true, false, List, length, get_or, Some, None, refl, sym, ap, arith, inl, inr}
use Rattle.std.specs.Prelude.{Option, Bool, is_some, not, ◌||◌, ◌&&◌, ◌==◌, nat_lt, nat_le}
use Rattle.std.proofs.lemmas.Bool.{cases_eq, lt-ltb, ltb-true, lt-leb, leb-false, eq-eqb, eqb-true, ne_eqb, and_parts, and_from, and_left, and_right, not_from_true, not_from_false}
use Rattle.block_command.specs.Moments.{Moment, part_lba, runs, turn_of}
use Rattle.block_disk.specs.Table.{Table, at, has_wire}
use Rattle.block_queue.specs.declared.queue.Orphan.{Orphan}
use Rattle.block_queue.specs.Line.{IsClear, IsLine, IsWired, Line, any_below, bars, command_at, is_before, is_in_way, orphan, rank, starts, waits_for}
use Rattle.block_queue.specs.Saved.{are_in_order, fits, has_moved, has_passed, has_rank_of, is_broken, is_early, is_early_at, is_misranked, is_wired}
use Rattle.block_queue.proofs.Kept.{any_at, any_none, of_or}

-- ## Tests

or_false : (x y : Bool) → x ≡ false → y ≡ false → (x || y) ≡ false
or_false false y e f = f
or_false true y e f = absurd (cc)

second_false : (x y : Bool) → (x && y) ≡ false → x ≡ true → y ≡ false
second_false true y e f = e
second_false false y e f = absurd (cc)

and_if : (x y : Bool) → (x ≡ true → y ≡ false) → (x && y) ≡ false
and_if true y f = f refl
and_if false y f = refl

was_false : (x : Bool) → not x ≡ true → x ≡ false
was_false false e = refl
was_false true e = absurd (cc)

was_true : (x : Bool) → not x ≡ false → x ≡ true
was_true true e = refl
was_true false e = absurd (cc)

none_there : (o : Option Orphan) → is_some o ≡ false → o ≡ None
none_there None e = refl
none_there (Some x) e = absurd (cc)

-- ## What fits keeps the rules

own_rank : (l : Line) (p q : ℕ) → any_below (has_rank_of l.ranks p) 33 ≡ false → q < 33 → rank l p ≡ rank l q → p ≡ q
own_rank l p q e low same = elim (cases_eq q p) [
  | inl is ↦ sym is
  | inr apart ↦ absurd (
      let other : not (q == p) ≡ true = not_from_false (q == p) (ne_eqb q p apart) in
      let no : (rank l q == rank l p) ≡ false = second_false (not (q == p)) (rank l q == rank l p) (any_at (has_rank_of l.ranks p) 33 q e low) other in
      let yes : (rank l q == rank l p) ≡ true = eq-eqb (rank l q) (rank l p) (sym same) in
      cc)
]

not_broken : (l : Line) (p : ℕ) → are_in_order l ≡ true → p < 33 → is_broken l p ≡ false
not_broken l p e low = any_at (is_broken l) 33 p (was_false (any_below (is_broken l) 33) e) low

ranked : (l : Line) (p : ℕ) → are_in_order l ≡ true → p < 33
    → (any_below (has_rank_of l.ranks p) 33 ≡ false) × (nat_le 33 (rank l p) ≡ false)
ranked l p e low =
    of_or (any_below (has_rank_of l.ranks p) 33) (nat_le 33 (rank l p)) (of_or (is_misranked l.ranks p) (is_early l p) (not_broken l p e low)).0

in_time : (l : Line) (p : ℕ) (m : Moment) → are_in_order l ≡ true → p < 33 → command_at l p ≡ Some m
    → (has_passed l p m ≡ false) × (has_moved m ≡ false)
in_time l p m e low here =
    let not_early = (of_or (is_misranked l.ranks p) (is_early l p) (not_broken l p e low)).1 in
    of_or (has_passed l p m) (has_moved m) (ap (is_early_at l p) (sym here) ∙ not_early)

clear_of : (l : Line) (p : ℕ) (m : Moment) → has_passed l p m ≡ false → runs m.stage ≡ true → IsClear l p m.command
clear_of l p m e run =
    let waits = of_or (is_some (orphan l p)) (any_below (waits_for l m.command p) 33)
    (second_false (runs m.stage) (is_some (orphan l p) || any_below (waits_for l m.command p) 33) e run) in
    record {
      first = λ q low earlier. second_false (is_before l.ranks q p) (is_in_way m.command (command_at l q))
          (of_or (is_before l.ranks q p && is_in_way m.command (command_at l q)) (bars m.command (orphan l q))
          (any_at (waits_for l m.command p) 33 q waits.1 low)).0 earlier;
      spared = λ q low. (of_or (is_before l.ranks q p && is_in_way m.command (command_at l q)) (bars m.command (orphan l q))
          (any_at (waits_for l m.command p) 33 q waits.1 low)).1;
      vacant = none_there (orphan l p) waits.0;
    }

unmoved : (m : Moment) → has_moved m ≡ false → starts (turn_of m.stage) ≡ true → m.done ≡ 0
unmoved m e start =
    let same : m.command.lba + m.done ≡ m.command.lba = eqb-true (part_lba m) m.command.lba
    (was_true (part_lba m == m.command.lba) (second_false (starts (turn_of m.stage)) (not (part_lba m == m.command.lba)) e start)) in
    omega (arith, same)

wired_of : (d : Table) (w : Option ℕ) → is_wired d w ≡ true → (p : ℕ) → w ≡ Some p → (p < 33) × (has_wire (at d p) ≡ true)
wired_of d None e p is = absurd (cc)
wired_of d (Some h) e p is =
    let same : h ≡ p = cc in
    let both = and_parts (nat_lt h 33) (has_wire (at d h)) e in
    rw (sym same) (ltb-true h 33 both.0, both.1)

pub fit_keeps : (l : Line) → length l.queue.table.places ≡ 33 → length l.ranks ≡ 33 → length l.orphans ≡ 33 → fits l ≡ true → IsLine l
fit_keeps l places ranks orphans fit =
    let both = and_parts (are_in_order l) (is_wired l.queue.table l.queue.table.wire) fit in
    record {
      places = places;
      ranks = ranks;
      orphans = orphans;
      below = λ p low. leb-false 33 (rank l p) (ranked l p both.0 low).1;
      own = λ p q low high same. own_rank l p q (ranked l p both.0 low).0 high same;
      clear = λ p m low here run. clear_of l p m (in_time l p m both.0 low here).0 run;
      wired = wired_of l.queue.table l.queue.table.wire both.1;
      fresh = λ p m low here start. unmoved m (in_time l p m both.0 low here).1 start;
    }

-- ## What keeps the rules fits

no_other : (l : Line) (p q : ℕ) → IsLine l → p < 33 → q < 33 → has_rank_of l.ranks p q ≡ false
no_other l p q is low high = elim (cases_eq q p) [
  | inl same ↦ and_left (not (q == p)) (rank l q == rank l p) (not_from_true (q == p) (eq-eqb q p same))
  | inr apart ↦ and_right (not (q == p)) (rank l q == rank l p) (ne_eqb (rank l q) (rank l p) (λ e. apart (sym (is.own p q low high (sym e)))))
]

waits_not : (l : Line) (p q : ℕ) (m : Moment) → IsClear l p m.command → q < 33 → waits_for l m.command p q ≡ false
waits_not l p q m clear low = or_false (is_before l.ranks q p && is_in_way m.command (command_at l q)) (bars m.command (orphan l q))
    (and_if (is_before l.ranks q p) (is_in_way m.command (command_at l q)) (clear.first q low)) (clear.spared q low)

passed_not : (l : Line) (p : ℕ) (m : Moment) → IsLine l → p < 33 → command_at l p ≡ Some m → has_passed l p m ≡ false
passed_not l p m is low here = and_if (runs m.stage) (is_some (orphan l p) || any_below (waits_for l m.command p) 33)
    (λ run. let clear = is.clear p m low here run in or_false (is_some (orphan l p)) (any_below (waits_for l m.command p) 33)
    (ap is_some clear.vacant) (any_none (waits_for l m.command p) 33 (λ q low. waits_not l p q m clear low)))

moved_not : (l : Line) (p : ℕ) (m : Moment) → IsLine l → p < 33 → command_at l p ≡ Some m → has_moved m ≡ false
moved_not l p m is low here = and_if (starts (turn_of m.stage)) (not (part_lba m == m.command.lba)) (λ start.
    let fresh = is.fresh p m low here start in
    let same : m.command.lba + m.done ≡ m.command.lba = omega (arith, fresh) in
    not_from_true (part_lba m == m.command.lba) (eq-eqb (part_lba m) m.command.lba same))

early_not : (l : Line) (p : ℕ) (x : Option Moment) → IsLine l → p < 33 → command_at l p ≡ x → is_early_at l p x ≡ false
early_not l p None is low here = refl
early_not l p (Some m) is low here = or_false (has_passed l p m) (has_moved m) (passed_not l p m is low here) (moved_not l p m is low here)

broken_not : (l : Line) (p : ℕ) → IsLine l → p < 33 → is_broken l p ≡ false
broken_not l p is low = or_false (is_misranked l.ranks p) (is_early l p)
    (or_false (any_below (has_rank_of l.ranks p) 33) (nat_le 33 (rank l p))
    (any_none (has_rank_of l.ranks p) 33 (λ q high. no_other l p q is low high)) (lt-leb 33 (rank l p) (is.below p low)))
    (early_not l p (command_at l p) is low refl)

wired_then : (d : Table) (w : Option ℕ) → ((p : ℕ) → w ≡ Some p → (p < 33) × (has_wire (at d p) ≡ true)) → is_wired d w ≡ true
wired_then d None wired = refl
wired_then d (Some p) wired = let is = wired p refl in and_from (nat_lt p 33) (has_wire (at d p)) (lt-ltb p 33 is.0) is.1

pub keeps_fit : (l : Line) → IsLine l → fits l ≡ true
keeps_fit l is = and_from (are_in_order l) (is_wired l.queue.table l.queue.table.wire)
    (not_from_false (any_below (is_broken l) 33) (any_none (is_broken l) 33 (λ p low. broken_not l p is low)))
    (wired_then l.queue.table l.queue.table.wire is.wired)
