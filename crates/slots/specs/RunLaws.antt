-- Runs of flags lie apart, and no other flags have them.
use Rattle.std.specs.{Prelude.{nat_le, nat_lt}, List.range_with_len}
use Rattle.std.proofs.Common.{◌≡◌, ℕ, zero, suc, ◌+◌, ◌<◌, ◌≤◌, Bool, true, false, ◌||◌, List, [], ◌∷◌, length, map, refl, sym, ◌∙◌, ap, arith, Some}
use Rattle.std.proofs.{Common.None, lemmas.Bool.{and_from, and_left, and_right, and_parts, or_from, or_left, le-leb, lt-leb, lt-ltb, le-ltb}}
use Rattle.std.proofs.lemmas.Bool.{leb-true, ltb-true}
use Rattle.slots.specs.{declared.moved.Stretch.Stretch, Stretches.{AreApart, has, in_one, over_of}, Runs.{runs_from, runs_of}}

-- ---- dwords

pub has_yes : (k : ℕ) (s : Stretch) → s.start ≤ k → k < s.end → has k s ≡ true
has_yes k s low high = and_from (nat_le s.start k) (nat_lt k s.end) (le-leb s.start k low) (lt-ltb k s.end high)

pub has_low : (k : ℕ) (s : Stretch) → k < s.start → has k s ≡ false
has_low k s low = and_left (nat_le s.start k) (nat_lt k s.end) (lt-leb s.start k low)

pub has_high : (k : ℕ) (s : Stretch) → s.end ≤ k → has k s ≡ false
has_high k s high = and_right (nat_le s.start k) (nat_lt k s.end) (le-ltb k s.end high)

pub has_is : (k : ℕ) (s : Stretch) → has k s ≡ true → (s.start ≤ k) × (k < s.end)
has_is k s h = let both = and_parts (nat_le s.start k) (nat_lt k s.end) h in (leb-true s.start k both.0, ltb-true k s.end both.1)

pub none_below : (low n : ℕ) (ss : List Stretch) (k : ℕ) → AreApart low n ss → k < low → in_one ss k ≡ false
none_below low n [] k h lt = refl
none_below low n (s ∷ ss) k h lt =
    or_from (has k s) (in_one ss k) (has_low k s (omega (arith, h.0))) (none_below (s.end + 1) n ss k h.3 (omega (arith, h.0, h.1)))

pub wider : (low n m : ℕ) (ss : List Stretch) → AreApart low n ss → n ≤ m → AreApart low m ss
wider low n m [] h le = tt
wider low n m (s ∷ ss) h le = (h.0, h.1, omega (arith, h.2), wider (s.end + 1) n m ss h.3 le)

pub lower : (from low n : ℕ) (ss : List Stretch) → AreApart low n ss → from ≤ low → AreApart from n ss
lower from low n [] h le = tt
lower from low n (s ∷ ss) h le = (omega (arith, h.0), h.1, h.2, h.3)

-- the flags of n dwords, from dword k on
abbrev pub flags : ℕ → ℕ → List Stretch → List Bool
flags k n ss = map (in_one ss) (range_with_len k n)

-- a stretch that ends before them has none
pub flags_past : (k n : ℕ) (s : Stretch) (ss : List Stretch) → s.end ≤ k → flags k n (s ∷ ss) ≡ flags k n ss
flags_past k zero s ss past = refl
flags_past k (suc n) s ss past =
    let here : in_one (s ∷ ss) k ≡ in_one ss k = ap (λ (x : Bool). x || in_one ss k) (has_high k s past) in
    let rest : flags (k + 1) n (s ∷ ss) ≡ flags (k + 1) n ss = flags_past (k + 1) n s ss (omega (arith, past)) in
    cc

-- ---- runs lie apart

-- the first of them starts at dword j and ends at dword k or behind it
abbrev Starts : ℕ → ℕ → ℕ → List Stretch → Type 0
Starts j k m [] = ⊥
Starts j k m (s ∷ ss) = (s.start ≡ j) × (k ≤ s.end) × (s.end ≤ m) × AreApart (s.end + 1) m ss

starts_before : (j k l m : ℕ) (ss : List Stretch) → k ≤ l → Starts j l m ss → Starts j k m ss
starts_before j k l m [] le h = h
starts_before j k l m (s ∷ ss) le h = (h.0, omega (arith, h.1), h.2, h.3)

are_apart : (j k m : ℕ) (ss : List Stretch) → j < k → Starts j k m ss → AreApart j m ss
are_apart j k m [] lt h = tt
are_apart j k m (s ∷ ss) lt h = (omega (arith, h.0), omega (arith, h.0, h.1), h.2, h.3)

mutual
  outside_apart : (k m : ℕ) (fs : List Bool) → k + length fs ≡ m → AreApart k m (runs_from None k fs)
  outside_apart k m [] e = tt
  outside_apart k m (false ∷ fs) e = lower k (k + 1) m (runs_from None (k + 1) fs) (outside_apart (k + 1) m fs (omega (arith, e))) (omega arith)
  outside_apart k m (true ∷ fs) e =
      are_apart k (k + 1) m (runs_from (Some k) (k + 1) fs) (omega arith) (within_apart k (k + 1) m fs (omega arith) (omega (arith, e)))

  within_apart : (j k m : ℕ) (fs : List Bool) → j < k → k + length fs ≡ m → Starts j k m (runs_from (Some j) k fs)
  within_apart j k m [] lt e = (refl, omega arith, omega (arith, e), tt)
  within_apart j k m (true ∷ fs) lt e =
      starts_before j k (k + 1) m (runs_from (Some j) (k + 1) fs) (omega arith) (within_apart j (k + 1) m fs (omega (arith, lt)) (omega (arith, e)))
  within_apart j k m (false ∷ fs) lt e = (refl, omega arith, omega (arith, e), outside_apart (k + 1) m fs (omega (arith, e)))

pub runs_apart : (fs : List Bool) → AreApart 0 (length fs) (runs_of fs)
runs_apart fs = outside_apart 0 (length fs) fs (omega arith)

-- ---- flags are those of their runs

in_first : (j k l m : ℕ) (ss : List Stretch) → j ≤ l → l < k → Starts j k m ss → in_one ss l ≡ true
in_first j k l m [] le lt h = absurd h
in_first j k l m (s ∷ ss) le lt h = or_left (has l s) (in_one ss l) (has_yes l s (omega (arith, h.0)) (omega (arith, h.1)))

mutual
  outside_flags : (k m : ℕ) (fs : List Bool) → k + length fs ≡ m → flags k (length fs) (runs_from None k fs) ≡ fs
  outside_flags k m [] e = refl
  outside_flags k m (false ∷ fs) e =
      let here : in_one (runs_from None (k + 1) fs) k ≡ false =
      none_below (k + 1) m (runs_from None (k + 1) fs) k (outside_apart (k + 1) m fs (omega (arith, e))) (omega arith) in
      let rest = outside_flags (k + 1) m fs (omega (arith, e)) in
      cc
  outside_flags k m (true ∷ fs) e =
      let here : in_one (runs_from (Some k) (k + 1) fs) k ≡ true =
      in_first k (k + 1) k m (runs_from (Some k) (k + 1) fs) (omega arith) (omega arith) (within_apart k (k + 1) m fs (omega arith) (omega (arith, e))) in
      let rest = within_flags k (k + 1) m fs (omega arith) (omega (arith, e)) in
      cc

  within_flags : (j k m : ℕ) (fs : List Bool) → j < k → k + length fs ≡ m → flags k (length fs) (runs_from (Some j) k fs) ≡ fs
  within_flags j k m [] lt e = refl
  within_flags j k m (true ∷ fs) lt e =
      let here : in_one (runs_from (Some j) (k + 1) fs) k ≡ true =
      in_first j (k + 1) k m (runs_from (Some j) (k + 1) fs) (omega (arith, lt)) (omega arith) (within_apart j (k + 1) m fs (omega (arith, lt)) (omega (arith, e))) in
      let rest = within_flags j (k + 1) m fs (omega (arith, lt)) (omega (arith, e)) in
      cc
  within_flags j k m (false ∷ fs) lt e =
      let s : Stretch = record { start = j; end = k } in
      let ss : List Stretch = runs_from None (k + 1) fs in
      let apart = outside_apart (k + 1) m fs (omega (arith, e)) in
      let here : in_one (s ∷ ss) k ≡ false = or_from (has k s) (in_one ss k) (has_high k s (omega arith)) (none_below (k + 1) m ss k apart (omega arith)) in
      let rest : flags (k + 1) (length fs) (s ∷ ss) ≡ fs = flags_past (k + 1) (length fs) s ss (omega arith) ∙ outside_flags (k + 1) m fs (omega (arith, e)) in
      cc

pub over_runs : (fs : List Bool) → over_of (length fs) (runs_of fs) ≡ fs
over_runs fs = outside_flags 0 (length fs) fs (omega arith)

-- flags of as many dwords with the same runs are the same
pub runs_same : (a b : List Bool) → length a ≡ length b → runs_of a ≡ runs_of b → a ≡ b
runs_same a b long e = sym (over_runs a) ∙ ap (over_of (length a)) e ∙ ap (λ (n : ℕ). over_of n (runs_of b)) long ∙ over_runs b
