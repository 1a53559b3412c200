-- One more stretch, joined with those that it meets or touches.
use Rattle.std.proofs.Common.{◌≡◌, ℕ, ◌+◌, ◌*◌, ◌/◌, ◌%◌, ◌<◌, ◌≤◌, Bool, true, false, ◌||◌, nat_lt, cond, List, [], ◌∷◌, ◌++◌, length, refl, sym}
use Rattle.std.proofs.{Common.{◌∙◌, ap, subst, arith, inl, inr, Option, Some, None}, lemmas.Bool.{cases_Bool, cases_lt, or_from, or_left, or_right}}
use Rattle.std.proofs.lemmas.{Bool.{lt-ltb, le-ltb, false≢true, false_from_ne_true}, List.{append-nil, append_assoc, get_or_past, length-append}}
use Rattle.slots.specs.{declared.moved.Stretch.Stretch, Bytes.{stretches_of, with_bytes}, Slots.match_some, Stretches.{AreApart, has, in_one, joined}}
use Rattle.slots.specs.Stretches.{merged_with, over_of}
use Rattle.slots.proofs.{ByteLemmas.marked_with_bytes, FlagLemmas.{get-over, length-over}, ApartLemmas.{has_high, has_is, has_low, has_yes, lower}}
use Rattle.slots.proofs.ApartLemmas.{stretch_count}

-- ---- one stretch of the list

pub merged_before : (g s : Stretch) (ss : List Stretch) → s.end < g.start → merged_with g (s ∷ ss) ≡ s ∷ merged_with g ss
merged_before g s ss lt = ap (λ (b : Bool). cond b (s ∷ merged_with g ss) (cond (nat_lt g.end s.start) (g ∷ s ∷ ss) (merged_with (joined g s) ss))) (lt-ltb s.end g.start lt)

merged_not_before : (g s : Stretch) (ss : List Stretch) → g.start ≤ s.end → merged_with g (s ∷ ss) ≡ cond (nat_lt g.end s.start) (g ∷ s ∷ ss) (merged_with (joined g s) ss)
merged_not_before g s ss le = ap (λ (b : Bool). cond b (s ∷ merged_with g ss) (cond (nat_lt g.end s.start) (g ∷ s ∷ ss) (merged_with (joined g s) ss))) (le-ltb s.end g.start le)

pub merged_behind : (g s : Stretch) (ss : List Stretch) → g.start ≤ s.end → g.end < s.start → merged_with g (s ∷ ss) ≡ g ∷ s ∷ ss
merged_behind g s ss le lt = merged_not_before g s ss le ∙ ap (λ (b : Bool). cond b (g ∷ s ∷ ss) (merged_with (joined g s) ss)) (lt-ltb g.end s.start lt)

pub merged_joined : (g s : Stretch) (ss : List Stretch) → g.start ≤ s.end → s.start ≤ g.end → merged_with g (s ∷ ss) ≡ merged_with (joined g s) ss
merged_joined g s ss le ge = merged_not_before g s ss le ∙ ap (λ (b : Bool). cond b (g ∷ s ∷ ss) (merged_with (joined g s) ss)) (le-ltb g.end s.start ge)

-- ---- the dwords that they have

or_swap : (x y z : Bool) → (x || (y || z)) ≡ (y || (x || z))
or_swap true true z = refl
or_swap true false z = refl
or_swap false true z = refl
or_swap false false z = refl

or_three : (x y z : Bool) → ((x || y) || z) ≡ (x || (y || z))
or_three true y z = refl
or_three false y z = refl

has_joined : (k : ℕ) (g s : Stretch) → g.start ≤ s.end → s.start ≤ g.end → has k (joined g s) ≡ (has k g || has k s)
has_joined k g s le ge = elim (cases_Bool (has k g)) [
  | inl in_g ↦ let at = has_is k g in_g in has_yes k (joined g s) (omega (arith, at.0)) (omega (arith, at.1)) ∙ sym (or_left (has k g) (has k s) in_g)
  | inr out_g ↦ elim (cases_Bool (has k s)) [
    | inl in_s ↦ let at = has_is k s in_s in has_yes k (joined g s) (omega (arith, at.0)) (omega (arith, at.1)) ∙ sym (or_right (has k g) (has k s) in_s)
    | inr out_s ↦ false_from_ne_true (has k (joined g s)) (λ h.
        let at = has_is k (joined g s) h in
        let low : g.start ≤ k = elim (cases_lt k g.start) [
          | inl less ↦ absurd (false≢true (sym out_s ∙ has_yes k s (omega (arith, at.0)) (omega arith)))
          | inr more ↦ more
        ] in
        let high : k < g.end = elim (cases_lt k g.end) [
          | inl less ↦ less
          | inr more ↦ absurd (false≢true (sym out_s ∙ has_yes k s (omega arith) (omega (arith, at.1))))
        ] in
        false≢true (sym out_g ∙ has_yes k g low high)) ∙ sym (or_from (has k g) (has k s) out_g out_s)
  ]
]

pub merged_has : (g : Stretch) (ss : List Stretch) (k : ℕ) → in_one (merged_with g ss) k ≡ (has k g || in_one ss k)
merged_has g [] k = refl
merged_has g (s ∷ ss) k = elim (cases_lt s.end g.start) [
  | inl below ↦
      ap (λ (l : List Stretch). in_one l k) (merged_before g s ss below) ∙ ap (λ (x : Bool). has k s || x) (merged_has g ss k) ∙ or_swap (has k s) (has k g) (in_one ss k)
  | inr le ↦ elim (cases_lt g.end s.start) [
    | inl above ↦ ap (λ (l : List Stretch). in_one l k) (merged_behind g s ss le above)
    | inr ge ↦
        ap (λ (l : List Stretch). in_one l k) (merged_joined g s ss le ge) ∙ merged_has (joined g s) ss k ∙ ap (λ (x : Bool). x || in_one ss k) (has_joined k g s le ge)
        ∙ or_three (has k g) (has k s) (in_one ss k)
  ]
]

pub merged_apart : (low n : ℕ) (g : Stretch) (ss : List Stretch) → AreApart low n ss → low ≤ g.start → g.start < g.end → g.end ≤ n → AreApart low n (merged_with g ss)
merged_apart low n g [] h from some to = (from, some, to, tt)
merged_apart low n g (s ∷ ss) h from some to = elim (cases_lt s.end g.start) [
  | inl below ↦
      let rest : AreApart (s.end + 1) n (merged_with g ss) = merged_apart (s.end + 1) n g ss h.3 (omega arith) some to in
      let is : AreApart low n (s ∷ merged_with g ss) = (h.0, h.1, h.2, rest) in
      subst (AreApart low n) (sym (merged_before g s ss below)) is
  | inr le ↦ elim (cases_lt g.end s.start) [
    | inl above ↦
        let is : AreApart low n (g ∷ s ∷ ss) = (from, some, to, (omega arith, h.1, h.2, h.3)) in
        subst (AreApart low n) (sym (merged_behind g s ss le above)) is
    | inr ge ↦
        let rest : AreApart low n ss = lower low (s.end + 1) n ss h.3 (omega (arith, h.0, h.1)) in
        let is : AreApart low n (merged_with (joined g s) ss) = merged_apart low n (joined g s) ss rest (omega (arith, h.0)) (omega (arith, h.1)) (omega (arith, h.2)) in
        subst (AreApart low n) (sym (merged_joined g s ss le ge)) is
  ]
]

-- ---- they are the transferred bytes with the new ones

pub merged_over : (n offset count : ℕ) (g : Stretch) (ss : List Stretch) → offset % 4 ≡ 0 → count % 4 ≡ 0 → offset + count ≤ 4 * n → g.start ≡ offset / 4 → g.end ≡ offset / 4 + count / 4
    → over_of n (merged_with g ss) ≡ with_bytes (over_of n ss) offset count
merged_over n offset count g ss o4 c4 within from to =
    let old : List Bool = over_of n ss in
    let new : List Bool = over_of n (merged_with g ss) in
    marked_with_bytes old new offset count o4 c4 (record {
      long = length-over n (merged_with g ss) ∙ sym (length-over n ss);
      set = λ j low high. get-over n (merged_with g ss) j false (omega arith) ∙ merged_has g ss j ∙ or_left (has j g) (in_one ss j) (has_yes j g (omega arith) (omega arith));
      kept = λ j apart. elim (cases_lt j n) [
        | inl lt ↦
            let out : has j g ≡ false = elim apart [
              | inl low ↦ has_low j g (omega arith)
              | inr high ↦ has_high j g (omega arith)
            ] in
            get-over n (merged_with g ss) j false lt ∙ merged_has g ss j ∙ ap (λ (x : Bool). x || in_one ss j) out ∙ sym (get-over n ss j false lt)
        | inr ge ↦ get_or_past new j false (omega (arith, length-over n (merged_with g ss))) ∙ sym (get_or_past old j false (omega (arith, length-over n ss)))
      ];
    })

-- so there are as many of them as of these bytes
pub merged_count : (n offset count : ℕ) (g : Stretch) (ss : List Stretch) → AreApart 0 n ss → offset % 4 ≡ 0 → count % 4 ≡ 0 → offset + count ≤ 4 * n → g.start ≡ offset / 4 → g.end ≡ offset / 4 + count / 4 → 0 < count
    → length (merged_with g ss) ≡ stretches_of (with_bytes (over_of n ss) offset count) (4 * n)
merged_count n offset count g ss h o4 c4 within from to some =
    sym (ap (λ (l : List Bool). stretches_of l (4 * n)) (sym (merged_over n offset count g ss o4 c4 within from to))
    ∙ stretch_count n (merged_with g ss) (merged_apart 0 n g ss h (omega arith) (omega arith) (omega arith)))

pub merged_seen : (n offset count : ℕ) (g : Stretch) (ss : List Stretch) (over : List Bool) → over_of n ss ≡ over → AreApart 0 n ss → offset % 4 ≡ 0 → count % 4 ≡ 0 → offset + count ≤ 4 * length over
    → g.start ≡ offset / 4 → g.end ≡ offset / 4 + count / 4 → 0 < count → length (merged_with g ss) ≡ stretches_of (with_bytes over offset count) (4 * length over)
merged_seen n offset count g ss over is h o4 c4 within from to some =
    let long : length over ≡ n = ap length (sym is) ∙ length-over n ss in
    merged_count n offset count g ss h o4 c4 (omega arith) from to some ∙ ap (λ (l : List Bool). stretches_of (with_bytes l offset count) (4 * n)) is
    ∙ ap (λ (m : ℕ). stretches_of (with_bytes over offset count) (4 * m)) (sym long)

-- ---- the loop

-- what becomes of the stretches that are left, with one that waits or none
abbrev pub left_of : Option Stretch → List Stretch → List Stretch
left_of None ss = ss
left_of (Some g) ss = merged_with g ss

abbrev pub no_stretch : Stretch
no_stretch = record { start = 0; end = 0 }

-- only one stretch waits
pub one_waits : (w : Option Stretch) (g h : Stretch) → w ≡ Some g → w ≡ Some h → (g.start ≡ h.start) × (g.end ≡ h.end)
one_waits w g h e f =
    let same : g ≡ h = ap (λ (o : Option Stretch). match_some o g (λ (x : Stretch). x)) (sym e ∙ f) in
    (ap (λ (x : Stretch). x.start) same, ap (λ (x : Stretch). x.end) same)

-- nothing waits
pub left_none : (kept all d l : List Stretch) (w : Option Stretch) (x : Stretch) → kept ++ left_of w d ≡ all → w ≡ None → d ≡ x ∷ l → kept ++ (x ∷ l) ≡ all
left_none kept all d l w x h e step = sym (ap (λ (o : Option Stretch). kept ++ left_of o d) e ∙ ap (λ (r : List Stretch). kept ++ r) step) ∙ h

some_left : (kept all d l : List Stretch) (w : Option Stretch) (g x : Stretch) → kept ++ left_of w d ≡ all → w ≡ Some g → d ≡ x ∷ l → kept ++ merged_with g (x ∷ l) ≡ all
some_left kept all d l w g x h e step = sym (ap (λ (o : Option Stretch). kept ++ left_of o d) e ∙ ap (λ (r : List Stretch). kept ++ merged_with g r) step) ∙ h

-- the next lies before what waits
pub left_before : (kept all d l : List Stretch) (w : Option Stretch) (g x : Stretch) → kept ++ left_of w d ≡ all → w ≡ Some g → d ≡ x ∷ l → x.end < g.start
    → kept ++ (x ∷ merged_with g l) ≡ all
left_before kept all d l w g x h e step lt = sym (ap (λ (r : List Stretch). kept ++ r) (merged_before g x l lt)) ∙ some_left kept all d l w g x h e step

-- the next lies behind it
pub left_behind : (kept all d l : List Stretch) (w : Option Stretch) (g x : Stretch) → kept ++ left_of w d ≡ all → w ≡ Some g → d ≡ x ∷ l → g.start ≤ x.end → g.end < x.start
    → kept ++ (g ∷ x ∷ l) ≡ all
left_behind kept all d l w g x h e step le lt = sym (ap (λ (r : List Stretch). kept ++ r) (merged_behind g x l le lt)) ∙ some_left kept all d l w g x h e step

-- the next meets or touches it
pub left_joined : (kept all d l : List Stretch) (w : Option Stretch) (g x : Stretch) → kept ++ left_of w d ≡ all → w ≡ Some g → d ≡ x ∷ l → g.start ≤ x.end → x.start ≤ g.end
    → kept ++ merged_with (joined g x) l ≡ all
left_joined kept all d l w g x h e step le ge = sym (ap (λ (r : List Stretch). kept ++ r) (merged_joined g x l le ge)) ∙ some_left kept all d l w g x h e step

-- none is left
pub left_last : (kept all d : List Stretch) (w : Option Stretch) (g : Stretch) → kept ++ left_of w d ≡ all → w ≡ Some g → d ≡ [] → kept ++ g ∷ [] ≡ all
left_last kept all d w g h e step = sym (ap (λ (o : Option Stretch). kept ++ left_of o d) e ∙ ap (λ (r : List Stretch). kept ++ merged_with g r) step) ∙ h

-- one more is kept
pub keeps : (kept new l all : List Stretch) (x : Stretch) → kept ++ (x ∷ l) ≡ all → new ≡ kept ++ x ∷ [] → new ++ l ≡ all
keeps kept new l all x h e = ap (λ (r : List Stretch). r ++ l) e ∙ append_assoc kept (x ∷ []) l ∙ h

-- so there is room for it
pub room_for : (kept l all : List Stretch) (x : Stretch) → kept ++ (x ∷ l) ≡ all → length all ≤ 64 → length kept < 64
room_for kept l all x h few =
    let a = length-append kept (x ∷ l) in
    let b = ap length h in
    omega arith

-- none is left, and nothing waits
pub left_done : (kept all d : List Stretch) (w : Option Stretch) → kept ++ left_of w d ≡ all → w ≡ None → d ≡ [] → kept ≡ all
left_done kept all d w h e step = sym (append-nil kept) ∙ sym (ap (λ (o : Option Stretch). kept ++ left_of o d) e ∙ ap (λ (r : List Stretch). kept ++ r) step) ∙ h
