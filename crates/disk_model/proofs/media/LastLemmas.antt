-- For `media_show_the_last_write`. A byte of a medium is that of the last write that has it.
use Rattle.std.proofs.Common.{◌≡◌, ◌&&◌, ◌*◌, ℕ, zero, suc, ◌+◌, ◌-◌, ◌<◌, ◌≤◌, Bool, true, false, List, [], ◌∷◌, ◌++◌, All, drop, length, take, refl}
use Rattle.std.proofs.{Common.{ap, subst, sym, ◌∙◌, arith, inl, inr}, lemmas.{Bool.{cases_eq, Decides.nat_tests}, Grind.common_steps}}
use Rattle.std.proofs.lemmas.List.{append-nil, take-append-drop, FromFn.{length-map-range_with_len}}
use Rattle.std.specs.Prelude.{nat_le, nat_lt, if◌then◌else◌, slice_get}
use Rattle.disk_model.specs.{Chunks.put, Disks.{opening_byte, opening_medium}, Last.{Covers, LieOn, Lies, NoneCovers, ShowsTheLast}, Ledger.Written}
use Rattle.disk_model.specs.Ledger.{medium_with, with_writes}
use Rattle.disk_model.proofs.{agreement.PlaceLemmas.{length-put}, media.PutLemmas.lie_where_put}

-- for the first one, and for the others
first_of : {X : Type 0} (P : X → Type 0) (x : X) (xs : List X) → All P (x ∷ xs) → P x
first_of P x xs all = all 0 x (omega arith)

rest_of : {X : Type 0} (P : X → Type 0) (x : X) (xs : List X) → All P (x ∷ xs) → All P xs
rest_of P x xs all k d below = all (suc k) d (omega (arith, below))

both_of : {X : Type 0} (P : X → Type 0) (x : X) (xs : List X) → P x → All P xs → All P (x ∷ xs)
both_of P x xs first rest zero d below = first
both_of P x xs first rest (suc k) d below = rest k d (omega (arith, below))

abbrev Avoids : ℕ → Written → Type 0
Avoids i w = Covers i w → ⊥

-- ## How long a medium is

-- a write without bytes leaves the medium
put_none : (xs : List ℕ) (at : ℕ) → put xs at [] ≡ xs
put_none xs at =
    let none : List ℕ = [] in
    let here : at + length none ≡ at = omega arith in
    ap (λ (n : ℕ). (take at xs ++ none) ++ drop n xs) here ∙ ap (λ (l : List ℕ). l ++ drop at xs) (append-nil (take at xs)) ∙ take-append-drop at xs

put_longer : (xs ys : List ℕ) (at : ℕ) → length xs ≤ length (put xs at ys)
put_longer xs ys at = grind (arith, common_steps)

put_within : (xs ys : List ℕ) (at : ℕ) → length (put xs at ys) ≤ length xs → 0 < length ys → at + length ys ≤ length xs
put_within xs ys at short some = grind (arith, common_steps, short, some)

put_as_long : (len : ℕ) (xs : List ℕ) (w : Written) → length xs ≡ len → Lies len w → length (put xs w.at w.bytes) ≡ len
put_as_long len xs w long lies = by_bytes w.bytes refl
  where
    by_bytes : (ys : List ℕ) → w.bytes ≡ ys → length (put xs w.at ys) ≡ len
    by_bytes [] is = ap length (put_none xs w.at) ∙ long
    by_bytes (y ∷ ys) is =
        let fits : w.at + length w.bytes ≤ len = lies (subst (λ (l : List ℕ). 0 < length l) (sym is) (omega arith)) in
        length-put xs (y ∷ ys) w.at (subst (λ (n : ℕ). w.at + length (y ∷ ys) ≤ n) (sym long) (subst (λ (l : List ℕ). w.at + length l ≤ len) is fits)) ∙ long

writes_longer : (medium : List ℕ) (writes : List Written) → length medium ≤ length (with_writes medium writes)
unfolding with_writes
writes_longer medium [] = omega arith
writes_longer medium (w ∷ later) =
    let here : length medium ≤ length (put medium w.at w.bytes) = put_longer medium w.bytes w.at in
    let there : length (put medium w.at w.bytes) ≤ length (with_writes (put medium w.at w.bytes) later) = writes_longer (put medium w.at w.bytes) later in
    omega (arith, here, there)

-- if a medium keeps its length, each write lies on it
lie_by_length : (len : ℕ) (medium : List ℕ) (writes : List Written) → length medium ≡ len → length (with_writes medium writes) ≡ len
    → All (Lies len) writes
unfolding with_writes
lie_by_length len medium [] long all = λ k d below. absurd (omega (arith, below))
lie_by_length len medium (w ∷ later) long all =
    let here : length medium ≤ length (put medium w.at w.bytes) = put_longer medium w.bytes w.at in
    let there : length (put medium w.at w.bytes) ≤ length (with_writes (put medium w.at w.bytes) later) = writes_longer (put medium w.at w.bytes) later in
    let same : length (put medium w.at w.bytes) ≡ len = omega (arith, here, there, long, all) in
    both_of (Lies len) w later
    (λ some. let fits : w.at + length w.bytes ≤ length medium = put_within medium w.bytes w.at (omega (arith, same, long)) some in omega (arith, fits, long))
    (lie_by_length len (put medium w.at w.bytes) later same all)

pub lie_on : (sectors : ℕ) (medium : List ℕ) (writes : List Written) → medium ≡ medium_with sectors writes → length medium ≡ 512 * sectors
    → LieOn sectors writes
lie_on sectors medium writes is long =
    lie_by_length (512 * sectors) (opening_medium sectors) writes (length-map-range_with_len opening_byte 0 (512 * sectors))
    (ap length (sym is) ∙ long)

-- ## What is there

-- what a write leaves at a place that is not its own
left_in : (medium : List ℕ) (w : Written) (i : ℕ) → w.at + length w.bytes ≤ length medium → (Covers i w → ⊥)
    → slice_get (put medium w.at w.bytes) i ≡ slice_get medium i
left_in medium w i fits not = lie_where_put medium w.bytes w.at i fits ∙ by_tests (nat_le w.at i) (nat_lt i (w.at + length w.bytes)) refl refl
  where
    by_tests : (low high : Bool) → nat_le w.at i ≡ low → nat_lt i (w.at + length w.bytes) ≡ high
        → (if low && high then slice_get w.bytes (i - w.at) else slice_get medium i) ≡ slice_get medium i
    by_tests true true low high = absurd (not (record { from = grind (arith, nat_tests, low); to = grind (arith, nat_tests, high) }))
    by_tests true false low high = refl
    by_tests false high low is = refl

left : (len : ℕ) (medium : List ℕ) (w : Written) (i : ℕ) → length medium ≡ len → Lies len w → (Covers i w → ⊥)
    → slice_get (put medium w.at w.bytes) i ≡ slice_get medium i
left len medium w i long lies not = elim (cases_eq (length w.bytes) 0) [
  | inl none ↦ ap (λ (l : List ℕ). slice_get (put medium w.at l) i) (is_empty w.bytes none) ∙ ap (λ (m : List ℕ). slice_get m i) (put_none medium w.at)
  | inr some ↦
      let fits : w.at + length w.bytes ≤ len = lies (omega (arith, some)) in
      left_in medium w i (omega (arith, fits, long)) not
]
  where
    is_empty : (ys : List ℕ) → length ys ≡ 0 → ys ≡ []
    is_empty [] h = refl
    is_empty (y ∷ ys) h = cc h

-- what it leaves at its own
own : (medium : List ℕ) (w : Written) (i : ℕ) → w.at + length w.bytes ≤ length medium → i < length w.bytes
    → slice_get (put medium w.at w.bytes) (w.at + i) ≡ slice_get w.bytes i
own medium w i fits below =
    lie_where_put medium w.bytes w.at (w.at + i) fits ∙ by_tests (nat_le w.at (w.at + i)) (nat_lt (w.at + i) (w.at + length w.bytes)) refl refl
  where
    by_tests : (low high : Bool) → nat_le w.at (w.at + i) ≡ low → nat_lt (w.at + i) (w.at + length w.bytes) ≡ high
        → (if low && high then slice_get w.bytes (w.at + i - w.at) else slice_get medium (w.at + i)) ≡ slice_get w.bytes i
    by_tests true true low high = ap (slice_get w.bytes) (let e : w.at + i - w.at ≡ i = omega arith in e)
    by_tests true false low high = let above : w.at + length w.bytes ≤ w.at + i = grind (arith, nat_tests, high) in absurd (omega (arith, above, below))
    by_tests false high low is = let before : w.at + i < w.at = grind (arith, nat_tests, low) in absurd (omega (arith, before))

-- later writes leave it
stays : (len i : ℕ) (medium : List ℕ) (later : List Written) → length medium ≡ len
    → All (Lies len) later → NoneCovers i later → slice_get (with_writes medium later) i ≡ slice_get medium i
unfolding with_writes
stays len i medium [] long lie none = refl
stays len i medium (w ∷ later) long lie none =
    stays len i (put medium w.at w.bytes) later (put_as_long len medium w long (first_of (Lies len) w later lie)) (rest_of (Lies len) w later lie)
    (rest_of (Avoids i) w later none) ∙ left len medium w i long (first_of (Lies len) w later lie) (first_of (Avoids i) w later none)

shows : (len i : ℕ) (medium : List ℕ) (before later : List Written) (w : Written) → length medium ≡ len
    → All (Lies len) (before ++ w ∷ later) → i < length w.bytes → NoneCovers (w.at + i) later
    → slice_get (with_writes medium (before ++ w ∷ later)) (w.at + i) ≡ slice_get w.bytes i
unfolding with_writes
shows len i medium [] later w long lie below none =
    let fits : w.at + length w.bytes ≤ length medium =
    let inside : w.at + length w.bytes ≤ len = first_of (Lies len) w later lie (omega (arith, below)) in omega (arith, long, inside) in
    stays len (w.at + i) (put medium w.at w.bytes) later (length-put medium w.bytes w.at fits ∙ long) (rest_of (Lies len) w later lie) none
    ∙ own medium w i fits below
shows len i medium (x ∷ before) later w long lie below none =
    shows len i (put medium x.at x.bytes) before later w (put_as_long len medium x long (first_of (Lies len) x (before ++ w ∷ later) lie))
    (rest_of (Lies len) x (before ++ w ∷ later) lie) below none

pub shows_the_last : ShowsTheLast
shows_the_last sectors i before later w lie below none =
    shows (512 * sectors) i (opening_medium sectors) before later w (length-map-range_with_len opening_byte 0 (512 * sectors)) lie below none
