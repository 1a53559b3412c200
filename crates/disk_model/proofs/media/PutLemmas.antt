-- For `data_lies_where_it_is_put`. Bytes that are put over others stand at their places.
use Rattle.std.proofs.Common.{◌≡◌, ◌&&◌, ℕ, zero, suc, ◌+◌, ◌-◌, ◌<◌, ◌≤◌, Bool, true, false, List, [], ◌∷◌, ◌++◌, length, take, drop, refl, ap, ◌∙◌}
use Rattle.std.proofs.{Common.{arith, length-append}, lemmas.{Bool.Decides.nat_tests, List.{length-take-le}}}
use Rattle.std.specs.Prelude.{nat_le, nat_lt, if◌then◌else◌, slice_get}
use Rattle.disk_model.specs.{Chunks.put, Puts.LieWherePut}

in_front : (xs ys : List ℕ) (i : ℕ) → i < length xs → slice_get (xs ++ ys) i ≡ slice_get xs i
in_front [] ys i below = absurd (omega arith)
in_front (x ∷ xs) ys zero below = refl
in_front (x ∷ xs) ys (suc i) below = in_front xs ys i (omega arith)

behind : (xs ys : List ℕ) (i j : ℕ) → j ≡ length xs + i → slice_get (xs ++ ys) j ≡ slice_get ys i
behind [] ys i j is = ap (slice_get ys) (let e : j ≡ i = omega arith in e)
behind (x ∷ xs) ys i zero is = absurd (omega arith)
behind (x ∷ xs) ys i (suc j) is = behind xs ys i j (omega arith)

in_taken : (n : ℕ) (xs : List ℕ) (i : ℕ) → i < n → slice_get (take n xs) i ≡ slice_get xs i
in_taken zero xs i below = absurd (omega arith)
in_taken (suc n) [] i below = refl
in_taken (suc n) (x ∷ xs) zero below = refl
in_taken (suc n) (x ∷ xs) (suc i) below = in_taken n xs i (omega arith)

in_dropped : (n : ℕ) (xs : List ℕ) (i j : ℕ) → j ≡ n + i → slice_get (drop n xs) i ≡ slice_get xs j
in_dropped zero xs i j is = ap (slice_get xs) (let e : i ≡ j = omega arith in e)
in_dropped (suc n) [] i j is = refl
in_dropped (suc n) (x ∷ xs) i zero is = absurd (omega arith)
in_dropped (suc n) (x ∷ xs) i (suc j) is = in_dropped n xs i j (omega arith)

put_at : (xs ys : List ℕ) (at i : ℕ) (from within : Bool) → nat_le at i ≡ from → nat_lt i (at + length ys) ≡ within → at + length ys ≤ length xs → slice_get (put xs at ys) i ≡ (if from && within then slice_get ys (i - at) else slice_get xs i)
put_at xs ys at i true true low high fits =
    let from : at ≤ i = grind (arith, nat_tests, low) in
    let below : i < at + length ys = grind (arith, nat_tests, high) in
    let front : length (take at xs) ≡ at = length-take-le at xs (omega arith) in
    let long : length (take at xs ++ ys) ≡ at + length ys = length-append (take at xs) ys ∙ ap (λ n. n + length ys) front in
    let begins : i < length (take at xs ++ ys) = omega (arith, long, below) in
    let place : i ≡ length (take at xs) + (i - at) = omega (arith, front, from) in
    in_front (take at xs ++ ys) (drop (at + length ys) xs) i begins ∙ behind (take at xs) ys (i - at) i place
put_at xs ys at i true false low high fits =
    let above : at + length ys ≤ i = grind (arith, nat_tests, high) in
    let front : length (take at xs) ≡ at = length-take-le at xs (omega arith) in
    let long : length (take at xs ++ ys) ≡ at + length ys = length-append (take at xs) ys ∙ ap (λ n. n + length ys) front in
    let place : i ≡ length (take at xs ++ ys) + (i - (at + length ys)) = omega (arith, long, above) in
    let there : i ≡ at + length ys + (i - (at + length ys)) = omega (arith, above) in
    behind (take at xs ++ ys) (drop (at + length ys) xs) (i - (at + length ys)) i place ∙ in_dropped (at + length ys) xs (i - (at + length ys)) i there
put_at xs ys at i false within low high fits =
    let before : i < at = grind (arith, nat_tests, low) in
    let front : length (take at xs) ≡ at = length-take-le at xs (omega arith) in
    let long : length (take at xs ++ ys) ≡ at + length ys = length-append (take at xs) ys ∙ ap (λ n. n + length ys) front in
    let begins : i < length (take at xs ++ ys) = omega (arith, long, before) in
    let early : i < length (take at xs) = omega (arith, front, before) in
    in_front (take at xs ++ ys) (drop (at + length ys) xs) i begins ∙ in_front (take at xs) ys i early ∙ in_taken at xs i before

pub lie_where_put : LieWherePut
lie_where_put xs ys at i fits = put_at xs ys at i (nat_le at i) (nat_lt i (at + length ys)) refl refl fits
