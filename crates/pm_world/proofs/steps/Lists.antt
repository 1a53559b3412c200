-- For `World::run` and `paths_go_on`. Elements of a list after a write, and the frames of a connection in joined lists.
use Rattle.std.proofs.Common.{◌≡◌, ◌≢◌, ℕ, zero, suc, List, [], ◌∷◌, ◌++◌, Some, None, Bool, true, false, cond, refl, sym, ap, map}
use Rattle.std.specs.Prelude.{slice_get, slice_set, ◌&&◌, ◌==◌, if◌then◌else◌}
use Rattle.std.proofs.lemmas.{Option.same_Some, List.map-append, List.Elements.filter-append}
use Rattle.fis_view.specs.Frames.{Stamped, marked}
use Rattle.pm_world.specs.Traffic.{stamped, of_conn, all_marked}

pub slice_get-set_same : {X : Type 0} (xs : List X) (i : ℕ) (x y : X) → slice_get xs i ≡ Some x → slice_get (slice_set xs i y) i ≡ Some y
slice_get-set_same [] i x y h = absurd (cc)
slice_get-set_same (a ∷ xs) zero x y h = refl
slice_get-set_same (a ∷ xs) (suc i) x y h = slice_get-set_same xs i x y h

pub slice_get-set_other : {X : Type 0} (xs : List X) (i j : ℕ) (y : X) → j ≢ i → slice_get (slice_set xs i y) j ≡ slice_get xs j
slice_get-set_other [] i j y h = refl
slice_get-set_other (a ∷ xs) zero zero y h = absurd (h refl)
slice_get-set_other (a ∷ xs) zero (suc j) y h = refl
slice_get-set_other (a ∷ xs) (suc i) zero y h = refl
slice_get-set_other (a ∷ xs) (suc i) (suc j) y h = slice_get-set_other xs i j y (λ e. h (ap suc e))

pub slice_set-same : {X : Type 0} (xs : List X) (i : ℕ) (x : X) → slice_get xs i ≡ Some x → slice_set xs i x ≡ xs
slice_set-same [] i x h = refl
slice_set-same (a ∷ xs) zero x h = ap (λ b. b ∷ xs) (same_Some x a (sym h))
slice_set-same (a ∷ xs) (suc i) x h = ap (λ ys. a ∷ ys) (slice_set-same xs i x h)

pub stamped-append : (n c : ℕ) (xs ys : List Stamped) → stamped n c (xs ++ ys) ≡ stamped n c xs ++ stamped n c ys
stamped-append n c xs ys = simp (filter-append, map-append)

pub of_conn-append : (c : ℕ) (xs ys : List Stamped) → of_conn c (xs ++ ys) ≡ of_conn c xs ++ of_conn c ys
of_conn-append c xs ys = simp (filter-append, map-append)

pub all_marked-append : (n : ℕ) (xs ys : List (List ℕ)) → all_marked n (xs ++ ys) ≡ all_marked n xs ++ all_marked n ys
all_marked-append n xs ys = map-append (λ bytes. marked bytes n) xs ys

-- one frame, where it is of this port and where it is not
picked : (b : Bool) (f : Stamped) → map (λ (g : Stamped). g.bytes) (cond b (f ∷ []) []) ≡ cond b (f.bytes ∷ []) []
picked true f = refl
picked false f = refl

pub stamped-one : (n c : ℕ) (f : Stamped) → stamped n c (f ∷ []) ≡ (if f.stamp.port == n && f.stamp.conn == c then f.bytes ∷ [] else [])
stamped-one n c f = picked (f.stamp.port == n && f.stamp.conn == c) f

pub of_conn-one : (c : ℕ) (f : Stamped) → of_conn c (f ∷ []) ≡ (if f.stamp.conn == c then f.bytes ∷ [] else [])
of_conn-one c f = picked (f.stamp.conn == c) f

-- a list with no first element
pub none_first : {X : Type 0} (xs : List X) → slice_get xs 0 ≡ None → xs ≡ []
none_first [] h = refl
none_first (x ∷ xs) h = absurd (cc)
