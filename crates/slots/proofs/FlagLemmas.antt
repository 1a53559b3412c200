-- The flags of stretches.
use Rattle.std.proofs.{Common.{◌≡◌, ℕ, ◌<◌, Bool, false, List, [], get_or, replicate, length, sym, ◌∙◌, arith}, lemmas.List.same_lists}
use Rattle.std.proofs.lemmas.List.{length-replicate, get_or-replicate, FromFn.{length-map-range_with_len, get_or-map-range_with_len}}
use Rattle.slots.specs.{declared.moved.Stretch.Stretch, Stretches.{in_one, over_of}}

pub length-over : (n : ℕ) (ss : List Stretch) → length (over_of n ss) ≡ n
length-over n ss = length-map-range_with_len (in_one ss) 0 n

pub get-over : (n : ℕ) (ss : List Stretch) (k : ℕ) (d : Bool) → k < n → get_or (over_of n ss) k d ≡ in_one ss k
get-over n ss k d h = get_or-map-range_with_len (in_one ss) 0 n k k d h (omega arith)

-- no stretch
pub over_nothing : (n : ℕ) → over_of n [] ≡ replicate n false
over_nothing n =
    let lf = length-over n [] in
    same_lists (over_of n []) (replicate n false) (lf ∙ sym (length-replicate n false)) (λ j d hj.
    let jn : j < n = omega (arith, lf) in get-over n [] j d jn ∙ sym (get_or-replicate n j false d jn))
