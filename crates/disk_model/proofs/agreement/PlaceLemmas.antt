-- For `answers_each_command_once`. Bytes at their places.
use Rattle.std.proofs.Common.{◌≡◌, ℕ, ◌+◌, ◌-◌, ◌*◌, ◌≤◌, List, ◌++◌, length, take, drop, refl, ap, sym, ◌∙◌, arith, append_assoc, length-drop}
use Rattle.std.proofs.lemmas.List.{take-append-le, take-append-drop, drop-replicate, length-replicate, replicate-append-replicate, drop-take}
use Rattle.std.proofs.{lemmas.List.{drop-drop, length-take-le}, Math.Seq.{drop-append_seam, take-append_seam, drop-append-add, take-add, take-length}}
use Rattle.std.proofs.lemmas.Grind.{common_steps}
use Rattle.std.specs.Prelude.{replicate}
use Rattle.disk_model.specs.{Chunks.{put, sectors_at}, Between.{from_back, from_front}}

pub length-put : (xs ys : List ℕ) (at : ℕ) → at + length ys ≤ length xs → length (put xs at ys) ≡ length xs
length-put xs ys at fits = grind (arith, common_steps)

put_seam : (a z p : List ℕ) → put (a ++ z) (length a) p ≡ a ++ p ++ drop (length p) z
put_seam a z p = rw (take-append_seam a z, drop-append-add a z (length p)) refl

pub put_front : (s : List ℕ) (n k j : ℕ) → length s ≡ n → k + j ≤ n → put (from_front s n k) k (take j (drop k s)) ≡ from_front s n (k + j)
put_front s n k j is fits =
    let a : List ℕ = take k s in
    let z : List ℕ = replicate (n - k) 0 in
    let p : List ℕ = take j (drop k s) in
    let la : length (take k s) ≡ k = length-take-le k s (omega arith) in
    let lp : length (take j (drop k s)) ≡ j = length-take-le j (drop k s) (omega (arith, length-drop k s)) in
    let rest : drop (length p) z ≡ replicate (n - (k + j)) 0 = ap (λ i. drop i z) lp ∙ drop-replicate j (n - k) 0 ∙ ap (λ (i : ℕ). replicate i 0) (let e : n - k - j ≡ n - (k + j) = omega arith in e) in
    let begin : put (a ++ z) k p ≡ put (a ++ z) (length a) p = ap (λ i. put (a ++ z) i p) (sym la) in
    begin ∙ put_seam a z p ∙ ap (λ (xs : List ℕ). a ++ p ++ xs) rest ∙ ap (λ (xs : List ℕ). xs ++ replicate (n - (k + j)) 0) (sym (take-add k j s))

pub put_back : (s : List ℕ) (n k j : ℕ) → length s ≡ n → k + j ≤ n → put (from_back s n k) (n - (k + j)) (take j (drop (n - (k + j)) s)) ≡ from_back s n (k + j)
put_back s n k j is fits =
    let o = n - (k + j) in
    let d : List ℕ = drop (n - k) s in
    let a : List ℕ = replicate o 0 in
    let z : List ℕ = replicate j 0 in
    let p : List ℕ = take j (drop o s) in
    let far : n - k ≡ o + j = omega arith in
    let la : length a ≡ o = length-replicate o 0 in
    let lz : length z ≡ j = length-replicate j 0 in
    let lp : length p ≡ j = length-take-le j (drop o s) (omega (arith, length-drop o s)) in
    let split : replicate (n - k) 0 ≡ a ++ z = ap (λ (i : ℕ). replicate i 0) far ∙ sym (replicate-append-replicate o j 0) in
    let whole : replicate (n - k) 0 ++ d ≡ a ++ (z ++ d) = ap (λ (xs : List ℕ). xs ++ d) split ∙ append_assoc a z d in
    let rest : drop (length p) (z ++ d) ≡ d = ap (λ i. drop i (z ++ d)) (lp ∙ sym lz) ∙ drop-append_seam z d in
    let tail : d ≡ drop j (drop o s) = ap (λ i. drop i s) far ∙ sym (drop-drop j o s) in
    let joined : p ++ d ≡ drop o s = ap (λ (xs : List ℕ). p ++ xs) tail ∙ take-append-drop j (drop o s) in
    ap (λ (xs : List ℕ). put xs o p) whole ∙ ap (λ i. put (a ++ (z ++ d)) i p) (sym la) ∙ put_seam a (z ++ d) p ∙ ap (λ (xs : List ℕ). a ++ p ++ xs) rest ∙ append_assoc a p d ∙ ap (λ (xs : List ℕ). a ++ xs) joined

-- a chunk of the sectors, which all lie on the medium
pub chunk_of_sectors : (medium : List ℕ) (lba count from part : ℕ) → from + part ≤ count → 512 * (lba + count) ≤ length medium → sectors_at medium (lba + from) part ≡ take (512 * part) (drop (512 * from) (sectors_at medium lba count))
chunk_of_sectors medium lba count from part fits inside =
    let o = 512 * from in
    let j = 512 * part in
    let m = 512 * (count - from) - j in
    let x : List ℕ = drop (512 * lba) medium in
    let y : List ℕ = drop o x in
    let all : 512 * count ≡ o + (j + m) = omega arith in
    let ly : j ≤ length y = omega (arith, length-drop o x, length-drop (512 * lba) medium) in
    let cut : drop o (take (512 * count) x) ≡ take (j + m) y = ap (λ i. drop o (take i x)) all ∙ drop-take o (j + m) x in
    let lt : length (take j y) ≡ j = length-take-le j y ly in
    let low : j ≤ length (take j y) = omega arith in
    let again : take j (take j y ++ take m (drop j y)) ≡ take j y = take-append-le j (take j y) (take m (drop j y)) low ∙ ap (λ i. take i (take j y)) (sym lt) ∙ take-length (take j y) in
    let at : y ≡ drop (512 * (lba + from)) medium = drop-drop o (512 * lba) medium ∙ ap (λ i. drop i medium) (let e : 512 * lba + 512 * from ≡ 512 * (lba + from) = omega arith in e) in
    sym (ap (take j) cut ∙ ap (take j) (take-add j m y) ∙ again ∙ ap (take j) at)
