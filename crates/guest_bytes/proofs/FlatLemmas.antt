-- What writing bytes one after another leaves of a block.
use Rattle.std.proofs.Common.{◌≡◌, ℕ, suc, ◌+◌, ◌-◌, ◌≤◌, List, [], ◌∷◌, ◌++◌, length, take, drop, set, sym, ap, ◌∙◌, arith, append_assoc}
use Rattle.std.proofs.lemmas.List.{drop-set-lt, take_more_set, take-append-drop, length-set}
use Rattle.guest_bytes.specs.{Guest.singles_from, Flat.{written_by, overwritten}}

-- bytes written in order from a place on are there, and all others are as they were
pub written_run : (base start : ℕ) (bytes old : List ℕ) → start + length bytes ≤ length old
    → written_by base (singles_from (base + start) bytes) old ≡ take start old ++ (bytes ++ drop (start + length bytes) old)
written_run base start [] old room = let same : start + 0 ≡ start = omega arith in rw same (sym (take-append-drop start old))
written_run base start (byte ∷ bytes) old room =
    let first = set old start byte in
    let place : base + start - base ≡ start = omega arith in
    let next : base + start + 1 ≡ base + (start + 1) = omega arith in
    let many : start + 1 + length bytes ≡ start + suc (length bytes) = omega arith in
    let before : take (start + 1) first ≡ take start old ++ byte ∷ [] = take_more_set old start byte (omega arith) in
    let after : drop (start + 1 + length bytes) first ≡ drop (start + 1 + length bytes) old = drop-set-lt (start + 1 + length bytes) old start byte (omega arith) in
    let on = written_run base (start + 1) bytes first (omega (arith, length-set old start byte)) in
    let end : take (start + 1) first ++ (bytes ++ drop (start + 1 + length bytes) first) ≡ take start old ++ (byte ∷ bytes ++ drop (start + suc (length bytes)) old) =
    rw (before, after, many) (append_assoc (take start old) (byte ∷ []) (bytes ++ drop (start + suc (length bytes)) old)) in
    ap (λ n. written_by base (singles_from (base + start + 1) bytes) (set old n byte)) place ∙ ap (λ n. written_by base (singles_from n bytes) first) next ∙ on ∙ end

pub put_is : (base at start : ℕ) (bytes old : List ℕ) → start ≡ at - base → base ≤ at → start + length bytes ≤ length old → overwritten old start bytes ≡ written_by base (singles_from at bytes) old
put_is base at start bytes old is above room =
    let there : base + start ≡ at = omega arith in
    append_assoc (take start old) bytes (drop (start + length bytes) old)
    ∙ sym (ap (λ n. written_by base (singles_from n bytes) old) (sym there) ∙ written_run base start bytes old room)
