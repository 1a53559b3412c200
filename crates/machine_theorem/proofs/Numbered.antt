-- The bytes that are written are numbered in what the caller gave.
use Rattle.std.proofs.Common.{◌≡◌, ◌≤◌, ◌+◌, ◌-◌, ℕ, Bool, true, false, List, [], ◌++◌, append_assoc, length, take, drop, refl, sym, ap, ◌∙◌, arith}
use Rattle.std.proofs.{Math.Seq.{drop-append-add}, lemmas.{Bool.{leb-true}, List.{drop-append-le, drop-drop, length-drop, length-take-le}}}
use Rattle.std.proofs.lemmas.List.{take-append-le}
use Rattle.std.specs.Prelude.{nat_le, if◌then◌else◌}
use Rattle.machine_theorem.specs.Parts.{BytesAreGiven}

numbered : (sent part rest given : List ℕ) (k len : ℕ) → given ≡ sent ++ part ++ rest → k + len ≤ length part → take len (drop k part) ≡ take len (drop (length sent + k) given)
numbered sent part rest given k len is few =
    let long = length-drop k part in
    sym (take-append-le len (drop k part) rest (omega (arith, long, few)))
    ∙ ap (λ (l : List ℕ). take len l) (sym (drop-append-le k part rest (omega (arith, few))) ∙ sym (drop-append-add sent (part ++ rest) k) ∙ ap (λ (l : List ℕ). drop (length sent + k) l) (sym (is ∙ append_assoc sent part rest)))

numbered_in : (fis sent rest given : List ℕ) (from len : ℕ) (b : Bool) → nat_le (from + len) (length fis) ≡ b → given ≡ sent ++ drop 4 fis ++ rest → 4 ≤ from
    → (if b then take len (drop from fis) else []) ≡ take (length (if b then take len (drop from fis) else [])) (drop (length sent + (from - 4)) given)
numbered_in fis sent rest given from len false e is behind = refl
numbered_in fis sent rest given from len true e is behind =
    let fits : from + len ≤ length fis = leb-true (from + len) (length fis) e in
    let tail = length-drop from fis in
    let own : length (take len (drop from fis)) ≡ len = length-take-le len (drop from fis) (omega (arith, tail, fits)) in
    let at : 4 + (from - 4) ≡ from = omega (arith, behind) in
    let part = length-drop 4 fis in
    let here : drop from fis ≡ drop (from - 4) (drop 4 fis) = ap (λ (n : ℕ). drop n fis) (sym at) ∙ sym (drop-drop (from - 4) 4 fis) in
    ap (λ (l : List ℕ). take len l) here ∙ numbered sent (drop 4 fis) rest given (from - 4) len is (omega (arith, part, fits, behind))
    ∙ ap (λ (n : ℕ). take n (drop (length sent + (from - 4)) given)) (sym own)

pub bytes_are_given : BytesAreGiven
bytes_are_given l fis from len next behind = numbered_in fis l.sent next.rest l.given from len (nat_le (from + len) (length fis)) refl next.given behind
