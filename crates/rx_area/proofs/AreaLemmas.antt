-- What a write into one row leaves of the others, and what that row is then.
use Rattle.std.proofs.Common.{◌≡◌, ℕ, ◌+◌, ◌-◌, ◌*◌, ◌<◌, ◌≤◌, List, ◌++◌, length, take, drop, refl, sym, ap, subst, ◌∙◌, arith, inl, inr}
use Rattle.std.proofs.{Math.Seq.{take-append-add}, lemmas.List.{append_assoc, length-append, length-drop, length-take, drop-append-le, drop-drop}}
use Rattle.std.proofs.lemmas.{List.{drop-take, take-take}, Slice.{take-put_mid_below, drop-put_mid}, Bool.cases_lt}
use borrow.Rule.Slice.PartMut.{put_mid}
use Rattle.fis_view.specs.declared.view.Fis.{Fis}
use Rattle.rx_area.specs.Area.{LeavesOthers, after_post, offset_of, overwritten, posted_at, posted_bytes, row_after, row_of, start_of}

-- a row that ends before the write begins
row_below : (start count other : ℕ) (old part : List ℕ) → 256 * other + 256 ≤ start → start ≤ length old → row_of (put_mid start count old part) other ≡ row_of old other
row_below start count other old part before inside =
    sym (drop-take (256 * other) 256 (put_mid start count old part)) ∙ ap (drop (256 * other)) (take-put_mid_below start count old part (256 * other + 256) before inside) ∙ drop-take (256 * other) 256 old

-- a row that begins after the write ends
row_above : (start count other : ℕ) (old part : List ℕ) → start + count ≤ 256 * other → start ≤ length old → length part ≡ count → row_of (put_mid start count old part) other ≡ row_of old other
row_above start count other old part after inside long = ap (take 256) (drop-put_mid start count old part (256 * other) after inside long)

-- a write within the row of dev
pub rows_stay : (dev start count : ℕ) (old part : List ℕ) → 256 * dev ≤ start → start + count ≤ 256 * dev + 256 → start ≤ length old → length part ≡ count
    → LeavesOthers dev old (put_mid start count old part)
rows_stay dev start count old part low high inside long = λ other apart.
    elim (cases_lt other dev) [
      | inl below ↦ row_below start count other old part (omega arith) inside
      | inr above ↦ row_above start count other old part (omega (arith, above, apart)) inside long
    ]

-- the row itself
row_written : (dev at : ℕ) (old bytes : List ℕ) → at + length bytes ≤ 256 → 256 * dev + at ≤ length old → row_of (overwritten old (256 * dev + at) bytes) dev ≡ overwritten (row_of old dev) at bytes
row_written dev at old bytes fits inside =
    let b : ℕ = 256 * dev in
    let n : ℕ = length bytes in
    let m : ℕ = 256 - (at + n) in
    let row : List ℕ = drop b old in
    let rest : List ℕ = drop (b + at + n) old in
    let front : List ℕ = take at row ++ bytes in
    let within : b ≤ length (take (b + at) old) = omega (arith, length-take (b + at) old) in
    let first : drop b (overwritten old (b + at) bytes) ≡ front ++ rest =
    ap (drop b) (append_assoc (take (b + at) old) bytes rest) ∙ drop-append-le b (take (b + at) old) (bytes ++ rest) within
    ∙ ap (λ (x : List ℕ). x ++ (bytes ++ rest)) (drop-take b at old) ∙ sym (append_assoc (take at row) bytes rest) in
    let long : 256 ≡ length front + m = omega (arith, length-append (take at row) bytes, length-take at row, length-drop b old) in
    let ends : take m rest ≡ drop (at + n) (take 256 row) =
    (let e : b + at + n ≡ b + (at + n) = omega arith in ap (λ (k : ℕ). take m (drop k old)) e)
    ∙ ap (take m) (sym (drop-drop (at + n) b old)) ∙ sym (drop-take (at + n) m row)
    ∙ (let e : at + n + m ≡ 256 = omega arith in ap (λ (k : ℕ). drop (at + n) (take k row)) e) in
    ap (take 256) first ∙ ap (λ (k : ℕ). take k (front ++ rest)) long ∙ take-append-add front rest m
    ∙ ap (λ (x : List ℕ). x ++ bytes ++ take m rest) (sym (take-take at 256 row (omega arith))) ∙ ap (λ (x : List ℕ). take at (take 256 row) ++ bytes ++ x) ends

put_is : (start k : ℕ) (old part : List ℕ) → k ≡ length part → put_mid start k old part ≡ overwritten old start part
put_is start k old part is =
    ap (λ (x : List ℕ). take start old ++ (part ++ x)) (drop-drop k start old) ∙ sym (append_assoc (take start old) part (drop (start + k) old)) ∙ ap (λ (i : ℕ). take start old ++ part ++ drop (start + i) old) is

-- a write from its place at on
pub row_then : (dev start k at : ℕ) (old part bytes : List ℕ) → start ≡ 256 * dev + at → k ≡ length bytes → part ≡ bytes → at + length bytes ≤ 256 → start ≤ length old → row_of (put_mid start k old part) dev ≡ overwritten (row_of old dev) at bytes
row_then dev start k at old part bytes begin long is fits inside =
    ap (λ (x : List ℕ). row_of (put_mid start k old x) dev) is ∙ ap (λ (x : List ℕ). row_of x dev) (put_is start k old bytes long)
    ∙ ap (λ (s : ℕ). row_of (overwritten old s bytes) dev) begin ∙ row_written dev at old bytes fits (omega arith)

-- a FIS that fits its place is posted to the row of its device
module _ (dev : ℕ) (fis : Fis) (area : List ℕ) (low : dev < 16) (long : length area ≡ 4096) (fits : offset_of (posted_at fis) + length (posted_bytes fis) ≤ 256) where
  posts : put_mid (start_of dev (posted_at fis)) (length (posted_bytes fis)) area (posted_bytes fis) ≡ after_post area dev fis
  posts = put_is (start_of dev (posted_at fis)) (length (posted_bytes fis)) area (posted_bytes fis) refl

  pub posted_own : row_of (after_post area dev fis) dev ≡ row_after (row_of area dev) fis
  posted_own =
      ap (λ (xs : List ℕ). row_of xs dev) (sym posts)
      ∙ row_then dev (start_of dev (posted_at fis)) (length (posted_bytes fis)) (offset_of (posted_at fis)) area (posted_bytes fis) (posted_bytes fis) refl refl refl fits (omega (arith, long, low, fits))

  pub posted_others : LeavesOthers dev area (after_post area dev fis)
  posted_others =
      subst (λ (xs : List ℕ). LeavesOthers dev area xs) posts
      (rows_stay dev (start_of dev (posted_at fis)) (length (posted_bytes fis)) area (posted_bytes fis) (omega arith) (omega (arith, fits)) (omega (arith, long, low, fits)) refl)
