use Rattle.std.proofs.{Common.{◌≡◌, ℕ, ◌+◌, ◌<◌, ◌≤◌, List, [], ◌∷◌, ◌++◌, length, take, drop, refl, sym, ◌∙◌, ap, subst, arith, suc}, Math.ListN.set}
use Rattle.std.proofs.{Math.ListN.{drop_of_length-le}, lemmas.List.{take_more_set, set_split, FromFn.{map-range_with_len_more}}}
use Rattle.disk_pages.specs.Bytes.{byte_of, bytes_of, closed}

-- one more byte of a page
bytes_of_more : (words : ℕ → ℕ) (k : ℕ) → bytes_of words (k + 1) ≡ bytes_of words k ++ byte_of words k ∷ []
unfolding bytes_of
bytes_of_more words k = map-range_with_len_more (byte_of words) 0 k k (omega arith)

pub no_bytes : (words : ℕ → ℕ) → [] ≡ bytes_of words 0
unfolding bytes_of
no_bytes words = refl

-- byte k, written behind those before it
pub next_byte : (words : ℕ → ℕ) (page : List ℕ) (k byte : ℕ) → k < length page → take k page ≡ bytes_of words k →
    byte ≡ byte_of words k → take (k + 1) (set page k byte) ≡ bytes_of words (k + 1)
next_byte words page k byte within before is =
    rw (take_more_set page k byte within, before, is, bytes_of_more words k) refl

-- a byte written behind the first n
pub marked : (page bytes : List ℕ) (n next byte : ℕ) → n + 1 ≡ next → n < length page → take n page ≡ bytes →
    take next (set page n byte) ≡ bytes ++ byte ∷ []
marked page bytes n next byte e within before =
    ap (λ m. take m (set page n byte)) (sym e) ∙ take_more_set page n byte within ∙ ap (λ b. b ++ byte ∷ []) before

-- the last byte of a page
pub set_last : (page : List ℕ) (n byte : ℕ) → length page ≡ n + 1 → set page n byte ≡ take n page ++ byte ∷ []
set_last page n byte long =
    let past : drop (suc n) page ≡ [] = drop_of_length-le page {i = suc n} (omega (arith, long)) in
    set_split page n byte (omega (arith, long)) ∙ ap (λ rest. take n page ++ byte ∷ rest) past

-- a page of words whose last word is the mark and the checksum
pub whole_page : (words : ℕ → ℕ) (page last : List ℕ) (k : ℕ) → 510 ≤ k → k ≤ 510 → length page ≡ 512 →
    take k page ≡ bytes_of words k → last ≡ closed (take 511 (set page 510 0xA5)) →
    last ≡ closed (bytes_of words 510 ++ 0xA5 ∷ [])
whole_page words page last k least most long before is =
    let at : k ≡ 510 = omega (arith, least, most) in
    let P : ℕ → Type 0 = λ m. take m page ≡ bytes_of words m in
    let first : take 510 page ≡ bytes_of words 510 = subst P at before in
    is ∙ ap closed (marked page (bytes_of words 510) 510 511 0xA5 refl (omega (arith, long)) first)
