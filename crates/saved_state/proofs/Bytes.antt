-- Words as bytes, one more of them.
use Rattle.std.proofs.Common.{◌≡◌, ◌<◌, ◌+◌, ◌*◌, ◌%◌, ◌^◌, ◌∙◌, ◌++◌, ℕ, List, [], ◌∷◌, length, take, drop, get_or, refl, sym, ap, subst, append_assoc, arith}
use Rattle.std.specs.Int.{to_le_bytes, w64}
use Rattle.std.proofs.lemmas.List.{take-append-drop, drop-drop, take_more}
use Rattle.saved_state.specs.Bytes.{AreWords, bytes_of}
use Rattle.saved_state.proofs.All.{each-append}

pub bytes_of-append : (xs ys : List ℕ) → bytes_of (xs ++ ys) ≡ bytes_of xs ++ bytes_of ys
bytes_of-append [] ys = refl
bytes_of-append (x ∷ xs) ys = ap (λ r. to_le_bytes w64 x ++ r) (bytes_of-append xs ys) ∙ sym (append_assoc (to_le_bytes w64 x) (bytes_of xs) (bytes_of ys))

pub one_word : (w : ℕ) → bytes_of (w ∷ []) ≡ to_le_bytes w64 w
one_word w = refl

pub bytes_of-more : (words : List ℕ) (i : ℕ) (w : ℕ) → i < length words → get_or words i 0 ≡ w
    → bytes_of (take (i + 1) words) ≡ bytes_of (take i words) ++ to_le_bytes w64 w
bytes_of-more words i w low is =
    ap bytes_of (take_more words i 0 low) ∙ ap (λ n. bytes_of (take i words ++ (n ∷ []))) is
    ∙ bytes_of-append (take i words) (w ∷ []) ∙ ap (λ r. bytes_of (take i words) ++ r) (one_word w)

pub words-more : (words : List ℕ) (i : ℕ) (w : ℕ) → i < length words → get_or words i 0 ≡ w → w < 2 ^ 64
    → AreWords (take i words) → AreWords (take (i + 1) words)
words-more words i w low is small are =
    let P : List ℕ → Type 0 = AreWords in
    subst P (sym (take_more words i 0 low ∙ ap (λ n. take i words ++ (n ∷ [])) is)) (each-append (λ n. n < 2 ^ 64) (take i words) w are small)

-- eight bytes, and those behind them
pub before : (bytes : List ℕ) (at : ℕ) → take 8 (drop at bytes) ++ drop (at + 8) bytes ≡ drop at bytes
before bytes at = ap (λ r. take 8 (drop at bytes) ++ r) (sym (drop-drop 8 at bytes)) ∙ take-append-drop 8 (drop at bytes)

pub long : (words : List ℕ) → length (bytes_of words) % 8 ≡ 0
long [] = refl
long (w ∷ words) = omega (arith, long words)

-- the last word that is left to take off, and those behind it
pub one_before : (bytes : List ℕ) (words : List ℕ) (left : ℕ) (w : ℕ) → drop (8 * (left + 1)) bytes ≡ bytes_of words
    → to_le_bytes w64 w ≡ take 8 (drop (8 * left) bytes) → drop (8 * left) bytes ≡ bytes_of (w ∷ words)
one_before bytes words left w behind is =
    let at : 8 * (left + 1) ≡ 8 * left + 8 = omega arith in
    sym (before bytes (8 * left)) ∙ ap (λ r. take 8 (drop (8 * left) bytes) ++ r) (ap (λ n. drop n bytes) (sym at) ∙ behind)
    ∙ ap (λ r. r ++ bytes_of words) (sym is)
