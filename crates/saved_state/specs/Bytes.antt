-- Words as bytes: the word on top first, and of each the lowest byte first.
use Rattle.std.specs.{Prelude.{◌≡◌, ℕ, ◌<◌, ◌^◌, List, [], ◌∷◌, ◌++◌, Result, Ok, Err}, Int.{from_le_bytes, to_le_bytes, w64}, List.AllByRecursion}
use Rattle.std.proofs.{Common.{ap, sym, take, ◌∙◌, refl}, lemmas.Nat.{from_le_bytes-to_le_bytes_8}}
use Rattle.saved_state.specs.declared.words.RestoreError.{RestoreError, TheVariants.OutOfMemory}

abbrev pub bytes_of : List ℕ → List ℕ
bytes_of [] = []
bytes_of (word ∷ words) = to_le_bytes w64 word ++ bytes_of words

-- each has 64 bits
abbrev pub AreWords : List ℕ → Type 0
AreWords = AllByRecursion (λ word. word < 2 ^ 64)

-- bytes are the bytes of these words, or of none
abbrev pub ReadsBytes : List ℕ → Result (List ℕ) RestoreError → Type 0
ReadsBytes bytes (Ok words) = (bytes ≡ bytes_of words) × AreWords words
ReadsBytes bytes (Err OutOfMemory) = Unit {0}
ReadsBytes bytes (Err other) = (words : List ℕ) → bytes ≡ bytes_of words → ⊥

-- bytes are those of one list of words
pub words_apart : (xs ys : List ℕ) → AreWords xs → AreWords ys → bytes_of xs ≡ bytes_of ys → xs ≡ ys
words_apart [] [] k l e = refl
words_apart [] (y ∷ ys) k l e = absurd (cc)
words_apart (x ∷ xs) [] k l e = absurd (cc)
words_apart (x ∷ xs) (y ∷ ys) k l e =
    let rest : bytes_of xs ≡ bytes_of ys = cc in
    let eight : to_le_bytes w64 x ≡ to_le_bytes w64 y = ap (take 8) e in
    let same : x ≡ y = sym (from_le_bytes-to_le_bytes_8 x k.0) ∙ ap (from_le_bytes w64) eight ∙ from_le_bytes-to_le_bytes_8 y l.0 in
    let behind : xs ≡ ys = words_apart xs ys k.1 l.1 rest in
    cc
