-- Digits that are decoded pair by pair.
use Rattle.std.proofs.Common.{◌≡◌, ℕ, ◌+◌, ◌*◌, ◌%◌, ◌==◌, Bool, true, false, List, [], ◌∷◌, ◌++◌, length, slice_index, Option, Some, None, Result}
use Rattle.std.proofs.{Common.{Ok, Err, refl, sym, ap, ◌∙◌, arith, inl, inr, length-append}, lemmas.{Bool.cases_Bool, List.{append-nil}}}
use Rattle.std.specs.Prelude.{IsErr, IsOk, IsTrue, is_err, is_ok, MatchResult}
use Rattle.hex.specs.Hex.{decode_of, decode_pairs, decode_sized, digit_or_error, hex_digit_value, pair_value, ◌>>=◌}
use Rattle.hex.specs.declared.error.FromHexError.{FromHexError}
use Rattle.hex.proofs.{Pairs.{cons_byte, prepend, decode_pairs-ok_pair, decode_pairs-err_pair, prepend-cons_byte}, HexLemmas.{decode_of-even}}

-- ---- two digits, wherever they stand

-- what two digits answer there, by their values
abbrev pair_at : ℕ → ℕ → ℕ → Option ℕ → Option ℕ → Result ℕ FromHexError
pair_at i high low h l = digit_or_error high i h >>= (λ x. digit_or_error low (i + 1) l >>= (λ y. Ok (x * 16 + y)))

ok_anywhere : (i j high low byte : ℕ) (h l : Option ℕ) → pair_at i high low h l ≡ Ok byte → pair_at j high low h l ≡ Ok byte
ok_anywhere i j high low byte None l e = absurd (cc)
ok_anywhere i j high low byte (Some x) None e = absurd (cc)
ok_anywhere i j high low byte (Some x) (Some y) e = e

err_anywhere : (i j high low : ℕ) (e : FromHexError) (h l : Option ℕ) → pair_at i high low h l ≡ Err e → IsErr (pair_at j high low h l)
err_anywhere i j high low e None l is = refl
err_anywhere i j high low e (Some x) None is = refl
err_anywhere i j high low e (Some x) (Some y) is = absurd (cc)

-- two digits alone
alone_ok : (high low byte : ℕ) → pair_value high low 0 ≡ Ok byte → decode_sized (high ∷ low ∷ []) 1 ≡ Ok (byte ∷ [])
unfolding decode_pairs
alone_ok high low byte is = decode_pairs-ok_pair 0 high low byte [] is

alone_err : (high low : ℕ) (e : FromHexError) → pair_value high low 0 ≡ Err e → decode_sized (high ∷ low ∷ []) 1 ≡ Err e
alone_err high low e is = decode_pairs-err_pair 0 high low e [] is

-- what the kit's call says about two digits
abbrev pub Reads : ℕ → ℕ → Result (Unit {0}) FromHexError → List ℕ → Type 0
Reads high low r out = MatchResult (decode_sized (high ∷ low ∷ []) 1) (λ bytes. (r ≡ Ok tt) × (out ≡ bytes)) (λ e. r ≡ Err e)

reads_ok : (high low : ℕ) (p : Result ℕ FromHexError) (r : Result (Unit {0}) FromHexError) (out : List ℕ) → pair_value high low 0 ≡ p → Reads high low r out → r ≡ Ok tt
    → (i : ℕ) → pair_value high low i ≡ Ok (slice_index out 0)
reads_ok high low (Ok byte) r out is reads ok i =
    let out_is = (rw (alone_ok high low byte is) at reads).1 in
    ok_anywhere 0 i high low (slice_index out 0) (hex_digit_value high) (hex_digit_value low) (is ∙ ap (λ (xs : List ℕ). Ok (slice_index xs 0)) (sym out_is))
reads_ok high low (Err e) r out is reads ok i =
    let err = rw (alone_err high low e is) at reads in absurd (cc)

reads_err : (high low : ℕ) (p : Result ℕ FromHexError) (r : Result (Unit {0}) FromHexError) (out : List ℕ) → pair_value high low 0 ≡ p → Reads high low r out → IsErr r
    → (i : ℕ) → IsErr (pair_value high low i)
reads_err high low (Ok byte) r out is reads err i =
    let ok = (rw (alone_ok high low byte is) at reads).0 in absurd (cc)
reads_err high low (Err e) r out is reads err i = err_anywhere 0 i high low e (hex_digit_value high) (hex_digit_value low) is

pub byte_read : (high low : ℕ) (r : Result (Unit {0}) FromHexError) (out : List ℕ) → Reads high low r out → r ≡ Ok tt → (i : ℕ) → pair_value high low i ≡ Ok (slice_index out 0)
byte_read high low r out = reads_ok high low (pair_value high low 0) r out refl

pub no_byte_read : (high low : ℕ) (r : Result (Unit {0}) FromHexError) (out : List ℕ) → Reads high low r out → IsErr r → (i : ℕ) → IsErr (pair_value high low i)
no_byte_read high low r out = reads_err high low (pair_value high low 0) r out refl

-- ---- a text

-- what is decoded, and then what the rest spells, is what the text spells
abbrev pub SpellsOn : List ℕ → List ℕ → List ℕ → Type 0
SpellsOn all bytes rest = decode_pairs 0 all ≡ prepend bytes (decode_pairs (2 * length bytes) rest)

prepend-nil : (r : Result (List ℕ) FromHexError) → r ≡ prepend [] r
prepend-nil (Ok rest) = refl
prepend-nil (Err e) = refl

pub nothing_read : (all bytes : List ℕ) → bytes ≡ [] → SpellsOn all bytes all
nothing_read all bytes none = rw none (prepend-nil (decode_pairs 0 all))

-- one byte more
pub next_pair : (all rest mid left bytes : List ℕ) (high low byte : ℕ) → SpellsOn all bytes rest → rest ≡ high ∷ mid → mid ≡ low ∷ left → ((i : ℕ) → pair_value high low i ≡ Ok byte)
    → SpellsOn all (bytes ++ byte ∷ []) left
next_pair all rest mid left bytes high low byte spells first second value =
    let k = 2 * length bytes in
    let are : rest ≡ high ∷ low ∷ left = first ∙ ap (λ (xs : List ℕ). high ∷ xs) second in
    let long : k + 2 ≡ 2 * length (bytes ++ byte ∷ []) = omega (arith, length-append bytes (byte ∷ [])) in
    spells ∙ ap (prepend bytes) (ap (decode_pairs k) are ∙ decode_pairs-ok_pair k high low byte left (value k))
    ∙ prepend-cons_byte bytes byte (decode_pairs (k + 2) left) ∙ ap (λ (n : ℕ). prepend (bytes ++ byte ∷ []) (decode_pairs n left)) long

-- what is not a byte
err_before : (front : List ℕ) (r : Result (List ℕ) FromHexError) → IsErr r → IsErr (prepend front r)
err_before front (Ok xs) err = absurd (cc)
err_before front (Err e) err = refl

err_pair : (k high low : ℕ) (left : List ℕ) (p : Result ℕ FromHexError) → pair_value high low k ≡ p → IsErr p → IsErr (decode_pairs k (high ∷ low ∷ left))
err_pair k high low left (Ok byte) is err = absurd (cc)
err_pair k high low left (Err e) is err = rw (decode_pairs-err_pair k high low e left is) refl

err_whole : (all : List ℕ) → IsErr (decode_pairs 0 all) → IsErr (decode_of all)
err_whole all err =
    elim (cases_Bool (length all % 2 == 1)) [
      | inl odd ↦ rw odd refl
      | inr even ↦ rw even err
    ]

pub pair_refused : (all rest mid left bytes : List ℕ) (high low : ℕ) → SpellsOn all bytes rest → rest ≡ high ∷ mid → mid ≡ low ∷ left → ((i : ℕ) → IsErr (pair_value high low i)) → IsErr (decode_of all)
pair_refused all rest mid left bytes high low spells first second bad =
    let k = 2 * length bytes in
    let are : rest ≡ high ∷ low ∷ left = first ∙ ap (λ (xs : List ℕ). high ∷ xs) second in
    err_whole all (rw (spells ∙ ap (λ (xs : List ℕ). prepend bytes (decode_pairs k xs)) are) (err_before bytes _ (err_pair k high low left (pair_value high low k) refl (bad k))))

pub half_left : (all rest mid bytes : List ℕ) (high : ℕ) → SpellsOn all bytes rest → rest ≡ high ∷ mid → mid ≡ [] → IsErr (decode_of all)
unfolding decode_pairs
half_left all rest mid bytes high spells first second =
    let k = 2 * length bytes in
    let are : rest ≡ high ∷ [] = first ∙ ap (λ (xs : List ℕ). high ∷ xs) second in
    err_whole all (rw (spells ∙ ap (λ (xs : List ℕ). prepend bytes (decode_pairs k xs)) are) refl)

-- digits that spell bytes are even in number
module _ (i : ℕ) where
  even_here : (a b : ℕ) (rest : List ℕ) (p : Result ℕ FromHexError) → pair_value a b i ≡ p → IsOk (decode_pairs i (a ∷ b ∷ rest)) → IsOk (decode_pairs (i + 2) rest)
  even_here a b rest (Ok byte) is ok = ok_of (decode_pairs (i + 2) rest) (rw (decode_pairs-ok_pair i a b byte rest is) at ok)
    where
      ok_of : (r : Result (List ℕ) FromHexError) → IsOk (cons_byte byte r) → IsOk r
      ok_of (Ok xs) h = refl
      ok_of (Err e) h = absurd (cc)
  even_here a b rest (Err e) is ok = let bad = rw (decode_pairs-err_pair i a b e rest is) at ok in absurd (cc)

are_even : (i : ℕ) (digits : List ℕ) → IsOk (decode_pairs i digits) → length digits % 2 ≡ 0
unfolding decode_pairs
are_even i [] ok = refl
are_even i (a ∷ []) ok = absurd (cc)
are_even i (a ∷ b ∷ rest) ok = let fewer = are_even (i + 2) rest (even_here i a b rest (pair_value a b i) refl ok) in omega (arith, fewer)

pub all_read : (all rest bytes : List ℕ) → SpellsOn all bytes rest → rest ≡ [] → decode_of all ≡ Ok bytes
unfolding decode_pairs
all_read all rest bytes spells none =
    let is : decode_pairs 0 all ≡ Ok bytes = spells ∙ ap (λ (xs : List ℕ). prepend bytes (decode_pairs (2 * length bytes) xs)) none ∙ ap Ok (append-nil bytes) in
    decode_of-even all (are_even 0 all (rw is refl)) ∙ is

-- ---- whether a text spells bytes

pub spells_none : (r : Result (List ℕ) FromHexError) → IsErr r → (IsTrue false → IsOk r) × (IsOk r → IsTrue false)
spells_none (Ok bytes) err = absurd (cc)
spells_none (Err e) err = (λ is. absurd (cc), λ ok. absurd (cc))

pub spells_some : (r : Result (List ℕ) FromHexError) (bytes : List ℕ) → r ≡ Ok bytes → (IsTrue true → IsOk r) × (IsOk r → IsTrue true)
spells_some r bytes is = (λ so. rw is refl, λ ok. refl)
