-- What stands at some addresses of an area is told by the bytes there, for the crates above too.
use Rattle.std.proofs.Common.{◌≡◌, ℕ, zero, suc, ◌+◌, ◌-◌, ◌*◌, ◌<◌, ◌≤◌, ◌↔◌, List, ◌++◌, length, take, drop, nat_lt, refl, sym, ap, ◌∙◌, arith, inl}
use Rattle.std.proofs.{Common.{inr, append_assoc, length-append, length-drop}, lemmas.List.{length-take-le, get_or-take, get_or-drop}}
use Rattle.std.proofs.lemmas.{List.{get_or_append_left, get_or-append_right}, Bool.{cases_lt, lt-ltb, le-ltb}}
use Rattle.std.specs.Prelude.{slice_index}
use Rattle.byteorder.specs.Endian.{little_from}
use Rattle.host_memory.specs.{Memory.overwritten, Reading.{AgreeFrom, LieApart, SaysTheSame, dword_at, prd_at, prds_at, entry_fault, first_fault}}

-- ---- numbers and entries

number_same : (n k : ℕ) (xs ys : List ℕ) → ((i : ℕ) → i < n → slice_index xs (k + i) ≡ slice_index ys (k + i)) → little_from k n xs ≡ little_from k n ys
number_same zero k xs ys same = refl
number_same (suc n) k xs ys same =
    let now : k + 0 ≡ k = omega arith in
    let here : slice_index xs k ≡ slice_index ys k = rw now at (same 0 (omega arith)) in
    let later = number_same n (suc k) xs ys (λ i h. let e : suc k + i ≡ k + suc i = omega arith in rw e (same (suc i) (omega arith))) in
    rw (here, later) refl

-- the dword at an address is told by its four bytes
pub dword_same : (at : ℕ) (s t : List ℕ) → AgreeFrom at 4 s t → dword_at s at ≡ dword_at t at
dword_same at s t same =
    number_same 4 0 (drop at s) (drop at t) (λ i h. let z : 0 + i ≡ i = omega arith in rw z (get_or-drop at s i 0 ∙ same i h ∙ sym (get_or-drop at t i 0)))

-- areas that agree from an address on agree from a later one on
pub agree_within : (at count from n : ℕ) (s t : List ℕ) → AgreeFrom at count s t → from + n ≤ count → AgreeFrom (at + from) n s t
agree_within at count from n s t same fits i h = let e : at + from + i ≡ at + (from + i) = omega arith in rw e (same (from + i) (omega arith))

-- so is an entry, and what is wrong with it
module _ (at : ℕ) (s t : List ℕ) (same : AgreeFrom at 16 s t) where
  first : dword_at s at ≡ dword_at t at
  first = dword_same at s t (λ i h. same i (omega arith))

  upper : dword_at s (at + 4) ≡ dword_at t (at + 4)
  upper = dword_same (at + 4) s t (agree_within at 16 4 4 s t same (omega arith))

  last : dword_at s (at + 12) ≡ dword_at t (at + 12)
  last = dword_same (at + 12) s t (agree_within at 16 12 4 s t same (omega arith))

  pub prd_same : prd_at s at ≡ prd_at t at
  prd_same = rw (first, last) refl

  pub entry_fault_same : (client_len : ℕ) → entry_fault s client_len at ≡ entry_fault t client_len at
  entry_fault_same client_len = rw (first, upper, last) refl

pub prds_same : (at count : ℕ) (s t : List ℕ) → AgreeFrom at (16 * count) s t → prds_at s at count ≡ prds_at t at count
prds_same at zero s t same = refl
prds_same at (suc count) s t same =
    let here = prd_same at s t (λ i h. same i (omega arith)) in
    let later = prds_same (at + 16) count s t (agree_within at (16 * suc count) 16 (16 * count) s t same (omega arith)) in
    rw (here, later) refl

pub first_fault_same : (client_len at count : ℕ) (s t : List ℕ) → AgreeFrom at (16 * count) s t → first_fault s client_len at count ≡ first_fault t client_len at count
first_fault_same client_len at zero s t same = refl
first_fault_same client_len at (suc count) s t same =
    let here = entry_fault_same at s t (λ i h. same i (omega arith)) client_len in
    let later = first_fault_same client_len (at + 16) count s t (agree_within at (16 * suc count) 16 (16 * count) s t same (omega arith)) in
    rw (here, later) refl

-- two tests that hold together are equal
tests_same : (a b n : ℕ) → ((n ≤ a) ↔ (n ≤ b)) → nat_lt a n ≡ nat_lt b n
tests_same a b n both =
    elim (cases_lt a n) [
      | inl short ↦ lt-ltb a n short ∙ sym (lt-ltb b n (elim (cases_lt b n) [ inl lt ↦ lt | inr ge ↦ let no = both.1 ge in absurd (omega arith) ]))
      | inr long ↦ le-ltb a n long ∙ sym (le-ltb b n (both.0 long))
    ]

-- what a table says
pub says_the_same : (client_len at count : ℕ) (s t : List ℕ) → AgreeFrom at (16 * count) s t → ((at + 16 * count ≤ length s) ↔ (at + 16 * count ≤ length t)) → SaysTheSame client_len at count s t
says_the_same client_len at count s t same room =
    let lies : nat_lt (length s) (at + 16 * count) ≡ nat_lt (length t) (at + 16 * count) = tests_same (length s) (length t) (at + 16 * count) room in
    let entries = prds_same at count s t same in
    record { refusal = rw (lies, first_fault_same client_len at count s t same, entries) refl; entries = entries }

-- ---- bytes that are written over an area

pub length-overwritten : (old : List ℕ) (at : ℕ) (bytes : List ℕ) → at + length bytes ≤ length old → length (overwritten old at bytes) ≡ length old
length-overwritten old at bytes room = simp (length-append, length-drop) (omega (arith, length-take-le at old (omega arith)))

-- each byte beside them stays
pub overwritten_beside : (old : List ℕ) (place : ℕ) (bytes : List ℕ) (i : ℕ) → place + length bytes ≤ length old → LieApart i 1 place (length bytes) → slice_index (overwritten old place bytes) i ≡ slice_index old i
overwritten_beside old place bytes i room apart =
    let front = take place old in
    let rest = drop (place + length bytes) old in
    let long : length front ≡ place = length-take-le place old (omega arith) in
    let both : length (front ++ bytes) ≡ place + length bytes = length-append front bytes ∙ rw long refl in
    elim apart [
      | inl before ↦ ap (λ (xs : List ℕ). slice_index xs i) (append_assoc front bytes rest) ∙ get_or_append_left front (bytes ++ rest) 0 i (omega arith) ∙ get_or-take place old i 0 (omega arith)
      | inr after ↦
          let same : place + length bytes + (i - (place + length bytes)) ≡ i = omega arith in
          get_or-append_right (front ++ bytes) rest (place + length bytes) i 0 both after ∙ get_or-drop (place + length bytes) old (i - (place + length bytes)) 0 ∙ ap (slice_index old) same
    ]

-- so an area agrees with what it becomes, wherever no byte is written
pub agree_beside : (old : List ℕ) (place : ℕ) (bytes : List ℕ) (at count : ℕ) → place + length bytes ≤ length old → LieApart at count place (length bytes) → AgreeFrom at count old (overwritten old place bytes)
agree_beside old place bytes at count room apart i h =
    sym (overwritten_beside old place bytes (at + i) room (elim apart [ inl before ↦ inl (omega arith) | inr after ↦ inr (omega arith) ]))

-- and a table there says the same
pub stays_the_same : (client_len at count place : ℕ) (bytes s : List ℕ) → place + length bytes ≤ length s → LieApart at (16 * count) place (length bytes) → SaysTheSame client_len at count s (overwritten s place bytes)
stays_the_same client_len at count place bytes s room apart =
    let long = length-overwritten s place bytes room in
    says_the_same client_len at count s (overwritten s place bytes) (agree_beside s place bytes at (16 * count) room apart) (λ h. omega (arith, long, h), λ h. omega (arith, long, h))
