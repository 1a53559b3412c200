-- Bytes that are scattered over the places of a table, entry by entry.
use Rattle.std.proofs.Common.{◌≡◌, ◌≢◌, ℕ, ◌+◌, ◌-◌, ◌<◌, ◌≤◌, min, List, [], ◌∷◌, ◌++◌, get_or, take, drop, length, refl, sym, ◌∙◌, ap, arith, inl}
use Rattle.std.proofs.{Common.{inr, length-append, length-drop}, lemmas.{Bool.cases_lt, List.{get_or-take, get_or-drop, get_or_append_left}}}
use Rattle.std.proofs.lemmas.List.{get_or-append_right, length-take-le, take_all}
use Rattle.host_memory.specs.{declared.table.Prd.Prd, Memory.{client_start, overwritten}, Parts.left_at, Place.{total_of, place, AreInside, AreApart}}
use Rattle.host_memory.specs.Place.{Scatters}
use Rattle.host_memory.proofs.{AgreeLemmas.{overwritten_beside, length-overwritten}, PlaceLemmas.{place_here, place_later, place_inside}}
use Rattle.host_memory.proofs.{PlaceLemmas.place_injective, SpotLemmas.{left_here, left_later}}

-- nothing is written yet
pub scatters_none : (ps : List Prd) (offset : ℕ) (bytes old : List ℕ) → Scatters ps offset (take 0 bytes) old old
scatters_none ps offset bytes old = record { written = λ k h. absurd (omega arith); others = λ at h. refl; as_long = refl }

-- ---- the bytes of an entry from one on

-- there are some
pub left_some : (ps : List Prd) (i : ℕ) → i < total_of ps → 0 < left_at ps i
left_some [] i h = absurd (omega arith)
left_some (p ∷ ps) i h =
    elim (cases_lt i p.bytes) [
      | inl lt ↦ let is = left_here p ps i lt in omega arith
      | inr ge ↦ let is = left_later p ps i ge in let rest = left_some ps (i - p.bytes) (omega arith) in omega arith
    ]

-- they lie one after another
place_along : (ps : List Prd) (i k : ℕ) → k < left_at ps i → place ps (i + k) ≡ place ps i + k
place_along [] i k h = absurd (omega arith)
place_along (p ∷ ps) i k h =
    elim (cases_lt i p.bytes) [
      | inl lt ↦ let is = left_here p ps i lt in let here = place_here p ps i lt in let there = place_here p ps (i + k) (omega arith) in omega arith
      | inr ge ↦
          let is = left_later p ps i ge in
          let rest = place_along ps (i - p.bytes) k (omega arith) in
          let back : i + k - p.bytes ≡ i - p.bytes + k = omega arith in
          let here = place_later p ps i ge in
          let there : place (p ∷ ps) (i + k) ≡ place ps (i - p.bytes + k) = place_later p ps (i + k) (omega arith) ∙ ap (place ps) back in
          omega arith
    ]

-- they are of the transfer, and of the client area
record LeftInside (len : ℕ) (ps : List Prd) (i : ℕ) : Type 0 where
  fits : i + left_at ps i ≤ total_of ps
  from : client_start ≤ place ps i
  to : place ps i + left_at ps i ≤ client_start + len

left_inside : (len : ℕ) (ps : List Prd) (i : ℕ) → AreInside len ps → i < total_of ps → LeftInside len ps i
left_inside len [] i a h = absurd (omega arith)
left_inside len (p ∷ ps) i a h =
    elim (cases_lt i p.bytes) [
      | inl lt ↦ let is = left_here p ps i lt in let here = place_here p ps i lt in record { fits = omega arith; from = omega (arith, a.0.0); to = omega (arith, a.0.1) }
      | inr ge ↦
          let is = left_later p ps i ge in
          let here = place_later p ps i ge in
          let rest = left_inside len ps (i - p.bytes) a.1 (omega arith) in
          record { fits = omega (arith, rest.fits); from = omega (arith, rest.from); to = omega (arith, rest.to) }
    ]

-- ---- bytes that are written over an area

overwritten_at : (old : List ℕ) (at : ℕ) (bytes : List ℕ) (k : ℕ) → at + length bytes ≤ length old → k < length bytes → get_or (overwritten old at bytes) (at + k) 0 ≡ get_or bytes k 0
overwritten_at old at bytes k room below =
    let front = take at old in
    let rest = drop (at + length bytes) old in
    let long : length front ≡ at = length-take-le at old (omega arith) in
    let both : length (front ++ bytes) ≡ at + length bytes = length-append front bytes ∙ ap (λ (n : ℕ). n + length bytes) long in
    let same : at + k - at ≡ k = omega arith in
    get_or_append_left (front ++ bytes) rest 0 (at + k) (omega arith) ∙ get_or-append_right front bytes at (at + k) 0 long (omega arith) ∙ ap (λ (n : ℕ). get_or bytes n 0) same

-- a byte that none of these is stays
overwritten_off : (old : List ℕ) (at : ℕ) (bytes : List ℕ) (a : ℕ) → at + length bytes ≤ length old → ((k : ℕ) → k < length bytes → a ≢ at + k) → get_or (overwritten old at bytes) a 0 ≡ get_or old a 0
overwritten_off old at bytes a room off =
    overwritten_beside old at bytes a room (elim (cases_lt a at) [
      | inl before ↦ inl (omega arith)
      | inr from ↦ elim (cases_lt a (at + length bytes)) [
        | inl within ↦ absurd (off (a - at) (omega arith) (omega arith))
        | inr after ↦ inr after
      ]
    ])

-- ---- one entry's bytes more

pub scatters_more : (len : ℕ) (ps : List Prd) (offset : ℕ) (bytes rest : List ℕ) (done count : ℕ) (old new after : List ℕ)
    → AreInside len ps → AreApart ps → offset + length bytes ≤ total_of ps → done < length bytes → length new ≡ len → rest ≡ drop done bytes
    → count ≡ min (left_at ps (offset + done)) (length rest) → after ≡ overwritten new (place ps (offset + done) - client_start) (take count rest)
    → Scatters ps offset (take done bytes) old new → Scatters ps offset (take (done + count) bytes) old after
scatters_more len ps offset bytes rest done count old new after inside apart fits below long are many is s =
    let i = offset + done in
    let at = place ps i - client_start in
    let chunk = take count rest in
    let left = left_inside len ps i inside (omega arith) in
    let left_fits = left.fits in
    let from = left.from in
    let to = left.to in
    let rest_long : length rest ≡ length bytes - done = ap length are ∙ length-drop done bytes in
    let chunk_long : length chunk ≡ count = length-take-le count rest (omega arith) in
    let room : at + length chunk ≤ length new = omega arith in
    let done_long : length (take done bytes) ≡ done = length-take-le done bytes (omega arith) in
    let more_long : length (take (done + count) bytes) ≡ done + count = length-take-le (done + count) bytes (omega arith) in
    let along : (k : ℕ) → k < count → place ps (i + k) ≡ client_start + at + k = λ k h. let a = place_along ps i k (omega arith) in omega arith in
    let byte : (k : ℕ) → k < count → get_or chunk k 0 ≡ get_or bytes (done + k) 0 =
    λ k h. get_or-take count rest k 0 h ∙ ap (λ (xs : List ℕ). get_or xs k 0) are ∙ get_or-drop done bytes k 0 in
    rw is (record {
      written = λ j h. let lj : j < done + count = omega arith in
          elim (cases_lt j done) [
            | inl early ↦
                let pj = place_inside len ps (offset + j) inside (omega arith) in
                overwritten_off new at chunk (place ps (offset + j) - client_start) room
                (λ k hk e. let there = along k (omega arith) in let same = place_injective ps (offset + j) (i + k) apart (omega arith) (omega arith) (omega (arith, pj.0)) in absurd (omega arith))
                ∙ s.written j (omega arith) ∙ get_or-take done bytes j 0 early ∙ sym (get_or-take (done + count) bytes j 0 lj)
            | inr late ↦
                let k = j - done in
                let lk : k < count = omega arith in
                let there = along k lk in
                let same : offset + j ≡ i + k = omega arith in
                let where_is : place ps (offset + j) - client_start ≡ at + k = omega (arith, ap (place ps) same) in
                let back : done + k ≡ j = omega arith in
                ap (λ (n : ℕ). get_or (overwritten new at chunk) n 0) where_is ∙ overwritten_at new at chunk k room (omega arith) ∙ byte k lk ∙ ap (λ (n : ℕ). get_or bytes n 0) back ∙ sym (get_or-take (done + count) bytes j 0 lj)
          ];
      others = λ a h.
          overwritten_off new at chunk a room
          (λ k hk e. let there = along k (omega arith) in let same : offset + (done + k) ≡ i + k = omega arith in h (done + k) (omega arith) (omega (arith, ap (place ps) same)))
          ∙ s.others a (λ j hj. h j (omega arith));
      as_long = length-overwritten new at chunk room ∙ s.as_long;
    })

-- so they are fewer that are left
pub some_more : (ps : List Prd) (offset : ℕ) (bytes rest : List ℕ) (done count : ℕ) → offset + length bytes ≤ total_of ps → done < length bytes → rest ≡ drop done bytes
    → count ≡ min (left_at ps (offset + done)) (length rest) → (0 < count) × (done + count ≤ length bytes)
some_more ps offset bytes rest done count fits below are many =
    let some = left_some ps (offset + done) (omega arith) in
    let long : length rest ≡ length bytes - done = ap length are ∙ length-drop done bytes in
    (omega arith, omega arith)

-- all are written
pub scatters_all : (ps : List Prd) (offset : ℕ) (bytes : List ℕ) (k : ℕ) (old new : List ℕ) → length bytes ≤ k
    → Scatters ps offset (take k bytes) old new → Scatters ps offset bytes old new
scatters_all ps offset bytes k old new h s = rw (take_all k bytes h) at s

-- A byte of the transfer reads back as what was written to it. Byte i is written where it is from
-- offset on and below the end of what is written.
pub read_written : (ps : List Prd) (offset : ℕ) (bytes old new : List ℕ) (i : ℕ) → Scatters ps offset bytes old new
    → offset ≤ i → i < offset + length bytes → get_or new (place ps i - client_start) 0 ≡ get_or bytes (i - offset) 0
read_written ps offset bytes old new i s low high =
    let is : offset + (i - offset) ≡ i = omega arith in
    let w = s.written (i - offset) (omega arith) in
    rw is at w

-- and each other byte of the transfer as before
pub read_other : (len : ℕ) (ps : List Prd) (offset : ℕ) (bytes old new : List ℕ) (i : ℕ) → AreInside len ps → AreApart ps
    → offset + length bytes ≤ total_of ps → Scatters ps offset bytes old new → i < total_of ps
    → ((k : ℕ) → k < length bytes → offset + k ≢ i) → get_or new (place ps i - client_start) 0 ≡ get_or old (place ps i - client_start) 0
read_other len ps offset bytes old new i inside apart fits s below ne =
    let here = place_inside len ps i inside below in
    s.others (place ps i - client_start) (λ k hk e. ne k hk (place_injective ps (offset + k) i apart (omega arith) below (omega (arith, e, here.0))))
