-- Facts on the places of a transfer's bytes, for the crates above too.
use Rattle.std.proofs.Common.{◌≡◌, ◌≢◌, ℕ, zero, suc, ◌+◌, ◌-◌, ◌<◌, ◌≤◌, nat_lt, List, [], ◌∷◌, Some, slice_get, refl, sym, ap, ◌∙◌, arith, inl, inr}
use Rattle.std.proofs.lemmas.Bool.{cond-true, cond-false, lt-ltb, le-ltb, cases_lt}
use Rattle.host_memory.specs.{declared.table.Prd.Prd, Place.{total_of, place, LiesInClient, AreInside, IsByteOf, AreApart, HasOwnPlaces}}
use Rattle.host_memory.specs.Between.{HasByte}

-- byte i lies in the first entry where it is below its count
pub place_here : (p : Prd) (ps : List Prd) (i : ℕ) → i < p.bytes → place (p ∷ ps) i ≡ p.address + i
place_here p ps i h = cond-true (nat_lt i p.bytes) (p.address + i) (place ps (i - p.bytes)) (lt-ltb i p.bytes h)

-- and else in the rest
pub place_later : (p : Prd) (ps : List Prd) (i : ℕ) → p.bytes ≤ i → place (p ∷ ps) i ≡ place ps (i - p.bytes)
place_later p ps i h = cond-false (nat_lt i p.bytes) (p.address + i) (place ps (i - p.bytes)) (le-ltb i p.bytes h)

-- a place in entries inside is inside
pub place_inside : (len : ℕ) (ps : List Prd) (i : ℕ) → AreInside len ps → i < total_of ps → LiesInClient len (place ps i) 1
place_inside len [] i a h = absurd (omega arith)
place_inside len (p ∷ ps) i a h =
    elim (cases_lt i p.bytes) [
      | inl lt ↦ let is = place_here p ps i lt in (omega (arith, is, a.0.0), omega (arith, is, a.0.1))
      | inr ge ↦ let is = place_later p ps i ge in let r = place_inside len ps (i - p.bytes) a.1 (omega arith) in (omega (arith, is, r.0), omega (arith, is, r.1))
    ]

-- each place is a byte of some entry
pub place_has : (ps : List Prd) (i : ℕ) → i < total_of ps → HasByte ps (place ps i)
place_has [] i h = absurd (omega arith)
place_has (p ∷ ps) i h =
    elim (cases_lt i p.bytes) [
      | inl lt ↦ let is = place_here p ps i lt in record { k = 0; prd = p; entry = refl; has = (omega (arith, is), omega (arith, is)) }
      | inr ge ↦ let is = place_later p ps i ge in let r = place_has ps (i - p.bytes) (omega arith) in
          record { k = suc r.k; prd = r.prd; entry = r.entry; has = (omega (arith, is, r.has.0), omega (arith, is, r.has.1)) }
    ]

-- the byte of a transfer that has this place
pub record IsPlace (ps : List Prd) (at : ℕ) : Type 0 where
  pub i : ℕ
  pub below : i < total_of ps
  pub there : place ps i ≡ at

-- each byte of each entry is a place
pub place_from : (ps : List Prd) (k : ℕ) (p : Prd) (at : ℕ) → slice_get ps k ≡ Some p → IsByteOf p at → IsPlace ps at
place_from [] k p at e h = cc
place_from (q ∷ ps) zero p at e h =
    let same : q ≡ p = cc in
    let a : q.address ≡ p.address = ap (λ (x : Prd). x.address) same in
    let b : q.bytes ≡ p.bytes = ap (λ (x : Prd). x.bytes) same in
    let lt : at - q.address < q.bytes = omega (arith, h.0, h.1) in
    let is = place_here q ps (at - q.address) lt in
    record { i = at - q.address; below = omega arith; there = omega (arith, is, h.0) }
place_from (q ∷ ps) (suc k) p at e h =
    let r = place_from ps k p at e h in
    let back : q.bytes + r.i - q.bytes ≡ r.i = omega arith in
    record { i = q.bytes + r.i; below = omega (arith, r.below); there = place_later q ps (q.bytes + r.i) (omega arith) ∙ ap (place ps) back ∙ r.there }

-- entries that are apart stay so without the first
pub apart_rest : (p : Prd) (ps : List Prd) → AreApart (p ∷ ps) → AreApart ps
apart_rest p ps a h = a (record { i = suc h.i; j = suc h.j; p = h.p; q = h.q; in_order = omega (arith, h.in_order); first = h.first; second = h.second; shared = h.shared })

-- a byte of the first entry is no place in the rest
pub apart_first : (p : Prd) (ps : List Prd) (i at : ℕ) → AreApart (p ∷ ps) → i < total_of ps → IsByteOf p at → place ps i ≢ at
apart_first p ps i at a below h e =
    let r = place_has ps i below in
    a (record { i = 0; j = suc r.k; p = p; q = r.prd; in_order = omega arith; first = refl; second = r.entry; shared = record { at = at; of_first = h; of_second = (omega (arith, e, r.has.0), omega (arith, e, r.has.1)) } })

-- two bytes of a transfer have two places
pub place_injective : (ps : List Prd) (i j : ℕ) → AreApart ps → i < total_of ps → j < total_of ps → place ps i ≡ place ps j → i ≡ j
place_injective [] i j a hi hj e = absurd (omega arith)
place_injective (p ∷ ps) i j a hi hj e =
    elim (cases_lt i p.bytes) [
      | inl li ↦ let ei = place_here p ps i li in
          elim (cases_lt j p.bytes) [
            | inl lj ↦ let ej = place_here p ps j lj in omega (arith, e, ei, ej)
            | inr gj ↦ let ej = place_later p ps j gj in
                absurd (apart_first p ps (j - p.bytes) (p.address + i) a (omega arith) (omega arith, omega arith) (sym ej ∙ sym e ∙ ei))
          ]
      | inr gi ↦ let ei = place_later p ps i gi in
          elim (cases_lt j p.bytes) [
            | inl lj ↦ let ej = place_here p ps j lj in
                absurd (apart_first p ps (i - p.bytes) (p.address + j) a (omega arith) (omega arith, omega arith) (sym ei ∙ e ∙ ej))
            | inr gj ↦ let ej = place_later p ps j gj in
                let same = place_injective ps (i - p.bytes) (j - p.bytes) (apart_rest p ps a) (omega arith) (omega arith) (sym ei ∙ e ∙ ej) in omega arith
          ]
    ]

-- so each byte has a place of its own
pub own_places : (len : ℕ) (ps : List Prd) → AreInside len ps → AreApart ps → HasOwnPlaces len ps
own_places len ps inside apart = record { inside = λ i h. place_inside len ps i inside h; own = λ i j hi hj ne e. ne (place_injective ps i j apart hi hj e) }
