-- The entries of a table in memory, one by one.
use Rattle.std.proofs.Common.{◌≡◌, ℕ, suc, ◌+◌, ◌-◌, ◌*◌, ◌<◌, ◌≤◌, List, ◌∷◌, zero, Option, Some, None, refl, arith, if◌then◌else◌, inl, inr}
use Rattle.std.proofs.lemmas.Bool.{Decides.nat_tests, cases_Bool, cond-true, cond-false}
use Rattle.std.specs.Option.{option_or}
use Rattle.host_memory.specs.{declared.table.PrdError.{PrdError, TheVariants.{BadEntry, OutsideClient, Overlap}}, Place.{total_of, LiesInClient}}
use Rattle.host_memory.specs.{Place.AreInside, Reading.{prd_at, prds_at, is_bad, is_outside, entry_fault, first_fault}}

-- the entries from the i-th on are that entry and those after it
pub prds_next : (s : List ℕ) (at n i : ℕ) → i < n → prds_at s (at + 16 * i) (n - i) ≡ prd_at s (at + 16 * i) ∷ prds_at s (at + 16 * (i + 1)) (n - (i + 1))
prds_next s at n i h =
    let e : n - i ≡ suc (n - (i + 1)) = omega arith in
    let f : at + 16 * (i + 1) ≡ at + 16 * i + 16 = omega arith in
    rw e (rw f refl)

pub first_fault_next : (s : List ℕ) (len at n i : ℕ) → i < n
    → first_fault s len (at + 16 * i) (n - i) ≡ option_or (entry_fault s len (at + 16 * i)) (first_fault s len (at + 16 * (i + 1)) (n - (i + 1)))
first_fault_next s len at n i h =
    let e : n - i ≡ suc (n - (i + 1)) = omega arith in
    let f : at + 16 * (i + 1) ≡ at + 16 * i + 16 = omega arith in
    rw e (rw f refl)

-- an entry with no fault lies inside
pub inside_from_fault : (s : List ℕ) (len at : ℕ) → entry_fault s len at ≡ None → LiesInClient len (prd_at s at).address (prd_at s at).bytes
inside_from_fault s len at h = grind (arith, nat_tests)

option_or_none : {A : Type 0} (o p : Option A) → option_or o p ≡ None → (o ≡ None) × (p ≡ None)
option_or_none None p h = (refl, h)
option_or_none (Some x) p h = cc

-- so do all of them, if none has one
pub inside_from_faults : (s : List ℕ) (len at n : ℕ) → first_fault s len at n ≡ None → AreInside len (prds_at s at n)
inside_from_faults s len at zero h = tt
inside_from_faults s len at (suc n) h =
    let none = option_or_none (entry_fault s len at) (first_fault s len (at + 16) n) h in
    (inside_from_fault s len at none.0, inside_from_faults s len (at + 16) n none.1)

-- entries have at most 2^22 bytes each
pub total_fits : (s : List ℕ) (at n : ℕ) → total_of (prds_at s at n) ≤ n * 4194304
total_fits s at zero = omega arith
total_fits s at (suc n) = let rest = total_fits s (at + 16) n in omega arith

-- one entry by itself has no overlap
no_overlap_here : (s : List ℕ) (len at : ℕ) → entry_fault s len at ≡ Some Overlap → ⊥
no_overlap_here s len at h =
    elim (cases_Bool (is_bad s at)) [
      | inl bad ↦ let is = cond-true (is_bad s at) (Some BadEntry) (if is_outside len (prd_at s at) then Some OutsideClient else None) bad in cc
      | inr good ↦ let is = cond-false (is_bad s at) (Some BadEntry) (if is_outside len (prd_at s at) then Some OutsideClient else None) good in
          elim (cases_Bool (is_outside len (prd_at s at))) [
            | inl out ↦ let is' = cond-true (is_outside len (prd_at s at)) (Some OutsideClient) None out in cc
            | inr ins ↦ let is' = cond-false (is_outside len (prd_at s at)) (Some OutsideClient) None ins in cc
          ]
    ]

no_overlap_in : (o p : Option PrdError) → (o ≡ Some Overlap → ⊥) → (p ≡ Some Overlap → ⊥) → option_or o p ≡ Some Overlap → ⊥
no_overlap_in None p a b h = b h
no_overlap_in (Some x) p a b h = a h

-- nor do entries one by one
pub no_overlap_fault : (s : List ℕ) (len at n : ℕ) → first_fault s len at n ≡ Some Overlap → ⊥
no_overlap_fault s len at zero h = cc
no_overlap_fault s len at (suc n) h = no_overlap_in (entry_fault s len at) (first_fault s len (at + 16) n) (no_overlap_here s len at) (no_overlap_fault s len (at + 16) n) h
