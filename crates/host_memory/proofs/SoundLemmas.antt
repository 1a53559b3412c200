-- What the refusal of a table tells of it.
use Rattle.std.proofs.Common.{◌≡◌, ℕ, ◌+◌, ◌*◌, ◌≤◌, Bool, true, false, ◌||◌, List, length, Option, Some, None, refl, sym, ◌∙◌, inl, inr}
use Rattle.std.proofs.lemmas.Bool.{cases_Bool, or_left, or_right, ltb-false, false≢true}
use Rattle.std.specs.{Prelude.{nat_lt, if◌then◌else◌}, Option.option_or}
use Rattle.host_memory.specs.{declared.table.PrdError.{PrdError, TheVariants.{OutsideStructure, Overlap}}, Place.HaveOverlap, Ends.ends_from}
use Rattle.host_memory.specs.Reading.{IsPrdTable, prds_at, read_fault}
use Rattle.host_memory.proofs.{OverlapLemmas.{HaveOverlap-from, apart_from_overlap}, PrdLemmas.{inside_from_faults, no_overlap_fault}}

-- what no refusal, and one for an overlap, leave of three tests in a row
pub record PassesAll (outside : Bool) (fault : Option PrdError) (shared : Bool) : Type 0 where
  pub within : outside ≡ false
  pub faultless : fault ≡ None
  pub apart : shared ≡ false

passes_all : (outside : Bool) (fault : Option PrdError) (shared : Bool)
    → (if outside then Some OutsideStructure else option_or fault (if shared then Some Overlap else None)) ≡ None
    → PassesAll outside fault shared
passes_all true fault shared h = cc
passes_all false (Some f) shared h = cc
passes_all false None true h = cc
passes_all false None false h = record { within = refl; faultless = refl; apart = refl }

told : (outside : Bool) (fault : Option PrdError) (shared : Bool)
    → (fault ≡ Some Overlap → ⊥)
    → (if outside then Some OutsideStructure else option_or fault (if shared then Some Overlap else None)) ≡ Some Overlap
    → shared ≡ true
told true fault shared one h = cc
told false (Some f) shared one h = absurd (one h)
told false None true one h = refl
told false None false one h = cc

within_of : (long need count : ℕ) → (nat_lt long need || nat_lt 248 count) ≡ false → (need ≤ long) × (count ≤ 248)
within_of long need count h =
    elim (cases_Bool (nat_lt long need)) [
      | inl past ↦ absurd (false≢true (sym h ∙ or_left _ _ past))
      | inr inside ↦ elim (cases_Bool (nat_lt 248 count)) [
        | inl many ↦ absurd (false≢true (sym h ∙ or_right _ _ many))
        | inr few ↦ (ltb-false long need inside, ltb-false 248 count few)
      ]
    ]

-- a table with no refusal keeps the rules of one
pub sound_table : (s : List ℕ) (len at n : ℕ) (ends : List ℕ) → read_fault s len at n ≡ None → ends ≡ ends_from 0 (prds_at s at n) → IsPrdTable s len at n ends
sound_table s len at n ends h sums =
    let all = passes_all _ _ _ h in
    let places = within_of (length s) (at + 16 * n) n all.within in
    record {
      lies = places.0;
      few = places.1;
      inside = inside_from_faults s len at n all.faultless;
      apart = apart_from_overlap _ all.apart;
      sums = sums;
    }

pub overlap_told : (s : List ℕ) (len at n : ℕ) → read_fault s len at n ≡ Some Overlap → HaveOverlap (prds_at s at n)
overlap_told s len at n h = HaveOverlap-from _ (told _ _ _ (no_overlap_fault s len at n) h)
