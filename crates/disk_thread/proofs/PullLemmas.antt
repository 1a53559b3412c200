-- The pulls that were made, and those that are left.
use Rattle.std.proofs.Common.{◌≡◌, ℕ, ◌+◌, ◌<◌, ◌≤◌, List, [], ◌∷◌, ◌++◌, suc, length, get_or, drop, take, append_assoc, append-nil, length-append}
use Rattle.std.proofs.{Common.{sym, ap, ◌∙◌, arith}, lemmas.List.{get_or_default, Elements.{All-append, All-take, All-drop}}}
use Rattle.std.proofs.lemmas.List.{Sorted.{IsPermutation-refl, IsPermutation-more}, Concat.{flat_map-cons}}
use Rattle.std.specs.{Prelude.All, List.{flat_map, remove}}
use Rattle.disk_thread.specs.{Deeds.{Deed, given_by, pulled_by, pulls_after, pulls_in}, Runs.KeepsPulls}

-- one more deed
after_more : (given : ℕ) (ds : List Deed) (d : Deed)
    → pulls_after given (ds ++ d ∷ []) ≡ pulls_after given ds ++ pulled_by (given + length (flat_map given_by ds)) d
unfolding pulls_after
after_more given [] d =
    append-nil (pulled_by given d) ∙ ap (λ k. pulled_by k d) (let e : given ≡ given + 0 = omega arith in e)
after_more given (x ∷ ds) d =
    let rest = given + length (given_by x) in
    let long = ap length (flat_map-cons given_by x ds) ∙ length-append (given_by x) (flat_map given_by ds) in
    let same : rest + length (flat_map given_by ds) ≡ given + length (flat_map given_by (x ∷ ds)) = omega (arith, long) in
    ap (λ l. pulled_by given x ++ l) (after_more rest ds d ∙ ap (λ k. pulls_after rest ds ++ pulled_by k d) same)
    ∙ sym (append_assoc (pulled_by given x) (pulls_after rest ds) (pulled_by (given + length (flat_map given_by (x ∷ ds))) d))

pub pulls_more : (ds : List Deed) (d : Deed) → pulls_in (ds ++ d ∷ []) ≡ pulls_in ds ++ pulled_by (length (flat_map given_by ds)) d
pulls_more ds d =
    let long = length (flat_map given_by ds) in
    after_more 0 ds d ∙ ap (λ k. pulls_in ds ++ pulled_by k d) (let e : 0 + long ≡ long = omega arith in e)

-- before the first deed
pub keeps_none : (due : List ℕ) (given : ℕ) → given ≡ 0 → KeepsPulls due [] due given
keeps_none due given e = record {
  each = IsPermutation-refl due;
  none_over = λ k d lt. omega (arith, e);
}

-- a deed that is not a pull, and gives nothing
pub keeps_still : (due made left new : List ℕ) (given now : ℕ) → new ≡ left → now ≡ given → KeepsPulls due made left given → KeepsPulls due (made ++ []) new now
keeps_still due made left new given now same as_many h = rw (append-nil made, same, as_many) h

-- a pull that was due
pub keeps_pull : (due made left : List ℕ) (given now i other : ℕ) → i < length left → get_or left i other ≤ given → now ≡ given → KeepsPulls due made left given
    → KeepsPulls due (made ++ given ∷ []) (remove left i) now
keeps_pull due made left given now i other lt late as_many h =
    let not_over = h.none_over i given lt in
    let same = get_or_default left i other given lt in
    let is : given ≡ get_or left i given = omega (arith, not_over, late, same) in
    rw as_many record {
      each = IsPermutation-more due made left i given lt is h.each;
      none_over = All-append (λ count. given ≤ count) (take i left) (drop (suc i) left)
          (All-take (λ count. given ≤ count) i left h.none_over) (All-drop (λ count. given ≤ count) (suc i) left h.none_over);
    }

-- a FIS that was given while no pull was due
pub keeps_give : (due made left : List ℕ) (given now : ℕ) → All (λ count. given < count) left → now ≡ given + 1 → KeepsPulls due made left given
    → KeepsPulls due (made ++ []) left now
keeps_give due made left given now none more h = rw (append-nil made) record {
  each = h.each;
  none_over = λ k d lt. let above = none k d lt in omega (arith, above, more);
}
