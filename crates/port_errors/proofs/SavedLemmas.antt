-- The rule of restored errors: what fits is what every value keeps.
use Rattle.std.proofs.{Common.{◌≡◌, ℕ, true, List, length, get_or, Some, None, refl}, Math.Dec.ltb, lemmas.List.Quantifiers.{position-Some}}
use Rattle.std.proofs.lemmas.Bool.{lt-ltb, ltb-true, and_parts, and_from}
use Rattle.std.specs.Prelude.{Option, is_some, is_none}
use Rattle.port_errors.specs.{declared.cause.{DeviceCause.DeviceCause, Stop.Stop}, Errors.{AreErrors, lowest_marked}, Saved.fits}
use Rattle.port_errors.proofs.ErrorsLemmas.{unmarked}

is_none_then : (o : Option ℕ) → is_none o ≡ true → o ≡ None
is_none_then None e = refl
is_none_then (Some d) e = absurd (cc)

pub fit_keeps : (cs : List (Option DeviceCause)) (r : Option ℕ) (p : Option Stop) → length cs ≡ 16 → fits cs r ≡ true
    → AreErrors (record { causes = cs; reported = r; port = p })
fit_keeps cs None p long fit = record {
  ports = long;
  reported_is_marked = λ d is. absurd (cc);
  none_is_marked = λ is d. unmarked cs d (is_none_then _ fit);
}
fit_keeps cs (Some r) p long fit = record {
  ports = long;
  reported_is_marked = λ d is. let same : d ≡ r = cc in let both = and_parts (ltb r 16) (is_some (get_or cs r None)) fit in
      rw same (ltb-true r 16 both.0, both.1);
  none_is_marked = λ is d. absurd (cc);
}

nothing_marked : (cs : List (Option DeviceCause)) (o : Option ℕ) → lowest_marked cs ≡ o → ((d : ℕ) → get_or cs d None ≡ None) → is_none o ≡ true
nothing_marked cs None e all = refl
nothing_marked cs (Some d) e all =
    let found = position-Some is_some cs d None e in absurd (let bad = rw (all d) at found.1 in cc)

pub keeps_fit : (cs : List (Option DeviceCause)) (r : Option ℕ) (p : Option Stop) → AreErrors (record { causes = cs; reported = r; port = p })
    → fits cs r ≡ true
keeps_fit cs None p are = nothing_marked cs _ refl (are.none_is_marked refl)
keeps_fit cs (Some r) p are = let is = are.reported_is_marked r refl in
    and_from (ltb r 16) (is_some (get_or cs r None)) (lt-ltb r 16 is.0) is.1
