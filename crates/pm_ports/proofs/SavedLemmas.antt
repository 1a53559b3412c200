-- The rule of a restored port: what fits is sound.
use Rattle.std.proofs.{Common.{◌≡◌, ℕ, ◌<◌, ◌==◌, ◌&&◌, true, refl, arith}, lemmas.Bool.{and_parts, and_from, eq-eqb, eqb-true, lt-ltb, ltb-true}}
use Rattle.std.specs.Prelude.{nat_lt, Option, Some, None}
use Rattle.fis_view.specs.Frames.{Stamped}
use Rattle.pm_ports.specs.{Port.IsSound, Saved.fits}

pub fit_sound : (present : Option ℕ) (last gone : ℕ) (up down : Option Stamped) → fits present last gone ≡ true
    → IsSound (record { present = present; last = last; gone = gone; up = up; down = down })
fit_sound None last gone up down fit = record {
  counted = λ conn is. absurd (cc);
  last = λ conn is. absurd (cc);
  above = λ conn is. absurd (cc);
  away = λ is. eqb-true gone last fit;
}
fit_sound (Some there) last gone up down fit =
    let both = and_parts (nat_lt 0 there && there == last) (nat_lt gone there) fit in
    let first = and_parts (nat_lt 0 there) (there == last) both.0 in
    let counted : 0 < there = ltb-true 0 there first.0 in
    let newest : there ≡ last = eqb-true there last first.1 in
    let above : gone < there = ltb-true gone there both.1 in record {
      counted = λ conn is. let same : there ≡ conn = cc in omega (arith, same);
      last = λ conn is. let same : there ≡ conn = cc in omega (arith, same, newest);
      above = λ conn is. let same : there ≡ conn = cc in omega (arith, same);
      away = λ is. absurd (cc);
    }

pub sound_fits : (present : Option ℕ) (last gone : ℕ) (up down : Option Stamped)
    → IsSound (record { present = present; last = last; gone = gone; up = up; down = down }) → fits present last gone ≡ true
sound_fits None last gone up down sound = eq-eqb gone last (sound.away refl)
sound_fits (Some there) last gone up down sound =
    and_from (nat_lt 0 there && there == last) (nat_lt gone there)
    (and_from (nat_lt 0 there) (there == last) (lt-ltb 0 there (sound.counted there refl)) (eq-eqb there last (sound.last there refl)))
    (lt-ltb gone there (sound.above there refl))
