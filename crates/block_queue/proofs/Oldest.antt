-- The oldest of the places in a set, found by taking the first out of it again and again.
use Rattle.std.proofs.Common.{◌≡◌, ◌≢◌, ℕ, ◌+◌, ◌*◌, ◌%◌, ◌^◌, ◌<◌, ◌≤◌, true, false, List, Some, None, refl, sym, ap, ◌∙◌, arith, inl, inr, get_or}
use Rattle.std.proofs.{Common.{w64, bit_and}, lemmas.Bool.{cases_eq, cases_lt, ltb-true, ltb-false, lt-ltb, le-ltb, eq-eqb, and_parts, and_from}}
use Rattle.std.proofs.lemmas.{Bool.{and_left, not_from_true, not_from_false}, Nat.Bits.{bit_at-trailing_zeros, bit_at-zero, bit_at_clear_same}}
use Rattle.std.proofs.lemmas.Nat.Bits.{bit_at_clear_other}
use Rattle.std.specs.{Prelude.{Option, Bool, not, ◌&&◌, ◌==◌, nat_lt, if◌then◌else◌, IfSome, IfNone}, Int.{bit_at, bit_not, trailing_zeros}}
use Rattle.std.specs.Int.Count.{trailing_of_zero}
use Rattle.block_queue.specs.{Line.{IsOldest, PassesNowhere, has_bit, is_before}, Places.{IsFirstIn, IsWithout, older}}

-- of the places that pass, the oldest
abbrev pub BestOf : List ℕ → (ℕ → Bool) → Option ℕ → Type 0
BestOf ranks test None = PassesNowhere test
BestOf ranks test (Some p) = IsOldest ranks test p

-- the place was taken out of the set
abbrev pub is_out : (set rest q : ℕ) → Bool
is_out set rest q = has_bit set q && not (has_bit rest q)

pub record IsWalked (ranks : List ℕ) (set rest n : ℕ) (oldest : Option ℕ) : Type 0 where
  pub gone : (q : ℕ) → q < n → q < 33 → has_bit rest q ≡ false
  pub within : (q : ℕ) → q < 33 → has_bit rest q ≡ true → has_bit set q ≡ true
  pub best : BestOf ranks (is_out set rest) oldest

none_out : (b : Bool) → (b && not b) ≡ false
none_out true = refl
none_out false = refl

pub walked_none : (ranks : List ℕ) (set : ℕ) → IsWalked ranks set set 0 None
walked_none ranks set = record {
  gone = λ q low _. absurd (omega (arith, low));
  within = λ q low e. e;
  best = λ q low. none_out (has_bit set q);
}

-- ## One more place passes

record IsMore (test more : ℕ → Bool) (p : ℕ) : Type 0 where
  pub here : more p ≡ true
  pub others : (q : ℕ) → q < 33 → q ≢ p → more q ≡ test q

more_none : (ranks : List ℕ) (test more : ℕ → Bool) (p : ℕ) → p < 33 → IsMore test more p → PassesNowhere test → IsOldest ranks more p
more_none ranks test more p low m none = record {
  below = low;
  passes = m.here;
  first = λ q low e. elim (cases_eq q p) [
    | inl same ↦ rw same (le-ltb _ _ (omega arith))
    | inr apart ↦ absurd (let f = sym (m.others q low apart) ∙ e in let g = none q low in cc)
  ];
}

more_less : (ranks : List ℕ) (test more : ℕ → Bool) (o p : ℕ) → p < 33 → IsMore test more p → IsOldest ranks test o
    → get_or ranks p 0 < get_or ranks o 0 → IsOldest ranks more p
more_less ranks test more o p low m best less = record {
  below = low;
  passes = m.here;
  first = λ q low e. elim (cases_eq q p) [
    | inl same ↦ rw same (le-ltb _ _ (omega arith))
    | inr apart ↦ (let g = ltb-false _ _ (best.first q low (sym (m.others q low apart) ∙ e)) in le-ltb _ _ (omega (arith, g, less)))
  ];
}

more_later : (ranks : List ℕ) (test more : ℕ → Bool) (o p : ℕ) → IsMore test more p → IsOldest ranks test o
    → get_or ranks o 0 ≤ get_or ranks p 0 → IsOldest ranks more o
more_later ranks test more o p m best least = record {
  below = best.below;
  passes = elim (cases_eq o p) [
    | inl same ↦ rw same m.here
    | inr apart ↦ m.others o best.below apart ∙ best.passes
  ];
  first = λ q low e. elim (cases_eq q p) [
    | inl same ↦ rw same (le-ltb _ _ least)
    | inr apart ↦ best.first q low (sym (m.others q low apart) ∙ e)
  ];
}

older_case : (ranks : List ℕ) (test more : ℕ → Bool) (o p : ℕ) (b : Bool) → p < 33 → IsMore test more p → IsOldest ranks test o
    → is_before ranks p o ≡ b → IsOldest ranks more (if b then p else o)
older_case ranks test more o p true low m best e = more_less ranks test more o p low m best (ltb-true _ _ e)
older_case ranks test more o p false low m best e = more_later ranks test more o p m best (ltb-false _ _ e)

more_best : (ranks : List ℕ) (test more : ℕ → Bool) (oldest : Option ℕ) (p : ℕ) → p < 33 → IsMore test more p → BestOf ranks test oldest
    → IsOldest ranks more (older ranks oldest p)
more_best ranks test more None p low m none = more_none ranks test more p low m none
more_best ranks test more (Some o) p low m best = older_case ranks test more o p (is_before ranks p o) low m best refl

-- ## The walk

pub walked_below : (ranks : List ℕ) (set rest n : ℕ) (oldest : Option ℕ) → IsWalked ranks set rest n oldest → IfSome oldest (λ p. p < 33)
walked_below ranks set rest n None walked = tt
walked_below ranks set rest n (Some p) walked = walked.best.below

pub walked_on : (ranks : List ℕ) (set rest new n p : ℕ) (oldest : Option ℕ) → IsWalked ranks set rest n oldest → IsFirstIn rest p
    → IsWithout rest new p → IsWalked ranks set new (n + 1) (Some (older ranks oldest p))
walked_on ranks set rest new n p oldest walked first less = record {
  gone = λ q low below. elim (cases_eq q p) [
    | inl same ↦ rw same less.here
    | inr apart ↦ less.others q below apart ∙ elim (cases_lt q p) [
      | inl lower ↦ first.before q lower
      | inr higher ↦ absurd (let e = walked.gone p (omega (arith, low, apart, higher)) first.below in let f = first.has in cc)
    ]
  ];
  within = λ q low e. elim (cases_eq q p) [
    | inl same ↦ absurd (let f = ap (has_bit new) same ∙ less.here in cc)
    | inr apart ↦ walked.within q low (sym (less.others q low apart) ∙ e)
  ];
  best = more_best ranks (is_out set rest) (is_out set new) oldest p first.below (record {
    here = and_from _ _ (walked.within p first.below first.has) (not_from_false _ less.here);
    others = λ q low apart. ap (λ b. has_bit set q && not b) (less.others q low apart);
  }) walked.best;
}

as_set : (b d : Bool) → d ≡ false → (b && not d) ≡ b
as_set true false e = refl
as_set false false e = refl
as_set b true e = absurd (cc)

ended : (ranks : List ℕ) (set rest : ℕ) (oldest : Option ℕ) → BestOf ranks (is_out set rest) oldest → PassesNowhere (has_bit rest)
    → BestOf ranks (has_bit set) oldest
ended ranks set rest None none gone = λ q low. sym (as_set (has_bit set q) (has_bit rest q) (gone q low)) ∙ none q low
ended ranks set rest (Some p) best gone = record {
  below = best.below;
  passes = (and_parts (has_bit set p) (not (has_bit rest p)) best.passes).0;
  first = λ q low e. best.first q low (as_set (has_bit set q) (has_bit rest q) (gone q low) ∙ e);
}

pub walked_end : (ranks : List ℕ) (set rest n : ℕ) (oldest : Option ℕ) → IsWalked ranks set rest n oldest → PassesNowhere (has_bit rest)
    → BestOf ranks (has_bit set) oldest
walked_end ranks set rest n oldest walked gone = ended ranks set rest oldest walked.best gone

pub walked_all : (ranks : List ℕ) (set rest n : ℕ) (oldest : Option ℕ) → 33 ≤ n → IsWalked ranks set rest n oldest
    → BestOf ranks (has_bit set) oldest
walked_all ranks set rest n oldest all walked = ended ranks set rest oldest walked.best (λ q low. walked.gone q (omega (arith, low, all)) low)

pub best_some : (ranks : List ℕ) (test : ℕ → Bool) (oldest : Option ℕ) → BestOf ranks test oldest → IfSome oldest (IsOldest ranks test)
best_some ranks test None best = tt
best_some ranks test (Some p) best = best

pub best_none : (ranks : List ℕ) (test : ℕ → Bool) (oldest : Option ℕ) → BestOf ranks test oldest → IfNone oldest (PassesNowhere test)
best_none ranks test None best = best
best_none ranks test (Some p) best = tt

-- ## The first place in a set

abbrev bit : ℕ → Bool
bit n = n == 1

no_bit : (set q : ℕ) → bit_at set q ≡ 0 → has_bit set q ≡ false
no_bit set q e = ap bit e

pub is_first : (set : ℕ) → set < 2 ^ 64 → trailing_zeros w64 set < 33 → IsFirstIn set (trailing_zeros w64 set)
is_first set bound low = elim (cases_eq set 0) [
  | inl none ↦ absurd (let e : trailing_zeros w64 set ≡ 64 = ap (trailing_zeros w64) none ∙ trailing_of_zero 64 in omega (arith, low, e))
  | inr some ↦ (let bits = bit_at-trailing_zeros w64 set (omega (arith, some)) bound in record {
    below = low;
    has = eq-eqb _ _ bits.1;
    before = λ q lower. no_bit set q (bits.2 q lower);
  })
]

pub is_nowhere : (set : ℕ) → set < 2 ^ 64 → 33 ≤ trailing_zeros w64 set → PassesNowhere (has_bit set)
is_nowhere set bound high = elim (cases_eq set 0) [
  | inl none ↦ λ q low. no_bit set q (ap (λ n. bit_at n q) none ∙ bit_at-zero q)
  | inr some ↦ (let bits = bit_at-trailing_zeros w64 set (omega (arith, some)) bound in λ q low. no_bit set q (bits.2 q (omega (arith, low, high))))
]

pub is_without : (s p : ℕ) → p < 33 → IsWithout s (bit_and s (bit_not w64 (1 * 2 ^ p % 2 ^ 64))) p
is_without s p low = record {
  here = ap bit (bit_at_clear_same w64 s p (omega (arith, low)));
  others = λ q low' apart. ap bit (bit_at_clear_other w64 s p (omega (arith, low)) q (omega (arith, low')) apart);
}
