-- How the parts of a value are saved, one after another. A caller's own type is saved as its parts are.
use Rattle.std.specs.Prelude.{◌≡◌, ℕ, ◌<◌, ◌^◌, List, Bool, Option, length}
use Rattle.std.specs.List.{AllByRecursion}
use Rattle.std.proofs.Common.{sym, ◌∙◌}
use Rattle.saved_state.specs.State.{IsToldApart, KeepsOption, all_apart, bool_apart, list_apart, number_apart, option_apart, pair_apart, parts_apart, put_all, put_bool, put_list, put_number, put_option, put_pair, put_three, three_apart}

-- the words of values, what the values keep to, and that words are those of one value
pub record Parts (A : Type 0) : Type 1 where
  pub put : A → List ℕ → List ℕ
  pub keeps : A → Type 0
  pub apart : IsToldApart put keeps

-- numbers of so many bits
abbrev pub number : ℕ → Parts ℕ
number bits = record { put = put_number; keeps = λ n. n < 2 ^ bits; apart = λ a b x y k l e. number_apart a b x y e }

abbrev pub flag : Parts Bool
flag = record { put = put_bool; keeps = λ _. Unit {0}; apart = λ a b x y k l e. bool_apart a b x y e }

abbrev pub maybe : {A : Type 0} → Parts A → Parts (Option A)
maybe p = record { put = put_option p.put; keeps = KeepsOption p.keeps; apart = option_apart p.put p.keeps p.apart }

-- a list: how many there are, and then each
abbrev pub each : {A : Type 0} → Parts A → Parts (List A)
each p = record { put = put_list p.put; keeps = AllByRecursion p.keeps; apart = list_apart p.put p.keeps p.apart }

-- so many of them
abbrev pub array : {A : Type 0} → ℕ → Parts A → Parts (List A)
array count p = record {
  put = put_all p.put;
  keeps = λ all. (length all ≡ count) × AllByRecursion p.keeps all;
  apart = λ a b x y k l e. all_apart p.put p.keeps p.apart a b x y (k.0 ∙ sym l.0) k.1 l.1 e;
}

abbrev pub both : {A B : Type 0} → Parts A → Parts B → Parts (A × B)
both p q = record {
  put = put_pair p.put q.put;
  keeps = λ pair. p.keeps pair.0 × q.keeps pair.1;
  apart = pair_apart p.put p.keeps p.apart q.put q.keeps q.apart;
}

abbrev pub three : {A B C : Type 0} → Parts A → Parts B → Parts C → Parts (A × B × C)
three p q r = record {
  put = put_three p.put q.put r.put;
  keeps = λ t. p.keeps t.0 × q.keeps t.1 × r.keeps t.2;
  apart = three_apart p.put p.keeps p.apart q.put q.keeps q.apart r.put r.keeps r.apart;
}

-- a value that has no rule beside those of its parts, which say all of it
abbrev pub seen_as : {A B : Type 0} → Parts A → (parts : B → A) → ((v w : B) → parts v ≡ parts w → v ≡ w) → Parts B
seen_as p parts same = record {
  put = λ v rest. p.put (parts v) rest;
  keeps = λ v. p.keeps (parts v);
  apart = parts_apart p.put p.keeps (λ v. p.keeps (parts v)) parts p.apart (λ v k. k) same;
}

-- a value with a rule, by which its parts keep to theirs
abbrev pub ruled : {A B : Type 0} → (p : Parts A) → (parts : B → A) → ((v w : B) → parts v ≡ parts w → v ≡ w)
    → (Keeps : B → Type 0) → ((v : B) → Keeps v → p.keeps (parts v)) → Parts B
ruled p parts same Keeps each = record {
  put = λ v rest. p.put (parts v) rest;
  keeps = Keeps;
  apart = parts_apart p.put p.keeps Keeps parts p.apart each same;
}
