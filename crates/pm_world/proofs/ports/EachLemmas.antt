-- For `connections_follow`. What holds for each element of a list, and tests that no element passes.
use Rattle.std.proofs.{Common.{◌≡◌, ◌⊎◌, Bool, true, false, List, [], ◌∷◌, ◌++◌, refl, sym, ◌∙◌, inl, inr}, lemmas.Bool.or_parts}
use Rattle.std.specs.{Prelude.◌||◌, List.list_any}

abbrev pub Each : {X : Type 0} → (X → Type 0) → List X → Type 0
Each P [] = Prim.Unit {0}
Each P (x ∷ xs) = P x × Each P xs

pub each_map : {X : Type 0} (P Q : X → Type 0) (xs : List X) → ((x : X) → P x → Q x) → Each P xs → Each Q xs
each_map P Q [] f h = tt
each_map P Q (x ∷ xs) f h = (f x h.0, each_map P Q xs f h.1)

pub each_more : {X : Type 0} (P : X → Type 0) (xs : List X) (y : X) → Each P xs → P y → Each P (xs ++ y ∷ [])
each_more P [] y h last = (last, tt)
each_more P (x ∷ xs) y h last = (h.0, each_more P xs y h.1 last)

pub each_front : {X : Type 0} (P : X → Type 0) (xs ys : List X) → Each P (xs ++ ys) → Each P xs
each_front P [] ys h = tt
each_front P (x ∷ xs) ys h = (h.0, each_front P xs ys h.1)

pub each_back : {X : Type 0} (P : X → Type 0) (xs ys : List X) → Each P (xs ++ ys) → Each P ys
each_back P [] ys h = h
each_back P (x ∷ xs) ys h = each_back P xs ys h.1

pub each_last : {X : Type 0} (P : X → Type 0) (xs : List X) (y : X) → Each P (xs ++ y ∷ []) → P y
each_last P [] y h = h.0
each_last P (x ∷ xs) y h = each_last P xs y h.1

-- none passes a test
abbrev pub Nothing : {X : Type 0} → (X → Bool) → List X → Type 0
Nothing test xs = Each (λ x. test x ≡ false) xs

-- one element does
abbrev pub Anything : {X : Type 0} → (X → Bool) → List X → Type 0
Anything test [] = ⊥
Anything test (x ∷ xs) = (test x ≡ true) ⊎ Anything test xs

pub none_of : {X : Type 0} (test : X → Bool) (xs : List X) → list_any test xs ≡ false → Nothing test xs
none_of test [] h = tt
none_of test (x ∷ xs) h = let both = or_parts (test x) (list_any test xs) h in (both.0, none_of test xs both.1)

pub some_or_none : {X : Type 0} (test : X → Bool) (xs : List X) → Anything test xs ⊎ Nothing test xs
some_or_none test [] = inr tt
some_or_none test (x ∷ xs) = by_test (test x) refl (some_or_none test xs)
  where
    by_test : (b : Bool) → test x ≡ b → Anything test xs ⊎ Nothing test xs → Anything test (x ∷ xs) ⊎ Nothing test (x ∷ xs)
    by_test true is rest = inl (inl is)
    by_test false is (inl some) = inl (inr some)
    by_test false is (inr none) = inr (is, none)

pub not_both : {X : Type 0} (test : X → Bool) (xs : List X) → Anything test xs → Nothing test xs → ⊥
not_both test [] some none = absurd some
not_both test (x ∷ xs) (inl here) none = let wrong : true ≡ false = sym here ∙ none.0 in absurd (cc)
not_both test (x ∷ xs) (inr later) none = not_both test xs later none.1

pub some_more : {X : Type 0} (test : X → Bool) (xs : List X) (y : X) → Anything test (xs ++ y ∷ []) → Anything test xs ⊎ (test y ≡ true)
some_more test [] y (inl here) = inr here
some_more test [] y (inr later) = absurd later
some_more test (x ∷ xs) y (inl here) = inl (inl here)
some_more test (x ∷ xs) y (inr later) = elim (some_more test xs y later) [
  | inl some ↦ inl (inr some)
  | inr last ↦ inr last
]

-- a list of one element
pub any_one : {X : Type 0} (test : X → Bool) (x : X) → list_any test (x ∷ []) ≡ test x
any_one test x = by_test (test x)
  where
    by_test : (b : Bool) → (b || false) ≡ b
    by_test true = refl
    by_test false = refl
