-- A list with some of another's elements, in order.
use Rattle.std.proofs.Common.{◌≡◌, ◌≤◌, Bool, true, false, List, [], ◌∷◌, ◌++◌, length, refl, ap, ◌∙◌, inl, inr, arith}
use Rattle.std.specs.Prelude.{map, if◌then◌else◌}
use Rattle.machine_theorem.specs.{Crossing.Within, Identity.picks}

pub past : {A : Type 0} (xs : List A) (y : A) (ys : List A) → Within xs ys → Within xs (y ∷ ys)
past [] y ys h = tt
past (x ∷ xs) y ys h = inr h

skips : {A : Type 0} (xs ys zs : List A) → Within xs zs → Within xs (ys ++ zs)
skips xs [] zs h = h
skips xs (y ∷ ys) zs h = past xs y (ys ++ zs) (skips xs ys zs h)

pub all_within : {A : Type 0} (xs : List A) → Within xs xs
all_within [] = tt
all_within (x ∷ xs) = inl (refl, all_within xs)

pub first_within : {A : Type 0} (xs more : List A) → Within xs (xs ++ more)
first_within [] more = tt
first_within (x ∷ xs) more = inl (refl, first_within xs more)

pub within_both : {A : Type 0} (xs ys us vs : List A) → Within xs ys → Within us vs → Within (xs ++ us) (ys ++ vs)
within_both [] ys us vs a b = skips us ys vs b
within_both (x ∷ xs) [] us vs a b = absurd a
within_both (x ∷ xs) (y ∷ ys) us vs (inl h) b = inl (h.0, within_both xs ys us vs h.1 b)
within_both (x ∷ xs) (y ∷ ys) us vs (inr h) b = inr (within_both (x ∷ xs) ys us vs h b)

pub within_then : {A : Type 0} (xs ys zs : List A) → Within xs ys → Within ys zs → Within xs zs
within_then [] ys zs a b = tt
within_then (x ∷ xs) [] zs a b = absurd a
within_then (x ∷ xs) (y ∷ ys) [] a b = absurd b
within_then (x ∷ xs) (y ∷ ys) (z ∷ zs) a (inr b) = inr (within_then (x ∷ xs) (y ∷ ys) zs a b)
within_then (x ∷ xs) (y ∷ ys) (z ∷ zs) (inl a) (inl b) = inl (a.0 ∙ b.0, within_then xs ys zs a.1 b.1)
within_then (x ∷ xs) (y ∷ ys) (z ∷ zs) (inr a) (inl b) = inr (within_then (x ∷ xs) ys zs a b.1)

pub within_map : {A B : Type 0} (f : A → B) (xs ys : List A) → Within xs ys → Within (map f xs) (map f ys)
within_map f [] ys h = tt
within_map f (x ∷ xs) [] h = absurd h
within_map f (x ∷ xs) (y ∷ ys) (inl h) = inl (ap f h.0, within_map f xs ys h.1)
within_map f (x ∷ xs) (y ∷ ys) (inr h) = inr (within_map f (x ∷ xs) ys h)

-- ---- those that pass a test

if_both : {A : Type 0} (b : Bool) (x : A) (us vs ws : List A) → us ≡ vs ++ ws → (if b then x ∷ us else us) ≡ (if b then x ∷ vs else vs) ++ ws
if_both true x us vs ws e = ap (λ l. x ∷ l) e
if_both false x us vs ws e = e

pub picks_both : {A : Type 0} (p : A → Bool) (xs ys : List A) → picks p (xs ++ ys) ≡ picks p xs ++ picks p ys
picks_both p [] ys = refl
picks_both p (x ∷ xs) ys = if_both (p x) x (picks p (xs ++ ys)) (picks p xs) (picks p ys) (picks_both p xs ys)

same_if : {A : Type 0} (b c : Bool) (x y : A) (xs ys : List A) → b ≡ c → x ≡ y → Within xs ys → Within (if b then x ∷ xs else xs) (if c then y ∷ ys else ys)
same_if true true x y xs ys e same h = inl (same, h)
same_if true false x y xs ys e same h = absurd (cc)
same_if false true x y xs ys e same h = absurd (cc)
same_if false false x y xs ys e same h = h

past_if : {A : Type 0} (b : Bool) (y : A) (xs ys : List A) → Within xs ys → Within xs (if b then y ∷ ys else ys)
past_if true y xs ys h = past xs y ys h
past_if false y xs ys h = h

pub within_picks : {A : Type 0} (p : A → Bool) (xs ys : List A) → Within xs ys → Within (picks p xs) (picks p ys)
within_picks p [] ys h = tt
within_picks p (x ∷ xs) [] h = absurd h
within_picks p (x ∷ xs) (y ∷ ys) (inl h) = same_if (p x) (p y) x y (picks p xs) (picks p ys) (ap p h.0) h.0 (within_picks p xs ys h.1)
within_picks p (x ∷ xs) (y ∷ ys) (inr h) = past_if (p y) y (picks p (x ∷ xs)) (picks p ys) (within_picks p (x ∷ xs) ys h)

-- ---- how many

pub fewer : {A : Type 0} (xs ys : List A) → Within xs ys → length xs ≤ length ys
fewer [] ys h = omega arith
fewer (x ∷ xs) [] h = absurd h
fewer (x ∷ xs) (y ∷ ys) (inl h) = let less = fewer xs ys h.1 in omega (arith, less)
fewer (x ∷ xs) (y ∷ ys) (inr h) = let less = fewer (x ∷ xs) ys h in omega (arith, less)

-- it has all of them if it has as many
pub all_of : {A : Type 0} (xs ys : List A) → Within xs ys → length ys ≤ length xs → xs ≡ ys
all_of [] [] h few = refl
all_of [] (y ∷ ys) h few = absurd (omega (arith, few))
all_of (x ∷ xs) [] h few = absurd h
all_of (x ∷ xs) (y ∷ ys) (inl h) few = ap (λ a. a ∷ xs) h.0 ∙ ap (λ l. y ∷ l) (all_of xs ys h.1 (omega (arith, few)))
all_of (x ∷ xs) (y ∷ ys) (inr h) few = let less = fewer (x ∷ xs) ys h in absurd (omega (arith, less, few))
