-- What a disk heard behind the last command, of a link that keeps the order: some of what was sent behind it, in order.
use Rattle.std.proofs.Common.{◌≡◌, ℕ, ◌≤◌, Bool, true, false, List, [], ◌∷◌, ◌++◌, drop, length, map, refl, sym, ap, subst, ◌∙◌, inl, inr, arith, All}
use Rattle.std.proofs.lemmas.{Bool.{false≢true}, Grind.{flat_map-append}, List.{length-append, Elements.{All-head, All-tail}}}
use Rattle.std.specs.{Prelude.{if◌then◌else◌}, List.flat_map}
use Rattle.sata_disk_laws.specs.Calls.{Call, Hears}
use Rattle.machine_laws.specs.Falling.{heard_by}
use Rattle.machine_theorem.specs.{Crossing.Within, DataCame.IsDataFis, Identity.picks, Writes.{AreHeard, payloads}}
use Rattle.machine_theorem.proofs.{DataDown.{as_heard, is_data, is_payload}, OneConn.no_length, Sent.marked_rest, Within.{all_within, past}}
use Rattle.machine_theorem.proofs.Within.{picks_both, within_both, within_then}

-- ---- behind an element

long_if : {A : Type 0} (b : Bool) (x : A) (xs : List A) → length xs ≤ length (if b then x ∷ xs else xs)
long_if true x xs = omega arith
long_if false x xs = omega arith

long_one : {A : Type 0} (b : Bool) (x : A) (xs : List A) → b ≡ true → 1 ≤ length (if b then x ∷ xs else xs)
long_one true x xs e = omega arith
long_one false x xs e = absurd (false≢true e)

less_if : {A : Type 0} (b c : Bool) (x y : A) (xs ys : List A) → b ≡ c → length (if c then y ∷ ys else ys) ≤ length (if b then x ∷ xs else xs) → length ys ≤ length xs
less_if true true x y xs ys e few = omega (arith, few)
less_if true false x y xs ys e few = absurd (cc)
less_if false true x y xs ys e few = absurd (cc)
less_if false false x y xs ys e few = few

-- an element behind as many that pass a test as there are in the longer list before them
pub tail_within : {A : Type 0} (p : A → Bool) (hs : List A) (b : A) (ls ss ts : List A) → p b ≡ true → length (picks p ss) ≤ length (picks p hs) → Within (hs ++ b ∷ ls) (ss ++ ts)
    → Within (b ∷ ls) ts
tail_within p hs b ls [] ts is few h = within_then (b ∷ ls) (hs ++ b ∷ ls) ts (within_both [] hs (b ∷ ls) (b ∷ ls) tt (all_within (b ∷ ls))) h
tail_within p [] b ls (s ∷ ss) ts is few (inl h) = let some = long_one (p s) s (picks p ss) (ap p (sym h.0) ∙ is) in absurd (omega (arith, few, some))
tail_within p [] b ls (s ∷ ss) ts is few (inr h) = let less = long_if (p s) s (picks p ss) in tail_within p [] b ls ss ts is (omega (arith, few, less)) h
tail_within p (x ∷ hs) b ls (s ∷ ss) ts is few (inl h) = tail_within p hs b ls ss ts is (less_if (p x) (p s) x s (picks p hs) (picks p ss) (ap p h.0) few) h.1
tail_within p (x ∷ hs) b ls (s ∷ ss) ts is few (inr h) = let less = long_if (p s) s (picks p ss) in tail_within p (x ∷ hs) b ls ss ts is (omega (arith, few, less)) h

-- and what is behind it
pub behind_within : {A : Type 0} (b : A) (ls : List A) (t : A) (ts : List A) → Within (b ∷ ls) (t ∷ ts) → Within ls ts
behind_within b ls t ts (inl h) = h.1
behind_within b ls t ts (inr h) = within_then ls (b ∷ ls) ts (past ls b ls (all_within ls)) h

-- ---- Data that are heard

pick_true : (b : Bool) (f : List ℕ) (rest : List (List ℕ)) → b ≡ true → (if b then f ∷ rest else rest) ≡ f ∷ rest
pick_true true f rest e = refl
pick_true false f rest e = absurd (false≢true e)

pub data_heard : (fises : List (List ℕ)) (calls : List Call) → AreHeard fises calls → All IsDataFis fises → Within fises (picks is_data (flat_map heard_by calls))
data_heard [] calls heard each = tt
data_heard (f ∷ rest) calls heard each =
    let d : IsDataFis f = All-head IsDataFis f rest each in
    let front : List (List ℕ) = picks is_data (flat_map heard_by heard.before) in
    let back : List (List ℕ) = picks is_data (flat_map heard_by heard.later) in
    let is : picks is_data (flat_map heard_by calls) ≡ front ++ f ∷ back =
    ap (λ (l : List Call). picks is_data (flat_map heard_by l)) heard.is ∙ ap (picks is_data) (flat_map-append heard_by heard.before (Hears f ∷ heard.later))
    ∙ picks_both is_data (flat_map heard_by heard.before) (f ∷ flat_map heard_by heard.later) ∙ ap (λ (l : List (List ℕ)). front ++ l) (pick_true (is_data f) f back (ap is_payload d.viewed)) in
    subst (λ (l : List (List ℕ)). Within (f ∷ rest) l) (sym is)
    (within_both [] front (f ∷ rest) (f ∷ back) tt (inl (refl, data_heard rest heard.later heard.after (All-tail IsDataFis f rest each))))

-- ---- their payload

pub marked_payloads : (frames : List (List ℕ)) → payloads (map as_heard frames) ≡ payloads frames
marked_payloads [] = refl
marked_payloads (f ∷ rest) = ap (λ (x : List ℕ). x ++ payloads (map as_heard rest)) (marked_rest f 0) ∙ ap (λ (x : List ℕ). drop 4 f ++ x) (marked_payloads rest)

pub fewer_bytes : (xs ys : List (List ℕ)) → Within xs ys → length (payloads xs) ≤ length (payloads ys)
fewer_bytes [] ys h = omega arith
fewer_bytes (x ∷ xs) [] h = absurd h
fewer_bytes (x ∷ xs) (y ∷ ys) (inl h) =
    let less = fewer_bytes xs ys h.1 in
    let one = length-append (drop 4 x) (payloads xs) in
    let two = length-append (drop 4 y) (payloads ys) in
    let same = ap (λ (l : List ℕ). length (drop 4 l)) h.0 in
    omega (arith, less, one, two, same)
fewer_bytes (x ∷ xs) (y ∷ ys) (inr h) = let less = fewer_bytes (x ∷ xs) ys h in let two = length-append (drop 4 y) (payloads ys) in omega (arith, less, two)

-- some of the Data that have as many bytes have all of them
pub all_bytes : (xs ys : List (List ℕ)) → Within xs ys → length (payloads ys) ≤ length (payloads xs) → payloads xs ≡ payloads ys
all_bytes [] ys h many = sym (no_length (payloads ys) (omega (arith, many)))
all_bytes (x ∷ xs) [] h many = absurd h
all_bytes (x ∷ xs) (y ∷ ys) (inl h) many =
    let one = length-append (drop 4 x) (payloads xs) in
    let two = length-append (drop 4 y) (payloads ys) in
    let same = ap (λ (l : List ℕ). length (drop 4 l)) h.0 in
    ap (λ (l : List ℕ). drop 4 l ++ payloads xs) h.0 ∙ ap (λ (l : List ℕ). drop 4 y ++ l) (all_bytes xs ys h.1 (omega (arith, many, one, two, same)))
all_bytes (x ∷ xs) (y ∷ ys) (inr h) many =
    let less = fewer_bytes (x ∷ xs) ys h in
    let two = length-append (drop 4 y) (payloads ys) in
    let none : drop 4 y ≡ [] = no_length (drop 4 y) (omega (arith, many, less, two)) in
    all_bytes (x ∷ xs) ys h (omega (arith, many, two)) ∙ ap (λ (l : List ℕ). l ++ payloads ys) (sym none)
