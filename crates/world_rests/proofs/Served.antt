-- For `each_takes_turns`. Among places that are served in turn, one that stays ready is served at least each sixteenth time.
use Rattle.std.proofs.Common.{◌≡◌, ◌≢◌, ℕ, zero, suc, ◌+◌, ◌*◌, ◌<◌, ◌≤◌, ◌==◌, Bool, IsTrue, List, [], ◌∷◌, ◌++◌, append_assoc, All, length, refl}
use Rattle.std.proofs.{Common.{sym, ap, subst, ◌∙◌, inl, inr, arith, length-append}, lemmas.{Bool.{cases_eq, eq-eqb, ne_eqb}, List.{append-nil}}}
use Rattle.std.proofs.lemmas.List.Elements.{All-append, filter-append}
use Rattle.std.specs.Prelude.{filter, if◌then◌else◌}
use Rattle.multiplier.specs.Arbiter.{IsPassedOver, IsServedInTurn, StaysReady, control_port}
use Rattle.multiplier.proofs.Door.{served_below}
use Rattle.world_rests.specs.Turns.{times_of}

-- a place that stays ready waits while at most 15 frames of others are served
abbrev pub WaitsFifteen : Type 0
WaitsFifteen =
    (last place : ℕ) (turns : List (ℕ → Bool)) (served : List ℕ) → last ≤ control_port → place ≤ control_port → IsServedInTurn last turns served
    → StaysReady place turns → IsPassedOver place served → length served ≤ 15

all_first : {X : Type 0} (P : X → Type 0) (x : X) (xs : List X) → All P (x ∷ xs) → P x
all_first P x xs all = all 0 x (omega arith)

all_rest : {X : Type 0} (P : X → Type 0) (x : X) (xs : List X) → All P (x ∷ xs) → All P xs
all_rest P x xs all = λ k d h. all (suc k) d (omega arith)

all_none : {X : Type 0} (P : X → Type 0) → All P []
all_none P = λ k d h. absurd (omega arith)

all_more : {X : Type 0} (P : X → Type 0) (x : X) (xs : List X) → P x → All P xs → All P (x ∷ xs)
all_more P x xs is all = by_index
  where
    by_index : All P (x ∷ xs)
    by_index zero d h = is
    by_index (suc k) d h = all k d (omega arith)

all_one : {X : Type 0} (P : X → Type 0) (x : X) → P x → All P (x ∷ [])
all_one P x is = all_more P x [] is (all_none P)

all_front : {X : Type 0} (P : X → Type 0) (xs ys : List X) → All P (xs ++ ys) → All P xs
all_front P [] ys all = all_none P
all_front P (x ∷ xs) ys all = all_more P x xs (all_first P x (xs ++ ys) all) (all_front P xs ys (all_rest P x (xs ++ ys) all))

all_back : {X : Type 0} (P : X → Type 0) (xs ys : List X) → All P (xs ++ ys) → All P ys
all_back P [] ys all = all
all_back P (x ∷ xs) ys all = all_back P xs ys (all_rest P x (xs ++ ys) all)

-- ---- a turn, and those before and after it

-- these places are served, and then this one, and then those
record Splits (last : ℕ) (turns : List (ℕ → Bool)) (front : List ℕ) (p : ℕ) (back : List ℕ) : Type 0 where
  before : List (ℕ → Bool)
  now : ℕ → Bool
  after : List (ℕ → Bool)
  is : turns ≡ before ++ now ∷ after
  first : IsServedInTurn last before front
  low : p ≤ 15
  rest : IsServedInTurn p after back

splits : (last : ℕ) (turns : List (ℕ → Bool)) (front : List ℕ) (p : ℕ) (back : List ℕ) → last ≤ 15 → IsServedInTurn last turns (front ++ p ∷ back) → Splits last turns front p back
unfolding IsServedInTurn
splits last [] [] p back low served = absurd served
splits last (t ∷ turns) [] p back low served =
    let below : p < 16 = served_below t last p low served.0 in
    record { before = []; now = t; after = turns; is = refl; first = tt; low = omega (arith, below); rest = served.1 }
splits last [] (q ∷ front) p back low served = absurd served
splits last (t ∷ turns) (q ∷ front) p back low served =
    let below : q < 16 = served_below t last q low served.0 in
    let s : Splits q turns front p back = splits q turns front p back (omega (arith, below)) served.1 in
    record { before = t ∷ s.before; now = s.now; after = s.after; is = ap (λ ts. t ∷ ts) s.is; first = (served.0, s.first); low = s.low; rest = s.rest }

-- ---- how often

times_own : (n : ℕ) (xs : List ℕ) → times_of n (n ∷ xs) ≡ suc (times_of n xs)
times_own n xs = ap (λ (b : Bool). length (if b then n ∷ filter (λ m. m == n) xs else filter (λ m. m == n) xs)) (eq-eqb n n refl)

times_other : (n p : ℕ) (xs : List ℕ) → p ≢ n → times_of n (p ∷ xs) ≡ times_of n xs
times_other n p xs other = ap (λ (b : Bool). length (if b then p ∷ filter (λ m. m == n) xs else filter (λ m. m == n) xs)) (ne_eqb p n other)

pub times_both : (n : ℕ) (xs ys : List ℕ) → times_of n (xs ++ ys) ≡ times_of n xs + times_of n ys
times_both n xs ys = ap length (filter-append (λ m. m == n) xs ys) ∙ length-append (filter (λ m. m == n) xs) (filter (λ m. m == n) ys)

-- the places of the first list are others, and have been served since the place was
served_often : WaitsFifteen → (n : ℕ) → n ≤ 15 → (places : List ℕ) (last : ℕ) (turns : List (ℕ → Bool)) (others : List ℕ) → last ≤ 15
    → IsServedInTurn last turns (others ++ places) → StaysReady n turns → IsPassedOver n others → length others + length places ≤ 16 * times_of n places + 15
served_often w n low [] last turns others l served ready passed =
    let most : length others ≤ 15 = w last n turns others l low (subst (IsServedInTurn last turns) (append-nil others) served) ready passed in
    omega (arith, most)
served_often w n low (p ∷ places) last turns others l served ready passed = elim (cases_eq p n) [
  | inl own ↦
      let s : Splits last turns others p places = splits last turns others p places l served in
      let stays : StaysReady n (s.before ++ s.now ∷ s.after) = subst (StaysReady n) s.is ready in
      let most : length others ≤ 15 = w last n s.before others l low s.first (all_front (λ (r : ℕ → Bool). IsTrue (r n)) s.before (s.now ∷ s.after) stays) passed in
      let later : StaysReady n s.after =
      all_rest (λ (r : ℕ → Bool). IsTrue (r n)) s.now s.after (all_back (λ (r : ℕ → Bool). IsTrue (r n)) s.before (s.now ∷ s.after) stays) in
      let rest : 0 + length places ≤ 16 * times_of n places + 15 =
      served_often w n low places p s.after [] s.low s.rest later (all_none (λ (other : ℕ). other ≢ n)) in
      let one : times_of n (p ∷ places) ≡ suc (times_of n places) = ap (λ (q : ℕ). times_of n (q ∷ places)) own ∙ times_own n places in
      omega (arith, most, rest, one)
  | inr other ↦
      let more : IsPassedOver n (others ++ p ∷ []) = All-append (λ (q : ℕ). q ≢ n) others (p ∷ []) passed (all_one (λ (q : ℕ). q ≢ n) p other) in
      let moved : IsServedInTurn last turns ((others ++ p ∷ []) ++ places) = subst (IsServedInTurn last turns) (sym (append_assoc others (p ∷ []) places)) served in
      let rest : length (others ++ p ∷ []) + length places ≤ 16 * times_of n places + 15 =
      served_often w n low places last turns (others ++ p ∷ []) l moved ready more in
      let long : length (others ++ p ∷ []) ≡ length others + 1 = length-append others (p ∷ []) in
      let one : times_of n (p ∷ places) ≡ times_of n places = times_other n p places other in
      omega (arith, rest, long, one)
]

pub served_each_sixteenth : WaitsFifteen → (n : ℕ) → n ≤ 15 → (last : ℕ) (turns : List (ℕ → Bool)) (places : List ℕ) → last ≤ 15 → IsServedInTurn last turns places
    → StaysReady n turns → length places ≤ 16 * times_of n places + 15
served_each_sixteenth w n low last turns places l served ready =
    let all : 0 + length places ≤ 16 * times_of n places + 15 = served_often w n low places last turns [] l served ready (all_none (λ (other : ℕ). other ≢ n)) in
    omega (arith, all)

-- the first of them are served in turn, too
record Front (last : ℕ) (turns : List (ℕ → Bool)) (front : List ℕ) : Type 0 where
  before : List (ℕ → Bool)
  after : List (ℕ → Bool)
  is : turns ≡ before ++ after
  first : IsServedInTurn last before front

front_of : (last : ℕ) (turns : List (ℕ → Bool)) (front back : List ℕ) → IsServedInTurn last turns (front ++ back) → Front last turns front
unfolding IsServedInTurn
front_of last turns [] back served = record { before = []; after = turns; is = refl; first = tt }
front_of last [] (q ∷ front) back served = absurd served
front_of last (t ∷ turns) (q ∷ front) back served =
    let s : Front q turns front = front_of q turns front back served.1 in
    record { before = t ∷ s.before; after = s.after; is = ap (λ ts. t ∷ ts) s.is; first = (served.0, s.first) }

pub front_each_sixteenth : WaitsFifteen → (n : ℕ) → n ≤ 15 → (last : ℕ) (turns : List (ℕ → Bool)) (front back : List ℕ) → last ≤ 15
    → IsServedInTurn last turns (front ++ back) → StaysReady n turns → length front ≤ 16 * times_of n front + 15
front_each_sixteenth w n low last turns front back l served ready =
    let s : Front last turns front = front_of last turns front back served in
    served_each_sixteenth w n low last s.before front l s.first
    (all_front (λ (r : ℕ → Bool). IsTrue (r n)) s.before s.after (subst (StaysReady n) s.is ready))
