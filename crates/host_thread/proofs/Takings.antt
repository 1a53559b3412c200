-- How many requests were taken, and how many tickets were given and polled.
use Rattle.std.proofs.Common.{◌≡◌, ◌<◌, ◌≤◌, ◌+◌, ◌-◌, ℕ, zero, suc, Bool, true, false, cond, List, [], ◌∷◌, ◌++◌, length, refl, sym, ap, ◌∙◌}
use Rattle.std.proofs.{Common.{append_assoc, append-nil, arith}, lemmas.List.{get_or-set_other, get_or-set_same, length-set}}
use Rattle.std.proofs.lemmas.List.Filters.{length-filter_more}
use Rattle.std.specs.Prelude.{slice_index_or, slice_set}
use Rattle.hba_driver.specs.HostTurns.{HostTurn, Took, Pushed, Ticked, Submitted, Polled, Put, given_in, polled_by, polled_in}
use Rattle.host_thread.specs.{declared.plan.State.State, Runs.{AreGiven, is_waiting, taken_before, was_taken}}
use Rattle.host_thread.specs.declared.plan.State.TheVariants as state

-- ---- turns, and then turns

pub given_append : (xs ys : List HostTurn) → given_in (xs ++ ys) ≡ given_in xs ++ given_in ys
given_append [] ys = refl
given_append (Took frame report ∷ xs) ys = given_append xs ys
given_append (Pushed frame ∷ xs) ys = given_append xs ys
given_append (Ticked acted ∷ xs) ys = given_append xs ys
given_append (Submitted dev request ticket ∷ xs) ys = ap (λ (l : List ℕ). ticket ∷ l) (given_append xs ys)
given_append (Polled completion ∷ xs) ys = given_append xs ys
given_append (Put at bytes ∷ xs) ys = given_append xs ys

pub polled_append : (xs ys : List HostTurn) → polled_in (xs ++ ys) ≡ polled_in xs ++ polled_in ys
polled_append [] ys = refl
polled_append (t ∷ xs) ys = ap (λ (l : List ℕ). polled_by t ++ l) (polled_append xs ys) ∙ sym (append_assoc (polled_by t) (polled_in xs) (polled_in ys))

module _ (turns more : List HostTurn) where
  pub given_none : given_in more ≡ [] → given_in (turns ++ more) ≡ given_in turns
  given_none none = given_append turns more ∙ ap (λ (l : List ℕ). given_in turns ++ l) none ∙ append-nil (given_in turns)

  pub polled_none : polled_in more ≡ [] → polled_in (turns ++ more) ≡ polled_in turns
  polled_none none = polled_append turns more ∙ ap (λ (l : List ℕ). polled_in turns ++ l) none ∙ append-nil (polled_in turns)

-- ---- another state at place i

heads : (b c : Bool) (x y : State) (xs ys : List State) → b ≡ c → length xs ≡ length ys → length (cond b (x ∷ xs) xs) ≡ length (cond c (y ∷ ys) ys)
heads true true x y xs ys same h = ap suc h
heads true false x y xs ys same h = absurd cc
heads false true x y xs ys same h = absurd cc
heads false false x y xs ys same h = h

-- changes nothing before it
pub taken_low : (k i : ℕ) (states : List State) (new : State) → k ≤ i → taken_before k (slice_set states i new) ≡ taken_before k states
taken_low zero i states new le = refl
taken_low (suc k) i [] new le = refl
taken_low (suc k) zero (s ∷ states) new le = absurd (omega (arith, le))
taken_low (suc k) (suc i) (s ∷ states) new le =
    heads (was_taken s) (was_taken s) s s _ _ refl (taken_low k i states new (omega (arith, le)))

-- and nothing at all if the request was taken before as it is now
pub taken_same : (k i : ℕ) (states : List State) (new d : State) → was_taken new ≡ was_taken (slice_index_or states i d)
    → taken_before k (slice_set states i new) ≡ taken_before k states
taken_same zero i states new d same = refl
taken_same (suc k) i [] new d same = refl
taken_same (suc k) zero (s ∷ states) new d same = heads (was_taken new) (was_taken s) new s _ _ same refl
taken_same (suc k) (suc i) (s ∷ states) new d same = heads (was_taken s) (was_taken s) s s _ _ refl (taken_same k i states new d same)

-- ---- one more place

taken_next : (states : List State) (i : ℕ) (d : State) (b : Bool) → i < length states → was_taken (slice_index_or states i d) ≡ b
    → taken_before (i + 1) states ≡ taken_before i states + cond b 1 0
taken_next states i d b lt is = length-filter_more was_taken states i d lt ∙ ap (λ c. taken_before i states + cond c 1 0) is

waits_untaken : (s : State) → is_waiting s ≡ true → was_taken s ≡ false
waits_untaken state.Waits h = refl
waits_untaken (state.Submitted ticket) h = absurd cc
waits_untaken (state.Ended end) h = absurd cc

module _ (states : List State) (i : ℕ) (later : (j : ℕ) (s : State) → i ≤ j → j < length states → was_taken (slice_index_or states j s) ≡ false) where
  taken_upto : (n : ℕ) → i + n ≤ length states → taken_before (i + n) states ≡ taken_before i states
  taken_upto zero le =
      let same : i + 0 ≡ i = omega arith in
      ap (λ k. taken_before k states) same
  taken_upto (suc n) le =
      let next : taken_before (i + n + 1) states ≡ taken_before (i + n) states + 0 =
      taken_next states (i + n) state.Waits false (omega (arith, le)) (later (i + n) state.Waits (omega arith) (omega (arith, le))) in
      let before : taken_before (i + n) states ≡ taken_before i states = taken_upto n (omega (arith, le)) in
      let same : i + suc n ≡ i + n + 1 = omega arith in
      let none : taken_before (i + n) states + 0 ≡ taken_before (i + n) states = omega arith in
      ap (λ k. taken_before k states) same ∙ next ∙ none ∙ before

-- if all from place i on wait, all that were taken lie before it
pub taken_all : (states : List State) (i : ℕ) → AreGiven i states → i ≤ length states → taken_before (length states) states ≡ taken_before i states
taken_all states i given le =
    let later : (j : ℕ) (s : State) → i ≤ j → j < length states → was_taken (slice_index_or states j s) ≡ false =
    (λ j s from lt. waits_untaken (slice_index_or states j s) (given.later j s from lt)) in
    let to_end : i + (length states - i) ≡ length states = omega (arith, le) in
    ap (λ k. taken_before k states) (sym to_end) ∙ taken_upto states i later (length states - i) (omega (arith, to_end))

-- the request at place i is taken, the first that waited
pub taken_one : (states : List State) (i : ℕ) (new : State) → AreGiven i states → i < length states → was_taken new ≡ true
    → taken_before (length (slice_set states i new)) (slice_set states i new) ≡ taken_before i states + 1
taken_one states i new given there is =
    let long : length (slice_set states i new) ≡ length states = length-set states i new in
    let later : (j : ℕ) (s : State) → i + 1 ≤ j → j < length (slice_set states i new) → was_taken (slice_index_or (slice_set states i new) j s) ≡ false =
    (λ j s from lt.
    ap was_taken (get_or-set_other states i j new s (λ same. absurd (omega (arith, same, from))))
    ∙ waits_untaken (slice_index_or states j s) (given.later j s (omega (arith, from)) (omega (arith, lt, long)))) in
    let to_end : i + 1 + (length (slice_set states i new) - (i + 1)) ≡ length (slice_set states i new) = omega (arith, there, long) in
    ap (λ k. taken_before k (slice_set states i new)) (sym to_end)
    ∙ taken_upto (slice_set states i new) (i + 1) later (length (slice_set states i new) - (i + 1)) (omega (arith, to_end))
    ∙ taken_next (slice_set states i new) i state.Waits true (omega (arith, there, long)) (ap was_taken (get_or-set_same states i new state.Waits there) ∙ is)
    ∙ ap (λ n. n + 1) (taken_low i i states new (omega arith))

-- ---- more before a later place

taken_rises : (states : List State) (i n : ℕ) → i + n ≤ length states → taken_before i states ≤ taken_before (i + n) states
taken_rises states i zero le =
    let same : i + 0 ≡ i = omega arith in
    let count : taken_before (i + 0) states ≡ taken_before i states = ap (λ k. taken_before k states) same in
    omega (arith, count)
taken_rises states i (suc n) le =
    let same : i + suc n ≡ i + n + 1 = omega arith in
    let count : taken_before (i + suc n) states ≡ taken_before (i + n + 1) states = ap (λ k. taken_before k states) same in
    let next = length-filter_more was_taken states (i + n) state.Waits (omega (arith, le)) in
    let before : taken_before i states ≤ taken_before (i + n) states = taken_rises states i n (omega (arith, le)) in
    omega (arith, count, next, before)

-- a request that was taken counts for each after it
pub taken_apart : (states : List State) (j i : ℕ) (d : State) → j < i → i ≤ length states → was_taken (slice_index_or states j d) ≡ true
    → taken_before j states < taken_before i states
taken_apart states j i d lt le is =
    let far : j + 1 + (i - (j + 1)) ≡ i = omega (arith, lt) in
    let next : taken_before (j + 1) states ≡ taken_before j states + 1 = taken_next states j d true (omega (arith, lt, le)) is in
    let rises : taken_before (j + 1) states ≤ taken_before (j + 1 + (i - (j + 1))) states =
    taken_rises states (j + 1) (i - (j + 1)) (omega (arith, le, far)) in
    let count : taken_before (j + 1 + (i - (j + 1))) states ≡ taken_before i states = ap (λ k. taken_before k states) far in
    omega (arith, next, rises, count)
