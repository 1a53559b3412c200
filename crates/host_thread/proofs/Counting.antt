-- How many requests are under way, and what that says of all.
use Rattle.std.proofs.Common.{◌≡◌, ◌<◌, ◌≤◌, ◌+◌, ◌-◌, ℕ, zero, suc, Bool, true, false, cond, List, [], ◌∷◌, length, replicate, refl, sym, ap, ◌∙◌}
use Rattle.std.proofs.{Common.{inl, inr, arith}, lemmas.Bool.cases_lt}
use Rattle.std.specs.{Prelude.{◌||◌, filter, nat_lt, slice_index_or, slice_set}, List.list_any}
use Rattle.hba_driver.specs.declared.request.Ticket.{Ticket}
use Rattle.host_thread.specs.{declared.plan.{Ended.Ended, State.State}, Runs.{AreGiven, count_submitted, is_open, is_submitted, is_waiting}}
use Rattle.host_thread.specs.declared.plan.State.TheVariants as state
use Rattle.host_thread.proofs.Requests.{waits_there}

abbrev one_if : Bool → ℕ
one_if true = 1
one_if false = 0

long_cond : (b : Bool) (x : State) (xs : List State) → length (cond b (x ∷ xs) xs) ≡ length xs + one_if b
long_cond true x xs = omega arith
long_cond false x xs = omega arith

-- another state at place i
pub count_set : (states : List State) (i : ℕ) (new d : State) → i < length states
    → count_submitted (slice_set states i new) + one_if (is_submitted (slice_index_or states i d)) ≡ count_submitted states + one_if (is_submitted new)
count_set [] i new d lt = absurd (omega (arith, lt))
count_set (s ∷ states) zero new d lt =
    let one = long_cond (is_submitted new) new (filter is_submitted states) in
    let two = long_cond (is_submitted s) s (filter is_submitted states) in
    omega (arith, one, two)
count_set (s ∷ states) (suc i) new d lt =
    let rest = count_set states i new d (omega (arith, lt)) in
    let one = long_cond (is_submitted s) s (filter is_submitted (slice_set states i new)) in
    let two = long_cond (is_submitted s) s (filter is_submitted states) in
    omega (arith, rest, one, two)

-- one is taken that was not, or ends so
module _ (states : List State) (i : ℕ) (new d : State) (lt : i < length states) where
  pub count_more : is_submitted (slice_index_or states i d) ≡ false → is_submitted new ≡ true
      → count_submitted (slice_set states i new) ≡ count_submitted states + 1
  count_more was is =
      let set = count_set states i new d lt in
      let one : one_if (is_submitted (slice_index_or states i d)) ≡ 0 = ap one_if was in
      let two : one_if (is_submitted new) ≡ 1 = ap one_if is in
      omega (arith, set, one, two)

  pub count_same : is_submitted (slice_index_or states i d) ≡ false → is_submitted new ≡ false
      → count_submitted (slice_set states i new) ≡ count_submitted states
  count_same was is =
      let set = count_set states i new d lt in
      let one : one_if (is_submitted (slice_index_or states i d)) ≡ 0 = ap one_if was in
      let two : one_if (is_submitted new) ≡ 0 = ap one_if is in
      omega (arith, set, one, two)

  pub count_less : is_submitted (slice_index_or states i d) ≡ true → is_submitted new ≡ false
      → count_submitted states ≡ count_submitted (slice_set states i new) + 1
  count_less was is =
      let set = count_set states i new d lt in
      let one : one_if (is_submitted (slice_index_or states i d)) ≡ 1 = ap one_if was in
      let two : one_if (is_submitted new) ≡ 0 = ap one_if is in
      omega (arith, set, one, two)

some : (n : ℕ) → nat_lt 0 (suc n) ≡ true
some n =
    let lt : 0 < suc n = omega arith in
    grind (arith, lt)

-- one is under way if the count is not 0
pub any_counted : (states : List State) → list_any is_submitted states ≡ nat_lt 0 (count_submitted states)
any_counted [] = refl
any_counted (s ∷ states) = first (is_submitted s) (any_counted states)
  where
    first : (b : Bool) → list_any is_submitted states ≡ nat_lt 0 (count_submitted states)
        → (b || list_any is_submitted states) ≡ nat_lt 0 (length (cond b (s ∷ filter is_submitted states) (filter is_submitted states)))
    first true rest = sym (some (length (filter is_submitted states)))
    first false rest = rest

-- none is if all wait
pub none_submitted : (n : ℕ) → 0 ≡ count_submitted (replicate n state.Waits)
none_submitted zero = refl
none_submitted (suc n) = none_submitted n

pub at_most_all : (states : List State) → count_submitted states ≤ length states
at_most_all [] = omega arith
at_most_all (s ∷ states) =
    let rest = at_most_all states in
    let one = long_cond (is_submitted s) s (filter is_submitted states) in
    let few = small (is_submitted s) in
    omega (arith, rest, one, few)
  where
    small : (b : Bool) → one_if b ≤ 1
    small true = omega arith
    small false = omega arith

-- ---- what is open

open_or : (s : State) → is_waiting s ≡ false → is_open s ≡ is_submitted s
open_or state.Waits h = absurd cc
open_or (state.Submitted ticket) h = refl
open_or (state.Ended end) h = refl

waits_open : (s : State) → is_waiting s ≡ true → is_open s ≡ true
waits_open state.Waits h = refl
waits_open (state.Submitted ticket) h = absurd cc
waits_open (state.Ended end) h = absurd cc

same_any : (states : List State) → ((i : ℕ) (s : State) → i < length states → is_waiting (slice_index_or states i s) ≡ false)
    → list_any is_open states ≡ list_any is_submitted states
same_any [] given = refl
same_any (x ∷ states) given =
    ap (λ b. b || list_any is_open states) (open_or x (given zero state.Waits (omega arith)))
    ∙ ap (λ b. is_submitted x || b) (same_any states (λ i s lt. given (suc i) s (omega (arith, lt))))

any_at : (states : List State) (i : ℕ) (d : State) → i < length states → is_open (slice_index_or states i d) ≡ true → list_any is_open states ≡ true
any_at [] i d lt is = absurd (omega (arith, lt))
any_at (x ∷ states) zero d lt is = ap (λ b. b || list_any is_open states) is
any_at (x ∷ states) (suc i) d lt is = or_true (is_open x) (list_any is_open states) (any_at states i d (omega (arith, lt)) is)
  where
    or_true : (a b : Bool) → b ≡ true → (a || b) ≡ true
    or_true true b h = refl
    or_true false b h = h

-- One is open if one was not given yet, or is under way.
pub open_counted : (next : ℕ) (states : List State) → AreGiven next states
    → list_any is_open states ≡ (nat_lt next (length states) || nat_lt 0 (count_submitted states))
open_counted next states given = elim (cases_lt next (length states)) [
  | inl lt ↦
      let yes : nat_lt next (length states) ≡ true = grind (arith, lt) in
      any_at states next state.Waits lt (waits_open (slice_index_or states next state.Waits) (given.later next state.Waits (omega arith) lt))
      ∙ ap (λ b. b || nat_lt 0 (count_submitted states)) (sym yes)
  | inr le ↦
      let no : nat_lt next (length states) ≡ false = grind (arith, le) in
      same_any states (λ i s lt. given.before i s (omega (arith, lt, le)) lt) ∙ any_counted states
      ∙ ap (λ b. b || nat_lt 0 (count_submitted states)) (sym no)
]

-- ---- the count of a worker

module _ (states : List State) (i n : ℕ) (counted : n ≡ count_submitted states) (lt : i < length states) where
  -- the next request is taken
  pub one_more : (ticket : Ticket) → AreGiven i states → n + 1 ≡ count_submitted (slice_set states i (state.Submitted ticket))
  one_more ticket given =
      let more = count_more states i (state.Submitted ticket) state.Waits lt (ap is_submitted (waits_there states i state.Waits given lt)) refl in
      omega (arith, counted, more)

  -- or it is refused
  pub as_many : (end : Ended) → AreGiven i states → n ≡ count_submitted (slice_set states i (state.Ended end))
  as_many end given =
      let same = count_same states i (state.Ended end) state.Waits lt (ap is_submitted (waits_there states i state.Waits given lt)) refl in
      counted ∙ sym same

  module _ (ticket : Ticket) (was : slice_index_or states i state.Waits ≡ state.Submitted ticket) where
    -- one that was taken has ended
    less : (end : Ended) → n ≡ count_submitted (slice_set states i (state.Ended end)) + 1
    less end = counted ∙ count_less states i (state.Ended end) state.Waits lt (ap is_submitted was) refl

    pub one_less : (end : Ended) → n - 1 ≡ count_submitted (slice_set states i (state.Ended end))
    one_less end = let is = less end in omega (arith, is)

    pub there_is_one : (end : Ended) → 1 ≤ n
    there_is_one end = let is = less end in omega (arith, is)

-- ---- what waits

-- only one request is the next
pub one_next : (states : List State) (i j : ℕ) → AreGiven i states → AreGiven j states → i < length states → j < length states → i ≡ j
one_next states i j one other less also = elim (cases_lt i j) [
  | inl before ↦ absurd (apart (sym (one.later i state.Waits (omega arith) less) ∙ other.before i state.Waits before less))
  | inr after ↦ elim (cases_lt j i) [
    | inl before ↦ absurd (apart (sym (other.later j state.Waits (omega arith) also) ∙ one.before j state.Waits before also))
    | inr not ↦ omega (arith, after, not)
  ]
]
  where
    apart : true ≡ false → ⊥
    apart e = absurd cc
