-- What is said of requests, and whose turn it is.
use Rattle.std.proofs.Common.{◌≡◌, ◌<◌, ◌≤◌, ◌+◌, ℕ, zero, suc, Bool, true, false, List, [], ◌∷◌, ◌++◌, length, replicate, refl, sym, ap, ◌∙◌, subst}
use Rattle.std.proofs.{Common.{◌⊎◌, inl, inr, append_assoc, arith}, lemmas.{Bool.{cases_eq, cases_lt}, List.{get_or-replicate, get_or-set_other}}}
use Rattle.std.proofs.lemmas.List.{get_or-set_same, length-replicate, length-set, Elements.{Contains-append_left}}
use Rattle.std.specs.{Prelude.{◌==◌, ◌||◌, slice_index_or, slice_set}, List.list_any}
use Rattle.host_memory.specs.Memory.{Memory}
use Rattle.hba_driver.specs.{HostTurns.{HostTurn, Submitted, Polled, given_in, polled_in}, declared.request.Outcome.Outcome}
use Rattle.hba_driver.specs.declared.request.{SubmitError.SubmitError, Ticket.Ticket}
use Rattle.host_thread.specs.declared.plan.Ended.TheVariants as ended
use Rattle.host_thread.specs.{declared.plan.{Planned.Planned, State.State}, Runs.{AreGiven, AreTrue, HasBegun, HasEnded, IsNext, IsPast, IsTrue}}
use Rattle.host_thread.specs.Runs.{WasRefused, WasTaken, is_submitted, is_waiting, taken_before, was_taken}
use Rattle.host_thread.specs.declared.plan.State.TheVariants as state
use Rattle.host_thread.proofs.Takings.{given_none, polled_none, taken_all, taken_low, taken_same}

-- ---- lists

pub any_default : {X : Type 0} (xs : List X) (i : ℕ) (d e : X) → i < length xs → slice_index_or xs i d ≡ slice_index_or xs i e
any_default [] i d e lt = absurd (omega (arith, lt))
any_default (x ∷ xs) zero d e lt = refl
any_default (x ∷ xs) (suc i) d e lt = any_default xs i d e (omega (arith, lt))

-- if none has the property, none at any place has
none_at : {X : Type 0} (test : X → Bool) (xs : List X) (i : ℕ) (d : X) → list_any test xs ≡ false → i < length xs
    → test (slice_index_or xs i d) ≡ false
none_at test [] i d none lt = absurd (omega (arith, lt))
none_at test (x ∷ xs) zero d none lt = first (test x) none
  where
    first : (b : Bool) → (b || list_any test xs) ≡ false → b ≡ false
    first true h = absurd cc
    first false h = refl
none_at test (x ∷ xs) (suc i) d none lt = none_at test xs i d (rest (test x) none) (omega (arith, lt))
  where
    rest : (b : Bool) → (b || list_any test xs) ≡ false → list_any test xs ≡ false
    rest true h = absurd cc
    rest false h = h

-- ---- more turns, and other moments

module _ {A B : List HostTurn → Type 0} (f : (turns : List HostTurn) → A turns → B turns) where
  taken_so : (turns : List HostTurn) (p : Planned) (ticket : ℕ) → WasTaken A turns p ticket → WasTaken B turns p ticket
  taken_so turns p ticket h = record { before = h.before; rest = h.rest; are = h.are; so = f h.before h.so }

  refused_so : (start : Memory) (turns : List HostTurn) (p : Planned) (refusal : SubmitError) → WasRefused A start turns p refusal
      → WasRefused B start turns p refusal
  refused_so start turns p refusal h = record {
    before = h.before;
    rest = h.rest;
    are = h.are;
    host = h.host;
    does = h.does;
    refused = h.refused;
    final = h.final;
    so = f h.before h.so;
  }

  pub true_so : (start : Memory) (turns : List HostTurn) (p : Planned) (s : State) → IsTrue A start turns p s → IsTrue B start turns p s
  true_so start turns p state.Waits h = tt
  true_so start turns p (state.Submitted ticket) h = taken_so turns p ticket.0 h
  true_so start turns p (state.Ended (ended.Polled outcome)) h = record {
    completion = h.completion;
    taken = taken_so turns p h.completion.ticket.0 h.taken;
    polled = h.polled;
    ended_so = h.ended_so;
  }
  true_so start turns p (state.Ended (ended.Refused refusal)) h = refused_so start turns p refusal h

module _ (A : List HostTurn → Type 0) (turns more : List HostTurn) (p : Planned) where
  taken_more : (ticket : ℕ) → WasTaken A turns p ticket → WasTaken A (turns ++ more) p ticket
  taken_more ticket h = record {
    before = h.before;
    rest = h.rest ++ more;
    are = sym (append_assoc h.before (Submitted p.dev p.request ticket ∷ h.rest) more) ∙ ap (λ l. l ++ more) h.are;
    so = h.so;
  }

  pub true_more : (start : Memory) (s : State) → IsTrue A start turns p s → IsTrue A start (turns ++ more) p s
  true_more start state.Waits h = tt
  true_more start (state.Submitted ticket) h = taken_more ticket.0 h
  true_more start (state.Ended (ended.Polled outcome)) h = record {
    completion = h.completion;
    taken = taken_more h.completion.ticket.0 h.taken;
    polled = Contains-append_left turns more (Polled h.completion) h.polled;
    ended_so = h.ended_so;
  }
  true_more start (state.Ended (ended.Refused refusal)) h = record {
    before = h.before;
    rest = h.rest ++ more;
    are = sym (append_assoc h.before h.rest more) ∙ ap (λ l. l ++ more) h.are;
    host = h.host;
    does = h.does;
    refused = h.refused;
    final = h.final;
    so = h.so;
  }

-- what AreTrue says of each
abbrev pub EachIsTrue : Memory → List HostTurn → List Planned → List State → Type 0
EachIsTrue start turns plan states = (i : ℕ) (p : Planned) (s : State) → i < length states
    → IsTrue (IsNext start plan states i (slice_index_or plan i p).wait) start turns (slice_index_or plan i p) (slice_index_or states i s)

pub each_true_more : (start : Memory) (turns more : List HostTurn) (plan : List Planned) (states : List State) → EachIsTrue start turns plan states
    → EachIsTrue start (turns ++ more) plan states
each_true_more start turns more plan states h =
    λ i p s lt.
    true_more (IsNext start plan states i (slice_index_or plan i p).wait) turns more (slice_index_or plan i p) start (slice_index_or states i s)
    (h i p s lt)

-- turns that give no ticket and poll none
pub all_true_more : (start : Memory) (turns more : List HostTurn) (plan : List Planned) (states : List State) → given_in more ≡ [] → polled_in more ≡ []
    → AreTrue start turns plan states → AreTrue start (turns ++ more) plan states
all_true_more start turns more plan states given polled h =
    record {
      each = each_true_more start turns more plan states h.each;
      few = ap length (given_none turns more given) ∙ h.few;
      unpolled = λ i s ticket lt is. ap (λ l. list_any (λ y. y == ticket.0) l) (polled_none turns more polled) ∙ h.unpolled i s ticket lt is;
    }

-- ---- what lies before the next request

module _ (start : Memory) (turns : List HostTurn) (p : Planned) where
  -- nothing is past of a request that was not given
  pub past_waiting : (wait : Bool) → IsPast wait start turns p state.Waits → ⊥
  past_waiting true h = h
  past_waiting false h = h

  -- what was past of a request that was taken still is once it was polled
  pub past_polled : (wait : Bool) (ticket : Ticket) (outcome : Outcome) → IsPast wait start turns p (state.Submitted ticket)
      → IsPast wait start turns p (state.Ended (ended.Polled outcome))
  past_polled true ticket outcome h = absurd h
  past_polled false ticket outcome h = (ticket.0, h)

  module _ (A : List HostTurn → Type 0) where
    begun : (s : State) → is_waiting s ≡ false → IsTrue A start turns p s → HasBegun start turns p s
    begun state.Waits given h = absurd cc
    begun (state.Submitted ticket) given h = taken_so (λ t x. tt) turns p ticket.0 h
    begun (state.Ended (ended.Polled outcome)) given h = (h.completion.ticket.0, taken_so (λ t x. tt) turns p h.completion.ticket.0 h.taken)
    begun (state.Ended (ended.Refused refusal)) given h = refused_so (λ t x. tt) start turns p refusal h

    has_ended : (s : State) → is_waiting s ≡ false → is_submitted s ≡ false → IsTrue A start turns p s → HasEnded start turns p s
    has_ended state.Waits given polled h = absurd cc
    has_ended (state.Submitted ticket) given polled h = absurd cc
    has_ended (state.Ended end) given polled h = true_so (λ t x. tt) start turns p (state.Ended end) h

    pub is_past : (wait : Bool) (s : State) → is_waiting s ≡ false → (wait ≡ true → is_submitted s ≡ false) → IsTrue A start turns p s
        → IsPast wait start turns p s
    is_past true s given polled h = has_ended s given (polled refl) h
    is_past false s given polled h = begun s given h

-- ---- another state of the request at place i

-- what was past of it still is, and it was taken as it was before
pub record Stays (start : Memory) (p : Planned) (old new : State) (wait : Bool) (turns : List HostTurn) : Type 0 where
  pub past : IsPast wait start turns p new
  pub taken : was_taken new ≡ was_taken old

module _ (start : Memory) (plan : List Planned) (states : List State) (i : ℕ) (old new : State) (there : i < length states)
    (is : (d : State) → slice_index_or states i d ≡ old)
    (stays : (wait : Bool) (turns : List HostTurn) (p : Planned) → IsPast wait start turns p old → Stays start p old new wait turns) where
  next_set : (k : ℕ) (wait : Bool) (p : Planned) (turns : List HostTurn) → IsNext start plan states k wait turns
      → IsNext start plan (slice_set states i new) k wait turns
  next_set k wait p turns h = record {
    each = λ j q d lt. elim (cases_eq j i) [
      | inl here ↦
          let was : IsPast wait start turns (slice_index_or plan j q) old =
          subst (λ (s : State). IsPast wait start turns (slice_index_or plan j q) s) (ap (λ x. slice_index_or states x d) here ∙ is d) (h.each j q d lt) in
          let now : slice_index_or (slice_set states i new) j d ≡ new =
          ap (λ x. slice_index_or (slice_set states i new) x d) here ∙ get_or-set_same states i new d there in
          subst (λ (s : State). IsPast wait start turns (slice_index_or plan j q) s) (sym now)
          (stays wait turns (slice_index_or plan j q) was).past
      | inr away ↦
          subst (λ (s : State). IsPast wait start turns (slice_index_or plan j q) s) (sym (get_or-set_other states i j new d away)) (h.each j q d lt)
    ];
    few = h.few ∙ sym (elim (cases_lt i k) [
      | inl after ↦
          let was : IsPast wait start turns (slice_index_or plan i p) old =
          subst (λ (s : State). IsPast wait start turns (slice_index_or plan i p) s) (is state.Waits) (h.each i p state.Waits after) in
          taken_same k i states new state.Waits ((stays wait turns (slice_index_or plan i p) was).taken ∙ ap was_taken (sym (is state.Waits)))
      | inr before ↦ taken_low k i states new before
    ]);
  }

  pub each_true_set : (turns : List HostTurn) → EachIsTrue start turns plan states
      → ((p : Planned) → IsTrue (IsNext start plan states i (slice_index_or plan i p).wait) start turns (slice_index_or plan i p) new)
      → EachIsTrue start turns plan (slice_set states i new)
  each_true_set turns h now = λ j p d lt.
      let long : length (slice_set states i new) ≡ length states = length-set states i new in
      let wait : Bool = (slice_index_or plan j p).wait in
      elim (cases_eq j i) [
        | inl here ↦
            let said : slice_index_or (slice_set states i new) j d ≡ new =
            ap (λ x. slice_index_or (slice_set states i new) x d) here ∙ get_or-set_same states i new d there in
            let so : IsTrue (IsNext start plan states j wait) start turns (slice_index_or plan j p) new =
            subst (λ (k : ℕ). IsTrue (IsNext start plan states k (slice_index_or plan k p).wait) start turns (slice_index_or plan k p) new) (sym here) (now p) in
            subst (λ (s : State). IsTrue (IsNext start plan (slice_set states i new) j wait) start turns (slice_index_or plan j p) s) (sym said)
            (true_so (next_set j wait p) start turns (slice_index_or plan j p) new so)
        | inr away ↦
            subst (λ (s : State). IsTrue (IsNext start plan (slice_set states i new) j wait) start turns (slice_index_or plan j p) s)
            (sym (get_or-set_other states i j new d away))
            (true_so (next_set j wait p) start turns (slice_index_or plan j p) (slice_index_or states j d) (h j p d (omega (arith, lt, long))))
      ]

-- ---- whose turn it is

-- It is the turn of the request at place i. If that request waits, none is under way.
pub record IsDue (plan : List Planned) (states : List State) (i : ℕ) (wait : Bool) : Type 0 where
  pub there : i < length plan
  pub all : length states ≡ length plan
  pub given : AreGiven i states
  pub none_open : wait ≡ true → list_any is_submitted states ≡ false

-- all that were taken lie before it
pub due_few : (plan : List Planned) (states : List State) (i : ℕ) (wait : Bool) → IsDue plan states i wait
    → taken_before (length states) states ≡ taken_before i states
due_few plan states i wait due =
    let there = due.there in
    let all = due.all in
    taken_all states i due.given (omega (arith, there, all))

pub next_due : (start : Memory) (plan : List Planned) (states : List State) (i : ℕ) (wait : Bool) (turns : List HostTurn)
    → IsDue plan states i wait → AreTrue start turns plan states → IsNext start plan states i wait turns
next_due start plan states i wait turns due h = record {
  each = λ j p s lt.
      let there = due.there in
      let all = due.all in
      let less : j < length states = omega (arith, lt, there, all) in
      is_past start turns (slice_index_or plan j p) (IsNext start plan states j (slice_index_or plan j p).wait) wait (slice_index_or states j s) (due.given.before j s lt less)
      (λ w. none_at is_submitted states j s (due.none_open w) less) (h.each j p s less);
  few = h.few ∙ due_few plan states i wait due;
}

is_waits : (s : State) → is_waiting s ≡ true → s ≡ state.Waits
is_waits state.Waits h = refl
is_waits (state.Submitted ticket) h = absurd cc
is_waits (state.Ended end) h = absurd cc

pub waits_there : (states : List State) (i : ℕ) (d : State) → AreGiven i states → i < length states → slice_index_or states i d ≡ state.Waits
waits_there states i d given there = is_waits (slice_index_or states i d) (given.later i d (omega arith) there)

pub none_given : (count : ℕ) → AreGiven 0 (replicate count state.Waits)
none_given count = record {
  before = λ i s lt less. absurd (omega (arith, lt));
  later = λ i s from less.
      let long = length-replicate count state.Waits in
      ap is_waiting (get_or-replicate count i state.Waits s (omega (arith, less, long)));
}

-- a state of the request at place i that was given
set_given : (states : List State) (next i : ℕ) (s : State) → is_waiting s ≡ false → i < next
    → ((j : ℕ) (d : State) → j < next → j < length states → (j ≡ i) ⊎ (is_waiting (slice_index_or states j d) ≡ false))
    → ((j : ℕ) (d : State) → next ≤ j → j < length states → is_waiting (slice_index_or states j d) ≡ true)
    → AreGiven next (slice_set states i s)
set_given states next i s is low before later = record {
  before = λ j d lt less.
      let long = length-set states i s in
      let there : j < length states = omega (arith, less, long) in
      elim (before j d lt there) [
        | inl here ↦
            ap (λ k. is_waiting (slice_index_or (slice_set states i s) k d)) here
            ∙ ap is_waiting (get_or-set_same states i s d (omega (arith, there, here))) ∙ is
        | inr given ↦ other j d there given
      ];
  later = λ j d from less.
      let long = length-set states i s in
      ap is_waiting (get_or-set_other states i j s d (λ same. absurd (omega (arith, same, from, low))))
      ∙ later j d from (omega (arith, less, long));
}
  where
    other : (j : ℕ) (d : State) → j < length states → is_waiting (slice_index_or states j d) ≡ false
        → is_waiting (slice_index_or (slice_set states i s) j d) ≡ false
    other j d there given = elim (cases_eq j i) [
      | inl here ↦
          ap (λ k. is_waiting (slice_index_or (slice_set states i s) k d)) here
          ∙ ap is_waiting (get_or-set_same states i s d (omega (arith, there, here))) ∙ is
      | inr away ↦ ap is_waiting (get_or-set_other states i j s d away) ∙ given
    ]

-- the request at place i is given
pub one_given : (states : List State) (i : ℕ) (s : State) → AreGiven i states → is_waiting s ≡ false → AreGiven (i + 1) (slice_set states i s)
one_given states i s h is = set_given states (i + 1) i s is (omega arith)
    (λ j d lt less. elim (cases_eq j i) [ inl here ↦ inl here | inr away ↦ inr (h.before j d (omega (arith, lt, away)) less) ])
    (λ j d from less. h.later j d (omega (arith, from)) less)

-- a request that was taken is polled
pub still_given : (states : List State) (next i : ℕ) (ticket : Ticket) (s : State) → AreGiven next states → i < length states
    → slice_index_or states i state.Waits ≡ state.Submitted ticket → is_waiting s ≡ false → AreGiven next (slice_set states i s)
still_given states next i ticket s h there was is =
    let low : i < next = elim (cases_lt i next) [
      | inl lt ↦ lt
      | inr ge ↦ absurd (apart (sym (h.later i state.Waits ge there) ∙ ap is_waiting was))
    ] in
    set_given states next i s is low (λ j d lt less. inr (h.before j d lt less)) h.later
  where
    apart : true ≡ false → ⊥
    apart e = absurd cc
