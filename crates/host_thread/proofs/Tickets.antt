-- Under which ticket a request was taken, and which tickets were polled.
use Rattle.std.proofs.Common.{◌≡◌, ◌<◌, ◌+◌, ◌≢◌, ℕ, Bool, false, List, [], ◌∷◌, ◌++◌, Option, Some, None, length, get_or, replicate, refl, sym, ap}
use Rattle.std.proofs.{Common.{◌∙◌, subst, inl, inr, arith}, lemmas.{Bool.{cases_lt, Decides.nat_tests}, List.{get_or-replicate, get_or_at}}}
use Rattle.std.proofs.lemmas.List.{get_or_past, length-append, length-replicate, Folds.{list_any-append}, FromFn.{get_or-range_with_len}}
use Rattle.std.specs.{Prelude.{◌==◌, ◌||◌, slice_index_or}, List.{list_any, range_with_len}}
use Rattle.host_memory.specs.Memory.{Memory}
use Rattle.hba_driver.specs.{declared.request.{Completion.Completion, Ticket.Ticket, Request.Request}, Drivers.{AreRequests, Entry, entry_at}}
use Rattle.hba_driver.specs.{HostTurns.{DoesAll, Host, HostTurn, Took, Pushed, Ticked, Submitted, Polled, Put, given_in, polled_in}, Laws.TurnsKeep}
use Rattle.hba_driver.proofs.Door.{each_run_keeps, poll_facts, requests_turn}
use Rattle.host_thread.specs.{declared.plan.{Planned.Planned, State.State}, Runs.{AreTrue, IsNext, IsTrue, starting, taken_before, was_taken}}
use Rattle.host_thread.specs.declared.plan.State.TheVariants as state
use Rattle.host_thread.proofs.Takings.{given_append, polled_append, taken_apart}

-- ---- a new driver has no request

abbrev no_entry : Option Entry
no_entry = None

none_there : (s : ℕ) → entry_at (replicate 30 no_entry) s ≡ no_entry
none_there s = elim (cases_lt s 30) [
  | inl lt ↦ get_or-replicate 30 s no_entry no_entry lt
  | inr ge ↦ get_or_past (replicate 30 no_entry) s no_entry (rw (length-replicate 30 no_entry) ge)
]

none_some : (e : Entry) → no_entry ≡ Some e → ⊥
none_some e h = absurd cc

no_request : (s : ℕ) (e : Entry) {P : Type 0} → entry_at (replicate 30 no_entry) s ≡ Some e → P
no_request s e h = absurd (none_some e (sym (none_there s) ∙ h))

new_requests : (start : Memory) → AreRequests (starting start).driver.given (starting start).driver.entries
new_requests start = record {
  slots = length-replicate 30 no_entry;
  given = λ s e h. no_request s e h;
  own = λ s t e f h k is. no_request s e h;
  apart = λ s t e f h k other reads. no_request s e h;
}

keeps : (start : Memory) (turns : List HostTurn) (host : Host) (does : DoesAll (starting start) turns host) → TurnsKeep (starting start) turns host does
keeps start turns host does = each_run_keeps (starting start) turns host does (new_requests start)

-- ---- the ticket of a request

-- it is one more than were given before
pub ticket_is : (start : Memory) (turns : List HostTurn) (host : Host) → DoesAll (starting start) turns host
    → (before rest : List HostTurn) (dev : ℕ) (request : Request) (ticket : ℕ) → before ++ Submitted dev request ticket ∷ rest ≡ turns
    → ticket ≡ length (given_in before) + 1
ticket_is start turns host does before rest dev request ticket are =
    let given : given_in turns ≡ range_with_len 1 (length (given_in turns)) = (keeps start turns host does).given in
    let parts : given_in turns ≡ given_in before ++ ticket ∷ given_in rest =
    ap given_in (sym are) ∙ given_append before (Submitted dev request ticket ∷ rest) in
    let long : length (given_in turns) ≡ length (given_in before) + length (ticket ∷ given_in rest) =
    ap length parts ∙ length-append (given_in before) (ticket ∷ given_in rest) in
    let more : length (ticket ∷ given_in rest) ≡ length (given_in rest) + 1 = omega arith in
    let here : get_or (given_in turns) (length (given_in before)) 0 ≡ ticket =
    ap (λ (l : List ℕ). get_or l (length (given_in before)) 0) parts ∙ get_or_at (given_in before) ticket (given_in rest) 0 (length (given_in before)) refl in
    let there : get_or (given_in turns) (length (given_in before)) 0 ≡ 1 + length (given_in before) =
    ap (λ (l : List ℕ). get_or l (length (given_in before)) 0) given
    ∙ get_or-range_with_len 1 (length (given_in turns)) (length (given_in before)) 0 (omega (arith, long, more)) in
    omega (arith, here, there)

module _ (start : Memory) (turns : List HostTurn) (host : Host) (does : DoesAll (starting start) turns host) (plan : List Planned)
    (states : List State) (all : AreTrue start turns plan states) where
  -- one more than were taken before it
  pub number_is : (i : ℕ) (s : State) (p : Planned) (ticket : Ticket) → i < length states → slice_index_or states i s ≡ state.Submitted ticket
      → ticket.0 ≡ taken_before i states + 1
  number_is i s p ticket lt is =
      let was = subst (λ (t : State). IsTrue (IsNext start plan states i (slice_index_or plan i p).wait) start turns (slice_index_or plan i p) t) is
      (all.each i p s lt) in
      ticket_is start turns host does was.before was.rest (slice_index_or plan i p).dev (slice_index_or plan i p).request ticket.0 was.are
      ∙ ap (λ n. n + 1) was.so.few

  -- so no two that are open have the same ticket
  pub one_place : (i j : ℕ) (d e : State) (p : Planned) (one other : Ticket) → i < length states → j < length states
      → slice_index_or states i d ≡ state.Submitted one → slice_index_or states j e ≡ state.Submitted other → j ≢ i → one.0 ≢ other.0
  one_place i j d e p one other there less is also apart same =
      let n : one.0 ≡ taken_before i states + 1 = number_is i d p one there is in
      let m : other.0 ≡ taken_before j states + 1 = number_is j e p other less also in
      elim (cases_lt i j) [
        | inl before ↦
            let far = taken_apart states i j d before (omega (arith, less)) (ap was_taken is) in
            absurd (omega (arith, n, m, far, same))
        | inr after ↦
            let far = taken_apart states j i e (omega (arith, after, apart)) (omega (arith, there)) (ap was_taken also) in
            absurd (omega (arith, n, m, far, same))
      ]

-- ---- what was polled was given before

not_this : (x y : ℕ) → x ≢ y → (x == y) ≡ false
not_this x y h = grind (arith, nat_tests)

none_polled : (turns : List HostTurn) (old new : Host) → DoesAll old turns new → AreRequests old.driver.given old.driver.entries → (ticket : ℕ)
    → new.driver.given < ticket → list_any (λ y. y == ticket) (polled_in turns) ≡ false
none_polled [] old new run r ticket far = refl
none_polled (Took frame report ∷ turns) old new run r ticket far =
    none_polled turns run.0 new run.2 (requests_turn old (Took frame report) run.0 run.1 r) ticket far
none_polled (Pushed frame ∷ turns) old new run r ticket far =
    none_polled turns run.0 new run.2 (requests_turn old (Pushed frame) run.0 run.1 r) ticket far
none_polled (Ticked a ∷ turns) old new run r ticket far =
    none_polled turns run.0 new run.2 (requests_turn old (Ticked a) run.0 run.1 r) ticket far
none_polled (Submitted dev request t ∷ turns) old new run r ticket far =
    none_polled turns run.0 new run.2 (requests_turn old (Submitted dev request t) run.0 run.1 r) ticket far
none_polled (Polled c ∷ turns) old new run r ticket far =
    let facts = poll_facts old.driver c run.1.polled in
    let few = r.given facts.place facts.entry facts.there in
    let all = (each_run_keeps old (Polled c ∷ turns) new run r).last in
    let apart : (c.ticket.0 == ticket) ≡ false = not_this c.ticket.0 ticket (λ same. absurd (omega (arith, same, facts.ticket, few, all, far))) in
    ap (λ (b : Bool). b || list_any (λ y. y == ticket) (polled_in turns)) apart
    ∙ none_polled turns run.0 new run.2 (requests_turn old (Polled c) run.0 run.1 r) ticket far
none_polled (Put at bytes ∷ turns) old new run r ticket far =
    none_polled turns run.0 new run.2 (requests_turn old (Put at bytes) run.0 run.1 r) ticket far

pub not_polled : (start : Memory) (turns : List HostTurn) (host : Host) → DoesAll (starting start) turns host → (ticket : ℕ)
    → host.driver.given < ticket → list_any (λ y. y == ticket) (polled_in turns) ≡ false
not_polled start turns host does ticket far = none_polled turns (starting start) host does (new_requests start) ticket far

-- one is polled, and it is another
pub other_polled : (turns : List HostTurn) (c : Completion) (ticket : ℕ) → list_any (λ y. y == ticket) (polled_in turns) ≡ false → c.ticket.0 ≢ ticket
    → list_any (λ y. y == ticket) (polled_in (turns ++ Polled c ∷ [])) ≡ false
other_polled turns c ticket none other =
    ap (λ (l : List ℕ). list_any (λ y. y == ticket) l) (polled_append turns (Polled c ∷ []))
    ∙ list_any-append (λ y. y == ticket) (polled_in turns) (c.ticket.0 ∷ [])
    ∙ ap (λ (b : Bool). b || ((c.ticket.0 == ticket) || false)) none
    ∙ ap (λ (b : Bool). b || false) (not_this c.ticket.0 ticket other)
