-- What is said of all requests once one is taken, refused or polled.
use Rattle.std.proofs.Common.{◌≡◌, ◌<◌, ◌+◌, ℕ, Bool, false, List, [], ◌∷◌, ◌++◌, length, refl, sym, ap, ◌∙◌, subst, inl, inr, arith}
use Rattle.std.proofs.lemmas.{Bool.cases_eq, List.{get_or-set_other, get_or-set_same, length-append, length-set, Elements.{All-contains_itself}}}
use Rattle.std.proofs.lemmas.List.Elements.{Contains-append_right}
use Rattle.std.specs.{Prelude.{◌==◌, slice_index_or, slice_set}, List.{list_any, Contains}}
use Rattle.host_memory.specs.Memory.{Memory}
use Rattle.hba_driver.specs.{declared.request.{Completion.Completion, SubmitError.SubmitError, Ticket.Ticket}, HostTurns.{DoesAll, Host, HostTurn}}
use Rattle.hba_driver.specs.HostTurns.{Polled, given_in, polled_in}
use Rattle.host_thread.specs.declared.plan.Ended.TheVariants as ended
use Rattle.host_thread.specs.{declared.plan.{Planned.Planned, State.State}, Runs.{AreGiven, AreTrue, IsNext, IsPast, IsTrue, WasRefused, WasTaken}}
use Rattle.host_thread.specs.Runs.{starting, taken_before, was_taken}
use Rattle.host_thread.specs.declared.plan.State.TheVariants as state
use Rattle.host_thread.proofs.Requests.{EachIsTrue, Stays, any_default, each_true_more, each_true_set, past_polled, past_waiting, waits_there}
use Rattle.host_thread.proofs.{Takings.{given_append, given_none, polled_none, taken_one, taken_same}, Tickets.{one_place, other_polled}}

one_is_there : {X : Type 0} (xs : List X) (x : X) → Contains (xs ++ x ∷ []) x
one_is_there xs x = Contains-append_right xs (x ∷ []) x (All-contains_itself (x ∷ []) 0 x (omega arith))

abbrev ticket_of : State → ℕ
ticket_of (state.Submitted ticket) = ticket.0
ticket_of s = 0

some_planned : (plan : List Planned) (i : ℕ) → i < length plan → Planned
some_planned [] i lt = absurd (omega (arith, lt))
some_planned (p ∷ plan) i lt = p

module _ (start : Memory) (plan : List Planned) (states : List State) (i : ℕ) (there : i < length states) where
  stays_waiting : (new : State) (wait : Bool) (turns : List HostTurn) (p : Planned) → IsPast wait start turns p state.Waits
      → Stays start p state.Waits new wait turns
  stays_waiting new wait turns p past = absurd (past_waiting start turns p wait past)

  module _ (new : State) where
    here_is : (j : ℕ) (s : State) → j ≡ i → slice_index_or (slice_set states i new) j s ≡ new
    here_is j s here = ap (λ x. slice_index_or (slice_set states i new) x s) here ∙ get_or-set_same states i new s there

    same_count : (d : State) → was_taken new ≡ was_taken (slice_index_or states i d)
        → taken_before (length (slice_set states i new)) (slice_set states i new) ≡ taken_before (length states) states
    same_count d same =
        ap (λ k. taken_before k (slice_set states i new)) (length-set states i new) ∙ taken_same (length states) i states new d same

  -- it is taken, the first that waited
  pub taken_in : (ticket : Ticket) → AreGiven i states → (turns more : List HostTurn) → (given_in more ≡ ticket.0 ∷ []) × (polled_in more ≡ [])
      → taken_before (length states) states ≡ taken_before i states → AreTrue start turns plan states
      → list_any (λ y. y == ticket.0) (polled_in turns) ≡ false
      → ((p : Planned) → WasTaken (IsNext start plan states i (slice_index_or plan i p).wait) (turns ++ more) (slice_index_or plan i p) ticket.0)
      → AreTrue start (turns ++ more) plan (slice_set states i (state.Submitted ticket))
  taken_in ticket given turns more gives few h none now =
      let new : State = state.Submitted ticket in
      let still : polled_in (turns ++ more) ≡ polled_in turns = polled_none turns more gives.1 in
      let long : length (slice_set states i new) ≡ length states = length-set states i new in
      record {
        each = each_true_set start plan states i state.Waits new there (λ d. waits_there states i d given there) (stays_waiting new) (turns ++ more)
            (each_true_more start turns more plan states h.each) now;
        few = ap length (given_append turns more ∙ ap (λ (l : List ℕ). given_in turns ++ l) gives.0) ∙ length-append (given_in turns) (ticket.0 ∷ [])
            ∙ ap (λ n. n + 1) (h.few ∙ few) ∙ sym (taken_one states i new given there refl);
        unpolled = λ j s t lt is. ap (λ (l : List ℕ). list_any (λ y. y == t.0) l) still ∙ elim (cases_eq j i) [
          | inl here ↦
              let same : ticket.0 ≡ t.0 = ap ticket_of (sym (here_is new j s here) ∙ is) in
              subst (λ n. list_any (λ y. y == n) (polled_in turns) ≡ false) same none
          | inr away ↦ h.unpolled j s t (omega (arith, lt, long)) (sym (get_or-set_other states i j new s away) ∙ is)
        ];
      }

  -- it is refused
  pub refused_in : (refusal : SubmitError) → AreGiven i states → (turns : List HostTurn) → AreTrue start turns plan states
      → ((p : Planned) → WasRefused (IsNext start plan states i (slice_index_or plan i p).wait) start (turns ++ []) (slice_index_or plan i p) refusal)
      → AreTrue start (turns ++ []) plan (slice_set states i (state.Ended (ended.Refused refusal)))
  refused_in refusal given turns h now =
      let new : State = state.Ended (ended.Refused refusal) in
      let long : length (slice_set states i new) ≡ length states = length-set states i new in
      record {
        each = each_true_set start plan states i state.Waits new there (λ d. waits_there states i d given there) (stays_waiting new) (turns ++ [])
            (each_true_more start turns [] plan states h.each) now;
        few = ap length (given_none turns [] refl) ∙ h.few ∙ sym (same_count new state.Waits (sym (ap was_taken (waits_there states i state.Waits given there))));
        unpolled = λ j s t lt is. ap (λ (l : List ℕ). list_any (λ y. y == t.0) l) (polled_none turns [] refl) ∙ elim (cases_eq j i) [
          | inl here ↦ let bad : new ≡ state.Submitted t = sym (here_is new j s here) ∙ is in cc
          | inr away ↦ h.unpolled j s t (omega (arith, lt, long)) (sym (get_or-set_other states i j new s away) ∙ is)
        ];
      }

  -- it is polled
  pub polled_in_place : (completion : Completion) → slice_index_or states i state.Waits ≡ state.Submitted completion.ticket → length states ≡ length plan
      → (turns : List HostTurn) (host : Host) → DoesAll (starting start) turns host → AreTrue start turns plan states
      → AreTrue start (turns ++ Polled completion ∷ []) plan (slice_set states i (state.Ended (ended.Polled completion.outcome)))
  polled_in_place completion is all turns host does h =
      let new : State = state.Ended (ended.Polled completion.outcome) in
      let more : List HostTurn = turns ++ Polled completion ∷ [] in
      let long : length (slice_set states i new) ≡ length states = length-set states i new in
      let kept : EachIsTrue start more plan states = each_true_more start turns (Polled completion ∷ []) plan states h.each in
      record {
        each = each_true_set start plan states i (state.Submitted completion.ticket) new there (λ d. any_default states i d state.Waits there ∙ is)
            (λ wait before p past. record { past = past_polled start before p wait completion.ticket completion.outcome past; taken = refl }) more kept
            (λ d.
            let p : Planned = slice_index_or plan i d in
            let was : WasTaken (IsNext start plan states i p.wait) more p completion.ticket.0 =
            subst (λ (t : State). IsTrue (IsNext start plan states i p.wait) start more p t) is (kept i d state.Waits there) in
            record { completion = completion; taken = was; polled = one_is_there turns (Polled completion); ended_so = refl });
        few = ap length (given_none turns (Polled completion ∷ []) refl) ∙ h.few ∙ sym (same_count new state.Waits (sym (ap was_taken is)));
        unpolled = λ j s t lt at. elim (cases_eq j i) [
          | inl here ↦ let bad : new ≡ state.Submitted t = sym (here_is new j s here) ∙ at in cc
          | inr away ↦
              let less : j < length states = omega (arith, lt, long) in
              let was : slice_index_or states j s ≡ state.Submitted t = sym (get_or-set_other states i j new s away) ∙ at in
              let p : Planned = some_planned plan i (omega (arith, there, all)) in
              other_polled turns completion t.0 (h.unpolled j s t less was)
              (one_place start turns host does plan states h i j state.Waits s p completion.ticket t there less is was away)
        ];
      }

-- a request is polled that is not one of these
pub polled_beside : (start : Memory) (plan : List Planned) (states : List State) (completion : Completion)
    → ((j : ℕ) (s : State) → j < length states → slice_index_or states j s ≡ state.Submitted completion.ticket → ⊥)
    → (turns : List HostTurn) → AreTrue start turns plan states → AreTrue start (turns ++ Polled completion ∷ []) plan states
polled_beside start plan states completion none turns h = record {
  each = each_true_more start turns (Polled completion ∷ []) plan states h.each;
  few = ap length (given_none turns (Polled completion ∷ []) refl) ∙ h.few;
  unpolled = λ j s t lt is. other_polled turns completion t.0 (h.unpolled j s t lt is)
      (λ same. none j s lt (is ∙ ap (λ n. state.Submitted (record { 0 = n })) (sym same)));
}
