-- A request that is Done was completed by its own device.
use Rattle.std.proofs.Common.{◌≡◌, ◌<◌, ◌+◌, ℕ, zero, suc, List, [], ◌∷◌, ◌++◌, length, get_or, refl, sym, ap, ◌∙◌, subst, append_assoc, drop, arith}
use Rattle.std.specs.{Prelude.slice_index_or, List.Contains}
use Rattle.host_memory.specs.Memory.{IsHostMemory, Memory}
use Rattle.hba_driver.specs.declared.{mode.Mode.TheVariants.Switching, request.{Completion.Completion, Outcome.TheVariants.Done, Request.Request}}
use Rattle.hba_driver.specs.{Delivered.HasCome, HostTurns.{DoesAll, Host, HostTurn, Took, Pushed, Ticked, Submitted, Polled, Put, given_in}}
use Rattle.hba_driver.specs.Reported.{IsTurnOf, WasReported}
use Rattle.hba_driver.proofs.Door.{done_was_reported, first_turn, later_turn, turns_deliver}
use Rattle.host_thread.specs.declared.plan.Ended.TheVariants as ended
use Rattle.host_thread.specs.{declared.plan.{Planned.Planned, State.State}, Dones.{AreDone, IsDone}, Runs.{HostView, IsNext, IsRun, IsTrue}}
use Rattle.host_thread.specs.Runs.{WasPolled, WasTaken, starting}
use Rattle.host_thread.specs.declared.plan.State.TheVariants as state
use Rattle.host_thread.proofs.Tickets.{ticket_is}

-- a turn that is there is a turn of the run
turn_there : (t : HostTurn) (turns : List HostTurn) (old new : Host) (run : DoesAll old turns new) (k : ℕ) → k < length turns → get_or turns k t ≡ t → IsTurnOf t old new turns run
turn_there t [] old new run k lt is = absurd (omega (arith, lt))
turn_there t (u ∷ turns) old new run zero lt is = subst (λ (x : HostTurn). IsTurnOf x old new (u ∷ turns) run) is (first_turn u turns old new run)
turn_there t (u ∷ turns) old new run (suc k) lt is = later_turn t u turns old new run (turn_there t turns run.0 new run.2 k (omega (arith, lt)) is)

-- ---- a ticket is given once

abbrev tickets_of : HostTurn → ℕ
tickets_of (Submitted dev request ticket) = 1
tickets_of t = 0

given_cons : (t : HostTurn) (turns : List HostTurn) → length (given_in (t ∷ turns)) ≡ tickets_of t + length (given_in turns)
given_cons (Took frame report) turns = omega arith
given_cons (Pushed frame) turns = omega arith
given_cons (Ticked acted) turns = omega arith
given_cons (Submitted dev request ticket) turns = omega arith
given_cons (Polled completion) turns = omega arith
given_cons (Put at bytes) turns = omega arith

module _ (t u : HostTurn) (r s : List HostTurn) (first : tickets_of t ≡ 1) (second : tickets_of u ≡ 1) where
  -- two turns that give a ticket, with as many tickets before them, are one turn
  one_turn : (xs ys : List HostTurn) → xs ++ t ∷ r ≡ ys ++ u ∷ s → length (given_in xs) ≡ length (given_in ys) → t ≡ u
  one_turn [] [] same as_many = ap (λ (l : List HostTurn). get_or l 0 t) same
  one_turn [] (y ∷ ys) same as_many =
      let here : t ≡ y = ap (λ (l : List HostTurn). get_or l 0 t) same in
      let gives : tickets_of y ≡ 1 = ap tickets_of (sym here) ∙ first in
      let more = given_cons y ys in
      absurd (omega (arith, as_many, more, gives))
  one_turn (x ∷ xs) [] same as_many =
      let here : x ≡ u = ap (λ (l : List HostTurn). get_or l 0 t) same in
      let gives : tickets_of x ≡ 1 = ap tickets_of here ∙ second in
      let more = given_cons x xs in
      absurd (omega (arith, as_many, more, gives))
  one_turn (x ∷ xs) (y ∷ ys) same as_many =
      let here : x ≡ y = ap (λ (l : List HostTurn). get_or l 0 t) same in
      let gives : tickets_of x ≡ tickets_of y = ap tickets_of here in
      let left = given_cons x xs in
      let right = given_cons y ys in
      one_turn xs ys (ap (drop 1) same) (omega (arith, as_many, left, right, gives))

abbrev dev_of : HostTurn → ℕ
dev_of (Submitted dev request ticket) = dev
dev_of t = 0

abbrev request_of : Request → HostTurn → Request
request_of other (Submitted dev request ticket) = request
request_of other t = other

-- ---- what was polled as Done

module _ (start : Memory) (right : IsHostMemory start) (turns : List HostTurn) (host : Host) (does : DoesAll (starting start) turns host) where
  module _ (IsSo : List HostTurn → Type 0) (p : Planned) (c : Completion) (done : c.outcome ≡ Done) (taken : WasTaken IsSo turns p c.ticket.0) (there : Contains turns (Polled c)) where
    polled : IsTurnOf (Polled c) (starting start) host turns does
    polled = turn_there (Polled c) turns (starting start) host does there.0 there.1 there.2

    reported : WasReported c.ticket.0 c.slot (starting start) polled.at polled.before polled.came
    reported = done_was_reported Switching 0 start right polled.before polled.at polled.came c polled.next polled.does done

    abbrev given : HostTurn
    given = Submitted reported.dev reported.request c.ticket.0

    abbrev since : List HostTurn
    since = reported.submitted.after ++ Took reported.frame reported.report ∷ (reported.took.after ++ Polled c ∷ polled.after)

    in_turns : reported.submitted.before ++ given ∷ since ≡ turns
    in_turns = sym (polled.split
        ∙ ap (λ (l : List HostTurn). l ++ Polled c ∷ polled.after)
        (reported.took.split ∙ ap (λ (l : List HostTurn). l ++ Took reported.frame reported.report ∷ reported.took.after) reported.submitted.split)
        ∙ append_assoc (reported.submitted.before ++ given ∷ reported.submitted.after) (Took reported.frame reported.report ∷ reported.took.after) (Polled c ∷ polled.after)
        ∙ append_assoc reported.submitted.before (given ∷ reported.submitted.after) (Took reported.frame reported.report ∷ (reported.took.after ++ Polled c ∷ polled.after)))

    one : given ≡ Submitted p.dev p.request c.ticket.0
    one =
        let left = ticket_is start turns host does reported.submitted.before since reported.dev reported.request c.ticket.0 in_turns in
        let right = ticket_is start turns host does taken.before taken.rest p.dev p.request c.ticket.0 taken.are in
        one_turn given (Submitted p.dev p.request c.ticket.0) since taken.rest refl refl reported.submitted.before taken.before (in_turns ∙ sym taken.are) (omega (arith, left, right))

    came : HasCome Switching 0 start reported.took.before reported.took.at
    came = turns_deliver.comes Switching 0 start right reported.took.before reported.took.at reported.took.came

    pub is_done : IsDone start turns host does p
    is_done = record {
      completion = c;
      outcome = done;
      polled = polled;
      reported = reported;
      dev = ap dev_of one;
      request = ap (request_of p.request) one;
      come = came;
      delivers = (turns_deliver.delivers Switching 0 start right reported.took.before reported.took.at came).took reported.frame reported.report reported.took.next reported.took.does;
    }

pub run_done : (start : Memory) (w : HostView) (r : IsRun start w) → AreDone start r.turns w.host r.does w.plan w.states
run_done start w r i p s lt is =
    let was : WasPolled (IsNext start w.plan w.states i (slice_index_or w.plan i p).wait) r.turns (slice_index_or w.plan i p) Done =
    subst (λ (t : State). IsTrue (IsNext start w.plan w.states i (slice_index_or w.plan i p).wait) start r.turns (slice_index_or w.plan i p) t) is (r.requests.each i p s lt) in
    is_done start r.right r.turns w.host r.does (IsNext start w.plan w.states i (slice_index_or w.plan i p).wait) (slice_index_or w.plan i p) was.completion was.ended_so was.taken was.polled
