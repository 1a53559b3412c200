-- What the host's thread does. There is one list of turns of the host. The lists of its seats are
-- projections of it, and port, driver and memory are its outcome. What the thread says of each
-- request of its plan is in these turns, in the order of the plan and after its barriers.
use Rattle.std.specs.Prelude.{◌≡◌, ℕ, ◌<◌, ◌≤◌, ◌==◌, ◌⊎◌, ⊤, Bool, true, false, List, ◌++◌, [], ◌∷◌, filter, length, map, slice_index_or, take}
use Rattle.std.specs.{Prelude.{Option, Some}, List.{Contains, flat_map, list_any}, Option.option_to_list}
use Rattle.atomic_table.specs.Seated.{TableId}
use Rattle.fis_view.specs.Frames.{Stamped}
use Rattle.host_memory.specs.Memory.{IsHostMemory, Memory}
use Rattle.ruled_links.specs.Links.{Seat}
use Rattle.multiplier.specs.Orders.{InStampedOrder}
use Rattle.hba_driver.specs.{declared.request.{Completion.Completion, Outcome.Outcome, SubmitError.SubmitError, Ticket.Ticket}, Events.opening_host}
use Rattle.hba_driver.specs.{Events.put_by, HostTurns.{DoesAll, Host, HostTurn, Took, Pushed, Submitted, Polled, given_in, polled_in}}
use Rattle.hba_driver.specs.Submits.{submit_refusal}
use Rattle.hba_driver.specs.declared.request.SubmitError.TheVariants as refusal
use Rattle.host_thread.specs.declared.plan.{Ended.Ended, Planned.Planned, State.State}
use Rattle.host_thread.specs.declared.plan.Ended.TheVariants as ended
use Rattle.host_thread.specs.declared.plan.State.TheVariants as state

-- ---- the worker, as contracts see it

pub record HostView : Type 0 where
  pub host : Host
  -- FISes for the host
  pub frames : Seat Stamped
  -- FISes of the host
  pub commands : Seat Stamped
  -- a FIS of the host that waits for room on its link; it counts as sent
  pub hand : Option Stamped
  pub plan : List Planned
  -- what became of each request of the plan, at its place
  pub states : List State

-- What is true of the worker at each moment: what it took is in stamped order, and it knows of each
-- request of its plan.
pub record IsSound (w : HostView) : Type 0 where
  pub order : InStampedOrder w.frames.taken
  pub all : length w.states ≡ length w.plan

-- ---- which links and which plan they are

pub record LinkEnd : Type 0 where
  pub link : TableId
  pub room : ℕ

abbrev pub end_of : {T : Type 0} → Seat T → LinkEnd
end_of s = record { link = s.link; room = s.room }

-- the seats are of the same links, and the plan is the same
pub record Same (old new : HostView) : Type 0 where
  pub frames : end_of new.frames ≡ end_of old.frames
  pub commands : end_of new.commands ≡ end_of old.commands
  pub plan : new.plan ≡ old.plan

-- ---- turns

-- a new port and a new driver, beside this memory
abbrev pub starting : Memory → Host
starting memory = opening_host 0 memory

-- the FIS that a turn takes
abbrev pub took_by : HostTurn → List (List ℕ)
took_by (Took frame report) = frame ∷ []
took_by turn = []

-- the FIS that a turn gives
abbrev pub pushed_by : HostTurn → List Stamped
pushed_by (Pushed (Some frame)) = frame ∷ []
pushed_by turn = []

-- ---- what became of a request

-- it has not ended
abbrev pub is_open : State → Bool
is_open (state.Ended end) = false
is_open s = true

-- it was not given to the driver yet
abbrev pub is_waiting : State → Bool
is_waiting state.Waits = true
is_waiting s = false

-- it was taken, and was not polled yet
abbrev pub is_submitted : State → Bool
is_submitted (state.Submitted ticket) = true
is_submitted s = false

-- it was taken, and polled since or not
abbrev pub was_taken : State → Bool
was_taken (state.Submitted ticket) = true
was_taken (state.Ended (ended.Polled outcome)) = true
was_taken s = false

-- how many of the requests before place i were taken
abbrev pub taken_before : ℕ → List State → ℕ
taken_before i states = length (filter was_taken (take i states))

-- how many are under way
abbrev pub count_submitted : List State → ℕ
count_submitted states = length (filter is_submitted states)

-- a refusal that may pass: the device comes and recovers, its queue goes on, and slots become free
abbrev pub is_for_now : SubmitError → Bool
is_for_now refusal.NoDevice = true
is_for_now refusal.Recovering = true
is_for_now refusal.QueueBusy = true
is_for_now refusal.NoSlot = true
is_for_now r = false

-- the requests before this place were given to the driver, and none from it on
pub record AreGiven (next : ℕ) (states : List State) : Type 0 where
  pub before : (i : ℕ) (s : State) → i < next → i < length states
      → is_waiting (slice_index_or states i s) ≡ false
  pub later : (i : ℕ) (s : State) → next ≤ i → i < length states
      → is_waiting (slice_index_or states i s) ≡ true

-- the driver refuses a request now, and not for good
pub record IsRefusedForNow (host : Host) (p : Planned) : Type 0 where
  pub refusal : SubmitError
  pub refused : submit_refusal host.driver host.memory p.dev p.request ≡ Some refusal
  pub passes : is_for_now refusal ≡ true

-- The next request of the plan, if there is one, is not given to the driver: it waits for others that
-- are under way, or the driver refuses it for now.
abbrev pub MayWait : HostView → Type 0
MayWait w = (i : ℕ) (p : Planned) → AreGiven i w.states → i < length w.plan
    → (((slice_index_or w.plan i p).wait ≡ true) × (list_any is_submitted w.states ≡ true))
    ⊎ IsRefusedForNow w.host (slice_index_or w.plan i p)

-- It was taken under this ticket, after turns for which this holds.
pub record WasTaken (IsSo : List HostTurn → Type 0) (turns : List HostTurn) (p : Planned)
    (ticket : ℕ) : Type 0 where
  pub before : List HostTurn
  pub rest : List HostTurn
  pub are : before ++ Submitted p.dev p.request ticket ∷ rest ≡ turns
  pub so : IsSo before

-- it was taken under a ticket, and what was polled of that ticket had this outcome
pub record WasPolled (IsSo : List HostTurn → Type 0) (turns : List HostTurn) (p : Planned) (outcome : Outcome)
    : Type 0 where
  pub completion : Completion
  pub taken : WasTaken IsSo turns p completion.ticket.0
  pub polled : Contains turns (Polled completion)
  pub ended_so : completion.outcome ≡ outcome

-- there was a moment, after turns for which this holds, at which the driver refused it in this way,
-- and not only for now
pub record WasRefused (IsSo : List HostTurn → Type 0) (start : Memory) (turns : List HostTurn) (p : Planned)
    (refusal : SubmitError) : Type 0 where
  pub before : List HostTurn
  pub rest : List HostTurn
  pub are : before ++ rest ≡ turns
  pub host : Host
  pub does : DoesAll (starting start) before host
  pub refused : submit_refusal host.driver host.memory p.dev p.request ≡ Some refusal
  pub final : is_for_now refusal ≡ false
  pub so : IsSo before

abbrev pub IsEnd : (List HostTurn → Type 0) → Memory → List HostTurn → Planned → Ended → Type 0
IsEnd IsSo start turns p (ended.Polled outcome) = WasPolled IsSo turns p outcome
IsEnd IsSo start turns p (ended.Refused refusal) = WasRefused IsSo start turns p refusal

-- what the worker says of a request is true, and the request was given to the driver after turns for
-- which this holds
abbrev pub IsTrue : (List HostTurn → Type 0) → Memory → List HostTurn → Planned → State → Type 0
IsTrue IsSo start turns p state.Waits = ⊤
IsTrue IsSo start turns p (state.Submitted ticket) = WasTaken IsSo turns p ticket.0
IsTrue IsSo start turns p (state.Ended end) = IsEnd IsSo start turns p end

-- ---- the order of the plan, and its barriers

abbrev pub at_any_time : List HostTurn → Type 0
at_any_time turns = ⊤

-- Within these turns the request was given to the driver, as is said of it in the end.
abbrev pub HasBegun : Memory → List HostTurn → Planned → State → Type 0
HasBegun start turns p state.Waits = ⊥
HasBegun start turns p (state.Submitted ticket) = WasTaken at_any_time turns p ticket.0
HasBegun start turns p (state.Ended (ended.Polled outcome)) =
    (ticket : ℕ) × WasTaken at_any_time turns p ticket
HasBegun start turns p (state.Ended (ended.Refused refusal)) = WasRefused at_any_time start turns p refusal

-- Within these turns the request has ended, as is said of it in the end: it was polled or refused.
abbrev pub HasEnded : Memory → List HostTurn → Planned → State → Type 0
HasEnded start turns p (state.Ended end) = IsEnd at_any_time start turns p end
HasEnded start turns p s = ⊥

-- what a request requires of each before it: one that waits, that it has ended; one that does not,
-- that it has begun
abbrev pub IsPast : Bool → Memory → List HostTurn → Planned → State → Type 0
IsPast true start turns p s = HasEnded start turns p s
IsPast false start turns p s = HasBegun start turns p s

-- After these turns it is the turn of the request at place i. All requests before it were given to
-- the driver. If it waits, all before it have ended. Those of them that were taken were taken once
-- each, and nothing else was.
pub record IsNext (start : Memory) (plan : List Planned) (states : List State) (i : ℕ) (wait : Bool)
    (turns : List HostTurn) : Type 0 where
  pub each : (j : ℕ) (p : Planned) (s : State) → j < i
      → IsPast wait start turns (slice_index_or plan j p) (slice_index_or states j s)
  pub few : length (given_in turns) ≡ taken_before i states

-- What is said of each request is true, and each was given to the driver in its turn. Only those of
-- which it is said were taken, once each. Nothing was polled of a request that is said to be open.
pub record AreTrue (start : Memory) (turns : List HostTurn) (plan : List Planned)
    (states : List State) : Type 0 where
  pub each : (i : ℕ) (p : Planned) (s : State) → i < length states
      → IsTrue (IsNext start plan states i (slice_index_or plan i p).wait) start turns
      (slice_index_or plan i p) (slice_index_or states i s)
  pub few : length (given_in turns) ≡ taken_before (length states) states
  pub unpolled : (i : ℕ) (s : State) (ticket : Ticket) → i < length states
      → slice_index_or states i s ≡ state.Submitted ticket
      → list_any (λ y. y == ticket.0) (polled_in turns) ≡ false

-- ---- the run

-- There is one list of turns, from a new host beside this memory to this one. No turn puts client
-- bytes. The FISes that the turns take are those that were taken, in their order. Those that they give
-- are those that were sent, and then the one in the hand. What is said of the requests of the plan is
-- true.
pub record IsRun (start : Memory) (w : HostView) : Type 0 where
  pub right : IsHostMemory start
  pub turns : List HostTurn
  pub does : DoesAll (starting start) turns w.host
  pub puts : flat_map put_by turns ≡ []
  pub taken : map (λ f. f.bytes) w.frames.taken ≡ flat_map took_by turns
  pub pushed : w.commands.sent ++ option_to_list w.hand ≡ flat_map pushed_by turns
  pub requests : AreTrue start turns w.plan w.states

-- it is still a run beside whatever memory it was one
abbrev pub GoesOn : HostView → HostView → Type 0
GoesOn old new = (start : Memory) → IsRun start old → IsRun start new
