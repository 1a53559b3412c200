-- Where a request that is polled as Done was reported as done: at a frame of its own device. The frame was
-- taken while the command was issued that was written for the request when it was submitted under its ticket
-- (AHCI 1.3.1, 5.3 and 9.3; Serial ATA 3.x, 10.5; native command queuing).
--
-- Cited: the turns of the host (specs/HostTurns.antt), requests (specs/Drivers.antt), and taking a request
-- (specs/Submits.antt).
use Rattle.std.specs.Prelude.{ℕ, ◌≡◌, true, List, [], ◌∷◌, ◌++◌, Some}
use Rattle.host_memory.specs.Memory.{IsHostMemory, Memory}
use Rattle.slots.specs.Slots.{has_bit}
use Rattle.hba_fbs.specs.{declared.report.TakeReport.TakeReport, Taking.port_of}
use Rattle.hba_driver.specs.declared.{mode.Mode.Mode, request.Completion.Completion, request.Outcome.TheVariants.Done, request.Request.Request}
use Rattle.hba_driver.specs.{declared.slot.Phase.TheVariants.{Ended, Issued}, Drivers.{entry_at, rephased}, Events.opening_host_in}
use Rattle.hba_driver.specs.{HostTurns.{Does, DoesAll, Host, HostTurn, Polled, Submitted, Took}, Submits.new_entry}

-- the hosts of a run, each before its turn
abbrev pub hosts_over : (old new : Host) → (turns : List HostTurn) → DoesAll old turns new → List Host
hosts_over old new [] run = []
hosts_over old new (turn ∷ turns) run = old ∷ hosts_over run.0 new turns run.2

-- The turn is a turn of a run: what the run does before it, the turn itself, and what the run does after it.
pub record IsTurnOf (turn : HostTurn) (old new : Host) (turns : List HostTurn) (run : DoesAll old turns new)
    : Type 0 where
  pub before : List HostTurn
  pub after : List HostTurn
  pub split : turns ≡ before ++ turn ∷ after
  pub at : Host
  pub next : Host
  pub came : DoesAll old before at
  pub does : Does at turn next
  pub went : DoesAll next after new
  -- over the hosts of the run
  pub hosts : hosts_over old new turns run ≡ hosts_over old at before came
      ++ at ∷ hosts_over next new after went

-- What was polled as Done, in these turns. A frame of its device was taken whose report says that the command
-- of its slot is done. What was submitted for the device under the ticket was in the slot then, issued, and
-- is there now, ended.
pub record WasReported (ticket slot : ℕ) (old new : Host) (turns : List HostTurn)
    (run : DoesAll old turns new)
    : Type 0 where
  pub dev : ℕ
  pub request : Request
  pub frame : List ℕ
  pub report : TakeReport
  pub took : IsTurnOf (Took frame report) old new turns run
  pub of_dev : port_of frame ≡ dev
  pub done : has_bit report.done slot ≡ true
  pub submitted : IsTurnOf (Submitted dev request ticket) old took.at took.before took.came
  pub issued : entry_at took.at.driver.entries slot ≡ Some (rephased Issued (new_entry ticket dev request))
  pub ended : entry_at new.driver.entries slot ≡ Some (rephased (Ended Done) (new_entry ticket dev request))

-- this holds over every list of turns from an opening, in each mode
abbrev pub DoneWasReported : Type 0
DoneWasReported =
    (mode : Mode) (given : ℕ) (start : Memory) → IsHostMemory start → (turns : List HostTurn) (h : Host)
    (run : DoesAll (opening_host_in mode given start) turns h) (completion : Completion) (after : Host)
    → Does h (Polled completion) after → completion.outcome ≡ Done
    → WasReported completion.ticket.0 completion.slot (opening_host_in mode given start) h turns run
