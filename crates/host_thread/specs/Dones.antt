-- What a request of the plan that ended as Done came from: it was completed by its own device (AHCI 1.3.1, 5.3 and
-- 9.3; Serial ATA 3.x, 10.5; native command queuing).
--
-- Cited from `hba_driver`: turns of a run and what was reported (specs/Reported.antt), what a frame delivers
-- (specs/Delivered.antt).
use Rattle.std.specs.Prelude.{◌≡◌, ℕ, ◌<◌, List, length, slice_index_or}
use Rattle.host_memory.specs.Memory.{Memory}
use Rattle.hba_driver.specs.{declared.{mode.Mode.TheVariants.Switching, request.{Completion.Completion, Outcome.TheVariants.Done}}, Delivered.HasCome}
use Rattle.hba_driver.specs.{Delivered.{TookDelivers, touches_of}, HostTurns.{DoesAll, Host, HostTurn, Polled}, Reported.{IsTurnOf, WasReported}}
use Rattle.host_thread.specs.declared.plan.Ended.TheVariants as ended
use Rattle.host_thread.specs.{declared.plan.{Planned.Planned, State.State}, Runs.starting}
use Rattle.host_thread.specs.declared.plan.State.TheVariants as state

-- In these turns the request was polled as Done. Before that a frame of its device was taken whose report says that
-- the command of its slot is done, while exactly this request was issued there. The report has exactly the slots that
-- the frame completes, by what the device itself did. If the request reads, all its bytes were at their places then.
pub record IsDone (start : Memory) (turns : List HostTurn) (host : Host) (does : DoesAll (starting start) turns host)
    (p : Planned) : Type 0 where
  pub completion : Completion
  pub outcome : completion.outcome ≡ Done
  pub polled : IsTurnOf (Polled completion) (starting start) host turns does
  pub reported : WasReported completion.ticket.0 completion.slot (starting start) polled.at polled.before polled.came
  pub dev : reported.dev ≡ p.dev
  pub request : reported.request ≡ p.request
  pub come : HasCome Switching 0 start reported.took.before reported.took.at
  pub delivers : TookDelivers reported.took.at (touches_of Switching 0 start reported.took.before reported.took.at come)
      reported.frame reported.report reported.took.next

-- this holds for each request of the plan that is said to be Done
abbrev pub AreDone : (start : Memory) (turns : List HostTurn) (host : Host) → DoesAll (starting start) turns host
    → List Planned → List State → Type 0
AreDone start turns host does plan states = (i : ℕ) (p : Planned) (s : State) → i < length states
    → slice_index_or states i s ≡ state.Ended (ended.Polled Done)
    → IsDone start turns host does (slice_index_or plan i p)
