-- What is told of a run once it is over.
use Rattle.std.specs.{Prelude.{◌≡◌, List, [], map, Option, Some, None, Result, Ok, Err}, List.flat_map}
use Rattle.hba_driver.specs.{declared.{mode.Mode.TheVariants.Switching, request.{Outcome.Outcome, SubmitError.SubmitError}}, Delivered.HasCome}
use Rattle.hba_driver.specs.{Delivered.HostDelivers, Events.put_by, HostTurns.{DoesAll, Host, HostTurn}}
use Rattle.host_memory.specs.Memory.{Memory}
use Rattle.host_thread.specs.{Dones.AreDone, Runs.{HostView, starting, took_by}, declared.plan.State.State}
use Rattle.host_thread.specs.declared.plan.Ended.TheVariants as ended
use Rattle.host_thread.specs.declared.plan.State.TheVariants as state

-- ---- memory

-- This memory is what turns of the host made of the one that it began with. The turns that take a FIS took what was
-- taken off its link. Each byte of the client area is that of the memory at the beginning, except for what Data filled
-- there at its place: no turn puts. Each request of the plan that ended as Done was completed by its own device.
pub record IsMadeOf (start : Memory) (w : HostView) (memory : Memory) : Type 0 where
  pub turns : List HostTurn
  pub host : Host
  pub does : DoesAll (starting start) turns host
  pub puts : flat_map put_by turns ≡ []
  pub taken : map (λ f. f.bytes) w.frames.taken ≡ flat_map took_by turns
  pub memory_is : memory ≡ host.memory
  pub come : HasCome Switching 0 start turns host
  pub delivers : HostDelivers Switching 0 start turns host come
  pub done : AreDone start turns host does w.plan w.states

-- ---- results

-- how a request ended, once it has
abbrev pub outcome_of : State → Option (Result Outcome SubmitError)
outcome_of (state.Ended (ended.Polled outcome)) = Some (Ok outcome)
outcome_of (state.Ended (ended.Refused refusal)) = Some (Err refusal)
outcome_of s = None

-- all have ended, each as told at its place
abbrev pub AreOutcomes : List State → List (Result Outcome SubmitError) → Type 0
AreOutcomes states results = map outcome_of states ≡ map Some results
