-- Which requests are polled as failed by their device: those that the device's error log named, in a
-- tick of the run (ACS-3, NCQ Command Error log).
--
-- Cited: runs of a world and their steps (specs/Rules.antt, Runs.antt). A request that the log names,
-- as a tick finds it, comes from `hba_driver` (specs/Faults.antt).
use Rattle.std.specs.Prelude.{ℕ, ◌≡◌, false, true, List, length, Some, Ok}
use Rattle.hba_driver.specs.{declared.{request.Outcome.TheVariants.DeviceError, request.Completion.Completion}, Drivers.{Entry, entry_at, has_ended}}
use Rattle.hba_driver.specs.{Faults.IsNamedBy, HostTurns.sight_in}
use Rattle.pm_world.specs.{Attached.Attached, Places.{Places, is_config, new_world}, Rules.{Rule, Run}, Runs.IsStepOf, declared.step.Config.Config}
use Rattle.pm_world.specs.declared.{step.Step.Step, step.Answer.Answer}
use Rattle.pm_world.specs.declared.step.Step.TheVariants as step
use Rattle.pm_world.specs.declared.step.Answer.TheVariants as answer

-- This run has a tick at which the request of the ticket stands in the slot and has not ended. At
-- that tick the error log of its device is read, is whole, and names the request with this Status and
-- this Error.
pub record IsNamedIn (ticket slot status error : ℕ) (old now : Places) (steps : List Step)
    (answers : List Answer) (run : Run old steps answers now) : Type 0 where
  pub s : Step
  pub ticked : IsStepOf s answer.Ticked old now steps answers run
  pub entry : Entry
  pub there : entry_at ticked.at.host.driver.entries slot ≡ Some entry
  pub ticket_is : entry.head.ticket ≡ ticket
  pub unended : has_ended entry.head ≡ false
  pub named : IsNamedBy (sight_in ticked.at.host) ticked.at.host.driver slot entry status error

-- That holds for each poll that answers DeviceError, after every run from a new world.
abbrev pub PolledErrorsAreNamed : Type 0
PolledErrorsAreNamed =
    (config : Config) (units : List Attached) → is_config config (length units) ≡ true
    → (steps : List Step) (answers : List Answer) (now : Places)
    (run : Run (new_world config units) steps answers now) (completion : Completion) (new : Places)
    (status error : ℕ) → Rule now step.Poll (Ok (answer.Polled completion)) new
    → completion.outcome ≡ DeviceError status error
    → IsNamedIn completion.ticket.0 completion.slot status error (new_world config units) now steps
    answers run
