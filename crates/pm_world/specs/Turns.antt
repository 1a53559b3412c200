-- What a world's steps mean to its host: turns of port, driver and memory (AHCI 1.3.1, chapter 5).
use Rattle.std.specs.Prelude.{◌≡◌, true, List, [], ◌∷◌, ◌++◌, map, length, drop, Some, None, All, slice_index, ◌%◌}
use Rattle.hba_driver.specs.HostTurns.{HostTurn, Took, Pushed, Ticked, Submitted, Polled, Put, DoesAll}
use Rattle.pm_world.specs.{Places.{Places, opening_host_in}, Rules.Run, Runs.{AfterEveryRun, Telling, over}, declared.step.{Step.Step, Answer.Answer}}
use Rattle.pm_world.specs.declared.step.Step.TheVariants as step
use Rattle.pm_world.specs.declared.step.Answer.TheVariants as answer

-- The turn of the host that a step with this answer is, if it is one. The frame that it pushed is
-- what its link has now and did not have before.
abbrev pub turn_of : Telling HostTurn
turn_of old s (answer.Took port conn number bytes report) new = Took bytes report ∷ []
turn_of old step.HostPush answer.Idle new = Pushed None ∷ []
turn_of old step.HostPush answer.Pushed new =
    map (λ frame. Pushed (Some frame)) (drop (length old.downward.frames) new.downward.frames)
turn_of old s answer.Ticked new = Ticked true ∷ []
turn_of old (step.Submit dev request) (answer.Submitted ticket) new =
    Submitted dev request ticket.0 ∷ []
turn_of old s (answer.Polled completion) new = Polled completion ∷ []
turn_of old (step.Put at bytes) answer.Put new = Put at bytes ∷ []
turn_of old s a new = []

-- The host is what these turns make of it, from the world before these steps, and from every new
-- world that leads to it.
pub record HostIsFold (old : Places) (steps : List Step) (answers : List Answer) (new : Places)
    (run : Run old steps answers new) : Type 0 where
  pub does : DoesAll old.host (over turn_of old steps answers new run) new.host
  pub reached : AfterEveryRun old (λ mode config units before told made.
      DoesAll (opening_host_in mode config.memory)
      (over turn_of _ before told old made ++ over turn_of old steps answers new run) new.host)

-- The FIS that a Took answer tells of has the PM Port of the answer's port, and the report is about
-- that device.
abbrev pub IsOfItsPort : Answer → Type 0
IsOfItsPort (answer.Took port conn number bytes report) =
    (slice_index bytes 1 % 16 ≡ port) × (report.dev ≡ port)
IsOfItsPort _ = Prim.Unit {0}

abbrev pub AreOfTheirPorts : Places → List Answer → Type 0
AreOfTheirPorts old answers = AfterEveryRun old (λ mode config units before told made.
    All IsOfItsPort answers)
