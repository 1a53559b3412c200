-- What the driver says is true, on runs of the world. A request that is polled as Done was completed
-- by its own device, after the tick that issued it. The host port takes every write of the driver
-- (AHCI 1.3.1, 5.3, 5.5, how commands are issued, and 9.3; Serial ATA 3.x, 10.5, Set Device Bits
-- FIS).
--
-- Cited: the turns of the host in a run (specs/Turns.antt) and the runs that lead to a world
-- (specs/Runs.antt); WasCompleted and TurnsAccept of `hba_driver` (specs/Done.antt, Accepted.antt).
use Rattle.std.specs.Prelude.{ℕ, ◌≡◌, List, [], ◌∷◌, ◌++◌}
use Rattle.hba_driver.specs.{declared.{mode.Mode.Mode, request.Outcome.TheVariants.Done}, Accepted.TurnsAccept, Done.WasCompleted}
use Rattle.hba_driver.specs.HostTurns.{DoesAll, Host, HostTurn}
use Rattle.pm_world.specs.{Places.{Places, opening_host_in}, Rules.Run, Runs.{AfterEveryRun, over}, Turns.turn_of, declared.step.Step.Step}
use Rattle.pm_world.specs.declared.step.Answer.{Answer}
use Rattle.pm_world.specs.declared.step.Answer.TheVariants as answer

-- What is polled as Done at a host that came here over these turns: a tick among them issued its
-- ticket, and after that a FIS of the device for which the request was taken had the bit of its slot
-- in its report.
abbrev pub IsTrue : (mode : Mode) (memory : ℕ) (turns : List HostTurn) (host : Host)
    → DoesAll (opening_host_in mode memory) turns host → Answer → Type 0
IsTrue mode memory turns host does (answer.Polled completion) =
    completion.outcome ≡ Done
    → WasCompleted completion.ticket.0 completion.slot (opening_host_in mode memory) host turns does
IsTrue mode memory turns host does a = Prim.Unit {0}

-- that holds for each answer of these steps, whichever run from a new world leads to its step
abbrev pub EachIsTrue : (old : Places) → (steps : List Step) → (answers : List Answer)
    → (new : Places) → Run old steps answers new → Type 0
EachIsTrue old [] answers new run = Prim.Unit {0}
EachIsTrue old (s ∷ steps) [] new run = Prim.Unit {0}
EachIsTrue old (s ∷ steps) (a ∷ answers) new run =
    AfterEveryRun old (λ mode config units before told made.
    (does : DoesAll (opening_host_in mode config.memory) (over turn_of _ before told old made) old.host)
    → IsTrue mode config.memory (over turn_of _ before told old made) old.host does a)
    × EachIsTrue run.0 steps answers new run.2

-- What the driver says and does over these steps.
pub record TellsTruth (old : Places) (steps : List Step) (answers : List Answer) (new : Places)
    (run : Run old steps answers new) : Type 0 where
  pub done : EachIsTrue old steps answers new run
  -- no write of a tick was refused since the world was made
  pub accepted : AfterEveryRun old (λ mode config units before told made.
      (does : DoesAll (opening_host_in mode config.memory)
      (over turn_of _ before told old made ++ over turn_of old steps answers new run) new.host)
      → TurnsAccept (opening_host_in mode config.memory) new.host
      (over turn_of _ before told old made ++ over turn_of old steps answers new run) does)
