-- What a world delivers, over every run since the world was made: which FIS completes what, where the
-- bytes of a read stand, and what every byte of client memory is (AHCI 1.3.1, 4.2.3.3, Physical
-- Region Descriptor Table, and 5.3, data transfer; Serial ATA 3.x, 10.5, FIS types).
--
-- Cited: the turns of the host in a run (specs/Turns.antt) and the runs that lead to a world
-- (specs/Runs.antt); HasCome, HostDelivers and TookDelivers of `hba_driver` (specs/Delivered.antt), by
-- the words of `hba_laws` on what is issued, filled and completed (specs/History.antt), on client bytes
-- (specs/Client.antt) and on reports (specs/Delivering.antt).
use Rattle.std.specs.Prelude.{ℕ, List, [], ◌∷◌, ◌++◌}
use Rattle.host_memory.specs.Memory.{zeroed}
use Rattle.hba_driver.specs.{declared.mode.Mode.Mode, Delivered.{HasCome, HostDelivers, TookDelivers, touches_of}, HostTurns.{Host, HostTurn}}
use Rattle.hba_laws.specs.Client.{Touches}
use Rattle.pm_world.specs.{Places.Places, Rules.Run, Runs.{AfterEveryRun, over}, Turns.turn_of, declared.{step.Step.Step, step.Answer.Answer}}
use Rattle.pm_world.specs.declared.step.Answer.TheVariants as answer

-- ---- one answer

-- what the FIS of a Took answer delivers, after these touches of the host
abbrev pub Tells : Host → Touches → Answer → Host → Type 0
Tells host past (answer.Took port conn number bytes report) after =
    TookDelivers host past bytes report after
Tells host past a after = Prim.Unit {0}

-- that is what it delivers at a host that came here over these turns
pub record AnswerDelivers (mode : Mode) (memory : ℕ) (turns : List HostTurn) (host : Host) (a : Answer)
    (after : Host) : Type 0 where
  pub come : HasCome mode 0 (zeroed memory) turns host
  pub tells : (c : HasCome mode 0 (zeroed memory) turns host)
      → Tells host (touches_of mode 0 (zeroed memory) turns host c) a after

-- ---- a run

-- at each step, whichever run from a new world leads to it
abbrev pub EachDelivers : (old : Places) → (steps : List Step) → (answers : List Answer)
    → (new : Places) → Run old steps answers new → Type 0
EachDelivers old [] answers new run = Prim.Unit {0}
EachDelivers old (s ∷ steps) [] new run = Prim.Unit {0}
EachDelivers old (s ∷ steps) (a ∷ answers) new run =
    AfterEveryRun old (λ mode config units before told made.
    AnswerDelivers mode config.memory (over turn_of _ before told old made) old.host a run.0.host)
    × EachDelivers run.0 steps answers new run.2

-- a host came here over these turns, and this one does all that a host delivers
pub record HasDelivered (mode : Mode) (memory : ℕ) (turns : List HostTurn) (host : Host) : Type 0 where
  pub come : HasCome mode 0 (zeroed memory) turns host
  pub delivers : (c : HasCome mode 0 (zeroed memory) turns host) → HostDelivers mode 0 (zeroed memory) turns host c

-- What these steps deliver.
pub record Delivers (old : Places) (steps : List Step) (answers : List Answer) (new : Places)
    (run : Run old steps answers new) : Type 0 where
  -- each FIS that the host took
  pub each : EachDelivers old steps answers new run
  -- and the host, at the end
  pub whole : AfterEveryRun old (λ mode config units before told made.
      HasDelivered mode config.memory
      (over turn_of _ before told old made ++ over turn_of old steps answers new run) new.host)
