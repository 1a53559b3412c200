-- What is issued is apart, in every world that a run from a new one leads to. A request that reads
-- shares no byte with another one. What is issued at the port is the driver's. What clients put
-- spares it (AHCI 1.3.1, 4.2.3.3, Physical Region Descriptor Table, and 5.5, how commands are
-- issued).
--
-- Cited: the turns of the host in a run (specs/Turns.antt) and the runs that lead to a world
-- (specs/Runs.antt); HasCome and IssuesAreApart of `hba_driver` (specs/Delivered.antt), with what is
-- issued (specs/Served.antt).
use Rattle.std.specs.Prelude.{ℕ, List, [], ◌∷◌}
use Rattle.host_memory.specs.Memory.{zeroed}
use Rattle.hba_driver.specs.{declared.mode.Mode.Mode, Delivered.{HasCome, IssuesAreApart, touches_of}, HostTurns.{Host, HostTurn}}
use Rattle.pm_world.specs.{Places.Places, Rules.Run, Runs.{AfterEveryRun, over}, Turns.turn_of, declared.{step.Step.Step, step.Answer.Answer}}

-- a host came here over these turns, and what is issued there is apart
pub record IsApart (mode : Mode) (memory : ℕ) (turns : List HostTurn) (host : Host) : Type 0 where
  pub come : HasCome mode 0 (zeroed memory) turns host
  pub apart : (c : HasCome mode 0 (zeroed memory) turns host)
      → IssuesAreApart host (touches_of mode 0 (zeroed memory) turns host c)

-- that holds in a world, whichever run from a new one leads to it
abbrev pub IsKeptApart : Places → Type 0
IsKeptApart now = AfterEveryRun now (λ mode config units before told made.
    IsApart mode config.memory (over turn_of _ before told now made) now.host)

-- and in each world that these steps go through, up to the last
abbrev pub AreKeptApart : (old : Places) → (steps : List Step) → (answers : List Answer)
    → (new : Places) → Run old steps answers new → Type 0
AreKeptApart old [] answers new run = IsKeptApart old
AreKeptApart old (s ∷ steps) [] new run = Prim.Unit {0}
AreKeptApart old (s ∷ steps) (a ∷ answers) new run =
    IsKeptApart old × AreKeptApart run.0 steps answers new run.2

-- What these steps keep apart.
pub record KeepsApart (old : Places) (steps : List Step) (answers : List Answer) (new : Places)
    (run : Run old steps answers new) : Type 0 where
  pub each : AreKeptApart old steps answers new run
