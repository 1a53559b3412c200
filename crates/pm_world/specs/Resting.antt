-- The port of a device that the host flushes is at rest. No FIS of it is on the host's link, and it
-- passes none until the host clears it (Serial ATA 3.x, 16.3, port multiplier: presence of a device
-- on a port; 16.4.2: PSCR[1], bit X, a device was exchanged).
--
-- Cited: runs and what holds at each step of them (specs/Rules.antt, Runs.antt); a port that waits
-- for an order that clears it (specs/Stale.antt).
use Rattle.std.specs.{Prelude.{ℕ, ◌≡◌, ◌<◌, true, false, List, length}, List.list_any}
use Rattle.hba_driver.specs.Steady.{IsFlushTick}
use Rattle.pm_world.specs.{Attached.Attached, Places.{Places, is_config, new_world}, Rules.Run, declared.{step.Config.Config, step.Step.Step}}
use Rattle.pm_world.specs.{declared.step.Answer.Answer, Runs.AtEach, Stale.{Waits, is_from}}
use Rattle.pm_world.specs.declared.step.Answer.TheVariants as answer

-- ---- the port

-- no FIS of port n is on the host's link, and the port passes none until it is cleared
pub record IsAtRest (n : ℕ) (now : Places) : Type 0 where
  pub away : list_any (is_from n) now.upward.frames ≡ false
  pub waits : Waits n now

-- ---- what the host finds when it flushes a disk

-- if this step flushes device n, the port is at rest
abbrev pub RestsAtFlush : ℕ → Places → Answer → Type 0
RestsAtFlush n old answer.Ticked = IsFlushTick n old.host → IsAtRest n old
RestsAtFlush n old a = Prim.Unit {0}

-- that holds in each step of every run from a new world
abbrev pub PortsRest : Type 0
PortsRest =
    (config : Config) (units : List Attached) → is_config config (length units) ≡ true
    → (steps : List Step) (answers : List Answer) (new : Places)
    (run : Run (new_world config units) steps answers new) (n : ℕ) → n < 15
    → AtEach (RestsAtFlush n) (new_world config units) steps answers new run
