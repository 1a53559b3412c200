-- The laws of a world at rest. A new world has FIS-based switching here. Nothing is asked of the devices.
use Rattle.std.specs.{Prelude.{ℕ, ◌≡◌, Bool, false, true, List, length}, List.list_all}
use Rattle.hba_driver.specs.{declared.mode.Mode.TheVariants.Switching, HostTurns.{Host, sight_in}, Ticks.acts}
use Rattle.pm_world.specs.{Attached.Attached, Places.{Places, is_config, new_world}, Rules.{Run, Stops}, declared.step.{Answer.Answer, Config.Config}}
use Rattle.pm_world.specs.declared.step.{Step.Step, StepError.StepError}
use Rattle.world_rests.specs.{Rests.{HasRound, IsAtRest, NothingMoves, is_still}, Waits.{DriverWaits, HostWaits}}

-- a driver with FIS-based switching that has nothing to do waits
abbrev pub IdleDriversWait : Type 0
IdleDriversWait =
    (h : Host) → h.driver.plan.mode ≡ Switching → acts (sight_in h) h.driver ≡ false → DriverWaits (sight_in h) h.driver

-- Steps that have each step of a round, and are all answered as doing nothing, leave the world as it was, and it is at rest.
abbrev pub StillRoundsRest : Type 0
StillRoundsRest =
    (config : Config) (units : List Attached) → is_config config (length units) ≡ true
    → (before : List Step) (told : List Answer) (old : Places) → Run (new_world config units) before told old
    → (steps : List Step) (answers : List Answer) (new : Places) → Run old steps answers new
    → list_all is_still answers ≡ true → HasRound config.ports steps → (new ≡ old) × IsAtRest old

-- In a world at rest nothing moves, and its host waits.
abbrev pub RestedHaveDone : Type 0
RestedHaveDone =
    (config : Config) (units : List Attached) → is_config config (length units) ≡ true
    → (before : List Step) (told : List Answer) (now : Places) → Run (new_world config units) before told now
    → IsAtRest now → NothingMoves now × HostWaits now.host

-- Steps that were all answered as doing nothing, and have each step of a round, left the world at rest, if it came from a new one.
abbrev pub RestsAfter : Places → List Step → Places → Type 0
RestsAfter old steps new =
    (config : Config) (units : List Attached) → is_config config (length units) ≡ true
    → (before : List Step) (told : List Answer) → Run (new_world config units) before told old
    → HasRound config.ports steps
    → (new ≡ old) × IsAtRest old × NothingMoves old × HostWaits old.host

-- the run of these steps went to its end, and this says whether none of them did anything
pub record HasTold (old : Places) (steps : List Step) (still : Bool) (new : Places) : Type 0 where
  pub answers : List Answer
  pub run : Run old steps answers new
  pub says : still ≡ list_all is_still answers

-- or it stopped at a step that was refused
pub record HasStopped (old : Places) (steps : List Step) (at : ℕ) (e : StepError) (new : Places) : Type 0 where
  pub answers : List Answer
  pub stops : Stops old steps at e answers new
