-- When a world is at rest, and where frames stand in it then (Serial ATA 3.x, 16.3, port multiplier: frame
-- transmission, presence of a device on a port; AHCI 1.3.1, 5.3, the port's states).
use Rattle.std.specs.Prelude.{ℕ, ◌≡◌, ◌<◌, ◌⊎◌, Bool, IsTrue, true, false, List, [], length, None, Some, Ok, slice_get}
use Rattle.pm_registers.specs.RegisterMap.{forwards}
use Rattle.multiplier.specs.State.{PmState, held, port_at}
use Rattle.disk_model.specs.{declared.unit.Unit.TheVariants.Disk, Histories.Happening, Laws.OwesNothing, Ledger.{IsSize, ledger}, Runs.DiskStandsFor}
use Rattle.pm_world.specs.{Attached.{Attached, IsSilentAttached, Modelled}, Places.{IsFull, Place, Places}, Rules.Rule, declared.step.Answer.Answer}
use Rattle.pm_world.specs.declared.step.Step.{Step}
use Rattle.pm_world.specs.declared.step.Answer.TheVariants as answer
use Rattle.pm_world.specs.declared.step.Step.TheVariants as step

-- ---- a round

-- the step did nothing: there was nothing to move, or no room for it
abbrev pub is_still : Answer → Bool
is_still answer.Idle = true
is_still answer.Blocked = true
is_still a = false

-- A step of a round in a world of this many ports: what devices, multiplier, host port and driver do by themselves. No
-- device comes or goes, nothing is injected, and no client asks for anything.
abbrev pub IsOfRound : ℕ → Step → Type 0
IsOfRound ports (step.DiskSend n) = n < ports
IsOfRound ports (step.DiskTake n) = n < ports
IsOfRound ports (step.PmPresence n) = n < ports
IsOfRound ports (step.PmFromDevice n) = n < ports
IsOfRound ports (step.PmDown n) = n < ports
IsOfRound ports step.PmFromHost = Unit {0}
IsOfRound ports step.PmUp = Unit {0}
IsOfRound ports step.HostTake = Unit {0}
IsOfRound ports step.HostPush = Unit {0}
IsOfRound ports step.Tick = Unit {0}
IsOfRound ports s = ⊥

-- each step of a round is among these, in whatever order
abbrev pub HasRound : ℕ → List Step → Type 0
HasRound ports steps = (s : Step) → IsOfRound ports s → (i : ℕ) × (slice_get steps i ≡ Some s)

-- ---- at rest

-- the step may be answered so that it did nothing, and leaves the world
pub record DoesNothing (now : Places) (s : Step) : Type 0 where
  pub answer : Answer
  pub still : is_still answer ≡ true
  pub rule : Rule now s (Ok answer) now

-- no step of a round does anything
abbrev pub IsAtRest : Places → Type 0
IsAtRest now = (s : Step) → IsOfRound (length now.devices) s → DoesNothing now s

-- ---- what a device owes

-- A disk has answered all that it heard: by the FISes of each history that it stands for, each command and each reset was
-- answered, and each page came; and no command is outstanding, or a write waits for Data that the disk asked for.
abbrev pub HasAnswered : Attached → Type 0
HasAnswered (Modelled (Disk disk)) =
    (history : List Happening) → DiskStandsFor disk history → IsSize disk.plan disk.sectors → OwesNothing (ledger history)
HasAnswered device = Unit {0}

-- ---- where frames stand

-- What stands at port n. Nothing is on its way down to the device, and no change of its presence is left to record. If the port
-- forwards, or no device is plugged in, nothing is on its way up, and the device has nothing to send: if it is a disk, it has
-- answered all that it heard. What is on its way up from a device behind a port that does not forward waits there, and the
-- device is silent or its link is full.
pub record PortRests (n : ℕ) (place : Place) (pm : PmState) : Type 0 where
  pub down : place.down.frames ≡ []
  pub falls : (port_at pm n).down ≡ None
  pub presence : place.presence.changes ≡ []
  pub rises : held pm n ≡ None
  pub passed : (IsTrue place.plugged → forwards pm.registers n ≡ true)
      → (place.up.frames ≡ []) × ((port_at pm n).up ≡ None) × (IsTrue place.plugged → IsSilentAttached place.unit)
  pub answered : IsTrue place.plugged → forwards pm.registers n ≡ true → HasAnswered place.unit
  pub shut : IsTrue place.plugged → IsSilentAttached place.unit ⊎ IsFull place.up

-- Nothing is on its way between multiplier and host, and the control port has nothing to send.
pub record NothingMoves (now : Places) : Type 0 where
  pub upward : now.upward.frames ≡ []
  pub downward : now.downward.frames ≡ []
  pub answer : now.multiplier.answer ≡ None
  pub notice : now.multiplier.registers.due ≡ false
  pub ports : (n : ℕ) (place : Place) → slice_get now.devices n ≡ Some place → PortRests n place now.multiplier
