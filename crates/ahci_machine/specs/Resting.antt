-- Where no move of a machine is left: it then waits for the guest, for a medium, or for a device of the caller's own (AHCI 1.3.1, 3.3.7,
-- PxCMD.FRE, without which a port receives nothing; Serial ATA 3.x, 16.3.3, a port multiplier holds a frame until there is room for it).
use Rattle.std.specs.Prelude.{◌≡◌, ◌<◌, ◌≤◌, ◌||◌, ℕ, length, Bool, true, false, Option, Some, None, is_some, Ok, Err, MatchOption}
use Rattle.multiplier.specs.declared.multiplier.PmRefusal.TheVariants.{HoldFull}
use Rattle.ahci_controller.specs.{Latch.raised, Next.Turns, States.ControllerState, Taking.hindrance, declared.next.Next.Next}
use Rattle.ahci_controller.specs.declared.taking.Hindrance.{Hindrance, TheVariants.{NotReceiving, Writing}}
use Rattle.ahci_controller.specs.declared.next.Next.TheVariants as next
use Rattle.block_engine.specs.Engine.{AsksNothing, IsEngineStart}
use Rattle.fan_out.specs.{FanOuts.{GivesDownThere, GivesUpThere, Sends, Tells, port_count, wants_at}, declared.fan_out.FanOut.FanOut}
use Rattle.sata_disk.specs.{Sending.IsOut, State.DiskState}
use Rattle.ahci_machine.specs.{Acts.{HasWritten, Moves, Steps}, Gathers.GatheringState, States.{MachineState, bay_at, gathering_at}}
use Rattle.ahci_machine.specs.declared.{act.Act.TheVariants.Rests, bay.{Bay.Bay, Unit.{Unit as Inside, TheVariants.{Disk, Own}}}}

-- ---- the interrupt

-- the caller knows all that there is to know of it
pub record IsToldAll (m : MachineState) : Type 0 where
  pub line : m.told ≡ raised m.controller.latch
  pub message : m.message ≡ false

-- ---- frames of the devices

-- a frame is on its way to the controller, or the devices give none
abbrev pub NoneRises : MachineState → Type 0
NoneRises m = m.incoming ≡ None → GivesUpThere m.fan (Ok None) m.fan

-- the port does not receive, or still writes what it received
abbrev pub IsHeldBack : Option Hindrance → Type 0
IsHeldBack (Some NotReceiving) = Unit {0}
IsHeldBack (Some Writing) = Unit {0}
IsHeldBack other = ⊥

-- the frame on its way was taken, or is held back
abbrev pub NoneIsTaken : MachineState → Type 0
NoneIsTaken m = m.taken ≡ false → is_some m.incoming ≡ true → IsHeldBack (hindrance m.controller)

-- ---- frames for the devices

-- there is no room for the frame on its way
abbrev pub NoneGoes : MachineState → Type 0
NoneGoes m = MatchOption m.outgoing (Unit {0}) (λ frame. Sends m.fan frame (Err (frame, HoldFull)) m.fan)

abbrev pub IsOrder : Next → Type 0
IsOrder (next.Order dev slot fis) = Unit {0}
IsOrder other = ⊥

-- what the controller said to do next is a command FIS, behind another frame
abbrev pub NothingIsDone : MachineState → Type 0
NothingIsDone m = MatchOption m.kept (Unit {0}) (λ said. IsOrder said × (is_some m.outgoing ≡ true))

-- a Data FIS waits for bytes of the guest; or it is whole, and behind another frame
abbrev pub StandsStill : MachineState → GatheringState → Type 0
StandsStill m g = g.asked ≡ None → (g.done ≡ g.feed.len) × ((is_some m.kept || is_some m.outgoing) ≡ true)

abbrev pub NoneGathers : MachineState → (dev : ℕ) → Type 0
NoneGathers m dev = MatchOption (gathering_at m dev) (Unit {0}) (StandsStill m)

-- ---- the ports

-- a FIS of the host is there already, or none comes
abbrev pub NoneFalls : FanOut → (port : ℕ) → Bay → Type 0
NoneFalls fan port b = b.down ≡ None → GivesDownThere fan port None fan

-- a device of the caller's own, which knows of the FIS that is there
abbrev pub IsPointed : Inside → (told : Bool) → Type 0
IsPointed Own told = told ≡ true
IsPointed other told = ⊥

-- the FIS that is there is for such a device
abbrev pub NoneIsHeard : Bay → Type 0
NoneIsHeard b = is_some b.down ≡ true → IsPointed b.unit b.told

-- it holds of the disk that is there
abbrev pub OfDisk : Inside → (DiskState → Type 0) → Type 0
OfDisk (Disk d) holds = holds d
OfDisk other holds = Unit {0}

-- a disk sends nothing, or its last FIS still waits
abbrev pub NoneIsSaid : FanOut → (port : ℕ) → Bay → Type 0
NoneIsSaid fan port b = OfDisk b.unit (λ d. wants_at fan port ≡ true → IsOut d None)

-- no command of it starts
abbrev pub NoneStarts : Bay → Type 0
NoneStarts b = OfDisk b.unit (λ d. IsEngineStart d.engine None)

-- it asks nothing of its medium
abbrev pub NoneIsAsked : Bay → Type 0
NoneIsAsked b = OfDisk b.unit (λ d. AsksNothing d.engine)

-- its disk has nothing to send
abbrev pub IsSilent : Bay → Type 0
IsSilent b = OfDisk b.unit (λ d. IsOut d None)

-- it does nothing by itself, whatever is behind the controller
pub record IsResting (b : Bay) : Type 0 where
  pub hears : NoneIsHeard b
  pub says : IsSilent b
  pub starts : NoneStarts b
  pub asks : NoneIsAsked b

pub record IsQuietBay (fan : FanOut) (port : ℕ) (b : Bay) : Type 0 where
  pub falls : NoneFalls fan port b
  pub hears : NoneIsHeard b
  pub says : NoneIsSaid fan port b
  pub starts : NoneStarts b
  pub asks : NoneIsAsked b

abbrev pub IsQuietAt : MachineState → (port : ℕ) → Type 0
IsQuietAt m port = IsQuietBay m.fan port (bay_at m port)

-- the ports from one to another, which is none of them
abbrev pub ArePortsQuietIn : (from to : ℕ) → MachineState → Type 0
ArePortsQuietIn from to m = (port : ℕ) → from ≤ port → port < to → port < length m.bays → IsQuietAt m port

abbrev pub ArePortsQuiet : MachineState → Type 0
ArePortsQuiet m = (port : ℕ) → port < port_count m.fan → port < length m.bays → IsQuietAt m port

-- ---- all of it

-- nothing is on its way that can go on
pub record IsCarried (m : MachineState) : Type 0 where
  pub rises : NoneRises m
  pub taken : NoneIsTaken m
  pub goes : NoneGoes m
  pub done : NothingIsDone m
  pub gathers : (dev : ℕ) → dev < 16 → NoneGathers m dev
  pub begins : Tells m.fan None m.fan

-- the controller has nothing to do, where nothing is left of what it said before
abbrev pub NothingIsSaid : MachineState → Type 0
NothingIsSaid m = m.kept ≡ None → (after : ControllerState) × Turns m.controller next.Nothing after

pub record IsAtRest (m : MachineState) : Type 0 where
  pub written : HasWritten m
  pub told : IsToldAll m
  pub carried : IsCarried m
  pub ports : ArePortsQuiet m
  pub said : NothingIsSaid m

-- moves that ask nothing lead to one that is at rest
pub record EndsAtRest (old new : MachineState) : Type 0 where
  pub middle : MachineState
  pub moves : Moves old middle
  pub rests : IsAtRest middle
  pub last : Steps middle Rests new
