-- When a host port goes on. What a device sends is a fault of the port as a whole only by a host bus error.
-- What the control port of a multiplier sends is one only if it is no FIS of the control port (AHCI 1.3.1,
-- 6.1, error types, and 9.3, FIS-based Switching; Serial ATA 3.x, 16.2, control port). With FIS-based
-- switching nothing else stops the port.
use Rattle.std.specs.Prelude.{ℕ, ◌≡◌, ◌<◌, ◌⊎◌, true, false, List, [], ◌∷◌, Some, None, Ok, is_some}
use Rattle.fis_view.specs.Seen.{seen}
use Rattle.fis_view.specs.declared.view.Fis.TheVariants as view
use Rattle.host_memory.specs.Memory.{IsHostMemory, Memory}
use Rattle.slots.specs.Slots.{own_issue, slots_of}
use Rattle.hba_fbs.specs.{Sending.outgoing, Tables.sound_command, Taking.{admitted, heard_now, port_cause, port_of}}
use Rattle.hba_laws.specs.Hosts as event
use Rattle.hba_laws.specs.{Isolation.{fails_by_bus, stops_port}, Sound.IsHost}
use Rattle.hba_driver.specs.{declared.turn.Act.Act, Events.{opening_host, shared_by}, HostTurns.{DoesAll, Host, HostTurn, Took, sight_in}}
use Rattle.hba_driver.specs.{Orders.control_port, Ticks.due}
use Rattle.hba_driver.specs.declared.turn.Act.TheVariants as act

-- a FIS that a control port may send: Register Device to Host, or Set Device Bits
abbrev pub IsReport : List ℕ → Type 0
IsReport bytes = (seen bytes ≡ Ok (view.RegD2H bytes)) ⊎ (seen bytes ≡ Ok (view.SetBits bytes))

-- if the FIS comes from the control port, it is one of these
abbrev pub IsOfControl : List ℕ → Type 0
IsOfControl frame = port_of frame ≡ control_port → IsReport frame

-- the command of each slot in which something is issued has a table that can be used
abbrev pub CanBeRead : event.Host → Type 0
CanBeRead host =
    (n s : ℕ) → n < 16 → is_some (own_issue (slots_of n host.port.slots) s) ≡ true
    → is_some (sound_command host.memory host.port.commands (slots_of n host.port.slots) s) ≡ true

-- then no FIS that comes is a fault of the port as a whole, and the search for the next one to go is none
pub record SparesPort (host : event.Host) : Type 0 where
  pub hears : (frame : List ℕ) → IsOfControl frame
      → is_some (port_cause (heard_now host.port host.memory (port_of frame)
      (admitted (port_of frame) (seen frame))).fault) ≡ false
  pub gives : fails_by_bus (outgoing host.port host.memory) ≡ false

-- neither a FIS that comes nor the search for the next one stops the port
pub record NothingStops (host : event.Host) : Type 0 where
  pub takes : (frame : List ℕ) → IsOfControl frame
      → stops_port (port_of frame) host.port host.memory frame ≡ false
  pub gives : fails_by_bus (outgoing host.port host.memory) ≡ false

-- there is FIS-based switching while ST is 1
abbrev pub SwitchesIfStarted : event.Host → Type 0
SwitchesIfStarted host = host.port.registers.started ≡ true → host.port.registers.switching ≡ true

abbrev pub FaultsNeverStop : Type 0
FaultsNeverStop =
    (host : event.Host) → IsHost host → CanBeRead host
    → SparesPort host × (SwitchesIfStarted host → NothingStops host)

-- ---- over turns

-- each FIS of the control port that is taken is one of these
abbrev pub AreOfControl : List HostTurn → Type 0
AreOfControl [] = Unit {0}
AreOfControl (Took frame report ∷ turns) = IsOfControl frame × AreOfControl turns
AreOfControl (turn ∷ turns) = AreOfControl turns

-- the driver neither stops the port nor starts it again
abbrev pub leaves_port : Act → Type 0
leaves_port act.Stops = ⊥
leaves_port (act.Restarts k) = ⊥
leaves_port other = Unit {0}

-- no fault of the port stands, nothing that comes or goes next causes one, and so no tick stops the port
pub record GoesOn (h : Host) : Type 0 where
  pub faultless : h.port.errors.port ≡ None
  pub next : NothingStops (shared_by h)
  pub ticks : (a : Act) → due (sight_in h) h.driver ≡ Some a → leaves_port a

abbrev pub PortsGoOn : Type 0
PortsGoOn =
    (given : ℕ) (start : Memory) → IsHostMemory start → (turns : List HostTurn) (h : Host)
    → DoesAll (opening_host given start) turns h → AreOfControl turns → GoesOn h
