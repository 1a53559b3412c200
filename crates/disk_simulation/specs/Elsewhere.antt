-- What happens at a host port and does not concern one device (AHCI 1.3.1, chapter 9, FIS-based Switching):
-- it leaves the device's view, and is no event of its history.
use Rattle.std.specs.Prelude.{ℕ, ◌≡◌, ◌≢◌, ◌<◌, false, [], Some}
use Rattle.hba_fbs.specs.{declared.register.Register.{Register, TheVariants.{Ci, Cmd, Fbs}}, Issuing.aimed, Registers.falls}
use Rattle.hba_fbs.specs.{Sending.{Data, Nothing, Order, Outgoing, Unreadable, outgoing}, Taking.port_of, Views.view_of, Writing.cleared_by}
use Rattle.hba_laws.specs.{Client.own, Delivering.touched, Hosts.{Does, Flushed, Gave, Host, HostEvent, Put, Rewrote, Stored, Took, Wrote}}

-- what is transmitted is for another device, and the port goes on
abbrev pub IsForOther : ℕ → Outgoing → Type 0
IsForOther n Nothing = Unit {0}
IsForOther n (Unreadable dev) = ⊥
IsForOther n (Data dev offset len command) = n ≢ dev
IsForOther n (Order dev slot command) = n ≢ dev

-- a write of PxCI issues for another device, ST does not fall, and the error of n is not cleared
abbrev pub WritesElsewhere : ℕ → Host → Register → ℕ → Type 0
WritesElsewhere n host Cmd value = falls host.port.registers value ≡ false
WritesElsewhere n host Ci value = n ≢ aimed host.port.registers host.memory.structure value
WritesElsewhere n host Fbs value = cleared_by host.port.errors value ≢ Some n
WritesElsewhere n host register value = Unit {0}

abbrev pub IsElsewhere : ℕ → Host → HostEvent → Type 0
IsElsewhere n host (Took frame report) = n ≢ port_of frame
IsElsewhere n host (Wrote register value) = WritesElsewhere n host register value
IsElsewhere n host (Flushed dev) = n ≢ dev
IsElsewhere n host (Gave frame) = IsForOther n (outgoing host.port host.memory)
IsElsewhere n host (Stored structure) = Unit {0}
IsElsewhere n host (Rewrote dev row) = Unit {0}
IsElsewhere n host (Put at bytes) = Unit {0}

-- nothing of the device changes
pub record LeavesDevice (n : ℕ) (old : Host) (event : HostEvent) (new : Host) : Type 0 where
  pub view : view_of n new.port ≡ view_of n old.port
  pub history : own n (touched old event) ≡ []

abbrev pub OthersLeaveDevice : Type 0
OthersLeaveDevice =
    (n : ℕ) (old new : Host) (event : HostEvent) → n < 16 → Does old event new
    → IsElsewhere n old event → LeavesDevice n old event new
