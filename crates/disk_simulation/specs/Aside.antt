-- A device that cannot complete a queued command at a host port, from its first fault until it begins anew:
-- AHCI 1.3.1, 5.3.13 (how a port receives FISes), 6.2.2 (error recovery) and 9.3 (FIS-based Switching, on
-- errors). Its FISes are ignored, or nothing queued of it is issued. All that was issued is emptied, and not
-- done, before a queued command is issued anew.
use Rattle.std.specs.Prelude.{ℕ, ◌≡◌, ◌<◌, ◌⊎◌, ◌++◌, true, false, List, Some, is_some}
use Rattle.slots.specs.{Slots.has_bit, Work.is_queued}
use Rattle.hba_commands.specs.declared.command.Command as issued_command
use Rattle.hba_fbs.specs.{declared.{register.Register.{Register, TheVariants.{Ci, Cmd, Fbs}}, report.TakeReport.TakeReport}, Issuing.{aimed, asked}}
use Rattle.hba_fbs.specs.{Registers.falls, Sending.outgoing, Taking.port_of, Views.view_of, Writing.cleared_by}
use Rattle.hba_laws.specs.{Client.own, Delivering.touched, History.{History, Transfer, issued}}
use Rattle.hba_laws.specs.{Hosts.{Does, Flushed, Gave, Host, HostEvent, Put, Rewrote, Stored, TakesFrame, Took, Wrote}, Isolation.fails_by_bus}
use Rattle.disk_simulation.specs.Together.{NoneQueued}

-- no queued command is issued in any slot
abbrev pub AreUnqueued : History → Type 0
AreUnqueued past = (s : ℕ) → NoneQueued (issued s past)

pub data IsAside (n : ℕ) (host : Host) (past : History) : Type 0 where
  -- a fault stopped the port: every FIS is ignored until ST falls, and that empties all slots
  Halted : is_some host.port.errors.port ≡ true → IsAside n host past
  -- the device has a fault: its FISes are ignored until the fault is cleared, and that empties its slots
  Faulty : is_some (view_of n host.port).fault ≡ true → IsAside n host past
  -- no queued command of it is issued
  Spared : AreUnqueued past → IsAside n host past

-- ---- what sets a device aside

-- ST falls, or the device's error is cleared
abbrev pub WritesAside : ℕ → Host → Register → ℕ → Type 0
WritesAside n host Cmd value = falls host.port.registers value ≡ true
WritesAside n host Fbs value = cleared_by host.port.errors value ≡ Some n
WritesAside n host register value = ⊥

-- a FIS of the device has a fault or stops the port, ST falls, the device's error is cleared, the host bus
-- fails, or the device is flushed
abbrev pub SetsAside : ℕ → Host → HostEvent → Type 0
SetsAside n host (Took frame report) =
    ((port_of frame ≡ n) × (is_some report.fault ≡ true)) ⊎ (is_some report.stopped ≡ true)
SetsAside n host (Wrote register value) = WritesAside n host register value
SetsAside n host (Flushed dev) = dev ≡ n
SetsAside n host (Gave frame) = fails_by_bus (outgoing host.port host.memory) ≡ true
SetsAside n host (Stored structure) = ⊥
SetsAside n host (Rewrote dev row) = ⊥
SetsAside n host (Put at bytes) = ⊥

-- ---- what leaves it set aside

-- a write of PxCI issues no queued command for the device
abbrev pub WritesNoneQueued : ℕ → Host → Register → ℕ → Type 0
WritesNoneQueued n host Ci value =
    aimed host.port.registers host.memory.structure value ≡ n → (s : ℕ) (command : issued_command.Command)
    → asked host.port.registers host.memory value s ≡ Some command
    → is_queued command.work.kind ≡ false
WritesNoneQueued n host register value = Unit {0}

abbrev pub IssuesNoneQueued : ℕ → Host → HostEvent → Type 0
IssuesNoneQueued n host (Wrote register value) = WritesNoneQueued n host register value
IssuesNoneQueued n host event = Unit {0}

-- ---- laws

-- A device is set aside, and stays so at each event that issues no queued command for it. Meanwhile no report
-- says that a queued command of it is done.
pub record AsideIsKept : Type 0 where
  pub starts : (n : ℕ) (host new : Host) (event : HostEvent) (past : History) → n < 16
      → Does host event new → SetsAside n host event
      → IsAside n new (own n (touched host event) ++ past)
  pub goes_on : (n : ℕ) (host new : Host) (event : HostEvent) (past : History) → n < 16
      → Does host event new → IssuesNoneQueued n host event → IsAside n host past
      → IsAside n new (own n (touched host event) ++ past)
  pub never_done : (n : ℕ) (host new : Host) (frame : List ℕ) (report : TakeReport)
      (past : History) → port_of frame ≡ n → IsAside n host past
      → TakesFrame host frame report new → (s : ℕ) (t : Transfer) → issued s past ≡ Some t
      → is_queued t.work.kind ≡ true → has_bit report.done s ≡ false
