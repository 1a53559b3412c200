-- What has not gone out of a host port that may send nothing, and what holds it back (AHCI 1.3.1, 5.3, how a port transmits
-- FISes, and chapter 9, FIS-based Switching; ACS-3, 6.2, Status field; Serial ATA 3.x, 13.6, native command queuing).
use Rattle.std.specs.Prelude.{ℕ, ◌≡◌, ◌<◌, ◌⊎◌, true, false, Some, None}
use Rattle.port_errors.specs.Errors.{cause_of}
use Rattle.slots.specs.{Commands.has_outstanding, Data.payload, Slots.{Issue, context_of, is_control, issue_at, slots_of, waiting}, Work.is_dma}
use Rattle.hba_fbs.specs.{Sending.MayRest, Status.{is_busy, wants_data}, Taking.is_running, Views.{Port, state_at}}

-- What holds back a command: its device is in software reset, or shows BSY or DRQ; the device has yet to answer the command in
-- another slot; or the device has queued commands, beside which a command without a setup does not begin.
pub data Holds (port : Port) (issue : Issue) : Type 0 where
  InReset : (state_at port.states issue.dev).resetting ≡ true → Holds port issue
  IsBusy : is_busy (state_at port.states issue.dev).status ≡ true → Holds port issue
  WantsData : wants_data (state_at port.states issue.dev).status ≡ true → Holds port issue
  HasOther : (slot : ℕ) → waiting (slots_of issue.dev port.slots) ≡ Some slot → Holds port issue
  HasQueued : is_dma issue.work.kind ≡ true → has_outstanding (slots_of issue.dev port.slots) ≡ true → Holds port issue

-- the command was not sent, is no Control, and something of its device holds it back
pub record IsHeldBack (port : Port) (issue : Issue) : Type 0 where
  pub unsent : issue.sent ≡ false
  pub command : is_control issue.work.kind ≡ false
  pub holds : Holds port issue

-- The port runs and may send nothing, and no device is faulty. Each device has the data that it asked for. Each command that is
-- issued was sent, unless its device holds it back.
pub record PortWaits (port : Port) : Type 0 where
  pub rests : MayRest port
  pub runs : is_running port ≡ true
  pub faultless : (dev : ℕ) → cause_of port.errors dev ≡ None
  pub fed : (dev : ℕ) → dev < 16 → payload (context_of port.slots dev) ≡ None
  pub sent : (slot : ℕ) (issue : Issue) → slot < 32 → issue_at port.slots slot ≡ Some issue
      → (issue.sent ≡ true) ⊎ IsHeldBack port issue

-- The control port of the multiplier has answered each command that went out to it: what is issued to it in slot 31 did not go
-- out.
abbrev pub ControlHasAnswered : Port → Type 0
ControlHasAnswered port =
    (issue : Issue) → issue_at port.slots 31 ≡ Some issue → issue.dev ≡ 15 → IsHeldBack port issue
