-- A command waits in its slot for the answer of its device, and the next one goes to this device only behind that. So the slot that waits has the command
-- that was sent last (AHCI 1.3.1, 5.3.8 and 5.3.13, a port sends a command and takes a Register FIS, and 9.3, FIS-based Switching).
use Rattle.std.specs.Prelude.{ℕ, ◌≡◌, ◌<◌, ◌+◌, ◌==◌, ◌&&◌, Bool, true, false, not, is_some, List, [], ◌∷◌, Some}
use Rattle.slots.specs.Slots.{Issue, holds, is_control, is_waiting, issue_at, slots_of, waiting}
use Rattle.hba_fbs.specs.{Taking.port_of}
use Rattle.ahci_controller.specs.States.{ControllerState}
use Rattle.ahci_controller.specs.declared.next.Next.TheVariants as next
use Rattle.controller_laws.specs.Events as call
use Rattle.controller_laws.specs.Events.{Event, Runs}
use Rattle.machine_theorem.specs.{Commands.AreNotIssued, InTurn.is_answering, Tags.once_if}

-- ---- what is counted

-- a slot of the device has a command that was sent and is not answered
abbrev pub waits_in : (dev : ℕ) → ControllerState → Bool
waits_in dev c = is_some (waiting (slots_of dev c.core.slots))

-- a call sends a command to the device, and no Control
abbrev pub is_command_issue : (dev : ℕ) → Issue → Bool
is_command_issue dev issue = (issue.dev == dev) && not (is_control issue.work.kind)

abbrev pub is_commanded : (dev : ℕ) → ControllerState → Event → Bool
is_commanded dev c (call.Turned (next.Order to slot fis)) = holds (is_command_issue dev) (issue_at c.core.slots slot)
is_commanded dev c event = false

-- by a call a Register FIS of the device is taken
abbrev pub is_answered : (dev : ℕ) → Event → Bool
is_answered dev (call.Took frame took) = (port_of frame == dev) && is_answering frame
is_answered dev event = false

-- how many calls of a run do
abbrev pub commanded_in : (dev : ℕ) → (old : ControllerState) → (events : List Event) → (now : ControllerState) → Runs old events now → ℕ
commanded_in dev old [] now run = 0
commanded_in dev old (event ∷ later) now run = once_if (is_commanded dev old event) + commanded_in dev run.1.0 later now run.1.2

abbrev pub taken_in : (dev : ℕ) → List Event → ℕ
taken_in dev [] = 0
taken_in dev (event ∷ later) = once_if (is_answered dev event) + taken_in dev later

-- ---- a stretch

-- A command that waits leaves its slot only as a Register FIS of its device is taken: no write stops the port or clears the device, and no other FIS
-- ends the command, as Data do that end a PIO read.
abbrev pub KeepsWaiting : (dev : ℕ) → (old : ControllerState) → Event → (new : ControllerState) → Type 0
KeepsWaiting dev old event new = is_answered dev event ≡ false → waits_in dev old ≡ true → waits_in dev new ≡ true

abbrev pub AllKeepWaiting : (dev : ℕ) → (old : ControllerState) → (events : List Event) → (now : ControllerState) → Runs old events now → Type 0
AllKeepWaiting dev old [] now run = Unit {0}
AllKeepWaiting dev old (event ∷ later) now run = KeepsWaiting dev old event run.1.0 × AllKeepWaiting dev run.1.0 later now run.1.2

-- ---- the slot that waits

-- The slot waits with the command that went from it last, and nothing was issued there since; no other slot of the device waits.
pub record IsWaitingAlone (dev slot : ℕ) (later : List Event) (now : ControllerState) : Type 0 where
  pub issue : Issue
  pub is : issue_at now.core.slots slot ≡ Some issue
  pub own : issue.dev ≡ dev
  pub waits : is_waiting issue ≡ true
  pub alone : AreNotIssued slot later
  pub others : (s : ℕ) → s < 32 → (i : Issue) → issue_at now.core.slots s ≡ Some i → i.dev ≡ dev → is_waiting i ≡ true → s ≡ slot

-- ---- what the guest keeps to

-- a write takes no command that waits from its slot, as one does that stops the port, or clears or resets the device
abbrev pub SparesWaiting : (dev : ℕ) → (old : ControllerState) → Event → (new : ControllerState) → Type 0
SparesWaiting dev old (call.Wrote offset value written) new = waits_in dev old ≡ true → waits_in dev new ≡ true
SparesWaiting dev old (call.WroteWide offset width value written) new = waits_in dev old ≡ true → waits_in dev new ≡ true
SparesWaiting dev old event new = Unit {0}
