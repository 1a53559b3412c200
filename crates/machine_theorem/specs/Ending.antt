-- A command waits in its slot until its device ends it: by a Register FIS, or a PIO data-in by the last of its Data. The next one goes to this device only
-- behind that (AHCI 1.3.1, 5.3.8 and 5.3.13, a port sends a command, and takes a Register FIS, a PIO Setup FIS and Data, and 9.3, FIS-based Switching).
use Rattle.std.specs.Prelude.{ℕ, ◌≡◌, ◌<◌, ◌≤◌, ◌+◌, ◌==◌, ◌&&◌, ◌||◌, Bool, true, false, not, List, [], ◌∷◌, Some, Result, Ok}
use Rattle.fis_view.specs.{Seen.seen, declared.view.{Fis.Fis, FisFault.FisFault}}
use Rattle.fis_view.specs.declared.view.Fis.TheVariants as view
use Rattle.slots.specs.Slots.{Issue, is_queued_issue, issue_at}
use Rattle.hba_fbs.specs.{Taking.port_of, Views.view_of}
use Rattle.hba_laws.specs.{Agreement.IsTold, History.History}
use Rattle.ahci_controller.specs.States.{ControllerState}
use Rattle.ahci_controller.specs.declared.next.Next.TheVariants as next
use Rattle.controller_laws.specs.Events as call
use Rattle.controller_laws.specs.Events.{Event, Runs}
use Rattle.machine_theorem.specs.{Tags.once_if, Waits.{IsWaitingAlone, SparesWaiting, commanded_in, is_answered, is_commanded, waits_in}}

-- ---- what is counted

-- a FIS carries Data
abbrev pub carries : Result Fis FisFault → Bool
carries (Ok (view.Payload f)) = true
carries other = false

-- by a call a Data FIS of the device is taken
abbrev pub is_data_of : (dev : ℕ) → Event → Bool
is_data_of dev (call.Took frame took) = (port_of frame == dev) && carries (seen frame)
is_data_of dev event = false

-- by a call the device ends a command that waits, or answers it: by a Register FIS, or by Data as which it leaves its slot
abbrev pub is_ended : (dev : ℕ) → (old : ControllerState) → Event → (new : ControllerState) → Bool
is_ended dev old event new = is_answered dev event || (is_data_of dev event && (waits_in dev old && not (waits_in dev new)))

-- how many calls of a run do
abbrev pub ended_in : (dev : ℕ) → (old : ControllerState) → (events : List Event) → (now : ControllerState) → Runs old events now → ℕ
ended_in dev old [] now run = 0
ended_in dev old (event ∷ later) now run = once_if (is_ended dev old event run.1.0) + ended_in dev run.1.0 later now run.1.2

-- ---- a stretch

-- A command that waits leaves its slot only as a Register FIS or a Data FIS of its device is taken: no write stops the port or clears the device.
abbrev pub KeepsEnding : (dev : ℕ) → (old : ControllerState) → Event → (new : ControllerState) → Type 0
KeepsEnding dev old event new = is_answered dev event ≡ false → is_data_of dev event ≡ false → waits_in dev old ≡ true → waits_in dev new ≡ true

abbrev pub AllKeepEnding : (dev : ℕ) → (old : ControllerState) → (events : List Event) → (now : ControllerState) → Runs old events now → Type 0
AllKeepEnding dev old [] now run = Unit {0}
AllKeepEnding dev old (event ∷ later) now run = KeepsEnding dev old event run.1.0 × AllKeepEnding dev run.1.0 later now run.1.2

-- ---- the laws

-- Over each such stretch of calls no more commands are sent to a device than it ended or answered, and one more where one of its slots waits.
abbrev pub CommandsAwaitEnds : Type 0
CommandsAwaitEnds = (dev : ℕ) (old now : ControllerState) (events : List Event) (run : Runs old events now) → AllKeepEnding dev old events now run
    → commanded_in dev old events now run + once_if (waits_in dev old) ≤ ended_in dev old events now run + once_if (waits_in dev now)

-- A command is sent to the device from a slot by this call, and none behind it.
pub record IsSentLast (dev slot : ℕ) (fis : List ℕ) (later : List Event) (now : ControllerState) : Type 0 where
  pub at : ControllerState
  pub run : Runs at (call.Turned (next.Order dev slot fis) ∷ later) now
  pub commanded : is_commanded dev at (call.Turned (next.Order dev slot fis)) ≡ true
  pub none : commanded_in dev run.1.0 later now run.1.2 ≡ 0

-- Where a slot of the device waits still, it is this one, whatever FISes came and whatever the guest wrote.
abbrev pub SentLastWait : Type 0
SentLastWait = (dev : ℕ) → dev < 16 → (slot : ℕ) → slot < 32 → (fis : List ℕ) (later : List Event) (now : ControllerState)
    → (last : IsSentLast dev slot fis later now) → (past : History) → IsTold (view_of dev last.at.core) past → waits_in dev now ≡ true
    → IsWaitingAlone dev slot later now

-- ---- where a command waits

-- No queued command is issued for the device: each of its commands is by DMA or PIO, or moves no data.
abbrev pub HasNoQueued : (dev : ℕ) → ControllerState → Type 0
HasNoQueued dev c = (s : ℕ) (i : Issue) → issue_at c.core.slots s ≡ Some i → i.dev ≡ dev → is_queued_issue i ≡ false

abbrev pub AllUnqueued : (dev : ℕ) → (old : ControllerState) → (events : List Event) → (now : ControllerState) → Runs old events now → Type 0
AllUnqueued dev old [] now run = Unit {0}
AllUnqueued dev old (event ∷ later) now run = HasNoQueued dev old × SparesWaiting dev old event run.1.0 × AllUnqueued dev run.1.0 later now run.1.2

-- So a command waits over each stretch of calls in which the guest has no queued commands for the device, and spares those that wait.
abbrev pub UnqueuedCommandsWait : Type 0
UnqueuedCommandsWait = (dev : ℕ) → dev < 16 → (old now : ControllerState) (events : List Event) (run : Runs old events now)
    → (past : History) → IsTold (view_of dev old.core) past → AllUnqueued dev old events now run → AllKeepEnding dev old events now run
