-- Where the controller takes the Data of a write that is not queued, WRITE DMA or PIO data-out: in the slot of its command, from the byte behind those
-- that went since it was sent (AHCI 1.3.1, 5.3 and 9.3, what a port sends; Serial ATA 3.x, 10.5, DMA Activate, PIO Setup and Data; ACS-3, 4, DMA and PIO
-- data-out protocols).
use Rattle.std.specs.Prelude.{ℕ, ◌≡◌, ◌<◌, ◌≤◌, ◌+◌, ◌==◌, Bool, true, false, List, [], ◌∷◌, drop, length, is_some, Some, if◌then◌else◌}
use Rattle.slots.specs.{Slots.{Issue, is_queued_issue, issue_at}, Work.is_read}
use Rattle.hba_fbs.specs.{Views.view_of, declared.turn.Turn.TheVariants.Feeds}
use Rattle.hba_laws.specs.{Agreement.IsTold, History.History}
use Rattle.ahci_controller.specs.{Next.turn_to, States.ControllerState, declared.{feeding.Fed.TheVariants.Goes, latch.Edge.Edge}}
use Rattle.ahci_controller.specs.declared.next.Next.TheVariants as next
use Rattle.controller_laws.specs.Events as call
use Rattle.controller_laws.specs.Events.{Does, Event, Runs}
use Rattle.machine_theorem.specs.{Commands.AreNotIssued, Waits.is_commanded}

-- ---- what goes

-- as many bytes as go to the device by a call
abbrev pub went_by : (dev : ℕ) → Event → ℕ
went_by dev (call.Gathered d number frame (Goes message line)) = if d == dev then length (drop 4 frame) else 0
went_by dev event = 0

abbrev pub went_in : (dev : ℕ) → List Event → ℕ
went_in dev [] = 0
went_in dev (event ∷ later) = went_by dev event + went_in dev later

-- A Data FIS that goes has the bytes of the slot from this one on, and a command of the device is issued there, and no read.
pub record GoesNext (c : ControllerState) (dev slot count : ℕ) (frame : List ℕ) : Type 0 where
  pub len : ℕ
  pub is : turn_to c dev ≡ Feeds dev slot count len
  pub long : length frame ≡ 4 + len
  pub issue : Issue
  pub there : issue_at c.core.slots slot ≡ Some issue
  pub of_dev : issue.dev ≡ dev
  pub way : is_read issue.work.kind ≡ false
  pub inside : count + len ≤ issue.work.len

-- ---- a stretch

-- no queued command is issued for the device
abbrev pub HasNoQueued : (dev : ℕ) → ControllerState → Type 0
HasNoQueued dev c = (s : ℕ) (i : Issue) → issue_at c.core.slots s ≡ Some i → i.dev ≡ dev → is_queued_issue i ≡ false

-- so it is at each moment, the first and the last, too
abbrev pub AllUnqueued : (dev : ℕ) → (old : ControllerState) → (events : List Event) → (now : ControllerState) → Runs old events now → Type 0
AllUnqueued dev old [] now run = HasNoQueued dev old
AllUnqueued dev old (event ∷ later) now run = HasNoQueued dev old × AllUnqueued dev run.1.0 later now run.1.2

-- ---- the law

-- Over each stretch of calls that begins as the command of a slot goes to its device, in which nothing more is issued in the slot, and in which no queued
-- command is issued for the device: while the command is issued still, the Data FIS that goes to the device next is of this slot, from the byte behind
-- those that went in the stretch.
abbrev pub SingleDataGoInOrder : Type 0
SingleDataGoInOrder = (dev : ℕ) → dev < 16 → (slot : ℕ) → slot < 32 → (fis : List ℕ) (later : List Event) (old at new : ControllerState)
    → (run : Runs old (call.Turned (next.Order dev slot fis) ∷ later) at) → is_commanded dev old (call.Turned (next.Order dev slot fis)) ≡ true
    → (past : History) → IsTold (view_of dev old.core) past
    → AreNotIssued slot later → AllUnqueued dev old (call.Turned (next.Order dev slot fis) ∷ later) at run → is_some (issue_at at.core.slots slot) ≡ true
    → (number : ℕ) (frame : List ℕ) (message : Bool) (line : Edge) → Does at (call.Gathered dev number frame (Goes message line)) new
    → GoesNext at dev slot (went_in dev later) frame
