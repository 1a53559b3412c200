-- Each byte of a queued read that came was brought by a Data FIS of its device, since the command was issued (AHCI 1.3.1, 5.3.13 and 9.3; Serial ATA 3.x,
-- 10.5, DMA Setup and Data, and 13.6, native command queuing).
use Rattle.std.specs.Prelude.{ℕ, ◌≡◌, ◌<◌, ◌≤◌, ◌+◌, ◌==◌, true, false, List, [], ◌∷◌, ◌++◌, drop, length, Some}
use Rattle.slots.specs.{Bytes.is_over, Slots.{Issue, holds, issue_at}, declared.work.Kind.TheVariants.QueuedRead}
use Rattle.hba_fbs.specs.{Taking.port_of, Views.view_of, declared.report.Wrote.Wrote}
use Rattle.hba_laws.specs.{Agreement.IsTold, History.History}
use Rattle.ahci_controller.specs.{States.ControllerState, Taking.is_overflow}
use Rattle.ahci_controller.specs.declared.taking.Took as taking
use Rattle.controller_laws.specs.Events.{Event, Runs, Takes, Took}
use Rattle.machine_theorem.specs.{Commands.AreNotIssued, Orders.is_sent_of}

-- A FIS that is taken brings byte k of the queued read that is issued in a slot.
pub record Brings (n slot k : ℕ) (c : ControllerState) (frame : List ℕ) (took : taking.Took) : Type 0 where
  -- The FIS is of the device that owns the command.
  pub own : port_of frame ≡ n
  pub issue : Issue
  pub is : issue_at c.core.slots slot ≡ Some issue
  pub dev : issue.dev ≡ n
  pub kind : issue.work.kind ≡ QueuedRead
  -- It brings bytes for this slot, which are all bytes behind its header, and do not go past the table; one of them has the number k in the command.
  pub calm : is_overflow took.report.fault ≡ false
  pub wrote : Wrote
  pub brought : took.brought ≡ Some wrote
  pub slot_is : wrote.slot ≡ slot
  pub whole : wrote.len ≡ length (drop 4 frame)
  pub from : wrote.offset ≤ k
  pub to : k < wrote.offset + wrote.len

-- Nor is the byte brought once more: no call takes a FIS that brings bytes for the slot of which one has this number, unless they go past their table.
abbrev pub BringsNot : (slot k : ℕ) → Event → Type 0
BringsNot slot k (Took frame took) = is_overflow took.report.fault ≡ false → (wrote : Wrote) → took.brought ≡ Some wrote → wrote.slot ≡ slot
    → wrote.offset ≤ k → k < wrote.offset + wrote.len → ⊥
BringsNot slot k event = Unit {0}

abbrev pub AreNotBrought : (slot k : ℕ) → List Event → Type 0
AreNotBrought slot k [] = Unit {0}
AreNotBrought slot k (event ∷ later) = BringsNot slot k event × AreNotBrought slot k later

-- One of these calls takes such a FIS. None behind it issues a command in the slot, or brings the byte again.
pub record WasBrought (n slot k : ℕ) (old : ControllerState) (events : List Event) (new : ControllerState) : Type 0 where
  pub sooner : List Event
  pub mid : ControllerState
  pub led : Runs old sooner mid
  pub frame : List ℕ
  pub took : taking.Took
  pub after : ControllerState
  pub takes : Takes mid frame took after
  pub later : List Event
  pub rest : Runs after later new
  pub is : events ≡ sooner ++ Took frame took ∷ later
  pub brings : Brings n slot k mid frame took
  pub alone : AreNotIssued slot later
  pub once : AreNotBrought slot k later

-- Over each stretch of calls that begins where no queued command of a device that was sent stands in a slot: of a queued read of this device that is issued
-- there behind it, each byte that came (`is_over`) was brought in the stretch; and since then nothing was issued in the slot, and it was not brought again.
abbrev pub FilledWereBrought : Type 0
FilledWereBrought = (n : ℕ) → n < 16 → (slot : ℕ) → slot < 32 → (old new : ControllerState) (events : List Event) → Runs old events new
    → (past : History) → IsTold (view_of n old.core) past → holds (is_sent_of (λ dev. dev == n)) (issue_at old.core.slots slot) ≡ false
    → (issue : Issue) → issue_at new.core.slots slot ≡ Some issue → issue.dev ≡ n → issue.work.kind ≡ QueuedRead
    → (k : ℕ) → is_over issue.over k ≡ true → WasBrought n slot k old events new
