-- What ends a command: AHCI 1.3.1, sections 3.3.13 (PxSACT) and 3.3.14 (PxCI), 5.3 and 5.5 (a device ends it), 6.2.2 and 9.3
-- (errors), 10.4 (resets).
use Rattle.std.specs.Prelude.{◌≡◌, ◌<◌, ℕ, ◌⊎◌, Bool, true, false, List, [], Some}
use Rattle.slots.specs.Slots.{Issue, has_bit, holds, is_queued_issue, issue_at}
use Rattle.ahci_registers.specs.declared.register.Register.TheVariants.{PxCi}
use Rattle.hba_fbs.specs.Views.{Port, view_of}
use Rattle.hba_laws.specs.{Agreement.IsTold, CoreHistories.{history_through, is_freed_in}, Cores.{CoreEvent, RunsBy}, History.History}
use Rattle.ahci_controller.specs.{Opening.IsOpening, Reading.shown, States.ControllerState, Access.fits, Wide.WritesFitting}
use Rattle.ahci_controller.specs.declared.{access.Width.Width, wide.WideWritten.WideWritten}
use Rattle.controller_laws.specs.{CoreEvents.{AreCoreEvents, of_event}, Events.{Does, Event, IsController, Wrote, WroteWide}}

-- The port is stopped behind a write, of eight bytes behind its lower dword or behind both: ST falls, or the link or the
-- controller is reset.
abbrev pub StopsWide : (does_fit : Bool) → (old : ControllerState) → (offset : ℕ) → (width : Width) → (value : ℕ)
    → (written : WideWritten) → (new : ControllerState) → WritesFitting does_fit old offset width value written new → Type 0
StopsWide true old offset width value written new does =
    (does.middle.core.registers.started ≡ false) ⊎ (new.core.registers.started ≡ false)
StopsWide false old offset width value written new does = ⊥

abbrev pub Stops : (old : ControllerState) → (event : Event) → (new : ControllerState) → Does old event new → Type 0
Stops old (Wrote offset value written) new does = new.core.registers.started ≡ false
Stops old (WroteWide offset width value written) new does =
    StopsWide (fits width offset) old offset width value written new does
Stops old event new does = ⊥

-- What was issued in the slot was freed by an event of its own device: the device completed it, all of its bytes having moved,
-- or it was a Control and went, or the device was cleared by PxFBS.DEC or reset.
pub record IsFreed (s : ℕ) (past : ℕ → History) (old new : Port) (events : List CoreEvent) (run : RunsBy old events new)
    : Type 0 where
  pub issue : Issue
  pub was : issue_at old.slots s ≡ Some issue
  pub freed : is_freed_in s (history_through issue.dev [] old new events run) (past issue.dev) ≡ true

-- each device has this history
abbrev pub AreTold : Port → (ℕ → History) → Type 0
AreTold port past = (n : ℕ) → n < 16 → IsTold (view_of n port) (past n)

-- no device of a controller that opens has a history yet
abbrev pub OpensUntold : Type 0
OpensUntold = (c : ControllerState) → IsOpening c → AreTold c.core (λ n. [])

-- and over every call the histories go on
abbrev pub HistoriesGoOn : Type 0
HistoriesGoOn =
    (old new : ControllerState) (event : Event) (does : Does old event new)
    → (are : AreCoreEvents old.core (of_event old event new does) new.core) → (past : ℕ → History) → AreTold old.core past
    → AreTold new.core (λ n. history_through n (past n) old.core new.core (of_event old event new does) are.run)

-- A bit of PxCI falls by such an event, or by the answer to a queued command, which PxSACT shows still, or as the port stops.
abbrev pub Falls : ℕ → (ℕ → History) → (old : ControllerState) → (event : Event) → (new : ControllerState)
    → (does : Does old event new) → RunsBy old.core (of_event old event new does) new.core → Type 0
Falls s past old event new does run = IsFreed s past old.core new.core (of_event old event new does) run
    ⊎ ((holds is_queued_issue (issue_at new.core.slots s) ≡ true) ⊎ Stops old event new does)

-- So it is over every call, whatever happened before it.
abbrev pub IssuesFall : Type 0
IssuesFall =
    (old new : ControllerState) (event : Event) → IsController old → IsController new → (does : Does old event new)
    → (are : AreCoreEvents old.core (of_event old event new does) new.core) → (past : ℕ → History) → AreTold old.core past
    → (s : ℕ) → s < 32 → has_bit (shown PxCi old) s ≡ true → has_bit (shown PxCi new) s ≡ false
    → Falls s past old event new does are.run
