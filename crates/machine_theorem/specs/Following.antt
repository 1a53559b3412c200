-- Where the controller puts the Data of a queued read: behind the DMA Setup FIS of their device that came last (AHCI 1.3.1, 5.3.13 and 9.3; Serial
-- ATA 3.x, 10.5, DMA Setup and Data, and 13.6).
use Rattle.std.specs.Prelude.{ℕ, ◌≡◌, ◌<◌, ◌==◌, true, false, List, [], ◌∷◌, Option, Some, None, if◌then◌else◌}
use Rattle.fis_view.specs.Seen.{seen}
use Rattle.slots.specs.{Slots.{Issue, context_of, issue_at}, declared.work.Kind.TheVariants.QueuedRead}
use Rattle.hba_fbs.specs.{Taking.port_of, Views.view_of, declared.report.Wrote.Wrote}
use Rattle.hba_laws.specs.{Agreement.IsTold, History.History}
use Rattle.ahci_controller.specs.{States.ControllerState, Taking.is_overflow}
use Rattle.ahci_controller.specs.declared.taking.Took as taking
use Rattle.controller_laws.specs.Events.{Event, Runs, Takes, Took}
use Rattle.sata_disk_books.specs.{Counted.Counted, Fises.told_by}

-- what the FISes of a device say that were taken, the first one first
abbrev pub told_call : (n : ℕ) → Event → Option Counted → Option Counted
told_call n (Took frame took) was = if port_of frame == n then told_by (seen frame) was else was
told_call n event was = was

unfoldable pub told_calls : (n : ℕ) → Option Counted → List Event → Option Counted
told_calls n was [] = was
told_calls n was (event ∷ later) = told_calls n (told_call n event was) later

-- The port runs, and the FIS is heard; nothing is wrong with it.
pub record IsHeardWell (c : ControllerState) (took : taking.Took) : Type 0 where
  pub started : c.core.registers.started ≡ true
  pub heard : took.report.ignored ≡ false
  pub well : took.report.fault ≡ None
  pub runs : took.report.stopped ≡ None

-- so it is of each FIS of the device
abbrev pub HearsWell : (n : ℕ) → ControllerState → Event → Type 0
HearsWell n c (Took frame took) = port_of frame ≡ n → IsHeardWell c took
HearsWell n c event = Unit {0}

abbrev pub AllHeardWell : (n : ℕ) → (old : ControllerState) → (events : List Event) → (new : ControllerState) → Runs old events new → Type 0
AllHeardWell n old [] new run = Unit {0}
AllHeardWell n old (event ∷ later) new run = HearsWell n old event × AllHeardWell n run.1.0 later new run.1.2

-- Over each stretch of calls that begins while nothing is set up for a device, and in which its FISes are heard and nothing is wrong with them: where a
-- Data FIS brings bytes for a slot in which a queued read is issued, the slot and the number of the first byte are those that the FISes say which came
-- in the stretch before it, by their bytes alone.
abbrev pub DataFollowSetups : Type 0
DataFollowSetups = (n : ℕ) → n < 16 → (old at new : ControllerState) (events : List Event) (run : Runs old events at)
    → (past : History) → IsTold (view_of n old.core) past → context_of old.core.slots n ≡ None → AllHeardWell n old events at run
    → (frame : List ℕ) (took : taking.Took) → Takes at frame took new → port_of frame ≡ n → is_overflow took.report.fault ≡ false
    → (wrote : Wrote) → took.brought ≡ Some wrote → (issue : Issue) → issue_at at.core.slots wrote.slot ≡ Some issue → issue.work.kind ≡ QueuedRead
    → told_calls n None events ≡ Some (record { tag = wrote.slot; count = wrote.offset })
