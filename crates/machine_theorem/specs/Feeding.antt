-- From where the controller takes the Data of a queued write: behind the DMA Setup FIS of their device that came last (AHCI 1.3.1, 5.3 and 9.3, what a
-- port sends; Serial ATA 3.x, 10.5, DMA Setup, DMA Activate and Data, and 13.6).
use Rattle.std.specs.Prelude.{ℕ, ◌≡◌, false, ◌<◌, ◌+◌, ◌-◌, ◌%◌, ◌==◌, Bool, List, [], ◌∷◌, length, Option, Some, None, if◌then◌else◌, Result, Ok}
use Rattle.fis_view.specs.{Seen.seen, Table.field, declared.view.{Fis.Fis, FisFault.FisFault}}
use Rattle.fis_view.specs.Table as table
use Rattle.fis_view.specs.declared.view.Fis.TheVariants as view
use Rattle.slots.specs.{Slots.{Issue, context_of, issue_at}, Work.is_read, declared.work.Kind.TheVariants.QueuedWrite}
use Rattle.hba_fbs.specs.{Taking.port_of, Views.view_of, declared.turn.Turn.TheVariants.Feeds}
use Rattle.hba_laws.specs.{Agreement.IsTold, History.History}
use Rattle.ahci_controller.specs.{Next.turn_to, States.ControllerState, declared.{feeding.Fed.TheVariants.Goes, latch.Edge.Edge}}
use Rattle.controller_laws.specs.Events.{Does, Event, Gathered, Runs, Took}
use Rattle.sata_disk_books.specs.Counted.{Counted, more_by}
use Rattle.machine_theorem.specs.Following.{AllHeardWell}

-- a DMA Setup FIS names a tag, in bits 4:0 of its buffer identifier, and the number of a byte
abbrev pub set_by : Result Fis FisFault → Option Counted → Option Counted
set_by (Ok (view.DmaSetup f)) was = Some (record { tag = field table.Setup table.BufferId f % 32; count = field table.Setup table.Offset f })
set_by other was = was

-- what the FISes of a device say, and the Data that go to it behind them, the first one first
abbrev pub fed_call : (n : ℕ) → Event → Option Counted → Option Counted
fed_call n (Took frame took) was = if port_of frame == n then set_by (seen frame) was else was
fed_call n (Gathered dev number frame (Goes message line)) was = if dev == n then more_by (length frame - 4) was else was
fed_call n event was = was

unfoldable pub fed_calls : (n : ℕ) → Option Counted → List Event → Option Counted
fed_calls n was [] = was
fed_calls n was (event ∷ later) = fed_calls n (fed_call n event was) later

-- A Data FIS that goes has the next bytes of a slot, in which a command of the device is issued, and no read. If it is a queued write, the slot and the
-- number of the first byte are these.
pub record IsNextOf (c : ControllerState) (n : ℕ) (frame : List ℕ) (told : Option Counted) : Type 0 where
  pub slot : ℕ
  pub offset : ℕ
  pub len : ℕ
  pub is : turn_to c n ≡ Feeds n slot offset len
  pub long : length frame ≡ 4 + len
  pub issue : Issue
  pub there : issue_at c.core.slots slot ≡ Some issue
  pub of_dev : issue.dev ≡ n
  pub way : is_read issue.work.kind ≡ false
  pub says : issue.work.kind ≡ QueuedWrite → told ≡ Some (record { tag = slot; count = offset })

-- Over each stretch of calls that begins while nothing is set up for a device, and in which its FISes are heard and nothing is wrong with them: where
-- Data go to it of a slot in which a queued write is issued, the slot and the number of the first byte are those that the FISes say which came in the
-- stretch before it, and the Data that went.
abbrev pub FedDataFollowSetups : Type 0
FedDataFollowSetups = (n : ℕ) → n < 16 → (old at new : ControllerState) (events : List Event) (run : Runs old events at)
    → (past : History) → IsTold (view_of n old.core) past → context_of old.core.slots n ≡ None → AllHeardWell n old events at run
    → (number : ℕ) (frame : List ℕ) (message : Bool) (line : Edge) → Does at (Gathered n number frame (Goes message line)) new
    → IsNextOf at n frame (fed_calls n None events)
