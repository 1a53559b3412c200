-- A disk that is plugged in again. What a host does with it is told from that plugging on, as with a new
-- disk. Yet what is done is honest by all that the disk did, including before (ACS-3, READ FPDMA QUEUED and
-- WRITE FPDMA QUEUED; Serial ATA 3.x, 13.6, native command queuing).
use Rattle.std.specs.Prelude.{ℕ, ◌≡◌, ◌<◌, ◌+◌, ◌++◌, true, List, ◌∷◌, length, Some}
use Rattle.fis_view.specs.Frames.{IsFrame, marked}
use Rattle.slots.specs.{Slots.has_bit, Work.is_queued}
use Rattle.hba_fbs.specs.{declared.report.TakeReport.TakeReport, Taking.port_of}
use Rattle.disk_model.specs.{declared.plan.DiskPlan.DiskPlan, Ends.{IsCareful, IsLinked}, Histories.Happening, Ledger.{IsSize, ledger}}
use Rattle.disk_model.specs.Runs.{IsDiskRun}
use Rattle.hba_laws.specs.{History.{History, Transfer, filled, issued}, Hosts.{Host, TakesFrame}, Sound.IsHost}
use Rattle.disk_simulation.specs.{Anew.IsNextRight, Honest.IsDoneHonestly, Joined.IsJoined, Same.SlotCommand}

-- What the host receives next is right by what was told since the plugging.
abbrev pub NextIsRightLater : Type 0
NextIsRightLater =
    (plan : DiskPlan) (sectors : ℕ) (before disk given : List Happening)
    (down up : List (List ℕ)) (bytes : List ℕ)
    → IsSize plan sectors → IsDiskRun plan sectors (before ++ disk)
    → IsLinked disk given down (bytes ∷ up) → IsCareful given → IsNextRight given bytes

-- a command that is counted from this many writes on
abbrev pub later_by : ℕ → SlotCommand → SlotCommand
later_by writes c = record c { since = writes + c.since }

-- A queued command that a report says is done was done honestly by the whole history, after all earlier
-- writes.
abbrev pub ReportsHonestlyLater : Type 0
ReportsHonestlyLater =
    (plan : DiskPlan) (sectors : ℕ) (before disk given : List Happening)
    (down up : List (List ℕ)) (bytes : List ℕ)
    → IsSize plan sectors → IsDiskRun plan sectors (before ++ disk)
    → IsLinked disk given down (bytes ∷ up) → IsCareful given
    → (n : ℕ) (host new : Host) (report : TakeReport) (commands : ℕ → SlotCommand) (past : History)
    → IsHost host → n < 15 → IsFrame bytes → IsFrame (marked bytes n) → port_of (marked bytes n) ≡ n
    → TakesFrame host (marked bytes n) report new → IsJoined n commands host past (ledger given)
    → (s : ℕ) (t : Transfer) → s < 32 → issued s past ≡ Some t → is_queued t.work.kind ≡ true
    → has_bit report.done s ≡ true
    → IsDoneHonestly sectors (later_by (length (ledger before).writes) (commands s)) (filled s past)
    t.work.len (ledger (before ++ disk)) (ledger (before ++ given))
