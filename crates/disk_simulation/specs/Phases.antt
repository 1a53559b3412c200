-- How a host stands to a disk, whatever goes wrong with it. Both are together from where they began anew up
-- to the error that the host takes. They are apart from its first fault until they begin anew (AHCI 1.3.1,
-- 6.2.2, error recovery, and 9.3; Serial ATA 3.x, 13.6, native command queuing). In each phase, what the port
-- says is done was done honestly.
use Rattle.std.specs.Prelude.{ℕ, ◌≡◌, ◌<◌, ◌⊎◌, ◌++◌, true, false, List, [], ◌∷◌, None, Some}
use Rattle.fis_view.specs.Frames.{IsFrame, marked}
use Rattle.slots.specs.{Slots.has_bit, Work.is_queued}
use Rattle.hba_fbs.specs.{declared.report.TakeReport.TakeReport, Taking.port_of}
use Rattle.disk_model.specs.{declared.plan.DiskPlan.DiskPlan, Histories.{Happening, Sent}, Ledger.{IsSize, ledger}, Runs.IsDiskRun}
use Rattle.hba_laws.specs.{History.{History, Transfer, filled, issued}, Client.own, Delivering.touched}
use Rattle.hba_laws.specs.{Hosts.{Does, Host, HostEvent, TakesFrame, Took}, Sound.IsHost}
use Rattle.disk_simulation.specs.{Anew.IsHostedOn, Aside.IsAside, Calm.IsCalm, Followed.IsFollowed, Honest.IsDoneHonestly, Watched.IsWatched}
use Rattle.disk_simulation.specs.Same.{SlotCommand}

-- The disk did all this, and these bytes come next from it. The host heard and gave that, its slots have
-- these commands, and this is the history of the device's events at its port.
pub data Stands (n : ℕ) (host : Host) (disk given : List Happening) (commands : ℕ → SlotCommand)
    (past : History) (bytes : List ℕ) : Type 0 where
  Together : (base : List Happening) (down up : List (List ℕ))
      → IsFollowed base disk given down [] (bytes ∷ up)
      → IsHostedOn n base host given commands past
      → Stands n host disk given commands past bytes
  Apart : IsAside n host past → Stands n host disk given commands past bytes

-- A queued command that a report says is done was done honestly, in each phase, whatever else the report
-- says.
abbrev pub EachDoneIsHonest : Type 0
EachDoneIsHonest =
    (plan : DiskPlan) (sectors : ℕ) (disk given : List Happening) (bytes : List ℕ)
    → IsSize plan sectors → IsDiskRun plan sectors disk
    → (n : ℕ) (host new : Host) (report : TakeReport) (commands : ℕ → SlotCommand) (past : History)
    → IsHost host → n < 15 → IsFrame bytes → IsFrame (marked bytes n) → port_of (marked bytes n) ≡ n
    → Stands n host disk given commands past bytes → TakesFrame host (marked bytes n) report new
    → (s : ℕ) (t : Transfer) → s < 32 → issued s past ≡ Some t → is_queued t.work.kind ≡ true
    → has_bit report.done s ≡ true
    → IsDoneHonestly sectors (commands s) (filled s past) t.work.len (ledger disk) (ledger given)

-- the host took the next FIS of the disk, and they are still together, with this history
pub record AreTogether (n : ℕ) (base disk given : List Happening) (down up : List (List ℕ))
    (host : Host) (commands : ℕ → SlotCommand) (past : History) : Type 0 where
  pub followed : IsFollowed base disk given down [] up
  pub hosted : IsHostedOn n base host given commands past

-- At whatever comes next from a disk and is not ignored, both are still together or the device is set aside.
-- The caller need not show that it is right and short, or that the port finds no fault in it.
abbrev pub TakesInEachPhase : Type 0
TakesInEachPhase =
    (plan : DiskPlan) (sectors : ℕ) (base disk given : List Happening)
    (down up : List (List ℕ)) (bytes : List ℕ)
    → IsSize plan sectors → IsDiskRun plan sectors disk
    → IsFollowed base disk given down [] (bytes ∷ up)
    → (n : ℕ) (host new : Host) (report : TakeReport) (commands : ℕ → SlotCommand) (past : History)
    → IsHost host → n < 15 → IsFrame bytes → IsFrame (marked bytes n) → port_of (marked bytes n) ≡ n
    → IsHostedOn n base host given commands past → TakesFrame host (marked bytes n) report new
    → report.ignored ≡ false
    → AreTogether n base disk (given ++ Sent bytes ∷ []) down up new commands
    (own n (touched host (Took (marked bytes n) report)) ++ past)
    ⊎ IsAside n new (own n (touched host (Took (marked bytes n) report)) ++ past)

-- What does not concern the device, or issues commands for it, leaves both together, with what it is in the
-- device's history.
abbrev pub CalmLeavesTogether : Type 0
CalmLeavesTogether =
    (n : ℕ) (base : List Happening) (host new : Host) (event : HostEvent) (given : List Happening)
    (commands next : ℕ → SlotCommand) (past : History) → n < 15 → IsHost host → Does host event new
    → IsCalm n (ledger given) host commands event next → IsHostedOn n base host given commands past
    → IsHostedOn n base new given next (own n (touched host event) ++ past)

-- the host took the next FIS of a disk that it watches, and still watches it
pub record AreWatching (n : ℕ) (base disk given : List Happening) (down up : List (List ℕ))
    (host : Host) (commands : ℕ → SlotCommand) (past : History) : Type 0 where
  pub watched : IsWatched base disk given down [] up
  pub hosted : IsHostedOn n base host given commands past

-- This holds for each FIS that the port does not ignore and finds no fault in.
abbrev pub WatchesWhatIsFine : Type 0
WatchesWhatIsFine =
    (plan : DiskPlan) (sectors : ℕ) (base disk given : List Happening)
    (down up : List (List ℕ)) (bytes : List ℕ)
    → IsSize plan sectors → IsDiskRun plan sectors disk
    → IsWatched base disk given down [] (bytes ∷ up)
    → (n : ℕ) (host new : Host) (report : TakeReport) (commands : ℕ → SlotCommand) (past : History)
    → IsHost host → n < 15 → IsFrame bytes → IsFrame (marked bytes n) → port_of (marked bytes n) ≡ n
    → IsHostedOn n base host given commands past → TakesFrame host (marked bytes n) report new
    → report.ignored ≡ false → report.fault ≡ None → report.stopped ≡ None
    → AreWatching n base disk (given ++ Sent bytes ∷ []) down up new commands
    (own n (touched host (Took (marked bytes n) report)) ++ past)
