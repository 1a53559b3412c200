-- A disk and the host that serves it, over each step of either, whatever the disk does (AHCI 1.3.1, 5.3,
-- 6.2.2, error recovery, and chapter 9; Serial ATA 3.x, 13.6, native command queuing, on errors, and software
-- reset; ACS-3, READ LOG EXT). Both are together from where they began anew: when the disk was flushed, when
-- its error log was asked for, or when a software reset of it ended. At an error that the host takes, or a
-- fault that its port finds, the device is set aside, until they begin anew.
--
-- Cited: a disk that a host watches (`disk_simulation`, specs/Watched.antt), the line of one that is set aside
-- (specs/Line.antt there) and the task file (specs/Files.antt, Outcomes.antt there); a driver that serves a
-- disk (`disk_recovery`, specs/Together.antt, Unasked.antt); where a host is with a device that recovers
-- (`hba_driver`, specs/Slot30.antt); how that and the line fit each other (specs/Stages.antt).
use Rattle.std.specs.Prelude.{ℕ, ◌≡◌, ◌≢◌, ◌<◌, ◌≤◌, ◌⊎◌, ◌++◌, ◌==◌, if◌then◌else◌, true, List, [], ◌∷◌, length, None, Some}
use Rattle.fis_view.specs.Frames.{IsFrame, Stamped, marked}
use Rattle.slots.specs.Slots.{has_bit}
use Rattle.slots.specs.Work as moved
use Rattle.hba_fbs.specs.{declared.report.TakeReport.TakeReport, Taking.port_of, Views.view_of}
use Rattle.disk_model.specs.{declared.{plan.DiskPlan.DiskPlan, request.Command.Command}, Anew.OwesOnly}
use Rattle.disk_model.specs.{Histories.{Happening, Plugged, Received, Sent}, Ledger.{IsSize, ShowsPage, Signs, Wanted, ledger}, Runs.IsDiskRun}
use Rattle.hba_laws.specs.{Client.{Touches, own}, Delivering.touches_after, History.{History, Transfer, filled, issued}}
use Rattle.disk_simulation.specs.{Files.IsBegun, Honest.IsDoneHonestly, Line.{Line, NoneSigns, OnLine}, Outcomes.HasFineFile, Same.SlotCommand}
use Rattle.disk_simulation.specs.Watched.{IsWatched}
use Rattle.hba_driver.specs.{declared.{path.Recovery.Recovery, plan.Device.TheVariants.{Ready, Recovering}}, Drivers.{Entry, device_at, entry_at}}
use Rattle.hba_driver.specs.{Events.{events_over, shared_by}, HostTurns.{Does, DoesAll, Host, HostTurn, Polled, Pushed, Put, Submitted, Ticked, Took}}
use Rattle.hba_driver.specs.{Orders.is_queued, Served.RunServes, Slot30.{IsAt30, IsOn30, IsUnsought, Stage30}, Steady.IsFlushTick}
use Rattle.hba_driver.specs.Tended.{IsAtStage, IsReleasing, IsUnreset, IsUnworked}
use Rattle.disk_recovery.specs.{Kept.IsServedHonestly, Steady.command_of, Together.IsServedOn, Unasked.IsUnasked, Stages.{Fits, Leans}}

-- ---- what had ended when a request was submitted

-- For each slot, how many writes of the disk had ended when the request in it was submitted: no more than
-- these.
abbrev pub AreFloors : (ℕ → ℕ) → List Happening → Type 0
AreFloors floors happened = (s : ℕ) → floors s ≤ length (ledger happened).writes

-- the command that is issued in a slot is counted from no fewer
abbrev pub AreReached : (ℕ → ℕ) → (ℕ → SlotCommand) → History → Type 0
AreReached floors commands past =
    (s : ℕ) (t : Transfer) → issued s past ≡ Some t → floors s ≤ (commands s).since

abbrev pub no_floors : ℕ → ℕ
no_floors s = 0

-- a floor for a single slot
abbrev pub floor_at : (slot floor : ℕ) → ℕ → ℕ
floor_at slot floor s = if slot == s then floor else 0

-- the queued command of a request, counted from this many writes on
abbrev pub since_floor : ℕ → Command → SlotCommand
since_floor floor c = record { command = c; since = floor }

-- ---- together

-- Whether the device is in the software reset whose end let both begin anew.
pub data IsOnTime (n : ℕ) (h : Host) (base given : List Happening) (stale : List (List ℕ)) : Type 0
  where
    -- It is not; and while nothing was given or heard since both began anew, no reset is to end.
    Steady : stale ≡ [] → IsUnreset n h
        → (given ≡ base → IsAtStage n IsReleasing h.driver.plan → ⊥) → IsOnTime n h base given stale
    -- It is, and its signature is still to come: nothing else was given or heard. What the disk sent before
    -- is still on its way up, and is discarded.
    Resetting : NoneSigns stale → given ≡ base → OwesOnly (ledger base) (Signs ∷ []) []
        → IsAtStage n IsReleasing h.driver.plan → IsOnTime n h base given stale

-- The disk did all this, and the lists are on their way to it and to the host, which serves it from where
-- both began anew.
pub record IsTogether (n : ℕ) (h : Host) (disk : List Happening) (down up : List (List ℕ))
    (floors : ℕ → ℕ) (touches : Touches) : Type 0 where
  -- what happened up to where both began anew, and all that happened at the host's end
  pub base : List Happening
  pub given : List Happening
  pub commands : ℕ → SlotCommand
  -- what is still on its way up from before, and what was sent since
  pub stale : List (List ℕ)
  pub later : List (List ℕ)
  pub up_is : up ≡ stale ++ later
  pub on_time : IsOnTime n h base given stale
  pub watched : IsWatched base disk given down stale later
  pub served : IsServedOn n base h given commands touches
  -- the requests of the slots were submitted after no more writes than there are, at either end
  pub told : AreFloors floors given
  pub entered : AreFloors floors disk
  pub reached : AreReached floors commands (own n touches)
  pub begun : IsBegun (ledger base)
  -- only the signature was to come then, or only the page of the log
  pub owes : OwesOnly (ledger base) (Signs ∷ []) []
      ⊎ ((page : Wanted) × OwesOnly (ledger base) (ShowsPage ∷ []) (page ∷ []))
  pub opened : 7 ≤ h.driver.plan.opened
  pub well : (view_of n h.port).fault ≡ None
  pub unasked : IsUnasked n h given
  pub file : HasFineFile n (shared_by h) base given
  -- the device is ready only after a FIS of it was received
  pub unready : given ≡ base → device_at h.driver.plan n ≡ Ready → ⊥
  -- until then, slot 30 works on it if it recovers
  pub worked : given ≡ base → (way : Recovery) → device_at h.driver.plan n ≡ Recovering way
      → IsUnworked n h.driver.plan → ⊥

-- ---- apart

-- the device is set aside at the host, and the line of its link is in a state that fits
pub record IsSetAside (n : ℕ) (h : Host) (disk : List Happening) (down up : List (List ℕ))
    : Type 0 where
  pub stage : Stage30
  pub line : Line
  pub at : IsAt30 n stage h
  -- the driver is not looking for it
  pub off : IsUnsought n h
  pub fits : Fits line stage
  pub leans : Leans n line stage h
  pub on : OnLine line (ledger disk) down up

-- ---- either

pub data AreEnds (n : ℕ) (h : Host) (disk : List Happening) (down up : List (List ℕ))
    (floors : ℕ → ℕ) (touches : Touches) : Type 0 where
  Together : IsTogether n h disk down up floors touches → AreEnds n h disk down up floors touches
  Apart : IsSetAside n h disk down up → AreFloors floors disk → AreEnds n h disk down up floors touches

-- this holds after a turn of the host
pub record EndsAfter (n : ℕ) (old : Host) (turn : HostTurn) (new : Host)
    (run : DoesAll old (turn ∷ []) new) (disk : List Happening) (down up : List (List ℕ))
    (floors : ℕ → ℕ) (touches : Touches) : Type 0 where
  pub serves : RunServes old new (turn ∷ []) run touches
  pub ends : AreEnds n new disk down up floors
      (touches_after touches (shared_by old) (shared_by new) (events_over old new (turn ∷ []) run)
      serves.runs)

-- In the turn no FIS of the device is received or transmitted, and the driver does not flush it.
abbrev pub IsBesideTurn : ℕ → Host → HostTurn → Type 0
IsBesideTurn n old (Took frame report) = port_of frame ≢ n
IsBesideTurn n old (Pushed None) = Unit {0}
IsBesideTurn n old (Pushed (Some frame)) = frame.stamp.port ≢ n
IsBesideTurn n old (Ticked acted) = IsFlushTick n old → ⊥
IsBesideTurn n old (Submitted dev request ticket) = Unit {0}
IsBesideTurn n old (Polled completion) = Unit {0}
IsBesideTurn n old (Put at bytes) = Unit {0}

-- ---- the laws

-- A disk of this plan did all this, and the host goes on; once its driver opened the port, the port is
-- started.
pub record IsRunning (plan : DiskPlan) (sectors : ℕ) (disk : List Happening) (touches : Touches)
    (h : Host) : Type 0 where
  pub size : IsSize plan sectors
  pub run : IsDiskRun plan sectors disk
  pub on : IsOn30 touches h
  pub starts : 7 ≤ h.driver.plan.opened → h.port.registers.started ≡ true

-- Both ends begin where the host flushed a disk that did nothing since it was plugged in.
abbrev pub FlushBegins : Type 0
FlushBegins =
    (n : ℕ) (h : Host) (before : List Happening) (commands : ℕ → SlotCommand) (touches : Touches)
    → n < 15 → IsServedHonestly n h (Plugged ∷ []) commands touches → IsUnreset n h
    → 7 ≤ h.driver.plan.opened → (view_of n h.port).fault ≡ None
    → AreEnds n h (before ++ Plugged ∷ []) [] [] no_floors touches

-- They remain such ends over each turn of the host: one in which nothing goes over the link, one in which the
-- host gives a FIS to the disk, and one in which it takes the next one.
pub record TurnsLeaveEnds (n : ℕ) (plan : DiskPlan) (sectors : ℕ) : Type 0 where
  pub beside : (old : Host) (turn : HostTurn) (new : Host) (run : DoesAll old (turn ∷ []) new)
      (disk : List Happening) (down up : List (List ℕ)) (floors : ℕ → ℕ) (touches : Touches)
      → n < 15
      → IsRunning plan sectors disk touches old → IsBesideTurn n old turn
      → AreEnds n old disk down up floors touches → EndsAfter n old turn new run disk down up floors touches
  pub gives : (old : Host) (frame : Stamped) (new : Host)
      (run : DoesAll old (Pushed (Some frame) ∷ []) new)
      (disk : List Happening) (down up : List (List ℕ)) (floors : ℕ → ℕ) (touches : Touches)
      → n < 15
      → IsRunning plan sectors disk touches old → frame.stamp.port ≡ n
      → AreEnds n old disk down up floors touches
      → EndsAfter n old (Pushed (Some frame)) new run disk (down ++ marked frame.bytes 0 ∷ []) up
      floors touches
  pub takes : (old : Host) (bytes : List ℕ) (report : TakeReport) (new : Host)
      (run : DoesAll old (Took (marked bytes n) report ∷ []) new)
      (disk : List Happening) (down up : List (List ℕ)) (floors : ℕ → ℕ) (touches : Touches)
      → n < 15
      → IsRunning plan sectors disk touches old → IsFrame bytes → port_of (marked bytes n) ≡ n
      → AreEnds n old disk down (bytes ∷ up) floors touches
      → EndsAfter n old (Took (marked bytes n) report) new run disk down up floors touches

-- And over each step of the disk.
pub record DisksLeaveEnds (n : ℕ) (plan : DiskPlan) (sectors : ℕ) : Type 0 where
  pub comes : (h : Host) (disk : List Happening) (back up : List (List ℕ)) (bytes : List ℕ)
      (floors : ℕ → ℕ) (touches : Touches) → n < 15 → IsRunning plan sectors disk touches h
      → AreEnds n h disk (bytes ∷ back) up floors touches
      → AreEnds n h (disk ++ Received bytes ∷ []) back up floors touches
  pub sends : (h : Host) (disk : List Happening) (down up : List (List ℕ)) (bytes : List ℕ)
      (floors : ℕ → ℕ) (touches : Touches) → n < 15
      → IsRunning plan sectors (disk ++ Sent bytes ∷ []) touches h
      → AreEnds n h disk down up floors touches
      → AreEnds n h (disk ++ Sent bytes ∷ []) down (up ++ bytes ∷ []) floors touches

-- If nothing of the device is issued in a slot, its floor can be any number that the disk has reached.
abbrev pub MayRise : (n : ℕ) (floors next : ℕ → ℕ) (disk : List Happening) (touches : Touches)
    → Type 0
MayRise n floors next disk touches =
    (s : ℕ) → (next s ≡ floors s)
    ⊎ (((t : Transfer) → issued s (own n touches) ≡ Some t → ⊥)
    × (next s ≤ length (ledger disk).writes))

abbrev pub FloorsRise : Type 0
FloorsRise =
    (n : ℕ) (plan : DiskPlan) (sectors : ℕ) (h : Host) (disk : List Happening)
    (down up : List (List ℕ)) (floors next : ℕ → ℕ) (touches : Touches) → n < 15
    → IsRunning plan sectors disk touches h → MayRise n floors next disk touches
    → AreEnds n h disk down up floors touches → AreEnds n h disk down up next touches

-- If a report says that a request is done, it was done honestly, by all that the disk did, and after the
-- writes that had ended when it was submitted.
abbrev pub EachEndIsHonest : Type 0
EachEndIsHonest =
    (n : ℕ) (plan : DiskPlan) (sectors : ℕ) (h : Host) (bytes : List ℕ) (report : TakeReport)
    (new : Host) (disk : List Happening) (down up : List (List ℕ)) (floors : ℕ → ℕ) (touches : Touches)
    → n < 15
    → IsRunning plan sectors disk touches h → IsFrame bytes → port_of (marked bytes n) ≡ n
    → Does h (Took (marked bytes n) report) new → AreEnds n h disk down (bytes ∷ up) floors touches
    → (s : ℕ) (e : Entry) (t : Transfer) → s < 30 → entry_at h.driver.entries s ≡ Some e
    → is_queued e.head.work ≡ true → issued s (own n touches) ≡ Some t
    → moved.is_queued t.work.kind ≡ true → has_bit report.done s ≡ true
    → IsDoneHonestly sectors (since_floor (floors s) (command_of s e)) (filled s (own n touches))
    t.work.len (ledger disk) (ledger disk)

abbrev pub EndsGoOn : Type 0
EndsGoOn =
    (n : ℕ) (plan : DiskPlan) (sectors : ℕ)
    → TurnsLeaveEnds n plan sectors × DisksLeaveEnds n plan sectors
