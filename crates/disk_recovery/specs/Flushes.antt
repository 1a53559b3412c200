-- A FLUSH that ended was taken by the disk since it was submitted (ACS-3, FLUSH CACHE EXT; Serial ATA 3.x,
-- 13.6, native command queuing; AHCI 1.3.1, 5.3). It goes out while nothing else is to come, and its answer
-- comes only after the disk took it. So it is enough to count: how many FLUSHes the disk had taken when a
-- request was submitted, and how many it took since or are on their way.
--
-- Cited: a disk and the host that serves it, over each step of either (specs/Ends.antt).
use Rattle.std.specs.Prelude.{ℕ, ◌≡◌, ◌+◌, ◌<◌, ◌≤◌, ◌⊎◌, ◌++◌, ◌==◌, if◌then◌else◌, Bool, true, false, List, [], ◌∷◌, length, Some, Ok, Result}
use Rattle.fis_view.specs.{Frames.{IsFrame, Stamped, marked}, Seen.seen, declared.{view.Fis.Fis, view.FisFault.FisFault}}
use Rattle.fis_view.specs.declared.view.Fis.TheVariants as view
use Rattle.slots.specs.Slots.{has_bit, is_pio}
use Rattle.slots.specs.Work as moved
use Rattle.hba_fbs.specs.{declared.report.TakeReport.TakeReport, Taking.port_of}
use Rattle.disk_model.specs.declared.{plan.DiskPlan.DiskPlan, request.Request.{Request, TheVariants.Flush}}
use Rattle.disk_model.specs.{Histories.{Happening, Plugged, Loaded, Received, Sent}, Ledger.ledger, Requests.request_of}
use Rattle.hba_laws.specs.{Client.{Touches, own}, Delivering.touches_after, History.{Transfer, issued}}
use Rattle.disk_simulation.specs.Together.{is_sent}
use Rattle.hba_driver.specs.{Events.{events_over, shared_by}, HostTurns.{Does, DoesAll, Host, HostTurn, Pushed, Took}, Served.RunServes}
use Rattle.disk_recovery.specs.Ends.{AreEnds, IsBesideTurn, IsRunning}

-- ---- the FLUSHes of a history

abbrev pub asks_flush : Request → Bool
asks_flush Flush = true
asks_flush _ = false

-- it is a command FIS with FLUSH CACHE EXT
abbrev pub is_flush : Result Fis FisFault → Bool
is_flush (Ok (view.RegH2D f)) = asks_flush (request_of f)
is_flush _ = false

abbrev pub one_if : Bool → ℕ
one_if b = if b then 1 else 0

-- how many of these frames are
unfoldable pub flushes_among : List (List ℕ) → ℕ
flushes_among [] = 0
flushes_among (bytes ∷ later) = one_if (is_flush (seen bytes)) + flushes_among later

-- how many a disk took
unfoldable pub flushes_taken : List Happening → ℕ
flushes_taken [] = 0
flushes_taken (Received bytes ∷ later) = one_if (is_flush (seen bytes)) + flushes_taken later
flushes_taken (Sent bytes ∷ later) = flushes_taken later
flushes_taken (Plugged ∷ later) = flushes_taken later
flushes_taken (Loaded bytes ∷ later) = flushes_taken later

-- ---- what a disk had done when a request was submitted

-- how many writes had ended, and how many FLUSHes it had taken
pub record Floor : Type 0 where
  pub writes : ℕ
  pub flushes : ℕ

abbrev pub floor_of : List Happening → Floor
floor_of happened = record { writes = length (ledger happened).writes; flushes = flushes_taken happened }

-- no more than what is told by all that happened
pub record IsFloor (floor : Floor) (happened : List Happening) : Type 0 where
  pub ended : floor.writes ≤ length (ledger happened).writes
  pub taken : floor.flushes ≤ flushes_taken happened

abbrev pub AreFloorsOf : (ℕ → Floor) → List Happening → Type 0
AreFloorsOf floors happened = (s : ℕ) → IsFloor (floors s) happened

abbrev pub bare_floor : Floor
bare_floor = record { writes = 0; flushes = 0 }

abbrev pub bare_floors : ℕ → Floor
bare_floors s = bare_floor

-- a floor for a single slot
abbrev pub floor_for : (slot : ℕ) → Floor → ℕ → Floor
floor_for slot floor s = if slot == s then floor else bare_floor

abbrev pub write_floors : (ℕ → Floor) → ℕ → ℕ
write_floors floors s = (floors s).writes

abbrev pub flush_floors : (ℕ → Floor) → ℕ → ℕ
flush_floors floors s = (floors s).flushes

-- ---- the two ends, since requests were submitted

-- A FLUSH that was transmitted is taken, or on its way, after all that were taken at its submit.
pub record AreFlushed (n : ℕ) (floors : ℕ → ℕ) (disk : List Happening) (down : List (List ℕ))
    (touches : Touches) : Type 0 where
  pub low : (s : ℕ) → floors s ≤ flushes_taken disk
  pub gone : (s : ℕ) (t : Transfer) → s < 30 → issued s (own n touches) ≡ Some t
      → moved.is_queued t.work.kind ≡ false → is_sent s (own n touches) ≡ true
      → floors s < flushes_taken disk + flushes_among down

pub record AreEndsSince (n : ℕ) (h : Host) (disk : List Happening) (down up : List (List ℕ))
    (floors : ℕ → Floor) (touches : Touches) : Type 0 where
  pub ends : AreEnds n h disk down up (write_floors floors) touches
  pub flushed : AreFlushed n (flush_floors floors) disk down touches

-- this holds after a turn of the host
pub record EndsSinceAfter (n : ℕ) (old : Host) (turn : HostTurn) (new : Host)
    (run : DoesAll old (turn ∷ []) new) (disk : List Happening) (down up : List (List ℕ))
    (floors : ℕ → Floor) (touches : Touches) : Type 0 where
  pub serves : RunServes old new (turn ∷ []) run touches
  pub ends : AreEndsSince n new disk down up floors
      (touches_after touches (shared_by old) (shared_by new) (events_over old new (turn ∷ []) run)
      serves.runs)

-- ---- the laws

-- They begin where nothing of the device is issued.
abbrev pub SinceBegins : Type 0
SinceBegins =
    (n : ℕ) (h : Host) (disk : List Happening) (down up : List (List ℕ)) (touches : Touches)
    → ((s : ℕ) (t : Transfer) → issued s (own n touches) ≡ Some t → ⊥)
    → AreEnds n h disk down up (write_floors bare_floors) touches
    → AreEndsSince n h disk down up bare_floors touches

-- They remain such ends over each turn of the host.
pub record TurnsLeaveSince (n : ℕ) (plan : DiskPlan) (sectors : ℕ) : Type 0 where
  pub beside : (old : Host) (turn : HostTurn) (new : Host) (run : DoesAll old (turn ∷ []) new)
      (disk : List Happening) (down up : List (List ℕ)) (floors : ℕ → Floor) (touches : Touches)
      → n < 15
      → IsRunning plan sectors disk touches old → IsBesideTurn n old turn
      → AreEndsSince n old disk down up floors touches
      → EndsSinceAfter n old turn new run disk down up floors touches
  pub gives : (old : Host) (frame : Stamped) (new : Host)
      (run : DoesAll old (Pushed (Some frame) ∷ []) new)
      (disk : List Happening) (down up : List (List ℕ)) (floors : ℕ → Floor) (touches : Touches)
      → n < 15
      → IsRunning plan sectors disk touches old → frame.stamp.port ≡ n
      → AreEndsSince n old disk down up floors touches
      → EndsSinceAfter n old (Pushed (Some frame)) new run disk (down ++ marked frame.bytes 0 ∷ []) up
      floors touches
  pub takes : (old : Host) (bytes : List ℕ) (report : TakeReport) (new : Host)
      (run : DoesAll old (Took (marked bytes n) report ∷ []) new)
      (disk : List Happening) (down up : List (List ℕ)) (floors : ℕ → Floor) (touches : Touches)
      → n < 15
      → IsRunning plan sectors disk touches old → IsFrame bytes → port_of (marked bytes n) ≡ n
      → AreEndsSince n old disk down (bytes ∷ up) floors touches
      → EndsSinceAfter n old (Took (marked bytes n) report) new run disk down up floors touches

-- And over each step of the disk.
pub record DisksLeaveSince (n : ℕ) (plan : DiskPlan) (sectors : ℕ) : Type 0 where
  pub comes : (h : Host) (disk : List Happening) (back up : List (List ℕ)) (bytes : List ℕ)
      (floors : ℕ → Floor) (touches : Touches) → n < 15 → IsRunning plan sectors disk touches h
      → AreEndsSince n h disk (bytes ∷ back) up floors touches
      → AreEndsSince n h (disk ++ Received bytes ∷ []) back up floors touches
  pub sends : (h : Host) (disk : List Happening) (down up : List (List ℕ)) (bytes : List ℕ)
      (floors : ℕ → Floor) (touches : Touches) → n < 15
      → IsRunning plan sectors (disk ++ Sent bytes ∷ []) touches h
      → AreEndsSince n h disk down up floors touches
      → AreEndsSince n h (disk ++ Sent bytes ∷ []) down (up ++ bytes ∷ []) floors touches

abbrev pub EndsSinceGoOn : Type 0
EndsSinceGoOn =
    (n : ℕ) (plan : DiskPlan) (sectors : ℕ)
    → TurnsLeaveSince n plan sectors × DisksLeaveSince n plan sectors

-- If nothing of the device is issued in a slot, its floor can be any that the disk has reached.
abbrev pub MayRiseSince : (n : ℕ) (floors next : ℕ → Floor) (disk : List Happening) (touches : Touches)
    → Type 0
MayRiseSince n floors next disk touches =
    (s : ℕ) → (next s ≡ floors s)
    ⊎ (((t : Transfer) → issued s (own n touches) ≡ Some t → ⊥) × IsFloor (next s) disk)

abbrev pub FloorsRiseSince : Type 0
FloorsRiseSince =
    (n : ℕ) (plan : DiskPlan) (sectors : ℕ) (h : Host) (disk : List Happening)
    (down up : List (List ℕ)) (floors next : ℕ → Floor) (touches : Touches) → n < 15
    → IsRunning plan sectors disk touches h → MayRiseSince n floors next disk touches
    → AreEndsSince n h disk down up floors touches → AreEndsSince n h disk down up next touches

-- If a report says that a command of a request is done that moves no data, as FLUSH, the disk took a FLUSH
-- since it was submitted.
abbrev pub FlushesAreTaken : Type 0
FlushesAreTaken =
    (n : ℕ) (plan : DiskPlan) (sectors : ℕ) (h : Host) (bytes : List ℕ) (report : TakeReport)
    (new : Host) (disk : List Happening) (down up : List (List ℕ)) (floors : ℕ → Floor)
    (touches : Touches) → n < 15
    → IsRunning plan sectors disk touches h → IsFrame bytes → port_of (marked bytes n) ≡ n
    → Does h (Took (marked bytes n) report) new
    → AreEndsSince n h disk down (bytes ∷ up) floors touches
    → (s : ℕ) (t : Transfer) → s < 30 → issued s (own n touches) ≡ Some t
    → moved.is_queued t.work.kind ≡ false → is_pio t.work.kind ≡ false
    → has_bit report.done s ≡ true → (floors s).flushes < flushes_taken disk
