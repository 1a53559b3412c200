-- Both ends of a disk's link begin anew: when the disk is plugged in, for the first time or again, after a
-- software reset, and with the read of the log after an error (Serial ATA 3.x, 13.6, native command queuing,
-- and software reset; ACS-3, READ LOG EXT and the NCQ Command Error log). What was queued before is given up
-- then, and the host's end tells what the disk's end told. What the disk sent before still comes up, ahead of
-- all that it sends from then on, and the host throws it away.
use Rattle.std.specs.Prelude.{ℕ, ◌≡◌, true, false, List, [], ◌∷◌, ◌++◌, None, Result, Ok}
use Rattle.fis_view.specs.{Seen.seen, declared.view.{Fis.Fis, FisFault.FisFault}}
use Rattle.fis_view.specs.declared.view.Fis.TheVariants as view
use Rattle.disk_model.specs.{declared.{plan.DiskPlan.DiskPlan, request.Request.Request}, Ends.{EndsAgree, FitsAll, IsLinked, Rests, reports}}
use Rattle.disk_model.specs.{Histories.{Happening, Received, Sent, Plugged, Loaded}, Requests.request_of, Runs.IsDiskRun, Ledger.{IsSize, Ledger}}
use Rattle.disk_model.specs.Ledger.{LogOf, Reply, ShowsPage, Signs, Wanted, Written, ledger}
use Rattle.disk_model.specs.declared.request.Request.TheVariants as asked

-- ## Where both ends may begin anew

-- there is no error mode, and no queued command is outstanding, moves data or waits for its answer
pub record IsClear (l : Ledger) : Type 0 where
  pub failed : l.failed ≡ false
  pub outstanding : l.outstanding ≡ []
  pub unanswered : l.unanswered ≡ []
  pub moving : l.moving ≡ None

-- only this is still to come
pub record OwesOnly (l : Ledger) (replies : List Reply) (wanted : List Wanted) : Type 0 where
  pub clear : IsClear l
  pub awaited : l.awaited ≡ replies
  pub pages : l.pages ≡ wanted

-- the FIS asks for this
pub record IsRequest (bytes : List ℕ) (request : Request) : Type 0 where
  pub frame : List ℕ
  pub is : seen bytes ≡ Ok (view.RegH2D frame)
  pub asks : request_of frame ≡ request

-- it asks neither for a reset nor for the log
abbrev pub IsPassed : Request → Type 0
IsPassed (asked.Reset on) = ⊥
IsPassed asked.ReadErrorLog = ⊥
IsPassed (asked.Queue c) = Unit {0}
IsPassed asked.Identify = Unit {0}
IsPassed asked.Flush = Unit {0}
IsPassed asked.Other = Unit {0}

abbrev pub IsUnheard : Result Fis FisFault → Type 0
IsUnheard (Ok (view.RegH2D f)) = IsPassed (request_of f)
IsUnheard _ = Unit {0}

-- a disk in its error mode hears none of these, and sends nothing
abbrev pub AreUnheard : List Happening → Type 0
AreUnheard [] = Unit {0}
AreUnheard (Received bytes ∷ later) = IsUnheard (seen bytes) × AreUnheard later
AreUnheard (Sent bytes ∷ later) = ⊥
AreUnheard (Plugged ∷ later) = ⊥
AreUnheard (Loaded bytes ∷ later) = ⊥

-- Where both ends may begin anew, whatever happened before, and what the disk then owes.
pub record BeginsAnew : Type 0 where
  -- the disk is plugged in, for the first time or again: it owes its signature
  pub plugged : (before : List Happening)
      → OwesOnly (ledger (before ++ Plugged ∷ [])) (Signs ∷ []) []
  -- the disk is reset: SRST was set and then cleared
  pub reset : (before : List Happening) (on off : List ℕ) → IsRequest on (asked.Reset true)
      → IsRequest off (asked.Reset false)
      → OwesOnly (ledger ((before ++ Received on ∷ []) ++ Received off ∷ [])) (Signs ∷ []) []
  -- the disk reported an error, and its log is read
  pub log : (before between : List Happening) (error log : List ℕ) → reports (seen error) ≡ true
      → AreUnheard between → IsRequest log asked.ReadErrorLog
      → OwesOnly (ledger (((before ++ Sent error ∷ []) ++ between) ++ Received log ∷ []))
      (ShowsPage ∷ []) (LogOf (ledger (before ++ Sent error ∷ [])).failure ∷ [])

-- Until then the disk rests: while SRST is set, and in its error mode.
pub record RestsUntil : Type 0 where
  pub held : (before : List Happening) (on : List ℕ) → IsRequest on (asked.Reset true)
      → Rests (ledger (before ++ Received on ∷ []))
  pub failed : (before between : List Happening) (error : List ℕ) → reports (seen error) ≡ true
      → AreUnheard between → Rests (ledger ((before ++ Sent error ∷ []) ++ between))

-- A disk that rests sends nothing.
abbrev pub RestingIsSilent : Type 0
RestingIsSilent =
    (plan : DiskPlan) (sectors : ℕ) (before : List Happening) (bytes : List ℕ) → IsSize plan sectors
    → Rests (ledger before) → IsDiskRun plan sectors (before ++ Sent bytes ∷ []) → ⊥

-- ## The two ends from then on

-- At the disk's end the first list happened, and no error was reported since both ends began anew. At the
-- host's end the second happened. The third is on its way to the disk. The fourth, oldest first, is what the
-- disk sent before they began anew; the host throws it away. The fifth comes after that.
pub data IsLinkedOn (base : List Happening) : List Happening → List Happening → List (List ℕ)
    → List (List ℕ) → List (List ℕ) → Type 0 where
  begins : (stale : List (List ℕ)) → IsClear (ledger base) → IsLinkedOn base base base [] stale []
  gives : (disk host : List Happening) (down stale up : List (List ℕ)) (bytes : List ℕ)
      → IsLinkedOn base disk host down stale up
      → IsLinkedOn base disk (host ++ Received bytes ∷ []) (down ++ bytes ∷ []) stale up
  comes : (disk host : List Happening) (before after stale up : List (List ℕ)) (bytes : List ℕ)
      → IsLinkedOn base disk host (before ++ bytes ∷ after) stale up
      → IsLinkedOn base (disk ++ Received bytes ∷ []) host (before ++ after) stale up
  sends : (disk host : List Happening) (down stale up : List (List ℕ)) (bytes : List ℕ)
      → reports (seen bytes) ≡ false → IsLinkedOn base disk host down stale up
      → IsLinkedOn base (disk ++ Sent bytes ∷ []) host down stale (up ++ bytes ∷ [])
  drops : (disk host : List Happening) (down stale up : List (List ℕ)) (bytes : List ℕ)
      → IsLinkedOn base disk host down (bytes ∷ stale) up
      → IsLinkedOn base disk host down stale up
  takes : (disk host : List Happening) (down up : List (List ℕ)) (bytes : List ℕ)
      → IsLinkedOn base disk host down [] (bytes ∷ up)
      → IsLinkedOn base disk (host ++ Sent bytes ∷ []) down [] up

-- the host at this end has been careful since then
pub record IsCarefulSince (base host : List Happening) : Type 0 where
  pub since : List Happening
  pub is : host ≡ base ++ since
  pub fits : FitsAll (ledger base) since

-- So both ends tell the same, except for what is on its way, whatever went wrong before they began anew.
abbrev pub EndsTellTheSameAnew : Type 0
EndsTellTheSameAnew =
    (plan : DiskPlan) (sectors : ℕ) (base disk host : List Happening)
    (down stale up : List (List ℕ)) → IsSize plan sectors
    → IsDiskRun plan sectors disk → IsLinkedOn base disk host down stale up
    → IsCarefulSince base host → EndsAgree sectors disk host down up

-- Two ends that are linked since a new disk was plugged in began anew at that point.
abbrev pub LinkedSinceNew : Type 0
LinkedSinceNew =
    (disk host : List Happening) (down up : List (List ℕ)) → IsLinked disk host down up
    → IsLinkedOn (Plugged ∷ []) disk host down [] up

-- ## The disk's end goes on

-- what was written stays written
pub record StayWritten (before more : List Happening) : Type 0 where
  pub later : List Written
  pub same : (ledger (before ++ more)).writes ≡ (ledger before).writes ++ later

abbrev pub WritesStay : Type 0
WritesStay = (before more : List Happening) → StayWritten before more
