-- A disk that a host watches. The host gives it nothing but commands and Data, and follows it up to the error
-- that the disk reports. That error comes up last. From then on the disk is in its error mode and rests,
-- until its log is read or it is reset (Serial ATA 3.x, 13.6, native command queuing, on errors; ACS-3, READ
-- LOG EXT and the NCQ Command Error log).
use Rattle.std.specs.Prelude.{ℕ, ◌≡◌, ◌≤◌, ◌⊎◌, ◌++◌, true, false, List, [], ◌∷◌, length, Result, Ok}
use Rattle.fis_view.specs.{Seen.seen, declared.{view.Fis.Fis, view.FisFault.FisFault}}
use Rattle.fis_view.specs.declared.view.Fis.TheVariants as view
use Rattle.disk_model.specs.{declared.{plan.DiskPlan.DiskPlan, request.Request.Request}, Anew.{IsCarefulSince, IsClear, IsLinkedOn}}
use Rattle.disk_model.specs.{Ends.{Rests, reports}, Histories.{Happening, Plugged, Loaded, Received, Sent}, Ledger.{IsSize, Ledger, ledger}}
use Rattle.disk_model.specs.{Requests.request_of, Runs.IsDiskRun}
use Rattle.disk_model.specs.declared.request.Request.TheVariants as asked
use Rattle.disk_simulation.specs.Followed.{IsFollowed}

-- ---- what a host gives a disk while it watches it

-- a queued command, IDENTIFY DEVICE or FLUSH: not a reset, not the log, and no command that a disk refuses
abbrev pub IsPlainRequest : Request → Type 0
IsPlainRequest (asked.Reset on) = ⊥
IsPlainRequest (asked.Queue c) = Unit {0}
IsPlainRequest asked.ReadErrorLog = ⊥
IsPlainRequest asked.Identify = Unit {0}
IsPlainRequest asked.Flush = Unit {0}
IsPlainRequest asked.Other = ⊥

-- such a command, or Data
abbrev pub IsPlain : Result Fis FisFault → Type 0
IsPlain (Ok (view.RegH2D f)) = IsPlainRequest (request_of f)
IsPlain (Ok (view.Payload f)) = Unit {0}
IsPlain _ = ⊥

abbrev pub ArePlain : List (List ℕ) → Type 0
ArePlain [] = Unit {0}
ArePlain (bytes ∷ later) = IsPlain (seen bytes) × ArePlain later

-- each FIS that the host gave is plain
abbrev pub GavePlain : List Happening → Type 0
GavePlain [] = Unit {0}
GavePlain (Received bytes ∷ later) = IsPlain (seen bytes) × GavePlain later
GavePlain (Sent bytes ∷ later) = GavePlain later
GavePlain (Plugged ∷ later) = GavePlain later
GavePlain (Loaded bytes ∷ later) = GavePlain later

pub record IsPlainSince (base host : List Happening) : Type 0 where
  pub since : List Happening
  pub is : host ≡ base ++ since
  pub plain : GavePlain since

-- ---- the watch

-- the disk is in its error mode, and rests
pub record IsErred (k : Ledger) : Type 0 where
  pub rests : Rests k
  pub failed : k.failed ≡ true
  -- and SRST does not hold it in a reset
  pub awake : k.in_reset ≡ false

-- so it has been since an error, and no write ended
pub record IsErredSince (followed disk : List Happening) : Type 0 where
  pub now : IsErred (ledger disk)
  pub writes : (ledger disk).writes ≡ (ledger followed).writes

-- no error was reported, or one was, which comes up last; the disk has been in its error mode since
pub data IsWatchedTo (base disk host : List Happening) (down stale up : List (List ℕ))
    : Type 0 where
  Fine : IsLinkedOn base disk host down stale up → IsWatchedTo base disk host down stale up
  Erred : (followed later : List Happening) (error : List ℕ) (below before : List (List ℕ))
      → disk ≡ followed ++ Sent error ∷ later → up ≡ before ++ error ∷ []
      → reports (seen error) ≡ true → IsLinkedOn base followed host below stale before
      → IsErredSince followed disk → IsWatchedTo base disk host down stale up

-- The first list happened at the disk's end since the base, the second at the host's end. The third is on its
-- way to the disk. The disk sent the fourth before both began anew, and the fifth since.
pub record IsWatched (base disk host : List Happening) (down stale up : List (List ℕ))
    : Type 0 where
  pub to_error : IsWatchedTo base disk host down stale up
  pub plain : ArePlain down
  pub gave : IsPlainSince base host
  -- SRST is as it was where both began
  pub held : (ledger disk).resetting ≡ (ledger base).resetting

-- the host receives next the error of the disk, and nothing after it
pub record IsLastError (base disk : List Happening) (down up : List (List ℕ)) (bytes : List ℕ)
    : Type 0 where
  pub fails : reports (seen bytes) ≡ true
  pub erred : IsErred (ledger disk)
  pub plain : ArePlain down
  pub last : up ≡ []
  pub held : (ledger disk).resetting ≡ (ledger base).resetting

-- ---- the laws

-- A disk is watched from where both begin anew, at each happening at either end, up to the moment at which
-- the host takes an error from it.
pub record WatchesOn : Type 0 where
  pub follows : (base disk host : List Happening) (down stale up : List (List ℕ))
      → IsWatched base disk host down stale up → IsFollowed base disk host down stale up
  pub begins : (base : List Happening) (stale : List (List ℕ)) → IsClear (ledger base)
      → IsWatched base base base [] stale []
  pub gives : (base disk host : List Happening) (down stale up : List (List ℕ)) (bytes : List ℕ)
      → IsPlain (seen bytes) → IsWatched base disk host down stale up
      → IsWatched base disk (host ++ Received bytes ∷ []) (down ++ bytes ∷ []) stale up
  pub comes : (base disk host : List Happening) (front back stale up : List (List ℕ))
      (bytes : List ℕ) → IsWatched base disk host (front ++ bytes ∷ back) stale up
      → IsWatched base (disk ++ Received bytes ∷ []) host (front ++ back) stale up
  pub sends : (plan : DiskPlan) (sectors : ℕ) (base disk host : List Happening)
      (down stale up : List (List ℕ)) (bytes : List ℕ) → IsSize plan sectors
      → IsDiskRun plan sectors (disk ++ Sent bytes ∷ [])
      → IsWatched base disk host down stale up
      → IsWatched base (disk ++ Sent bytes ∷ []) host down stale (up ++ bytes ∷ [])
  pub drops : (base disk host : List Happening) (down stale up : List (List ℕ)) (bytes : List ℕ)
      → IsWatched base disk host down (bytes ∷ stale) up
      → IsWatched base disk host down stale up
  pub takes : (base disk host : List Happening) (down up : List (List ℕ)) (bytes : List ℕ)
      → IsWatched base disk host down [] (bytes ∷ up)
      → IsLastError base disk down up bytes
      ⊎ IsWatched base disk (host ++ Sent bytes ∷ []) down [] up

-- What the FISes tell of writes at the host's end is never behind what they tell at the disk's end.
abbrev pub WatchedIsAhead : Type 0
WatchedIsAhead =
    (plan : DiskPlan) (sectors : ℕ) (base disk host : List Happening)
    (down stale up : List (List ℕ)) → IsSize plan sectors → IsDiskRun plan sectors disk
    → IsWatched base disk host down stale up → IsCarefulSince base host
    → length (ledger disk).writes ≤ length (ledger host).writes
