-- The two ends of a disk's link while FISes are on their way in both directions (Serial ATA 3.x, 10.5, FIS
-- types, and 13.6, native command queuing; AHCI 1.3.1, 5.3). What the host gave and took is told in the words
-- of a disk's history. Both ends tell the same ledger, except for what is still on its way.
use Rattle.std.specs.Prelude.{ℕ, ◌≡◌, ◌≢◌, ◌==◌, Bool, true, false, List, [], ◌∷◌, ◌++◌, drop, length, All, Option, Some, None, Result, Ok}
use Rattle.std.specs.List.{list_any}
use Rattle.fis_view.specs.{Seen.seen, declared.view.{Fis.Fis, FisFault.FisFault}}
use Rattle.fis_view.specs.declared.view.Fis.TheVariants as view
use Rattle.disk_model.specs.{declared.{plan.DiskPlan.DiskPlan, request.Request.{Request, TheVariants.{Reset, Queue}}}, Histories.Happening}
use Rattle.disk_model.specs.{Histories.{Received, Sent, Plugged, Loaded}, Requests.request_of, Runs.IsDiskRun, Ledger.{AnswersOne, IsRead, IsSize}}
use Rattle.disk_model.specs.{Ledger.{Ledger, Moving, Written, empty, has_error, ledger, listens}, Laws.{AnswersRight, MovesRight}}

-- ## What happened at the two ends

-- the FIS is a Set Device Bits FIS that reports an error
abbrev pub reports : Result Fis FisFault → Bool
reports (Ok (view.SetBits f)) = has_error f
reports _ = false

-- At the disk's end the first list happened since the disk was plugged in, and no error was reported. At the
-- host's end the second happened: in it, the FISes that the host gave are Received, and those that it took
-- are Sent. The third list is on its way to the disk, the fourth, oldest first, to the host. What goes up
-- comes in order. On the way down a FIS may be overtaken, so a FIS that is lost is one that never comes.
pub data IsLinked : List Happening → List Happening → List (List ℕ) → List (List ℕ) → Type 0 where
  begins : IsLinked (Plugged ∷ []) (Plugged ∷ []) [] []
  gives : (disk host : List Happening) (down up : List (List ℕ)) (bytes : List ℕ) → IsLinked disk host down up
      → IsLinked disk (host ++ Received bytes ∷ []) (down ++ bytes ∷ []) up
  comes : (disk host : List Happening) (before after up : List (List ℕ)) (bytes : List ℕ)
      → IsLinked disk host (before ++ bytes ∷ after) up
      → IsLinked (disk ++ Received bytes ∷ []) host (before ++ after) up
  sends : (disk host : List Happening) (down up : List (List ℕ)) (bytes : List ℕ)
      → reports (seen bytes) ≡ false
      → IsLinked disk host down up
      → IsLinked (disk ++ Sent bytes ∷ []) host down (up ++ bytes ∷ [])
  takes : (disk host : List Happening) (down up : List (List ℕ)) (bytes : List ℕ)
      → IsLinked disk host down (bytes ∷ up)
      → IsLinked disk (host ++ Sent bytes ∷ []) down up

-- ## What a host may give

-- the tag is among these
abbrev pub has : ℕ → List ℕ → Bool
has tag tags = list_any (λ t. t == tag) tags

-- no data moves, or that of another tag moves
abbrev pub MovesOther : ℕ → Option Moving → Type 0
MovesOther tag None = Unit {0}
MovesOther tag (Some v) = (v.command.tag == tag) ≡ false

-- no command with the tag is outstanding, waits for its answer or moves data
pub record IsFree (l : Ledger) (tag : ℕ) : Type 0 where
  pub outstanding : list_any (λ q. q.tag == tag) l.outstanding ≡ false
  pub unanswered : has tag l.unanswered ≡ false
  pub moving : MovesOther tag l.moving

-- nothing is outstanding, and nothing waits for an answer
pub record Rests (l : Ledger) : Type 0 where
  pub outstanding : l.outstanding ≡ []
  pub unanswered : l.unanswered ≡ []
  pub awaited : l.awaited ≡ []
  pub pages : l.pages ≡ []
  pub moving : l.moving ≡ None

-- A queued command is given if its tag is free and the command before it was answered. Any other command is
-- given if nothing is to come. A software reset is not given.
abbrev pub FitsRequest : Ledger → Request → Type 0
FitsRequest l (Reset on) = ⊥
FitsRequest l (Queue c) = IsFree l c.tag × (l.awaited ≡ [])
FitsRequest l request = Rests l

-- all Data of a DMA Setup, after a DMA Activate or auto-activate asked for it
pub record IsAskedFor (v : Moving) (bytes : List ℕ) : Type 0 where
  pub writes : v.command.write ≡ true
  pub asked : v.active ≡ true
  pub long : length bytes ≡ v.count

abbrev pub FitsData : Option Moving → List ℕ → Type 0
FitsData None bytes = ⊥
FitsData (Some v) bytes = IsAskedFor v bytes

-- a FIS that a host may give after what was told: a command, or Data
abbrev pub Fits : Ledger → Result Fis FisFault → Type 0
Fits l (Ok (view.RegH2D f)) = (l.failed ≡ false) × FitsRequest l (request_of f)
Fits l (Ok (view.Payload f)) = FitsData l.moving (drop 4 f)
Fits l _ = ⊥

-- each FIS that is given fits what was told before it
unfoldable pub FitsAll : Ledger → List Happening → Type 0
FitsAll l [] = Unit {0}
FitsAll l (Received bytes ∷ later) = Fits l (seen bytes) × FitsAll (listens l (Received bytes)) later
FitsAll l (Sent bytes ∷ later) = FitsAll (listens l (Sent bytes)) later
FitsAll l (Plugged ∷ later) = FitsAll (listens l Plugged) later
FitsAll l (Loaded bytes ∷ later) = ⊥

-- the host at this end is careful: each FIS that it gives fits
abbrev pub IsCareful : List Happening → Type 0
IsCareful host = FitsAll empty host

-- ## What comes from a disk

-- if no command's data moves, a page was asked for
abbrev pub PageAsked : Ledger → Option Moving → Type 0
PageAsked l None = l.pages ≢ []
PageAsked l (Some v) = Unit {0}

abbrev pub DataAsked : Ledger → Result Fis FisFault → Type 0
DataAsked l (Ok (view.Payload f)) = PageAsked l l.moving
DataAsked l _ = Unit {0}

-- A FIS of a disk moves data, answers and replies as is due by what was told before it, and reports no error.
pub record IsRight (l : Ledger) (fis : Result Fis FisFault) : Type 0 where
  pub moves : MovesRight l fis
  pub answers : AnswersOne l fis
  pub replies : AnswersRight l fis
  pub asked : DataAsked l fis
  pub fine : reports fis ≡ false

-- ## Both ends

-- what is told once these have come up, in their order
unfoldable pub with_up : Ledger → List (List ℕ) → Ledger
with_up l [] = l
with_up l (bytes ∷ later) = with_up (listens l (Sent bytes)) later

-- what is told once these have come down
unfoldable pub with_down : Ledger → List (List ℕ) → Ledger
with_down l [] = l
with_down l (bytes ∷ later) = with_down (listens l (Received bytes)) later

-- each of them is right by what will have been told when it comes
unfoldable pub AreRight : Ledger → List (List ℕ) → Type 0
AreRight l [] = Unit {0}
AreRight l (bytes ∷ later) = IsRight l (seen bytes) × AreRight (listens l (Sent bytes)) later

-- a Set Device Bits FIS
abbrev pub IsBits : Result Fis FisFault → Type 0
IsBits (Ok (view.SetBits f)) = Unit {0}
IsBits _ = ⊥

-- a Set Device Bits FIS comes up next
abbrev pub AnswersNext : List (List ℕ) → Type 0
AnswersNext [] = ⊥
AnswersNext (bytes ∷ later) = IsBits (seen bytes)

-- the disk's end tells of all writes that the host's end tells of, except for the last ones, which have other
-- tags
pub record AreEntered (disk host : Ledger) (tag : ℕ) : Type 0 where
  pub later : List Written
  pub same : host.writes ≡ disk.writes ++ later
  pub others : All (λ w. (w.tag == tag) ≡ false) later

-- What the host's end tells, followed by what is on its way up, is what the disk's end tells, followed by
-- what is on its way down. What comes to the host is right by what the host will have heard by then. Each
-- read that ended at the host's end had the sectors of the medium as they were when the disk started it. If a
-- Set Device Bits FIS comes to the host next, it names the first tag of those not answered, and each write
-- with that tag is on the medium.
pub record EndsAgree (sectors : ℕ) (disk host : List Happening) (down up : List (List ℕ)) : Type 0 where
  pub same : with_up (ledger host) up ≡ with_down (ledger disk) down
  pub right : AreRight (ledger host) up
  pub reads : All (IsRead sectors) (ledger host).reads
  pub entered : AnswersNext up → (tag : ℕ) (rest : List ℕ) → (ledger host).unanswered ≡ tag ∷ rest
      → AreEntered (ledger disk) (ledger host) tag

-- this holds for each run of each disk and each careful host
abbrev pub EndsTellTheSame : Type 0
EndsTellTheSame =
    (plan : DiskPlan) (sectors : ℕ) (disk host : List Happening) (down up : List (List ℕ))
    → IsSize plan sectors
    → IsDiskRun plan sectors disk → IsLinked disk host down up → IsCareful host
    → EndsAgree sectors disk host down up
