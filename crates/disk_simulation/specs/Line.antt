-- The link of a disk that a host sets aside, up to the moment at which both begin anew: the host reads the
-- log of an error, or resets the disk (Serial ATA 3.x, 13.6, native command queuing, on errors, and software
-- reset; ACS-3, READ LOG EXT). A FIS that goes down can be lost. Then those behind it arrive without it.
use Rattle.std.specs.Prelude.{ℕ, ◌≡◌, ◌≢◌, ◌<◌, ◌⊎◌, ◌++◌, true, false, List, [], ◌∷◌}
use Rattle.fis_view.specs.{Frames.{IsFrame, marked}, Seen.seen}
use Rattle.hba_fbs.specs.Posting.{signs}
use Rattle.disk_model.specs.{declared.{plan.DiskPlan.DiskPlan, request.Request.Request}, Anew.{IsCarefulSince, IsRequest, OwesOnly}}
use Rattle.disk_model.specs.{Ends.{Rests, reports}, Histories.{Happening, Plugged, Received, Sent}}
use Rattle.disk_model.specs.{Ledger.{Accepts, Finishes, IsSize, Ledger, LogOf, Refuses, Reply, ShowsPage, Signs, Wanted, ledger}, Runs.IsDiskRun}
use Rattle.disk_model.specs.declared.request.Request.TheVariants as asked
use Rattle.disk_simulation.specs.Watched.{ArePlain, IsErred, IsPlain, IsWatched}

-- ---- what is due, and what comes up

-- the condition holds for each of these answers
abbrev pub EachReply : (Reply → Type 0) → List Reply → Type 0
EachReply P [] = Unit {0}
EachReply P (reply ∷ later) = P reply × EachReply P later

abbrev pub IsNoSignature : Reply → Type 0
IsNoSignature Signs = ⊥
IsNoSignature Accepts = Unit {0}
IsNoSignature Finishes = Unit {0}
IsNoSignature Refuses = Unit {0}
IsNoSignature ShowsPage = Unit {0}

-- no signature is due
abbrev pub IsUnsigned : Ledger → Type 0
IsUnsigned k = EachReply IsNoSignature k.awaited

-- none of these is a signature
abbrev pub NoneSigns : List (List ℕ) → Type 0
NoneSigns [] = Unit {0}
NoneSigns (bytes ∷ later) = (signs (seen bytes) ≡ false) × NoneSigns later

-- ---- the stages

-- how far the host has got in beginning anew with the disk
pub data Line : Type 0 where
  -- the disk is in its error mode, and only plain FISes are on their way to it
  Failed : Line
  -- and READ LOG EXT follows them
  Asked : Line
  -- the disk works on, and only plain FISes are on their way to it
  Loose : Line
  -- and a FIS that sets SRST follows them
  Held : Line
  -- and then one that clears it
  Both : Line
  -- SRST is set at the disk
  Resting : Line
  -- and the FIS that clears it is on its way
  Releasing : Line

pub record IsFailed (k : Ledger) (down up : List (List ℕ)) : Type 0 where
  pub erred : IsErred k
  pub plain : ArePlain down
  pub silent : up ≡ []

pub record IsAsked (k : Ledger) (down up : List (List ℕ)) : Type 0 where
  pub erred : IsErred k
  pub ahead : List (List ℕ)
  pub log : List ℕ
  pub is : down ≡ ahead ++ log ∷ []
  pub plain : ArePlain ahead
  pub asks : IsRequest log asked.ReadErrorLog
  pub silent : up ≡ []

pub record IsLoose (k : Ledger) (down up : List (List ℕ)) : Type 0 where
  pub unsigned : IsUnsigned k
  pub plain : ArePlain down
  pub quiet : NoneSigns up

pub record IsHeld (k : Ledger) (down up : List (List ℕ)) : Type 0 where
  pub unsigned : IsUnsigned k
  pub ahead : List (List ℕ)
  pub on : List ℕ
  pub is : down ≡ ahead ++ on ∷ []
  pub plain : ArePlain ahead
  pub sets : IsRequest on (asked.Reset true)
  pub quiet : NoneSigns up

pub record IsBoth (k : Ledger) (down up : List (List ℕ)) : Type 0 where
  pub unsigned : IsUnsigned k
  pub ahead : List (List ℕ)
  pub on : List ℕ
  pub off : List ℕ
  pub is : down ≡ ahead ++ on ∷ off ∷ []
  pub plain : ArePlain ahead
  pub sets : IsRequest on (asked.Reset true)
  pub clears : IsRequest off (asked.Reset false)
  pub quiet : NoneSigns up

pub record IsResting (k : Ledger) (down up : List (List ℕ)) : Type 0 where
  pub rests : Rests k
  pub inside : k.in_reset ≡ true
  pub held : k.resetting ≡ true
  pub empty : down ≡ []
  pub quiet : NoneSigns up

pub record IsReleasing (k : Ledger) (down up : List (List ℕ)) : Type 0 where
  pub rests : Rests k
  pub inside : k.in_reset ≡ true
  pub held : k.resetting ≡ true
  pub off : List ℕ
  pub is : down ≡ off ∷ []
  pub clears : IsRequest off (asked.Reset false)
  pub quiet : NoneSigns up

-- The disk is as this ledger tells. The lists are on their way to it and to the host.
abbrev pub OnLine : Line → Ledger → List (List ℕ) → List (List ℕ) → Type 0
OnLine Failed k down up = IsFailed k down up
OnLine Asked k down up = IsAsked k down up
OnLine Loose k down up = IsLoose k down up
OnLine Held k down up = IsHeld k down up
OnLine Both k down up = IsBoth k down up
OnLine Resting k down up = IsResting k down up
OnLine Releasing k down up = IsReleasing k down up

-- ---- how it goes on

-- the line is at this stage, and SRST is as it was before
pub record StandsAt (line : Line) (old new : Ledger) (down up : List (List ℕ)) : Type 0 where
  pub on : OnLine line new down up
  pub held : new.resetting ≡ old.resetting

-- Both begin anew. The disk owes these answers and pages and nothing else, and nothing is on its way to it.
-- What is on its way to the host is discarded there, and no signature is among it.
pub record BothBegin (old new : Ledger) (replies : List Reply) (wanted : List Wanted)
    (down up : List (List ℕ)) : Type 0 where
  pub owes : OwesOnly new replies wanted
  pub empty : down ≡ []
  pub quiet : NoneSigns up
  -- SRST is as it was before, or clear
  pub held : (new.resetting ≡ old.resetting) ⊎ (new.resetting ≡ false)

-- One of the FISes on their way down arrived, and those ahead of it never arrive. The line stays at its stage
-- or goes to the next, or both begin anew. If the FIS that sets SRST never arrives, the one that clears it
-- has no effect at a disk whose SRST is clear: the line is loose again.
abbrev pub ComesTo : Line → (old new : Ledger) → (back up : List (List ℕ)) → Type 0
ComesTo Failed old new back up = StandsAt Failed old new back up
ComesTo Asked old new back up =
    StandsAt Asked old new back up
    ⊎ BothBegin old new (ShowsPage ∷ []) (LogOf old.failure ∷ []) back up
ComesTo Loose old new back up = StandsAt Loose old new back up
ComesTo Held old new back up = StandsAt Held old new back up ⊎ OnLine Resting new back up
ComesTo Both old new back up =
    StandsAt Both old new back up
    ⊎ (OnLine Releasing new back up ⊎ (StandsAt Loose old new back up × (back ≡ [])))
ComesTo Resting old new back up = ⊥
ComesTo Releasing old new back up = BothBegin old new (Signs ∷ []) [] back up

-- the disk does not rest, so it can send
abbrev pub Speaks : Line → Type 0
Speaks Failed = ⊥
Speaks Asked = ⊥
Speaks Loose = Unit {0}
Speaks Held = Unit {0}
Speaks Both = Unit {0}
Speaks Resting = ⊥
Speaks Releasing = ⊥

-- what it sent before can still come up
abbrev pub HasSpoken : Line → Type 0
HasSpoken Failed = ⊥
HasSpoken Asked = ⊥
HasSpoken Loose = Unit {0}
HasSpoken Held = Unit {0}
HasSpoken Both = Unit {0}
HasSpoken Resting = Unit {0}
HasSpoken Releasing = Unit {0}

-- a FIS that a disk sent goes up, and is not a signature
pub record GoesUp (line : Line) (old new : Ledger) (down up : List (List ℕ)) (bytes : List ℕ)
    : Type 0 where
  pub speaks : Speaks line
  pub unsigned : signs (seen bytes) ≡ false
  pub stands : StandsAt line old new down (up ++ bytes ∷ [])

-- the host receives a FIS that is not a signature
pub record IsTaken (line : Line) (k : Ledger) (down up : List (List ℕ)) (bytes : List ℕ)
    : Type 0 where
  pub spoken : HasSpoken line
  pub unsigned : signs (seen bytes) ≡ false
  pub on : OnLine line k down up

-- The line goes on at each FIS that the host gives to begin anew, and at each happening at either end. What
-- goes down arrives in order, or SRST is clear where a FIS ahead of it is lost.
pub record LinesGoOn : Type 0 where
  pub asks : (k : Ledger) (down up : List (List ℕ)) (bytes : List ℕ)
      → IsRequest bytes asked.ReadErrorLog → OnLine Failed k down up
      → OnLine Asked k (down ++ bytes ∷ []) up
  pub loosens : (k : Ledger) (down up : List (List ℕ)) → OnLine Failed k down up
      → OnLine Loose k down up
  pub holds : (k : Ledger) (down up : List (List ℕ)) (bytes : List ℕ)
      → IsRequest bytes (asked.Reset true) → OnLine Loose k down up
      → OnLine Held k (down ++ bytes ∷ []) up
  pub clears : (k : Ledger) (down up : List (List ℕ)) (bytes : List ℕ)
      → IsRequest bytes (asked.Reset false) → OnLine Held k down up
      → OnLine Both k (down ++ bytes ∷ []) up
  pub releases : (k : Ledger) (down up : List (List ℕ)) (bytes : List ℕ)
      → IsRequest bytes (asked.Reset false) → OnLine Resting k down up
      → OnLine Releasing k (down ++ bytes ∷ []) up
  pub comes : (line : Line) (disk : List Happening) (front back up : List (List ℕ))
      (bytes : List ℕ) → (front ≡ []) ⊎ ((ledger disk).resetting ≡ false)
      → OnLine line (ledger disk) (front ++ bytes ∷ back) up
      → ComesTo line (ledger disk) (ledger (disk ++ Received bytes ∷ [])) back up
  pub sends : (plan : DiskPlan) (sectors : ℕ) (line : Line) (disk : List Happening)
      (down up : List (List ℕ)) (bytes : List ℕ) → IsSize plan sectors
      → IsDiskRun plan sectors (disk ++ Sent bytes ∷ []) → OnLine line (ledger disk) down up
      → GoesUp line (ledger disk) (ledger (disk ++ Sent bytes ∷ [])) down up bytes
  pub takes : (line : Line) (k : Ledger) (down up : List (List ℕ)) (bytes : List ℕ)
      → OnLine line k down (bytes ∷ up) → IsTaken line k down up bytes

-- ---- where the line begins

-- both began anew with only a signature to come, or with none to come
pub data IsSigning (k : Ledger) : Type 0 where
  ToSign : OwesOnly k (Signs ∷ []) [] → IsSigning k
  Unsigned : IsUnsigned k → IsSigning k

-- a disk that is watched, while its host is careful
pub record IsWatchedWell (plan : DiskPlan) (sectors : ℕ) (base disk given : List Happening)
    (down up : List (List ℕ)) : Type 0 where
  pub size : IsSize plan sectors
  pub run : IsDiskRun plan sectors disk
  pub signing : IsSigning (ledger base)
  pub careful : IsCarefulSince base given
  pub watched : IsWatched base disk given down [] up

-- A host that sets aside a disk, and waits for no signature of it any more, has a loose line to it. It waits
-- for none if it did not wait for a signature only, and once it took one FIS of the disk since both began
-- anew. So whatever the FIS at which it sets the disk aside, either the disk failed and that FIS reports it,
-- or the line is loose.
pub record LinesBegin : Type 0 where
  pub loosens : (plan : DiskPlan) (sectors : ℕ) (base disk given : List Happening)
      (down up : List (List ℕ)) → IsWatchedWell plan sectors base disk given down up
      → IsUnsigned (ledger given) → OnLine Loose (ledger disk) down up
  pub signed : (plan : DiskPlan) (sectors : ℕ) (base disk given : List Happening)
      (down up : List (List ℕ)) → IsWatchedWell plan sectors base disk given down up
      → (given ≡ base) ⊎ IsUnsigned (ledger given)
  pub asked : (plan : DiskPlan) (sectors : ℕ) (base disk given : List Happening)
      (down up : List (List ℕ)) → IsWatchedWell plan sectors base disk given down up
      → (ledger given).awaited ≢ Signs ∷ [] → IsUnsigned (ledger given)
  pub after : (plan : DiskPlan) (sectors : ℕ) (base disk given : List Happening)
      (down up : List (List ℕ)) (bytes : List ℕ)
      → IsWatchedWell plan sectors base disk given down (bytes ∷ up)
      → IsUnsigned (ledger (given ++ Sent bytes ∷ []))
  pub next : (plan : DiskPlan) (sectors : ℕ) (base disk given : List Happening)
      (down up : List (List ℕ)) (bytes : List ℕ)
      → IsWatchedWell plan sectors base disk given down (bytes ∷ up)
      → ((reports (seen bytes) ≡ true) × OnLine Failed (ledger disk) down up)
      ⊎ ((reports (seen bytes) ≡ false) × OnLine Loose (ledger disk) down up)

-- SRST is clear at a disk that is plugged in for the first time, and plugging leaves it as it is.
pub record PluggingLeavesReset : Type 0 where
  pub first : (ledger (Plugged ∷ [])).resetting ≡ false
  pub again : (before : List Happening)
      → (ledger (before ++ Plugged ∷ [])).resetting ≡ (ledger before).resetting

-- ---- PM Ports

-- with its PM Port written, the frame signs, asks and reports what it did before
pub record IsAskedAlike (old new : List ℕ) : Type 0 where
  pub signature : signs (seen new) ≡ signs (seen old)
  pub error : reports (seen new) ≡ reports (seen old)
  pub plain : IsPlain (seen old) → IsPlain (seen new)
  pub request : (r : Request) → IsRequest old r → IsRequest new r

abbrev pub MarksAskNothing : Type 0
MarksAskNothing = (bytes : List ℕ) (port : ℕ) → IsFrame bytes → port < 16
    → IsAskedAlike bytes (marked bytes port)
