-- What the calls on a disk do, by its rules (ACS-3; Serial ATA 3.x, native command queuing).
use Rattle.std.specs.{Bool.MatchBool, Prelude.{◌≡◌, ◌≢◌, ℕ, zero, suc, ◌<◌, ◌≤◌, ◌==◌, ◌&&◌, ◌⊎◌, Bool, true, false, List, Option, Some, None}}
use Rattle.std.specs.{List.All, Prelude.{IfSome, MatchOption}}
use Rattle.fis_view.specs.{Frames.is_frame, Seen.seen}
use Rattle.block_engine.specs.Engine.{EngineState, IsEngineStart, IsRequested, answer_refusal, answered, discarded_at, started, stored_at}
use Rattle.block_engine.specs.declared.request.{Answer.{Answer, TheVariants.Failed}, Request.Request}
use Rattle.sata_disk.specs.{Hearing.{MayHear, fis_heard, fis_unheard, plugged}, Sending.{IsFis, IsOut, after_sent}, declared.out.Out.Out}
use Rattle.sata_disk.specs.State.{AsksWithin, DiskState, IsWithin, sectors_of}
use Rattle.gefsunk.specs.{Media.{IsLoaded, PieceRule, RangeRule, error_of, medium_shown, misfit_of, place_named, plain}, declared.event.Event.Event}
use Rattle.gefsunk.specs.declared.{event.MediumRequest.MediumRequest, medium.SectorRange.SectorRange, status.Status.Status}
use Rattle.gefsunk.specs.declared.status.Status.TheVariants as status

-- the disk is plugged in
abbrev pub DiskPlug : DiskState → Status → DiskState → Type 0
DiskPlug old answer new = (answer ≡ status.Done) × (new ≡ plugged old)

-- ---- FISes

-- what it makes of it, and that may be done
pub record Hears (old : DiskState) (fis : List ℕ) (new : DiskState) : Type 0 where
  pub may : MayHear old (seen fis)
  pub is : new ≡ fis_heard old (seen fis)

-- the host sends a FIS
abbrev pub DiskFromHost : DiskState → List ℕ → Status → DiskState → Type 0
DiskFromHost old fis status.Done new = (is_frame fis ≡ true) × (fis_unheard old (seen fis) ≡ None) × Hears old fis new
DiskFromHost old fis status.Dropped new = (is_frame fis ≡ true) × (fis_unheard old (seen fis) ≢ None) × Hears old fis new
DiskFromHost old fis status.BadLength new = (is_frame fis ≡ false) × (new ≡ old)
DiskFromHost old fis status.NoMemory new = (is_frame fis ≡ true) × (new ≡ old)
DiskFromHost old fis _ new = ⊥

-- the FIS that is next goes
pub record Sends (old : DiskState) (fis : List ℕ) (new : DiskState) : Type 0 where
  pub out : Out
  pub next : IsOut old (Some out)
  pub bytes : IsFis old out fis
  pub is : new ≡ after_sent old out

-- some FIS is next
pub record Speaks (d : DiskState) : Type 0 where
  pub out : Out
  pub next : IsOut d (Some out)

-- the next FIS for the host; the room must hold the longest FIS, whatever is next
abbrev pub DiskToHost : DiskState → (room : ℕ) → Status → List ℕ → DiskState → Type 0
DiskToHost old room status.Done fis new = (8196 ≤ room) × Sends old fis new
DiskToHost old room status.Nothing fis new = (8196 ≤ room) × IsOut old None × (new ≡ old)
DiskToHost old room status.NoMemory fis new = (8196 ≤ room) × Speaks old × (new ≡ old)
DiskToHost old room status.TooShort fis new = (room < 8196) × (new ≡ old)
DiskToHost old room _ fis new = ⊥

-- ---- what is to be done to the medium

abbrev pub with_engine : DiskState → EngineState → DiskState
with_engine d e = record d { engine = e }

-- one more command starts
pub record ThenStarts (Before : DiskState → Type 0) (new : DiskState) : Type 0 where
  pub middle : DiskState
  pub place : ℕ
  pub before : Before middle
  pub next : IsEngineStart middle.engine (Some place)
  pub is : new ≡ with_engine middle (started middle.engine (Some place))

-- so many commands start, one after the other
unfoldable pub StartsBy : (count : ℕ) → DiskState → DiskState → Type 0
StartsBy zero old new = new ≡ old
StartsBy (suc count) old new = ThenStarts (StartsBy count old) new

pub record Starts (old new : DiskState) : Type 0 where
  pub count : ℕ
  pub starts : StartsBy count old new

-- commands start until none may
pub record StartsAll (old new : DiskState) : Type 0 where
  pub starts : Starts old new
  pub last : IsEngineStart new.engine None

-- port and disk are 0
abbrev pub asked_event : Option Request → Event
asked_event None = plain 0
asked_event (Some r) = medium_shown (record { port = 0; disk = 0; number = r.number }) r.place r.what

-- all that may start do, and then it asks
pub record Asks (old : DiskState) (event : Event) (new : DiskState) : Type 0 where
  pub middle : DiskState
  pub starts : StartsAll old middle
  pub asked : Option Request
  pub asks : IsRequested middle.engine new.engine asked
  -- for no sector that the disk does not have
  pub within : IfSome asked (λ r. AsksWithin (sectors_of middle) r.what)
  pub others : new ≡ with_engine middle new.engine
  pub is : event ≡ asked_event asked

-- where memory is refused, some may have started
abbrev pub DiskNext : DiskState → Status → Event → DiskState → Type 0
DiskNext old status.Done event new = Asks old event new
DiskNext old status.NoMemory event new = Starts old new
DiskNext old _ event new = ⊥

-- ---- answers

-- the disk's own have port 0 and disk 0
abbrev pub is_own : MediumRequest → Bool
is_own r = (r.port == 0) && (r.disk == 0)

abbrev pub Answers : DiskState → (number : ℕ) → Answer → Status → DiskState → Type 0
Answers old number given answer new =
    MatchOption (answer_refusal old.engine number given)
    ((answer ≡ status.Done) × (new ≡ with_engine old (answered old.engine number given)))
    (λ misfit. (answer ≡ misfit_of misfit) × (new ≡ old))

unfoldable pub DiskAnswer : DiskState → MediumRequest → Answer → Status → DiskState → Type 0
DiskAnswer old r given answer new =
    MatchBool (is_own r) (Answers old r.number given answer new) ((answer ≡ status.NotOut) × (new ≡ old))

pub record Loads (old : DiskState) (r : MediumRequest) (bytes : List ℕ) (answer : Status) (new : DiskState) : Type 0 where
  pub given : Answer
  pub loaded : IsLoaded given bytes
  pub answers : DiskAnswer old r given answer new

abbrev pub DiskLoaded : DiskState → MediumRequest → List ℕ → Status → DiskState → Type 0
DiskLoaded old r bytes answer new = Loads old r bytes answer new ⊎ ((answer ≡ status.NoMemory) × (new ≡ old))

unfoldable pub DiskFailed : DiskState → MediumRequest → (error lba : ℕ) → Status → DiskState → Type 0
DiskFailed old r error lba answer new =
    MatchOption (error_of error) ((answer ≡ status.BadError) × (new ≡ old))
    (λ kind. DiskAnswer old r (Failed (record { error = kind; lba = lba })) answer new)

-- ---- what goes to the medium

-- the bytes of a store are those of its request, while it is out
abbrev pub DiskStored : DiskState → MediumRequest → (from room : ℕ) → Status → List ℕ → Type 0
DiskStored d r from room answer got =
    MatchBool (is_own r)
    (MatchOption (place_named r) (answer ≡ status.OtherKind) (λ p. PieceRule (stored_at d.engine p r.number) from room answer got))
    (answer ≡ status.NotOut)

-- and so are the sectors of a discard, all of which the disk has
abbrev pub DiskDiscarded : DiskState → MediumRequest → (number : ℕ) → Status → SectorRange → Type 0
DiskDiscarded d r number answer got =
    MatchBool (is_own r)
    (MatchOption (discarded_at d.engine r.number) (answer ≡ status.NotOut)
    (λ ranges. RangeRule ranges number answer got × All (IsWithin (sectors_of d)) ranges))
    (answer ≡ status.NotOut)
