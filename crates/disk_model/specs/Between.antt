-- The words in which lemmas are stated that proofs of other crates use (`proofs/Door.antt`), and the words that these need.
-- No clause says them.
use Rattle.std.specs.Prelude.{All, Bool, List, None, Ok, Option, Result, Some, drop, false, filter, filter_map, find, is_some, length, min, not}
use Rattle.std.specs.{Prelude.{replicate, take, true, ℕ, ◌*◌, ◌++◌, ◌+◌, ◌-◌, ◌/◌, ◌<◌, ◌==◌, ◌∷◌, ◌≡◌, ◌≤◌, []}, List.list_any, Int.from_bool}
use Rattle.fis_view.specs.{declared.view.{Fis.Fis, FisFault.FisFault}, Seen.seen, Table.{BufferId, Count, D, Offset, Setup, field}}
use Rattle.fis_view.specs.declared.view.Fis.TheVariants as view
use Rattle.disk_model.specs.declared.answer.Answer.{Answer, TheVariants.{Accepted, Ended, Finished, PageData, PageFollows, Refused, Signature}}
use Rattle.disk_model.specs.declared.answer.{Fault.{Fault, TheVariants.{Failed, Held, Mixed}}, Page.{Page, TheVariants.{ErrorLog, Identity}}}
use Rattle.disk_model.specs.declared.{plan.DiskPlan.DiskPlan, request.{Command.Command, Request.{Request, TheVariants.{Flush, Identify, Other}}}}
use Rattle.disk_model.specs.{declared.request.Request.TheVariants.{Queue, ReadErrorLog, Reset}, Chunks.{asks_for, chunk_count, chunk_from}}
use Rattle.disk_model.specs.{Chunks.{chunk_setup, chunks, fault_of, put, report, sectors_at, sends_left}, Disks.{Moment, Started, Turn, Writing}}
use Rattle.disk_model.specs.{Disks.{begun, is_held, picked, starts}, Ends.{AreRight, Fits, IsFree, MovesOther, has, with_down, with_up}}
use Rattle.disk_model.specs.{Histories.{Happening, Plugged, Loaded, Received, Sent}, Laws.{Fails, bytes_named}, Ledger.{Accepts, Failure, Finishes}}
use Rattle.disk_model.specs.Ledger.{IdentifyData, IsRead, Ledger, LogOf, Moving, Refuses, Reply, ShowsPage, Signs, Stretch, Wanted, awaits}
use Rattle.disk_model.specs.{Ledger.{awaits_page, ends, ledger, listens, listens_up, medium_with}, Requests.IsCounted, Sendings.{Activates, Carries}}
use Rattle.disk_model.specs.Sendings.{Sending, SetsUp, Shows, answer_sent}

-- a DMA Setup FIS of these fields
pub record TellsSetup (tag offset count : ℕ) (d : Bool) (b : List ℕ) : Type 0 where
  pub viewed : seen b ≡ Ok (view.DmaSetup b)
  pub tag_is : field Setup BufferId b ≡ tag
  pub offset_is : field Setup Offset b ≡ offset
  pub count_is : field Setup Count b ≡ count
  pub direction_is : field Setup D b ≡ from_bool d

-- the first k bytes of the data, and zeros for the others
abbrev pub from_front : List ℕ → (n k : ℕ) → List ℕ
from_front s n k = take k s ++ replicate (n - k) 0

-- the last k bytes of the data, and zeros for the others
abbrev pub from_back : List ℕ → (n k : ℕ) → List ℕ
from_back s n k = replicate (n - k) 0 ++ drop (n - k) s

-- how many sectors have moved when left chunks are left
abbrev pub done_by : (downwards : Bool) (all size count left : ℕ) → ℕ
done_by true all size count left = count - left * size
done_by false all size count left = min ((all - left) * size) count

-- how many sectors of a command have moved when left chunks are left
abbrev pub moved_sectors : DiskPlan → Command → ℕ → ℕ
moved_sectors plan c left = done_by plan.last_first (chunks plan c) (plan.chunk / 512) c.count left

-- what is known about a chunk, in plain numbers
pub record Part (downwards : Bool) (all size count left from part : ℕ) : Type 0 where
  -- it begins where the moved sectors end, on their side
  pub upwards : downwards ≡ false → from ≡ done_by downwards all size count left
  pub downwards_is : downwards ≡ true → from ≡ count - (done_by downwards all size count left + part)
  pub next : done_by downwards all size count (left - 1) ≡ done_by downwards all size count left + part
  pub within : done_by downwards all size count left + part ≤ count
  pub inside : from + part ≤ count
  pub last : left ≡ 1 → done_by downwards all size count left + part ≡ count
  pub more : (left ≡ 1 → ⊥) → done_by downwards all size count left + part < count

-- the next chunk of a command
abbrev pub ChunkPart : DiskPlan → Command → ℕ → Type 0
ChunkPart plan c left = Part plan.last_first (chunks plan c) (plan.chunk / 512) c.count left (chunk_from plan c left) (chunk_count plan c left)

-- a command with the tag is in the queue
abbrev pub has_tag : ℕ → List Command → Bool
has_tag tag queued = list_any (λ q. q.tag == tag) queued

-- each command has 1 to 65,536 sectors, one of 32 tags, and a tag of its own
abbrev pub IsQueue : List Command → Type 0
IsQueue [] = Unit {0}
IsQueue (c ∷ cs) = IsCounted c × (c.tag < 32) × (has_tag c.tag cs ≡ false) × IsQueue cs

-- what is known about a command in the queue
pub record IsIn (queued : List Command) (c : Command) : Type 0 where
  pub some : 0 < c.count
  pub few : c.count ≤ 65536
  pub tag : c.tag < 32
  pub found : find (λ q. q.tag == c.tag) queued ≡ Some c
  pub has : has_tag c.tag queued ≡ true

-- the tag of the command that the answer ends
abbrev pub tag_of : Answer → Option ℕ
tag_of (Ended tag) = Some tag
tag_of _ = None

-- the tags of the commands that ended
abbrev pub ended_tags : List Answer → List ℕ
ended_tags owed = filter_map tag_of owed

-- the answers to a command or a reset, as the host waits for them
abbrev pub reply_of : Answer → Option Reply
reply_of Signature = Some Signs
reply_of Accepted = Some Accepts
reply_of Finished = Some Finishes
reply_of Refused = Some Refuses
reply_of (Ended tag) = None
reply_of PageFollows = Some ShowsPage
reply_of (PageData page) = None

-- those of a list of answers
abbrev pub replies : List Answer → List Reply
replies owed = filter_map reply_of owed

-- the page that the answer brings
abbrev pub page_of : Answer → Option Page
page_of (PageData page) = Some page
page_of _ = None

-- the pages that are owed
abbrev pub pages_of : List Answer → List Page
pages_of owed = filter_map page_of owed

-- the answer is the data of a page
abbrev pub is_page : Answer → Bool
is_page (PageData page) = true
is_page _ = false

-- the data of a page is owed
abbrev pub has_page : List Answer → Bool
has_page owed = list_any is_page owed

-- each is one of 32 tags
abbrev pub AreTags : List ℕ → Type 0
AreTags [] = Unit {0}
AreTags (t ∷ ts) = (t < 32) × AreTags ts

-- it names some of the done bytes: of n bytes so many are done, counted from below or from above
abbrev pub IsDone : (downwards : Bool) → (n done : ℕ) → Stretch → Type 0
IsDone true n done s = n - done ≤ s.at
IsDone false n done s = s.at + s.count ≤ done

-- the DMA Setups named exactly the bytes that have moved when left chunks are left
pub record AreSetUp (plan : DiskPlan) (c : Command) (left : ℕ) (setups : List Stretch) : Type 0 where
  pub among : All (IsDone plan.last_first (512 * c.count) (512 * moved_sectors plan c left)) setups
  pub named : bytes_named setups ≡ 512 * moved_sectors plan c left

-- the fault of the disk is the failure that the ledger has noted; a mixed queue and a command in reset leave none
abbrev pub IsNoted : DiskPlan → ℕ → Option Fault → Option Failure → Type 0
IsNoted plan sectors None None = Unit {0}
IsNoted plan sectors (Some Mixed) None = Unit {0}
IsNoted plan sectors (Some Held) None = Unit {0}
IsNoted plan sectors (Some (Failed tag error lba)) (Some f) = (c : Command) × (picked plan.order f.among ≡ Some c) × (tag ≡ c.tag) × Fails plan sectors c error lba × (f.error ≡ error)
IsNoted plan sectors _ _ = ⊥

-- a page is what the ledger wants
abbrev pub IsWanted : DiskPlan → ℕ → Page → Wanted → Type 0
IsWanted plan sectors (ErrorLog fault) (LogOf failure) = IsNoted plan sectors fault failure
IsWanted plan sectors Identity IdentifyData = Unit {0}
IsWanted plan sectors _ _ = ⊥

-- pages are what the ledger wants, one by one
abbrev pub AreWanted : DiskPlan → ℕ → List Page → List Wanted → Type 0
AreWanted plan sectors [] [] = Unit {0}
AreWanted plan sectors (p ∷ later) (w ∷ more) = IsWanted plan sectors p w × AreWanted plan sectors later more
AreWanted plan sectors _ _ = ⊥

-- the bytes of a read that have moved, and 0 for the others
abbrev pub moved_bytes : (downwards : Bool) → List ℕ → (n k : ℕ) → List ℕ
moved_bytes true s n k = from_back s n k
moved_bytes false s n k = from_front s n k

-- a command whose data moves
pub record IsMoving (plan : DiskPlan) (sectors : ℕ) (c : Command) (left : ℕ) (v : Moving) : Type 0 where
  pub same : v.command ≡ c
  pub more : 0 < left
  pub among : left ≤ chunks plan c
  pub inside : c.lba + c.count ≤ sectors
  pub some : 0 < c.count
  pub few : c.count ≤ 65536
  pub tag : c.tag < 32
  pub moved : v.moved ≡ 512 * moved_sectors plan c left

-- how far a read is with its next chunk: before its DMA Setup, or before its Data
abbrev pub ReadStage : DiskPlan → List ℕ → Command → ℕ → Moving → List Sending → Bool → Type 0
ReadStage plan medium c left v sends false = sends ≡ sends_left plan medium c left
ReadStage plan medium c left v sends true = (sends ≡ drop 1 (sends_left plan medium c left)) × (v.offset ≡ 512 * chunk_from plan c left) × (v.count ≡ 512 * chunk_count plan c left)

-- how many chunks are not set up
abbrev pub left_after : Bool → ℕ → ℕ
left_after true left = left - 1
left_after false left = left

-- a read is under way as the ledger has it
pub record IsReading (plan : DiskPlan) (sectors : ℕ) (medium : List ℕ) (s : Started) (v : Moving) (left : ℕ) (up : Bool) : Type 0 where
  pub moving : IsMoving plan sectors s.command left v
  pub reads : s.command.write ≡ false
  pub before : medium_with sectors v.before ≡ medium
  pub bytes : v.bytes ≡ moved_bytes plan.last_first (sectors_at medium s.command.lba s.command.count) (512 * s.command.count) (512 * moved_sectors plan s.command left)
  pub idle : v.active ≡ false
  pub stage : ReadStage plan medium s.command left v s.sends up
  pub setups : AreSetUp plan s.command (left_after up left) v.setups

-- how far a write is with its next chunk
pub data Stage : Type 0 where
  Fresh : Stage
  SetUp : Stage
  Asked : Stage

-- the last DMA Setup was that of the next chunk
abbrev pub IsSetUp : DiskPlan → Command → ℕ → Moving → Type 0
IsSetUp plan c left v = (v.offset ≡ 512 * chunk_from plan c left) × (v.count ≡ 512 * chunk_count plan c left)

-- what a write sends next, and what its last DMA Setup said
abbrev pub WriteStage : DiskPlan → Command → ℕ → Moving → List Sending → Stage → Type 0
WriteStage plan c left v sends Fresh = (sends ≡ asks_for plan c left) × (v.active ≡ false)
WriteStage plan c left v sends SetUp = (sends ≡ Activates ∷ []) × (v.active ≡ false) × IsSetUp plan c left v
WriteStage plan c left v sends Asked = (sends ≡ []) × (v.active ≡ true) × IsSetUp plan c left v

-- the next chunk is set up
abbrev pub is_set_up : Stage → Bool
is_set_up Fresh = false
is_set_up SetUp = true
is_set_up Asked = true

-- a write is under way as the ledger has it
pub record IsWriting (plan : DiskPlan) (sectors : ℕ) (w : Writing) (v : Moving) (at : Stage) : Type 0 where
  pub moving : IsMoving plan sectors w.command w.left v
  pub writes : w.command.write ≡ true
  pub bytes : v.bytes ≡ w.staged
  pub whole : length w.staged ≡ 512 * w.command.count
  pub stage : WriteStage plan w.command w.left v w.sends at
  pub setups : AreSetUp plan w.command (left_after (is_set_up at) w.left) v.setups

-- a command with the tag is in the queue, and no page waits
pub record IsHeld (queued : List Command) (owed : List Answer) (tag : ℕ) : Type 0 where
  pub has : has_tag tag queued ≡ true
  pub quiet : has_page owed ≡ false

-- the command whose data moves is the one that the ledger has
abbrev pub Moves : DiskPlan → ℕ → List ℕ → List Command → List Answer → Option Started → Option Writing → Option Moving → Type 0
Moves plan sectors medium queued owed None None None = Unit {0}
Moves plan sectors medium queued owed (Some s) None (Some v) = (left : ℕ) × (up : Bool) × IsReading plan sectors medium s v left up × IsHeld queued owed s.command.tag
Moves plan sectors medium queued owed None (Some w) (Some v) = (at : Stage) × IsWriting plan sectors w v at × IsHeld queued owed w.command.tag
Moves plan sectors medium queued owed _ _ _ = ⊥

-- the ledger of a run says what the disk is
pub record Agrees (plan : DiskPlan) (sectors : ℕ) (m : Moment) (l : Ledger) : Type 0 where
  pub outstanding : l.outstanding ≡ m.queued
  pub failed : l.failed ≡ is_some m.fault
  pub unanswered : l.unanswered ≡ ended_tags m.owed
  pub medium : m.medium ≡ medium_with sectors l.writes
  pub length_is : length m.medium ≡ 512 * sectors
  pub queue : IsQueue m.queued
  pub tags : AreTags (ended_tags m.owed)
  pub reads : All (IsRead sectors) l.reads
  pub moving : Moves plan sectors m.medium m.queued m.owed m.started m.writing l.moving
  pub failure : IsNoted plan sectors m.fault l.failure
  pub resetting : l.resetting ≡ m.resetting
  pub in_reset : l.in_reset ≡ is_held m.fault
  pub awaited : l.awaited ≡ replies m.owed
  pub pages : AreWanted plan sectors (pages_of m.owed) l.pages

-- a disk at a moment, by its parts
abbrev pub at : List ℕ → List Command → Option Fault → Bool → List Answer → Option Started → Option Writing → Moment
at medium queued fault resetting owed started writing = record {
  medium = medium;
  queued = queued;
  fault = fault;
  resetting = resetting;
  owed = owed;
  started = started;
  writing = writing;
}

-- what is known about the chunks of a disk
pub record IsSized (plan : DiskPlan) : Type 0 where
  pub low : 512 ≤ plan.chunk

-- the turn that starts a command
abbrev pub begun_by : DiskPlan → Moment → Command → Option Fault → Bool → Turn
begun_by plan m c None write = starts plan m c write
begun_by plan m c (Some f) write = begun plan m c (Some f)

-- a FIS that moves data
abbrev pub IsTransfer : Sending → Type 0
IsTransfer (SetsUp f) = Unit {0}
IsTransfer Activates = Unit {0}
IsTransfer (Carries bytes) = Unit {0}
IsTransfer _ = ⊥

-- what follows in each case in which these bytes are sent
pub record InEachCase (plan : DiskPlan) (sectors : ℕ) (queued : List Command) (owed : List Answer) (v : Option Moving) (b : List ℕ) (P : Type 0) : Type 0 where
  -- the oldest answer
  pub answers : (a : Answer) (later : List Answer) → owed ≡ a ∷ later → Shows (answer_sent sectors plan a) b → P
  -- a command that is to start fails
  pub fails : (c : Command) (f : Fault) → picked plan.order queued ≡ Some c → fault_of plan sectors c ≡ Some f → v ≡ None → Shows (report f) b → P
  -- a command starts
  pub starts : (c : Command) → picked plan.order queued ≡ Some c → IsIn queued c → fault_of plan sectors c ≡ None → v ≡ None → Shows (chunk_setup plan c (chunks plan c)) b → P
  -- a command goes on
  pub goes_on : (now : Moving) (x : Sending) → v ≡ Some now → IsTransfer x → Shows x b → P

-- the commands without those of a tag
abbrev pub but : ℕ → List Command → List Command
but tag cs = filter (λ q. not (q.tag == tag)) cs

-- a queued command was accepted
abbrev pub opened : Ledger → Command → Ledger
opened l c = awaits (record l { outstanding = l.outstanding ++ c ∷ [] }) Accepts

-- data that moved, after these bytes moved too
abbrev pub with_bytes : Moving → List ℕ → Moving
with_bytes v bytes = record v { bytes = put v.bytes v.offset bytes; moved = v.moved + length bytes; active = false }

-- all of it has moved
abbrev pub is_all : Moving → Bool
is_all v = v.moved == 512 * v.command.count

-- the ledger after the data of a command: the command ends if all of it has moved
abbrev pub after_bytes : Ledger → Moving → (all write : Bool) → Ledger
after_bytes l v true write = ends l v write
after_bytes l v false write = record l { moving = Some v }

-- what a command leaves
abbrev pub alone : Ledger → Request → Ledger
alone l (Reset on) = l
alone l (Queue c) = opened l c
alone l ReadErrorLog = record (awaits_page l (LogOf l.failure)) { failed = false; failure = None }
alone l Identify = awaits_page l IdentifyData
alone l Flush = awaits l Finishes
alone l Other = awaits l Refuses

-- each of these FISes fits what is told before it
abbrev pub AreFit : Ledger → List (List ℕ) → Type 0
AreFit l [] = Unit {0}
AreFit l (bytes ∷ later) = Fits l (seen bytes) × AreFit (listens l (Received bytes)) later

-- these tags are apart, and no outstanding command has one of them
abbrev pub AreApart : Ledger → List ℕ → Type 0
AreApart l [] = Unit {0}
AreApart l (u ∷ us) = (has u us ≡ false) × (has_tag u l.outstanding ≡ false) × MovesOther u l.moving × AreApart l us

-- what a FIS to the host leaves of the ledger
pub record UpLeaves (l : Ledger) (s : Result Fis FisFault) : Type 0 where
  pub after : Ledger
  pub is : listens_up l s ≡ after
  pub writes : after.writes ≡ l.writes
  pub apart : AreApart l l.unanswered → AreApart after after.unanswered
  pub free : (tag : ℕ) → IsFree l tag → IsFree after tag

-- a happening fits what is told before it
abbrev pub FitsOne : Ledger → Happening → Type 0
FitsOne l (Received bytes) = Fits l (seen bytes)
FitsOne l (Sent bytes) = Unit {0}
FitsOne l Plugged = Unit {0}
FitsOne l (Loaded bytes) = ⊥

-- the ledgers of both ends of a link are one, but for the FISes on their way
pub record Ties (disk host : List Happening) (down up : List (List ℕ)) : Type 0 where
  pub same : with_up (ledger host) up ≡ with_down (ledger disk) down
  pub right : AreRight (ledger host) up
  pub fit : AreFit (ledger disk) down
  pub apart : AreApart (ledger host) (ledger host).unanswered
