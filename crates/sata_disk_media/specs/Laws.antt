-- Read after write, over every run of a disk.
use Rattle.std.specs.Prelude.{ℕ, ◌≡◌, ◌+◌, ◌-◌, ◌*◌, ◌<◌, ◌≤◌, Bool, true, false, List, [], ◌∷◌, ◌++◌, length, take, drop, Option, Some, None, Ok}
use Rattle.fis_view.specs.Seen.{seen}
use Rattle.fis_view.specs.declared.view.Fis.TheVariants as view
use Rattle.block_command.specs.declared.command.Command.{Command}
use Rattle.block_disk.specs.Laws.{Page}
use Rattle.block_engine.specs.{declared.request.{Answer.Answer, Range.Range, Request.Request, What.What}, Aside.is_waiting, Engine.is_discard}
use Rattle.block_engine.specs.declared.request.What.TheVariants as what
use Rattle.block_queue.specs.Line.{command_at, has_bit}
use Rattle.ata_front.specs.declared.task.Act.TheVariants as act
use Rattle.disk_pages.specs.declared.profile.Profile.{Profile}
use Rattle.sata_disk.specs.{Hearing.register_told, Sending.{IsOut, part_at}, State.{DiskState, commands, is_taken, new_disk}, declared.out.Out.Out}
use Rattle.ata_reply.specs.declared.reply.Reply.TheVariants as replies
use Rattle.sata_disk.specs.declared.out.Out.TheVariants as out
use Rattle.sata_disk_laws.specs.{Calls.{AreCalls, Answers, Asks, Call, Hears, IsCall, Sends, after_call}, Laws.reached}
use Rattle.sata_disk_books.specs.Books.{page_in}
use Rattle.sata_disk_media.specs.{Cells.{covers, in_ranges, sector_of}, Media.{IsHonest, kept}}

-- ## What a load brings

-- nothing was asked for or given for the command of the page
abbrev pub IsUnread : Option Page → Type 0
IsUnread None = Unit {0}
IsUnread (Some g) = (g.ledger.given ≡ []) × (g.ledger.wanting ≡ None)

-- the Data of a command that go next
abbrev pub next_data : Profile → (limit : ℕ) → List Call → (place : ℕ) → List ℕ
next_data p limit calls place = part_at (command_at (commands (reached p limit calls)) place)

-- the sector is whole in these Data, which go behind those that went
pub record HasSector (g : Page) (data' : List ℕ) (s : ℕ) : Type 0 where
  pub first : g.command.lba * 512 + length g.ledger.sent ≤ s * 512
  pub last : s * 512 + 512 ≤ g.command.lba * 512 + length g.ledger.sent + length data'

-- its bytes there
abbrev pub sector_in : Page → List ℕ → (s : ℕ) → List ℕ
sector_in g data' s = take 512 (drop (s * 512 - (g.command.lba * 512 + length g.ledger.sent)) data')

-- an answer of the later calls brought these bytes, and they are what was kept then, where that is known
pub record IsBrought (p : Profile) (limit : ℕ) (first later : List Call) (s : ℕ) (bytes : List ℕ) : Type 0 where
  pub before : List Call
  pub number : ℕ
  pub answer : Answer
  pub after : List Call
  pub answered : later ≡ before ++ Answers number answer ∷ after
  pub same : (b : List ℕ) → kept p limit (first ++ before) s ≡ Some b → bytes ≡ b

-- In every run with an honest medium each whole sector of a Data FIS of a read that goes next has the bytes that were kept as the load that
-- brought it was answered. The command had nothing behind the first calls, so this load was answered later.
abbrev pub LoadsBringWhatIsKept : Type 0
LoadsBringWhatIsKept = (p : Profile) (limit : ℕ) (first later : List Call) (place n s : ℕ) (g : Page)
    → AreCalls (new_disk p limit) (first ++ later) → IsHonest p limit (first ++ later) → IsUnread (page_in p limit first place)
    → IsOut (reached p limit (first ++ later)) (Some (out.Data place n)) → page_in p limit (first ++ later) place ≡ Some g
    → HasSector g (next_data p limit (first ++ later) place) s
    → IsBrought p limit first later s (sector_in g (next_data p limit (first ++ later) place) s)

-- ## What a write leaves

-- the FIS says that the command of this place ended well: Set Device Bits of a queued command, else a Register FIS
abbrev pub EndsWell : Out → (place : ℕ) → Type 0
EndsWell (out.Ends tags) place = (place < 32) × (has_bit tags place ≡ true)
EndsWell (out.Of q replies.Done) place = q ≡ place
EndsWell _ place = ⊥

-- In every run, as the FIS goes that says that a write ended well, the medium keeps at each of its sectors the bytes that came for it.
abbrev pub WritesAreKept : Type 0
WritesAreKept = (p : Profile) (limit : ℕ) (calls : List Call) (o : Out) (place s : ℕ) (g : Page)
    → AreCalls (new_disk p limit) calls → IsOut (reached p limit calls) (Some o) → EndsWell o place
    → page_in p limit calls place ≡ Some g → g.command.write ≡ true → covers g.command.lba g.command.count s ≡ true
    → kept p limit calls s ≡ Some (sector_of g.command.lba s g.ledger.came)

-- the request is of a write in the books that has this sector, and is under way
pub record IsOfWrite (p : Profile) (limit : ℕ) (calls : List Call) (r : Request) (s : ℕ) : Type 0 where
  pub place : ℕ
  pub at' : r.place ≡ Some place
  pub page : Page
  pub has : page_in p limit calls place ≡ Some page
  pub writes : page.command.write ≡ true
  pub covered : covers page.command.lba page.command.count s ≡ true
  pub taken : is_taken (commands (reached p limit calls)) place ≡ true

-- In every run a store of a sector is asked for only for a write in the books that has it. A FIS of the host asked for that write
-- (`commands_are_asked`), and its sectors are those that the FIS says.
abbrev pub StoresAreOfWrites : Type 0
StoresAreOfWrites = (p : Profile) (limit : ℕ) (calls : List Call) (r : Request) (lba count s : ℕ) → AreCalls (new_disk p limit) calls
    → IsCall (reached p limit calls) (Asks r) → r.what ≡ what.Store lba count → covers lba count s ≡ true → IsOfWrite p limit calls r s

-- ## Read after write

-- what is asked for is no store and no discard of the sector
abbrev pub touches : (s : ℕ) → What → List Range → Bool
touches s (what.Store lba count) ranges = covers lba count s
touches s what.Discard ranges = in_ranges ranges s
touches s _ ranges = false

abbrev pub Spares : DiskState → (s : ℕ) → Call → Type 0
Spares d s (Asks r) = touches s r.what d.engine.ranges ≡ false
Spares d s _ = Unit {0}

-- none of these calls asks for a store or a discard of the sector
abbrev pub AreSparing : DiskState → (s : ℕ) → List Call → Type 0
AreSparing d s [] = Unit {0}
AreSparing d s (c ∷ later) = Spares d s c × AreSparing (after_call d c) s later

-- the FIS is of a command that the disk takes at this place
pub record IsTakenAt (d : DiskState) (bytes : List ℕ) (place : ℕ) : Type 0 where
  pub fis : List ℕ
  pub viewed : seen bytes ≡ Ok (view.RegH2D fis)
  pub command : Command
  pub takes : (register_told d fis).act ≡ act.Takes command
  pub place' : command.place ≡ place
  pub free : is_taken (commands d) place ≡ false

-- ## Where no other write is under way

-- no write that has the sector is under way, and no discard waits to be asked for
pub record IsUndisturbed (p : Profile) (limit : ℕ) (calls : List Call) (s : ℕ) : Type 0 where
  pub writes : (place : ℕ) (g : Page) → page_in p limit calls place ≡ Some g → g.command.write ≡ true → covers g.command.lba g.command.count s ≡ true
      → is_taken (commands (reached p limit calls)) place ≡ false
  pub discards : is_discard (reached p limit calls).engine.kind ≡ true → is_waiting (reached p limit calls).engine.stage ≡ false

-- In every run, where at each moment of some calls no write that has a sector is under way and no discard waits, none of them asks for a
-- store or a discard of it. So what happens in between is told by commands.
abbrev pub UndisturbedIsSpared : Type 0
UndisturbedIsSpared = (p : Profile) (limit : ℕ) (first later : List Call) (s : ℕ) → AreCalls (new_disk p limit) (first ++ later)
    → ((before after : List Call) → later ≡ before ++ after → IsUndisturbed p limit (first ++ before) s) → AreSparing (reached p limit first) s later

-- Behind the first calls the FIS goes that ends a write well. Then come others, and a FIS that asks for a read at this place, and others. In between no other
-- store and no discard of a sector of the write is asked for.
pub record IsBehindWrite (p : Profile) (limit : ℕ) (calls : List Call) (place s : ℕ) (written : Page) : Type 0 where
  pub first : List Call
  pub end : Out
  pub middle : List Call
  pub bytes : List ℕ
  pub last : List Call
  pub is : calls ≡ first ++ Sends end ∷ middle ++ Hears bytes ∷ last
  pub from : ℕ
  pub ends : EndsWell end from
  pub page : page_in p limit first from ≡ Some written
  pub writes : written.command.write ≡ true
  pub covered : covers written.command.lba written.command.count s ≡ true
  pub taken : IsTakenAt (reached p limit (first ++ Sends end ∷ middle)) bytes place
  pub sparing : AreSparing (reached p limit first) s (Sends end ∷ middle ++ Hears bytes ∷ last)

-- Data of this place go next that have a sector of the write.
pub record IsReadBack (p : Profile) (limit : ℕ) (calls : List Call) (place n s : ℕ) (written : Page) (read : Page) : Type 0 where
  pub behind : IsBehindWrite p limit calls place s written
  pub goes : IsOut (reached p limit calls) (Some (out.Data place n))
  pub reads : page_in p limit calls place ≡ Some read
  pub has : HasSector read (next_data p limit calls place) s

-- In every run with an honest medium a read that was heard after the end of a write went brings the bytes that came for the write, at each
-- sector of which no other store and no discard was asked for in between.
abbrev pub ReadsBringWrites : Type 0
ReadsBringWrites = (p : Profile) (limit : ℕ) (calls : List Call) (place n s : ℕ) (written read : Page)
    → AreCalls (new_disk p limit) calls → IsHonest p limit calls → IsReadBack p limit calls place n s written read
    → sector_in read (next_data p limit calls place) s ≡ sector_of written.command.lba s written.ledger.came

-- the caller gave the whole sector for the command
pub record HasGiven (g : Page) (s : ℕ) : Type 0 where
  pub first : g.command.lba ≤ s
  pub last : (s - g.command.lba) * 512 + 512 ≤ length g.ledger.given

-- In every run with an honest medium each whole sector of what was given for such a read has these bytes, whether its Data went or not.
abbrev pub GivenIsWritten : Type 0
GivenIsWritten = (p : Profile) (limit : ℕ) (calls : List Call) (place s : ℕ) (written read : Page) → place < 33
    → AreCalls (new_disk p limit) calls → IsHonest p limit calls → IsBehindWrite p limit calls place s written
    → page_in p limit calls place ≡ Some read → HasGiven read s
    → sector_of read.command.lba s read.ledger.given ≡ sector_of written.command.lba s written.ledger.came
