-- A flush reaches what was written before: where the guest saw a write completed, queued or not, and then a FLUSH CACHE, the disk's caller answered a flush
-- well that was asked for after the stores of the write were answered (AHCI 1.3.1, 3.3.13, PxSACT, and 3.3.14, PxCI; Serial ATA 3.x, 10.5, Set Device Bits
-- and Register Device to Host; ACS-3, 7.10, FLUSH CACHE, and 7.11, FLUSH CACHE EXT).
use Rattle.std.specs.Prelude.{ℕ, ◌≡◌, ◌<◌, Bool, true, List, [], ◌∷◌, ◌++◌, Some, None}
use Rattle.fis_view.specs.Frames.{Stamped}
use Rattle.slots.specs.Slots.{Issue}
use Rattle.block_disk.specs.Laws.{Page}
use Rattle.controller_laws.specs.Events.{Event}
use Rattle.block_engine.specs.declared.request.{Answer.TheVariants.Done, Request.Request}
use Rattle.block_engine.specs.declared.request.What.TheVariants as what
use Rattle.ata_reply.specs.declared.reply.Reply.TheVariants as replies
use Rattle.disk_pages.specs.declared.profile.Profile.{Profile}
use Rattle.sata_disk.specs.{State.new_disk, declared.out.Out.Out}
use Rattle.sata_disk.specs.declared.out.Out.TheVariants as out
use Rattle.sata_disk_books.specs.Books.{page_in}
use Rattle.sata_disk_laws.specs.{Calls.{Answers, AreCalls, Asks, Call, Sends}, Laws.reached}
use Rattle.sata_disk_media.specs.{Cells.{covers, sector_of}, Laws.{AreSparing, EndsWell}, Media.store_bytes}
use Rattle.ahci_machine.specs.{States.{MachineState, bay_at}, declared.bay.Unit.TheVariants.Disk}
use Rattle.machine_laws.specs.{ControllerLaws.{RunsRuled, calls_in}, Deeds.Deed}
use Rattle.machine_theorem.specs.{Completions.IsDone, FirstDeeds.{first_deeds, first_run, machine_at}, Flushes.{IsFlushDone, OfSingles}}
use Rattle.machine_theorem.specs.{Ending.{AllKeepEnding, AllUnqueued}, Flushing.is_flushing, Identity.{calls_of, is_left}, PioIn.IsDoneThere}

-- ---- the write

-- By these calls a disk said that the write of a page ended well: by Set Device Bits of a queued one, else by a Register FIS. Then came others.
pub record HasEnded (p : Profile) (limit : ℕ) (calls : List Call) (written : Page) : Type 0 where
  pub ended : List Call
  pub end : Out
  pub later : List Call
  pub is : calls ≡ ended ++ Sends end ∷ later
  pub place : ℕ
  pub ends : EndsWell end place
  pub page : page_in p limit ended place ≡ Some written
  pub writes : written.command.write ≡ true

-- ---- the write that the guest saw completed

-- The write of a page is the command that the disk ended well, and whose bit fell behind a stretch: of PxSACT, as `completions_are_of_their_slots` says of a
-- queued one; or of PxCI, as `unqueued_commands_are_of_their_slots` says of one that is not queued.
pub data WasCompleted (n : ℕ) (old : MachineState) (before : List Deed) (at : MachineState) (first : RunsRuled old before at) (deeds : List Deed)
    (now : MachineState) (run : RunsRuled at deeds now) (p : Profile) (limit : ℕ) (base : List Call) (written : Page) : Type 0 where
  Queued : (many : Bool) (tag : ℕ) (f : Stamped) → tag < 32 → (done : IsDone many n tag old before at first deeds now run p limit base f)
      → done.page ≡ written → WasCompleted n old before at first deeds now run p limit base written
  Single : (dev slot : ℕ) (issue : Issue) (f : Stamped) → (done : IsDoneThere n dev slot old before at first deeds now run p limit base issue f)
      → (said : done.said ≡ out.Of 32 replies.Done) → (done.slots said).page ≡ written → WasCompleted n old before at first deeds now run p limit base written

-- It was behind a stretch of the run that led to this machine. The calls of the disk until now are those before this stretch, those of it, and those since.
pub record WasWritten (n : ℕ) (old now : MachineState) (p : Profile) (limit : ℕ) (calls : List Call) (written : Page) : Type 0 where
  pub before : List Deed
  pub at : MachineState
  pub first : RunsRuled old before at
  pub deeds : List Deed
  pub seen : MachineState
  pub run : RunsRuled at deeds seen
  pub base : List Call
  pub completed : WasCompleted n old before at first deeds seen run p limit base written
  pub writes : written.command.write ≡ true
  pub since : List Deed
  pub rest : RunsRuled seen since now
  pub are : calls ≡ base ++ calls_of n at deeds seen run ++ calls_of n seen since now rest

-- ---- what was flushed

-- By these calls the disk asked for a store that has the bytes which came for a sector of the write, and the caller answered it: it is done. Behind that the
-- disk said that the write ended well; and behind that it asked for a flush, and the caller answered this very request: it is done.
pub record IsStoredAndFlushed (p : Profile) (limit : ℕ) (calls : List Call) (written : Page) (s : ℕ) : Type 0 where
  pub before : List Call
  pub store : Request
  pub storing : List Call
  pub stored : List Call
  pub end : Out
  pub between : List Call
  pub flush : Request
  pub flushing : List Call
  pub after : List Call
  pub is : calls ≡ before ++ Asks store ∷ storing ++ Answers store.number Done ∷ stored ++ Sends end ∷ between
      ++ Asks flush ∷ flushing ++ Answers flush.number Done ∷ after
  -- the store
  pub lba : ℕ
  pub count : ℕ
  pub stores : store.what ≡ what.Store lba count
  pub covered : covers lba count s ≡ true
  pub holds : sector_of lba s (store_bytes (reached p limit before) store.place) ≡ sector_of written.command.lba s written.ledger.came
  -- the end: until then nothing else asked for a store or a discard of the sector
  pub place : ℕ
  pub ends : EndsWell end place
  pub page : page_in p limit (before ++ Asks store ∷ storing ++ Answers store.number Done ∷ stored) place ≡ Some written
  pub spared : AreSparing (reached p limit (before ++ Asks store ∷ [])) s (storing ++ Answers store.number Done ∷ stored)
  -- the flush
  pub flushes : flush.what ≡ what.Flush
  pub own : flush.place ≡ None

-- The command whose bit falls is as Flushes says.
pub record FlushesWrites (n dev slot : ℕ) (old : MachineState) (before : List Deed) (at : MachineState) (first : RunsRuled old before at) (deeds : List Deed)
    (now : MachineState) (run : RunsRuled at deeds now) (p : Profile) (limit : ℕ) (base : List Call) (issue : Issue) (f : Stamped) : Type 0 where
  pub flush : IsFlushDone n dev slot old before at first deeds now run p limit base issue f
  -- Take a write that the disk had ended well as it heard a FLUSH CACHE. Each of its sectors was stored as it came, and then flushed, before the disk said that
  -- the FLUSH CACHE ended.
  pub ended : is_flushing (flush.done.answers flush.answering).command.bytes ≡ true
      → (written : Page) → HasEnded p limit (base ++ (flush.done.answers flush.answering).command.front) written
      → (s : ℕ) → covers written.command.lba written.command.count s ≡ true
      → IsStoredAndFlushed p limit (base ++ calls_of n at flush.done.sooner flush.done.mid flush.done.led) written s
  -- Such a write is each that the guest had seen completed as the stretch began.
  pub seen : is_flushing (flush.done.answers flush.answering).command.bytes ≡ true
      → (written : Page) → WasWritten n old at p limit base written → (s : ℕ) → covers written.command.lba written.command.count s ≡ true
      → IsStoredAndFlushed p limit (base ++ calls_of n at flush.done.sooner flush.done.mid flush.done.led) written s
  -- And so is each that it had seen completed at a moment of the stretch, before the FIS of the FLUSH CACHE went from its slot: behind the first k deeds.
  pub here : is_flushing (flush.done.answers flush.answering).command.bytes ≡ true
      → (k : ℕ) (since : List Event) → (flush.done.answers flush.answering).slots.ordered.before
      ≡ calls_in at (first_deeds k deeds) (machine_at k at deeds now run) (first_run k at deeds now run) ++ since
      → (written : Page) → WasWritten n old (machine_at k at deeds now run) p limit
      (base ++ calls_of n at (first_deeds k deeds) (machine_at k at deeds now run) (first_run k at deeds now run)) written
      → (s : ℕ) → covers written.command.lba written.command.count s ≡ true
      → IsStoredAndFlushed p limit (base ++ calls_of n at flush.done.sooner flush.done.mid flush.done.led) written s

-- ---- the laws

abbrev pub FlushesFollowWrites : Type 0
FlushesFollowWrites = OfSingles AllKeepEnding FlushesWrites

abbrev pub PlainFlushesFollowWrites : Type 0
PlainFlushesFollowWrites = OfSingles AllUnqueued FlushesWrites

-- ---- the calls of a disk from one stretch to the next

-- nothing is put at the port or taken from it
abbrev pub AreLeft : ℕ → List Deed → Type 0
AreLeft n [] = Unit {0}
AreLeft n (deed ∷ later) = (is_left n deed ≡ true) × AreLeft n later

pub record IsReachedStill (n : ℕ) (now : MachineState) (p : Profile) (limit : ℕ) (calls : List Call) : Type 0 where
  pub are : AreCalls (new_disk p limit) calls
  pub there : (bay_at now n).unit ≡ Disk (reached p limit calls)

-- A disk that some calls of a new one led to is, behind these deeds, the one that its calls by them lead to from there.
abbrev pub DisksAreReachedStill : Type 0
DisksAreReachedStill = (n : ℕ) (at : MachineState) (p : Profile) (limit : ℕ) (base : List Call) → IsReachedStill n at p limit base
    → (deeds : List Deed) (seen : MachineState) (run : RunsRuled at deeds seen) → AreLeft n deeds
    → (since : List Deed) (now : MachineState) (rest : RunsRuled seen since now) → AreLeft n since
    → IsReachedStill n now p limit (base ++ calls_of n at deeds seen run ++ calls_of n seen since now rest)
