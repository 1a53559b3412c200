-- Where the bytes of the host's Data stand in the queued command for which a disk takes them (Serial ATA 3.x, 10.5, DMA Setup, DMA Activate and Data,
-- and 13.6, native command queuing). One DMA Setup FIS goes for all Data of a command, with its tag and offset 0.
use Rattle.std.specs.Prelude.{ℕ, ◌≡◌, ◌<◌, ◌⊎◌, Bool, true, false, List, [], ◌∷◌, ◌++◌, drop, length, Option, Some, None, if◌then◌else◌, Result, Ok}
use Rattle.fis_view.specs.{Seen.seen, declared.view.{Fis.Fis, FisFault.FisFault}}
use Rattle.fis_view.specs.declared.view.Fis.TheVariants as view
use Rattle.block_disk.specs.Laws.{Page}
use Rattle.block_queue.specs.Line.{command_at}
use Rattle.ata_front.specs.Fronts.{heard_data}
use Rattle.disk_pages.specs.declared.profile.Profile.{Profile}
use Rattle.sata_disk.specs.{Hearing.receives, State.{DiskState, commands, data_place, new_disk}, declared.out.Out.Out}
use Rattle.sata_disk.specs.declared.out.Out.TheVariants as out
use Rattle.sata_disk_laws.specs.{Calls.{AreCalls, Call, Hears, Sends, after_call}, Laws.reached}
use Rattle.sata_disk_books.specs.{Books.page_in, Counted.{Counted, more_by, set_up_by}}

-- Data that come now are taken for a command: it awaits them, and a DATA SET MANAGEMENT does not
abbrev pub is_awaited : DiskState → Option ℕ → Bool
is_awaited d None = receives (command_at (commands d) (data_place (commands d)))
is_awaited d (Some blocks) = false

abbrev pub awaits : DiskState → Bool
awaits d = is_awaited d (heard_data d.front.task)

-- the tag in the DMA Setup FIS that was sent last, and how many bytes of Data were taken since, all for commands
abbrev pub set_up_out : Out → Option Counted → Option Counted
set_up_out (out.Of p r) was = set_up_by r was
set_up_out other was = was

abbrev pub taken_fis : DiskState → Result Fis FisFault → Option Counted → Option Counted
taken_fis d (Ok (view.Payload f)) was = if awaits d then more_by (length (drop 4 f)) was else was
taken_fis d other was = was

abbrev pub taken_call : DiskState → Call → Option Counted → Option Counted
taken_call d (Sends o) was = set_up_out o was
taken_call d (Hears f) was = taken_fis d (seen f) was
taken_call d other was = was

unfoldable pub taken_after : DiskState → Option Counted → List Call → Option Counted
taken_after d was [] = was
taken_after d was (c ∷ later) = taken_after (after_call d c) (taken_call d c was) later

-- Data that come next are for the place. The DMA Setup FIS that was sent last named it, and the books have so many bytes as came for its command as were
-- taken since.
pub record AreTakenFor (d : DiskState) (page : Option Page) (place : ℕ) (told : Option Counted) : Type 0 where
  pub next : data_place (commands d) ≡ place
  pub of : Page
  pub is : page ≡ Some of
  pub counts : told ≡ Some (record { tag = place; count = length of.ledger.came })

-- In every run it is so while the queued command of a place awaits Data; from whatever moment on one counts, if there was a DMA Setup FIS since.
abbrev pub DataAreTaken : Type 0
DataAreTaken = (p : Profile) (limit : ℕ) (base calls : List Call) (place : ℕ) → AreCalls (new_disk p limit) (base ++ calls) → place < 32
    → receives (command_at (commands (reached p limit (base ++ calls))) place) ≡ true
    → (taken_after (reached p limit base) None calls ≡ None)
    ⊎ AreTakenFor (reached p limit (base ++ calls)) (page_in p limit (base ++ calls) place) place (taken_after (reached p limit base) None calls)

abbrev pub AllDataAreTaken : Type 0
AllDataAreTaken = (p : Profile) (limit : ℕ) (calls : List Call) (place : ℕ) → AreCalls (new_disk p limit) calls → place < 32
    → receives (command_at (commands (reached p limit calls)) place) ≡ true
    → AreTakenFor (reached p limit calls) (page_in p limit calls place) place (taken_after (new_disk p limit) None calls)
