-- What a caller knows of the FIS that goes next, whatever run led to the disk.
use Rattle.std.specs.Prelude.{ℕ, ◌≡◌, ◌<◌, true, List, Option, Some, None}
use Rattle.block_disk.specs.Laws.{Page}
use Rattle.block_queue.specs.Line.{command_at}
use Rattle.disk_pages.specs.declared.profile.Profile.{Profile}
use Rattle.sata_disk.specs.{Sending.part_at, State.{DiskState, commands}, declared.out.Out.Out}
use Rattle.sata_disk.specs.declared.out.Out.TheVariants as out
use Rattle.sata_disk_laws.specs.Calls.{Call}
use Rattle.sata_disk_books.specs.Books.{page_in}
use Rattle.sata_disk_media.specs.{Cells.{covers, sector_of}, Laws.{EndsWell, HasGiven, IsBehindWrite, IsReadBack, sector_in}, Media.{IsHonest, kept}}
use Rattle.sata_disk_media.specs.Settled.{IsSettled}
use Rattle.uses_sata_disk.specs.Reached.{IsReached}

-- where it is Data: at each sector of a write that ended before their command was heard they have its bytes
abbrev pub BringsWhatIsWritten : DiskState → Option Out → Type 0
BringsWhatIsWritten d (Some (out.Data place n)) = (p : Profile) (limit : ℕ) (calls : List Call) (s : ℕ) (written read : Page)
    → IsReached p limit calls d → IsHonest p limit calls → IsReadBack p limit calls place n s written read
    → sector_in read (part_at (command_at (commands d) place)) s ≡ sector_of written.command.lba s written.ledger.came
BringsWhatIsWritten d _ = Unit {0}

-- where it says that a write ended well: the medium keeps its bytes
abbrev pub KeepsWhatIsWritten : DiskState → Option Out → Type 0
KeepsWhatIsWritten d None = Unit {0}
KeepsWhatIsWritten d (Some o) = (p : Profile) (limit : ℕ) (calls : List Call) (place s : ℕ) (written : Page)
    → IsReached p limit calls d → EndsWell o place → page_in p limit calls place ≡ Some written → written.command.write ≡ true
    → covers written.command.lba written.command.count s ≡ true → kept p limit calls s ≡ Some (sector_of written.command.lba s written.ledger.came)

-- what was given for a read: at each sector of a write that ended before its command was heard it is the write's
abbrev pub IsGivenWhatIsWritten : DiskState → Type 0
IsGivenWhatIsWritten d = (p : Profile) (limit : ℕ) (calls : List Call) (place s : ℕ) (written read : Page) → place < 33
    → IsReached p limit calls d → IsHonest p limit calls → IsBehindWrite p limit calls place s written → page_in p limit calls place ≡ Some read
    → HasGiven read s → sector_of read.command.lba s read.ledger.given ≡ sector_of written.command.lba s written.ledger.came

-- where it says that a write ended well: nothing is out that has a sector of it
abbrev pub SettlesWhatIsWritten : DiskState → Option Out → Type 0
SettlesWhatIsWritten d None = Unit {0}
SettlesWhatIsWritten d (Some o) = (p : Profile) (limit : ℕ) (calls : List Call) (place s : ℕ) (written : Page)
    → IsReached p limit calls d → EndsWell o place → page_in p limit calls place ≡ Some written → written.command.write ≡ true
    → covers written.command.lba written.command.count s ≡ true → IsSettled p limit calls s
