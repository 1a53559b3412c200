-- What the books have of a command as the FIS goes that says that it ended well, and which place a command has (Serial ATA 3.x, 10.5, Set Device
-- Bits and Register Device to Host, and 13.6, native command queuing).
use Rattle.std.specs.Prelude.{ℕ, ◌≡◌, ◌<◌, ◌/◌, ◌%◌, true, List, Option, Some, None}
use Rattle.fis_view.specs.Table.{H2d, Count, field}
use Rattle.block_command.specs.Laws.{IsEarned}
use Rattle.block_disk.specs.Laws.{Page}
use Rattle.block_queue.specs.Line.{has_bit}
use Rattle.ata_reply.specs.declared.reply.Reply.{Reply}
use Rattle.ata_reply.specs.declared.reply.Reply.TheVariants as replies
use Rattle.ata_command.specs.declared.asked.Asked.TheVariants as ask
use Rattle.ata_command.specs.declared.asked.Move.{Move}
use Rattle.disk_pages.specs.declared.profile.Profile.{Profile}
use Rattle.sata_disk.specs.{Hearing.asked_of, Sending.{IsFis, IsOut}, State.{DiskState, new_disk}, declared.out.Out.Out}
use Rattle.sata_disk.specs.declared.out.Out.TheVariants as out
use Rattle.sata_disk_laws.specs.{Calls.{AreCalls, Call}, Laws.reached}
use Rattle.sata_disk_books.specs.Books.{page_in}

-- The command of a page has earned its end: of a read all bytes were given for its sectors, and all were sent; of a write all that came were
-- stored, and flushed where they are to last.
abbrev pub HasEarned : Option Page → Type 0
HasEarned None = ⊥
HasEarned (Some page) = IsEarned page.command page.ledger page.command.write

-- In every run each tag in the Set Device Bits FIS that goes next is the place of a command that has.
abbrev pub EndsAreOfPages : Type 0
EndsAreOfPages = (p : Profile) (limit : ℕ) (calls : List Call) (tags : ℕ) → AreCalls (new_disk p limit) calls
    → IsOut (reached p limit calls) (Some (out.Ends tags)) → (tag : ℕ) → tag < 32 → has_bit tags tag ≡ true
    → HasEarned (page_in p limit calls tag)

-- So has the command of a place as the Register FIS goes that says that it ended well.
abbrev pub SinglesAreOfPages : Type 0
SinglesAreOfPages = (p : Profile) (limit : ℕ) (calls : List Call) (place : ℕ) (fis : List ℕ) → AreCalls (new_disk p limit) calls
    → IsOut (reached p limit calls) (Some (out.Of place replies.Done)) → IsFis (reached p limit calls) (out.Of place replies.Done) fis
    → HasEarned (page_in p limit calls place)

-- the page of a place is that of a command of this place
abbrev pub PagesAreOfPlaces : Type 0
PagesAreOfPlaces = (p : Profile) (limit : ℕ) (calls : List Call) (place : ℕ) (page : Page) → page_in p limit calls place ≡ Some page
    → page.command.place ≡ place

-- the place of a queued command is the tag in its FIS, Count 7:3
abbrev pub PlacesAreTags : Type 0
PlacesAreTags = (d : DiskState) (f : List ℕ) (move : Move) → asked_of d f ≡ ask.Moves move → move.command.place < 32
    → move.command.place ≡ field H2d Count f % 256 / 8

abbrev pub IsNoEnd : Reply → Type 0
IsNoEnd (replies.Ends tags) = ⊥
IsNoEnd other = Unit {0}

abbrev pub NamesNone : Out → Type 0
NamesNone (out.Own r) = IsNoEnd r
NamesNone (out.Beside r) = IsNoEnd r
NamesNone (out.Of place r) = IsNoEnd r
NamesNone other = Unit {0}

-- In every run no other FIS of a disk says that a queued command ended well.
abbrev pub OnlyEndsEnd : Type 0
OnlyEndsEnd = (p : Profile) (limit : ℕ) (calls : List Call) (o : Out) → IsOut (reached p limit calls) (Some o) → NamesNone o
