-- The books of a disk at one moment of a run: of each place the command that was taken last there, and what was asked, answered, sent and
-- heard for it since (`block_disk`, `block_command`). They know nothing of the disk's own state.
use Rattle.std.specs.Prelude.{ℕ, ◌≡◌, ◌++◌, List, [], ◌∷◌, Option, Some, None, Ok}
use Rattle.fis_view.specs.Seen.{seen}
use Rattle.fis_view.specs.declared.view.Fis.TheVariants as view
use Rattle.block_command.specs.{Laws.Ledger, declared.command.Command.Command}
use Rattle.block_disk.specs.{Laws.{Page, at_page}, Requests.{Books, Seen, entered_by, no_books}}
use Rattle.block_queue.specs.Line.{command_at}
use Rattle.ata_command.specs.declared.asked.Asked.TheVariants as ask
use Rattle.ata_command.specs.declared.asked.Move.{Move}
use Rattle.disk_pages.specs.declared.profile.Profile.{Profile}
use Rattle.sata_disk.specs.{Hearing.asked_of, Sending.{IsOut, part_at}, State.{commands, new_disk}}
use Rattle.sata_disk.specs.declared.out.Out.TheVariants as out
use Rattle.sata_disk_laws.specs.{Calls.{AreCalls, Call, Hears}, Laws.{reached, seen_in}}

-- the books behind what was seen
unfoldable pub books_after : Books → List Seen → Books
books_after b [] = b
books_after b (s ∷ later) = books_after (entered_by b s) later

-- the page of a place behind these calls of a new disk
abbrev pub page_in : Profile → (limit : ℕ) → List Call → (place : ℕ) → Option Page
page_in p limit calls place = at_page (books_after no_books (seen_in p limit calls)).pages place

-- These bytes come next, behind those that went, of what the caller gave for the sectors of the command.
pub record AreNext (l : Ledger) (part : List ℕ) : Type 0 where
  pub rest : List ℕ
  pub given : l.given ≡ l.sent ++ part ++ rest

-- of the command of a place
abbrev pub AreOfPage : Option Page → List ℕ → Type 0
AreOfPage None part = ⊥
AreOfPage (Some page) part = AreNext page.ledger part

-- In every run the Data FIS of a read that goes next has bytes that the caller gave for the sectors of its command, the next ones.
abbrev pub DataAreGiven : Type 0
DataAreGiven = (p : Profile) (limit : ℕ) (calls : List Call) (place n : ℕ) → AreCalls (new_disk p limit) calls
    → IsOut (reached p limit calls) (Some (out.Data place n))
    → AreOfPage (page_in p limit calls place) (part_at (command_at (commands (reached p limit calls)) place))

-- A FIS of the host was heard that asks for this command: its sectors, its direction and its place are those that the FIS says (ACS-3, 7;
-- `asked` in `ata_command`).
pub record IsAskedFor (p : Profile) (limit : ℕ) (calls : List Call) (c : Command) : Type 0 where
  pub before : List Call
  pub bytes : List ℕ
  pub later : List Call
  pub heard : calls ≡ before ++ Hears bytes ∷ later
  pub fis : List ℕ
  pub viewed : seen bytes ≡ Ok (view.RegH2D fis)
  pub move : Move
  pub asks : asked_of (reached p limit before) fis ≡ ask.Moves move
  pub is : c ≡ move.command

-- In every run the command of each page is one that the host asked for.
abbrev pub CommandsAreAsked : Type 0
CommandsAreAsked = (p : Profile) (limit : ℕ) (calls : List Call) (place : ℕ) (page : Page) → page_in p limit calls place ≡ Some page
    → IsAskedFor p limit calls page.command
