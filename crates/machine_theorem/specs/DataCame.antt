-- What came for a command that is not queued, as its disk says that it ended well: the payload of Data that the disk heard behind this command, in order
-- (ACS-3, 4, DMA and PIO data-out protocols; Serial ATA 3.x, 10.5, Data and Register Device to Host).
use Rattle.std.specs.{Prelude.{ℕ, ◌≡◌, List, ◌∷◌, ◌++◌, Some, Ok}, List.All}
use Rattle.fis_view.specs.Seen.{seen}
use Rattle.fis_view.specs.declared.view.Fis.TheVariants as view
use Rattle.block_disk.specs.Laws.{Page}
use Rattle.ata_reply.specs.declared.reply.Reply.TheVariants as replies
use Rattle.disk_pages.specs.declared.profile.Profile.{Profile}
use Rattle.sata_disk.specs.{Sending.IsOut, State.new_disk}
use Rattle.sata_disk.specs.declared.out.Out.TheVariants as out
use Rattle.sata_disk_books.specs.Books.{IsAskedFor, page_in}
use Rattle.sata_disk_laws.specs.{Calls.{AreCalls, Call, Hears}, Laws.reached, Once.{host_of, new_host}}
use Rattle.machine_theorem.specs.{InTurn.{IsIdle, heard_in}, Writes.{AreHeard, payloads}}

-- a FIS has Data
pub record IsDataFis (fis : List ℕ) : Type 0 where
  pub frame : List ℕ
  pub viewed : seen fis ≡ Ok (view.Payload frame)

-- The bytes are the payload of Data FISes that were heard by these calls, in order.
pub record AreOfHeard (calls : List Call) (bytes : List ℕ) : Type 0 where
  pub fises : List (List ℕ)
  pub heard : AreHeard fises calls
  pub each : All IsDataFis fises
  pub is : bytes ≡ payloads fises

-- The command of the page is what this FIS asked for, and what came for it was heard by the calls behind it.
pub record IsWrittenBehind (p : Profile) (limit : ℕ) (before : List Call) (bytes : List ℕ) (later : List Call) (page : Page) : Type 0 where
  pub asked : IsAskedFor p limit (before ++ Hears bytes ∷ later) page.command
  pub is : asked.bytes ≡ bytes
  pub came : AreOfHeard later page.ledger.came

-- A FIS is heard while the host waits for nothing, and no other command is heard since. So it is of the command of which the disk says next that it ended
-- well, if that is not queued and moves sectors.
abbrev pub DataComeBehind : Type 0
DataComeBehind = (p : Profile) (limit : ℕ) (before : List Call) (bytes : List ℕ) (later : List Call)
    → AreCalls (new_disk p limit) (before ++ Hears bytes ∷ later)
    → IsIdle (host_of new_host before) → heard_in later ≡ 0 → IsOut (reached p limit (before ++ Hears bytes ∷ later)) (Some (out.Of 32 replies.Done))
    → (page : Page) → page_in p limit (before ++ Hears bytes ∷ later) 32 ≡ Some page → IsWrittenBehind p limit before bytes later page
