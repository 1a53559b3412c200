-- The last Data FIS of a PIO data-in ends its command: the PIO Setup FIS before it has the Status that holds behind it, and no FIS follows (ACS-3, 4, PIO
-- data-in protocol; Serial ATA 3.x, 10.5, PIO Setup and Data). Such a command is alone: no queued one is open beside it (Serial ATA 3.x, 13.6).
use Rattle.std.specs.Prelude.{ℕ, ◌≡◌, ◌&&◌, Bool, true, false, List, [], ◌∷◌, ◌++◌, Some, Result, Ok}
use Rattle.fis_view.specs.{Seen.seen, declared.view.{Fis.Fis, FisFault.FisFault}}
use Rattle.fis_view.specs.declared.view.Fis.TheVariants as view
use Rattle.block_command.specs.Laws.{IsEarned}
use Rattle.block_disk.specs.Laws.{Page}
use Rattle.ata_reply.specs.declared.reply.Reply.{Reply}
use Rattle.ata_reply.specs.declared.reply.Reply.TheVariants as replies
use Rattle.disk_pages.specs.declared.profile.Profile.{Profile}
use Rattle.sata_disk.specs.{Hearing.is_command, Sending.IsOut, State.new_disk, declared.out.Out.Out}
use Rattle.sata_disk.specs.declared.out.Out.TheVariants as out
use Rattle.sata_disk_laws.specs.{Calls.{AreCalls, Call, Hears, Sends}, Laws.reached, Once.{ForLast, host_of, new_host}}
use Rattle.sata_disk_books.specs.Books.{page_in}

-- ---- the command is alone

-- the PIO Setup FIS of the last block that goes to the host
abbrev pub is_last_block : Reply → Bool
is_last_block (replies.Announce a) = a.to_host && a.last
is_last_block other = false

abbrev pub sets_up_last : Out → Bool
sets_up_last (out.Own r) = is_last_block r
sets_up_last (out.Beside r) = is_last_block r
sets_up_last (out.Of place r) = is_last_block r
sets_up_last other = false

-- a FIS is no command
abbrev pub IsNoCommand : Result Fis FisFault → Type 0
IsNoCommand (Ok (view.RegH2D f)) = is_command f ≡ false
IsNoCommand other = Unit {0}

abbrev pub HearsNoCommand : Call → Type 0
HearsNoCommand (Hears bytes) = IsNoCommand (seen bytes)
HearsNoCommand other = Unit {0}

abbrev pub HearNoCommand : List Call → Type 0
HearNoCommand [] = Unit {0}
HearNoCommand (c ∷ later) = HearsNoCommand c × HearNoCommand later

-- In every run, behind the PIO Setup FIS of a last block, and until another command is heard, no Data of a queued command go.
abbrev pub LastBlocksAreAlone : Type 0
LastBlocksAreAlone = (p : Profile) (limit : ℕ) (before later : List Call) (o : Out) → AreCalls (new_disk p limit) (before ++ Sends o ∷ later)
    → (host_of new_host before).in_reset ≡ false → sets_up_last o ≡ true → HearNoCommand later
    → (place n : ℕ) → IsOut (reached p limit (before ++ Sends o ∷ later)) (Some (out.Data place n)) → place ≡ 32

-- ---- it has earned its end

-- The books behind the Data: of the command, which is a read, the caller gave all bytes of its sectors, and all were sent. They had it before.
pub record IsReadWhole (p : Profile) (limit : ℕ) (calls : List Call) (n : ℕ) : Type 0 where
  pub was : Page
  pub before : page_in p limit calls 32 ≡ Some was
  pub page : Page
  pub books : page_in p limit (calls ++ Sends (out.Data 32 n) ∷ []) 32 ≡ Some page
  pub same : page.command ≡ was.command
  pub reads : page.command.write ≡ false
  pub earned : IsEarned page.command page.ledger false

-- In every run it is so where Data of the command that is not queued go while the host waits for the last ones.
abbrev pub LastDataAreEarned : Type 0
LastDataAreEarned = (p : Profile) (limit : ℕ) (calls : List Call) (n : ℕ) → AreCalls (new_disk p limit) calls
    → IsOut (reached p limit calls) (Some (out.Data 32 n)) → (host_of new_host calls).waits ≡ ForLast → IsReadWhole p limit calls n
