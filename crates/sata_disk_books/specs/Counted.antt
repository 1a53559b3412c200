-- Where the bytes of a Data FIS stand in their queued command: what the FISes of the disk say by themselves (Serial ATA 3.x, 10.5, DMA Setup and
-- Data, and 13.6, native command queuing). One DMA Setup FIS goes for all Data of a command, with its tag and offset 0.
use Rattle.std.specs.Prelude.{ℕ, ◌≡◌, ◌<◌, ◌+◌, nat_lt, List, [], ◌∷◌, length, Option, Some, None, if◌then◌else◌}
use Rattle.block_disk.specs.Laws.{Page}
use Rattle.ata_reply.specs.declared.reply.Reply.{Reply}
use Rattle.ata_reply.specs.declared.reply.Reply.TheVariants as replies
use Rattle.disk_pages.specs.declared.profile.Profile.{Profile}
use Rattle.sata_disk.specs.{Sending.IsOut, State.new_disk, declared.out.Out.Out}
use Rattle.sata_disk.specs.declared.out.Out.TheVariants as out
use Rattle.sata_disk_laws.specs.{Calls.{AreCalls, Call, Sends}, Laws.reached}
use Rattle.sata_disk_books.specs.Books.{page_in}

-- the tag in the DMA Setup FIS that was sent last, and how many bytes were sent since, all by Data FISes of queued commands
pub record Counted : Type 0 where
  pub tag : ℕ
  pub count : ℕ

abbrev pub set_up_by : Reply → Option Counted → Option Counted
set_up_by (replies.SetUp s) was = Some (record { tag = s.tag; count = 0 })
set_up_by other was = was

abbrev pub more_by : ℕ → Option Counted → Option Counted
more_by n None = None
more_by n (Some c) = Some (record { tag = c.tag; count = c.count + n })

-- other Data are of no queued command, and nothing is known behind them until the next DMA Setup FIS
abbrev pub counted_by : Out → Option Counted → Option Counted
counted_by (out.Of p r) was = set_up_by r was
counted_by (out.Data p n) was = if nat_lt p 32 then more_by n was else None
counted_by (out.Page p) was = None
counted_by other was = was

abbrev pub counted_call : Call → Option Counted → Option Counted
counted_call (Sends o) was = counted_by o was
counted_call other was = was

unfoldable pub counted_after : Option Counted → List Call → Option Counted
counted_after was [] = was
counted_after was (c ∷ later) = counted_after (counted_call c was) later

-- The books have so many bytes as sent of the command of the place as were sent since the DMA Setup FIS that was sent last, and this FIS named the place.
pub record AreCounted (page : Option Page) (place : ℕ) (told : Option Counted) : Type 0 where
  pub of : Page
  pub is : page ≡ Some of
  pub counts : told ≡ Some (record { tag = place; count = length of.ledger.sent })

-- In every run it is so as the Data FIS of a queued command goes next.
abbrev pub DataAreCounted : Type 0
DataAreCounted = (p : Profile) (limit : ℕ) (calls : List Call) (place n : ℕ) → AreCalls (new_disk p limit) calls
    → IsOut (reached p limit calls) (Some (out.Data place n)) → place < 32
    → AreCounted (page_in p limit calls place) place (counted_after None calls)
