-- What a FIS of the disk says of the commands, in the words of their account.
use Rattle.std.specs.Prelude.{ℕ, ◌≡◌, ◌<◌, true, List, drop, Some, if◌then◌else◌}
use Rattle.block_command.specs.Laws.{Goes, Happening, Waited, SentSetUp, SentAnnounce, SentData, SentActivate, SentEnd, SentError}
use Rattle.block_disk.specs.Laws.{At, Shown, shown_at}
use Rattle.block_queue.specs.Line.{command_at, has_bit}
use Rattle.ata_reply.specs.{Replies.{Carries, Shows}, declared.reply.Reply.Reply}
use Rattle.ata_reply.specs.declared.reply.Reply.TheVariants as replies
use Rattle.sata_disk.specs.{State.{DiskState, commands}, Sending.{IsFis, IsOut, beside_reply}, declared.out.Out.Out}
use Rattle.sata_disk.specs.declared.out.Out.TheVariants as out

-- what the account has of the FIS that the command of a place sends now
abbrev pub sent_at : DiskState → (place : ℕ) → Shown
sent_at d p = shown_at p (command_at (commands d) p) Goes

-- what a FIS tells its host of a command
abbrev pub happens : Reply → Happening
happens (replies.SetUp s) = SentSetUp
happens (replies.Announce a) = if a.to_host then SentAnnounce else SentActivate
happens replies.Activate = SentActivate
happens replies.Done = SentEnd
happens (replies.Failed f) = SentError
happens (replies.Aborts error) = SentError
happens _ = Waited

-- Data have the very bytes of the account, and each tag in a Set Device Bits FIS has its end there
abbrev pub Says : DiskState → Out → List ℕ → Type 0
Says d (out.Data p n) b = Carries (drop 4 b) b × (sent_at d p ≡ At p (SentData (drop 4 b)))
Says d (out.Of p r) b = Shows r b × (sent_at d p ≡ At p (happens r))
Says d (out.Ends tags) b = Shows (replies.Ends tags) b × ((t : ℕ) → t < 32 → has_bit tags t ≡ true → sent_at d t ≡ At t SentEnd)
Says d (out.Beside r) b = Shows r b × (r ≡ beside_reply d)
Says d _ b = Unit {0}

-- whatever FIS goes next, and whatever its bytes are: they say what the account of the commands has
abbrev pub FisesAreTold : Type 0
FisesAreTold = (d : DiskState) (o : Out) (b : List ℕ) → IsOut d (Some o) → IsFis d o b → Says d o b
