-- FLUSH CACHE at a disk: it says that the command ended well only where its caller answered a flush well that it asked for since it heard the command
-- (ACS-3, 7.10, FLUSH CACHE, and 7.11, FLUSH CACHE EXT; Serial ATA 3.x, 10.5, Register Device to Host).
use Rattle.std.specs.Prelude.{ℕ, ◌≡◌, ◌⊎◌, ◌==◌, ◌&&◌, ◌||◌, Bool, true, false, List, ◌∷◌, ◌++◌, Some, None, Result, Ok}
use Rattle.fis_view.specs.{Seen.seen, Table.{H2d, Command, field}, declared.view.{Fis.Fis, FisFault.FisFault}}
use Rattle.fis_view.specs.declared.view.Fis.TheVariants as view
use Rattle.block_engine.specs.declared.request.{Answer.TheVariants.Done, Request.Request, What.TheVariants.Flush}
use Rattle.ata_reply.specs.declared.reply.Reply.TheVariants as replies
use Rattle.disk_pages.specs.declared.profile.Profile.{Profile}
use Rattle.sata_disk.specs.{Hearing.is_command, Sending.{IsFis, IsOut}, State.new_disk, declared.out.Out.Out}
use Rattle.sata_disk.specs.declared.out.Out.TheVariants as out
use Rattle.sata_disk_laws.specs.{Calls.{Answers, AreCalls, Asks, Call, Hears}, Laws.reached, Once.{host_of, new_host}}
use Rattle.machine_theorem.specs.{InTurn.{AreKeptOn, IsIdle, answered_in, heard_in, is_answer}, Transfers.fails_by}

-- ---- the command

-- FLUSH CACHE, FLUSH CACHE EXT
abbrev pub is_flush : ℕ → Bool
is_flush c = c == 0xE7 || c == 0xEA

abbrev pub flushes : Result Fis FisFault → Bool
flushes (Ok (view.RegH2D f)) = is_command f && is_flush (field H2d Command f)
flushes other = false

-- a FIS is such a command
abbrev pub is_flushing : List ℕ → Bool
is_flushing bytes = flushes (seen bytes)

-- ---- its answer

-- a disk says that a command failed, be it one that moves sectors or not
abbrev pub is_failure : Out → Bool
is_failure (out.Own r) = fails_by r
is_failure (out.Beside r) = fails_by r
is_failure (out.Of place r) = fails_by r
is_failure other = false

-- By these calls the disk asked its caller for a flush, for no command that moves sectors, and then the caller answered this very request: it is done.
pub record IsFlushed (calls : List Call) : Type 0 where
  pub before : List Call
  pub request : Request
  pub between : List Call
  pub after : List Call
  pub is : calls ≡ before ++ Asks request ∷ between ++ Answers request.number Done ∷ after
  pub what : request.what ≡ Flush
  pub own : request.place ≡ None

-- The disk says that the command beside its queue ended well; and so it was, by the calls since it heard the command.
pub record HasFlushed (since : List Call) (o : Out) : Type 0 where
  pub ends : o ≡ out.Beside replies.Done
  pub flush : IsFlushed since

-- ---- the law

-- The command is heard while the host waits for nothing, and no other is heard or answered since. So an answer that goes next says that it ended well, and
-- the caller had flushed since; or that it failed.
abbrev pub FlushesEndSo : Type 0
FlushesEndSo = (p : Profile) (limit : ℕ) (before : List Call) (bytes : List ℕ) (later : List Call)
    → AreCalls (new_disk p limit) (before ++ Hears bytes ∷ later) → is_flushing bytes ≡ true → IsIdle (host_of new_host before)
    → AreKeptOn later → heard_in later ≡ 0 → answered_in later ≡ 0
    → (o : Out) (fis : List ℕ) → IsOut (reached p limit (before ++ Hears bytes ∷ later)) (Some o)
    → IsFis (reached p limit (before ++ Hears bytes ∷ later)) o fis → is_answer o ≡ true
    → HasFlushed later o ⊎ (is_failure o ≡ true)
