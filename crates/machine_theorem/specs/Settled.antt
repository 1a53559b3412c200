-- Commands and answers of a disk go in turn, with PIO data-in among them. Such a command has no Register FIS at its end: the PIO Setup FIS of its last
-- block has the Status that holds behind the Data, and these end it. So a command is settled by a Register FIS, or by the PIO Setup FIS of its last block,
-- and the next one is taken only behind that, and behind the last Data (ACS-3, 4, protocols; Serial ATA 3.x, 10.5, Register Device to Host, PIO Setup and
-- Data).
use Rattle.std.specs.Prelude.{ℕ, suc, ◌≡◌, ◌⊎◌, ◌≤◌, ◌+◌, ◌-◌, ◌||◌, Bool, true, false, List, [], ◌∷◌, ◌++◌, Some}
use Rattle.block_command.specs.declared.command.Command.{Command}
use Rattle.block_disk.specs.Laws.{Page}
use Rattle.ata_reply.specs.declared.reply.Reply.TheVariants as replies
use Rattle.disk_pages.specs.declared.profile.Profile.{Profile}
use Rattle.sata_disk.specs.{Sending.IsOut, State.new_disk, declared.out.Out.Out}
use Rattle.sata_disk.specs.declared.out.Out.TheVariants as out
use Rattle.sata_disk_books.specs.{Books.{IsAskedFor, page_in}, LastData.{IsReadWhole, sets_up_last}}
use Rattle.sata_disk_laws.specs.{Calls.{AreCalls, Call, Hears, Sends}, Laws.reached, Once.{ForLast, ForNothing, host_of, new_host}}
use Rattle.machine_theorem.specs.{InTurn.{AreKeptOn, IsIdle, heard_in, is_answer, is_asking}, Tags.once_if, Transfers.is_transferring}

-- ---- what is counted

-- a FIS of a disk settles a command: a Register FIS, or the PIO Setup FIS of a last block
abbrev pub is_settling : Out → Bool
is_settling o = is_answer o || sets_up_last o

abbrev pub settles_one : Call → ℕ
settles_one (Sends o) = once_if (is_settling o)
settles_one other = 0

-- how many of these calls do
abbrev pub settled_in : List Call → ℕ
settled_in [] = 0
settled_in (c ∷ later) = settles_one c + settled_in later

-- a Data FIS of a disk
abbrev pub is_data : Out → Bool
is_data (out.Page page) = true
is_data (out.Data place n) = true
is_data other = false

-- ---- the command

-- A FIS of the stretch was heard that is a command, while the host waited for nothing; as many were heard before it as were settled in all, and none was
-- settled since.
pub record IsUnsettled (base calls : List Call) : Type 0 where
  pub front : List Call
  pub bytes : List ℕ
  pub later : List Call
  pub split : calls ≡ front ++ Hears bytes ∷ later
  pub asks : is_asking bytes ≡ true
  pub idle : IsIdle (host_of new_host (base ++ front))
  pub behind : settled_in calls ≤ heard_in front
  pub quiet : settled_in later ≡ 0
  -- So where no more than one of those that were heard was not settled, it is the one that was heard last.
  pub last : heard_in calls ≤ suc (settled_in calls) → heard_in later ≡ 0

-- A FIS of the stretch was heard that is a command, and as many were heard before it as were settled in all but one: it is the one that was settled last.
pub record IsSettledLast (calls : List Call) : Type 0 where
  pub front : List Call
  pub bytes : List ℕ
  pub later : List Call
  pub split : calls ≡ front ++ Hears bytes ∷ later
  pub asks : is_asking bytes ≡ true
  pub behind : settled_in calls ≤ suc (heard_in front)
  -- So where all that were heard were settled, it is the one that was heard last.
  pub last : heard_in calls ≤ settled_in calls → heard_in later ≡ 0

-- A FIS of the stretch asked for the command that moves sectors, and so many were heard before it.
pub record IsAskedInTurn (settled : ℕ) (p : Profile) (limit : ℕ) (base calls : List Call) (c : Command) : Type 0 where
  pub asked : IsAskedFor p limit (base ++ calls) c
  pub front : List Call
  pub split : calls ≡ front ++ Hears asked.bytes ∷ asked.later
  pub asks : is_asking asked.bytes ≡ true
  pub behind : settled ≤ heard_in front

-- The PIO Setup FIS of a last block went, and since then nothing was settled.
pub record IsBehindLastBlock (calls : List Call) : Type 0 where
  pub front : List Call
  pub said : Out
  pub later : List Call
  pub split : calls ≡ front ++ Sends said ∷ later
  pub sets : sets_up_last said ≡ true
  pub quiet : settled_in later ≡ 0

-- The Data of a command that moves sectors end it: it is a read, and all of its bytes were given and, behind them, sent. It was asked for in turn.
pub record IsWholeInTurn (p : Profile) (limit : ℕ) (base calls : List Call) (n : ℕ) : Type 0 where
  pub whole : IsReadWhole p limit (base ++ calls) n
  pub turn : IsAskedInTurn (settled_in calls - 1) p limit base calls whole.was.command

pub record AreSettled (p : Profile) (limit : ℕ) (base calls : List Call) : Type 0 where
  -- No more were settled than were heard.
  pub fewer : settled_in calls ≤ heard_in calls
  -- Where all were settled, the host waits for nothing, or for the last Data of a PIO data-in.
  pub idle : heard_in calls ≤ settled_in calls
      → ((host_of new_host (base ++ calls)).in_reset ≡ false)
      × (((host_of new_host (base ++ calls)).waits ≡ ForNothing) ⊎ ((host_of new_host (base ++ calls)).waits ≡ ForLast))
  -- A FIS that goes next, and settles a command, is of such a one.
  pub answers : (o : Out) → IsOut (reached p limit (base ++ calls)) (Some o) → is_settling o ≡ true → IsUnsettled base calls
  -- So it is of the command of which the disk says next, by a Register FIS, that it ended well.
  pub ends : IsOut (reached p limit (base ++ calls)) (Some (out.Of 32 replies.Done)) → (page : Page) → page_in p limit (base ++ calls) 32 ≡ Some page
      → IsAskedInTurn (settled_in calls) p limit base calls page.command
  -- Data that go next, and for which the host waits as the last ones, are of the command that was settled last; and if it moves sectors, all of it was done.
  pub lasts : (host_of new_host (base ++ calls)).waits ≡ ForLast → IsSettledLast calls
  pub reads : (n : ℕ) → IsOut (reached p limit (base ++ calls)) (Some (out.Data 32 n)) → (host_of new_host (base ++ calls)).waits ≡ ForLast
      → IsWholeInTurn p limit base calls n
  -- Where all were settled, and the last one by the PIO Setup FIS of its last block, Data that go next are these.
  pub alone : (o : Out) → IsOut (reached p limit (base ++ calls)) (Some o) → is_data o ≡ true → heard_in calls ≤ settled_in calls → IsBehindLastBlock calls
      → (host_of new_host (base ++ calls)).waits ≡ ForLast

-- ---- the law

-- So it is over each stretch of calls of a disk that begins while its host waits for nothing.
abbrev pub CommandsAreSettledInTurn : Type 0
CommandsAreSettledInTurn = (p : Profile) (limit : ℕ) (base calls : List Call) → AreCalls (new_disk p limit) (base ++ calls) → IsIdle (host_of new_host base)
    → AreKeptOn calls → AreSettled p limit base calls

-- Where in such a stretch all were settled, the last one by the PIO Setup FIS of its last block, and the command that was settled last moves sectors, Data
-- that go next are of its sectors, and no page that the disk has of itself.
abbrev pub SectorsEndByData : Type 0
SectorsEndByData = (p : Profile) (limit : ℕ) (base calls : List Call) → AreCalls (new_disk p limit) (base ++ calls) → IsIdle (host_of new_host base)
    → AreKeptOn calls → heard_in calls ≤ settled_in calls → IsBehindLastBlock calls → (last : IsSettledLast calls) → is_transferring last.bytes ≡ true
    → (o : Out) → IsOut (reached p limit (base ++ calls)) (Some o) → is_data o ≡ true → (n : ℕ) × (o ≡ out.Data 32 n)
