-- A disk that serves queued commands alone asks for Data in turn: it sends a DMA Setup FIS or a DMA Activate FIS only where it awaits none, and what it
-- awaits are Data of the command that its last DMA Setup FIS named (Serial ATA 3.x, 10.5, DMA Setup, DMA Activate and Data, and 13.6).
use Rattle.std.specs.Prelude.{ℕ, ◌≡◌, ◌<◌, ◌⊎◌, ◌&&◌, true, false, not, List, [], ◌∷◌, ◌++◌, drop, length, Option, None, Result, Ok}
use Rattle.fis_view.specs.{Seen.seen, declared.view.{Fis.Fis, FisFault.FisFault}}
use Rattle.fis_view.specs.declared.view.Fis.TheVariants as view
use Rattle.block_command.specs.declared.command.Command.{Command}
use Rattle.block_disk.specs.Laws.{Page}
use Rattle.block_queue.specs.Line.{command_at}
use Rattle.ata_front.specs.Fronts.{heard_data}
use Rattle.ata_front.specs.declared.task.Act.TheVariants as act
use Rattle.ata_reply.specs.declared.reply.Reply.{Reply}
use Rattle.ata_reply.specs.declared.reply.Reply.TheVariants as replies
use Rattle.disk_pages.specs.declared.profile.Profile.{Profile}
use Rattle.sata_disk.specs.{Hearing.{receives, register_told}, State.{DiskState, commands, new_disk}, declared.out.Out.Out}
use Rattle.sata_disk.specs.declared.out.Out.TheVariants as out
use Rattle.sata_disk_laws.specs.{Calls.{AreCalls, Call, Hears, Plugs, Sends, after_call}, Laws.reached}
use Rattle.sata_disk_books.specs.{Books.page_in, Talks.{AreInTurn, Asks, Down, Plain, SetsUp, Sign, Step, Talk, Up, quiet_talk, talk_after}}
use Rattle.sata_disk_books.specs.Taken.{AreTakenFor}

-- ---- queued commands alone

-- it takes a queued command
pub record TakesQueued (d : DiskState) (f : List ℕ) : Type 0 where
  pub command : Command
  pub takes : (register_told d f).act ≡ act.Takes command
  pub low : command.place < 32

-- a FIS is that of a queued command, which the disk takes, or Data for one
abbrev pub IsQueuedFis : DiskState → Result Fis FisFault → Type 0
IsQueuedFis d (Ok (view.RegH2D f)) = TakesQueued d f
IsQueuedFis d (Ok (view.Payload f)) = heard_data d.front.task ≡ None
IsQueuedFis d other = Unit {0}

-- a PIO Setup FIS is of none
abbrev pub IsNoPio : Reply → Type 0
IsNoPio (replies.Announce a) = ⊥
IsNoPio other = Unit {0}

-- what it sends is of queued commands
abbrev pub IsQueuedOut : Out → Type 0
IsQueuedOut (out.Own r) = r ≡ replies.Accepted
IsQueuedOut (out.Page p) = ⊥
IsQueuedOut (out.Beside r) = ⊥
IsQueuedOut (out.Ends tags) = Unit {0}
IsQueuedOut (out.Of p r) = (p < 32) × IsNoPio r
IsQueuedOut (out.Data p n) = p < 32

abbrev pub IsOfQueue : DiskState → Call → Type 0
IsOfQueue d Plugs = ⊥
IsOfQueue d (Hears f) = IsQueuedFis d (seen f)
IsOfQueue d (Sends o) = IsQueuedOut o
IsOfQueue d other = Unit {0}

abbrev pub AreOfQueue : DiskState → List Call → Type 0
AreOfQueue d [] = Unit {0}
AreOfQueue d (c ∷ later) = IsOfQueue d c × AreOfQueue (after_call d c) later

-- it awaits no Data
abbrev pub AwaitsNone : DiskState → Type 0
AwaitsNone d = (place : ℕ) → receives (command_at (commands d) place) ≡ false

-- ---- step by step

abbrev pub sign_reply : Reply → Sign
sign_reply (replies.SetUp s) = SetsUp s.tag 0 (s.auto_activate && not s.to_host)
sign_reply replies.Activate = Asks
sign_reply (replies.Announce a) = Asks
sign_reply other = Plain

abbrev pub sign_out : Out → Sign
sign_out (out.Own r) = sign_reply r
sign_out (out.Beside r) = sign_reply r
sign_out (out.Of p r) = sign_reply r
sign_out other = Plain

abbrev pub data_steps : Result Fis FisFault → List Step
data_steps (Ok (view.Payload f)) = Down (length (drop 4 f)) ∷ []
data_steps other = []

abbrev pub call_steps : Call → List Step
call_steps (Sends o) = Up (sign_out o) ∷ []
call_steps (Hears f) = data_steps (seen f)
call_steps other = []

abbrev pub calls_steps : List Call → List Step
calls_steps [] = []
calls_steps (c ∷ later) = call_steps c ++ calls_steps later

-- Some Data are asked for. They are of the queued command of the place, which the last DMA Setup FIS named, from the byte behind those that came; or no
-- DMA Setup FIS went.
pub record IsOpenFor (d : DiskState) (page : Option Page) (place : ℕ) (talk : Talk) : Type 0 where
  pub wants : talk.wants ≡ true
  pub told : (talk.told ≡ None) ⊎ AreTakenFor d page place talk.told

-- ---- the law

-- Over each stretch of a run that begins where the disk awaits no Data, and in which it serves queued commands alone.
abbrev pub AsksInTurn : Type 0
AsksInTurn = (p : Profile) (limit : ℕ) (base calls : List Call) → AreCalls (new_disk p limit) (base ++ calls) → AwaitsNone (reached p limit base)
    → AreOfQueue (reached p limit base) calls → AreInTurn quiet_talk (calls_steps calls)

abbrev pub AwaitsWhatItAsked : Type 0
AwaitsWhatItAsked = (p : Profile) (limit : ℕ) (base calls : List Call) → AreCalls (new_disk p limit) (base ++ calls) → AwaitsNone (reached p limit base)
    → AreOfQueue (reached p limit base) calls → (place : ℕ) → place < 32 → receives (command_at (commands (reached p limit (base ++ calls))) place) ≡ true
    → IsOpenFor (reached p limit (base ++ calls)) (page_in p limit (base ++ calls) place) place (talk_after quiet_talk (calls_steps calls))
