-- Commands and answers of a disk go in turn: it answers a command by one Register FIS, and takes the next one only behind that. So a command that is not
-- queued, and of which it says that it ended well, is the one that was heard behind all that were answered (ACS-3, 4, protocols; Serial ATA 3.x, 10.5,
-- Register Host to Device and Register Device to Host, and 11.4, software reset).
use Rattle.std.specs.Prelude.{ℕ, suc, ◌≡◌, ◌≤◌, ◌+◌, ◌&&◌, Bool, true, false, not, List, [], ◌∷◌, ◌++◌, Some, Result, Ok}
use Rattle.fis_view.specs.{Seen.seen, declared.view.{Fis.Fis, FisFault.FisFault}}
use Rattle.fis_view.specs.declared.view.Fis.TheVariants as view
use Rattle.block_command.specs.declared.command.Command.{Command}
use Rattle.block_disk.specs.Laws.{Page}
use Rattle.ata_command.specs.Courses.{resets}
use Rattle.ata_reply.specs.declared.reply.Reply.{Reply}
use Rattle.ata_reply.specs.declared.reply.Reply.TheVariants as replies
use Rattle.disk_pages.specs.declared.profile.Profile.{Profile}
use Rattle.sata_disk.specs.{Hearing.is_command, Sending.IsOut, State.new_disk, declared.out.Out.Out}
use Rattle.sata_disk.specs.declared.out.Out.TheVariants as out
use Rattle.sata_disk_books.specs.Books.{IsAskedFor, page_in}
use Rattle.sata_disk_laws.specs.{Calls.{AreCalls, Call, Hears, Plugs, Sends}, Laws.reached, Once.{ForNothing, Host, host_of, new_host}}
use Rattle.machine_theorem.specs.Tags.{once_if}

-- ---- what is counted

-- a FIS is a command, queued or not
abbrev pub commands : Result Fis FisFault → Bool
commands (Ok (view.RegH2D f)) = is_command f
commands other = false

abbrev pub is_asking : List ℕ → Bool
is_asking bytes = commands (seen bytes)

-- a FIS is a Register FIS of a device
abbrev pub answers : Result Fis FisFault → Bool
answers (Ok (view.RegD2H f)) = true
answers other = false

abbrev pub is_answering : List ℕ → Bool
is_answering bytes = answers (seen bytes)

-- a disk answers by a Register FIS: a command, queued or not, or a reset by its signature
abbrev pub is_register : Reply → Bool
is_register replies.Signature = true
is_register replies.Accepted = true
is_register replies.Done = true
is_register replies.Active = true
is_register replies.Healthy = true
is_register (replies.Failed f) = true
is_register other = false

abbrev pub is_answer : Out → Bool
is_answer (out.Own r) = is_register r
is_answer (out.Beside r) = is_register r
is_answer (out.Of place r) = is_register r
is_answer other = false

-- a call hears a command
abbrev pub hears_one : Call → ℕ
hears_one (Hears bytes) = once_if (is_asking bytes)
hears_one other = 0

-- by a call an answer is sent
abbrev pub answers_one : Call → ℕ
answers_one (Sends o) = once_if (is_answer o)
answers_one other = 0

-- how many of these calls do
abbrev pub heard_in : List Call → ℕ
heard_in [] = 0
heard_in (c ∷ later) = hears_one c + heard_in later

abbrev pub answered_in : List Call → ℕ
answered_in [] = 0
answered_in (c ∷ later) = answers_one c + answered_in later

-- ---- a stretch

-- the host waits for nothing, and SRST is clear
pub record IsIdle (h : Host) : Type 0 where
  pub waits : h.waits ≡ ForNothing
  pub clear : h.in_reset ≡ false

-- a FIS sets SRST
abbrev pub sets_reset : Result Fis FisFault → Bool
sets_reset (Ok (view.RegH2D f)) = not (is_command f) && resets f
sets_reset other = false

-- The disk is not plugged in anew, and no software reset begins.
abbrev pub IsKeptOn : Call → Type 0
IsKeptOn Plugs = ⊥
IsKeptOn (Hears bytes) = sets_reset (seen bytes) ≡ false
IsKeptOn other = Unit {0}

abbrev pub AreKeptOn : List Call → Type 0
AreKeptOn [] = Unit {0}
AreKeptOn (c ∷ later) = IsKeptOn c × AreKeptOn later

-- ---- the command that ends

-- A FIS of the stretch asked for the command, and as many were heard before it as were answered in all.
pub record IsInTurn (p : Profile) (limit : ℕ) (base calls : List Call) (c : Command) : Type 0 where
  pub asked : IsAskedFor p limit (base ++ calls) c
  pub front : List Call
  pub split : calls ≡ front ++ Hears asked.bytes ∷ asked.later
  pub asks : is_asking asked.bytes ≡ true
  pub behind : answered_in calls ≤ heard_in front
  -- So where no more than one of those that were heard was not answered, it is the one that was heard last.
  pub last : heard_in calls ≤ suc (answered_in calls) → heard_in asked.later ≡ 0

-- A FIS of the stretch was heard that is a command, as many were heard before it as were answered in all, and none was answered since.
pub record IsUnanswered (calls : List Call) : Type 0 where
  pub front : List Call
  pub bytes : List ℕ
  pub later : List Call
  pub split : calls ≡ front ++ Hears bytes ∷ later
  pub asks : is_asking bytes ≡ true
  pub behind : answered_in calls ≤ heard_in front
  pub quiet : answered_in later ≡ 0
  -- So where no more than one of those that were heard was not answered, it is the one that was heard last.
  pub last : heard_in calls ≤ suc (answered_in calls) → heard_in later ≡ 0

pub record IsAnswered (p : Profile) (limit : ℕ) (base calls : List Call) : Type 0 where
  -- No more were answered than were heard.
  pub fewer : answered_in calls ≤ heard_in calls
  -- Where all were answered, the host waits for nothing.
  pub idle : heard_in calls ≤ answered_in calls → IsIdle (host_of new_host (base ++ calls))
  -- An answer that goes next is that of such a command.
  pub answers : (o : Out) → IsOut (reached p limit (base ++ calls)) (Some o) → is_answer o ≡ true → IsUnanswered calls
  -- So it is of the command of which the disk says next that it ended well, if it is not queued and moves sectors.
  pub ends : IsOut (reached p limit (base ++ calls)) (Some (out.Of 32 replies.Done)) → (page : Page) → page_in p limit (base ++ calls) 32 ≡ Some page
      → IsInTurn p limit base calls page.command

-- ---- the law

-- So it is over each stretch of calls of a disk that begins while its host waits for nothing.
abbrev pub CommandsGoInTurn : Type 0
CommandsGoInTurn = (p : Profile) (limit : ℕ) (base calls : List Call) → AreCalls (new_disk p limit) (base ++ calls) → IsIdle (host_of new_host base)
    → AreKeptOn calls → IsAnswered p limit base calls
