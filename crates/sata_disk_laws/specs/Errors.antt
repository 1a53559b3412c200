-- The error of a queued command ends all of them. Then each command is aborted until the NCQ Command Error log is sent, and that log tells
-- of the command that failed (Serial ATA 3.x, 13.6, native command queuing; ACS-3, 9.13, NCQ Command Error log). Which error stands is
-- told by the FISes, those of the host and those that it got, and by what the caller answered.
use Rattle.std.specs.Prelude.{ℕ, ◌≡◌, ◌<◌, ◌==◌, ◌⊎◌, ◌&&◌, ◌||◌, nat_lt, Bool, true, false, not, List, [], ◌∷◌, drop, Option, Some, None, Result, Ok}
use Rattle.std.specs.{Prelude.{if◌then◌else◌}, Option.is_some}
use Rattle.fis_view.specs.{Table.{H2d, Command, field}, Seen.seen, declared.view.{Fis.Fis, FisFault.FisFault}}
use Rattle.fis_view.specs.declared.view.Fis.TheVariants as view
use Rattle.block_queue.specs.Line.{any_below, command_at, has_bit}
use Rattle.block_engine.specs.declared.request.Failure as caller
use Rattle.block_engine.specs.{declared.request.Request.Request, Engine.{EngineState, IsEngineStart, IsRequested}, Laws.failure_in}
use Rattle.ata_command.specs.{Asks.log_page, Courses.{is_error_log, resets}, declared.asked.{Asked.TheVariants.ReadsLog, LogPage.LogPage}}
use Rattle.ata_reply.specs.{Replies.Carries, declared.reply.{Failure.Failure, Reply.Reply}}
use Rattle.ata_reply.specs.declared.reply.Reply.TheVariants as replies
use Rattle.ata_front.specs.{Fronts.{aborted, is_log_10, page_announced}, declared.task.{Fault.{Fault, TheVariants.{Mixed, Queued}}, Page.Page}}
use Rattle.ata_front.specs.declared.task.Page.TheVariants as pages
use Rattle.disk_pages.specs.{Logs.log_named, declared.profile.Profile.Profile}
use Rattle.disk_pages.specs.declared.log.LogPage.TheVariants as logs
use Rattle.sata_disk.specs.{State.{DiskState, commands, new_disk}, Hearing.is_command, Pages.IsErrorLog, Sending.{IsFis, IsOut, trouble_by}}
use Rattle.sata_disk.specs.declared.{out.Out.Out, unheard.Unheard.Unheard}
use Rattle.sata_disk.specs.declared.out.Out.TheVariants as out
use Rattle.sata_disk_laws.specs.{Calls.{AreCalls, Call, Hears, Plugs, Sends, after_call, steps_of}, Laws.reached, Once.{ForAnswer, ForNothing, Host}}
use Rattle.sata_disk_laws.specs.Once.{Wait, host_after, host_of, new_host, place_in, unheard_of}

pub record Watch : Type 0 where
  -- none that the host had open was in the way of the last command
  pub beside : Bool
  -- it came while an error stood, and does not read its log: its abort is due
  pub aborts : Bool
  -- the error that stands
  pub fault : Option Fault
  -- of the command of each place, what the caller answered last to a request of it, if that was a failure
  pub failures : ℕ → Option caller.Failure

abbrev pub new_watch : Watch
new_watch = record { beside = true; aborts = false; fault = None; failures = λ place. None }

-- ## What the host sends

-- READ LOG EXT or READ LOG DMA EXT of page 0 of log 10h
abbrev pub reads_error : List ℕ → Bool
reads_error f = (field H2d Command f == 0x2F || field H2d Command f == 0x47) && is_error_log (ReadsLog (log_page f false))

-- A queued command goes beside others with a tag that is not open; any other only where no queued command is open.
abbrev pub goes_beside : Host → (place : ℕ) → Bool
goes_beside h place = if nat_lt place 32 then not (h.open_at place) else not (any_below h.open_at 32)

abbrev pub command_watched : Host → Watch → (place : ℕ) → List ℕ → Option Unheard → Watch
command_watched h w place f None = record {
  beside = goes_beside h place;
  aborts = is_some w.fault && not (reads_error f);
  fault = w.fault;
  failures = w.failures;
}
command_watched h w place f (Some why) = w

-- a reset ends the error
abbrev pub reset_watched : Watch → Watch
reset_watched w = record { beside = w.beside; aborts = false; fault = None; failures = w.failures }

abbrev pub register_watched : Host → Watch → List ℕ → Watch
register_watched h w f = if is_command f then command_watched h w (place_in f) f (unheard_of h) else (if resets f then reset_watched w else w)

abbrev pub fis_watched : Host → Watch → Result Fis FisFault → Watch
fis_watched h w (Ok (view.RegH2D f)) = register_watched h w f
fis_watched h w _ = w

-- ## What the disk sends

-- a queued command is refused for itself, and any other is none of the queue
abbrev pub refused_for : Wait → Failure → Option Fault
refused_for (ForAnswer tag) f = Some (Queued tag (record { error = f.error; lba = f.lba }))
refused_for wait f = None

-- A Register FIS with an error. Where the command may not go beside the queued ones that are open, it ends them, and none of them failed.
abbrev pub refused_by : (beside : Bool) → Wait → Failure → Option Fault
refused_by false wait f = Some Mixed
refused_by true wait f = refused_for wait f

-- the first error stands
abbrev pub or_fault : Option Fault → Option Fault → Option Fault
or_fault None other = other
or_fault (Some fault) other = Some fault

abbrev pub reply_watched : Host → Watch → Reply → Watch
reply_watched h w (replies.Failed f) = record {
  beside = w.beside;
  aborts = false;
  fault = or_fault w.fault (refused_by w.beside h.waits f);
  failures = w.failures;
}
reply_watched h w r = w

-- A Set Device Bits FIS with an error: this command failed, as the caller answered, or since more Data came than it asked for.
abbrev pub of_watched : DiskState → Host → Watch → (place : ℕ) → Reply → Watch
of_watched d h w p (replies.Aborts error) = record {
  beside = w.beside;
  aborts = w.aborts;
  fault = Some (Queued p (trouble_by (w.failures p) (command_at (commands d) p)));
  failures = w.failures;
}
of_watched d h w p r = reply_watched h w r

-- the log ends the error
abbrev pub page_watched : Watch → Page → Watch
page_watched w p = record { beside = w.beside; aborts = w.aborts; fault = if is_log_10 p then None else w.fault; failures = w.failures }

abbrev pub out_watched : DiskState → Host → Watch → Out → Watch
out_watched d h w (out.Own r) = reply_watched h w r
out_watched d h w (out.Beside r) = reply_watched h w r
out_watched d h w (out.Of p r) = of_watched d h w p r
out_watched d h w (out.Page p) = page_watched w p
out_watched d h w _ = w

-- ## A walk along the calls

abbrev pub watched : DiskState → Host → Watch → Call → Watch
watched d h w Plugs = reset_watched w
watched d h w (Hears f) = fis_watched h w (seen f)
watched d h w (Sends o) = out_watched d h w o
watched d h w _ = w

-- what the caller answers of the command that stands at a place then (`block_engine`)
abbrev pub failures_then : DiskState → Call → (ℕ → Option caller.Failure) → ℕ → Option caller.Failure
failures_then d c was place = failure_in d.engine place (steps_of d c) (was place)

abbrev pub watch_after : DiskState → Host → Watch → Call → Watch
watch_after d h w c = record (watched d h w c) { failures = failures_then d c w.failures }

unfoldable pub watch_of : DiskState → Host → Watch → List Call → Watch
watch_of d h w [] = w
watch_of d h w (c ∷ later) = watch_of (after_call d c) (host_after h c) (watch_after d h w c) later

abbrev pub watch_in : Profile → (limit : ℕ) → List Call → Watch
watch_in p limit calls = watch_of (new_disk p limit) new_host new_watch calls

-- ## The laws

-- while an error stands: an abort, or the log
abbrev pub IsOfError : Option Out → Type 0
IsOfError None = Unit {0}
IsOfError (Some (out.Own r)) = (r ≡ aborted) ⊎ (r ≡ page_announced)
IsOfError (Some (out.Page p)) = is_log_10 p ≡ true
-- it would name no tag
IsOfError (Some (out.Ends tags)) = (tag : ℕ) → tag < 32 → has_bit tags tag ≡ false
IsOfError _ = ⊥

pub record IsWatched (h : Host) (w : Watch) (d : DiskState) : Type 0 where
  -- a command that came while an error stood, and does not read the log, is answered next, by an abort
  pub aborted : w.aborts ≡ true → (o : Option Out) → IsOut d o → o ≡ Some (out.Own aborted)
  -- while an error stands no other FIS goes but aborts and the log
  pub only : is_some w.fault ≡ true → (o : Option Out) → IsOut d o → IsOfError o
  -- nothing starts, and the caller is asked for nothing
  pub still : is_some w.fault ≡ true → (place : ℕ) → IsEngineStart d.engine (Some place) → ⊥
  pub quiet : is_some w.fault ≡ true → (new : EngineState) (r : Request) → IsRequested d.engine new (Some r) → ⊥
  -- where the host may send a command, the disk knows of the same error
  pub known : h.waits ≡ ForNothing → d.front.fault ≡ w.fault

abbrev pub AbortedUntilRead : Type 0
AbortedUntilRead = (p : Profile) (limit : ℕ) (calls : List Call) → AreCalls (new_disk p limit) calls
    → IsWatched (host_of new_host calls) (watch_in p limit calls) (reached p limit calls)

-- Log 10h has the tag, the cause and the sector of the error that stands: whatever the bytes of its page, they say so.
abbrev pub LogTellsOfFailure : Type 0
LogTellsOfFailure = (p : Profile) (limit : ℕ) (calls : List Call) (page : LogPage) (b : List ℕ) → AreCalls (new_disk p limit) calls
    → log_named page.log page.page ≡ Some logs.NcqError → IsOut (reached p limit calls) (Some (out.Page (pages.Log page)))
    → IsFis (reached p limit calls) (out.Page (pages.Log page)) b → IsErrorLog (watch_in p limit calls).fault (drop 4 b) × Carries (drop 4 b) b
