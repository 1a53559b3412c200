-- Read after write, within one run: a write is polled as Done, then a read is submitted, and it is
-- polled as Done (ACS-3, READ FPDMA QUEUED and WRITE FPDMA QUEUED). The places of the steps say which
-- came first.
--
-- Cited: requests that were polled (specs/Polled.antt), the run of a disk (specs/Disks.antt), which bytes a
-- read and a write both have (specs/ReadBack.antt), and bytes in client memory (specs/Submitted.antt).
use Rattle.std.specs.{Prelude.{ℕ, ◌≡◌, ◌+◌, ◌-◌, ◌*◌, ◌<◌, suc, true, false, drop, List, length, slice_index, refl}, List.list_any}
use Rattle.host_memory.specs.{Memory.client_start, Place.place}
use Rattle.disk_model.specs.{declared.plan.DiskPlan.DiskPlan, Histories.Happening, Last.NoneCovers}
use Rattle.hba_driver.specs.{declared.{request.Completion.Completion, request.Work.TheVariants.{Read, Write}}, Orders.is_queued, Submits.new_entry}
use Rattle.pm_world.specs.{Attached.Attached, Disks.{DiskRun, HasDisk}, PathEnds.injects, Places.{Places, is_config, new_world}}
use Rattle.pm_world.specs.{Polled.IsPolledHonestly, ReadBack.IsOneByte, Rules.Run, Runs.IsStepOf, Submitted.StandsThere, declared.step.Config.Config}
use Rattle.pm_world.specs.declared.{step.Step.Step, step.Answer.Answer}
use Rattle.pm_world.specs.declared.step.Step.TheVariants as step
use Rattle.pm_world.specs.declared.step.Answer.TheVariants as answer

-- In this run the unit at port n was plugged in, as connection conn, and was left alone from there on.
pub record IsLeftSince (n conn : ℕ) (old new : Places) (steps : List Step) (answers : List Answer)
    (run : Run old steps answers new) : Type 0 where
  pub came : IsStepOf (step.Came n) (answer.Came n conn) old new steps answers run
  pub clean : list_any (injects n) came.after ≡ false

-- such a run is one of its disk
abbrev pub disk_run : (config : Config) (units : List Attached) (n conn : ℕ) (now : Places) (steps : List Step)
    → (answers : List Answer) → (run : Run (new_world config units) steps answers now)
    → IsLeftSince n conn (new_world config units) now steps answers run → DiskRun config units n now
disk_run config units n conn now steps answers run since = record {
  first = since.came.before;
  told = since.came.told;
  out = since.came.at;
  made = since.came.came;
  conn = conn;
  steps = since.came.after;
  answers = since.came.later;
  run = (since.came.next, since.came.rule, since.came.went);
  clean = since.clean;
}

-- In one run a write is polled as Done. Later a read is submitted to the same device, and is polled
-- as Done at the end of the run. The device is a disk that was left alone from its plugging as the
-- connection of each report up to that report. Take each byte that both have and that no write has
-- which ended after that write and before the read began. Client memory has at the read's place what
-- it had at the write's place when the write was submitted.
abbrev pub ReadsFollowWrites : Type 0
ReadsFollowWrites =
    (config : Config) (units : List Attached) → is_config config (length units) ≡ true
    → (steps : List Step) (answers : List Answer) (now : Places)
    (run : Run (new_world config units) steps answers now) (written read : Completion)
    (poll : IsStepOf step.Poll (answer.Polled written) (new_world config units) now steps answers run)
    (first : IsPolledHonestly config units poll.at poll.before poll.told poll.came written)
    (second : IsPolledHonestly config units now steps answers run read)
    → (writes : first.reported.request.work ≡ Write) (reads : second.reported.request.work ≡ Read)
    (queued : is_queued first.reported.request.work ≡ true)
    (queued_too : is_queued second.reported.request.work ≡ true)
    → length poll.before < length second.reported.submitted.before
    → second.reported.dev ≡ first.reported.dev
    → (sectors : ℕ) (plan : DiskPlan) (past : List Happening) (disk : HasDisk units first.reported.dev plan sectors past)
    (disk_too : HasDisk units second.reported.dev plan sectors past)
    (c : IsLeftSince first.reported.dev first.reported.conn (new_world config units) first.reported.took.at
    first.reported.took.before first.reported.took.told first.reported.took.came)
    (d : IsLeftSince second.reported.dev second.reported.conn (new_world config units) second.reported.took.at
    second.reported.took.before second.reported.took.told second.reported.took.came)
    → (i j : ℕ)
    → IsOneByte (new_entry read.ticket.0 second.reported.dev second.reported.request)
    (new_entry written.ticket.0 first.reported.dev first.reported.request) i j
    → NoneCovers (512 * second.reported.request.lba + i)
    (drop (suc ((first.honest sectors plan past disk queued
    (disk_run config units first.reported.dev first.reported.conn first.reported.took.at
    first.reported.took.before first.reported.took.told first.reported.took.came c)
    refl).ends.writes writes).at)
    ((second.honest sectors plan past disk_too queued_too
    (disk_run config units second.reported.dev second.reported.conn second.reported.took.at
    second.reported.took.before second.reported.took.told second.reported.took.came d)
    refl).ends.reads reads).read.before)
    → StandsThere (slice_index now.host.memory.client
    (place second.reported.request.prds.items i - client_start))
    first.reported.request.prds.items first.reported.submitted.at.host.memory j
