-- FLUSH after write, within one run: writes are polled as Done, then a FLUSH is submitted, and it is
-- polled as Done (ACS-3, FLUSH CACHE EXT and WRITE FPDMA QUEUED). Which came first is said by the places of
-- the steps.
--
-- Cited: requests that were polled (specs/Polled.antt), the run of a disk (specs/Disks.antt, InOrder.antt),
-- and what a unit shows of its medium (specs/ReadBack.antt).
use Rattle.std.specs.Prelude.{ℕ, ◌≡◌, ◌+◌, ◌-◌, ◌*◌, ◌<◌, suc, true, drop, List, length, slice_get, slice_index, refl, IsSomeAnd, Some}
use Rattle.host_memory.specs.{Memory.client_start, Place.place}
use Rattle.disk_model.specs.{declared.plan.DiskPlan.DiskPlan, Histories.Happening, Last.NoneCovers, Ledger.ledger}
use Rattle.hba_driver.specs.{declared.{request.Completion.Completion, request.Work.TheVariants.{Flush, Write}}, Orders.is_queued, Submits.new_entry}
use Rattle.pm_world.specs.{Attached.Attached, Disks.{DiskRun, FlushedSince, HasDisk, disk_history}, InOrder.{IsLeftSince, disk_run}}
use Rattle.pm_world.specs.{Places.{Places, is_config, new_world}, Polled.IsPolledHonestly, ReadBack.Shows, Rules.Run, Runs.IsStepOf}
use Rattle.pm_world.specs.declared.{step.Config.Config, step.Step.Step, step.Answer.Answer}
use Rattle.pm_world.specs.declared.step.Step.TheVariants as step
use Rattle.pm_world.specs.declared.step.Answer.TheVariants as answer

-- A write was polled as Done earlier in this run, before the FLUSH was submitted to the same device, which
-- was left alone from its plugging as the connection of the report of the write up to that report. So at the
-- report of the FLUSH each byte of the write that no later write has is on the medium of the disk: it is the
-- one that client memory had at its place as the write was submitted.
abbrev pub HasWrites : (config : Config) (units : List Attached) (steps : List Step) (answers : List Answer)
    (now : Places)
    (run : Run (new_world config units) steps answers now) (flushed : Completion)
    → (last : IsPolledHonestly config units now steps answers run flushed) → (sectors : ℕ) (plan : DiskPlan) (past : List Happening)
    → DiskRun config units last.reported.dev last.reported.took.at → Type 0
HasWrites config units steps answers now run flushed last sectors plan past f =
    (written : Completion)
    (poll : IsStepOf step.Poll (answer.Polled written) (new_world config units) now steps answers run)
    (first : IsPolledHonestly config units poll.at poll.before poll.told poll.came written)
    → (writes : first.reported.request.work ≡ Write) (queued : is_queued first.reported.request.work ≡ true)
    → length poll.before < length last.reported.submitted.before
    → last.reported.dev ≡ first.reported.dev → (disk : HasDisk units first.reported.dev plan sectors past)
    → (c : IsLeftSince first.reported.dev first.reported.conn (new_world config units) first.reported.took.at
    first.reported.took.before first.reported.took.told first.reported.took.came)
    → (j : ℕ) → j < 512 * first.reported.request.sectors
    → NoneCovers (512 * first.reported.request.lba + j)
    (drop (suc ((first.honest sectors plan past disk queued
    (disk_run config units first.reported.dev first.reported.conn first.reported.took.at
    first.reported.took.before first.reported.took.told first.reported.took.came c) refl).ends.writes
    writes).at)
    (ledger (disk_history config units last.reported.dev last.reported.took.at f past)).writes)
    → IsSomeAnd (slice_get last.reported.took.at.devices last.reported.dev) (λ there.
    Shows (512 * first.reported.request.lba + j)
    (Some (slice_index first.reported.submitted.at.host.memory.client
    (place first.reported.request.prds.items j - client_start))) there.unit)

-- In one run a FLUSH is polled as Done at its end. Its device is a disk, which was left alone from its
-- plugging as the connection of the report up to that report. Then the disk took a FLUSH after that one was
-- submitted, and all writes that were polled as Done before it was submitted are on its medium.
abbrev pub FlushesFollowWrites : Type 0
FlushesFollowWrites =
    (config : Config) (units : List Attached) → is_config config (length units) ≡ true
    → (steps : List Step) (answers : List Answer) (now : Places)
    (run : Run (new_world config units) steps answers now) (flushed : Completion)
    (last : IsPolledHonestly config units now steps answers run flushed)
    → last.reported.request.work ≡ Flush
    → (sectors : ℕ) (plan : DiskPlan) (past : List Happening) → HasDisk units last.reported.dev plan sectors past
    → (d : IsLeftSince last.reported.dev last.reported.conn (new_world config units) last.reported.took.at
    last.reported.took.before last.reported.took.told last.reported.took.came)
    → FlushedSince config units last.reported.dev last.reported.took.at
    (disk_run config units last.reported.dev last.reported.conn last.reported.took.at
    last.reported.took.before last.reported.took.told last.reported.took.came d) past
    (new_entry flushed.ticket.0 last.reported.dev last.reported.request)
    × HasWrites config units steps answers now run flushed last sectors plan past
    (disk_run config units last.reported.dev last.reported.conn last.reported.took.at
    last.reported.took.before last.reported.took.told last.reported.took.came d)
