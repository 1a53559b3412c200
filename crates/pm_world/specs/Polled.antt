-- What a poll tells of an honest disk. A read that is polled as Done has the sectors of the medium in
-- client memory. A write that is polled as Done is on the medium (ACS-3, READ FPDMA QUEUED and WRITE
-- FPDMA QUEUED; Serial ATA 3.x, 13.6, native command queuing; AHCI 1.3.1, 4.2.3.3, Physical Region
-- Descriptor Table, and 5.3, data transfer).
--
-- Cited: runs of a world and what is told over them (specs/Rules.antt, Runs.antt); a disk, its run,
-- and requests that ended honestly (specs/Disks.antt). DoneIsTrue of `hba_driver` (specs/Done.antt)
-- says that the slot of a request is completed by its device.
use Rattle.std.specs.Prelude.{ℕ, ◌≡◌, ◌-◌, ◌*◌, ◌<◌, ◌==◌, true, List, [], ◌∷◌, length, if◌then◌else◌, slice_index, All, Some, Ok, false}
use Rattle.host_memory.specs.{Memory.{Memory, client_start}, Place.{LiesInClient, place}, declared.table.Prd.Prd}
use Rattle.slots.specs.Slots.{has_bit}
use Rattle.hba_fbs.specs.{declared.report.TakeReport.TakeReport, Taking.port_of}
use Rattle.disk_model.specs.{declared.plan.DiskPlan.DiskPlan, Histories.Happening}
use Rattle.hba_laws.specs.{Client.{Touches, own}, History.filled}
use Rattle.hba_driver.specs.declared.request.{Completion.Completion, Outcome.TheVariants.Done, Request.Request, Ticket.Ticket, Work.TheVariants.Read}
use Rattle.hba_driver.specs.{declared.slot.Phase.TheVariants.Issued, Drivers.{entry_at, rephased}, Orders.is_queued, Submits.new_entry}
use Rattle.pm_world.specs.{Attached.Attached, Places.{Places, is_config, new_world}, Rules.{Rule, Run}, Runs.{IsStepOf, Telling, over}}
use Rattle.pm_world.specs.{HostTouches.AreTouched, Turns.turn_of, declared.step.{Config.Config, Step.Step, Answer.Answer}, Disks.DiskRun}
use Rattle.pm_world.specs.Disks.{EndedSince, FlushedSince, HasDisk}
use Rattle.pm_world.specs.declared.step.Step.TheVariants as step
use Rattle.pm_world.specs.declared.step.Answer.TheVariants as answer

-- ---- where it was reported

-- In this run a request was submitted under the ticket. Later a FIS of its device was taken whose
-- report says that the command of the slot is done. The request stood there then, and was issued.
pub record IsReportedIn (ticket : Ticket) (slot : ℕ) (old now : Places) (steps : List Step)
    (answers : List Answer) (run : Run old steps answers now) : Type 0 where
  pub dev : ℕ
  pub request : Request
  pub conn : ℕ
  pub number : ℕ
  pub bytes : List ℕ
  pub report : TakeReport
  pub took : IsStepOf step.HostTake (answer.Took dev conn number bytes report) old now steps answers
      run
  pub of_dev : port_of bytes ≡ dev
  pub done : has_bit report.done slot ≡ true
  pub submitted : IsStepOf (step.Submit dev request) (answer.Submitted ticket) old took.at
      took.before took.told took.came
  pub issued : entry_at took.at.host.driver.entries slot
      ≡ Some (rephased Issued (new_entry ticket.0 dev request))

-- the connection on which the host took a FIS of port n in this step
abbrev pub connection_by : ℕ → Telling ℕ
connection_by n old s (answer.Took port conn number bytes report) new =
    if port == n then conn ∷ [] else []
connection_by n old s a new = []

-- byte i of a read was filled by Data of its device, and stands in client memory where the PRDs say
pub record IsFilledAt (dev slot i : ℕ) (prds : List Prd) (touches : Touches) (memory : Memory) : Type 0 where
  pub byte : ℕ
  pub is_filled : filled slot (own dev touches) i ≡ Some byte
  pub inside : LiesInClient (length memory.client) (place prds i) 1
  pub stands : slice_index memory.client (place prds i - client_start) ≡ byte

-- ---- the law

-- A request that is polled as Done was reported, and each byte of a read was filled by Data of its
-- device and stands. Let the request be queued, let its device be a disk, and let the disk be left
-- alone from the step that plugged it in as the connection of that FIS up to the report. Then the
-- request ended honestly since it was submitted in that run, whatever errors the disk reported and
-- whatever faults the host found. What the disk does after the report, up to the poll, does not
-- matter, and what other devices do never does.
pub record IsPolledHonestly (config : Config) (units : List Attached) (now : Places) (steps : List Step)
    (answers : List Answer) (run : Run (new_world config units) steps answers now)
    (completion : Completion) : Type 0 where
  pub reported : IsReportedIn completion.ticket completion.slot (new_world config units) now steps
      answers run
  -- whatever its device is: what was touched at the host up to the report, and the bytes of a read
  pub touches : Touches
  pub touched : AreTouched config.memory
      (over turn_of (new_world config units) reported.took.before reported.took.told reported.took.at
      reported.took.came) reported.took.at.host touches
  pub placed : reported.request.work ≡ Read → (i : ℕ) → i < 512 * reported.request.sectors
      → IsFilledAt reported.dev completion.slot i reported.request.prds.items touches now.host.memory
  -- all that the host took of its device from its submit up to the report is of one connection, that
  -- of the report; so the Data that filled those bytes are, too
  pub of_one : All (λ c. c ≡ reported.conn) (over (connection_by reported.dev) reported.submitted.next
      reported.submitted.after reported.submitted.later reported.took.at reported.submitted.went)
  -- for a disk
  pub honest : (sectors : ℕ) (plan : DiskPlan) (past : List Happening) → HasDisk units reported.dev plan sectors past
      → is_queued reported.request.work ≡ true
      → (d : DiskRun config units reported.dev reported.took.at) → reported.conn ≡ d.conn
      → EndedSince config units reported.dev reported.took.at d past sectors completion.slot
      (new_entry completion.ticket.0 reported.dev reported.request) now.host.memory
  -- and where it is a FLUSH, the disk took one since it was submitted
  pub flushed : (sectors : ℕ) (plan : DiskPlan) (past : List Happening) → HasDisk units reported.dev plan sectors past
      → is_queued reported.request.work ≡ false
      → (d : DiskRun config units reported.dev reported.took.at) → reported.conn ≡ d.conn
      → FlushedSince config units reported.dev reported.took.at d past
      (new_entry completion.ticket.0 reported.dev reported.request)

-- That holds for each poll that answers Done, after every run from a new world.
abbrev pub HonestPolls : Type 0
HonestPolls =
    (config : Config) (units : List Attached) → is_config config (length units) ≡ true
    → (steps : List Step) (answers : List Answer) (now : Places)
    (run : Run (new_world config units) steps answers now) (completion : Completion) (new : Places)
    → Rule now step.Poll (Ok (answer.Polled completion)) new → completion.outcome ≡ Done
    → IsPolledHonestly config units now steps answers run completion
