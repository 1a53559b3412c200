-- The bytes of a write are those with which it was submitted. The host sent these for it, so a disk
-- has these on its medium (AHCI 1.3.1, 4.2.3.3, Physical Region Descriptor Table, and 5.3, data
-- transfer; Serial ATA 3.x, 10.5, Data FIS; ACS-3, WRITE FPDMA QUEUED).
--
-- Cited: where a request was submitted and reported, and requests that were polled (specs/Polled.antt);
-- touches (specs/HostTouches.antt); requests that ended honestly (specs/HonestEnds.antt, Disks.antt); which bytes a
-- read and a write both have (specs/ReadBack.antt).
use Rattle.std.specs.Prelude.{ℕ, ◌≡◌, ◌+◌, ◌-◌, ◌*◌, ◌<◌, suc, true, drop, List, length, slice_index, Some}
use Rattle.host_memory.specs.{Memory.{Memory, client_start}, Place.{LiesInClient, place}, declared.table.Prd.Prd}
use Rattle.disk_model.specs.{declared.plan.DiskPlan.DiskPlan, Histories.Happening, Last.NoneCovers}
use Rattle.hba_laws.specs.{Client.{Touches, own}, History.filled}
use Rattle.hba_driver.specs.{declared.{request.Completion.Completion, request.Ticket.Ticket, request.Work.TheVariants.{Read, Write}}, Drivers.Entry}
use Rattle.hba_driver.specs.{HostTurns.HostTurn, Orders.is_queued, Submits.new_entry}
use Rattle.pm_world.specs.{Attached.Attached, Places.{Places, is_config, new_world}, Rules.Run, declared.{step.Config.Config, step.Step.Step}}
use Rattle.pm_world.specs.{declared.step.Answer.Answer, Disks.{DiskRun, EndedSince, HasDisk, disk_history}, HonestEnds.StandsAt}
use Rattle.pm_world.specs.{Polled.{IsPolledHonestly, IsReportedIn}, ReadBack.{IsOneByte, IsPart}, HostTouches.AreTouched}

-- this byte stands in client memory at the place of byte i of these PRDs
pub record StandsThere (byte : ℕ) (prds : List Prd) (memory : Memory) (i : ℕ) : Type 0 where
  pub inside : LiesInClient (length memory.client) (place prds i) 1
  pub is : slice_index memory.client (place prds i - client_start) ≡ byte

-- ---- what the host sent

-- Nothing is asked of devices. A write was submitted in a run from a new world and reported as done.
-- Then each byte of it that went to its device is the byte that stood in client memory at its place
-- when the write was submitted, whatever devices send, and whatever is put and submitted in between.
abbrev pub SentAsSubmitted : Type 0
SentAsSubmitted =
    (config : Config) (units : List Attached) → is_config config (length units) ≡ true
    → (steps : List Step) (answers : List Answer) (now : Places)
    (run : Run (new_world config units) steps answers now) (ticket : Ticket) (slot : ℕ)
    (r : IsReportedIn ticket slot (new_world config units) now steps answers run)
    → r.request.work ≡ Write
    → (turns : List HostTurn) (touches : Touches)
    → AreTouched config.memory turns r.took.at.host touches
    → (i byte : ℕ) → i < 512 * r.request.sectors → filled slot (own r.dev touches) i ≡ Some byte
    → StandsThere byte r.request.prds.items r.submitted.at.host.memory i

-- ---- what is on the medium

-- A write that is polled as Done is on the medium of its disk with the bytes that stood in client
-- memory at its places when it was submitted.
abbrev pub WrittenAsSubmitted : Type 0
WrittenAsSubmitted =
    (config : Config) (units : List Attached) → is_config config (length units) ≡ true
    → (steps : List Step) (answers : List Answer) (now : Places)
    (run : Run (new_world config units) steps answers now) (completion : Completion)
    (polled : IsPolledHonestly config units now steps answers run completion)
    → (writes : polled.reported.request.work ≡ Write)
    → (sectors : ℕ) (plan : DiskPlan) (past : List Happening) (disk : HasDisk units polled.reported.dev plan sectors past)
    (queued : is_queued polled.reported.request.work ≡ true)
    (d : DiskRun config units polled.reported.dev polled.reported.took.at)
    (same : polled.reported.conn ≡ d.conn)
    → (i : ℕ) → i < 512 * polled.reported.request.sectors
    → StandsAt ((polled.honest sectors plan past disk queued d same).ends.writes writes).written.bytes
    polled.reported.request.prds.items polled.reported.submitted.at.host.memory i

-- ---- read after write

-- A read was submitted after all by which a write had ended, and is polled as Done. Take each byte
-- that both have and that no write has which ended after that write and before the read began. Client
-- memory has at the read's place what it had at the write's place when the write was submitted.
abbrev pub ReadsBringSubmitted : Type 0
ReadsBringSubmitted =
    (config : Config) (units : List Attached) → is_config config (length units) ≡ true
    → (steps : List Step) (answers : List Answer) (was : Places)
    (run : Run (new_world config units) steps answers was) (completion : Completion)
    (polled : IsPolledHonestly config units was steps answers run completion)
    → (writes : polled.reported.request.work ≡ Write)
    → (sectors : ℕ) (plan : DiskPlan) (past : List Happening) (disk : HasDisk units polled.reported.dev plan sectors past)
    (queued : is_queued polled.reported.request.work ≡ true)
    (d : DiskRun config units polled.reported.dev polled.reported.took.at)
    (same : polled.reported.conn ≡ d.conn)
    → (now : Places) (f : DiskRun config units polled.reported.dev now) (t : ℕ) (read : Entry)
    (l : Memory) (reads : read.head.work ≡ Read)
    (r : EndedSince config units polled.reported.dev now f past sectors t read l)
    → IsPart (disk_history config units polled.reported.dev polled.reported.took.at d past) r.before
    → (i j : ℕ)
    → IsOneByte read (new_entry completion.ticket.0 polled.reported.dev polled.reported.request) i j
    → NoneCovers (512 * read.head.lba + i)
    (drop (suc ((polled.honest sectors plan past disk queued d same).ends.writes writes).at)
    (r.ends.reads reads).read.before)
    → StandsThere (slice_index l.client (place read.prds i - client_start))
    polled.reported.request.prds.items polled.reported.submitted.at.host.memory j
