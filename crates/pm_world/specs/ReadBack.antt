-- What a write means to later requests and to the medium (ACS-3, READ FPDMA QUEUED and WRITE FPDMA
-- QUEUED). A read that was submitted once the write had ended brings the bytes of the write. They
-- stay on the medium until a later write has them.
--
-- Cited: requests that ended honestly since they were submitted (specs/Disks.antt, HonestEnds.antt). Which
-- writes have a byte of a medium comes from `disk_model` (specs/Last.antt).
use Rattle.std.specs.Prelude.{ℕ, ◌≡◌, ◌+◌, ◌-◌, ◌*◌, ◌<◌, ◌++◌, suc, true, drop, List, length, slice_get, slice_index, IsSomeAnd, Option, Some}
use Rattle.host_memory.specs.{Memory.{Memory, client_start}, Place.place}
use Rattle.disk_model.specs.{declared.{plan.DiskPlan.DiskPlan, unit.Unit.TheVariants.{Disk, Scripted}}, Histories.Happening, Last.NoneCovers}
use Rattle.disk_model.specs.{Ledger.ledger, Runs.{IsDiskRun, moment}}
use Rattle.hba_laws.specs.{Client.own, History.filled}
use Rattle.hba_driver.specs.{declared.request.Work.TheVariants.{Read, Write}, Drivers.Entry}
use Rattle.pm_world.specs.{Attached.{Attached, Modelled, Own}, Disks.{DiskRun, EndedSince, HasDisk, disk_history}, Places.{Places, is_config}}
use Rattle.pm_world.specs.{Rules.Run, Runs.over, Units.happens, declared.{step.Answer.Answer, step.Step.Step, step.Config.Config}}

-- what happened first of all this
pub record IsPart (part whole : List Happening) : Type 0 where
  pub later : List Happening
  pub is : whole ≡ part ++ later

-- byte i of the sectors of a read is byte j of those of a write
pub record IsOneByte (read write : Entry) (i j : ℕ) : Type 0 where
  pub of_read : i < 512 * read.head.sectors
  pub of_write : j < 512 * write.head.sectors
  pub same : 512 * read.head.lba + i ≡ 512 * write.head.lba + j

-- A read was submitted after all by which a write had ended. Take each byte that both have and that
-- no write has which ended after that write and before the read began. Client memory has at the
-- read's place what went over for the write.
abbrev pub ReadsBringWrites : Type 0
ReadsBringWrites =
    (config : Config) (units : List Attached) (n sectors : ℕ) (plan : DiskPlan) (past : List Happening)
    → is_config config (length units) ≡ true → n < 15 → HasDisk units n plan sectors past
    → (was now : Places) (d : DiskRun config units n was) (f : DiskRun config units n now) (s t : ℕ)
    (write read : Entry)
    (m l : Memory) (writes : write.head.work ≡ Write) (reads : read.head.work ≡ Read)
    (w : EndedSince config units n was d past sectors s write m)
    (r : EndedSince config units n now f past sectors t read l)
    → IsPart (disk_history config units n was d past) r.before
    → (i j : ℕ) → IsOneByte read write i j
    → NoneCovers (512 * read.head.lba + i)
    (drop (suc (w.ends.writes writes).at) (r.ends.reads reads).read.before)
    → filled s (own n w.touches) j ≡ Some (slice_index l.client (place read.prds i - client_start))

-- A write that ended stays on the medium, whatever happens to the disk from there on: each byte of it
-- is there, except those that later writes have.
abbrev pub WritesStayThere : Type 0
WritesStayThere =
    (config : Config) (units : List Attached) (n sectors : ℕ) (plan : DiskPlan) (past : List Happening)
    → HasDisk units n plan sectors past
    → (was : Places) (d : DiskRun config units n was) (s : ℕ) (write : Entry) (m : Memory)
    (writes : write.head.work ≡ Write)
    (w : EndedSince config units n was d past sectors s write m)
    → (history : List Happening) → IsDiskRun plan sectors history
    → IsPart (disk_history config units n was d past) history
    → (j : ℕ) → j < 512 * write.head.sectors
    → NoneCovers (512 * write.head.lba + j) (drop (suc (w.ends.writes writes).at) (ledger history).writes)
    → slice_get (moment plan sectors history).medium (512 * write.head.lba + j) ≡ filled s (own n w.touches) j

-- the unit is a disk, and byte i of its medium is this one
abbrev pub Shows : (i : ℕ) → (byte : Option ℕ) → Attached → Type 0
Shows i byte (Modelled (Disk disk)) = slice_get disk.now.medium i ≡ byte
Shows i byte (Modelled (Scripted reading)) = ⊥
Shows i byte Own = ⊥

-- That holds in each world to which steps lead from there: the disk at that port has the bytes of the
-- write on its medium, except those that later writes have.
abbrev pub DisksHaveWrites : Type 0
DisksHaveWrites =
    (config : Config) (units : List Attached) (n sectors : ℕ) (plan : DiskPlan) (past : List Happening)
    → is_config config (length units) ≡ true → HasDisk units n plan sectors past
    → (was : Places) (d : DiskRun config units n was) (s : ℕ) (write : Entry) (m : Memory)
    (writes : write.head.work ≡ Write)
    (w : EndedSince config units n was d past sectors s write m)
    → (steps : List Step) (answers : List Answer) (now : Places) (run : Run was steps answers now)
    → (j : ℕ) → j < 512 * write.head.sectors
    → NoneCovers (512 * write.head.lba + j)
    (drop (suc (w.ends.writes writes).at)
    (ledger (disk_history config units n was d past ++ over (happens n) was steps answers now run)).writes)
    → IsSomeAnd (slice_get now.devices n) (λ place.
    Shows (512 * write.head.lba + j) (filled s (own n w.touches) j) place.unit)
