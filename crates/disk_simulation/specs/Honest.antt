-- Honest disks, at the host's end of a link: what a queued command that is done brought, or left on the
-- medium (ACS-3, READ FPDMA QUEUED and WRITE FPDMA QUEUED; Serial ATA 3.x, 13.6, native command queuing).
-- Whatever is in transit between disk and host at that moment, the device's history at the host port tells of
-- the disk's own sectors.
use Rattle.std.specs.Prelude.{ℕ, ◌≡◌, ◌*◌, ◌<◌, ◌≤◌, true, false, List, ◌∷◌, length, slice_get, Option, Some, Ok}
use Rattle.fis_view.specs.{Table.{Bits, SActive, field}, Seen.seen}
use Rattle.fis_view.specs.declared.view.Fis.TheVariants as view
use Rattle.slots.specs.Work.{is_queued}
use Rattle.disk_model.specs.{declared.plan.DiskPlan.DiskPlan, Chunks.sectors_at, Ends.{IsCareful, IsLinked, IsRight}, Histories.Happening}
use Rattle.disk_model.specs.{Ledger.{IsSize, Ledger, ReadOut, Written, ledger, medium_with}, Runs.IsDiskRun}
use Rattle.hba_laws.specs.History.{History, Named, Transfer, completes, filled, issued}
use Rattle.disk_simulation.specs.{Together.Same, Same.SlotCommand}

-- each byte of this many is filled, with the one at its place among these
abbrev pub AreFilledBy : (ℕ → Option ℕ) → ℕ → List ℕ → Type 0
AreFilledBy filled len bytes = (i : ℕ) → i < len
    → (filled i ≡ slice_get bytes i) × (i < length bytes)

-- A read brought its sectors of the medium as they were when the disk started it. The medium then had all
-- writes that had ended when the read was issued.
pub record BroughtSectors (sectors : ℕ) (c : SlotCommand) (filled : ℕ
    → Option ℕ) (len : ℕ) (host : Ledger) : Type 0 where
  pub at : ℕ
  pub read : ReadOut
  pub ended : slice_get host.reads at ≡ Some read
  pub command : read.command ≡ c.command
  pub since : c.since ≤ length read.before
  pub bytes : AreFilledBy filled len
      (sectors_at (medium_with sectors read.before) c.command.lba c.command.count)

-- A write is on the medium: the disk entered the bytes that were transferred, at the command's place, after
-- all writes that had ended when it was issued.
pub record IsOnMedium (c : SlotCommand) (filled : ℕ → Option ℕ) (len : ℕ) (disk : Ledger) : Type 0 where
  pub at : ℕ
  pub written : Written
  pub entered : slice_get disk.writes at ≡ Some written
  pub since : c.since ≤ at
  pub tag : written.tag ≡ c.command.tag
  pub place : written.at ≡ 512 * c.command.lba
  pub long : length written.bytes ≡ 512 * c.command.count
  pub bytes : AreFilledBy filled len written.bytes

pub record IsDoneHonestly (sectors : ℕ) (c : SlotCommand) (filled : ℕ
    → Option ℕ) (len : ℕ) (disk host : Ledger) : Type 0 where
  pub reads : c.command.write ≡ false → BroughtSectors sectors c filled len host
  pub writes : c.command.write ≡ true → IsOnMedium c filled len disk

-- This holds for each queued command that a Set Device Bits FIS completes when the host receives it next.
abbrev pub DoneIsHonest : Type 0
DoneIsHonest =
    (plan : DiskPlan) (sectors : ℕ) (disk host : List Happening) (down up : List (List ℕ))
    (bytes f : List ℕ)
    → IsSize plan sectors → IsDiskRun plan sectors disk → IsLinked disk host down (bytes ∷ up)
    → IsCareful host
    → seen bytes ≡ Ok (view.SetBits f)
    → (commands : ℕ → SlotCommand) (past : History) → Same commands past (ledger host)
    → (s : ℕ) (t : Transfer) → issued s past ≡ Some t → is_queued t.work.kind ≡ true
    → completes s (Named (field Bits SActive f)) past t.work ≡ true
    → IsDoneHonestly sectors (commands s) (filled s past) t.work.len (ledger disk) (ledger host)

-- Whatever the host receives next moves data, answers and replies as is due there, and reports no error.
abbrev pub NextIsRight : Type 0
NextIsRight =
    (plan : DiskPlan) (sectors : ℕ) (disk host : List Happening) (down up : List (List ℕ))
    (bytes : List ℕ)
    → IsSize plan sectors → IsDiskRun plan sectors disk → IsLinked disk host down (bytes ∷ up)
    → IsCareful host
    → IsRight (ledger host) (seen bytes)
