-- What a request that is done means to a disk. A read brought the sectors of the medium as they were
-- when the disk started it. A write is on the medium (ACS-3, READ FPDMA QUEUED and WRITE FPDMA
-- QUEUED; AHCI 1.3.1, 4.2.3.3, Physical Region Descriptor Table). The ledger of FISes comes from
-- `disk_model` (specs/Ledger.antt), entries from `hba_driver` (specs/Drivers.antt).
use Rattle.std.specs.Prelude.{ℕ, ◌≡◌, ◌-◌, ◌*◌, ◌<◌, ◌≤◌, ◌++◌, List, ◌∷◌, length, slice_get, slice_index, Option, Some}
use Rattle.host_memory.specs.{Memory.{Memory, client_start}, Place.{LiesInClient, place}, declared.table.Prd.Prd}
use Rattle.disk_model.specs.{declared.{request.Command.Command, request.Request.TheVariants.Flush}, Anew.IsRequest, Chunks.sectors_at, Fronts.IsFront}
use Rattle.disk_model.specs.{Histories.{Happening, Received}, Ledger.{ReadOut, Written, ledger, medium_with}}
use Rattle.hba_driver.specs.{declared.{request.Work.TheVariants.{Read, Write}, slot.Head.Head}, Drivers.Entry}

-- byte i of these stands in client memory, where the PRDs say
pub record StandsAt (bytes : List ℕ) (prds : List Prd) (memory : Memory) (i : ℕ) : Type 0 where
  pub inside : LiesInClient (length memory.client) (place prds i) 1
  pub is : slice_get bytes i ≡ Some (slice_index memory.client (place prds i - client_start))

-- the command is that of the request in slot s
pub record IsCommandOf (s : ℕ) (head : Head) (c : Command) : Type 0 where
  pub tag : c.tag ≡ s
  pub lba : c.lba ≡ head.lba
  pub count : c.count ≡ head.sectors

-- A read that the disk ended. Its bytes stand in client memory, each at its place, and are its
-- sectors of the medium, as the writes that had ended when the disk started it left them. Those
-- writes are the first of all that ended by now, and include all that had ended when the request was
-- submitted.
pub record ReadsSectors (sectors s : ℕ) (e : Entry) (submitted happened : List Happening)
    (memory : Memory) : Type 0 where
  pub at : ℕ
  pub read : ReadOut
  pub ended : slice_get (ledger happened).reads at ≡ Some read
  pub command : IsCommandOf s e.head read.command
  pub since : IsFront (ledger submitted).writes read.before
  pub until : IsFront read.before (ledger happened).writes
  pub brought : (i : ℕ) → i < 512 * e.head.sectors
      → StandsAt (sectors_at (medium_with sectors read.before) e.head.lba e.head.sectors) e.prds
      memory i

-- A write that the disk entered on its medium: in its sectors, with exactly the bytes of its transfer
-- that went over, after all writes that had ended when the request was submitted.
pub record WritesSectors (s : ℕ) (e : Entry) (submitted happened : List Happening)
    (filled : ℕ → Option ℕ) : Type 0 where
  pub at : ℕ
  pub written : Written
  pub entered : slice_get (ledger happened).writes at ≡ Some written
  pub since : length (ledger submitted).writes ≤ at
  pub tag : written.tag ≡ s
  pub place : written.at ≡ 512 * e.head.lba
  pub long : length written.bytes ≡ 512 * e.head.sectors
  pub bytes : (i : ℕ) → i < 512 * e.head.sectors → filled i ≡ slice_get written.bytes i

-- the request of an entry ended honestly, by what had happened to the disk when it was submitted, and
-- by now
pub record EndsHonestly (sectors s : ℕ) (e : Entry) (submitted happened : List Happening)
    (filled : ℕ → Option ℕ) (memory : Memory) : Type 0 where
  pub reads : e.head.work ≡ Read → ReadsSectors sectors s e submitted happened memory
  pub writes : e.head.work ≡ Write → WritesSectors s e submitted happened filled

-- ---- a FLUSH

-- among all this the disk took a FLUSH CACHE EXT
pub record TookFlush (happened : List Happening) : Type 0 where
  pub front : List Happening
  pub bytes : List ℕ
  pub back : List Happening
  pub took : happened ≡ front ++ Received bytes ∷ back
  pub asks : IsRequest bytes Flush
