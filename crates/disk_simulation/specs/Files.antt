-- The task file that a host port has of an honest disk (AHCI 1.3.1, 3.3.8, PxTFD, and 5.3.13, how a port
-- receives each type of FIS; ACS-3, 6.2, Status field). Status.ERR is 0 from the first FIS after both began
-- anew, as long as the disk reports no error by a Set Device Bits FIS.
use Rattle.std.specs.Prelude.{ℕ, ◌≡◌, ◌<◌, ◌⊎◌, ◌++◌, true, false, List, [], ◌∷◌, Option, Some, None, Result, Ok, is_some}
use Rattle.fis_view.specs.{Frames.{IsFrame, Stamped, marked}, Seen.seen, Table.{EStatus, Pio, field}, declared.{view.Fis.Fis, view.FisFault.FisFault}}
use Rattle.fis_view.specs.declared.view.Fis.TheVariants as view
use Rattle.hba_fbs.specs.{declared.{report.TakeReport.TakeReport, status.Block.Block, register.Register.TheVariants.Ci}, Status.is_error}
use Rattle.hba_fbs.specs.{Taking.port_of, Views.{DeviceView, view_of}}
use Rattle.disk_model.specs.{declared.plan.DiskPlan.DiskPlan, Anew.{IsCarefulSince, IsClear, OwesOnly}, Ends.reports, Histories.{Happening, Sent}}
use Rattle.disk_model.specs.{Ledger.{Accepts, Finishes, IsSize, Ledger, Refuses, Reply, ShowsPage, Signs, Wanted, ledger}, Runs.IsDiskRun}
use Rattle.hba_laws.specs.Hosts.{Does, Gave, Host, TakesFrame, Wrote}
use Rattle.disk_simulation.specs.{Line.{EachReply, IsSigning, IsWatchedWell}, Watched.IsPlainSince}

-- ---- what a disk sends

-- A disk sends only FISes for a host, and no error is set at the end of a page.
abbrev pub IsOfDisk : Result Fis FisFault → Type 0
IsOfDisk (Ok (view.RegH2D f)) = ⊥
IsOfDisk (Ok (view.RegD2H f)) = Unit {0}
IsOfDisk (Ok (view.SetBits f)) = Unit {0}
IsOfDisk (Ok (view.DmaActivate f)) = Unit {0}
IsOfDisk (Ok (view.DmaSetup f)) = Unit {0}
IsOfDisk (Ok (view.PioSetup f)) = field Pio EStatus f ≡ 0x50
IsOfDisk (Ok (view.Payload f)) = Unit {0}
IsOfDisk (Ok (view.Unknown f)) = ⊥
IsOfDisk _ = ⊥

abbrev pub DisksSendTheirs : Type 0
DisksSendTheirs =
    (plan : DiskPlan) (sectors : ℕ) (disk : List Happening) (bytes : List ℕ) → IsSize plan sectors
    → IsDiskRun plan sectors (disk ++ Sent bytes ∷ []) → IsOfDisk (seen bytes)

-- ---- what is refused

abbrev pub IsNoRefusal : Reply → Type 0
IsNoRefusal Signs = Unit {0}
IsNoRefusal Accepts = Unit {0}
IsNoRefusal Finishes = Unit {0}
IsNoRefusal Refuses = ⊥
IsNoRefusal ShowsPage = Unit {0}

-- no refusal is due
abbrev pub IsUnrefused : Ledger → Type 0
IsUnrefused k = EachReply IsNoRefusal k.awaited

-- A careful host that gives only plain FISes is due no refusal.
abbrev pub NothingIsRefused : Type 0
NothingIsRefused =
    (base given : List Happening) → IsUnrefused (ledger base) → IsPlainSince base given
    → IsCarefulSince base given → IsUnrefused (ledger given)

-- ---- where both begin

-- what is told where both begin anew, with a signature or a page to come
pub record IsBegun (k : Ledger) : Type 0 where
  pub clear : IsClear k
  pub signing : IsSigning k
  pub unrefused : IsUnrefused k

pub record BothHaveBegun : Type 0 where
  pub signs : (k : Ledger) → OwesOnly k (Signs ∷ []) [] → IsBegun k
  pub shows : (k : Ledger) (page : Wanted) → OwesOnly k (ShowsPage ∷ []) (page ∷ []) → IsBegun k

-- ---- the task file

-- the block of a PIO Setup ends without an error
abbrev pub IsFineBlock : Option Block → Type 0
IsFineBlock None = Unit {0}
IsFineBlock (Some block) = is_error block.ends ≡ false

-- so does the block whose data is still to come, if there is one
abbrev pub EndsFine : DeviceView → Type 0
EndsFine v = (v.slots.context ≡ None) ⊎ IsFineBlock v.state.block

-- no error is set in Status, and none will be at the end of a block
pub record IsFineFile (v : DeviceView) : Type 0 where
  pub status : is_error v.state.status ≡ false
  pub ends : EndsFine v

-- A FIS comes next from a watched disk, and the port does not ignore it. It is not an error that the disk
-- reports, though the port may find a fault in it.
pub record IsNextHeard (plan : DiskPlan) (sectors : ℕ) (base disk given : List Happening)
    (down up : List (List ℕ)) (bytes : List ℕ) (n : ℕ) (host : Host) (report : TakeReport)
    (new : Host) : Type 0 where
  pub well : IsWatchedWell plan sectors base disk given down (bytes ∷ up)
  pub unrefused : IsUnrefused (ledger base)
  pub fine : reports (seen bytes) ≡ false
  pub below : n < 15
  pub framed : IsFrame bytes
  pub from : port_of (marked bytes n) ≡ n
  pub takes : TakesFrame host (marked bytes n) report new
  pub heard : report.ignored ≡ false

pub record FilesStayFine : Type 0 where
  -- the task file stays without an error
  pub stays : (plan : DiskPlan) (sectors : ℕ) (base disk given : List Happening)
      (down up : List (List ℕ)) (bytes : List ℕ) (n : ℕ) (host : Host) (report : TakeReport)
      (new : Host)
      → IsNextHeard plan sectors base disk given down up bytes n host report new
      → IsFineFile (view_of n host.port) → IsFineFile (view_of n new.port)
  -- the first FIS after both began anew makes it so, whatever it was before, or has a fault
  pub first : (plan : DiskPlan) (sectors : ℕ) (base disk given : List Happening)
      (down up : List (List ℕ)) (bytes : List ℕ) (n : ℕ) (host : Host) (report : TakeReport)
      (new : Host)
      → IsNextHeard plan sectors base disk given down up bytes n host report new
      → IsClear (ledger base) → given ≡ base → (view_of n host.port).slots.context ≡ None
      → IsFineFile (view_of n new.port) ⊎ (is_some report.fault ≡ true)

-- What the host gives the device, and what it issues for it, leaves the task file.
pub record FilesAreLeft : Type 0 where
  pub gives : (n : ℕ) (host new : Host) (frame : Option Stamped) → Does host (Gave frame) new
      → IsFineFile (view_of n host.port) → IsFineFile (view_of n new.port)
  pub issues : (n value : ℕ) (host new : Host) → n < 16 → Does host (Wrote Ci value) new
      → IsFineFile (view_of n host.port) → IsFineFile (view_of n new.port)
