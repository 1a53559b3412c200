-- What becomes of a host and of a disk that it watches, at each FIS from the disk that is not ignored,
-- whatever fault the port finds in it (AHCI 1.3.1, 5.3.13, how a port receives FISes, and 9.3; Serial ATA
-- 3.x, 13.6, native command queuing, on errors). There are three outcomes. The host goes on watching the
-- disk. Or it sets the disk aside, and the disk failed and rests. Or it sets the disk aside, the disk goes
-- on, and Status.ERR of its task file is 0.
use Rattle.std.specs.Prelude.{ℕ, ◌≡◌, ◌<◌, ◌⊎◌, ◌++◌, false, List, [], ◌∷◌, None}
use Rattle.fis_view.specs.{Frames.{IsFrame, marked}, Seen.seen}
use Rattle.hba_fbs.specs.{declared.report.TakeReport.TakeReport, Taking.port_of, Views.view_of}
use Rattle.disk_model.specs.{declared.plan.DiskPlan.DiskPlan, Anew.OwesOnly, Ends.Fits, Histories.{Happening, Sent}}
use Rattle.disk_model.specs.Ledger.{Ledger, Reply, Wanted, ledger}
use Rattle.hba_laws.specs.{Client.own, Delivering.touched, History.History, Hosts.{Host, TakesFrame, Took}, Sound.IsHost}
use Rattle.disk_simulation.specs.{Anew.IsHostedOn, Aside.IsAside, Files.{IsFineFile, IsUnrefused}, Line.{Failed, IsWatchedWell, Loose, OnLine}}
use Rattle.disk_simulation.specs.{Phases.AreWatching, Same.SlotCommand}

-- The host heard nothing of the disk since both began anew, or the disk's task file has no error.
abbrev pub HasFineFile : ℕ → Host → (base given : List Happening) → Type 0
HasFineFile n host base given = (given ≡ base) ⊎ IsFineFile (view_of n host.port)

-- a FIS comes next from a watched disk, and the port does not ignore it
pub record IsNextTaken (plan : DiskPlan) (sectors : ℕ) (base disk given : List Happening)
    (down up : List (List ℕ)) (bytes : List ℕ) (n : ℕ) (host : Host) (report : TakeReport)
    (new : Host) (commands : ℕ → SlotCommand) (past : History) : Type 0 where
  pub well : IsWatchedWell plan sectors base disk given down (bytes ∷ up)
  pub unrefused : IsUnrefused (ledger base)
  pub sound : IsHost host
  pub below : n < 15
  pub plain : IsFrame bytes
  pub framed : IsFrame (marked bytes n)
  pub from : port_of (marked bytes n) ≡ n
  pub hosted : IsHostedOn n base host given commands past
  pub file : HasFineFile n host base given
  pub takes : TakesFrame host (marked bytes n) report new
  pub heard : report.ignored ≡ false

pub data Outcome (n : ℕ) (base disk given : List Happening) (down up : List (List ℕ))
    (bytes : List ℕ) (new : Host) (commands : ℕ → SlotCommand) (past : History) : Type 0 where
  Watches : AreWatching n base disk (given ++ Sent bytes ∷ []) down up new commands past
      → IsFineFile (view_of n new.port) → Outcome n base disk given down up bytes new commands past
  Fails : IsAside n new past → OnLine Failed (ledger disk) down up
      → Outcome n base disk given down up bytes new commands past
  Loosens : IsAside n new past → OnLine Loose (ledger disk) down up
      → HasFineFile n new base given → Outcome n base disk given down up bytes new commands past

-- There are no other outcomes, if the FIS does not stop the port.
abbrev pub EachTakenHasOutcome : Type 0
EachTakenHasOutcome =
    (plan : DiskPlan) (sectors : ℕ) (base disk given : List Happening)
    (down up : List (List ℕ)) (bytes : List ℕ) (n : ℕ) (host : Host) (report : TakeReport)
    (new : Host) (commands : ℕ → SlotCommand) (past : History)
    → IsNextTaken plan sectors base disk given down up bytes n host report new commands past
    → report.stopped ≡ None
    → Outcome n base disk given down up bytes new commands
    (own n (touched host (Took (marked bytes n) report)) ++ past)

-- A careful host gives nothing while only an answer is to come.
abbrev pub NothingIsGiven : Type 0
NothingIsGiven =
    (k : Ledger) (reply : Reply) (wanted : List Wanted) (bytes : List ℕ)
    → OwesOnly k (reply ∷ []) wanted → Fits k (seen bytes) → ⊥
