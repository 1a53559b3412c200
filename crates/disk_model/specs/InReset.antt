-- A disk in software reset takes no command, from the FIS that sets SRST until a FIS clears it or the disk is
-- plugged in (Serial ATA 3.x, software reset protocol; ACS-3, Device Control, SRST).
use Rattle.std.specs.Prelude.{ℕ, ◌≡◌, true, false, List, [], ◌∷◌, ◌++◌, Result, Ok}
use Rattle.fis_view.specs.{Seen.seen, declared.view.{Fis.Fis, FisFault.FisFault}}
use Rattle.fis_view.specs.declared.view.Fis.TheVariants as view
use Rattle.disk_model.specs.{declared.{plan.DiskPlan.DiskPlan, request.Request.Request}, Anew.{IsRequest, OwesOnly}, Histories.{Happening, Received}}
use Rattle.disk_model.specs.{Histories.{Sent, Plugged, Loaded, sent_in}, Ledger.{Signs, ledger}, Requests.request_of, Runs.{IsDiskRun, moment}}
use Rattle.disk_model.specs.declared.request.Request.TheVariants as asked

-- it does not clear SRST: it is a command, or sets SRST once more
abbrev pub LeavesSet : Request → Type 0
LeavesSet (asked.Reset true) = Unit {0}
LeavesSet (asked.Reset false) = ⊥
LeavesSet (asked.Queue c) = Unit {0}
LeavesSet asked.ReadErrorLog = Unit {0}
LeavesSet asked.Identify = Unit {0}
LeavesSet asked.Flush = Unit {0}
LeavesSet asked.Other = Unit {0}

-- a FIS that is no Register FIS does not clear SRST either
abbrev pub LeavesReset : Result Fis FisFault → Type 0
LeavesReset (Ok (view.RegH2D f)) = LeavesSet (request_of f)
LeavesReset _ = Unit {0}

-- whatever comes and goes, except a FIS that clears SRST and being plugged in
abbrev pub NoneEndsReset : List Happening → Type 0
NoneEndsReset [] = Unit {0}
NoneEndsReset (Received bytes ∷ later) = LeavesReset (seen bytes) × NoneEndsReset later
NoneEndsReset (Sent bytes ∷ later) = NoneEndsReset later
NoneEndsReset (Plugged ∷ later) = ⊥
NoneEndsReset (Loaded bytes ∷ later) = ⊥

-- a run of a disk in which SRST is set and stays set
pub record IsHeldRun (plan : DiskPlan) (sectors : ℕ) (before : List Happening) (on : List ℕ)
    (between : List Happening) : Type 0 where
  pub sets : IsRequest on (asked.Reset true)
  pub stays : NoneEndsReset between
  pub run : IsDiskRun plan sectors ((before ++ Received on ∷ []) ++ between)

-- As long as SRST is set, a disk sends nothing. Whatever comes, it stays as it was when SRST was set, and a
-- listener on its link counts nothing of it. So when SRST is cleared, the disk owes its signature and nothing
-- else.
pub record TakesNoCommand : Type 0 where
  pub silent : (plan : DiskPlan) (sectors : ℕ) (before : List Happening) (on : List ℕ)
      (between : List Happening)
      → IsHeldRun plan sectors before on between → sent_in between ≡ []
  pub same : (plan : DiskPlan) (sectors : ℕ) (before : List Happening) (on : List ℕ)
      (between : List Happening)
      → IsHeldRun plan sectors before on between
      → moment plan sectors ((before ++ Received on ∷ []) ++ between)
      ≡ moment plan sectors (before ++ Received on ∷ [])
  pub told : (plan : DiskPlan) (sectors : ℕ) (before : List Happening) (on : List ℕ)
      (between : List Happening)
      → IsHeldRun plan sectors before on between
      → ledger ((before ++ Received on ∷ []) ++ between) ≡ ledger (before ++ Received on ∷ [])
  pub signs : (plan : DiskPlan) (sectors : ℕ) (before : List Happening) (on : List ℕ)
      (between : List Happening)
      (off : List ℕ) → IsHeldRun plan sectors before on between → IsRequest off (asked.Reset false)
      → OwesOnly (ledger (((before ++ Received on ∷ []) ++ between) ++ Received off ∷ [])) (Signs ∷ []) []
