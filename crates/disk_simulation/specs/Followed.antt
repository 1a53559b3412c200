-- What a host follows of a disk that may report an error (Serial ATA 3.x, 13.6, native command queuing, on
-- errors). Both ends are linked up to that error, which comes up after all that the disk sent before. What
-- the disk does after it does not matter until both begin anew.
use Rattle.std.specs.Prelude.{ℕ, ◌≡◌, ◌<◌, ◌⊎◌, ◌++◌, true, List, [], ◌∷◌, Some}
use Rattle.fis_view.specs.{Frames.{IsFrame, marked}, Seen.seen}
use Rattle.slots.specs.{Slots.has_bit, Work.is_queued}
use Rattle.hba_fbs.specs.{declared.report.TakeReport.TakeReport, Taking.port_of}
use Rattle.disk_model.specs.{declared.plan.DiskPlan.DiskPlan, Anew.{IsCarefulSince, IsClear, IsLinkedOn}, Ends.reports}
use Rattle.disk_model.specs.{Histories.{Happening, Received, Sent}, Ledger.{IsSize, ledger}, Runs.IsDiskRun}
use Rattle.hba_laws.specs.{History.{History, Transfer, filled, issued}, Hosts.{Host, TakesFrame}, Sound.IsHost}
use Rattle.disk_simulation.specs.{Anew.IsNextRight, Honest.IsDoneHonestly, Joined.IsJoined, Same.SlotCommand}

-- What the disk did since the moment up to which it is followed, and what comes up behind the FISes sent
-- before: nothing, or an error and all that was sent later. In the first case, what goes down to the disk is
-- what was on its way then.
pub data IsPast : List Happening → List (List ℕ) → List (List ℕ) → List (List ℕ) → Type 0 where
  Now : (down : List (List ℕ)) → IsPast [] [] down down
  Failed : (error : List ℕ) (later : List Happening) (beyond down below : List (List ℕ))
      → reports (seen error) ≡ true → IsPast (Sent error ∷ later) (error ∷ beyond) down below

-- The first list happened at the disk's end, the second at the host's end. The third is on its way to the
-- disk. The disk sent the fourth before both began anew, and the fifth since.
pub record IsFollowed (base disk host : List Happening) (down stale up : List (List ℕ))
    : Type 0 where
  -- what happened to the disk up to that moment, and later
  pub followed : List Happening
  pub later : List Happening
  -- what it sent up to then that is still to come, and later
  pub before : List (List ℕ)
  pub beyond : List (List ℕ)
  -- what was on its way to it then
  pub below : List (List ℕ)
  pub disk_is : disk ≡ followed ++ later
  pub up_is : up ≡ before ++ beyond
  pub linked : IsLinkedOn base followed host below stale before
  pub past : IsPast later beyond down below

-- The disk is followed from where both begin anew, whatever it does, up to the moment at which the host takes
-- an error from it.
pub record FollowsOn : Type 0 where
  pub linked : (base disk host : List Happening) (down stale up : List (List ℕ))
      → IsLinkedOn base disk host down stale up → IsFollowed base disk host down stale up
  pub begins : (base : List Happening) (stale : List (List ℕ)) → IsClear (ledger base)
      → IsFollowed base base base [] stale []
  pub gives : (base disk host : List Happening) (down stale up : List (List ℕ)) (bytes : List ℕ)
      → IsFollowed base disk host down stale up
      → IsFollowed base disk (host ++ Received bytes ∷ []) (down ++ bytes ∷ []) stale up
  pub comes : (base disk host : List Happening) (front back stale up : List (List ℕ))
      (bytes : List ℕ) → IsFollowed base disk host (front ++ bytes ∷ back) stale up
      → IsFollowed base (disk ++ Received bytes ∷ []) host (front ++ back) stale up
  pub sends : (base disk host : List Happening) (down stale up : List (List ℕ)) (bytes : List ℕ)
      → IsFollowed base disk host down stale up
      → IsFollowed base (disk ++ Sent bytes ∷ []) host down stale (up ++ bytes ∷ [])
  pub drops : (base disk host : List Happening) (down stale up : List (List ℕ)) (bytes : List ℕ)
      → IsFollowed base disk host down (bytes ∷ stale) up
      → IsFollowed base disk host down stale up
  pub takes : (base disk host : List Happening) (down up : List (List ℕ)) (bytes : List ℕ)
      → IsFollowed base disk host down [] (bytes ∷ up)
      → (reports (seen bytes) ≡ true) ⊎ IsFollowed base disk (host ++ Sent bytes ∷ []) down [] up

-- What the host receives next is right, or is an error.
abbrev pub NextIsRightOrFails : Type 0
NextIsRightOrFails =
    (plan : DiskPlan) (sectors : ℕ) (base disk given : List Happening)
    (down up : List (List ℕ)) (bytes : List ℕ)
    → IsSize plan sectors → IsDiskRun plan sectors disk
    → IsFollowed base disk given down [] (bytes ∷ up) → IsCarefulSince base given
    → (reports (seen bytes) ≡ true) ⊎ IsNextRight given bytes

-- What a report says is done was done honestly, whatever the disk does, including errors, and whatever else
-- the report says.
abbrev pub FollowedIsHonest : Type 0
FollowedIsHonest =
    (plan : DiskPlan) (sectors : ℕ) (base disk given : List Happening)
    (down up : List (List ℕ)) (bytes : List ℕ)
    → IsSize plan sectors → IsDiskRun plan sectors disk
    → IsFollowed base disk given down [] (bytes ∷ up) → IsCarefulSince base given
    → (n : ℕ) (host new : Host) (report : TakeReport) (commands : ℕ → SlotCommand) (past : History)
    → IsHost host → n < 15 → IsFrame bytes → IsFrame (marked bytes n) → port_of (marked bytes n) ≡ n
    → TakesFrame host (marked bytes n) report new → IsJoined n commands host past (ledger given)
    → (s : ℕ) (t : Transfer) → s < 32 → issued s past ≡ Some t → is_queued t.work.kind ≡ true
    → has_bit report.done s ≡ true
    → IsDoneHonestly sectors (commands s) (filled s past) t.work.len (ledger disk) (ledger given)
