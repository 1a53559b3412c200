-- For `ends_go_on`. A disk and the host that serves it go on, together or with the device set aside, over each turn of
-- the host and each step of the disk.
use Rattle.std.proofs.Common.{◌≡◌, ℕ, ◌<◌, List, [], ◌∷◌, ◌++◌, append_assoc, ap, ◌∙◌, Some}
use Rattle.fis_view.specs.Frames.{IsFrame, Stamped, marked}
use Rattle.hba_fbs.specs.{Taking.port_of, declared.report.TakeReport.TakeReport}
use Rattle.disk_model.specs.{declared.plan.DiskPlan.DiskPlan, Histories.{Happening, Received, Sent}, Ledger.ledger}
use Rattle.hba_laws.specs.Client.{Touches}
use Rattle.disk_simulation.proofs.Door.{watches_on}
use Rattle.hba_driver.specs.HostTurns.{DoesAll, Host, HostTurn, Pushed, Took}
use Rattle.disk_recovery.specs.Ends.{Apart, AreEnds, AreFloors, DisksLeaveEnds, EndsAfter, EndsGoOn, IsBesideTurn, IsRunning, IsTogether, Together}
use Rattle.disk_recovery.specs.Ends.{TurnsLeaveEnds}
use Rattle.disk_recovery.proofs.aside.ApartTurns.{ByLog, ByReset, GoesAside, Stays, aside_comes, aside_sends, beside_aside, gives_aside, takes_aside}
use Rattle.disk_recovery.proofs.both_ends.{Beginnings.{log_begins_together, reset_begins_together}, BesideTogether.together_beside}
use Rattle.disk_recovery.proofs.both_ends.{GivesTogether.together_gives, TakesTogether.together_takes, FloorLemmas.floors_more}

-- ---- together, at a step of the disk

module _ (n : ℕ) (h : Host) (disk : List Happening) (floors : ℕ → ℕ) (touches : Touches) where
  together_comes : (back up : List (List ℕ)) (bytes : List ℕ) → IsTogether n h disk (bytes ∷ back) up floors touches
      → IsTogether n h (disk ++ Received bytes ∷ []) back up floors touches
  together_comes back up bytes g = record {
    base = g.base;
    given = g.given;
    commands = g.commands;
    stale = g.stale;
    later = g.later;
    up_is = g.up_is;
    on_time = g.on_time;
    watched = watches_on.comes g.base disk g.given [] back g.stale g.later bytes g.watched;
    served = g.served;
    told = g.told;
    entered = floors_more floors disk (Received bytes ∷ []) g.entered;
    reached = g.reached;
    begun = g.begun;
    owes = g.owes;
    opened = g.opened;
    well = g.well;
    unasked = g.unasked;
    file = g.file;
    unready = g.unready;
    worked = g.worked;
  }

  together_sends : (plan : DiskPlan) (sectors : ℕ) (down up : List (List ℕ)) (bytes : List ℕ)
      → IsRunning plan sectors (disk ++ Sent bytes ∷ []) touches h
      → IsTogether n h disk down up floors touches → IsTogether n h (disk ++ Sent bytes ∷ []) down (up ++ bytes ∷ []) floors touches
  together_sends plan sectors down up bytes runs g = record {
    base = g.base;
    given = g.given;
    commands = g.commands;
    stale = g.stale;
    later = g.later ++ bytes ∷ [];
    up_is = ap (λ (xs : List (List ℕ)). xs ++ bytes ∷ []) g.up_is ∙ append_assoc g.stale g.later (bytes ∷ []);
    on_time = g.on_time;
    watched = watches_on.sends plan sectors g.base disk g.given down g.stale g.later bytes runs.size runs.run g.watched;
    served = g.served;
    told = g.told;
    entered = floors_more floors disk (Sent bytes ∷ []) g.entered;
    reached = g.reached;
    begun = g.begun;
    owes = g.owes;
    opened = g.opened;
    well = g.well;
    unasked = g.unasked;
    file = g.file;
    unready = g.unready;
    worked = g.worked;
  }

-- ---- together, or with the device set aside

module _ (n : ℕ) (plan : DiskPlan) (sectors : ℕ) where
  ends_beside : (old : Host) (turn : HostTurn) (new : Host) (run : DoesAll old (turn ∷ []) new) (disk : List Happening) (down up : List (List ℕ))
      (floors : ℕ → ℕ) (touches : Touches)
      → n < 15 → IsRunning plan sectors disk touches old → IsBesideTurn n old turn → AreEnds n old disk down up floors touches
      → EndsAfter n old turn new run disk down up floors touches
  ends_beside old turn new run disk down up floors touches below runs beside (Together g) =
      together_beside n plan sectors old new disk down up floors touches below runs g turn run beside
  ends_beside old turn new run disk down up floors touches below runs beside (Apart a are) =
      beside_aside n plan sectors old turn new run disk down up floors touches below runs beside a are

  ends_give : (old : Host) (frame : Stamped) (new : Host) (run : DoesAll old (Pushed (Some frame) ∷ []) new) (disk : List Happening)
      (down up : List (List ℕ))
      (floors : ℕ → ℕ) (touches : Touches) → n < 15 → IsRunning plan sectors disk touches old → frame.stamp.port ≡ n → AreEnds n old disk down up floors touches
      → EndsAfter n old (Pushed (Some frame)) new run disk (down ++ marked frame.bytes 0 ∷ []) up floors touches
  ends_give old frame new run disk down up floors touches below runs its (Together g) = together_gives n old frame new run disk down up floors touches below its g
  ends_give old frame new run disk down up floors touches below runs its (Apart a are) =
      gives_aside n plan sectors old frame new run disk down up floors touches below runs its a are

  ends_take : (old : Host) (bytes : List ℕ) (report : TakeReport) (new : Host) (run : DoesAll old (Took (marked bytes n) report ∷ []) new)
      (disk : List Happening)
      (down up : List (List ℕ)) (floors : ℕ → ℕ) (touches : Touches) → n < 15 → IsRunning plan sectors disk touches old → IsFrame bytes → port_of (marked bytes n) ≡ n
      → AreEnds n old disk down (bytes ∷ up) floors touches → EndsAfter n old (Took (marked bytes n) report) new run disk down up floors touches
  ends_take old bytes report new run disk down up floors touches below runs framed port (Together g) =
      together_takes n plan sectors old bytes report new run disk down up floors touches below runs framed port g
  ends_take old bytes report new run disk down up floors touches below runs framed port (Apart a are) =
      takes_aside n plan sectors old bytes report new run disk down up floors touches below runs framed port a are

  begins_by : (h : Host) (disk : List Happening) (back up : List (List ℕ)) (bytes : List ℕ) (floors : ℕ → ℕ) (touches : Touches) → n < 15
      → IsRunning plan sectors disk touches h → GoesAside n h disk (disk ++ Received bytes ∷ []) back up
      → AreFloors floors (disk ++ Received bytes ∷ []) → AreEnds n h (disk ++ Received bytes ∷ []) back up floors touches
  begins_by h disk back up bytes floors touches below runs (Stays a) are = Apart a are
  begins_by h disk back up bytes floors touches below runs (ByLog page at off both silent) are =
      Together (log_begins_together n h (disk ++ Received bytes ∷ []) (ledger disk) page back up floors touches below runs.on are at off both silent)
  begins_by h disk back up bytes floors touches below runs (ByReset at off both) are =
      Together (reset_begins_together n h (disk ++ Received bytes ∷ []) (ledger disk) back up floors touches below runs.on are at off both)

  ends_come : (h : Host) (disk : List Happening) (back up : List (List ℕ)) (bytes : List ℕ) (floors : ℕ → ℕ) (touches : Touches) → n < 15
      → IsRunning plan sectors disk touches h
      → AreEnds n h disk (bytes ∷ back) up floors touches → AreEnds n h (disk ++ Received bytes ∷ []) back up floors touches
  ends_come h disk back up bytes floors touches below runs (Together g) = Together (together_comes n h disk floors touches back up bytes g)
  ends_come h disk back up bytes floors touches below runs (Apart a are) =
      begins_by h disk back up bytes floors touches below runs (aside_comes n h disk back up bytes a)
      (floors_more floors disk (Received bytes ∷ []) are)

  ends_send : (h : Host) (disk : List Happening) (down up : List (List ℕ)) (bytes : List ℕ) (floors : ℕ → ℕ) (touches : Touches) → n < 15
      → IsRunning plan sectors (disk ++ Sent bytes ∷ []) touches h → AreEnds n h disk down up floors touches
      → AreEnds n h (disk ++ Sent bytes ∷ []) down (up ++ bytes ∷ []) floors touches
  ends_send h disk down up bytes floors touches below runs (Together g) = Together (together_sends n h disk floors touches plan sectors down up bytes runs g)
  ends_send h disk down up bytes floors touches below runs (Apart a are) =
      Apart (aside_sends n plan sectors h disk down up bytes runs.size runs.run a) (floors_more floors disk (Sent bytes ∷ []) are)

  turns_leave : TurnsLeaveEnds n plan sectors
  turns_leave = record { beside = ends_beside; gives = ends_give; takes = ends_take }

  disks_leave : DisksLeaveEnds n plan sectors
  disks_leave = record { comes = ends_come; sends = ends_send }

pub ends_go_on : EndsGoOn
ends_go_on n plan sectors = (turns_leave n plan sectors, disks_leave n plan sectors)
