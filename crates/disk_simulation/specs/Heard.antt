-- What a FIS of a disk is in the device's history, at a host port that hears it and finds no fault (AHCI
-- 1.3.1, 5.3.13, how a port receives each type of FIS; Serial ATA 3.x, 10.5, FIS types).
use Rattle.std.specs.Prelude.{ℕ, ◌≡◌, ◌<◌, false, List, None}
use Rattle.fis_view.specs.Seen.{seen}
use Rattle.hba_fbs.specs.{declared.report.TakeReport.TakeReport, Taking.port_of, Views.view_of}
use Rattle.disk_model.specs.{Ends.IsRight, Ledger.Ledger}
use Rattle.hba_laws.specs.{Agreement.IsHistoryOf, Client.own, Delivering.touched, History.History, Hosts.{Host, TakesFrame, Took}, Sound.IsHost}
use Rattle.disk_simulation.specs.{Together.{IsHeard, Same, told}, Same.SlotCommand}

-- the port hears the frame of a device that is not in software reset, and finds no fault in it
pub record IsTakenWell (host : Host) (frame : List ℕ) (report : TakeReport)
    (new : Host) : Type 0 where
  pub takes : TakesFrame host frame report new
  pub steady : (view_of (port_of frame) host.port).state.resetting ≡ false
  pub heard : report.ignored ≡ false
  pub no_fault : report.fault ≡ None
  pub no_stop : report.stopped ≡ None

-- in the history of its device the frame is what it tells, and nothing of it was refused
pub record IsToldSo (host : Host) (frame : List ℕ) (report : TakeReport)
    (past : History) : Type 0 where
  pub events : own (port_of frame) (touched host (Took frame report)) ≡ told (seen frame)
  pub heard : IsHeard past (seen frame)

-- This holds for each FIS that is right by the ledger, if the ledger and the history say the same of the
-- device.
abbrev pub HeardAsTold : Type 0
HeardAsTold =
    (host new : Host) (frame : List ℕ) (report : TakeReport) (commands : ℕ
    → SlotCommand) (past : History) (k : Ledger)
    → IsHost host → port_of frame < 15 → IsTakenWell host frame report new
    → IsHistoryOf (port_of frame) host past
    → Same commands past k → IsRight k (seen frame) → IsToldSo host frame report past
