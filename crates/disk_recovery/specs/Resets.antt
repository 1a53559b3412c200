-- A tick that issues the software reset of a disk sets the device aside, if the driver serves the disk
-- (Serial ATA 3.x, software reset; AHCI 1.3.1, 9.3.9, software reset with FIS-based Switching).
--
-- Cited: a driver that serves a disk (`disk_recovery`, specs/Together.antt), such a tick
-- (`hba_driver`, specs/Tended.antt), and where a host is with a device that recovers (`hba_driver`,
-- specs/Slot30.antt).
use Rattle.std.specs.Prelude.{ℕ, ◌≡◌, ◌<◌, Bool, List, None}
use Rattle.hba_fbs.specs.Views.{view_of}
use Rattle.disk_model.specs.Histories.{Happening}
use Rattle.hba_laws.specs.Client.{Touches}
use Rattle.disk_simulation.specs.Same.{SlotCommand}
use Rattle.hba_driver.specs.{HostTurns.{Does, Host, Ticked}, Slot30.{IsAt30, IsOn30, IsUnsought, Sets}, Tended.IsResetTurn}
use Rattle.disk_recovery.specs.Together.{IsServedOn}

abbrev pub ResetSetsAside : Type 0
ResetSetsAside =
    (n : ℕ) (base : List Happening) (old : Host) (acted : Bool) (new : Host)
    (given : List Happening) (commands : ℕ → SlotCommand) (touches : Touches) → n < 15
    → Does old (Ticked acted) new → IsResetTurn n old (Ticked acted)
    → IsOn30 touches old → IsServedOn n base old given commands touches
    → (view_of n old.port).fault ≡ None → IsAt30 n Sets new × IsUnsought n new
