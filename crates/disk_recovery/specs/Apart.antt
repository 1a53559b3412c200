-- A device that is set aside, and where driver and disk begin anew: when its log is read, or when its
-- software reset ends (AHCI 1.3.1, 6.2.2, error recovery, and 9.3, FIS-based Switching, on errors; Serial ATA
-- 3.x, 13.6, native command queuing, on errors, and software reset; ACS-3, READ LOG EXT).
--
-- Cited: where a host is with a device that recovers (`hba_driver`, specs/Slot30.antt), a device that cannot
-- complete a queued command (`disk_simulation`, specs/Aside.antt), and a driver that serves a disk from where both
-- began anew (specs/Together.antt).
use Rattle.std.specs.Prelude.{ℕ, ◌≡◌, ◌<◌, List, [], ◌∷◌, length}
use Rattle.disk_model.specs.{Anew.OwesOnly, Histories.Happening, Ledger.{ShowsPage, Signs, Wanted, ledger}}
use Rattle.hba_laws.specs.Client.{Touches, own}
use Rattle.disk_simulation.specs.{Aside.IsAside, Same.SlotCommand}
use Rattle.hba_driver.specs.{Events.{IsSoundHost, shared_by}, HostTurns.Host, Served.IsServed, Slot30.{IsAt30, IsUnsought, LogSent, Off, Stage30}}
use Rattle.disk_recovery.specs.Together.{IsServedOn}

-- At no stage can a queued command of the device be done.
abbrev pub AsideAt : Type 0
AsideAt =
    (n : ℕ) (h : Host) (stage : Stage30) (touches : Touches) → n < 15
    → IsServed h.driver (shared_by h) touches → IsAt30 n stage h
    → IsAside n (shared_by h) (own n touches)

-- From here on the driver serves the disk, with some commands of the slots. Those are counted from the writes
-- that have ended by now.
pub record ServesFrom (n : ℕ) (base : List Happening) (h : Host) (touches : Touches) : Type 0 where
  pub commands : ℕ → SlotCommand
  pub counted : (s : ℕ) → (commands s).since ≡ length (ledger base).writes
  pub on : IsServedOn n base h base commands touches

-- READ LOG EXT was transmitted, and received by a disk that owes only the page.
abbrev pub LogBegins : Type 0
LogBegins =
    (n : ℕ) (h : Host) (base : List Happening) (page : Wanted) (touches : Touches) → n < 15
    → IsSoundHost h → IsServed h.driver (shared_by h) touches → IsAt30 n LogSent h
    → IsUnsought n h
    → OwesOnly (ledger base) (ShowsPage ∷ []) (page ∷ []) → ServesFrom n base h touches

-- The FIS that clears SRST was transmitted, and received by the disk, which owes only its signature.
abbrev pub ResetBegins : Type 0
ResetBegins =
    (n : ℕ) (h : Host) (base : List Happening) (touches : Touches) → n < 15
    → IsSoundHost h → IsServed h.driver (shared_by h) touches → IsAt30 n Off h
    → IsUnsought n h
    → OwesOnly (ledger base) (Signs ∷ []) [] → ServesFrom n base h touches
