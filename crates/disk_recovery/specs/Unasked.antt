-- A device that the driver takes to be absent is asked for nothing, and owes only its signature. So no fault
-- of it is found while the driver looks for it (Serial ATA 3.x, 10.5.6, signatures; AHCI 1.3.1, 9.3,
-- FIS-based Switching, on errors).
--
-- Cited: a driver that serves a disk from where both began anew (specs/Together.antt), and where a
-- host is with a device that recovers (`hba_driver`, specs/Slot30.antt).
use Rattle.std.specs.Prelude.{ℕ, ◌≡◌, ◌<◌, ◌⊎◌, ◌++◌, true, List, [], ◌∷◌, Option, is_some}
use Rattle.fis_view.specs.{Frames.{IsFrame, Stamped, marked}, Seen.seen}
use Rattle.hba_fbs.specs.{declared.report.TakeReport.TakeReport, Taking.port_of}
use Rattle.disk_model.specs.{Anew.IsClear, Ends.IsRight, Histories.{Happening, Plugged, Sent}, Ledger.{Ledger, Signs, ledger}}
use Rattle.hba_laws.specs.Client.{Touches}
use Rattle.disk_simulation.specs.{Files.IsOfDisk, Same.SlotCommand}
use Rattle.hba_driver.specs.{declared.plan.Device.TheVariants.Absent, Drivers.device_at, HostTurns.{Does, Host, HostTurn, Pushed, Took}}
use Rattle.hba_driver.specs.{Slot30.{Faulty, IsAt30, IsUnsought, LogSent, Off}, Tended.IsTended}
use Rattle.disk_recovery.specs.{Kept.{IsCalmTurn, given_to}, Together.IsServedOn}

-- ---- a device that is taken to be absent

-- nothing is to come except the signature, if even that
pub record OwesSignature (k : Ledger) : Type 0 where
  pub clear : IsClear k
  pub awaited : (k.awaited ≡ []) ⊎ (k.awaited ≡ Signs ∷ [])
  pub pages : k.pages ≡ []

-- by what the host gave it and heard from it
abbrev pub IsUnasked : ℕ → Host → List Happening → Type 0
IsUnasked n h given = device_at h.driver.plan n ≡ Absent → OwesSignature (ledger given)

-- ---- the laws

-- This holds where both begin anew, and over each turn.
pub record StaysUnasked (n : ℕ) : Type 0 where
  pub plugged : (h : Host) (before : List Happening) → IsUnasked n h (before ++ Plugged ∷ [])
  pub log : (h : Host) (base : List Happening) → IsAt30 n LogSent h → IsUnasked n h base
  pub reset : (h : Host) (base : List Happening) → IsAt30 n Off h → IsUnasked n h base
  pub calm : (old : Host) (turn : HostTurn) (new : Host) (given : List Happening)
      → Does old turn new → IsCalmTurn n old turn → IsTended n old.driver → IsUnasked n old given
      → IsUnasked n new given
  -- a FIS is received of which nothing is told
  pub ignored : (old : Host) (frame : List ℕ) (report : TakeReport) (new : Host)
      (given : List Happening) → Does old (Took frame report) new → IsUnasked n old given
      → IsUnasked n new given
  pub takes : (old : Host) (frame : List ℕ) (report : TakeReport) (new : Host)
      (given : List Happening) (plain : List ℕ) → Does old (Took frame report) new
      → IsRight (ledger given) (seen plain) → IsOfDisk (seen plain) → IsUnasked n old given
      → IsUnasked n new (given ++ Sent plain ∷ [])
  pub pushes : (base : List Happening) (old : Host) (frame : Option Stamped) (new : Host)
      (given : List Happening) (commands : ℕ → SlotCommand) (touches : Touches) → n < 15
      → Does old (Pushed frame) new → IsServedOn n base old given commands touches
      → IsUnasked n old given → IsUnasked n new (given ++ given_to n frame)

abbrev pub EachStaysUnasked : Type 0
EachStaysUnasked = (n : ℕ) → StaysUnasked n

-- The port finds a fault in the next FIS of the disk. Then the device has a fault that the driver has not
-- cleared, and the driver does not look for the device.
abbrev pub FaultsSetAside : Type 0
FaultsSetAside =
    (n : ℕ) (base : List Happening) (old : Host) (plain : List ℕ) (report : TakeReport) (new : Host)
    (given : List Happening) (commands : ℕ → SlotCommand) (touches : Touches) → n < 15
    → IsFrame plain → port_of (marked plain n) ≡ n → Does old (Took (marked plain n) report) new
    → IsRight (ledger given) (seen plain) → IsOfDisk (seen plain)
    → IsServedOn n base old given commands touches → IsUnasked n old given
    → is_some report.fault ≡ true → IsAt30 n Faulty new × IsUnsought n new
