-- How the stage of slot 30, in which the driver recovers a device, and the line of the device's link fit each
-- other (AHCI 1.3.1, 6.2.2, error recovery, and 9.3, FIS-based Switching, on errors; Serial ATA 3.x, 13.6,
-- native command queuing, on errors, and software reset; ACS-3, READ LOG EXT).
--
-- Cited: the stages (`hba_driver`, specs/Slot30.antt) and the line (`disk_simulation`, specs/Line.antt).
use Rattle.std.specs.Prelude.{ℕ, ◌≡◌, false}
use Rattle.slots.specs.Slots.{has_bit}
use Rattle.hba_fbs.specs.{Status.{is_busy, wants_data}, Views.view_of}
use Rattle.disk_simulation.specs.Line.{Asked, Both, Failed, Held, Line, Loose, Releasing, Resting}
use Rattle.hba_driver.specs.{declared.{path.Recovery.TheVariants.Reset, plan.Device.TheVariants.{Ready, Recovering}}, Drivers.device_at}
use Rattle.hba_driver.specs.{HostTurns.Host, Slot30.{Asks, Cleared, Clears, Faulty, LogSent, Off, On, Sets, Stage30}}

-- the disk failed, and its log can still be asked for
abbrev pub FitsFailed : Stage30 → Type 0
FitsFailed Faulty = Unit {0}
FitsFailed Cleared = Unit {0}
FitsFailed Asks = Unit {0}
FitsFailed _ = ⊥

abbrev pub FitsAsked : Stage30 → Type 0
FitsAsked LogSent = Unit {0}
FitsAsked _ = ⊥

abbrev pub FitsLoose : Stage30 → Type 0
FitsLoose Faulty = Unit {0}
FitsLoose Cleared = Unit {0}
FitsLoose Sets = Unit {0}
FitsLoose _ = ⊥

abbrev pub FitsHeld : Stage30 → Type 0
FitsHeld On = Unit {0}
FitsHeld Clears = Unit {0}
FitsHeld _ = ⊥

abbrev pub FitsOff : Stage30 → Type 0
FitsOff Off = Unit {0}
FitsOff _ = ⊥

abbrev pub Fits : Line → Stage30 → Type 0
Fits Failed stage = FitsFailed stage
Fits Asked stage = FitsAsked stage
Fits Loose stage = FitsLoose stage
Fits Held stage = FitsHeld stage
Fits Both stage = FitsOff stage
Fits Resting stage = FitsHeld stage
Fits Releasing stage = FitsOff stage

-- The driver resets the device, or is about to, and does not ask it for its log. A device that was ready has
-- no error in its task file.
abbrev pub GoesByReset : ℕ → Stage30 → Host → Type 0
GoesByReset n Faulty h =
    device_at h.driver.plan n ≡ Ready → has_bit (view_of n h.port).state.status 0 ≡ false
GoesByReset n Cleared h = device_at h.driver.plan n ≡ Recovering Reset
GoesByReset n Asks h = ⊥
GoesByReset n LogSent h = ⊥
GoesByReset n _ h = Unit {0}

-- the port shows neither BSY nor DRQ of the device
pub record IsIdle (n : ℕ) (h : Host) : Type 0 where
  pub busy : is_busy (view_of n h.port).state.status ≡ false
  pub wants : wants_data (view_of n h.port).state.status ≡ false

-- The fault of the device was cleared, and its log is about to be asked for. So that command may go out.
abbrev pub GoesByLog : ℕ → Stage30 → Host → Type 0
GoesByLog n Cleared h = IsIdle n h
GoesByLog n Asks h = IsIdle n h
GoesByLog n _ h = Unit {0}

-- the first where the line is loose, the second where the disk failed
abbrev pub Leans : ℕ → Line → Stage30 → Host → Type 0
Leans n Loose stage h = GoesByReset n stage h
Leans n Failed stage h = GoesByLog n stage h
Leans n _ stage h = Unit {0}
