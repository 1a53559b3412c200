-- Which requests end as failed by their device: those that the device's error log names (ACS-3, NCQ Command
-- Error log).
use Rattle.std.specs.Prelude.{ℕ, ◌≡◌, true, false, Some}
use Rattle.hba_driver.specs.declared.{path.Path.Path, path.Stage.TheVariants.ReadLog, path.TaskFile.TaskFile, request.Outcome.TheVariants.DeviceError}
use Rattle.hba_driver.specs.{Seeing.Sight, declared.slot.Phase.TheVariants.Ended, Drivers.{Driver, Entry, entry_at, has_ended, is_aside}}
use Rattle.hba_driver.specs.{Ticks.{after_tick, is_named, log_outcome}, Turns.{control_seen, is_back}}

-- The request was set aside. The read of its device's error log is over, and the log is whole and names the
-- request. Status and Error are the log's or, if the log names no queued command, those of the device after
-- its fault.
pub record IsNamedBy (v : Sight) (d : Driver) (s : ℕ) (e : Entry) (status error : ℕ) : Type 0 where
  pub aside : is_aside e.head ≡ true
  pub path : Path
  pub file : TaskFile
  pub goes : (control_seen v d.plan).path ≡ Some path
  pub over : is_back v path ≡ true
  pub reads : path.stage ≡ ReadLog file
  pub of_dev : e.head.dev ≡ path.dev
  pub whole : v.log.whole ≡ true
  pub named : is_named v.log s e.head ≡ true
  pub outcome : log_outcome v.log file ≡ DeviceError status error

-- a tick ends a request this way only if that holds
abbrev pub ErrorsAreNamed : Type 0
ErrorsAreNamed =
    (v : Sight) (after : TaskFile) (d : Driver) (s : ℕ) (e f : Entry) (status error : ℕ)
    → entry_at d.entries s ≡ Some e → has_ended e.head ≡ false
    → entry_at (after_tick v after d).entries s ≡ Some f → f.head.phase ≡ Ended (DeviceError status error)
    → IsNamedBy v d s e status error
