-- A write of PxCMD by which BSY and DRQ stay in the task files, and CLO, which clears them (AHCI 1.3.1, 3.3.7 PxCMD, 3.3.8
-- PxTFD, 6.2.2.1 and 10.4.1).
use Rattle.std.specs.Prelude.{ℕ, ◌≡◌, ◌+◌, ◌*◌, ◌<◌, false, if◌then◌else◌, bit_and, bit_or, None}
use Rattle.slots.specs.Slots.{no_own_slots}
use Rattle.hba_fbs.specs.{declared.{register.Register.TheVariants.Cmd, state.DeviceState.DeviceState}, Registers.{falls, written}, Views.DeviceView}
use Rattle.hba_fbs.specs.{Views.{LeavesOtherViews, Port, task_file, view_of}, Writing.errors_after}

-- after ST falls: no command, no setup, no block and no fault is left, and the device is as busy as before
abbrev pub fallen_state : DeviceState → DeviceState
fallen_state state = record state { block = None }

abbrev pub fallen_view : DeviceView → DeviceView
fallen_view view = record { slots = no_own_slots; state = fallen_state view.state; fault = None }

abbrev pub view_commanded : Port → ℕ → ℕ → DeviceView
view_commanded old value n = if falls old.registers value then fallen_view (view_of n old) else view_of n old

-- an accepted write of PxCMD
pub record SetsCmd (old : Port) (value : ℕ) (new : Port) : Type 0 where
  pub registers : new.registers ≡ written Cmd old.registers value
  pub views : (n : ℕ) → n < 16 → view_of n new ≡ view_commanded old value n
  pub errors : new.errors ≡ errors_after Cmd old value
  pub commands : new.commands ≡ old.commands
  pub number : new.number ≡ old.number
  pub active : new.active ≡ old.active

-- CLO, Command List Override: BSY and DRQ (bits 7 and 3 of Status) are 0, and no software reset keeps a command back
abbrev pub overridden_state : DeviceState → DeviceState
overridden_state state = record state { status = bit_and state.status 0x77; resetting = false }

abbrev pub overridden_view : DeviceView → DeviceView
overridden_view view = record view { state = overridden_state view.state }

pub record Overrides (old : Port) (dev : ℕ) (new : Port) : Type 0 where
  pub dev_below : dev < 16
  pub own : view_of dev new ≡ overridden_view (view_of dev old)
  pub others : LeavesOtherViews dev old new
  pub registers : new.registers ≡ old.registers
  pub slots : new.slots ≡ old.slots
  pub errors : new.errors ≡ old.errors
  pub commands : new.commands ≡ old.commands
  pub number : new.number ≡ old.number
  pub active : new.active ≡ old.active

-- PxTFD, for a device that is busy while it is in software reset
abbrev pub busy_file : DeviceState → ℕ
busy_file state =
    if state.resetting then 256 * state.error + bit_or state.status 0x80 else task_file state
