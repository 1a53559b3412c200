-- Why a FIS is ignored, and which slot a fault is about: AHCI 1.3.1, 5.3.13, 6.2 (Error Recovery), 9.2 and 9.3.
use Rattle.std.specs.{Prelude.{ℕ, ◌&&◌, Bool, not, if◌then◌else◌, Option, Some, None, is_none, is_some, Result}, Option.{option_map, option_or}}
use Rattle.fis_view.specs.declared.view.{Fis.Fis, FisFault.FisFault}
use Rattle.slots.specs.Slots.{DeviceSlots, waiting}
use Rattle.hba_fbs.specs.{declared.reasons.Ignored.Ignored, Posting.signs, Taking.passes_over, Views.{DeviceView, Port, view_of}}
use Rattle.hba_fbs.specs.declared.reasons.Ignored.TheVariants as why

-- the first of these that applies; none for a FIS that is heard
abbrev pub ignored_for : ℕ → Port → DeviceView → Result Fis FisFault → Option Ignored
ignored_for dev port view fis =
    if not port.registers.started then Some why.Stopped
    else if is_some port.errors.port then Some why.PortFaulty
    else if is_some view.fault then Some why.DeviceFaulty
    else if view.state.resetting && not (signs fis) then Some why.NoSignature
    else if passes_over port.registers.switching dev view fis then Some why.Unasked
    else None

-- the slot that waits for an answer of its device, or else that of the device's last setup: PxCMD.CCS after an error
abbrev pub concerned : DeviceSlots → Option ℕ
concerned own = option_or (waiting own) (option_map (λ c. c.slot) own.context)
