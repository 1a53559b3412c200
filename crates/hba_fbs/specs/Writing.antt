-- A write of a register: when it is refused, and what an accepted write leaves (AHCI 1.3.1, section 3.3 and
-- chapter 9; for PxFBS.DEC section 9.3, error handling).
use Rattle.std.specs.Prelude.{ℕ, ◌≡◌, ◌<◌, ◌==◌, ◌&&◌, ◌||◌, Bool, false, not, if◌then◌else◌, List, Option, Some, None, MatchOption}
use Rattle.std.specs.Option.{option_map_or, option_or}
use Rattle.host_memory.specs.Memory.{Memory}
use Rattle.slots.specs.Slots.{has_bit, match_some}
use Rattle.port_errors.specs.Errors.{Errors, after_clear, cleared_device, no_errors}
use Rattle.hba_commands.specs.declared.command.Command.{Command}
use Rattle.hba_fbs.specs.declared.{error.WriteError.WriteError, register.Register.{Register, TheVariants.{Cmd, Sact, Ci, Fbs}}}
use Rattle.hba_fbs.specs.{declared.registers.Registers.Registers, Bits.dec, Issuing.{aimed, any_beside, any_slot, commands_issued, is_bad, is_busy}}
use Rattle.hba_fbs.specs.{Issuing.{names_other, view_issued}, Offsets.register_at, Registers.{falls, own_refusal, written}, Views.{DeviceView, Port}}
use Rattle.hba_fbs.specs.Views.{stopped_view, view_of}
use Rattle.hba_fbs.specs.declared.error.WriteError.TheVariants as refusal

-- ---- refusals

abbrev pub busy_refusal : Port → ℕ → Option WriteError
busy_refusal port value = if any_slot value (is_busy port.slots) then Some refusal.SlotBusy else None

-- One of the slots to issue is not for the device at which the write is aimed. Without FIS-based switching
-- nothing is issued beside a command of another device either.
abbrev pub is_apart : Port → Memory → ℕ → Bool
is_apart port memory value = let dev = aimed port.registers memory.structure value in
    not port.registers.switching && not (value == 0) && any_beside port.slots dev
    || any_slot value (names_other port.registers memory.structure dev)

-- the refusal of this
abbrev pub apart_refusal : Registers → WriteError
apart_refusal r = if r.switching then refusal.WrongDevice else refusal.OtherDevice

-- what is wrong with the slots to issue; each test goes over all of them before the next test
abbrev pub issue_refusal : Port → Memory → ℕ → Option WriteError
issue_refusal port memory value =
    if any_slot value (is_busy port.slots) then Some refusal.SlotBusy
    else if is_apart port memory value then Some (apart_refusal port.registers)
    else if any_slot value (is_bad port.registers memory) then Some refusal.BadTable
    else None

-- a refusal because of the slots; while ST is 0, no slot is armed or issued
unfoldable pub slots_refusal : Register → Port → Memory → ℕ → Option WriteError
slots_refusal Sact port memory value = busy_refusal port value
slots_refusal Ci port memory value = if port.registers.started then issue_refusal port memory value else None
slots_refusal register port memory value = None

-- why a write is refused: the first of these that applies
abbrev pub refusal_of : Register → Port → Memory → ℕ → Option WriteError
refusal_of register port memory value =
    option_or (own_refusal register port.registers value) (slots_refusal register port memory value)

abbrev pub write_refusal : Port → Memory → ℕ → ℕ → Option WriteError
write_refusal port memory offset value = match_some (register_at offset) (Some refusal.NoRegister)
    (λ register. refusal_of register port memory value)

-- ---- what an accepted write leaves

-- the device that a write of PxFBS clears: with DEC set, and SDE 1, the one in DWE, whatever DEV is
abbrev pub cleared_by : Errors → ℕ → Option ℕ
cleared_by errors value = if has_bit value dec then cleared_device errors else None

-- the device to clear is this one
abbrev pub is_device : ℕ → Option ℕ → Bool
is_device n cleared = option_map_or (λ dev. dev == n) cleared false

-- the view of a device afterwards: the cleared device is left as it is when ST falls, and no other view
-- changes
abbrev pub view_cleared : ℕ → Option ℕ → DeviceView → DeviceView
view_cleared n cleared view = if is_device n cleared then stopped_view view else view

-- The view of a device. A fall of ST stops every device, a write of PxCI issues for the device at which it is
-- aimed, and PxFBS.DEC clears the device in DWE.
unfoldable pub view_after : Register → Port → Memory → ℕ → ℕ → DeviceView
view_after Cmd old memory value n =
    if falls old.registers value then stopped_view (view_of n old) else view_of n old
view_after Ci old memory value n = if n == aimed old.registers memory.structure value
    then view_issued old.registers memory value (view_of n old) else view_of n old
view_after Fbs old memory value n = view_cleared n (cleared_by old.errors value) (view_of n old)
view_after register old memory value n = view_of n old

-- the errors of the port
unfoldable pub errors_after : Register → Port → ℕ → Errors
errors_after Cmd old value = if falls old.registers value then no_errors else old.errors
errors_after Fbs old value = if has_bit value dec then after_clear old.errors else old.errors
errors_after register old value = old.errors

-- the commands of the slots
unfoldable pub commands_after : Register → Port → Memory → ℕ → List (Option Command)
commands_after Ci old memory value = commands_issued old.registers memory value old.commands
commands_after register old memory value = old.commands

-- the active device: that of a write of PxCI that issues
unfoldable pub active_after : Register → Port → Memory → ℕ → ℕ
active_after Ci old memory value =
    if value == 0 then old.active else aimed old.registers memory.structure value
active_after register old memory value = old.active

-- An accepted write of a register. The slots, the task files and the resets are parts of the views.
pub record Accepts (old : Port) (memory : Memory) (register : Register) (value : ℕ)
    (new : Port) : Type 0 where
  pub registers : new.registers ≡ written register old.registers value
  pub views : (n : ℕ) → n < 16 → view_of n new ≡ view_after register old memory value n
  pub errors : new.errors ≡ errors_after register old value
  pub commands : new.commands ≡ commands_after register old memory value
  pub number : new.number ≡ old.number
  pub active : new.active ≡ active_after register old memory value

-- the same for the register at an offset
abbrev pub Writes : Port → Memory → ℕ → ℕ → Port → Type 0
Writes old memory offset value new =
    MatchOption (register_at offset) ⊥ (λ register. Accepts old memory register value new)
