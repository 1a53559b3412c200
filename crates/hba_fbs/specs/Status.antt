-- The Status of a device (ACS-3, 6.2, Status field), and what FISes say about its task file (Serial ATA 3.x,
-- 10.5).
use Rattle.std.specs.Prelude.{ℕ, ◌&&◌, Bool, false, not, bit_and, bit_or, Option, ◌||◌}
use Rattle.slots.specs.Slots.{has_bit}
use Rattle.hba_fbs.specs.declared.{state.DeviceState.DeviceState, status.Block.Block}

-- ERR, bit 0
abbrev pub is_error : ℕ → Bool
is_error status = has_bit status 0

-- DRQ, bit 3
abbrev pub wants_data : ℕ → Bool
wants_data status = has_bit status 3

-- BSY, bit 7
abbrev pub is_busy : ℕ → Bool
is_busy status = has_bit status 7

-- none of the three is set
abbrev pub is_quiet : ℕ → Bool
is_quiet status = not (is_busy status) && not (wants_data status) && not (is_error status)

-- a FIS brings Status and Error
abbrev pub with_file : DeviceState → ℕ → ℕ → DeviceState
with_file state status error = record state { status = status; error = error }

-- a Set Device Bits FIS brings Error and bits 6:4 and 2:0 of Status; BSY and DRQ, together 88h, stay
abbrev pub with_bits : DeviceState → ℕ → ℕ → DeviceState
with_bits state status error =
    record state { status = bit_or (bit_and state.status 0x88) status; error = error }

-- a signature brings Status and Error and ends the software reset
abbrev pub after_reset : DeviceState → ℕ → ℕ → DeviceState
after_reset state status error = record state { status = status; error = error; resetting = false }

-- a Register FIS marks the device, if it is the signature of an ATA device
abbrev pub signed_by : DeviceState → Bool → DeviceState
signed_by state signs = record state { signed = state.signed || signs }

-- a setup begins this block, or none
abbrev pub with_block : DeviceState → Option Block → DeviceState
with_block state block = record state { block = block }

-- the end of a block brings Status
abbrev pub with_status : DeviceState → ℕ → DeviceState
with_status state status = record state { status = status }
