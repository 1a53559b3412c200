-- The tests of the rules of `Rules`, for parts that come from elsewhere.
use Rattle.std.specs.Prelude.{ℕ, ◌<◌, ◌==◌, ◌&&◌, ◌||◌, Bool, true, false, not, nat_le, nat_lt, is_none, is_some, if◌then◌else◌, Option, Some, None}
use Rattle.std.specs.Prelude.{slice_index_or, zero, suc}
use Rattle.slots.specs.Slots.{has_bit}
use Rattle.hba_fbs.specs.{Issuing.is_busy, Views.last_command}
use Rattle.ahci_controller.specs.{Rules.IsOffered, States.ControllerState, declared.wants.Carried.Carried}

-- the commands of the core are those that were supplied
abbrev pub IsOfferedAt : ControllerState → ℕ → Type 0
IsOfferedAt c slot = IsOffered (last_command c.core.commands slot) (slice_index_or c.commands slot None)

abbrev pub AreOffered : ControllerState → Type 0
AreOffered c = (slot : ℕ) → slot < 32 → IsOfferedAt c slot

-- ---- the other rules

-- all numbers below a bound pass
unfoldable pub all_below : (ℕ → Bool) → ℕ → Bool
all_below test zero = true
all_below test (suc n) = all_below test n && test n

-- of a slot
abbrev pub is_unread_at : ControllerState → ℕ → Bool
is_unread_at c slot = is_none (slice_index_or c.fetches slot None) && not (has_bit c.wants.out slot)

abbrev pub is_free_at : ControllerState → ℕ → Bool
is_free_at c slot = (if has_bit c.wants.pending slot then not (is_busy c.core.slots slot) else is_unread_at c slot)

abbrev pub is_slot_ruled : ControllerState → ℕ → Bool
is_slot_ruled c slot =
    is_free_at c slot && nat_le (slice_index_or c.wants.slots slot 0) c.wants.count

abbrev pub are_slots_ruled : ControllerState → Bool
are_slots_ruled c = all_below (is_slot_ruled c) 32

-- of a device
abbrev pub is_device_ruled : ControllerState → ℕ → Bool
is_device_ruled c dev = nat_le (slice_index_or c.wants.devices dev 0) c.wants.count

abbrev pub are_devices_ruled : ControllerState → Bool
are_devices_ruled c = all_below (is_device_ruled c) 16

-- no slot is pending where ST is 0 and the port is stopped
abbrev pub rests_stopped : ControllerState → Bool
rests_stopped c = c.core.registers.started || c.own.starts || (c.wants.pending == 0)

-- what is to be written is of a slot with a command, of which nothing is wanted
abbrev pub is_carried : ControllerState → Option Carried → Bool
is_carried c None = true
is_carried c (Some w) =
    nat_lt w.slot 32 && is_some (slice_index_or c.commands w.slot None) && not (has_bit c.wants.out w.slot)

abbrev pub is_ruled : ControllerState → Bool
is_ruled c = are_slots_ruled c && are_devices_ruled c && rests_stopped c && is_carried c c.writes.payload
