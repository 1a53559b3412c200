-- Whose turn it is, where several may have one: the first behind the one that had its turn last, in a circle (AHCI 1.3.1,
-- 5.3, where a port goes over its slots from the one behind the last one on, and 9.3, where it goes over devices).
use Rattle.std.specs.{Prelude.{ℕ, ◌+◌, ◌%◌, false, Option}, Option.option_map}
use Rattle.slots.specs.Slots.{has_bit, lowest_below}
use Rattle.ahci_controller.specs.declared.circle.Circle.{Circle}

-- of count places in a circle, the one so many steps behind the one behind the last
abbrev pub is_behind : (count last step : ℕ) → ℕ
is_behind count last step = (last % count + 1 + step) % count

-- the first of them in a mask
abbrev pub first_behind : (count mask last : ℕ) → Option ℕ
first_behind count mask last =
    option_map (is_behind count last) (lowest_below (λ step. has_bit mask (is_behind count last step)) count)

abbrev pub slot_after : (mask last : ℕ) → Option ℕ
slot_after mask last = first_behind 32 mask last

abbrev pub device_after : (mask last : ℕ) → Option ℕ
device_after mask last = first_behind 16 mask last

-- slot 0 and device 0 are the first
abbrev pub opening_circle : Circle
opening_circle = record { slot = 31; read = 31; device = 15; fed = false }
