-- Numbers as sets of bits, like the registers of Serial ATA 3.x, 14.1 and 16.4.
use Rattle.std.specs.Prelude.{ℕ, zero, suc, ◌+◌, ◌^◌, ◌==◌, Bool, not, bit_and, bit_xor, if◌then◌else◌}

-- the bits of x that are not in y
abbrev pub without : ℕ → ℕ → ℕ
without x y = bit_xor x (bit_and x y)

-- whether x and y have a set bit in common
abbrev pub shares : ℕ → ℕ → Bool
shares x y = not (bit_and x y == 0)

-- whether some bit is 0 in the old number and 1 in the new one
abbrev pub rises : ℕ → ℕ → Bool
rises old new = not (without new old == 0)

-- the number below 2 ^ n that has bit k set where k passes the test
unfoldable pub bits_where : (ℕ → Bool) → ℕ → ℕ
bits_where test zero = 0
bits_where test (suc n) = bits_where test n + (if test n then 2 ^ n else 0)
