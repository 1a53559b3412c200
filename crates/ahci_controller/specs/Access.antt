-- Accesses to registers: AHCI 1.3.1, section 3, HBA Memory Registers (accesses of up to 64 bits, none of which crosses a
-- boundary of eight bytes).
use Rattle.std.specs.Prelude.{ℕ, ◌+◌, ◌-◌, ◌*◌, ◌/◌, ◌%◌, ◌^◌, nat_le, Bool, true, false, if◌then◌else◌, bit_and, bit_or}
use Rattle.ahci_registers.specs.declared.register.Register.{Register, TheVariants.{Is, PxIs, PxSerr, PxSact, PxCi, PxSntf}}
use Rattle.hba_fbs.specs.Bits.{without}
use Rattle.ahci_controller.specs.declared.access.Width.{Width, TheVariants.{Byte, Word, Dword, Qword}}

abbrev pub bytes_of : Width → ℕ
bytes_of Byte = 1
bytes_of Word = 2
bytes_of Dword = 4
bytes_of Qword = 8

-- so many bits, all 1
abbrev pub ones_of : Width → ℕ
ones_of width = 2 ^ (8 * bytes_of width) - 1

-- it does not cross a boundary of eight bytes
abbrev pub fits : Width → ℕ → Bool
fits width offset = nat_le (offset % 8 + bytes_of width) 8

-- ---- eight bytes, lowest first

abbrev pub pair_of : (low high : ℕ) → ℕ
pair_of low high = low + high * 2 ^ 32

abbrev pub low_of : ℕ → ℕ
low_of block = block % 2 ^ 32

abbrev pub high_of : ℕ → ℕ
high_of block = block / 2 ^ 32

-- those from byte first on
abbrev pub part_of : Width → (block first : ℕ) → ℕ
part_of width block first = bit_and (block / 2 ^ (8 * first)) (ones_of width)

-- a value from byte first on
abbrev pub spread_of : (first value : ℕ) → ℕ
spread_of first value = value * 2 ^ (8 * first) % 2 ^ 64

-- ---- a write of some bits of a register

-- Ones act, and zeros do nothing: bits that ones clear (IS, PxIS, PxSERR, PxSNTF) or set (PxSACT, PxCI).
abbrev pub takes_ones : Register → Bool
takes_ones Is = true
takes_ones PxIs = true
takes_ones PxSerr = true
takes_ones PxSact = true
takes_ones PxCi = true
takes_ones PxSntf = true
takes_ones register = false

-- Where the mask has a one, the bit is written. Any other bit stays as the register shows it, or nothing is written to it.
abbrev pub merged : Register → (shown value mask : ℕ) → ℕ
merged register shown value mask =
    if takes_ones register then bit_and value mask else bit_or (without shown mask) (bit_and value mask)
