-- Dwords as sets of bits, and the bits of interrupts: AHCI 1.3.1, sections 3.3.5 (PxIS), 3.3.6 (PxIE) and
-- 3.3.12 (PxSERR).
use Rattle.std.specs.{Prelude.{ℕ, ◌+◌, ◌-◌, ◌*◌, ◌^◌, ◌==◌, Bool, bit_and}, Int.bit_at}
use Rattle.ahci_registers.specs.declared.port.PortInterrupts.{PortInterrupts}

-- the bits as one number, each at its place in PxIS
abbrev pub interrupt_bits : PortInterrupts → ℕ
interrupt_bits interrupts = interrupts.0

-- bit k is set
abbrev pub has_bit : ℕ → ℕ → Bool
has_bit value k = bit_at value k == 1

-- the bits of x that are not in y
abbrev pub without : ℕ → ℕ → ℕ
without x y = bit_and x (0xFFFFFFFF - y)

-- Unknown FIS Interrupt
abbrev pub ufs : ℕ
ufs = 2 ^ 4

-- Port Connect Change Status
abbrev pub pcs : ℕ
pcs = 2 ^ 6

-- PhyRdy Change Status
abbrev pub prcs : ℕ
prcs = 2 ^ 22

-- the bits that PxIS stores and ones clear: DHRS 0, PSS 1, DSS 2, SDBS 3, DPS 5, IPMS 23, OFS 24, INFS 26,
-- IFS 27, HBDS 28, HBFS 29 and TFES 30
abbrev pub clearable : ℕ
clearable = 2 ^ 0 + 2 ^ 1 + 2 ^ 2 + 2 ^ 3 + 2 ^ 5
    + 2 ^ 23 + 2 ^ 24 + 2 ^ 26 + 2 ^ 27 + 2 ^ 28 + 2 ^ 29 + 2 ^ 30

-- all bits of PxIS: these, and the three that show bits of PxSERR
abbrev pub known : ℕ
known = clearable + ufs + pcs + prcs

-- the bits of PxIS that show these bits of PxSERR: UFS shows F (25), PCS shows X (26), PRCS shows N (16)
abbrev pub shadows : ℕ → ℕ
shadows errors = ufs * bit_at errors 25 + pcs * bit_at errors 26 + prcs * bit_at errors 16

-- the bits of PxSERR that these show
abbrev pub shadowed : ℕ → ℕ
shadowed status = 2 ^ 25 * bit_at status 4 + 2 ^ 26 * bit_at status 6 + 2 ^ 16 * bit_at status 22
