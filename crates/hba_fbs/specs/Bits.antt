-- Dwords as sets of bits, and the bits of the port's registers: AHCI 1.3.1, sections 3.3.5 (PxIS), 3.3.7
-- (PxCMD), 3.3.12 (PxSERR) and 3.3.16 (PxFBS).
use Rattle.std.specs.Prelude.{ℕ, ◌+◌, ◌-◌, ◌*◌, ◌^◌, Bool, if◌then◌else◌, bit_and}
use Rattle.port_errors.specs.Interrupts.{ofs, ifs, hbfs, tfes}

-- the number with bit k alone set, or 0
abbrev pub bit : ℕ → Bool → ℕ
bit k set = if set then 2 ^ k else 0

-- the bits of x that are not in y
abbrev pub without : ℕ → ℕ → ℕ
without x y = bit_and x (0xFFFFFFFF - y)

-- ---- PxCMD

-- Start
abbrev pub st : ℕ
st = 0

-- FIS Receive Enable
abbrev pub fre : ℕ
fre = 4

-- FIS Receive Running
abbrev pub fr : ℕ
fr = 14

-- Command List Running
abbrev pub cr : ℕ
cr = 15

-- Port Multiplier Attached
abbrev pub pma : ℕ
pma = 17

-- FIS-based Switching Capable Port
abbrev pub fbscp : ℕ
fbscp = 22

-- ---- PxIS

-- Unknown FIS Interrupt, which shows DIAG.F of PxSERR
abbrev pub ufs : ℕ
ufs = 4

-- the bits that PxIS stores and ones clear: DHRS 0, PSS 1, DSS 2, SDBS 3, and the bits of faults
abbrev pub interrupts : ℕ
interrupts = 2 ^ 0 + 2 ^ 1 + 2 ^ 2 + 2 ^ 3 + ofs + ifs + hbfs + tfes

-- ---- PxSERR

-- Unknown FIS Type (DIAG.F)
abbrev pub unknown_fis : ℕ
unknown_fis = 25

-- ---- PxFBS

-- Enable
abbrev pub en : ℕ
en = 0

-- Device Error Clear
abbrev pub dec : ℕ
dec = 1

-- Active Device Optimization, bits 15:12: any number of devices, up to 15, may be active
abbrev pub ado : ℕ
ado = 15 * 2 ^ 12

-- Device To Issue, bits 11:8
abbrev pub dev_unit : ℕ
dev_unit = 2 ^ 8

-- Single Device Error
abbrev pub sde : ℕ
sde = 2

-- Device With Error, bits 19:16
abbrev pub dwe_unit : ℕ
dwe_unit = 2 ^ 16
