-- The values of the constant registers: AHCI 1.3.1, sections 3.1.1 (CAP), 3.1.4 (PI), 3.1.5 (VS) and 3.1.10
-- (CAP2).
use Rattle.std.specs.Prelude.{ℕ, ◌+◌, ◌*◌, ◌^◌, Option, Some, None}
use Rattle.ahci_registers.specs.declared.register.Register.{Register, TheVariants.{Cap, Pi, Vs, Cap2}}

-- CAP: NP 0 is one port, NCS 31 is 32 slots, FBSS 16, SPM 17, SAM 18, ISS 3 is 6 Gb/s, SCLO 24, SSNTF 29,
-- SNCQ 30 and S64A 31; all other bits are 0
abbrev pub capabilities : ℕ
capabilities = 31 * 2 ^ 8 + 2 ^ 16 + 2 ^ 17 + 2 ^ 18 + 3 * 2 ^ 20 + 2 ^ 24 + 2 ^ 29 + 2 ^ 30 + 2 ^ 31

-- PI: port 0 alone
abbrev pub ports : ℕ
ports = 1

-- VS: 1.3.1, with the major number in bits 31:16 and the minor number in bits 15:0
abbrev pub version : ℕ
version = 1 * 2 ^ 16 + 3 * 2 ^ 8 + 1

abbrev pub fixed_value : Register → Option ℕ
fixed_value Cap = Some capabilities
fixed_value Pi = Some ports
fixed_value Vs = Some version
fixed_value Cap2 = Some 0
fixed_value register = None
