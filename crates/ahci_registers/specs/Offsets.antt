-- The offsets of the registers of a controller of one port: AHCI 1.3.1, sections 3.1, Generic Host Control,
-- and 3.3, Port Registers (those of port 0 begin at 100h).
use Rattle.std.specs.Prelude.{ℕ, ◌==◌, if◌then◌else◌, Option, Some, None}
use Rattle.ahci_registers.specs.declared.register.Register.{Register, TheVariants.{Cap, Ghc, Is, Pi, Vs, Cap2, PxClb, PxClbu, PxFb, PxFbu, PxIs}}
use Rattle.ahci_registers.specs.declared.register.Register.TheVariants.{PxIe, PxCmd, PxTfd, PxSig, PxSsts, PxSctl, PxSerr, PxSact, PxCi, PxSntf}
use Rattle.ahci_registers.specs.declared.register.Register.TheVariants.{PxFbs}

-- the offset of a register
abbrev pub offset_of : Register → ℕ
offset_of Cap = 0x00
offset_of Ghc = 0x04
offset_of Is = 0x08
offset_of Pi = 0x0C
offset_of Vs = 0x10
offset_of Cap2 = 0x24
offset_of PxClb = 0x100
offset_of PxClbu = 0x104
offset_of PxFb = 0x108
offset_of PxFbu = 0x10C
offset_of PxIs = 0x110
offset_of PxIe = 0x114
offset_of PxCmd = 0x118
offset_of PxTfd = 0x120
offset_of PxSig = 0x124
offset_of PxSsts = 0x128
offset_of PxSctl = 0x12C
offset_of PxSerr = 0x130
offset_of PxSact = 0x134
offset_of PxCi = 0x138
offset_of PxSntf = 0x13C
offset_of PxFbs = 0x140

-- the register at an offset, None if no register begins there
unfoldable pub register_at : ℕ → Option Register
register_at offset =
    if offset == 0x00 then Some Cap
    else if offset == 0x04 then Some Ghc
    else if offset == 0x08 then Some Is
    else if offset == 0x0C then Some Pi
    else if offset == 0x10 then Some Vs
    else if offset == 0x24 then Some Cap2
    else if offset == 0x100 then Some PxClb
    else if offset == 0x104 then Some PxClbu
    else if offset == 0x108 then Some PxFb
    else if offset == 0x10C then Some PxFbu
    else if offset == 0x110 then Some PxIs
    else if offset == 0x114 then Some PxIe
    else if offset == 0x118 then Some PxCmd
    else if offset == 0x120 then Some PxTfd
    else if offset == 0x124 then Some PxSig
    else if offset == 0x128 then Some PxSsts
    else if offset == 0x12C then Some PxSctl
    else if offset == 0x130 then Some PxSerr
    else if offset == 0x134 then Some PxSact
    else if offset == 0x138 then Some PxCi
    else if offset == 0x13C then Some PxSntf
    else if offset == 0x140 then Some PxFbs
    else None
