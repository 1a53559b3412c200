-- The offsets of a port's registers: AHCI 1.3.1, section 3.3, Port Registers.
use Rattle.std.specs.Prelude.{ℕ, ◌==◌, if◌then◌else◌, Option, Some, None}
use Rattle.hba_fbs.specs.declared.register.Register.{Register, TheVariants.{Clb, Clbu, Fb, Fbu, Is, Ie, Cmd, Tfd, Sig, Serr, Sact, Ci, Sntf, Fbs}}

-- the register at an offset
unfoldable pub register_at : ℕ → Option Register
register_at offset =
    if offset == 0x00 then Some Clb
    else if offset == 0x04 then Some Clbu
    else if offset == 0x08 then Some Fb
    else if offset == 0x0C then Some Fbu
    else if offset == 0x10 then Some Is
    else if offset == 0x14 then Some Ie
    else if offset == 0x18 then Some Cmd
    else if offset == 0x20 then Some Tfd
    else if offset == 0x24 then Some Sig
    else if offset == 0x30 then Some Serr
    else if offset == 0x34 then Some Sact
    else if offset == 0x38 then Some Ci
    else if offset == 0x3C then Some Sntf
    else if offset == 0x40 then Some Fbs
    else None
