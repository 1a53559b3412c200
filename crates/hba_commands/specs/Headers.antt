-- The command list: AHCI 1.3.1, section 4.2.2, Command List Structure. It has 32 headers of 32 bytes, one for
-- each slot.
use Rattle.std.specs.Prelude.{ℕ, ◌+◌, ◌*◌, ◌/◌, ◌%◌, ◌^◌, ◌==◌, List}
use Rattle.host_memory.specs.Reading.{dword_at}
use Rattle.hba_commands.specs.declared.header.Header.{Header}

-- the index of a slot's header, in a list that begins at clb
abbrev pub header_place : ℕ → ℕ → ℕ
header_place clb slot = clb + 32 * slot

-- the number in a field of a dword: its width in bits, from bit low on
abbrev pub bits_of : ℕ → ℕ → ℕ → ℕ
bits_of dword low count = dword / 2 ^ low % 2 ^ count

-- The header with these dwords. DW0 has the PRDTL in bits 31:16, the PMP in bits 15:12, C in bit 10, W in bit
-- 6 and the CFL in bits 4:0. DW2 and DW3 have the address of the table. R, in bit 8, and DW1, the PRDBC, are
-- not read.
unfoldable pub header_of_dwords : ℕ → ℕ → ℕ → Header
header_of_dwords dw0 dw2 dw3 = record {
  prdtl = bits_of dw0 16 16;
  pmp = bits_of dw0 12 4;
  clear = bits_of dw0 10 1 == 1;
  write = bits_of dw0 6 1 == 1;
  cfl = bits_of dw0 0 5;
  ctba = dw2;
  ctbau = dw3;
}

-- the header of a slot
abbrev pub header_at : List ℕ → ℕ → ℕ → Header
header_at structure clb slot =
    header_of_dwords (dword_at structure (header_place clb slot))
    (dword_at structure (header_place clb slot + 8)) (dword_at structure (header_place clb slot + 12))
