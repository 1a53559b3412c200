-- The header of a command slot: AHCI 1.3.1, section 4.2.2, Command List Structure.
use Rattle.std.specs.Prelude.{◌≡◌, ℕ, ◌+◌, ◌*◌, ◌/◌, ◌^◌, ◌<◌, ◌≤◌, ◌==◌, ◌||◌, nat_lt, if◌then◌else◌, List, Option, Some, None}
use Rattle.guest_fetch.specs.{declared.{header.Header.Header, refusal.Refusal.Refusal}, Entries.{bits_of, dword_at}}
use Rattle.guest_fetch.specs.declared.refusal.Refusal.TheVariants as refusal

-- where the header of a slot lies, in a list that begins at this address (PxCLB, PxCLBU)
abbrev pub header_place : (list slot : ℕ) → ℕ
header_place list slot = list + 32 * slot

-- The header with these dwords. DW0 has the PRDTL in bits 31:16, the PMP in bits 15:12, C in bit 10, W in bit 6, A in bit 5
-- and the CFL in bits 4:0. DW2 and DW3 have the address of the table, whose bits 6:0 are 0.
unfoldable pub header_of_dwords : (dw0 dw2 dw3 : ℕ) → Header
header_of_dwords dw0 dw2 dw3 = record {
  entries = bits_of dw0 16 16;
  pm_port = bits_of dw0 12 4;
  clear = bits_of dw0 10 1 == 1;
  write = bits_of dw0 6 1 == 1;
  packet = bits_of dw0 5 1 == 1;
  dwords = bits_of dw0 0 5;
  table = dw2 / 128 * 128 + dw3 * 2 ^ 32;
}

-- what 32 bytes spell
abbrev pub header_in : List ℕ → Header
header_in raw = header_of_dwords (dword_at raw 0) (dword_at raw 8) (dword_at raw 12)

-- where the entries lie: behind the 80h bytes that a table has for the FIS and the ATAPI command
abbrev pub entries_place : Header → ℕ
entries_place header = header.table + 128

-- Which headers are not taken, in this order: that of an ATAPI command; one whose FIS is shorter or longer than the
-- standard allows, 2 to 16 dwords; one whose table goes past the last address of 64 bits.
abbrev pub header_refusal : Header → Option Refusal
header_refusal header =
    if header.packet then Some refusal.Packet
    else if nat_lt header.dwords 2 || nat_lt 16 header.dwords then Some (refusal.FisLength header.dwords)
    else if nat_lt (2 ^ 64) (entries_place header + 16 * header.entries)
    then Some (refusal.TableEnd header.table header.entries)
    else None

-- what holds for each header that was read
pub record IsHeader (header : Header) : Type 0 where
  pub aligned : header.table + 128 ≤ 2 ^ 64
  pub entries : header.entries < 65536
  pub port : header.pm_port < 16
  pub dwords : header.dwords < 32

-- a header that was read, and is taken
pub record IsTaken (header : Header) : Type 0 where
  pub is : IsHeader header
  pub taken : header_refusal header ≡ None
