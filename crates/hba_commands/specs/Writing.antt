-- A command as a driver writes it: its header (AHCI 1.3.1, section 4.2.2) and its command table (section
-- 4.2.3).
use Rattle.std.specs.Prelude.{◌≡◌, ℕ, ◌+◌, ◌*◌, ◌%◌, ◌==◌, ◌≤◌, ◌⊎◌, Bool, true, false, ◌&&◌, not, if◌then◌else◌, List, ◌++◌, length, Option, Some}
use Rattle.std.specs.{Prelude.None, Int.from_bool, List.list_all}
use Rattle.byteorder.specs.Endian.{little_bytes}
use Rattle.fis_view.specs.{Table.H2d, Built.{IsBuilt, h2d_given}, declared.build.H2dFields.H2dFields}
use Rattle.host_memory.specs.{Memory.{overwritten, zeros}, Place.total_of, Reading.{have_overlap, is_outside, prds_at}, Writing.table_bytes}
use Rattle.host_memory.specs.declared.table.Prd.{Prd}
use Rattle.slots.specs.declared.work.Kind.{Kind, TheVariants.{QueuedRead, QueuedWrite, DmaIn, DmaOut, PioIn, PioOut, NoData, Control}}
use Rattle.hba_commands.specs.{declared.{header.Header.Header, request.Request.Request, command.Command.Command}, Headers.{header_at, header_place}}
use Rattle.hba_commands.specs.{Requests.{kind_of, request_at, request_of}, Commands.{cfis_at, command_in, has_table, total_at}}

-- a command of this kind moves data to the device
abbrev pub is_write : Kind → Bool
is_write QueuedRead = false
is_write QueuedWrite = true
is_write DmaIn = false
is_write DmaOut = true
is_write PioIn = false
is_write PioOut = true
is_write NoData = false
is_write Control = false

-- The header of a request: its PM Port, W by its kind, a command FIS of 5 dwords, and a table at this address
-- with this many PRDs.
abbrev pub header_for : Request → ℕ → ℕ → Header
header_for request table count = record {
  prdtl = count;
  pmp = request.pm_port;
  clear = false;
  write = is_write (kind_of request);
  cfl = 5;
  ctba = table;
  ctbau = 0;
}

-- its 32 bytes: DW0 has the PRDTL, the PMP, W and the CFL in their fields, DW2 has the address of the table;
-- all else is 0
unfoldable pub header_bytes : Header → List ℕ
header_bytes header =
    little_bytes 4 (65536 * header.prdtl + 4096 * header.pmp + 64 * from_bool header.write + header.cfl)
    ++ zeros 4 ++ little_bytes 4 header.ctba ++ zeros 20

-- the bytes of a command table: the command FIS, 0 up to byte 80h, and the PRDs
unfoldable pub command_table : List ℕ → List Prd → List ℕ
command_table cfis prds = cfis ++ zeros 108 ++ table_bytes prds

-- the table has room: it lies in the structure area and apart from the command list, which has 400h bytes
pub record HasRoom (clb table count : ℕ) : Type 0 where
  pub inside : table + 128 + 16 * count ≤ 0x100000
  pub list_inside : clb + 1024 ≤ 0x100000
  pub apart : (table + 128 + 16 * count ≤ clb) ⊎ (clb + 1024 ≤ table)

-- a valid entry of a PRD table: its address and its count are even, and it lies in the client area
abbrev pub is_usable : ℕ → Prd → Bool
is_usable client_len prd = (prd.address % 2 == 0) && (prd.bytes % 2 == 0) && not (is_outside client_len prd)

-- the total byte count of these entries, if each is valid and no two share a byte
abbrev pub total_if_usable : ℕ → List Prd → Option ℕ
total_if_usable client_len prds =
    if list_all (is_usable client_len) prds && not (have_overlap prds) then Some (total_of prds) else None

-- The structure area with a command written to it.
pub record IsWritten (clb slot table : ℕ) (fields : H2dFields) (prds : List Prd)
    (old new : List ℕ) : Type 0 where
  -- the header and the table have these bytes, and no other byte changes
  pub bytes : new ≡ overwritten (overwritten old (header_place clb slot)
      (header_bytes (header_for (request_of fields) table (length prds)))) table
      (command_table (cfis_at new table) prds)
  -- the header reads back
  pub header : header_at new clb slot ≡ header_for (request_of fields) table (length prds)
  -- the command FIS is the one built from these fields, and asks for what they ask for
  pub cfis : IsBuilt H2d (h2d_given fields) (cfis_at new table)
  pub request : request_at (cfis_at new table) ≡ Some (request_of fields)
  -- the entries read back; for a client area of any length they are sound if each is valid and no two overlap
  pub entries : prds_at new (table + 128) (length prds) ≡ prds
  pub total : (client_len : ℕ) → total_at new client_len table (length prds) ≡ total_if_usable client_len prds

-- The command of these fields and PRDs, in a slot with this bit in PxSACT, for a client area of this length;
-- None where they make no proper command. The bytes cfis are those of the fields.
unfoldable pub command_of : H2dFields → List ℕ → List Prd → ℕ → ℕ → Bool → ℕ → Option Command
command_of fields cfis prds table slot armed client_len =
    if has_table (header_for (request_of fields) table (length prds))
    then command_in (header_for (request_of fields) table (length prds)) cfis (Some (request_of fields))
    (total_if_usable client_len prds) slot armed
    else None
