-- The command of a slot: its header (AHCI 1.3.1, section 4.2.2) and its command table (section 4.2.3)
-- together.
use Rattle.std.specs.Prelude.{◌≡◌, ℕ, ◌+◌, ◌*◌, ◌%◌, ◌≤◌, ◌==◌, ◌&&◌, Bool, true, not, nat_le, if◌then◌else◌, List, length, take, drop, Option, Some}
use Rattle.std.specs.Prelude.{None}
use Rattle.host_memory.specs.{Memory.{Memory, overwritten}, Place.total_of, Reading.{AgreeFrom, LieApart, prds_at, read_fault}}
use Rattle.host_memory.specs.declared.table.{Prd.Prd, PrdError.PrdError}
use Rattle.slots.specs.declared.work.Kind.{Kind, TheVariants.{QueuedRead, QueuedWrite, DmaIn, DmaOut, PioIn, PioOut, NoData, Control}}
use Rattle.hba_commands.specs.{declared.{header.Header.Header, request.Request.Request, command.Command.Command}, Headers.{header_at, header_place}}
use Rattle.hba_commands.specs.Requests.{request_at, kind_of, work_of, tag_of}

-- the table has a valid place: its address is below 4 GiB and a multiple of 128, and its 80h bytes and 16 for
-- each PRD lie in the structure area
abbrev pub has_table : Header → Bool
has_table header =
    (header.ctbau == 0) && (header.ctba % 128 == 0) && nat_le (header.ctba + 128 + 16 * header.prdtl) 0x100000

-- the command FIS: the first 20 bytes of the table
abbrev pub cfis_at : List ℕ → ℕ → List ℕ
cfis_at structure table = take 20 (drop table structure)

-- the PRDs of a command table, which begin at its byte 80h, and why they cannot be read, if they cannot
abbrev pub entries_of : Memory → ℕ → ℕ → List Prd
entries_of memory table count = prds_at memory.structure (table + 128) count

abbrev pub fault_of : Memory → ℕ → ℕ → Option PrdError
fault_of memory table count = read_fault memory.structure (length memory.client) (table + 128) count

-- the total byte count of a table of PRDs that has no fault
abbrev pub total_if_sound : Option PrdError → ℕ → Option ℕ
total_if_sound None total = Some total
total_if_sound (Some fault) total = None

-- the same for the PRDs of a command table, which begin at its byte 80h
abbrev pub total_at : List ℕ → ℕ → ℕ → ℕ → Option ℕ
total_at structure client_len table count =
    total_if_sound (read_fault structure client_len (table + 128) count)
    (total_of (prds_at structure (table + 128) count))

-- The slot can hold a queued command: the slot's bit in PxSACT is set, the tag is the slot, the command is
-- not for the control port, C (clear BSY) is not set, and it moves at most 128 KiB.
abbrev pub may_queue : Header → Request → ℕ → Bool → Bool
may_queue header request slot armed =
    armed && (tag_of request == slot) && not (header.pmp == 15) && not header.clear
    && nat_le (work_of request).len 131072

-- it moves at most 128 KiB
abbrev pub is_few : Request → Bool
is_few request = nat_le (work_of request).len 131072

-- The slot can hold a command that is not queued and moves sectors: the slot's bit in PxSACT and C are not set,
-- the command is not for the control port, and it moves at most 128 KiB.
abbrev pub may_move : Header → Request → Bool → Bool
may_move header request armed = not armed && not header.clear && not (header.pmp == 15) && is_few request

-- what a command of each kind needs of the header, the slot and its bit in PxSACT: W is set only for a write
abbrev pub suits : Kind → Header → Request → ℕ → Bool → Bool
suits QueuedRead header request slot armed = not header.write && may_queue header request slot armed
suits QueuedWrite header request slot armed = header.write && may_queue header request slot armed
suits DmaIn header request slot armed = not header.write && may_move header request armed
suits DmaOut header request slot armed = header.write && may_move header request armed
suits PioIn header request slot armed =
    not header.write && not armed && not header.clear && is_few request
suits PioOut header request slot armed = header.write && may_move header request armed
suits NoData header request slot armed =
    not header.write && not armed && not header.clear && (header.prdtl == 0)
suits Control header request slot armed = not header.write && not armed && (header.prdtl == 0)

-- The header is right for this request, with PRDs of this many bytes: the CFL is 5 dwords, the PM Ports of
-- header and FIS are the same, the rules of the kind are kept, and the PRDs have exactly the bytes that the
-- command moves.
unfoldable pub is_proper : Header → Request → ℕ → ℕ → Bool → Bool
is_proper header request total slot armed =
    (header.cfl == 5) && (header.pmp == request.pm_port) && suits (kind_of request) header request slot armed
    && (total == (work_of request).len)

-- the command of a header, given the request in its command FIS and the total of its PRDs, if those are valid
abbrev pub command_in : Header → List ℕ → Option Request → Option ℕ → ℕ → Bool → Option Command
command_in header cfis None total slot armed = None
command_in header cfis (Some request) None slot armed = None
command_in header cfis (Some request) (Some total) slot armed =
    if is_proper header request total slot armed
    then Some (record { work = work_of request; cfis = cfis; table = header.ctba; count = header.prdtl })
    else None

-- the command under a header in this memory
unfoldable pub command_under : Memory → Header → ℕ → Bool → Option Command
command_under memory header slot armed =
    if has_table header
    then command_in header (cfis_at memory.structure header.ctba)
    (request_at (cfis_at memory.structure header.ctba))
    (total_at memory.structure (length memory.client) header.ctba header.prdtl) slot armed
    else None

-- The command of a slot, for a command list at clb. armed is the slot's bit in PxSACT. None where its header
-- or its table is bad.
abbrev pub command_at : Memory → ℕ → ℕ → Bool → Option Command
command_at memory clb slot armed = command_under memory (header_at memory.structure clb slot) slot armed

-- the size of a header's command table in bytes: 80h, and 16 for each PRD
abbrev pub table_length : Header → ℕ
table_length header = 128 + 16 * header.prdtl

-- The bytes that define the command of a slot: the 32 of its header and, where the header names a table with
-- a valid place, those of the table. Two memories have the same ones, and areas of the same lengths.
pub record AgreeOnCommand (clb slot : ℕ) (m n : Memory) : Type 0 where
  pub header : AgreeFrom (header_place clb slot) 32 m.structure n.structure
  pub table : has_table (header_at m.structure clb slot) ≡ true
      → AgreeFrom (header_at m.structure clb slot).ctba (table_length (header_at m.structure clb slot))
      m.structure n.structure
  pub structure_len : length m.structure ≡ length n.structure
  pub client_len : length m.client ≡ length n.client

-- these bytes alone define it
abbrev pub CommandsAreOfTheirBytes : Type 0
CommandsAreOfTheirBytes = (clb slot : ℕ) (armed : Bool) (m n : Memory) → AgreeOnCommand clb slot m n
    → command_at m clb slot armed ≡ command_at n clb slot armed

-- so bytes that are written elsewhere in the structure area change no command
abbrev pub CommandsStay : Type 0
CommandsStay =
    (clb slot place : ℕ) (armed : Bool) (bytes : List ℕ) (m : Memory)
    → place + length bytes ≤ length m.structure → LieApart (header_place clb slot) 32 place (length bytes)
    → (has_table (header_at m.structure clb slot) ≡ true
    → LieApart (header_at m.structure clb slot).ctba (table_length (header_at m.structure clb slot)) place
    (length bytes))
    → command_at m clb slot armed ≡ command_at (record m { structure = overwritten m.structure place bytes })
    clb slot armed
