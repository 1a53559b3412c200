-- What a command is, by all that lies there: AHCI 1.3.1, sections 4.2.2 and 4.2.3. It is one answer, whatever the parts are
-- in which it was supplied.
use Rattle.std.specs.Prelude.{◌≡◌, ℕ, ◌+◌, ◌*◌, ◌≤◌, List, [], ◌∷◌, zero, suc, Option, Some, None}
use Rattle.guest_fetch.specs.declared.{entry.{Entry.Entry, FaultyEntry.FaultyEntry}, fetch.Step.{Step, TheVariants.{AtHeader, AtFis, AtEntries}}}
use Rattle.guest_fetch.specs.declared.{fetch.Supplied.{Supplied, TheVariants.{More, Whole, Refused, OutOfMemory}}, head.Head.Head}
use Rattle.guest_fetch.specs.{declared.{header.Header.Header, refusal.Refusal.Refusal}, Entries.{entry_at, first_fault, reached}, Fetch.Fetching}
use Rattle.guest_fetch.specs.{Fetching.{supplied, want_of}, Headers.{entries_place, header_in, header_place, header_refusal}, Heads.fis_refusal}
use Rattle.guest_fetch.specs.Heads.{head_of}
use Rattle.guest_fetch.specs.declared.refusal.Refusal.TheVariants as refusal

-- ---- what lies there

-- What was supplied, by its address: for the header, for the FIS and for entries. The three may differ where a guest writes
-- between them.
pub record Guest : Type 0 where
  pub header : ℕ → ℕ
  pub fis : ℕ → ℕ
  pub entries : ℕ → ℕ

abbrev pub bytes_in : (ℕ → ℕ) → (at count : ℕ) → List ℕ
bytes_in memory at zero = []
bytes_in memory at (suc n) = memory at ∷ bytes_in memory (at + 1) n

-- entries one after another, 16 bytes each
abbrev pub entries_in : (ℕ → ℕ) → (at count : ℕ) → List Entry
entries_in memory at zero = []
entries_in memory at (suc n) = entry_at (bytes_in memory at 16) 0 ∷ entries_in memory (at + 16) n

-- ---- the command

-- with this head: of all entries that the header has, those that its bytes reach, unless one of them is forbidden
abbrev pub with_table : ℕ → Head → List Entry → Option FaultyEntry → Supplied
with_table at head entries None = Whole (record {
  at = at;
  head = head;
  table = record { entries = reached head.work.len entries; len = head.work.len };
  moved = 0;
})
with_table at head entries (Some f) = Refused (refusal.Entry f)

abbrev pub with_head : Guest → ℕ → Head → Supplied
with_head guest at head =
    let entries = entries_in guest.entries (entries_place head.header) head.header.entries in
    with_table at head entries (first_fault 0 head.work.len entries)

-- with this header
abbrev pub refused_or : Option Refusal → Supplied → Supplied
refused_or None answer = answer
refused_or (Some r) answer = Refused r

abbrev pub with_header : Guest → ℕ → Header → Supplied
with_header guest at header =
    let raw = bytes_in guest.fis header.table (4 * header.dwords) in
    refused_or (fis_refusal header raw) (with_head guest at (head_of header raw))

abbrev pub header_at : Guest → ℕ → Header
header_at guest at = header_in (bytes_in guest.header at 32)

-- of the slot whose header lies at this address
abbrev pub command_at : Guest → ℕ → Supplied
command_at guest at = refused_or (header_refusal (header_at guest at)) (with_header guest at (header_at guest at))

-- ---- in parts

-- what is supplied next
abbrev pub memory_for : Guest → Step → (ℕ → ℕ)
memory_for guest AtHeader = guest.header
memory_for guest (AtFis header) = guest.fis
memory_for guest (AtEntries head table) = guest.entries

abbrev pub part_for : Guest → Fetching → List ℕ
part_for guest f = bytes_in (memory_for guest f.step) (want_of f).at (want_of f).len

abbrev pub go_on : Supplied → (Fetching → Supplied) → Supplied
go_on (More f) next = next f
go_on (Whole command) next = Whole command
go_on (Refused r) next = Refused r
go_on (OutOfMemory f) next = OutOfMemory f

-- what is so once at most so many parts were supplied
abbrev pub after_parts : Guest → ℕ → Fetching → Supplied
after_parts guest zero f = More f
after_parts guest (suc n) f = go_on (supplied f (part_for guest f)) (λ g. after_parts guest n g)

-- Header, FIS, and at most as many parts as there are entries: then the command is whole or refused, as all that lies there
-- has it.
abbrev pub CommandIsOfItsParts : Type 0
CommandIsOfItsParts =
    (guest : Guest) (list slot parts : ℕ) → (header_at guest (header_place list slot)).entries + 2 ≤ parts
    → after_parts guest parts (record { at = header_place list slot; step = AtHeader })
    ≡ command_at guest (header_place list slot)
