-- How the command of a slot is read: AHCI 1.3.1, sections 4.2.2 and 4.2.3 (what lies where), 5.3.6 and 5.4 (a controller
-- fetches header, FIS and entries when it needs them). Each part tells where the next one lies. What was supplied is what
-- counts: nothing is read twice.
use Rattle.std.specs.Prelude.{◌≡◌, ℕ, ◌+◌, ◌-◌, ◌*◌, ◌/◌, ◌^◌, ◌≤◌, min, nat_lt, ◌&&◌, if◌then◌else◌, Bool, true, List, [], length, Option, Some}
use Rattle.std.specs.Prelude.{None}
use Rattle.guest_fetch.specs.declared.{entry.FaultyEntry.FaultyEntry, fetch.Step.{Step, TheVariants.{AtHeader, AtFis, AtEntries}}}
use Rattle.guest_fetch.specs.declared.{fetch.Supplied.{Supplied, TheVariants.{More, Whole, Refused, OutOfMemory}}, head.Head.Head}
use Rattle.guest_fetch.specs.{declared.{header.Header.Header, refusal.{Part.Part, Refusal.Refusal}, want.Want.Want}, Entries.entries_at}
use Rattle.guest_fetch.specs.{Entries.first_fault, Headers.{IsTaken, entries_place, header_in, header_refusal}, Heads.{fis_refusal, head_of}}
use Rattle.guest_fetch.specs.{Fetch.Fetching, Places.Places, Spans.{left_of, with_entries}}
use Rattle.guest_fetch.specs.declared.refusal.Part.TheVariants as part
use Rattle.guest_fetch.specs.declared.refusal.Refusal.TheVariants as refusal

-- ---- what is wanted next

-- the most entries that are wanted at once
abbrev pub most_at_once : ℕ
most_at_once = 256

-- how many entries are wanted: those that the header has beyond the ones that came, at most 256, and no more than the bytes
-- that are left can reach, since each entry has two at least
abbrev pub asked : Head → Places → ℕ
asked head table =
    min most_at_once (min (head.header.entries - length table.entries) ((left_of table + 1) / 2))

abbrev pub want_at : ℕ → Step → Want
want_at at AtHeader = record { at = at; len = 32 }
want_at at (AtFis header) = record { at = header.table; len = 4 * header.dwords }
want_at at (AtEntries head table) = record {
  at = entries_place head.header + 16 * length table.entries;
  len = 16 * asked head table;
}

abbrev pub want_of : Fetching → Want
want_of f = want_at f.at f.step

-- ---- what is so once the bytes came

-- the command's bytes go on past the entries that came, and the header has more
abbrev pub wants_more : Head → Places → Bool
wants_more head table = nat_lt (length table.entries) head.header.entries && nat_lt 0 (left_of table)

abbrev pub no_entries : ℕ → Places
no_entries len = record { entries = []; len = len }

abbrev pub going : ℕ → Head → Places → Supplied
going at head table =
    if wants_more head table then More (record { at = at; step = AtEntries head table })
    else Whole (record { at = at; head = head; table = table; moved = 0 })

abbrev pub headed : ℕ → Header → Option Refusal → Supplied
headed at header None = More (record { at = at; step = AtFis header })
headed at header (Some r) = Refused r

abbrev pub framed : ℕ → Head → Option Refusal → Supplied
framed at head None = going at head (no_entries head.work.len)
framed at head (Some r) = Refused r

abbrev pub tabled : ℕ → Head → Places → Option FaultyEntry → Supplied
tabled at head table None = going at head table
tabled at head table (Some f) = Refused (refusal.Entry f)

abbrev pub supplied_at : ℕ → Step → List ℕ → Supplied
supplied_at at AtHeader raw = headed at (header_in raw) (header_refusal (header_in raw))
supplied_at at (AtFis header) raw = framed at (head_of header raw) (fis_refusal header raw)
supplied_at at (AtEntries head table) raw =
    let part = entries_at raw 0 (asked head table) in
    tabled at head (with_entries table part) (first_fault (length table.entries) (left_of table) part)

abbrev pub supplied : Fetching → List ℕ → Supplied
supplied f raw = supplied_at f.at f.step raw

-- entries are to be kept, of which none is forbidden, so memory is wanted
abbrev pub Keeps : Step → List ℕ → Type 0
Keeps AtHeader raw = ⊥
Keeps (AtFis header) raw = ⊥
Keeps (AtEntries head table) raw =
    first_fault (length table.entries) (left_of table) (entries_at raw 0 (asked head table)) ≡ None

-- What a supply answers. Where memory for entries is refused, nothing came, and the same is wanted again.
abbrev pub SuppliesAt : ℕ → Step → List ℕ → Supplied → Type 0
SuppliesAt at step raw (OutOfMemory g) = (g ≡ record { at = at; step = step }) × Keeps step raw
SuppliesAt at step raw (More g) = supplied_at at step raw ≡ More g
SuppliesAt at step raw (Whole command) = supplied_at at step raw ≡ Whole command
SuppliesAt at step raw (Refused r) = supplied_at at step raw ≡ Refused r

abbrev pub Supplies : Fetching → List ℕ → Supplied → Type 0
Supplies f raw answer = SuppliesAt f.at f.step raw answer

-- ---- there is no memory

abbrev pub part_at : Step → Part
part_at AtHeader = part.Header
part_at (AtFis header) = part.Fis
part_at (AtEntries head table) = part.Entries

abbrev pub refused_for : Part → Refusal
refused_for missing = refusal.NoMemory missing

-- ---- what holds for every value

pub record WantsEntries (head : Head) (table : Places) : Type 0 where
  pub header : IsTaken head.header
  pub len : table.len ≡ head.work.len
  pub more : wants_more head table ≡ true

abbrev pub IsStep : Step → Type 0
IsStep AtHeader = Unit {0}
IsStep (AtFis header) = IsTaken header
IsStep (AtEntries head table) = WantsEntries head table

pub record IsFetching (f : Fetching) : Type 0 where
  pub there : f.at + 32 ≤ 2 ^ 64
  pub step : IsStep f.step
