-- Entries as they are kept: each with the byte of the command at which its own bytes end, so that the entry of a byte is
-- found by halving.
use Rattle.std.specs.Prelude.{ℕ, ◌-◌, ◌^◌, ◌<◌, ◌≤◌, List, [], ◌∷◌, ◌++◌, zero, suc, All, length, take, slice_index_or, false}
use Rattle.guest_fetch.specs.{declared.{entry.Entry.Entry, span.Span.Span}, Entries.{IsEntry, reached}, Places.{Places, total_of}}

-- the entry that is kept so, where its bytes begin at this byte of the command
abbrev pub entry_from : ℕ → Span → Entry
entry_from begin s = record { address = s.address; bytes = s.end - begin; interrupt = s.interrupt }

abbrev pub entries_from : ℕ → List Span → List Entry
entries_from begin [] = []
entries_from begin (s ∷ rest) = entry_from begin s ∷ entries_from s.end rest

abbrev pub no_span : Span
no_span = record { address = 0; end = 0; interrupt = false }

-- where the bytes of the entry at this index begin: at the end of the one before it; those of the first one at begin
abbrev pub begin_from : ℕ → List Span → ℕ → ℕ
begin_from begin spans zero = begin
begin_from begin spans (suc k) = (slice_index_or spans k no_span).end

abbrev pub begin_in : List Span → ℕ → ℕ
begin_in spans k = begin_from 0 spans k

-- the entries before the last one have fewer than len bytes
abbrev pub IsNeeded : ℕ → List Entry → Type 0
IsNeeded len entries = (k : ℕ) → k < length entries → total_of (take k entries) < len

-- the most bytes that a command moves: 65,536 sectors
abbrev pub most_bytes : ℕ
most_bytes = 33554432

-- What holds for every table: its entries may be kept, the command's bytes reach each of them, and PRDTL of a header can
-- count them.
pub record IsTable (table : Places) : Type 0 where
  pub are : All IsEntry table.entries
  pub needed : IsNeeded table.len table.entries
  pub few : length table.entries < 2 ^ 16
  pub most : table.len ≤ most_bytes

abbrev pub table_of : List Span → ℕ → Places
table_of spans len = record { entries = entries_from 0 spans; len = len }

-- how many bytes of the command have no entry yet
abbrev pub left_of : Places → ℕ
left_of table = table.len - total_of table.entries

-- the table with those of these entries behind it that the command's bytes reach
abbrev pub with_entries : Places → List Entry → Places
with_entries table part = record { entries = table.entries ++ reached (left_of table) part; len = table.len }
