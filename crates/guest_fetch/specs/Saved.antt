-- Commands as words: header, entries as they are kept, and moves.
use Rattle.std.specs.Prelude.{◌≡◌, ℕ, ◌+◌, ◌-◌, ◌<◌, ◌≤◌, ◌^◌, ◌&&◌, Bool, true, false, nat_lt, nat_le, is_none, List, [], ◌∷◌, All, length, take}
use Rattle.std.specs.{Prelude.{zero, suc, refl}, List.AllByRecursion}
use Rattle.std.proofs.Common.{ap, arith, sym, ◌∙◌}
use Rattle.saved_state.specs.Parts.{Parts, both, each, flag, number, ruled, seen_as, three}
use Rattle.guest_fetch.specs.{declared.{entry.Entry.Entry, header.Header.Header, moves.Move.Move, span.Span.Span}, Entries.{IsEntry, entry_fault}}
use Rattle.guest_fetch.specs.{Headers.header_refusal, Places.{Places, total_of}, Spans.{IsTable, entries_from, entry_from, most_bytes}}

-- ---- headers

abbrev pub HeaderParts : Type 0
HeaderParts = (ℕ × ℕ × ℕ) × (Bool × Bool × Bool) × ℕ

abbrev pub header_parts : Header → HeaderParts
header_parts h = ((h.entries, h.pm_port, h.dwords), (h.clear, h.write, h.packet), h.table)

abbrev pub header_of_parts : HeaderParts → Header
header_of_parts p = record {
  entries = p.0.0;
  pm_port = p.0.1;
  dwords = p.0.2;
  clear = p.1.0;
  write = p.1.1;
  packet = p.1.2;
  table = p.2;
}

abbrev pub of_header : Parts HeaderParts
of_header = three (three (number 16) (number 8) (number 8)) (three flag flag flag) (number 64)

abbrev pub header_words : Parts Header
header_words = seen_as of_header header_parts (λ a b e. ap header_of_parts e)

-- like one that was read, and taken: the tests of `IsHeader` and `IsTaken`
abbrev pub is_header : Header → Bool
is_header h = nat_lt h.entries 65536 && nat_le (h.table + 128) (2 ^ 64) && nat_lt h.pm_port 16 && nat_lt h.dwords 32

abbrev pub is_taken : Header → Bool
is_taken h = is_header h && is_none (header_refusal h)

-- ---- moves

abbrev pub MoveParts : Type 0
MoveParts = (ℕ × ℕ × ℕ) × Bool

abbrev pub move_parts : Move → MoveParts
move_parts m = ((m.at, m.from, m.len), m.interrupt)

abbrev pub of_move : Parts MoveParts
of_move = both (three (number 64) (number 64) (number 64)) flag

abbrev pub move_words : Parts Move
move_words = seen_as of_move move_parts
    (λ a b e. ap (λ p. record { at = p.0.0; from = p.0.1; len = p.0.2; interrupt = p.1 }) e)

-- ---- tables

abbrev pub span_parts : Span → ℕ × ℕ × Bool
span_parts s = (s.address, s.end, s.interrupt)

abbrev pub of_span : Parts (ℕ × ℕ × Bool)
of_span = three (number 64) (number 32) flag

abbrev pub span_words : Parts Span
span_words = seen_as of_span span_parts (λ a b e. ap (λ p. record { address = p.0; end = p.1; interrupt = p.2 }) e)

-- entries as they are kept, the first of which begins at this byte of the command
abbrev pub span_from : ℕ → Entry → Span
span_from begin e = record { address = e.address; end = begin + e.bytes; interrupt = e.interrupt }

abbrev pub spans_from : ℕ → List Entry → List Span
spans_from begin [] = []
spans_from begin (e ∷ rest) = span_from begin e ∷ spans_from (begin + e.bytes) rest

-- how many bytes the command has, and the entries
abbrev pub table_parts : Places → ℕ × List Span
table_parts table = (table.len, spans_from 0 table.entries)

abbrev pub of_table : Parts (ℕ × List Span)
of_table = both (number 32) (each span_words)

-- The entry may stand behind this byte of a command of len bytes: bytes are left, it has some and not too many, and it is not
-- forbidden.
abbrev pub may_follow : (begin len : ℕ) → Span → Bool
may_follow begin len s =
    nat_lt begin len && nat_lt begin s.end && nat_le (s.end - begin) 4194304 && is_none (entry_fault (entry_from begin s))

abbrev pub are_spans : (begin len : ℕ) → List Span → Bool
are_spans begin len [] = true
are_spans begin len (s ∷ rest) = may_follow begin len s && are_spans s.end len rest

abbrev pub is_table : ℕ × List Span → Bool
is_table parts = nat_le parts.0 most_bytes && nat_lt (length parts.1) 65536 && are_spans 0 parts.0 parts.1

-- ---- words are those of one value

entries_again : (begin : ℕ) (entries : List Entry) → entries_from begin (spans_from begin entries) ≡ entries
entries_again begin [] = refl
entries_again begin (e ∷ rest) =
    let bytes : begin + e.bytes - begin ≡ e.bytes = omega arith in
    ap (λ n. record { address = e.address; bytes = n; interrupt = e.interrupt } ∷ entries_from (begin + e.bytes) (spans_from (begin + e.bytes) rest)) bytes
    ∙ ap (λ es. e ∷ es) (entries_again (begin + e.bytes) rest)

pub table_same : (v w : Places) → table_parts v ≡ table_parts w → v ≡ w
table_same v w e =
    let of : (p : ℕ × List Span) → Places = λ p. record { entries = entries_from 0 p.1; len = p.0 } in
    ap (λ es. record { entries = es; len = v.len }) (sym (entries_again 0 v.entries)) ∙ ap of e
    ∙ ap (λ es. record { entries = es; len = w.len }) (entries_again 0 w.entries)

-- entries from a byte on, each of which begins before the command's end
pub record StandFrom (begin len : ℕ) (entries : List Entry) : Type 0 where
  pub are : All IsEntry entries
  pub needed : (k : ℕ) → k < length entries → begin + total_of (take k entries) < len

pub stand_on : (begin len : ℕ) (e : Entry) (rest : List Entry) → StandFrom begin len (e ∷ rest) → StandFrom (begin + e.bytes) len rest
stand_on begin len e rest stand = record {
  are = λ k d h. stand.are (suc k) d (omega arith);
  needed = λ k h. let more : begin + (e.bytes + total_of (take k rest)) < len = stand.needed (suc k) (omega arith) in omega arith;
}

pub stand_now : (begin len : ℕ) (e : Entry) (rest : List Entry) → StandFrom begin len (e ∷ rest) → IsEntry e × (begin < len)
stand_now begin len e rest stand = (
  stand.are 0 e (omega arith),
  let less : begin + 0 < len = stand.needed 0 (omega arith) in omega arith,
)

spans_keep : (begin len : ℕ) (entries : List Entry) → len ≤ most_bytes → StandFrom begin len entries
    → AllByRecursion span_words.keeps (spans_from begin entries)
spans_keep begin len [] most stand = tt
spans_keep begin len (e ∷ rest) most stand =
    let now = stand_now begin len e rest stand in (
      (omega (arith, now.0.inside, now.0.some), omega (arith, now.0.most, now.1, most), tt),
      spans_keep (begin + e.bytes) len rest most (stand_on begin len e rest stand),
    )

pub stand_of : (table : Places) → IsTable table → StandFrom 0 table.len table.entries
stand_of table is = record { are = is.are; needed = λ k h. let less = is.needed k h in omega arith }

pub table_keeps : (table : Places) → IsTable table → of_table.keeps (table_parts table)
table_keeps table is = (omega (arith, is.most), spans_keep 0 table.len table.entries is.most (stand_of table is))

abbrev pub table_words : Parts Places
table_words = ruled of_table table_parts table_same IsTable table_keeps
