-- A command that comes in parts is the one that lies there.
use Rattle.std.proofs.Common.{◌≡◌, ℕ, zero, suc, ◌+◌, ◌-◌, ◌*◌, ◌<◌, ◌≤◌, if◌then◌else◌, Bool, true, false, Option, Some, None, List, [], ◌++◌}
use Rattle.std.proofs.{Common.{length, refl, sym, ap, ◌∙◌, arith, ◌⊎◌, inl, inr}, lemmas.Bool.{cases_lt, Decides.nat_tests}}
use Rattle.guest_fetch.specs.declared.{entry.{Entry.Entry, FaultyEntry.FaultyEntry}, fetch.{Step.TheVariants.AtEntries, Supplied.Supplied}}
use Rattle.guest_fetch.specs.declared.{fetch.Supplied.TheVariants.{More, Whole, Refused}, head.Head.Head, header.Header.Header}
use Rattle.guest_fetch.specs.{declared.refusal.Refusal.Refusal, Entries.{entries_at, first_fault, reached}, Fetching.{asked, framed, headed}}
use Rattle.guest_fetch.specs.{Fetching.{no_entries, tabled, wants_more}, Headers.{entries_place, header_place, header_refusal}, Heads.fis_refusal}
use Rattle.guest_fetch.specs.{Heads.head_of, Places.{Places, total_of}, Reading.{CommandIsOfItsParts, Guest, after_parts, bytes_in, entries_in}}
use Rattle.guest_fetch.specs.{Reading.{go_on, header_at, part_for, refused_or, with_head, with_header, with_table}, Spans.{left_of, with_entries}}
use Rattle.guest_fetch.specs.declared.refusal.Refusal.TheVariants as refusal
use Rattle.guest_fetch.proofs.{ByteLemmas.{entries_are, entries_split, length-entries_in}, EntryLemmas.{fault_none, reached_none}}
use Rattle.guest_fetch.proofs.PartLemmas.{all_reached, count_with, either, fault_append, left_with, with_both, with_first}

-- the answer once no entry is left to come
abbrev finish : ℕ → Head → Places → Option FaultyEntry → Supplied
finish at head table None = Whole (record { at = at; head = head; table = table; moved = 0 })
finish at head table (Some f) = Refused (refusal.Entry f)

-- what lies there from the next entry on
abbrev rest_of : Guest → Head → Places → List Entry
rest_of guest head table = entries_in guest.entries (entries_place head.header + 16 * length table.entries) (head.header.entries - length table.entries)

-- the answer by all of it
abbrev answer_by : Guest → ℕ → Head → Places → Supplied
answer_by guest at head table = finish at head (with_entries table (rest_of guest head table)) (first_fault (length table.entries) (left_of table) (rest_of guest head table))

more_left : (head : Head) (table : Places) → wants_more head table ≡ true → (length table.entries < head.header.entries) × (0 < left_of table)
more_left head table more = (grind (arith, nat_tests), grind (arith, nat_tests))

none_left : (head : Head) (table : Places) → wants_more head table ≡ false → 0 < left_of table → head.header.entries ≤ length table.entries
none_left head table none some = grind (arith, nat_tests)

-- ---- entries

-- what is wanted next, and what lies behind it
pub record Splits (guest : Guest) (head : Head) (table : Places) (part rest : List Entry) : Type 0 where
  pub both : rest_of guest head table ≡ part ++ rest
  pub counts : length part ≡ asked head table
  pub behind : rest ≡ entries_in guest.entries (entries_place head.header + 16 * (length table.entries + asked head table)) (head.header.entries - (length table.entries + asked head table))

splits : (guest : Guest) (head : Head) (table : Places) → wants_more head table ≡ true
    → Splits guest head table (entries_in guest.entries (entries_place head.header + 16 * length table.entries) (asked head table))
    (entries_in guest.entries (entries_place head.header + 16 * (length table.entries + asked head table)) (head.header.entries - (length table.entries + asked head table)))
splits guest head table more =
    let left = more_left head table more in
    record {
      both = entries_split guest.entries (entries_place head.header + 16 * length table.entries) (asked head table) (head.header.entries - length table.entries)
          (entries_place head.header + 16 * (length table.entries + asked head table)) (head.header.entries - (length table.entries + asked head table)) (omega arith) (omega arith) (omega arith);
      counts = length-entries_in guest.entries (entries_place head.header + 16 * length table.entries) (asked head table);
      behind = refl;
    }

-- once this part came: the answer by the rest is the answer by all
behind_is : (guest : Guest) (at : ℕ) (head : Head) (table : Places) (part rest : List Entry) → Splits guest head table part rest → wants_more head (with_entries table part) ≡ true
    → answer_by guest at head (with_entries table part)
    ≡ finish at head (with_entries table (rest_of guest head table)) (first_fault (length table.entries + length (reached (left_of table) part)) (left_of table - total_of (reached (left_of table) part)) rest)
behind_is guest at head table part rest split more =
    let next = with_entries table part in
    let less = left_with table part in
    let count = count_with table part in
    let all : reached (left_of table) part ≡ part = all_reached (left_of table) part (omega (arith, less, (more_left head next more).1)) in
    let came : length next.entries ≡ length table.entries + asked head table = count ∙ ap (λ es. length table.entries + length es) all ∙ ap (λ n. length table.entries + n) split.counts in
    let same : rest_of guest head next ≡ rest = ap (λ n. entries_in guest.entries (entries_place head.header + 16 * n) (head.header.entries - n)) came ∙ sym split.behind in
    let table_is : with_entries next (rest_of guest head next) ≡ with_entries table (rest_of guest head table) =
    ap (with_entries next) same ∙ with_both table part rest ∙ ap (with_entries table) (sym split.both) in
    ap (λ t. finish at head t (first_fault (length next.entries) (left_of next) (rest_of guest head next))) table_is
    ∙ ap (λ es. finish at head (with_entries table (rest_of guest head table)) (first_fault (length next.entries) (left_of next) es)) same
    ∙ ap (λ n. finish at head (with_entries table (rest_of guest head table)) (first_fault n (left_of next) rest)) count
    ∙ ap (λ n. finish at head (with_entries table (rest_of guest head table)) (first_fault (length table.entries + length (reached (left_of table) part)) n rest)) less

-- where no more is wanted, the rest is not reached
rest_none : (head : Head) (table : Places) (guest : Guest) (part rest : List Entry) → Splits guest head table part rest → wants_more head (with_entries table part) ≡ false
    → (left_of table - total_of (reached (left_of table) part) ≡ 0) ⊎ (rest ≡ [])
rest_none head table guest part rest split none =
    let next = with_entries table part in
    let less = left_with table part in
    let count = count_with table part in
    elim (cases_lt 0 (left_of next)) [
      | inl some ↦
          let all : reached (left_of table) part ≡ part = all_reached (left_of table) part (omega (arith, less, some)) in
          let enough = none_left head next none some in
          let came : length next.entries ≡ length table.entries + asked head table = count ∙ ap (λ es. length table.entries + length es) all ∙ ap (λ n. length table.entries + n) split.counts in
          let zero_left : head.header.entries - (length table.entries + asked head table) ≡ 0 = omega (arith, enough, came) in
          inr (split.behind ∙ ap (entries_in guest.entries (entries_place head.header + 16 * (length table.entries + asked head table))) zero_left)
      | inr zero_left ↦ inl (omega (arith, less, zero_left))
    ]

nothing_behind : (index left : ℕ) (rest : List Entry) → (left ≡ 0) ⊎ (rest ≡ []) → (first_fault index left rest ≡ None) × (reached left rest ≡ [])
nothing_behind index left rest (inl e) = (ap (λ n. first_fault index n rest) e ∙ fault_none index rest, ap (λ n. reached n rest) e ∙ reached_none rest)
nothing_behind index left rest (inr e) = (ap (first_fault index left) e, ap (reached left) e)

-- ---- the rest of a command, part by part

-- what is supplied are these entries
part_is : (guest : Guest) (at : ℕ) (head : Head) (table : Places)
    → entries_at (part_for guest (record { at = at; step = AtEntries head table })) 0 (asked head table) ≡ entries_in guest.entries (entries_place head.header + 16 * length table.entries) (asked head table)
part_is guest at head table = entries_are guest.entries (entries_place head.header + 16 * length table.entries) (16 * asked head table) 0 (entries_place head.header + 16 * length table.entries) (asked head table) (omega arith) (omega arith)

abbrev Ends : Guest → ℕ → Head → ℕ → Type 0
Ends guest at head n = (table : Places) → wants_more head table ≡ true → head.header.entries ≤ length table.entries + n
    → after_parts guest n (record { at = at; step = AtEntries head table }) ≡ answer_by guest at head table

-- once a part came that is not refused
goes : (guest : Guest) (at : ℕ) (head : Head) (n : ℕ) (table : Places) (part rest : List Entry) (b : Bool) → Ends guest at head n → Splits guest head table part rest → wants_more head table ≡ true
    → head.header.entries ≤ length table.entries + suc n → wants_more head (with_entries table part) ≡ b
    → go_on (if b then More (record { at = at; step = AtEntries head (with_entries table part) }) else Whole (record { at = at; head = head; table = with_entries table part; moved = 0 })) (λ g. after_parts guest n g)
    ≡ finish at head (with_entries table (rest_of guest head table)) (first_fault (length table.entries + length (reached (left_of table) part)) (left_of table - total_of (reached (left_of table) part)) rest)
goes guest at head n table part rest true on split more few is =
    let left = more_left head table more in
    let all : reached (left_of table) part ≡ part = all_reached (left_of table) part (omega (arith, left_with table part, (more_left head (with_entries table part) is).1)) in
    let came : length (with_entries table part).entries ≡ length table.entries + asked head table = count_with table part ∙ ap (λ es. length table.entries + length es) all ∙ ap (λ k. length table.entries + k) split.counts in
    on (with_entries table part) is (omega (arith, came, few, left.0, left.1)) ∙ behind_is guest at head table part rest split is
goes guest at head n table part rest false on split more few is =
    let index = length table.entries + length (reached (left_of table) part) in
    let left = left_of table - total_of (reached (left_of table) part) in
    let nothing = nothing_behind index left rest (rest_none head table guest part rest split is) in
    sym (ap (finish at head (with_entries table (rest_of guest head table))) nothing.0
    ∙ ap (λ t. finish at head t None) (ap (with_entries table) split.both ∙ with_first table part rest nothing.1))

-- refused or not
part_ends : (guest : Guest) (at : ℕ) (head : Head) (n : ℕ) (table : Places) (part rest : List Entry) (fault : Option FaultyEntry) → Ends guest at head n → Splits guest head table part rest → wants_more head table ≡ true
    → head.header.entries ≤ length table.entries + suc n
    → go_on (tabled at head (with_entries table part) fault) (λ g. after_parts guest n g)
    ≡ finish at head (with_entries table (rest_of guest head table)) (either fault (first_fault (length table.entries + length (reached (left_of table) part)) (left_of table - total_of (reached (left_of table) part)) rest))
part_ends guest at head n table part rest (Some f) on split more few = refl
part_ends guest at head n table part rest None on split more few = goes guest at head n table part rest (wants_more head (with_entries table part)) on split more few refl

ends : (guest : Guest) (at : ℕ) (head : Head) (n : ℕ) → Ends guest at head n
ends guest at head zero table more few = absurd (let left = more_left head table more in omega (arith, left.0, few))
ends guest at head (suc n) table more few =
    let place = entries_place head.header + 16 * length table.entries in
    let part = entries_in guest.entries place (asked head table) in
    let split = splits guest head table more in
    let rest = entries_in guest.entries (entries_place head.header + 16 * (length table.entries + asked head table)) (head.header.entries - (length table.entries + asked head table)) in
    ap (λ es. go_on (tabled at head (with_entries table es) (first_fault (length table.entries) (left_of table) es)) (λ g. after_parts guest n g)) (part_is guest at head table)
    ∙ part_ends guest at head n table part rest (first_fault (length table.entries) (left_of table) part) (ends guest at head n) split more few
    ∙ ap (finish at head (with_entries table (rest_of guest head table))) (sym (ap (first_fault (length table.entries) (left_of table)) split.both ∙ fault_append (length table.entries) (left_of table) part rest))

-- ---- from the header on

finish_is : (at : ℕ) (head : Head) (entries : List Entry) (fault : Option FaultyEntry) → finish at head (record { entries = reached head.work.len entries; len = head.work.len }) fault ≡ with_table at head entries fault
finish_is at head entries None = refl
finish_is at head entries (Some f) = refl

-- with no entry yet, what is left to come is the whole table
opening : (guest : Guest) (at : ℕ) (head : Head) → answer_by guest at head (no_entries head.work.len) ≡ with_head guest at head
opening guest at head =
    let len = head.work.len in
    let place : entries_place head.header + 16 * 0 ≡ entries_place head.header = omega arith in
    let all : head.header.entries - 0 ≡ head.header.entries = omega arith in
    let left : len - 0 ≡ len = omega arith in
    let whole = entries_in guest.entries (entries_place head.header) head.header.entries in
    let entries : rest_of guest head (no_entries len) ≡ whole = ap (λ a. entries_in guest.entries a (head.header.entries - 0)) place ∙ ap (entries_in guest.entries (entries_place head.header)) all in
    ap (λ es. finish at head (with_entries (no_entries len) es) (first_fault 0 (len - 0) es)) entries
    ∙ ap (λ n. finish at head (record { entries = reached n whole; len = len }) (first_fault 0 n whole)) left
    ∙ finish_is at head whole (first_fault 0 len whole)

head_ends : (guest : Guest) (at : ℕ) (head : Head) (n : ℕ) (b : Bool) → head.header.entries ≤ n → wants_more head (no_entries head.work.len) ≡ b
    → go_on (if b then More (record { at = at; step = AtEntries head (no_entries head.work.len) }) else Whole (record { at = at; head = head; table = no_entries head.work.len; moved = 0 })) (λ g. after_parts guest n g)
    ≡ with_head guest at head
head_ends guest at head n true few is =
    let none : head.header.entries ≤ 0 + n = omega (arith, few) in
    ends guest at head n (no_entries head.work.len) is none ∙ opening guest at head
head_ends guest at head n false few is =
    let len = head.work.len in
    let whole = entries_in guest.entries (entries_place head.header) head.header.entries in
    let none : (len ≡ 0) ⊎ (whole ≡ []) = (elim (cases_lt 0 len) [
      | inl some ↦
          let no_more : head.header.entries ≤ 0 = none_left head (no_entries len) is (omega (arith, some)) in
          let zero_entries : head.header.entries ≡ 0 = omega (arith, no_more) in
          inr (ap (entries_in guest.entries (entries_place head.header)) zero_entries)
      | inr zero_len ↦ inl (omega (arith, zero_len))
    ]) in
    let nothing = nothing_behind 0 len whole none in
    sym (ap (with_table at head whole) nothing.0 ∙ ap (λ es. Whole (record { at = at; head = head; table = record { entries = es; len = len }; moved = 0 })) nothing.1)

fis_ends : (guest : Guest) (at : ℕ) (head : Head) (n : ℕ) (r : Option Refusal) → head.header.entries ≤ n → go_on (framed at head r) (λ g. after_parts guest n g) ≡ refused_or r (with_head guest at head)
fis_ends guest at head n (Some r) few = refl
fis_ends guest at head n None few = head_ends guest at head n (wants_more head (no_entries head.work.len)) few refl

header_ends : (guest : Guest) (at : ℕ) (header : Header) (n : ℕ) (r : Option Refusal) → header.entries ≤ n → go_on (headed at header r) (λ g. after_parts guest (suc n) g) ≡ refused_or r (with_header guest at header)
header_ends guest at header n (Some r) few = refl
header_ends guest at header n None few =
    let raw = bytes_in guest.fis header.table (4 * header.dwords) in
    fis_ends guest at (head_of header raw) n (fis_refusal header raw) few

pub of_its_parts : CommandIsOfItsParts
of_its_parts guest list slot zero few = absurd (omega arith)
of_its_parts guest list slot (suc zero) few = absurd (omega arith)
of_its_parts guest list slot (suc (suc n)) few =
    let at = header_place list slot in
    header_ends guest at (header_at guest at) n (header_refusal (header_at guest at)) (omega arith)
