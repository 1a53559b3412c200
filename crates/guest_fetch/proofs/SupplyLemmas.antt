-- One supply after another.
use Rattle.std.proofs.Common.{◌≡◌, ℕ, ◌+◌, ◌-◌, ◌/◌, min, if◌then◌else◌, Bool, true, false, Option, Some, None, List, [], ◌∷◌, ◌++◌, length, sym, ap}
use Rattle.std.proofs.Common.{◌∙◌, arith}
use Rattle.guest_fetch.specs.declared.{command.Command.Command, entry.FaultyEntry.FaultyEntry, fetch.Step.TheVariants.AtEntries}
use Rattle.guest_fetch.specs.declared.{fetch.Supplied.TheVariants.{More, Whole}, head.Head.Head, header.Header.Header, refusal.Refusal.Refusal}
use Rattle.guest_fetch.specs.{Entries.{entries_at, first_fault, reached}, Fetching.{asked, framed, headed, no_entries, tabled, wants_more}}
use Rattle.guest_fetch.specs.{Headers.{header_in, header_refusal}, Heads.{fis_refusal, head_of}, Places.{Places, reach_of}, Runs.Comes}
use Rattle.guest_fetch.specs.Runs.{CommandIsWhatWasSupplied, CountIsOfBytes, IsSupplied, Then, counted, counted_all, entries_of, sum_of}
use Rattle.guest_fetch.specs.Spans.{left_of, with_entries}
use Rattle.guest_fetch.proofs.PartLemmas.{append-nil, with_both}

abbrev whole_of : ℕ → Head → Places → Command
whole_of at head table = record { at = at; head = head; table = table; moved = 0 }

abbrev Tells : Command → List (List ℕ) → Type 0
Tells command rest = (at : ℕ) (head : Head) (table : Places) → Comes command rest (record { at = at; step = AtEntries head table }) → command ≡ whole_of at head (with_entries table (entries_of rest))

with_none : (table : Places) → with_entries table [] ≡ table
with_none table = ap (λ es. record { entries = es; len = table.len }) (append-nil table.entries)

went_on : (command : Command) (rest : List (List ℕ)) (at : ℕ) (head : Head) (table : Places) (b : Bool) → Tells command rest
    → Then (Comes command rest) command rest (if b then More (record { at = at; step = AtEntries head table }) else Whole (whole_of at head table)) → command ≡ whole_of at head (with_entries table (entries_of rest))
went_on command rest at head table true tells comes = tells at head table comes
went_on command rest at head table false tells ends =
    let none : with_entries table (entries_of rest) ≡ table = ap (λ ps. with_entries table (entries_of ps)) ends.0 ∙ with_none table in
    sym ends.1 ∙ sym (ap (whole_of at head) none)

tabled_on : (command : Command) (rest : List (List ℕ)) (at : ℕ) (head : Head) (table : Places) (fault : Option FaultyEntry) → Tells command rest → Then (Comes command rest) command rest (tabled at head table fault)
    → command ≡ whole_of at head (with_entries table (entries_of rest))
tabled_on command rest at head table (Some f) tells comes = absurd comes
tabled_on command rest at head table None tells comes = went_on command rest at head table (wants_more head table) tells comes

tells_all : (command : Command) (parts : List (List ℕ)) → Tells command parts
tells_all command [] at head table comes = absurd comes
tells_all command (raw ∷ rest) at head table comes =
    let part = entries_at raw 0 (asked head table) in
    let count : length raw / 16 ≡ asked head table = omega (arith, comes.0) in
    let is = tabled_on command rest at head (with_entries table part) (first_fault (length table.entries) (left_of table) part) (tells_all command rest) comes.1 in
    is ∙ ap (whole_of at head) (with_both table part (entries_of rest) ∙ ap (λ n. with_entries table (entries_at raw 0 n ++ entries_of rest)) (sym count))

is_supplied : (at : ℕ) (header fis : List ℕ) (parts : List (List ℕ)) (command : Command) → command ≡ whole_of at (head_of (header_in header) fis) (with_entries (no_entries (head_of (header_in header) fis).work.len) (entries_of parts)) → IsSupplied at header fis parts command
is_supplied at header fis parts command is =
    let head = head_of (header_in header) fis in
    let len = head.work.len in
    let all : len - 0 ≡ len = omega arith in
    let head_is : command.head ≡ head = ap (λ (c : Command). c.head) is in
    let table : command.table ≡ record { entries = reached len (entries_of parts); len = len } = ap (λ (c : Command). c.table) is ∙ ap (λ n. record { entries = reached n (entries_of parts); len = len }) all in
    record {
      place = ap (λ (c : Command). c.at) is;
      head = head_is;
      table = table ∙ sym (ap (λ (h : Head). record { entries = reached h.work.len (entries_of parts); len = h.work.len }) head_is);
      moved = ap (λ (c : Command). c.moved) is;
    }

framed_on : (command : Command) (rest : List (List ℕ)) (at : ℕ) (head : Head) (r : Option Refusal) → Then (Comes command rest) command rest (framed at head r) → command ≡ whole_of at head (with_entries (no_entries head.work.len) (entries_of rest))
framed_on command rest at head (Some r) comes = absurd comes
framed_on command rest at head None comes = went_on command rest at head (no_entries head.work.len) (wants_more head (no_entries head.work.len)) (tells_all command rest) comes

headed_on : (command : Command) (fis : List ℕ) (rest : List (List ℕ)) (at : ℕ) (header : Header) (r : Option Refusal) → Then (Comes command (fis ∷ rest)) command (fis ∷ rest) (headed at header r)
    → command ≡ whole_of at (head_of header fis) (with_entries (no_entries (head_of header fis).work.len) (entries_of rest))
headed_on command fis rest at header (Some r) comes = absurd comes
headed_on command fis rest at header None comes = framed_on command rest at (head_of header fis) (fis_refusal header fis) comes.1

pub what_was_supplied : CommandIsWhatWasSupplied
what_was_supplied at header fis parts command comes = is_supplied at header fis parts command (headed_on command fis parts at (header_in header) (header_refusal (header_in header)) comes.1)

-- ---- Data

counts : (table : Places) (moved offset : ℕ) (lens : List ℕ) → moved ≡ min (reach_of table) offset → counted_all table moved offset lens ≡ min (reach_of table) (offset + sum_of lens)
counts table moved offset [] is = omega (arith, is)
counts table moved offset (len ∷ rest) is =
    let on = counts table (counted table moved offset len) (offset + len) rest (omega (arith, is)) in
    omega (arith, on)

pub of_bytes : CountIsOfBytes
of_bytes table lens =
    let sum : 0 + sum_of lens ≡ sum_of lens = omega arith in
    counts table 0 0 lens (omega arith) ∙ ap (min (reach_of table)) sum
