-- What stands in the structure area once a command is written.
use Rattle.std.proofs.Common.{◌≡◌, ℕ, ◌+◌, ◌-◌, ◌*◌, ◌<◌, ◌≤◌, ◌⊎◌, List, ◌++◌, take, drop, length, slice_index, refl, sym, ap, ◌∙◌, arith}
use Rattle.std.proofs.{Common.{append_assoc, inl, inr, get_or}, Math.ListN.{get_or-append}, lemmas.List.{length-append, length-take-le, get_or-take}}
use Rattle.std.proofs.lemmas.List.{get_or-drop, get_or-append_right, take_at, length-drop}
use Rattle.host_memory.specs.{Memory.{overwritten, zeros}, Reading.dword_at, Writing.table_bytes, declared.table.Prd.Prd}
use Rattle.host_memory.proofs.Door.{drop_overwritten, length-table_bytes, length-zeros, overwritten-more}
use Rattle.hba_commands.specs.{Headers.header_of_dwords, Commands.cfis_at, Writing.{header_bytes, command_table}, declared.header.Header.Header}
use Rattle.hba_commands.proofs.HeaderLemmas.{header_reads, FitsHeader}

-- how many bytes a header and a table have
pub length-header_bytes : (header : Header) → length (header_bytes header) ≡ 32
unfolding header_bytes zeros
length-header_bytes header = refl

pub length-command_table : (cfis : List ℕ) (prds : List Prd) → length cfis ≡ 20 → length (command_table cfis prds) ≡ 128 + 16 * length prds
unfolding command_table
length-command_table cfis prds long = rw (length-append (cfis ++ zeros 108) (table_bytes prds), length-append cfis (zeros 108), length-zeros 108, length-table_bytes prds) (omega arith)

-- a byte that is not among those that are written
pub overwritten_other : (old : List ℕ) (at : ℕ) (bytes : List ℕ) (i : ℕ) → at + length bytes ≤ length old → (i < at) ⊎ (at + length bytes ≤ i) → slice_index (overwritten old at bytes) i ≡ slice_index old i
overwritten_other old at bytes i room where_ =
    let front = take at old ++ bytes in
    let long : length (take at old) ≡ at = length-take-le at old (omega arith) in
    let both : length front ≡ at + length bytes = length-append (take at old) bytes ∙ ap (λ (n : ℕ). n + length bytes) long in
    elim where_ [
      | inl below ↦ get_or-append front (drop (at + length bytes) old) 0 i (omega arith) ∙ get_or-append (take at old) bytes 0 i (omega arith) ∙ get_or-take at old i 0 below
      | inr above ↦
          let rest : at + length bytes + (i - (at + length bytes)) ≡ i = omega arith in
          get_or-append_right front (drop (at + length bytes) old) (at + length bytes) i 0 both above ∙ get_or-drop (at + length bytes) old (i - (at + length bytes)) 0 ∙ ap (λ (n : ℕ). get_or old n 0) rest
    ]

-- it keeps its length
pub length-overwritten : (old : List ℕ) (at : ℕ) (bytes : List ℕ) → at + length bytes ≤ length old → length (overwritten old at bytes) ≡ length old
length-overwritten old at bytes room = simp (length-append, length-take-le at old (omega arith), length-drop) (omega arith)

-- the three writes of a table are one
pub table_put : (old : List ℕ) (at : ℕ) (cfis : List ℕ) (prds : List Prd) → length cfis ≡ 20 → at + 128 + 16 * length prds ≤ length old
    → overwritten (overwritten (overwritten old at cfis) (at + 20) (zeros 108)) (at + 128) (table_bytes prds) ≡ overwritten old at (command_table cfis prds)
unfolding command_table
table_put old at cfis prds long room =
    let zeros_long : length (zeros 108) ≡ 108 = length-zeros 108 in
    let prds_long : length (table_bytes prds) ≡ 16 * length prds = length-table_bytes prds in
    let first = overwritten-more old at 20 cfis (zeros 108) long (omega arith) in
    let head_long : length (cfis ++ zeros 108) ≡ 128 = length-append cfis (zeros 108) ∙ omega arith in
    rw first (overwritten-more old at 128 (cfis ++ zeros 108) (table_bytes prds) head_long (omega arith))

-- the command FIS that stands there
pub cfis_put : (old : List ℕ) (at : ℕ) (cfis : List ℕ) (prds : List Prd) → length cfis ≡ 20 → at ≤ length old → cfis_at (overwritten old at (command_table cfis prds)) at ≡ cfis
unfolding command_table
cfis_put old at cfis prds long room =
    let back = drop (at + length (command_table cfis prds)) old in
    ap (take 20) (drop_overwritten old at (command_table cfis prds) room ∙ append_assoc (cfis ++ zeros 108) (table_bytes prds) back ∙ append_assoc cfis (zeros 108) (table_bytes prds ++ back))
    ∙ take_at cfis (zeros 108 ++ (table_bytes prds ++ back)) 20 long

-- a dword of bytes that stay
dword_same : (s t : List ℕ) (at : ℕ) → ((k : ℕ) → k < 4 → slice_index s (at + k) ≡ slice_index t (at + k)) → dword_at s at ≡ dword_at t at
dword_same s t at same =
    let byte : (k : ℕ) → k < 4 → slice_index (drop at s) k ≡ slice_index (drop at t) k = λ k lt. get_or-drop at s k 0 ∙ same k lt ∙ sym (get_or-drop at t k 0) in
    let a = byte 0 (omega arith) in let b = byte 1 (omega arith) in let c = byte 2 (omega arith) in let d = byte 3 (omega arith) in
    rw (a, b, c, d) refl

-- the header that stands there, once a table apart from it is written too
pub header_put : (old : List ℕ) (place at : ℕ) (table : List ℕ) (header : Header) → FitsHeader header → place + 32 ≤ length old → at + length table ≤ length old → (at + length table ≤ place) ⊎ (place + 32 ≤ at)
    → (let new = overwritten (overwritten old place (header_bytes header)) at table in header_of_dwords (dword_at new place) (dword_at new (place + 8)) (dword_at new (place + 12))) ≡ header
header_put old place at table header fits room room_table apart =
    let first = overwritten old place (header_bytes header) in
    let long : length (header_bytes header) ≡ 32 = length-header_bytes header in
    let as_long : length first ≡ length old = length-overwritten old place (header_bytes header) (omega arith) in
    let same : (i : ℕ) → i < 32 → slice_index (overwritten first at table) (place + i) ≡ slice_index first (place + i) = λ i lt. overwritten_other first at table (place + i) (omega arith) (elim apart [ inl below ↦ inr (omega arith) | inr above ↦ inl (omega arith) ]) in
    let zero = dword_same (overwritten first at table) first place (λ k lt. same k (omega arith)) in
    let two = dword_same (overwritten first at table) first (place + 8) (λ k lt. let e : place + 8 + k ≡ place + (8 + k) = omega arith in rw e (same (8 + k) (omega arith))) in
    let three = dword_same (overwritten first at table) first (place + 12) (λ k lt. let e : place + 12 + k ≡ place + (12 + k) = omega arith in rw e (same (12 + k) (omega arith))) in
    rw (zero, two, three) (header_reads first place header (drop (place + length (header_bytes header)) old) fits (drop_overwritten old place (header_bytes header) (omega arith)))

-- the four writes of a command
pub record ArePuts (place at : ℕ) (header : Header) (cfis : List ℕ) (prds : List Prd) (old one two three new : List ℕ) : Type 0 where
  pub first : one ≡ overwritten old place (header_bytes header)
  pub second : two ≡ overwritten one at cfis
  pub third : three ≡ overwritten two (at + 20) (zeros 108)
  pub fourth : new ≡ overwritten three (at + 128) (table_bytes prds)
  pub cfis_long : length cfis ≡ 20
  pub room : place + 32 ≤ length old
  pub room_table : at + 128 + 16 * length prds ≤ length old
  pub apart : (at + 128 + 16 * length prds ≤ place) ⊎ (place + 32 ≤ at)

module _ (place at : ℕ) (header : Header) (cfis : List ℕ) (prds : List Prd) (old one two three new : List ℕ) (puts : ArePuts place at header cfis prds old one two three new) where
  header_long : length (header_bytes header) ≡ 32
  header_long = length-header_bytes header

  one_long : length one ≡ length old
  one_long = ap length puts.first ∙ length-overwritten old place (header_bytes header) (omega (arith, header_long, puts.room))

  -- they are two
  pub puts_all : new ≡ overwritten (overwritten old place (header_bytes header)) at (command_table cfis prds)
  puts_all =
      puts.fourth ∙ ap (λ (s : List ℕ). overwritten s (at + 128) (table_bytes prds)) (puts.third ∙ ap (λ (s : List ℕ). overwritten s (at + 20) (zeros 108)) puts.second)
      ∙ table_put one at cfis prds puts.cfis_long (omega (arith, one_long, puts.room_table)) ∙ ap (λ (s : List ℕ). overwritten s at (command_table cfis prds)) puts.first

  pub puts_cfis : cfis_at new at ≡ cfis
  puts_cfis =
      ap (λ (s : List ℕ). cfis_at s at) puts_all
      ∙ cfis_put (overwritten old place (header_bytes header)) at cfis prds puts.cfis_long (omega (arith, length-overwritten old place (header_bytes header) (omega (arith, header_long, puts.room)), puts.room_table))

  pub puts_header : FitsHeader header → header_of_dwords (dword_at new place) (dword_at new (place + 8)) (dword_at new (place + 12)) ≡ header
  puts_header fits =
      let long : length (command_table cfis prds) ≡ 128 + 16 * length prds = length-command_table cfis prds puts.cfis_long in
      rw puts_all (header_put old place at (command_table cfis prds) header fits puts.room (omega (arith, puts.room_table)) (elim puts.apart [ inl below ↦ inl (omega arith) | inr above ↦ inr above ]))

  -- where the entries stand
  pub puts_prds : drop (at + 128) new ≡ table_bytes prds ++ drop (at + 128 + length (table_bytes prds)) three
  puts_prds =
      let two_long : length two ≡ length old = ap length puts.second ∙ length-overwritten one at cfis (omega (arith, one_long, puts.cfis_long, puts.room_table)) ∙ one_long in
      let three_long : length three ≡ length old = ap length puts.third ∙ length-overwritten two (at + 20) (zeros 108) (omega (arith, length-zeros 108, two_long, puts.room_table)) ∙ two_long in
      ap (drop (at + 128)) puts.fourth ∙ drop_overwritten three (at + 128) (table_bytes prds) (omega (arith, three_long, puts.room_table))
