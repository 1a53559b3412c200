-- The command of a slot is told by the bytes of its header and of its table.
use Rattle.std.proofs.Common.{◌≡◌, ℕ, ◌+◌, ◌*◌, ◌<◌, ◌≤◌, Bool, true, List, length, take, drop, refl, sym, ap, ◌∙◌, arith, inl, inr, length-drop}
use Rattle.std.proofs.lemmas.{Bool.cases_Bool, List.{ext_get_or, get_or-drop, get_or-take, length-take}}
use Rattle.host_memory.specs.{Memory.{Memory, overwritten}, Reading.{AgreeFrom, LieApart, dword_at}}
use Rattle.host_memory.proofs.Door.{agree_beside, agree_within, dword_same, length-overwritten, says_the_same}
use Rattle.hba_commands.specs.{declared.header.Header.Header, Headers.{header_at, header_place}, Commands.{AgreeOnCommand, cfis_at, command_at}}
use Rattle.hba_commands.specs.Commands.{command_under, has_table, table_length, total_at}

-- the header is told by its 32 bytes
pub header_same : (clb slot : ℕ) (s t : List ℕ) → AgreeFrom (header_place clb slot) 32 s t → header_at s clb slot ≡ header_at t clb slot
header_same clb slot s t same =
    let at = header_place clb slot in
    let zero : dword_at s at ≡ dword_at t at = dword_same at s t (λ i h. same i (omega arith)) in
    let two : dword_at s (at + 8) ≡ dword_at t (at + 8) = dword_same (at + 8) s t (agree_within at 32 8 4 s t same (omega arith)) in
    let three : dword_at s (at + 12) ≡ dword_at t (at + 12) = dword_same (at + 12) s t (agree_within at 32 12 4 s t same (omega arith)) in
    rw (zero, two, three) refl

-- so many bytes from one address on
bytes_same : (at count : ℕ) (s t : List ℕ) → length s ≡ length t → AgreeFrom at count s t → take count (drop at s) ≡ take count (drop at t)
bytes_same at count s t long same =
    let a = length-take count (drop at s) in
    let b = length-take count (drop at t) in
    let c = length-drop at s in
    let d = length-drop at t in
    ext_get_or 0 (take count (drop at s)) (take count (drop at t)) (omega arith)
    (λ i h. let below : i < count = omega arith in
    get_or-take count (drop at s) i 0 below ∙ get_or-drop at s i 0 ∙ same i below ∙ sym (get_or-take count (drop at t) i 0 below ∙ get_or-drop at t i 0))

-- the command under a header is told by the bytes of its table
under_same : (m n : Memory) (header : Header) (slot : ℕ) (armed : Bool) → (has_table header ≡ true → AgreeFrom header.ctba (table_length header) m.structure n.structure)
    → length m.structure ≡ length n.structure → length m.client ≡ length n.client → command_under m header slot armed ≡ command_under n header slot armed
unfolding command_under
under_same m n header slot armed table long client =
    elim (cases_Bool (has_table header)) [
      | inl on ↦
          let same = table on in
          let cfis : cfis_at m.structure header.ctba ≡ cfis_at n.structure header.ctba = bytes_same header.ctba 20 m.structure n.structure long (λ i h. same i (omega arith)) in
          let prds = says_the_same (length m.client) (header.ctba + 128) header.prdtl m.structure n.structure
          (agree_within header.ctba (table_length header) 128 (16 * header.prdtl) m.structure n.structure same (omega arith)) (λ h. omega (arith, h), λ h. omega (arith, h)) in
          let total : total_at m.structure (length m.client) header.ctba header.prdtl ≡ total_at n.structure (length n.client) header.ctba header.prdtl =
          rw (prds.refusal, prds.entries, client) refl in
          rw (on, cfis, total) refl
      | inr off ↦ rw off refl
    ]

pub commands_same : (clb slot : ℕ) (armed : Bool) (m n : Memory) → AgreeOnCommand clb slot m n → command_at m clb slot armed ≡ command_at n clb slot armed
commands_same clb slot armed m n agree =
    under_same m n (header_at m.structure clb slot) slot armed agree.table agree.structure_len agree.client_len
    ∙ ap (λ (h : Header). command_under n h slot armed) (header_same clb slot m.structure n.structure agree.header)

pub commands_stay : (clb slot place : ℕ) (armed : Bool) (bytes : List ℕ) (m : Memory) → place + length bytes ≤ length m.structure → LieApart (header_place clb slot) 32 place (length bytes)
    → (has_table (header_at m.structure clb slot) ≡ true → LieApart (header_at m.structure clb slot).ctba (table_length (header_at m.structure clb slot)) place (length bytes))
    → command_at m clb slot armed ≡ command_at (record m { structure = overwritten m.structure place bytes }) clb slot armed
commands_stay clb slot place armed bytes m room apart table =
    commands_same clb slot armed m (record m { structure = overwritten m.structure place bytes }) (record {
      header = agree_beside m.structure place bytes (header_place clb slot) 32 room apart;
      table = λ on. agree_beside m.structure place bytes (header_at m.structure clb slot).ctba (table_length (header_at m.structure clb slot)) room (table on);
      structure_len = sym (length-overwritten m.structure place bytes room);
      client_len = refl;
    })
