-- A run of a command's bytes as moves, one for each entry of the table that it touches (AHCI 1.3.1, section 4.2.3.3,
-- Physical Region Descriptor Table).
use Rattle.std.specs.Prelude.{ℕ, ◌+◌, ◌-◌, ◌^◌, ◌<◌, ◌≤◌, min, nat_lt, nat_le, if◌then◌else◌, List, [], ◌∷◌, zero, suc, All, drop, Bool, false, ◌&&◌}
use Rattle.std.specs.Prelude.{◌||◌}
use Rattle.guest_fetch.specs.{declared.{entry.Entry.Entry, moves.Move.Move, span.Span.Span}, Entries.IsEntry, Places.total_of, Spans.entries_from}

-- a move out of a payload of len bytes takes at least one byte, and lies in the payload and below the last address
abbrev pub IsMove : ℕ → Move → Type 0
IsMove len m = (0 < m.len) × (m.from + m.len ≤ len) × (m.at + m.len ≤ 2 ^ 64)

-- the move of left bytes of a payload, from its byte done on, to byte skip of an entry and those after it, as far as the
-- entry goes
abbrev pub move_of : Entry → (skip done left : ℕ) → Move
move_of e skip done left = record {
  at = e.address + skip;
  from = done;
  len = min (e.bytes - skip) left;
  interrupt = e.interrupt && nat_le (e.bytes - skip) left;
}

-- The moves of left bytes of a payload, from its byte done on. The first goes to byte skip of the first entry. They fill
-- the rest of that entry, and then the entries after it.
unfoldable pub moves_of : List Entry → (skip done left : ℕ) → List Move
moves_of [] skip done left = []
moves_of (e ∷ rest) skip done zero = []
moves_of (e ∷ rest) skip done (suc n) =
    let len = min (e.bytes - skip) (suc n) in
    move_of e skip done (suc n) ∷ moves_of rest 0 (done + len) (suc n - len)

-- The moves of left bytes of a payload, of which the first is byte offset of the command. The entries that lie wholly
-- before it have none.
unfoldable pub moves_at : List Entry → (offset left : ℕ) → List Move
moves_at [] offset left = []
moves_at (e ∷ rest) offset left =
    if nat_lt offset e.bytes then moves_of (e ∷ rest) offset 0 left else moves_at rest (offset - e.bytes) left

-- The last byte of an entry with I is among count bytes from byte offset on (PxIS.DPS, section 3.3.5): the entry ends
-- behind the first of them, and no later than the last.
abbrev pub completes : List Entry → (offset count : ℕ) → Bool
completes [] offset count = false
completes (e ∷ rest) offset count =
    (e.interrupt && nat_lt offset e.bytes && nat_le e.bytes (offset + count))
    || completes rest (offset - e.bytes) (count - (e.bytes - offset))

-- one of the moves tells that it is
abbrev pub any_told : List Move → Bool
any_told [] = false
any_told (m ∷ rest) = m.interrupt || any_told rest

-- the next byte lies in the first of these entries
abbrev pub Begins : List Entry → ℕ → Type 0
Begins [] skip = ⊥
Begins (e ∷ rest) skip = skip < e.bytes

-- what holds while bytes are left: the next one, byte at of the command, lies in the first of the entries from next on,
-- which have all of them
pub record HasNext (entries : List Entry) (begin at end : ℕ) : Type 0 where
  pub after : begin ≤ at
  pub here : Begins entries (at - begin)
  pub holds : end ≤ begin + total_of entries

-- what holds for every value: bytes first to at of the command were moved, and those up to end are left
pub record HoldMoves (spans : List Span) (next begin first at end : ℕ) : Type 0 where
  pub are : All IsEntry (entries_from begin (drop next spans))
  pub begun : first ≤ at
  pub within : at ≤ end
  pub left : at < end → HasNext (entries_from begin (drop next spans)) begin at end
