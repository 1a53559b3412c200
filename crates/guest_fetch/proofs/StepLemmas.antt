-- The moves one by one.
use Rattle.std.proofs.Common.{◌≡◌, ℕ, zero, suc, ◌+◌, ◌-◌, ◌<◌, ◌≤◌, min, List, [], ◌∷◌, length, take, drop, get_or, All, sym, ap, subst, ◌∙◌, arith}
use Rattle.std.proofs.{Common.{inl, inr}, lemmas.{Bool.cases_lt, List.{drop_all, drop_more, Elements.{All-drop}}}}
use Rattle.guest_fetch.specs.{declared.{entry.Entry.Entry, moves.Move.Move, span.Span.Span}, Entries.IsEntry, Places.{Delivers, Places, room_at}}
use Rattle.guest_fetch.specs.{Places.{singles, total_of}, Spans.{IsTable, begin_in, entries_from, entry_from, no_span, table_of}, Moves.Begins}
use Rattle.guest_fetch.specs.Moves.{HoldMoves, IsMove, any_told, completes, move_of, moves_at, moves_of}
use Rattle.guest_fetch.proofs.{MoveLemmas.{at_are, at_bring, at_few, at_tell, moves_at_is, moves_cons}, SpanLemmas.{drop_entries, total_is}}
use Rattle.guest_fetch.proofs.SpanLemmas.{total_take}

all_same : (xs ys : List Entry) → xs ≡ ys → All IsEntry xs → All IsEntry ys
all_same xs ys same are = subst (λ (es : List Entry). All IsEntry es) same are

-- the entry of the next byte
pub record Stands (spans : List Span) (next begin at end : ℕ) (s : Span) : Type 0 where
  pub is : IsEntry (entry_from begin s)
  pub after : begin ≤ at
  pub inside : at < s.end
  pub there : next < length spans
  pub first : entries_from begin (drop next spans) ≡ entry_from begin s ∷ entries_from s.end (drop (next + 1) spans)
  pub holds : end ≤ s.end + total_of (entries_from s.end (drop (next + 1) spans))

pub stands : (spans : List Span) (next begin first at end : ℕ) (d : Span) → HoldMoves spans next begin first at end → at < end → Stands spans next begin at end (get_or spans next d)
stands spans next begin first at end d hold more =
    let has = hold.left more in
    elim (cases_lt next (length spans)) [
      | inl lt ↦
          let s = get_or spans next d in
          let rest = entries_from s.end (drop (next + 1) spans) in
          let split : entries_from begin (drop next spans) ≡ entry_from begin s ∷ rest = ap (entries_from begin) (drop_more spans next d lt) in
          let are : All IsEntry (entry_from begin s ∷ rest) = all_same _ _ split hold.are in
          let is = are 0 (entry_from begin s) (omega arith) in
          let some = is.some in
          let here : Begins (entry_from begin s ∷ rest) (at - begin) = rw split at has.here in
          let all : end ≤ begin + total_of (entry_from begin s ∷ rest) = rw split at has.holds in
          record { is = is; after = has.after; inside = omega (arith, here, has.after); there = lt; first = split; holds = omega (arith, all, some) }
      | inr ge ↦
          let none : drop next spans ≡ [] = drop_all next spans ge in
          let here : Begins (entries_from begin []) (at - begin) = rw none at has.here in
          absurd here
    ]

pub begins_rest : (entries : List Entry) → All IsEntry entries → 0 < total_of entries → Begins entries 0
begins_rest [] are some = absurd (omega arith)
begins_rest (e ∷ rest) are some = (are 0 e (omega arith)).some

-- what is left after it
pub hold_next : (spans : List Span) (next begin first at end to : ℕ) (s : Span) → HoldMoves spans next begin first at end → at < end → Stands spans next begin at end s → to ≡ min s.end end → HoldMoves spans (next + 1) s.end first to end
hold_next spans next begin first at end to s hold more stand is =
    let rest = entries_from s.end (drop (next + 1) spans) in
    let all : All IsEntry (entry_from begin s ∷ rest) = all_same _ _ stand.first hold.are in
    let are : All IsEntry rest = λ k d h. all (suc k) d (omega arith) in
    let inside = stand.inside in
    let begun = hold.begun in
    record {
      are = are;
      begun = omega arith;
      within = omega arith;
      left = λ left.
          let same : to ≡ s.end = omega arith in
          let zero_skip : to - s.end ≡ 0 = omega arith in
          let holds = stand.holds in
          record { after = omega arith; here = rw zero_skip (begins_rest rest are (omega (arith, holds))); holds = holds };
    }

-- the first move that is left is given, and the others are left
pub moves_step : (spans : List Span) (next begin first at end to : ℕ) (s : Span) (step : Move) (moves : List Move) → HoldMoves spans next begin first at end → at < end → Stands spans next begin at end s → to ≡ min s.end end
    → step ≡ move_of (entry_from begin s) (at - begin) (at - first) (end - at) → moves_of (entries_from begin (drop next spans)) (at - begin) (at - first) (end - at) ≡ moves
    → moves ≡ step ∷ moves_of (entries_from s.end (drop (next + 1) spans)) (to - s.end) (to - first) (end - to)
moves_step spans next begin first at end to s step moves hold more stand is made all =
    let rest = entries_from s.end (drop (next + 1) spans) in
    let inside = stand.inside in
    let after = stand.after in
    let begun = hold.begun in
    let count = min (s.end - begin - (at - begin)) (end - at) in
    let a : 0 ≡ to - s.end = omega arith in
    let b : at - first + count ≡ to - first = omega arith in
    let c : end - at - count ≡ end - to = omega arith in
    sym all ∙ ap (λ es. moves_of es (at - begin) (at - first) (end - at)) stand.first
    ∙ moves_cons (entry_from begin s) rest (at - begin) (at - first) (end - at) (omega arith)
    ∙ ap (λ m. m ∷ moves_of rest 0 (at - first + count) (end - at - count)) (sym made)
    ∙ ap (λ n. step ∷ moves_of rest n (at - first + count) (end - at - count)) a
    ∙ ap (λ n. step ∷ moves_of rest (to - s.end) n (end - at - count)) b
    ∙ ap (λ n. step ∷ moves_of rest (to - s.end) (to - first) n) c

-- so fewer are left
pub moves_fewer : (got : Move) (rest moves : List Move) → moves ≡ got ∷ rest → length rest < length moves
moves_fewer got rest moves e = omega (arith, ap length e)

-- ---- the first of them

total_split : (es : List Entry) (k : ℕ) → total_of es ≡ total_of (take k es) + total_of (drop k es)
total_split es zero = omega arith
total_split [] (suc k) = omega arith
total_split (e ∷ es) (suc k) = let rest = total_split es k in omega (arith, rest)

-- the entry of the payload's first byte, as halving finds it
pub record Found (spans : List Span) (offset k begin : ℕ) : Type 0 where
  pub there : k ≤ length spans
  pub is : begin ≡ begin_in spans k
  pub begins : begin ≤ offset
  pub ends_after : k < length spans → offset < (get_or spans k no_span).end

pub hold_first : (spans : List Span) (len offset n count k begin : ℕ) → IsTable (table_of spans len) → Found spans offset k begin → count ≡ room_at (table_of spans len) offset n → HoldMoves spans k begin offset offset (offset + count)
hold_first spans len offset n count k begin table found room =
    let entries = entries_from 0 spans in
    let dropped : drop k entries ≡ entries_from begin (drop k spans) = drop_entries 0 spans k found.there ∙ ap (λ b. entries_from b (drop k spans)) (sym found.is) in
    let taken = total_take 0 spans k table.are found.there in
    let whole = total_split entries k in
    let total = total_is 0 spans table.are in
    let same = ap total_of dropped in
    record {
      are = all_same _ _ dropped (All-drop IsEntry k entries table.are);
      begun = omega arith;
      within = omega arith;
      left = λ some. record {
        after = found.begins;
        here = elim (cases_lt k (length spans)) [
          | inl lt ↦
              let split : entries_from begin (drop k spans) ≡ entry_from begin (get_or spans k no_span) ∷ entries_from (get_or spans k no_span).end (drop (k + 1) spans) = ap (entries_from begin) (drop_more spans k no_span lt) in
              let after = found.ends_after lt in
              let begins = found.begins in
              let here : offset - begin < (get_or spans k no_span).end - begin = omega arith in
              rw split here
          | inr ge ↦
              let last : k ≡ length spans = omega (arith, found.there) in
              let end : begin_in spans k ≡ begin_in spans (length spans) = ap (begin_in spans) last in
              absurd (omega (arith, some, room, total, end, found.is, found.begins))
        ];
        holds = omega (arith, some, room, taken, whole, same, found.is);
      };
    }

pub are_at : (spans : List Span) (len offset n count k begin : ℕ) (moves : List Move) → IsTable (table_of spans len) → Found spans offset k begin → count ≡ room_at (table_of spans len) offset n
    → moves ≡ moves_of (entries_from begin (drop k spans)) (offset - begin) 0 (offset + count - offset) → moves ≡ moves_at (entries_from 0 spans) offset (room_at (table_of spans len) offset n)
are_at spans len offset n count k begin moves table found room are =
    let entries = entries_from 0 spans in
    let dropped : drop k entries ≡ entries_from begin (drop k spans) = drop_entries 0 spans k found.there ∙ ap (λ b. entries_from b (drop k spans)) (sym found.is) in
    let taken = total_take 0 spans k table.are found.there in
    let same : total_of (take k entries) ≡ begin = omega (arith, taken, found.is) in
    let left : offset + count - offset ≡ count = omega arith in
    let hold = hold_first spans len offset n count k begin table found room in
    let here : 0 < count → Begins (drop k entries) (offset - total_of (take k entries)) = λ some. rw (dropped, same) (hold.left (omega arith)).here in
    are ∙ ap (λ m. moves_of (entries_from begin (drop k spans)) (offset - begin) 0 m) left
    ∙ ap (λ es. moves_of es (offset - begin) 0 count) (sym dropped) ∙ ap (λ b. moves_of (drop k entries) (offset - b) 0 count) (sym same)
    ∙ moves_at_is entries k offset count (omega (arith, same, found.begins)) here
    ∙ ap (moves_at entries offset) room

-- ---- what holds for all of them

lies : (table : Places) (offset n : ℕ) → 0 < room_at table offset n → offset + room_at table offset n ≤ total_of table.entries
lies table offset n some = omega arith

pub delivers_at : (table : Places) (offset n : ℕ) (moves : List Move) → All IsEntry table.entries → moves ≡ moves_at table.entries offset (room_at table offset n) → Delivers table offset n moves
delivers_at table offset n moves are is payload long = ap (singles payload) is ∙ at_bring table.entries offset (room_at table offset n) payload are (lies table offset n) (omega (arith, long))

pub each_at : (table : Places) (offset n : ℕ) (moves : List Move) → All IsEntry table.entries → moves ≡ moves_at table.entries offset (room_at table offset n) → All (IsMove n) moves
each_at table offset n moves are is = rw is (at_are table.entries offset (room_at table offset n) n are (lies table offset n) (omega arith))

pub few_at : (table : Places) (offset n : ℕ) (moves : List Move) → moves ≡ moves_at table.entries offset (room_at table offset n) → length moves ≤ length table.entries
few_at table offset n moves is = rw is (at_few table.entries offset (room_at table offset n))

pub told_at : (table : Places) (offset n : ℕ) (moves : List Move) → All IsEntry table.entries → moves ≡ moves_at table.entries offset (room_at table offset n) → any_told moves ≡ completes table.entries offset (room_at table offset n)
told_at table offset n moves are is = ap any_told is ∙ at_tell table.entries offset (room_at table offset n) are (lies table offset n)
