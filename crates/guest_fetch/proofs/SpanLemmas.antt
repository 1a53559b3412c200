-- Facts about entries as they are kept.
use Rattle.std.proofs.Common.{◌≡◌, ℕ, zero, suc, ◌+◌, ◌-◌, ◌*◌, ◌<◌, ◌≤◌, min, None, List, [], ◌∷◌, ◌++◌, All, length, take, drop, refl, sym, ap, ◌∙◌}
use Rattle.std.proofs.{Common.{arith, inl, inr, length-append, append_assoc}, lemmas.{Bool.cases_lt, List.{take-append-le}}, Math.Seq.{take-length}}
use Rattle.std.proofs.lemmas.List.Elements.{All-cons, All-nil, All-append}
use Rattle.guest_fetch.specs.{declared.{entry.Entry.Entry, span.Span.Span}, Entries.{IsEntry, entry_at, entries_at, entry_fault, first_fault}}
use Rattle.guest_fetch.specs.{Entries.reached, Places.{reach_of, total_of}, Spans.{IsNeeded, IsTable, begin_from, begin_in, entries_from, entry_from}}
use Rattle.guest_fetch.specs.Spans.{table_of}
use Rattle.guest_fetch.proofs.EntryLemmas.{entries_next, entry_is, fault_cons, none_of, reached_cons, reached_none}

tail : (e : Entry) (rest : List Entry) → All IsEntry (e ∷ rest) → All IsEntry rest
tail e rest are k d h = are (suc k) d (omega arith)

head : (e : Entry) (rest : List Entry) → All IsEntry (e ∷ rest) → IsEntry e
head e rest are = are 0 e (omega arith)

pub length-entries : (begin : ℕ) (spans : List Span) → length (entries_from begin spans) ≡ length spans
length-entries begin [] = refl
length-entries begin (s ∷ rest) = ap (λ n. suc n) (length-entries s.end rest)

-- where the entry after one begins does not depend on where that one does
begin_next : (begin : ℕ) (s : Span) (rest : List Span) (k : ℕ) → begin_from begin (s ∷ rest) (suc k) ≡ begin_from s.end rest k
begin_next begin s rest zero = refl
begin_next begin s rest (suc k) = refl

pub drop_entries : (begin : ℕ) (spans : List Span) (k : ℕ) → k ≤ length spans → drop k (entries_from begin spans) ≡ entries_from (begin_from begin spans k) (drop k spans)
drop_entries begin spans zero h = refl
drop_entries begin [] (suc k) h = absurd (omega arith)
drop_entries begin (s ∷ rest) (suc k) h = drop_entries s.end rest k (omega arith) ∙ sym (ap (λ n. entries_from n (drop k rest)) (begin_next begin s rest k))

-- it begins behind the bytes of the entries before it
pub total_take : (begin : ℕ) (spans : List Span) (k : ℕ) → All IsEntry (entries_from begin spans) → k ≤ length spans → begin + total_of (take k (entries_from begin spans)) ≡ begin_from begin spans k
total_take begin spans zero are h = omega arith
total_take begin [] (suc k) are h = absurd (omega arith)
total_take begin (s ∷ rest) (suc k) are h =
    let some = (head _ _ are).some in
    let on = total_take s.end rest k (tail _ _ are) (omega arith) in
    let same = begin_next begin s rest k in
    omega (arith, some, on, same)

pub total_is : (begin : ℕ) (spans : List Span) → All IsEntry (entries_from begin spans) → begin + total_of (entries_from begin spans) ≡ begin_from begin spans (length spans)
total_is begin spans are =
    let long = length-entries begin spans in
    let whole : take (length spans) (entries_from begin spans) ≡ entries_from begin spans = ap (λ n. take n (entries_from begin spans)) (sym long) ∙ take-length (entries_from begin spans) in
    sym (ap (λ es. begin + total_of es) whole) ∙ total_take begin spans (length spans) are (omega arith)

-- one more entry behind them
pub entries_more : (begin : ℕ) (spans : List Span) (s : Span) → entries_from begin (spans ++ s ∷ []) ≡ entries_from begin spans ++ entry_from (begin_from begin spans (length spans)) s ∷ []
entries_more begin [] s = refl
entries_more begin (t ∷ rest) s =
    ap (λ es. entry_from begin t ∷ es) (entries_more t.end rest s)
    ∙ ap (λ n. entry_from begin t ∷ (entries_from t.end rest ++ entry_from n s ∷ [])) (sym (begin_next begin t rest (length rest)))

pub total_more : (entries : List Entry) (e : Entry) → total_of (entries ++ e ∷ []) ≡ total_of entries + e.bytes
total_more [] e = omega arith
total_more (t ∷ rest) e = omega (arith, total_more rest e)

pub needed_more : (len : ℕ) (entries : List Entry) (e : Entry) → IsNeeded len entries → total_of entries < len → IsNeeded len (entries ++ e ∷ [])
needed_more len entries e needed more k below =
    let long = length-append entries (e ∷ []) in
    let whole : take (length entries) entries ≡ entries = take-length entries in
    elim (cases_lt k (length entries)) [
      | inl lt ↦ let same = take-append-le k entries (e ∷ []) (omega arith) in rw same (needed k lt)
      | inr ge ↦
          let is : k ≡ length entries = omega (arith, long) in
          let same : take k (entries ++ e ∷ []) ≡ entries = ap (λ n. take n (entries ++ e ∷ [])) is ∙ take-append-le (length entries) entries (e ∷ []) (omega arith) ∙ whole in
          rw same more
    ]

-- ---- keeping entries

-- what holds of the entries that are kept so far, while the i-th of those that came is next
pub record Keeping (len : ℕ) (raw : List ℕ) (count i : ℕ) (old spans : List Span) (end : ℕ) : Type 0 where
  pub table : IsTable (table_of spans len)
  pub ends : end ≡ begin_in spans (length spans)
  pub many : length spans ≡ length old + i
  pub few : length old + count < 65536
  pub kept : take (length old) spans ≡ old
  pub sound : first_fault (length spans) (len - end) (entries_at raw (16 * i) (count - i)) ≡ None
  pub left : entries_from 0 spans ++ reached (len - end) (entries_at raw (16 * i) (count - i))
      ≡ entries_from 0 old ++ reached (len - total_of (entries_from 0 old)) (entries_at raw 0 count)

pub keeps_step : (len : ℕ) (raw : List ℕ) (count i : ℕ) (old spans : List Span) (end : ℕ) (e : Entry) (s : Span) (new : List Span)
    → Keeping len raw count i old spans end → i < count → end < len → e ≡ entry_at raw (16 * i) → 0 < e.bytes → e.bytes ≤ 4194304
    → s ≡ record { address = e.address; end = end + e.bytes; interrupt = e.interrupt } → new ≡ spans ++ s ∷ []
    → Keeping len raw count (i + 1) old new (end + e.bytes)
keeps_step len raw count i old spans end e s new keep below more is some most span pushed =
    let rest = entries_at raw (16 * (i + 1)) (count - (i + 1)) in
    let next : entries_at raw (16 * i) (count - i) ≡ e ∷ rest = entries_next raw count i below ∙ ap (λ x. x ∷ rest) (sym is) in
    let fault = none_of (length spans) (entry_fault e) (first_fault (length spans + 1) (len - end - e.bytes) rest)
    (sym (ap (first_fault (length spans) (len - end)) next ∙ fault_cons (length spans) (len - end) e rest (omega arith)) ∙ keep.sound) in
    let entry : IsEntry e = entry_is e fault.0 some most in
    let total = total_is 0 spans keep.table.are in
    let whole : total_of (entries_from 0 spans) ≡ end = omega (arith, total, keep.ends) in
    let bytes : end + e.bytes - end ≡ e.bytes = omega arith in
    let kept : entry_from (begin_in spans (length spans)) s ≡ e =
    ap (λ n. entry_from n s) (sym keep.ends) ∙ ap (entry_from end) span ∙ ap (λ n. record { address = e.address; bytes = n; interrupt = e.interrupt }) bytes in
    let long = length-append spans (s ∷ []) in
    let count_new : length new ≡ length spans + 1 = ap length pushed ∙ long in
    let entries : entries_from 0 new ≡ entries_from 0 spans ++ e ∷ [] =
    ap (entries_from 0) pushed ∙ entries_more 0 spans s ∙ ap (λ x. entries_from 0 spans ++ x ∷ []) kept in
    let are : All IsEntry (entries_from 0 new) = rw entries (All-append IsEntry (entries_from 0 spans) (e ∷ []) keep.table.are (All-cons IsEntry e [] entry (All-nil IsEntry))) in
    let total_new = total_is 0 new are in
    let summed = ap total_of entries ∙ total_more (entries_from 0 spans) e in
    let less : len - end - e.bytes ≡ len - (end + e.bytes) = omega arith in
    record {
      table = record {
        are = are;
        needed = rw entries (needed_more len (entries_from 0 spans) e keep.table.needed (omega (arith, whole)));
        few = omega (arith, length-entries 0 new, count_new, keep.many, keep.few);
        most = keep.table.most;
      };
      ends = omega (arith, total_new, summed, whole);
      many = omega (arith, count_new, keep.many);
      few = keep.few;
      kept = ap (take (length old)) pushed ∙ take-append-le (length old) spans (s ∷ []) (omega (arith, keep.many)) ∙ keep.kept;
      sound = ap (λ n. first_fault n (len - (end + e.bytes)) rest) count_new ∙ ap (λ n. first_fault (length spans + 1) n rest) (sym less) ∙ fault.1;
      left = ap (λ es. es ++ reached (len - (end + e.bytes)) rest) entries
          ∙ append_assoc (entries_from 0 spans) (e ∷ []) (reached (len - (end + e.bytes)) rest)
          ∙ ap (λ n. entries_from 0 spans ++ e ∷ reached n rest) (sym less)
          ∙ sym (ap (λ es. entries_from 0 spans ++ es) (ap (reached (len - end)) next ∙ reached_cons (len - end) e rest (omega arith)))
          ∙ keep.left;
    }

append-nil : (xs : List Entry) → xs ++ [] ≡ xs
append-nil [] = refl
append-nil (x ∷ xs) = ap (λ ys. x ∷ ys) (append-nil xs)

-- at the start
pub keeps_begin : (len : ℕ) (raw : List ℕ) (count : ℕ) (old : List Span) (end : ℕ) → IsTable (table_of old len) → end ≡ begin_in old (length old) → length old + count < 65536
    → first_fault (length old) (len - total_of (entries_from 0 old)) (entries_at raw 0 count) ≡ None → Keeping len raw count 0 old old end
keeps_begin len raw count old end table ends few sound =
    let total = total_is 0 old table.are in
    let whole : total_of (entries_from 0 old) ≡ end = omega (arith, total, ends) in
    let at : 16 * 0 ≡ 0 = omega arith in
    let all : count - 0 ≡ count = omega arith in
    record {
      table = table;
      ends = ends;
      many = omega arith;
      few = few;
      kept = take-length old;
      sound = ap (λ n. first_fault (length old) (len - end) (entries_at raw n (count - 0))) at ∙ ap (λ n. first_fault (length old) (len - end) (entries_at raw 0 n)) all
          ∙ ap (λ n. first_fault (length old) (len - n) (entries_at raw 0 count)) (sym whole) ∙ sound;
      left = ap (λ n. entries_from 0 old ++ reached (len - end) (entries_at raw n (count - 0))) at ∙ ap (λ n. entries_from 0 old ++ reached (len - end) (entries_at raw 0 n)) all
          ∙ ap (λ n. entries_from 0 old ++ reached (len - n) (entries_at raw 0 count)) (sym whole);
    }

-- once the bytes reach no further
pub keeps_end : (len : ℕ) (raw : List ℕ) (count i : ℕ) (old spans : List Span) (end : ℕ) → Keeping len raw count i old spans end → len ≤ end
    → entries_from 0 spans ≡ entries_from 0 old ++ reached (len - total_of (entries_from 0 old)) (entries_at raw 0 count)
keeps_end len raw count i old spans end keep enough =
    let none : len - end ≡ 0 = omega arith in
    let rest = entries_at raw (16 * i) (count - i) in
    sym (append-nil (entries_from 0 spans)) ∙ sym (ap (λ es. entries_from 0 spans ++ es) (ap (λ n. reached n rest) none ∙ reached_none rest)) ∙ keep.left

-- how many bytes have a place
pub reach_is : (spans : List Span) (len begin reach : ℕ) → IsTable (table_of spans len) → begin ≡ begin_in spans (length spans) → reach ≡ min begin len → reach ≡ reach_of (table_of spans len)
reach_is spans len begin reach table is least = let total = total_is 0 spans table.are in omega (arith, total, is, least)
