-- The rules of restored tables: what is tested is what every value keeps, and entries as they are kept are given back.
use Rattle.std.proofs.Common.{◌≡◌, ℕ, zero, suc, ◌+◌, ◌-◌, ◌<◌, ◌≤◌, Bool, true, Option, Some, None, List, [], ◌∷◌, length, take, refl, sym, ap}
use Rattle.std.proofs.{Common.{subst, ◌∙◌, arith}, Math.Dec.{leb, ltb}, lemmas.Bool.{and_from, and_parts, le-leb, leb-true, lt-ltb, ltb-true}}
use Rattle.std.proofs.lemmas.{Bool.Decides.nat_tests, List.Elements.{All-cons, All-nil}}
use Rattle.std.specs.Prelude.{◌&&◌, is_none}
use Rattle.guest_fetch.specs.{declared.{entry.Entry.Entry, span.Span.Span}, Entries.{IsEntry, entry_fault}, Places.{Places, total_of}, Spans.IsTable}
use Rattle.guest_fetch.specs.{Spans.{entries_from, entry_from, most_bytes, table_of}, Saved.{StandFrom, are_spans, is_table, may_follow, span_from}}
use Rattle.guest_fetch.specs.Saved.{spans_from, stand_now, stand_of, stand_on, table_parts}
use Rattle.guest_fetch.proofs.{EntryLemmas.entry_is, SpanLemmas.{length-entries}}

none_then : {A : Type 0} (o : Option A) → is_none o ≡ true → o ≡ None
none_then None e = refl
none_then (Some a) e = absurd (cc)

no_fault : (e : Entry) → IsEntry e → is_none (entry_fault e) ≡ true
no_fault e is = let even = is.even in let whole = is.whole in let inside = is.inside in grind (arith, nat_tests)

-- ---- from spans to entries

-- such an entry may be kept
follows_is : (begin len : ℕ) (s : Span) → may_follow begin len s ≡ true → (begin < len) × (begin < s.end) × IsEntry (entry_from begin s)
follows_is begin len s e =
    let all = and_parts _ (is_none (entry_fault (entry_from begin s))) e in
    let some = and_parts _ (leb (s.end - begin) 4194304) all.0 in
    let first = and_parts (ltb begin len) (ltb begin s.end) some.0 in
    let low = ltb-true begin len first.0 in
    let grows = ltb-true begin s.end first.1 in
    let most = leb-true (s.end - begin) 4194304 some.1 in
    (low, grows, entry_is (entry_from begin s) (none_then _ all.1) (omega arith) most)

needed_cons : (begin len end : ℕ) (e : Entry) (rest : List Entry) → begin + e.bytes ≡ end → begin < len
    → ((k : ℕ) → k < length rest → end + total_of (take k rest) < len) → (k : ℕ) → k < length (e ∷ rest) → begin + total_of (take k (e ∷ rest)) < len
needed_cons begin len end e rest is low on zero h = omega arith
needed_cons begin len end e rest is low on (suc k) h = let less = on k (omega arith) in omega (arith, less, is)

stand_cons : (begin len : ℕ) (s : Span) (rest : List Entry) → begin < len → begin < s.end → IsEntry (entry_from begin s)
    → StandFrom s.end len rest → StandFrom begin len (entry_from begin s ∷ rest)
stand_cons begin len s rest low grows is on = record {
  are = All-cons IsEntry (entry_from begin s) rest is on.are;
  needed = needed_cons begin len s.end (entry_from begin s) rest (omega arith) low on.needed;
}

again_cons : (begin : ℕ) (s : Span) (rest : List Span) → begin < s.end → spans_from s.end (entries_from s.end rest) ≡ rest
    → spans_from begin (entries_from begin (s ∷ rest)) ≡ s ∷ rest
again_cons begin s rest grows on =
    let here : begin + (s.end - begin) ≡ s.end = omega arith in
    ap (λ n. record { address = s.address; end = n; interrupt = s.interrupt } ∷ spans_from n (entries_from s.end rest)) here
    ∙ ap (λ ss. s ∷ ss) on

stands : (begin len : ℕ) (spans : List Span) → are_spans begin len spans ≡ true → StandFrom begin len (entries_from begin spans)
stands begin len [] e = record { are = All-nil IsEntry; needed = λ k h. absurd (omega arith) }
stands begin len (s ∷ rest) e =
    let both = and_parts (may_follow begin len s) (are_spans s.end len rest) e in
    let one = follows_is begin len s both.0 in
    stand_cons begin len s (entries_from s.end rest) one.0 one.1 one.2 (stands s.end len rest both.1)

-- entries that are kept give the spans back
again_from : (begin len : ℕ) (spans : List Span) → StandFrom begin len (entries_from begin spans) → spans_from begin (entries_from begin spans) ≡ spans
again_from begin len [] stand = refl
again_from begin len (s ∷ rest) stand =
    let now = stand_now begin len (entry_from begin s) (entries_from s.end rest) stand in
    let some : 0 < s.end - begin = now.0.some in
    let here : begin + (s.end - begin) ≡ s.end = omega arith in
    let From : ℕ → Type 0 = λ n. StandFrom n len (entries_from s.end rest) in
    let on : StandFrom s.end len (entries_from s.end rest) = subst From here (stand_on begin len (entry_from begin s) (entries_from s.end rest) stand) in
    again_cons begin s rest (omega arith) (again_from s.end len rest on)

pub spans_again : (spans : List Span) (len : ℕ) → IsTable (table_of spans len) → spans_from 0 (entries_from 0 spans) ≡ spans
spans_again spans len is = again_from 0 len spans (stand_of (table_of spans len) is)

pub fit_keeps : (len : ℕ) (spans : List Span) → is_table (len, spans) ≡ true → IsTable (table_of spans len)
fit_keeps len spans e =
    let all = and_parts _ (are_spans 0 len spans) e in
    let both = and_parts (leb len most_bytes) (ltb (length spans) 65536) all.0 in
    let stand = stands 0 len spans all.1 in
    let few = ltb-true (length spans) 65536 both.1 in
    record {
      are = stand.are;
      needed = λ k h. let less = stand.needed k h in omega arith;
      few = omega (arith, few, length-entries 0 spans);
      most = leb-true len most_bytes both.0;
    }

-- ---- and back

follows_entry : (begin len : ℕ) (e : Entry) → IsEntry e → begin < len → may_follow begin len (span_from begin e) ≡ true
follows_entry begin len e is low =
    let bytes : begin + e.bytes - begin ≡ e.bytes = omega arith in
    let fault : is_none (entry_fault (entry_from begin (span_from begin e))) ≡ true =
    ap (λ n. is_none (entry_fault (record { address = e.address; bytes = n; interrupt = e.interrupt }))) bytes ∙ no_fault e is in
    and_from _ _ (and_from _ _ (and_from _ _ (lt-ltb begin len low) (lt-ltb begin (begin + e.bytes) (omega (arith, is.some))))
    (le-leb (begin + e.bytes - begin) 4194304 (omega (arith, is.most)))) fault

spans_follow : (begin len : ℕ) (entries : List Entry) → StandFrom begin len entries → are_spans begin len (spans_from begin entries) ≡ true
spans_follow begin len [] stand = refl
spans_follow begin len (e ∷ rest) stand =
    let now = stand_now begin len e rest stand in
    and_from (may_follow begin len (span_from begin e)) (are_spans (begin + e.bytes) len (spans_from (begin + e.bytes) rest))
    (follows_entry begin len e now.0 now.1) (spans_follow (begin + e.bytes) len rest (stand_on begin len e rest stand))

length-spans : (begin : ℕ) (entries : List Entry) → length (spans_from begin entries) ≡ length entries
length-spans begin [] = refl
length-spans begin (e ∷ rest) = ap (λ n. suc n) (length-spans (begin + e.bytes) rest)

pub keeps_fit : (table : Places) → IsTable table → is_table (table_parts table) ≡ true
keeps_fit table is =
    let long = length-spans 0 table.entries in
    and_from _ _ (and_from _ _ (le-leb table.len most_bytes is.most) (lt-ltb (length (spans_from 0 table.entries)) 65536 (omega (arith, long, is.few))))
    (spans_follow 0 table.len table.entries (stand_of table is))
