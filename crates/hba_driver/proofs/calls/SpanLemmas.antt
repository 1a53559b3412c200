-- For `Driver::submit`, and what memory is in use. Places in order, and spans that lie apart, share no byte.
use Rattle.std.proofs.Common.{◌≡◌, ℕ, ◌+◌, ◌<◌, ◌≤◌, ◌⊎◌, min, max, true, false, List, [], ◌∷◌, length, take, get_or, refl, arith, inl, inr}
use Rattle.std.proofs.lemmas.{Bool.le-ltb, Bool.Decides.nat_tests, List.Elements.{All-head, All-tail, All-weaker, All-more}}
use Rattle.host_memory.specs.{declared.table.Prd.Prd, Reading.{share_byte, shares_with, share_with}}
use Rattle.hba_driver.specs.{declared.span.Span.Span, Spans.{LiesIn, Spans, with_buffer, are_apart, holds_some}, Requests.{share_bytes, is_among}}

-- what lies in a span lies in one with a PRD more
Spans-with : (span : Span) (prd : Prd) (prds : List Prd) → Spans span prds → Spans (with_buffer span prd) prds
Spans-with span prd prds h =
    All-weaker (LiesIn span) (LiesIn (with_buffer span prd)) (λ p lies. let a = lies.0 in let b = lies.1 in (omega (arith, a), omega (arith, b))) prds h

-- and so does that PRD
LiesIn-with : (span : Span) (prd : Prd) → LiesIn (with_buffer span prd) prd
LiesIn-with span prd = (omega arith, omega arith)

-- one PRD more of a list
pub spans_more : (span : Span) (prds : List Prd) (i : ℕ) (d : Prd) → i < length prds → Spans span (take i prds) → Spans (with_buffer span (get_or prds i d)) (take (i + 1) prds)
spans_more span prds i d lt h =
    let prd = get_or prds i d in
    All-more (LiesIn (with_buffer span prd)) prds i d lt (Spans-with span prd (take i prds) h) (LiesIn-with span prd)

-- a PRD that ends before a span, or begins behind it, shares no byte with those in it
beside_one : (p : Prd) (span : Span) (qs : List Prd) → (p.address + p.bytes ≤ span.start) ⊎ (span.end ≤ p.address) → Spans span qs → shares_with p qs ≡ false
beside_one p span [] apart h = refl
beside_one p span (q ∷ qs) apart h =
    let lies = All-head (LiesIn span) q qs h in
    let a = lies.0 in let b = lies.1 in
    let here : share_byte p q ≡ false =
    le-ltb (max p.address q.address) (min (p.address + p.bytes) (q.address + q.bytes)) (elim apart [
      | inl before ↦ omega (arith, a, b, before)
      | inr behind ↦ omega (arith, a, b, behind)
    ]) in
    let later = beside_one p span qs apart (All-tail (LiesIn span) q qs h) in
    rw (here, later) refl

beside_all : (span other : Span) (ps qs : List Prd) → (span.end ≤ other.start) ⊎ (other.end ≤ span.start) → Spans span ps → Spans other qs → share_with ps qs ≡ false
beside_all span other [] qs apart h k = refl
beside_all span other (p ∷ ps) qs apart h k =
    let lies = All-head (LiesIn span) p ps h in
    let a = lies.0 in let b = lies.1 in
    let side : (p.address + p.bytes ≤ other.start) ⊎ (other.end ≤ p.address) = elim apart [
      | inl before ↦ inl (omega (arith, b, before))
      | inr behind ↦ inr (omega (arith, a, behind))
    ] in
    let here = beside_one p other qs side k in
    let later = beside_all span other ps qs apart (All-tail (LiesIn span) p ps h) k in
    rw (here, later) refl

sides : (span other : Span) → are_apart span other ≡ true → (span.end ≤ other.start) ⊎ (other.end ≤ span.start)
sides span other h = grind (arith, nat_tests)

-- lists whose spans lie apart share no byte
pub apart_share_none : (span other : Span) (ps qs : List Prd) → are_apart span other ≡ true → Spans span ps → Spans other qs → share_with ps qs ≡ false
apart_share_none span other ps qs h = beside_all span other ps qs (sides span other h)

-- bytes none of which is in a span are none of those in it
pub none_among : (span : Span) (at len : ℕ) (prds : List Prd) → holds_some span at len ≡ false → Spans span prds → is_among at len prds ≡ false
none_among span at len [] out h = refl
none_among span at len (p ∷ ps) out h =
    let lies = All-head (LiesIn span) p ps h in
    let a = lies.0 in let b = lies.1 in
    let here : share_bytes at len p.address p.bytes ≡ false = grind (arith, nat_tests) in
    let later = none_among span at len ps out (All-tail (LiesIn span) p ps h) in
    rw (here, later) refl
