-- For the functions of mask.rt and list.rt. Masks of slots, and the issues that they stand for.
use Rattle.std.proofs.Common.{◌≡◌, ◌≢◌, ◌<◌, ◌+◌, ◌-◌, ◌*◌, ◌%◌, ◌^◌, ℕ, zero, suc, Bool, true, false, not, ◌&&◌, ◌||◌, min, nat_eq, cond, List}
use Rattle.std.proofs.Common.{length, set, get_or, refl, ap, sym, subst, ◌∙◌, arith, inl, inr, w32, bit_and, bit_or, Option, Some, None}
use Rattle.std.proofs.{Common.{get_or-set_same, get_or-set_other, length-set}, lemmas.Bool.{cases_Bool, cases_eq, eq-eqb, ne_eqb, true≢false}}
use Rattle.std.proofs.lemmas.{Bool.{cond-true, cond-false}, List.get_or_past, Nat.{and_le_l, Bits.{bit_at-lt, bit_at-zero, bit_at_and, bit_at_not}}}
use Rattle.std.proofs.lemmas.Nat.Bits.{bit_at_set_same, bit_at_set_other, bit_at_clear_same, bit_at_clear_other, bit_at-trailing_zeros}
use Rattle.std.proofs.lemmas.Nat.Bits.{same_from_bits_below}
use Rattle.std.specs.{Int.{bit_at, bit_not, trailing_zeros}, Option.option_map, Prelude.is_none}
use Rattle.slots.specs.{declared.mask.Masks.Masks, Commands.{is_any, is_sent_beside, is_unanswered, may_begin, may_go}, Data.moved_over}
use Rattle.slots.specs.{Masks.{AreMasksBelow, IsLowestBit, IsMask, IsWithout, LeavesOut, Notes, SetsBit}, Setup.is_outstanding, Slots.{Issue, Slots}}
use Rattle.slots.specs.Slots.{has_bit, holds, is_control, is_done_issue, is_pio, is_queued_issue, is_sent_pio, is_short_issue, is_unsent, is_waiting}
use Rattle.slots.specs.Slots.{is_whole_issue, issue_at, issues_unless, lowest_below, mask_below, own_issue, own_of, owned_by, slots_of, waiting}
use Rattle.slots.proofs.MaskLemmas.{freed_all, get-unless, has_bit_mask, lowest_found, lowest_none, mask_fits, own_read, slot_read}

-- ---- bits

-- the bit of the slot, and each other bit
sets_bit : (slot : ℕ) (set : Bool) (old new : ℕ) → has_bit new slot ≡ set → ((k : ℕ) → k < 32 → k ≢ slot → has_bit new k ≡ has_bit old k) → SetsBit slot set old new
sets_bit slot set old new here other k below = elim (cases_eq k slot) [
  | inl e ↦ ap (has_bit new) e ∙ here ∙ sym (ap (λ (b : Bool). cond b set (has_bit old k)) (eq-eqb k slot e))
  | inr ne ↦ other k below ne ∙ sym (ap (λ (b : Bool). cond b set (has_bit old k)) (ne_eqb k slot ne))
]

pub bit_set : (mask slot : ℕ) (set : Bool) → slot < 32 → set ≡ true → SetsBit slot set mask (bit_or mask (1 * 2 ^ slot % 2 ^ 32))
bit_set mask slot set within is =
    sets_bit slot set mask _ (eq-eqb _ _ (bit_at_set_same w32 mask slot within) ∙ sym is) (λ k below ne. ap (λ (b : ℕ). nat_eq b 1) (bit_at_set_other w32 mask slot within k ne))

pub bit_cleared : (mask slot : ℕ) (set : Bool) → slot < 32 → set ≡ false → SetsBit slot set mask (bit_and mask (bit_not w32 (1 * 2 ^ slot % 2 ^ 32)))
bit_cleared mask slot set within is =
    sets_bit slot set mask _ (ap (λ (b : ℕ). nat_eq b 1) (bit_at_clear_same w32 mask slot within) ∙ sym is) (λ k below ne. ap (λ (b : ℕ). nat_eq b 1) (bit_at_clear_other w32 mask slot within k below ne))

pub fewer_bits : (mask slot : ℕ) → slot < 32 → has_bit mask slot ≡ true → bit_and mask (bit_not w32 (1 * 2 ^ slot % 2 ^ 32)) < mask
fewer_bits mask slot within there =
    let new : ℕ = bit_and mask (bit_not w32 (1 * 2 ^ slot % 2 ^ 32)) in
    let gone : has_bit new slot ≡ false = ap (λ (b : ℕ). nat_eq b 1) (bit_at_clear_same w32 mask slot within) in
    let other : new ≢ mask = λ e. true≢false (sym there ∙ ap (λ (m : ℕ). has_bit m slot) (sym e) ∙ gone) in
    omega (arith, and_le_l mask (bit_not w32 (1 * 2 ^ slot % 2 ^ 32)), other)

pub bit_lowest : (mask : ℕ) → 0 < mask → mask < 2 ^ 32 → IsLowestBit mask (Some (trailing_zeros w32 mask))
bit_lowest mask some fits =
    let t = bit_at-trailing_zeros w32 mask some fits in
    (t.0, eq-eqb _ _ t.1, λ k below. ap (λ (b : ℕ). nat_eq b 1) (t.2 k below))

and_bit : (x y : ℕ) → x < 2 → y < 2 → nat_eq (min x y) 1 ≡ (nat_eq x 1 && nat_eq y 1)
and_bit zero zero hx hy = refl
and_bit zero (suc zero) hx hy = refl
and_bit zero (suc (suc y)) hx hy = absurd (omega arith)
and_bit (suc zero) zero hx hy = refl
and_bit (suc zero) (suc zero) hx hy = refl
and_bit (suc zero) (suc (suc y)) hx hy = absurd (omega arith)
and_bit (suc (suc x)) y hx hy = absurd (omega arith)

not_bit : (y : ℕ) → y < 2 → nat_eq (1 - y) 1 ≡ not (nat_eq y 1)
not_bit zero h = refl
not_bit (suc zero) h = refl
not_bit (suc (suc y)) h = absurd (omega arith)

same_bit : (x y : ℕ) → x < 2 → y < 2 → nat_eq x 1 ≡ nat_eq y 1 → x ≡ y
same_bit zero zero hx hy e = refl
same_bit zero (suc zero) hx hy e = absurd (true≢false (sym e))
same_bit zero (suc (suc y)) hx hy e = absurd (omega arith)
same_bit (suc zero) zero hx hy e = absurd (true≢false e)
same_bit (suc zero) (suc zero) hx hy e = refl
same_bit (suc zero) (suc (suc y)) hx hy e = absurd (omega arith)
same_bit (suc (suc x)) y hx hy e = absurd (omega arith)

-- the bits that two masks have both
pub bits_both : (mask other k : ℕ) → has_bit (bit_and mask other) k ≡ (has_bit mask k && has_bit other k)
bits_both mask other k =
    ap (λ (b : ℕ). nat_eq b 1) (bit_at_and mask other k) ∙ and_bit (bit_at mask k) (bit_at other k) (bit_at-lt mask k) (bit_at-lt other k)

-- the bits of a mask that are not in another one
pub bits_without : (mask other : ℕ) → other < 2 ^ 32 → IsWithout other mask (bit_and mask (bit_not w32 other))
bits_without mask other fits k below =
    bits_both mask (bit_not w32 other) k
    ∙ ap (λ (b : Bool). has_bit mask k && b) (ap (λ (b : ℕ). nat_eq b 1) (bit_at_not w32 other k fits below) ∙ not_bit (bit_at other k) (bit_at-lt other k))

-- a mask is the number of the set of its bits
pub mask_all : (test : ℕ → Bool) (mask : ℕ) → mask < 2 ^ 32 → ((k : ℕ) → k < 32 → has_bit mask k ≡ test k) → mask ≡ mask_below test 32
mask_all test mask fits same = same_from_bits_below 32 mask (mask_below test 32) fits (mask_fits test 32) (λ k lt.
    same_bit (bit_at mask k) (bit_at (mask_below test 32) k) (bit_at-lt mask k) (bit_at-lt (mask_below test 32) k) (same k lt ∙ sym (has_bit_mask test k lt)))

and_true : (b : Bool) → (b && true) ≡ b
and_true true = refl
and_true false = refl

-- ---- a walk over the bits of a mask

-- each slot that is not left fails the test
abbrev pub NoneBut : (ℕ → Bool) → ℕ → Type 0
NoneBut test rest = (k : ℕ) → k < 32 → has_bit rest k ≡ false → test k ≡ false

kept_bit : (s k old new : ℕ) → k < 32 → k ≢ s → (b : Bool) → SetsBit s b old new → has_bit new k ≡ has_bit old k
kept_bit s k old new lt ne b sets = sets k lt ∙ ap (λ (x : Bool). cond x b (has_bit old k)) (ne_eqb k s ne)

own_bit : (s k old new : ℕ) → k < 32 → k ≡ s → (b : Bool) → SetsBit s b old new → has_bit new k ≡ b
own_bit s k old new lt e b sets = sets k lt ∙ ap (λ (x : Bool). cond x b (has_bit old k)) (eq-eqb k s e)

pub walk_on : (test : ℕ → Bool) (old new s : ℕ) → NoneBut test old → SetsBit s false old new → test s ≡ false → NoneBut test new
walk_on test old new s none sets fails k lt gone = elim (cases_eq k s) [
  | inl e ↦ ap test e ∙ fails
  | inr ne ↦ none k lt (sym (kept_bit s k old new lt ne false sets) ∙ gone)
]

pub walk_found : (test : ℕ → Bool) (rest s : ℕ) → NoneBut test rest → IsLowestBit rest (Some s) → test s ≡ true → lowest_below test 32 ≡ Some s
walk_found test rest s none low here = lowest_found test 32 s low.0 here (λ k lt. none k (omega (arith, low.0)) (low.2 k lt))

pub walk_ends : (test : ℕ → Bool) (rest : ℕ) → NoneBut test rest → IsLowestBit rest None → lowest_below test 32 ≡ None
walk_ends test rest none low = lowest_none test 32 (λ k lt. none k lt (low k lt))

-- the slots that are not left and pass the test
abbrev pub Gathered : (ℕ → Bool) → (rest found : ℕ) → Type 0
Gathered test rest found = (k : ℕ) → k < 32 → has_bit found k ≡ (not (has_bit rest k) && test k)

left_out : (r t : Bool) → (r ≡ false → t ≡ false) → false ≡ (not r && t)
left_out true t h = refl
left_out false t h = sym (h refl)

pub gather_starts : (test : ℕ → Bool) (rest : ℕ) → NoneBut test rest → Gathered test rest 0
gather_starts test rest none k lt = ap (λ (b : ℕ). nat_eq b 1) (bit_at-zero k) ∙ left_out (has_bit rest k) (test k) (none k lt)

pub gather_on : (test : ℕ → Bool) (old new s found more : ℕ) (b : Bool) → Gathered test old found → SetsBit s b found more → b ≡ test s → SetsBit s false old new → Gathered test new more
gather_on test old new s found more b all sets is gone k lt = elim (cases_eq k s) [
  | inl e ↦
      own_bit s k found more lt e b sets ∙ is ∙ sym (ap test e)
      ∙ sym (ap (λ (r : Bool). not r && test k) (own_bit s k old new lt e false gone))
  | inr ne ↦
      kept_bit s k found more lt ne b sets ∙ all k lt
      ∙ sym (ap (λ (r : Bool). not r && test k) (kept_bit s k old new lt ne false gone))
]

pub gather_ends : (test : ℕ → Bool) (rest found : ℕ) → found < 2 ^ 32 → Gathered test rest found → IsLowestBit rest None → found ≡ mask_below test 32
gather_ends test rest found fits all low = mask_all test found fits (λ k lt. all k lt ∙ ap (λ (r : Bool). not r && test k) (low k lt))

-- the slots of the mask that are not left are free, and the others are as they were
pub record FreedBut (mask rest : ℕ) (old new : List (Option Issue)) : Type 0 where
  pub long : length new ≡ length old
  pub inside : (k : ℕ) → k < 32 → has_bit rest k ≡ true → has_bit mask k ≡ true
  pub at : (k : ℕ) → k < 32 → get_or new k None ≡ cond (has_bit mask k && not (has_bit rest k)) None (get_or old k None)

none_yet : (b : Bool) (o : Option Issue) → o ≡ cond (b && not b) None o
none_yet true o = refl
none_yet false o = refl

pub freed_starts : (mask : ℕ) (issues : List (Option Issue)) → FreedBut mask mask issues issues
freed_starts mask issues = record { long = refl; inside = λ k lt h. h; at = λ k lt. none_yet (has_bit mask k) (get_or issues k None) }

pub freed_on : (mask rest next s : ℕ) (old new : List (Option Issue)) (o : Option Issue) → o ≡ None → s < length new → FreedBut mask rest old new → IsLowestBit rest (Some s) → SetsBit s false rest next → FreedBut mask next old (set new s o)
freed_on mask rest next s old new o free below f low gone = record {
  long = length-set new s o ∙ f.long;
  inside = λ k lt h. elim (cases_eq k s) [
    | inl e ↦ absurd (true≢false (sym h ∙ own_bit s k rest next lt e false gone))
    | inr ne ↦ f.inside k lt (sym (kept_bit s k rest next lt ne false gone) ∙ h)
  ];
  at = λ k lt. elim (cases_eq k s) [
    | inl e ↦
        ap (λ (i : ℕ). get_or (set new s o) i None) e ∙ get_or-set_same new s o None below ∙ free
        ∙ sym (ap (λ (r : Bool). cond (has_bit mask k && not r) None (get_or old k None)) (own_bit s k rest next lt e false gone)
        ∙ ap (λ (b : Bool). cond (b && true) None (get_or old k None)) (ap (has_bit mask) e ∙ f.inside s low.0 low.1))
    | inr ne ↦
        get_or-set_other new s k o None ne ∙ f.at k lt
        ∙ sym (ap (λ (r : Bool). cond (has_bit mask k && not r) None (get_or old k None)) (kept_bit s k rest next lt ne false gone))
  ];
}

pub freed_ends : (mask rest : ℕ) (old new : List (Option Issue)) → length old ≡ 32 → FreedBut mask rest old new → IsLowestBit rest None → new ≡ issues_unless (has_bit mask) old
freed_ends mask rest old new long f low =
    freed_all (has_bit mask) old new 32 (omega (arith, long)) (record {
      long = f.long;
      below = λ s lt. f.at s lt ∙ ap (λ (r : Bool). cond (has_bit mask s && not r) None (get_or old s None)) (low s lt) ∙ ap (λ (b : Bool). cond b None (get_or old s None)) (and_true (has_bit mask s));
      above = λ s le. get_or_past new s None (omega (arith, f.long, long)) ∙ sym (get_or_past old s None (omega (arith, long)));
    })

-- ---- masks and issues

pub no_masks : (masks : Masks) (issues : List (Option Issue)) → AreMasksBelow 0 masks issues
no_masks masks issues = record {
  issued = record { bits = λ k lt. absurd (omega arith) };
  unanswered = record { bits = λ k lt. absurd (omega arith) };
  queued = record { bits = λ k lt. absurd (omega arith) };
  unsent = record { bits = λ k lt. absurd (omega arith) };
}

mask_noted : (test : Issue → Bool) (n old new : ℕ) (issues : List (Option Issue)) → n < 32 → IsMask test n old issues → SetsBit n (holds test (get_or issues n None)) old new → IsMask test (n + 1) new issues
mask_noted test n old new issues below m sets = record {
  bits = λ k lt. elim (cases_eq k n) [
    | inl e ↦ own_bit n k old new (omega arith) e _ sets ∙ sym (ap (λ (i : ℕ). holds test (get_or issues i None)) e)
    | inr ne ↦ kept_bit n k old new (omega arith) ne _ sets ∙ m.bits k (omega arith)
  ];
}

-- one more slot was looked at
pub masks_noted : (n : ℕ) (old new : Masks) (issues : List (Option Issue)) → n < 32 → AreMasksBelow n old issues → Notes n (get_or issues n None) old new → AreMasksBelow (n + 1) new issues
masks_noted n old new issues below m notes = record {
  issued = mask_noted is_any n old.issued new.issued issues below m.issued notes.issued;
  unanswered = mask_noted is_unanswered n old.unanswered new.unanswered issues below m.unanswered notes.unanswered;
  queued = mask_noted is_queued_issue n old.queued new.queued issues below m.queued notes.queued;
  unsent = mask_noted is_unsent n old.unsent new.unsent issues below m.unsent notes.unsent;
}

mask_set_at : (test : Issue → Bool) (old new slot : ℕ) (issues : List (Option Issue)) (o : Option Issue) → slot < length issues → IsMask test 32 old issues → SetsBit slot (holds test o) old new → IsMask test 32 new (set issues slot o)
mask_set_at test old new slot issues o below m sets = record {
  bits = λ k lt. elim (cases_eq k slot) [
    | inl e ↦
        own_bit slot k old new lt e _ sets
        ∙ sym (ap (λ (i : ℕ). holds test (get_or (set issues slot o) i None)) e ∙ ap (holds test) (get_or-set_same issues slot o None below))
    | inr ne ↦ kept_bit slot k old new lt ne _ sets ∙ m.bits k lt ∙ sym (ap (holds test) (get_or-set_other issues slot k o None ne))
  ];
}

masks_set : (old new : Masks) (slot : ℕ) (issues : List (Option Issue)) (o : Option Issue) → slot < length issues → AreMasksBelow 32 old issues → Notes slot o old new → AreMasksBelow 32 new (set issues slot o)
masks_set old new slot issues o below m notes = record {
  issued = mask_set_at is_any old.issued new.issued slot issues o below m.issued notes.issued;
  unanswered = mask_set_at is_unanswered old.unanswered new.unanswered slot issues o below m.unanswered notes.unanswered;
  queued = mask_set_at is_queued_issue old.queued new.queued slot issues o below m.queued notes.queued;
  unsent = mask_set_at is_unsent old.unsent new.unsent slot issues o below m.unsent notes.unsent;
}

-- one slot has changed
pub slot_changed : (old new : Masks) (slot : ℕ) (issues : List (Option Issue)) (o d : Option Issue) → slot < 32 → (length issues ≡ 32) × AreMasksBelow 32 old issues
    → Notes slot (get_or (set issues slot o) slot d) old new → (length (set issues slot o) ≡ 32) × AreMasksBelow 32 new (set issues slot o)
slot_changed old new slot issues o d small m notes =
    let below : slot < length issues = omega (arith, m.0, small) in
    let now : Notes slot o old new = subst (λ (x : Option Issue). Notes slot x old new) (get_or-set_same issues slot o d below) notes in
    (length-set issues slot o ∙ m.0, masks_set old new slot issues o below m.1 now)

same_moved : (test : Issue → Bool) (offset count : ℕ) (o : Option Issue) → ((i : Issue) → test (moved_over offset count i) ≡ test i) → holds test (option_map (moved_over offset count) o) ≡ holds test o
same_moved test offset count None same = refl
same_moved test offset count (Some i) same = same i

mask_moved : (test : Issue → Bool) (mask slot offset count : ℕ) (issues : List (Option Issue)) (o : Option Issue) → slot < length issues → o ≡ option_map (moved_over offset count) (get_or issues slot None)
    → ((i : Issue) → test (moved_over offset count i) ≡ test i) → IsMask test 32 mask issues → IsMask test 32 mask (set issues slot o)
mask_moved test mask slot offset count issues o below is same m = record {
  bits = λ k lt. m.bits k lt ∙ elim (cases_eq k slot) [
    | inl e ↦
        ap (λ (i : ℕ). holds test (get_or issues i None)) e ∙ sym (same_moved test offset count (get_or issues slot None) same) ∙ ap (holds test) (sym is)
        ∙ sym (ap (λ (i : ℕ). holds test (get_or (set issues slot o) i None)) e ∙ ap (holds test) (get_or-set_same issues slot o None below))
    | inr ne ↦ sym (ap (holds test) (get_or-set_other issues slot k o None ne))
  ];
}

-- bytes of a slot were transferred
pub masks_moved : (masks : Masks) (slot offset count : ℕ) (issues : List (Option Issue)) (o : Option Issue) → slot < length issues → o ≡ option_map (moved_over offset count) (get_or issues slot None)
    → AreMasksBelow 32 masks issues → AreMasksBelow 32 masks (set issues slot o)
masks_moved masks slot offset count issues o below is m = record {
  issued = mask_moved is_any masks.issued slot offset count issues o below is (λ i. refl) m.issued;
  unanswered = mask_moved is_unanswered masks.unanswered slot offset count issues o below is (λ i. refl) m.unanswered;
  queued = mask_moved is_queued_issue masks.queued slot offset count issues o below is (λ i. refl) m.queued;
  unsent = mask_moved is_unsent masks.unsent slot offset count issues o below is (λ i. refl) m.unsent;
}

and_false : (b : Bool) → (b && false) ≡ false
and_false true = refl
and_false false = refl

holds_unless : (test : Issue → Bool) (b : Bool) (o : Option Issue) → (holds test o && not b) ≡ holds test (cond b None o)
holds_unless test true o = and_false (holds test o)
holds_unless test false o = and_true (holds test o)

mask_freed : (test : Issue → Bool) (mask old new : ℕ) (issues : List (Option Issue)) → length issues ≡ 32 → IsMask test 32 old issues → IsWithout mask old new → IsMask test 32 new (issues_unless (has_bit mask) issues)
mask_freed test mask old new issues long m without = record {
  bits = λ k lt.
      without k lt ∙ ap (λ (b : Bool). b && not (has_bit mask k)) (m.bits k lt) ∙ holds_unless test (has_bit mask k) (get_or issues k None)
      ∙ sym (ap (holds test) (get-unless (has_bit mask) issues k None (omega (arith, long))));
}

-- slots were freed
pub masks_freed : (mask : ℕ) (old new : Masks) (issues : List (Option Issue)) → length issues ≡ 32 → AreMasksBelow 32 old issues → LeavesOut mask old new → AreMasksBelow 32 new (issues_unless (has_bit mask) issues)
masks_freed mask old new issues long m without = record {
  issued = mask_freed is_any mask old.issued new.issued issues long m.issued without.issued;
  unanswered = mask_freed is_unanswered mask old.unanswered new.unanswered issues long m.unanswered without.unanswered;
  queued = mask_freed is_queued_issue mask old.queued new.queued issues long m.queued without.queued;
  unsent = mask_freed is_unsent mask old.unsent new.unsent issues long m.unsent without.unsent;
}

-- ---- what the masks exclude

owned_fails : (test : Issue → Bool) (dev : ℕ) (i : Issue) → test i ≡ false → holds test (owned_by dev (Some i)) ≡ false
owned_fails test dev i fails = elim (cases_Bool (nat_eq i.dev dev)) [
  | inl own ↦ ap (holds test) (cond-true (nat_eq i.dev dev) (Some i) None own) ∙ fails
  | inr other ↦ ap (holds test) (cond-false (nat_eq i.dev dev) (Some i) None other)
]

waits_not : (s a : Bool) → (not a && not (not s)) ≡ false → (s && not a) ≡ false
waits_not true true h = refl
waits_not true false h = h
waits_not false a h = refl

sent_not : (s b : Bool) → not (not s) ≡ false → (s && b) ≡ false
sent_not true b h = absurd (true≢false h)
sent_not false b h = refl

queued_not : (q a : Bool) → (q && not (not a)) ≡ false → (q && a) ≡ false
queued_not true true h = h
queued_not true false h = refl
queued_not false a h = refl

pub no_waiting : (dev : ℕ) (o : Option Issue) → (holds is_unanswered o && not (holds is_unsent o)) ≡ false → holds is_waiting (owned_by dev o) ≡ false
no_waiting dev None h = refl
no_waiting dev (Some i) h = owned_fails is_waiting dev i (waits_not i.sent i.answered h)

pub no_sent_pio : (dev : ℕ) (o : Option Issue) → (holds is_any o && not (holds is_unsent o)) ≡ false → holds is_sent_pio (owned_by dev o) ≡ false
no_sent_pio dev None h = refl
no_sent_pio dev (Some i) h = owned_fails is_sent_pio dev i (sent_not i.sent (is_pio i.work.kind) h)

pub no_outstanding : (dev : ℕ) (o : Option Issue) → (holds is_queued_issue o && not (holds is_unanswered o)) ≡ false → holds is_outstanding (owned_by dev o) ≡ false
no_outstanding dev None h = refl
no_outstanding dev (Some i) h = owned_fails is_outstanding dev i (queued_not (is_queued_issue i) i.answered h)

pub none_beside : (dev : ℕ) (o : Option Issue) → (holds is_any o && not (holds is_unsent o)) ≡ false → holds (is_sent_beside dev) o ≡ false
none_beside dev None h = refl
none_beside dev (Some i) h = sent_not i.sent (not (nat_eq i.dev dev)) h

-- what a test of one slot of a device says
pub seen_own : (dev s : ℕ) (test : Issue → Bool) (inside now : List (Option Issue)) (d : Option Issue) (b : Bool) → inside ≡ now → length inside ≡ 32 → s < 32
    → b ≡ holds test (owned_by dev (get_or inside s d)) → holds test (own_issue (own_of dev now) s) ≡ b
seen_own dev s test inside now d b same long below is =
    subst (λ (x : List (Option Issue)). holds test (own_issue (own_of dev x) s) ≡ b) same (sym (is ∙ ap (holds test) (own_read dev inside s d (omega (arith, long, below)))))

-- the same, whatever its device
pub seen : (s : ℕ) (test : Issue → Bool) (inside now : List (Option Issue)) (d : Option Issue) (b : Bool) → inside ≡ now → length inside ≡ 32 → s < 32
    → b ≡ holds test (get_or inside s d) → holds test (get_or now s None) ≡ b
seen s test inside now d b same long below is =
    subst (λ (x : List (Option Issue)). holds test (get_or x s None) ≡ b) same (sym (is ∙ ap (holds test) (slot_read inside s d (omega (arith, long, below)))))

-- the slots of one mask that are not in another one
pub left_by : (one other test : Option Issue → Bool) (a b : ℕ) (issues : List (Option Issue)) → b < 2 ^ 32 → ((k : ℕ) → k < 32 → has_bit a k ≡ one (get_or issues k None)) → ((k : ℕ) → k < 32 → has_bit b k ≡ other (get_or issues k None))
    → ((o : Option Issue) → (one o && not (other o)) ≡ false → test o ≡ false) → NoneBut (λ k. test (get_or issues k None)) (bit_and a (bit_not w32 b))
left_by one other test a b issues fits ma mb skips k lt gone =
    skips (get_or issues k None) (sym (bits_without a b fits k lt ∙ ap (λ (x : Bool). x && not (has_bit b k)) (ma k lt) ∙ ap (λ (x : Bool). one (get_or issues k None) && not x) (mb k lt)) ∙ gone)

-- the same for slots of a device
pub left_own : (dev : ℕ) (one other test : Issue → Bool) (a b : ℕ) (issues : List (Option Issue)) → length issues ≡ 32 → b < 2 ^ 32 → ((k : ℕ) → k < 32 → has_bit a k ≡ holds one (get_or issues k None)) → ((k : ℕ) → k < 32 → has_bit b k ≡ holds other (get_or issues k None))
    → ((o : Option Issue) → (holds one o && not (holds other o)) ≡ false → holds test (owned_by dev o) ≡ false) → NoneBut (λ k. holds test (own_issue (own_of dev issues) k)) (bit_and a (bit_not w32 b))
left_own dev one other test a b issues long fits ma mb skips k lt gone =
    sym (ap (holds test) (own_read dev issues k None (omega (arith, long)))) ∙ left_by (holds one) (holds other) (λ o. holds test (owned_by dev o)) a b issues fits ma mb skips k lt gone

-- what is not queued is neither done nor short
pub none_done : (dev : ℕ) (o : Option Issue) → holds is_queued_issue o ≡ false → holds is_done_issue (owned_by dev o) ≡ false
none_done dev None h = refl
none_done dev (Some i) h = owned_fails is_done_issue dev i (ap (λ (b : Bool). b && is_whole_issue i) h)

pub none_short : (dev : ℕ) (o : Option Issue) → holds is_queued_issue o ≡ false → holds is_short_issue (owned_by dev o) ≡ false
none_short dev None h = refl
none_short dev (Some i) h = owned_fails is_short_issue dev i (ap (λ (b : Bool). b && not (is_whole_issue i)) h)

both_not : (q m t : Bool) → (q ≡ false → t ≡ false) → (q && m) ≡ false → (m && t) ≡ false
both_not true m t skips h = ap (λ (b : Bool). b && t) h
both_not false m t skips h = ap (λ (b : Bool). m && b) (skips refl) ∙ and_false m

-- the queued slots that are named
pub named_only : (dev mask : ℕ) (test : Issue → Bool) (a : ℕ) (issues : List (Option Issue)) → length issues ≡ 32 → ((k : ℕ) → k < 32 → has_bit a k ≡ holds is_queued_issue (get_or issues k None))
    → ((o : Option Issue) → holds is_queued_issue o ≡ false → holds test (owned_by dev o) ≡ false) → NoneBut (λ k. has_bit mask k && holds test (own_issue (own_of dev issues) k)) (bit_and a mask)
named_only dev mask test a issues long ma skips k lt gone =
    let o : Option Issue = get_or issues k None in
    ap (λ (x : Option Issue). has_bit mask k && holds test x) (sym (own_read dev issues k None (omega (arith, long))))
    ∙ both_not (holds is_queued_issue o) (has_bit mask k) (holds test (owned_by dev o)) (skips o) (ap (λ (b : Bool). b && has_bit mask k) (sym (ma k lt)) ∙ sym (bits_both a mask k) ∙ gone)

none_issued : (dev : ℕ) (o : Option Issue) → holds is_any o ≡ false → holds is_any (owned_by dev o) ≡ false
none_issued dev None h = refl
none_issued dev (Some i) h = absurd (true≢false h)

pub issued_only : (dev a : ℕ) (issues : List (Option Issue)) → length issues ≡ 32 → ((k : ℕ) → k < 32 → has_bit a k ≡ holds is_any (get_or issues k None)) → NoneBut (λ k. holds is_any (own_issue (own_of dev issues) k)) a
issued_only dev a issues long ma k lt gone =
    sym (ap (holds is_any) (own_read dev issues k None (omega (arith, long)))) ∙ none_issued dev (get_or issues k None) (sym (ma k lt) ∙ gone)

-- a command that was sent does not go
pub none_goes : (ready faulty : ℕ) (t : Slots) (o : Option Issue) → holds is_unsent o ≡ false → holds (may_go ready faulty t) o ≡ false
none_goes ready faulty t None h = refl
none_goes ready faulty t (Some i) h = ap (λ (b : Bool). b && not (has_bit faulty i.dev) && (is_control i.work.kind || has_bit ready i.dev && is_none (waiting (slots_of i.dev t)) && may_begin (slots_of i.dev t) i)) h

pub unsent_only : (ready faulty a : ℕ) (t : Slots) → a ≡ mask_below (λ slot. holds is_unsent (issue_at t slot)) 32 → NoneBut (λ k. holds (may_go ready faulty t) (issue_at t k)) a
unsent_only ready faulty a t is k lt gone =
    none_goes ready faulty t (issue_at t k) (sym (ap (λ (m : ℕ). has_bit m k) is ∙ has_bit_mask (λ slot. holds is_unsent (issue_at t slot)) k lt) ∙ gone)
