-- Sets of places.
use Rattle.std.proofs.Common.{◌≡◌, ◌≢◌, ℕ, ◌+◌, ◌*◌, ◌%◌, ◌^◌, ◌<◌, ◌≤◌, true, false, List, Some, None, refl, sym, ap, ◌∙◌, arith, inl, inr, ◌⊎◌, w32}
use Rattle.std.proofs.{Common.{w64, bit_or, bit_and}, lemmas.{Bool.{cases_eq, cases_lt, eq-eqb, false_from_ne_true}, Nat.Bits.bit_at_set_same}}
use Rattle.std.proofs.lemmas.Nat.Bits.{bit_at_set_other, bit_at_clear_same, bit_at_clear_other, bit_at-zero}
use Rattle.std.specs.{Prelude.{Option, Bool, IfSome, IfNone, is_none, nat_eq, not, ◌&&◌, ◌||◌}, Int.bit_not}
use Rattle.block_command.specs.{declared.command.Stage.{Stage, TheVariants.{SetUpRead, SetUpWrite, End, Fail}}, Moments.{Moment, is_set_up, turn_of}}
use Rattle.block_disk.specs.{Table.{has_wire, wants_wire}, Requests.is_request}
use Rattle.block_disk.specs.Requests as requests
use Rattle.block_queue.proofs.Door.{of_and}
use Rattle.block_queue.specs.{Line.{IsOldest, Line, PassesNowhere, command_at, has_bit, may_send, may_start, may_start_at, starts}, Places.IsFirstIn}
use Rattle.block_queue.specs.Places.{IsWithout}
use Rattle.block_scheduler.specs.{declared.sets.Sets.Sets, Sets.{AreSets, IsNoted, IsSetOf, IsTagsOf, IsWith, IsWithTag, asks_at, is_end}}
use Rattle.block_scheduler.specs.Sets.{sends_alone, sends_at, turn_at, waits_at}

abbrev pub bit : ℕ → Bool
bit n = nat_eq n 1

-- ## One place

pub set_place : (s p : ℕ) → p < 33 → IsWith s (bit_or s (1 * 2 ^ p % 2 ^ 64)) p true
set_place s p low = record {
  here = eq-eqb _ _ (bit_at_set_same w64 s p (omega (arith, low)));
  others = λ q low' apart. ap bit (bit_at_set_other w64 s p (omega (arith, low)) q apart);
}

pub clear_place : (s p : ℕ) → p < 33 → IsWith s (bit_and s (bit_not w64 (1 * 2 ^ p % 2 ^ 64))) p false
clear_place s p low = record {
  here = ap bit (bit_at_clear_same w64 s p (omega (arith, low)));
  others = λ q low' apart. ap bit (bit_at_clear_other w64 s p (omega (arith, low)) q (omega (arith, low')) apart);
}

pub set_tag : (s p : ℕ) → p < 32 → IsWithTag s (bit_or s (1 * 2 ^ p % 2 ^ 32)) p true
set_tag s p low = record {
  here = λ low. eq-eqb _ _ (bit_at_set_same w32 s p (omega (arith, low)));
  others = λ q low' apart. ap bit (bit_at_set_other w32 s p (omega (arith, low)) q apart);
}

pub clear_tag : (s p : ℕ) → p < 32 → IsWithTag s (bit_and s (bit_not w32 (1 * 2 ^ p % 2 ^ 32))) p false
clear_tag s p low = record {
  here = λ low. ap bit (bit_at_clear_same w32 s p (omega (arith, low)));
  others = λ q low' apart. ap bit (bit_at_clear_other w32 s p (omega (arith, low)) q (omega (arith, low')) apart);
}

pub same_tags : (s p : ℕ) (is : Bool) → p ≡ 32 → IsWithTag s s p is
same_tags s p is e = record { here = λ low. absurd (omega (arith, low, e)); others = λ q low apart. refl }

pub empty : (test : ℕ → Bool) → ((q : ℕ) → q < 33 → test q ≡ false) → IsSetOf 0 test
empty test none = λ q low. ap bit (bit_at-zero q) ∙ sym (none q low)

pub empty_tags : (test : ℕ → Bool) → ((q : ℕ) → q < 32 → test q ≡ false) → IsTagsOf 0 test
empty_tags test none = λ q low. ap bit (bit_at-zero q) ∙ sym (none q low)

-- ## All sets

-- what is next at the other places is as it was
abbrev pub SameOthers : Line → Line → ℕ → Type 0
SameOthers old new p = (q : ℕ) → q < 33 → q ≢ p → command_at new q ≡ command_at old q

set_with : (old new p : ℕ) (is : Bool) (was now : ℕ → Bool) → IsWith old new p is → IsSetOf old was → now p ≡ is
    → ((q : ℕ) → q < 33 → q ≢ p → now q ≡ was q) → IsSetOf new now
set_with old new p is was now with' of here others = λ q low. elim (cases_eq q p) [
  | inl same ↦ ap (has_bit new) same ∙ with'.here ∙ sym here ∙ sym (ap now same)
  | inr apart ↦ with'.others q low apart ∙ of q low ∙ sym (others q low apart)
]

tags_with : (old new p : ℕ) (is : Bool) (was now : ℕ → Bool) → IsWithTag old new p is → IsTagsOf old was → now p ≡ is
    → ((q : ℕ) → q < 33 → q ≢ p → now q ≡ was q) → IsTagsOf new now
tags_with old new p is was now with' of here others = λ q low. elim (cases_eq q p) [
  | inl same ↦ ap (has_bit new) same ∙ with'.here (omega (arith, low, same)) ∙ sym here ∙ sym (ap now same)
  | inr apart ↦ with'.others q low apart ∙ of q low ∙ sym (others q (omega (arith, low)) apart)
]

pub asks_turn : (x : Option Moment) → requests.asks_at x ≡ is_request (turn_at x)
asks_turn None = refl
asks_turn (Some m) = refl

-- a FIS that is next may go where the link is free, or the command's own
may_free : (wants : Bool) (w : Option ℕ) → (wants ≡ false) ⊎ (w ≡ None) → (not wants || is_none w) ≡ true
may_free true w (inl e) = absurd (cc)
may_free false w (inl e) = refl
may_free true w (inr e) = ap is_none e
may_free false w (inr e) = refl

both : (x y : Bool) → x ≡ true → y ≡ true → (x && y) ≡ true
both true y e f = f
both false y e f = absurd (cc)

may_at : (l : Line) (p : ℕ) (x : Option Moment) → command_at l p ≡ x → sends_alone p (turn_at x) ≡ true
    → (wants_wire (turn_at x) ≡ false) ⊎ (l.queue.table.wire ≡ None) → may_send l p ≡ true
may_at l p None here e free = absurd (cc)
may_at l p (Some m) here e free = rw here (both _ _ (of_and _ _ e).0 (may_free _ _ free))

pub free_may : (l : Line) (p : ℕ) → l.queue.table.wire ≡ None → sends_at l p ≡ true → may_send l p ≡ true
free_may l p free e = may_at l p (command_at l p) refl e (inr free)

holder_wants : (m : Moment) (stage : Stage) → m.stage ≡ stage → is_set_up m stage ≡ true → wants_wire (turn_of stage) ≡ false
holder_wants m SetUpRead is e = absurd (cc)
holder_wants m SetUpWrite is e = absurd (cc)
holder_wants m End is e = absurd (cc)
holder_wants m Fail is e = absurd (cc)
holder_wants m stage is e = refl

holds_wants : (x : Option Moment) → has_wire x ≡ true → wants_wire (turn_at x) ≡ false
holds_wants None e = absurd (cc)
holds_wants (Some m) e = holder_wants m m.stage refl (of_and _ _ e).1

pub holder_may : (l : Line) (p : ℕ) → has_wire (command_at l p) ≡ true → sends_at l p ≡ true → may_send l p ≡ true
holder_may l p has e = may_at l p (command_at l p) refl e (inl (holds_wants _ has))

pub noted_sets : (old new : Line) (s t : Sets) (p : ℕ) → AreSets old s → IsNoted s t p (turn_at (command_at new p)) → SameOthers old new p
    → AreSets new t
noted_sets old new s t p are noted same = record {
  waiting = set_with _ _ p _ _ _ noted.waiting are.waiting refl (λ q low apart. ap (λ x. starts (turn_at x)) (same q low apart));
  asking = set_with _ _ p _ _ (asks_at new) noted.asking are.asking (asks_turn (command_at new p))
      (λ q low apart. ap (λ x. requests.asks_at x) (same q low apart));
  sending = set_with _ _ p _ _ _ noted.sending are.sending refl (λ q low apart. ap (λ x. sends_alone q (turn_at x)) (same q low apart));
  ending = tags_with _ _ p _ _ _ noted.ending are.ending refl (λ q low apart. ap (λ x. is_end (turn_at x)) (same q low apart));
}

-- ## A set that is made place by place

pub place_more : (test : ℕ → Bool) (old new p : ℕ) (is : Bool) → p < 33 → IsWith old new p is → is ≡ test p
    → ((q : ℕ) → q < p → has_bit old q ≡ test q) → (q : ℕ) → q < p + 1 → has_bit new q ≡ test q
place_more test old new p is low with' here before q below = elim (cases_eq q p) [
  | inl same ↦ ap (has_bit new) same ∙ with'.here ∙ here ∙ sym (ap test same)
  | inr apart ↦ with'.others q (omega (arith, below, low)) apart ∙ before q (omega (arith, below, apart))
]

-- ## A set that is made by a walk: the places that were taken out of the rest have what they are to have

pub record IsMade (test : ℕ → Bool) (made rest n : ℕ) : Type 0 where
  pub gone : (q : ℕ) → q < n → q < 33 → has_bit rest q ≡ false
  pub done : (q : ℕ) → q < 33 → has_bit rest q ≡ false → has_bit made q ≡ test q

pub made_none : (test : ℕ → Bool) (set : ℕ) → ((q : ℕ) → q < 33 → has_bit set q ≡ false → test q ≡ false) → IsMade test set set 0
made_none test set none = record {
  gone = λ q low _. absurd (omega (arith, low));
  done = λ q low e. e ∙ sym (none q low e);
}

pub made_on : (test : ℕ → Bool) (made new rest less n p : ℕ) (is : Bool) → IsMade test made rest n → IsFirstIn rest p
    → IsWith made new p is → is ≡ test p → IsWithout rest less p → IsMade test new less (n + 1)
made_on test made new rest less n p is walked first with' here without = record {
  gone = λ q low below. elim (cases_eq q p) [
    | inl same ↦ rw same without.here
    | inr apart ↦ without.others q below apart ∙ elim (cases_lt q p) [
      | inl lower ↦ first.before q lower
      | inr higher ↦ absurd (let e = walked.gone p (omega (arith, low, apart, higher)) first.below in let f = first.has in cc)
    ]
  ];
  done = λ q low e. elim (cases_eq q p) [
    | inl same ↦ ap (has_bit new) same ∙ with'.here ∙ here ∙ sym (ap test same)
    | inr apart ↦ with'.others q low apart ∙ walked.done q low (sym (without.others q low apart) ∙ e)
  ];
}

pub made_all : (test : ℕ → Bool) (made rest n : ℕ) → IsMade test made rest n → PassesNowhere (has_bit rest) → IsSetOf made test
made_all test made rest n walked none = λ q low. walked.done q low (none q low)

pub made_end : (test : ℕ → Bool) (made rest n : ℕ) → 33 ≤ n → IsMade test made rest n → IsSetOf made test
made_end test made rest n all walked = λ q low. walked.done q low (walked.gone q (omega (arith, low, all)) low)

-- ## What may start waits for its start

may_case : (l : Line) (p : ℕ) (x : Option Moment) → may_start_at l p x ≡ true → starts (turn_at x) ≡ true
may_case l p None e = absurd (cc)
may_case l p (Some m) e = (of_and _ _ e).0

pub may_waits : (l : Line) (p : ℕ) → may_start l p ≡ true → waits_at l p ≡ true
may_waits l p e = may_case l p (command_at l p) e

pub waits_not : (l : Line) (set : ℕ) → IsSetOf set (waits_at l) → (q : ℕ) → q < 33 → has_bit set q ≡ false → may_start l q ≡ false
waits_not l set of q low e = false_from_ne_true _ (λ may. let f = sym (of q low) ∙ e in let g = may_waits l q may in cc)

pub none_ready : (l : Line) (set : ℕ) → IsSetOf set (waits_at l) → PassesNowhere (has_bit set) → PassesNowhere (may_start l)
none_ready l set of none = λ q low. waits_not l set of q low (none q low)

pub first_ready : (l : Line) (set p : ℕ) → IsSetOf set (waits_at l) → IsOldest l.ranks (has_bit set) p → may_start l p ≡ true
    → IsOldest l.ranks (may_start l) p
first_ready l set p of oldest may = record {
  below = oldest.below;
  passes = may;
  first = λ q low e. oldest.first q low (of q low ∙ may_waits l q e);
}

-- ## Tests that agree

pub oldest_as : (ranks : List ℕ) (f g : ℕ → Bool) (p : ℕ) → ((q : ℕ) → q < 33 → f q ≡ g q) → IsOldest ranks f p → IsOldest ranks g p
oldest_as ranks f g p same oldest = record {
  below = oldest.below;
  passes = sym (same p oldest.below) ∙ oldest.passes;
  first = λ q low e. oldest.first q low (same q low ∙ e);
}

pub nowhere_as : (f g : ℕ → Bool) → ((q : ℕ) → q < 33 → f q ≡ g q) → PassesNowhere f → PassesNowhere g
nowhere_as f g same none = λ q low. sym (same q low) ∙ none q low

pub some_as : (ranks : List ℕ) (set : ℕ) (test : ℕ → Bool) (o : Option ℕ) → IsSetOf set test → IfSome o (IsOldest ranks (has_bit set)) → IfSome o (IsOldest ranks test)
some_as ranks set test None of is = tt
some_as ranks set test (Some p) of is = oldest_as ranks (has_bit set) test p of is

pub none_as : (set : ℕ) (test : ℕ → Bool) (o : Option ℕ) → IsSetOf set test → IfNone o (PassesNowhere (has_bit set)) → IfNone o (PassesNowhere test)
none_as set test None of is = nowhere_as (has_bit set) test of is
none_as set test (Some p) of is = tt

pub if_none : (o : Option ℕ) (P : Type 0) → P → IfNone o P
if_none None P p = p
if_none (Some n) P p = tt
