-- Ends that go together: the tags whose end is next are told in order, and no other changes anything.
use Rattle.std.proofs.Common.{◌≡◌, ◌≢◌, ℕ, zero, suc, ◌+◌, ◌^◌, ◌<◌, ◌≤◌, true, false, None, refl, sym, ap, ◌∙◌, arith, inl, inr, ◌⊎◌}
use Rattle.std.proofs.lemmas.{Bool.{cases_eq, cases_lt}, List.{get_or-set_other}, Nat.Bits.bit_at_above}
use Rattle.std.specs.{Prelude.{Bool, nat_eq, ◌&&◌, if◌then◌else◌}, Option.option_map}
use Rattle.block_command.specs.Laws.{Goes, after}
use Rattle.block_queue.specs.{Line.{Line, PassesNowhere, command_at, has_bit, line_gone}, Places.{IsFirstIn, IsWithout}}
use Rattle.block_scheduler.specs.{Sets.{IsTagsOf, ends_at, is_end, turn_at}, Schedule.{Schedule, end_sent, ends_sent, with_line}}
use Rattle.block_scheduler.proofs.Held.{ends_more, ends_none}

-- ## Tags whose end is not next

end_case : (l : Line) (tag q : ℕ) (b : Bool) → q ≢ tag → command_at (if b then line_gone l tag else l) q ≡ command_at l q
end_case l tag q true apart = get_or-set_other l.queue.table.places tag q (option_map (λ m. after m Goes) (command_at l tag)) None apart
end_case l tag q false apart = refl

ends_other : (l : Line) (n q : ℕ) → n ≤ q → command_at (ends_sent l n) q ≡ command_at l q
unfolding ends_sent
ends_other l zero q low = refl
ends_other l (suc n) q low = end_case (ends_sent l n) n q _ (λ e. omega (arith, e, low)) ∙ ends_other l n q (omega (arith, low))

no_end : (l : Line) (tag : ℕ) (b : Bool) → ends_at l tag ≡ false → (if ends_at l tag && b then line_gone l tag else l) ≡ l
no_end l tag b e = rw e refl

skip : (l : Line) (n m : ℕ) → n ≤ m → ((q : ℕ) → n ≤ q → q < m → ends_at l q ≡ false) → ends_sent l m ≡ ends_sent l n
unfolding ends_sent
skip l zero zero low none = refl
skip l (suc n) zero low none = absurd (omega (arith, low))
skip l n (suc m) low none = elim (cases_eq n (suc m)) [
  | inl same ↦ ap (ends_sent l) (sym same)
  | inr apart ↦ no_end (ends_sent l m) m _ (ap (λ x. is_end (turn_at x)) (ends_other l m m (omega arith)) ∙ none m (omega (arith, low, apart)) (omega arith))
      ∙ skip l n m (omega (arith, low, apart)) (λ q from below. none q from (omega (arith, below)))
]

-- ## The walk

pub record IsEnding (old now : Schedule) (rest n : ℕ) : Type 0 where
  pub gone : (q : ℕ) → q < n → q < 33 → has_bit rest q ≡ false
  pub last : has_bit rest 32 ≡ false
  -- from a tag of the rest on, the rest has the tags whose end was next
  pub same : (r q : ℕ) → has_bit rest r ≡ true → r ≤ q → q < 32 → has_bit rest q ≡ ends_at old.line q
  -- all below the rest were told
  pub told : (m : ℕ) → m ≤ 32 → ((q : ℕ) → q < m → has_bit rest q ≡ false) → (m ≡ 32) ⊎ (has_bit rest m ≡ true)
      → now ≡ with_line old (ends_sent old.line m)

pub ending_none : (s : Schedule) (set : ℕ) → has_bit set 32 ≡ false → IsTagsOf set (ends_at s.line) → IsEnding s s set 0
ending_none s set last tags = record {
  gone = λ q low _. absurd (omega (arith, low));
  last = last;
  same = λ r q has from below. tags q below;
  told = λ m low none or. ap (with_line s) (ends_none s.line ∙ sym (skip s.line 0 m (omega arith)
      (λ q from below. sym (tags q (omega (arith, below, low))) ∙ none q below)));
}

abbrev bit : ℕ → Bool
bit n = nat_eq n 1

pub no_last : (set : ℕ) → set < 2 ^ 32 → has_bit set 32 ≡ false
no_last set fits = ap bit (bit_at_above set 32 32 fits (omega arith))

tag_below : (rest p : ℕ) → has_bit rest 32 ≡ false → IsFirstIn rest p → p < 32
tag_below rest p last first = elim (cases_eq p 32) [
  | inl is ↦ absurd (let f = sym (ap (has_bit rest) is) ∙ first.has in cc)
  | inr apart ↦ let low = first.below in omega (arith, low, apart)
]

pub ending_below : (old now : Schedule) (rest n p : ℕ) → IsEnding old now rest n → IsFirstIn rest p → p < 32
ending_below old now rest n p ending first = tag_below rest p ending.last first

stays : (rest less p q : ℕ) → IsWithout rest less p → q < 33 → has_bit less q ≡ true → (q ≢ p) × (has_bit rest q ≡ true)
stays rest less p q without low e = elim (cases_eq q p) [
  | inl is ↦ absurd (let f = sym (ap (has_bit less) is) ∙ e in let g = without.here in cc)
  | inr apart ↦ (apart, sym (without.others q low apart) ∙ e)
]

behind : (rest less p m : ℕ) → IsFirstIn rest p → IsWithout rest less p → p < 32 → m ≤ 32 → (m ≡ 32) ⊎ (has_bit less m ≡ true) → p < m
behind rest less p m first without low most (inl is) = omega (arith, low, is)
behind rest less p m first without low most (inr has) = let was = stays rest less p m without (omega (arith, most)) has in elim (cases_lt p m) [
  | inl lower ↦ lower
  | inr higher ↦ absurd (let apart = was.0 in let f = first.before m (omega (arith, higher, apart)) in let g = was.1 in cc)
]

pub ending_on : (old now new : Schedule) (rest less n p : ℕ) → IsEnding old now rest n → IsFirstIn rest p → IsWithout rest less p
    → new ≡ with_line now (end_sent now.line p) → IsEnding old new less (n + 1)
ending_on old now new rest less n p ending first without e =
    let low = tag_below rest p ending.last first in
    record {
      gone = λ q low' below. elim (cases_eq q p) [
        | inl is ↦ rw is without.here
        | inr apart ↦ without.others q below apart ∙ elim (cases_lt q p) [
          | inl lower ↦ first.before q lower
          | inr higher ↦ absurd (let f = ending.gone p (omega (arith, low', apart, higher)) first.below in let g = first.has in cc)
        ]
      ];
      last = without.others 32 (omega arith) (λ is. omega (arith, is, low)) ∙ ending.last;
      same = λ r q has from below. (let was = stays rest less p r without (omega (arith, from, below)) has in
          let over = behind rest less p r first without low (omega (arith, from, below)) (inr has) in
          without.others q (omega (arith, below)) (λ is. omega (arith, is, from, over)) ∙ ending.same r q was.1 from below);
      told = λ m most none or. (let over = behind rest less p m first without low most or in
          e ∙ ends_more now old p (ending.told p (omega (arith, low)) first.before (inr first.has))
          ∙ ap (with_line old) (sym (skip old.line (p + 1) m (omega (arith, over)) (λ q from below.
          sym (ending.same p q first.has (omega (arith, from)) (omega (arith, below, most)))
          ∙ sym (without.others q (omega (arith, below, most)) (λ is. omega (arith, is, from))) ∙ none q below))));
    }

pub ending_all : (old now : Schedule) (rest n : ℕ) → IsEnding old now rest n → PassesNowhere (has_bit rest)
    → now ≡ with_line old (ends_sent old.line 32)
ending_all old now rest n ending none = ending.told 32 (omega arith) (λ q low. none q (omega (arith, low))) (inl refl)

pub ending_end : (old now : Schedule) (rest n : ℕ) → 33 ≤ n → IsEnding old now rest n → now ≡ with_line old (ends_sent old.line 32)
ending_end old now rest n all ending = ending_all old now rest n ending (λ q low. ending.gone q (omega (arith, low, all)) low)
