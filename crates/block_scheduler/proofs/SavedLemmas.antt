-- The sets of the commands of a queue, made place by place.
use Rattle.std.proofs.{Common.{◌≡◌, ℕ, ◌+◌, ◌<◌, ◌≤◌, refl, sym, ap, ◌∙◌, arith, inl, inr}, lemmas.Bool.cases_eq}
use Rattle.std.specs.Prelude.{Bool}
use Rattle.block_disk.specs.Requests.{is_request}
use Rattle.block_queue.specs.Line.{Line, command_at, has_bit, starts}
use Rattle.block_scheduler.specs.{declared.sets.Sets.Sets, Sets.{AreSets, IsNoted, IsWithTag, asks_at, ends_at, is_end, no_sets, sends_alone}}
use Rattle.block_scheduler.specs.Sets.{sends_at, turn_at, waits_at}
use Rattle.block_scheduler.proofs.Places.{asks_turn, place_more}

-- the sets of the places below n
pub record AreSetsBelow (l : Line) (n : ℕ) (s : Sets) : Type 0 where
  pub waiting : (q : ℕ) → q < n → has_bit s.waiting q ≡ waits_at l q
  pub asking : (q : ℕ) → q < n → has_bit s.asking q ≡ asks_at l q
  pub sending : (q : ℕ) → q < n → has_bit s.sending q ≡ sends_at l q
  pub ending : (q : ℕ) → q < n → q < 32 → has_bit s.ending q ≡ ends_at l q

tag_more : (test : ℕ → Bool) (old new p : ℕ) (is : Bool) → p < 33 → IsWithTag old new p is → is ≡ test p
    → ((q : ℕ) → q < p → q < 32 → has_bit old q ≡ test q) → (q : ℕ) → q < p + 1 → q < 32 → has_bit new q ≡ test q
tag_more test old new p is low with' here before q below tag = elim (cases_eq q p) [
  | inl same ↦ ap (has_bit new) same ∙ with'.here (omega (arith, tag, same)) ∙ here ∙ sym (ap test same)
  | inr apart ↦ with'.others q tag apart ∙ before q (omega (arith, below, apart)) tag
]

pub sets_none : (l : Line) (s : Sets) → AreSetsBelow l 0 s
sets_none l s = record {
  waiting = λ q low. absurd (omega (arith, low));
  asking = λ q low. absurd (omega (arith, low));
  sending = λ q low. absurd (omega (arith, low));
  ending = λ q low tag. absurd (omega (arith, low));
}

pub sets_more : (l : Line) (p : ℕ) (s t : Sets) → p < 33 → AreSetsBelow l p s → IsNoted s t p (turn_at (command_at l p))
    → AreSetsBelow l (p + 1) t
sets_more l p s t low are noted = record {
  waiting = place_more (waits_at l) s.waiting t.waiting p (starts (turn_at (command_at l p))) low noted.waiting refl are.waiting;
  asking = place_more (asks_at l) s.asking t.asking p (is_request (turn_at (command_at l p))) low noted.asking
      (sym (asks_turn (command_at l p))) are.asking;
  sending = place_more (sends_at l) s.sending t.sending p (sends_alone p (turn_at (command_at l p))) low noted.sending refl are.sending;
  ending = tag_more (ends_at l) s.ending t.ending p (is_end (turn_at (command_at l p))) low noted.ending refl are.ending;
}

pub sets_all : (l : Line) (n : ℕ) (s : Sets) → 33 ≤ n → AreSetsBelow l n s → AreSets l s
sets_all l n s all are = record {
  waiting = λ q low. are.waiting q (omega (arith, low, all));
  asking = λ q low. are.asking q (omega (arith, low, all));
  sending = λ q low. are.sending q (omega (arith, low, all));
  ending = λ q low. are.ending q (omega (arith, low, all)) low;
}
