-- The ends of queued commands go together.
use Rattle.std.proofs.Common.{◌≡◌, ℕ, zero, suc, ◌<◌, ◌≤◌, ◌⊎◌, true, false, List, get_or, set, Some, None, refl, sym, ap, ◌∙◌, arith, inl, inr}
use Rattle.std.proofs.lemmas.{Bool.{and_from, cases_Bool, cases_eq}, List.{get_or-set_same, get_or-set_other}}
use Rattle.std.specs.{Prelude.{Option, Bool, is_none, ◌&&◌, if◌then◌else◌}, Option.option_map}
use Rattle.block_command.specs.{declared.command.{Command.Command, Stage.{Stage, TheVariants.End}}, Moments.{Moment, is_queued, turn_of}, Laws.Goes}
use Rattle.block_command.specs.Laws.{after}
use Rattle.block_command.proofs.Door.{at}
use Rattle.block_disk.specs.{Table.{Table, is_under_way, may_go_at, wire_with}, Requests.sends_at}
use Rattle.block_queue.specs.Line.{IsLine, Line, command_at, line_gone, may_send}
use Rattle.block_queue.proofs.Door.{of_and}
use Rattle.block_scheduler.specs.{Sets.{ends_at, is_end, turn_at}, Schedule.ends_sent}
use Rattle.sata_disk_laws.proofs.{Left.and_none, Silent.ends_line}

pub record AreEnded (l k : Line) (n : ℕ) : Type 0 where
  pub ended : (q : ℕ) → q < 33 → q < n → ends_at l q ≡ true → command_at k q ≡ option_map (λ m. after m Goes) (command_at l q)
  pub others : (q : ℕ) → q < 33 → (n ≤ q) ⊎ (ends_at l q ≡ false) → command_at k q ≡ command_at l q
  pub free : k.queue.table.wire ≡ None

wire_case : (c : Command) (done : ℕ) (bytes : List ℕ) (sent n : ℕ) (stage : Stage) → is_end (turn_of stage) ≡ true
    → wire_with None n (Some (after (at c done bytes sent stage) Goes)) ≡ None
wire_case c done bytes sent n End e = ap (λ b. if b then Some n else None) (and_none (is_queued c.protocol))
wire_case c done bytes sent n stage e = absurd (cc)

end_wire : (x : Option Moment) (n : ℕ) → is_end (turn_at x) ≡ true → wire_with None n (option_map (λ m. after m Goes) x) ≡ None
end_wire None n e = absurd (cc)
end_wire (Some m) n e = wire_case m.command m.done m.bytes m.sent n m.stage e

may_case : (d : Table) (m : Moment) (stage : Stage) → m.stage ≡ stage → d.wire ≡ None → is_end (turn_of stage) ≡ true
    → (sends_at (Some m) && may_go_at d (Some m)) ≡ true
may_case d m End is free e = rw is (ap is_none free)
may_case d m stage is free e = absurd (cc)

end_may : (d : Table) (x : Option Moment) → d.wire ≡ None → is_end (turn_at x) ≡ true → (sends_at x && may_go_at d x) ≡ true
end_may d None free e = absurd (cc)
end_may d (Some m) free e = may_case d m m.stage refl free e

same_end : (l k : Line) (q : ℕ) → command_at k q ≡ command_at l q → ends_at k q ≡ ends_at l q
same_end l k q e = ap (λ x. is_end (turn_at x)) e

not_it : (l : Line) (q n : ℕ) → ends_at l n ≡ true → (suc n ≤ q) ⊎ (ends_at l q ≡ false) → q ≡ n → ⊥
not_it l q n e (inl high) same = omega (arith, high, same)
not_it l q n e (inr none) same = absurd (let yes = ap (ends_at l) same ∙ e in cc)

before : (l : Line) (q n : ℕ) → (suc n ≤ q) ⊎ (ends_at l q ≡ false) → (n ≤ q) ⊎ (ends_at l q ≡ false)
before l q n (inl high) = inl (omega (arith, high))
before l q n (inr none) = inr none

ended_more : (l k : Line) (n : ℕ) → n < 32 → IsLine k → AreEnded l k n → ends_at k n ≡ true → AreEnded l (line_gone k n) (suc n)
ended_more l k n low is a e =
    let here : command_at k n ≡ command_at l n = a.others n (omega (arith, low)) (inl (omega arith)) in
    let end' : ends_at l n ≡ true = sym (same_end l k n here) ∙ e in
    record {
      ended = λ q low' below ends. elim (cases_eq q n) [
        | inl same ↦ ap (λ j. get_or (set k.queue.table.places n (option_map (λ m. after m Goes) (command_at k n))) j None) same
            ∙ get_or-set_same k.queue.table.places n _ None (let long = is.places in omega (arith, low, long))
            ∙ ap (λ x. option_map (λ m. after m Goes) x) here
            ∙ sym (ap (λ j. option_map (λ m. after m Goes) (command_at l j)) same)
        | inr apart ↦ get_or-set_other k.queue.table.places n q _ None apart ∙ a.ended q low' (omega (arith, below, apart)) ends
      ];
      others = λ q low' other.
          get_or-set_other k.queue.table.places n q _ None (not_it l q n end' other) ∙ a.others q low' (before l q n other);
      free = ap (λ w. wire_with w n (option_map (λ m. after m Goes) (command_at k n))) a.free ∙ end_wire (command_at k n) n e;
    }

ended_stays : (l k : Line) (n : ℕ) → AreEnded l k n → ends_at l n ≡ false → n < 32 → AreEnded l k (suc n)
ended_stays l k n a none low = record {
  ended = λ q low' below ends. a.ended q low' (elim (cases_eq q n) [
    | inl same ↦ absurd (let yes = ap (ends_at l) (sym same) ∙ ends in cc)
    | inr apart ↦ omega (arith, below, apart)
  ]) ends;
  others = λ q low' other. a.others q low' (before l q n other);
  free = a.free;
}

end_case : (l k : Line) (n : ℕ) (b : Bool) → (ends_at k n && may_send k n) ≡ b → n < 32 → IsLine k → AreEnded l k n
    → AreEnded l (if b then line_gone k n else k) (suc n)
end_case l k n true e low is a = ended_more l k n low is a (of_and _ _ e).0
end_case l k n false e low is a =
    let here : command_at k n ≡ command_at l n = a.others n (omega (arith, low)) (inl (omega arith)) in
    ended_stays l k n a (elim (cases_Bool (ends_at l n)) [
      | inl ends ↦ absurd (let f = same_end l k n here ∙ ends in
          let both = and_from (ends_at k n) (may_send k n) f (end_may k.queue.table (command_at k n) a.free f) in cc)
      | inr none ↦ none
    ]) low

pub all_ended : (l : Line) (n : ℕ) → n ≤ 32 → IsLine l → l.queue.table.wire ≡ None → AreEnded l (ends_sent l n) n
unfolding ends_sent
all_ended l zero low is free = record { ended = λ q low' below. absurd (omega (arith, below)); others = λ q low' other. refl; free = free }
all_ended l (suc n) low is free =
    end_case l (ends_sent l n) n _ refl (omega (arith, low)) (ends_line l n (omega (arith, low)) is) (all_ended l n (omega (arith, low)) is free)

over_case : (m : Moment) (stage : Stage) → m.stage ≡ stage → is_end (turn_of stage) ≡ true
    → is_under_way (Some (after (record m { stage = stage }) Goes)) ≡ false
over_case m End is e = refl
over_case m stage is e = absurd (cc)

-- what ended is under way no more
pub is_over : (x : Option Moment) → is_end (turn_at x) ≡ true → is_under_way (option_map (λ m. after m Goes) x) ≡ false
is_over None e = refl
is_over (Some m) e = over_case m m.stage refl e
