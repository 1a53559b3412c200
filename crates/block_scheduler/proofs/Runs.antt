-- A run of a scheduler is one of its queue, and commands that wait for room never wait in a circle.
use Rattle.std.proofs.Common.{◌≡◌, ℕ, zero, suc, ◌+◌, ◌*◌, ◌<◌, ◌≤◌, true, false, List, [], ◌∷◌, ◌++◌, Some, None, refl, sym, ap, ◌∙◌, arith, inl}
use Rattle.std.proofs.{Common.{inr, subst}, lemmas.Bool.{cases_lt, ltb-true, leb-false}}
use Rattle.std.specs.Prelude.{Option, Bool, ◌&&◌, nat_lt, is_none, if◌then◌else◌}
use Rattle.block_command.specs.Moments.{Moment, runs}
use Rattle.block_disk.specs.Table.{is_under_way}
use Rattle.block_queue.specs.{Line.{Line, IsLine, command_at, line_gone, line_reset, may_send, may_start_at, orphan}, declared.queue.Orphan.Orphan}
use Rattle.block_queue.specs.Deeds.{AreDeeds, Deed, Goes, after_deed}
use Rattle.block_queue.specs.Deeds as deed
use Rattle.block_queue.proofs.Door as door
use Rattle.block_scheduler.specs.{Sets.ends_at, Schedule.{IsTooLarge, IsNextStart, Schedule, ends_sent, fits_at, held, held_at, held_below, held_by}}
use Rattle.block_scheduler.specs.{Schedule.{held_for, held_of, none_scheduled, with_line}, Laws.{Move, Takes, Starts, Asks, Sends, SendsEnds, Hears}}
use Rattle.block_scheduler.specs.Laws.{Answers, Draws, Forgives, Resets, IsMove, AreMoves, after_move, after_moves, ends_deeds, deeds_of, all_deeds}
use Rattle.block_scheduler.specs.Laws.{RequestsAreApart, EndsAreEarned, IsHeard, AreHeard, DataAreNamed, NumbersAreFresh, SomethingMoves}

-- ## Lists of deeds

abbrev after_deeds : Line → List Deed → Line
after_deeds l [] = l
after_deeds l (d ∷ later) = after_deeds (after_deed l d) later

are_both : (ds es : List Deed) (l : Line) → AreDeeds l ds → AreDeeds (after_deeds l ds) es → AreDeeds l (ds ++ es)
are_both [] es l are later = later
are_both (d ∷ ds) es l are later = (are.0, are_both ds es (after_deed l d) are.1 later)

heard_both : (ds es : List Deed) (l : Line) → deed.AreHeard l ds → deed.AreHeard (after_deeds l ds) es → deed.AreHeard l (ds ++ es)
heard_both [] es l are later = later
heard_both (d ∷ ds) es l are later = (are.0, heard_both ds es (after_deed l d) are.1 later)

after_both : (ds es : List Deed) (l : Line) → after_deeds l (ds ++ es) ≡ after_deeds (after_deeds l ds) es
after_both [] es l = refl
after_both (d ∷ ds) es l = after_both ds es (after_deed l d)

-- ## The ends that go together

record AreEnds (l new : Line) (ds : List Deed) : Type 0 where
  pub are : AreDeeds l ds
  pub heard : deed.AreHeard l ds
  pub after : after_deeds l ds ≡ new

end_case : (l : Line) (tag : ℕ) (b : Bool) → (ends_at l tag && may_send l tag) ≡ b → tag < 33
    → AreEnds l (if b then line_gone l tag else l) (if b then deed.Sends tag ∷ [] else [])
end_case l tag true e low = record { are = ((low, (door.of_and _ _ e).1), tt); heard = (tt, tt); after = refl }
end_case l tag false e low = record { are = tt; heard = tt; after = refl }

ends_are : (l : Line) (n : ℕ) → n ≤ 32 → AreEnds l (ends_sent l n) (ends_deeds l n)
unfolding ends_sent ends_deeds
ends_are l zero low = record { are = tt; heard = tt; after = refl }
ends_are l (suc n) low =
    let before = ends_are l n (omega (arith, low)) in
    let here = end_case (ends_sent l n) n _ refl (omega (arith, low)) in
    record {
      are = are_both (ends_deeds l n) _ l before.are (rw before.after here.are);
      heard = heard_both (ends_deeds l n) _ l before.heard (rw before.after here.heard);
      after = after_both (ends_deeds l n) _ l ∙ rw before.after here.after;
    }

-- ## One call

sent_case : (s : Schedule) (place : ℕ) (b : Bool)
    → (if b then record { line = line_reset (line_gone s.line place); limit = s.limit; fault = Some place } else with_line s (line_gone s.line place)).line
    ≡ after_deeds s.line (if b then deed.Sends place ∷ deed.Resets ∷ [] else deed.Sends place ∷ [])
sent_case s place true = refl
sent_case s place false = refl

moved : (s : Schedule) (m : Move) → (after_move s m).line ≡ after_deeds s.line (deeds_of s m)
moved s (Takes c) = refl
moved s (Starts place) = refl
moved s (Asks place) = refl
moved s (Sends place) = sent_case s place _
moved s SendsEnds = sym (ends_are s.line 32 (omega arith)).after
moved s (Hears place part) = refl
moved s (Answers place number i) = refl
moved s Draws = refl
moved s Forgives = refl
moved s Resets = refl

sends_are : (l : Line) (place : ℕ) (b : Bool) → place < 33 → may_send l place ≡ true
    → AreDeeds l (if b then deed.Sends place ∷ deed.Resets ∷ [] else deed.Sends place ∷ [])
sends_are l place true low may = ((low, may), (tt, tt))
sends_are l place false low may = ((low, may), tt)

sends_heard : (l : Line) (place : ℕ) (b : Bool) → deed.AreHeard l (if b then deed.Sends place ∷ deed.Resets ∷ [] else deed.Sends place ∷ [])
sends_heard l place true = (tt, (tt, tt))
sends_heard l place false = (tt, tt)

move_are : (s : Schedule) (m : Move) → IsMove s m → AreDeeds s.line (deeds_of s m)
move_are s (Takes c) is = (is, tt)
move_are s (Starts place) is = (is, tt)
move_are s (Asks place) is = (is, tt)
move_are s (Sends place) is = sends_are s.line place _ is.0 is.1
move_are s SendsEnds is = (ends_are s.line 32 (omega arith)).are
move_are s (Hears place part) is = (is, tt)
move_are s (Answers place number i) is = (is, tt)
move_are s Draws is = (tt, tt)
move_are s Forgives is = tt
move_are s Resets is = (tt, tt)

move_heard : (s : Schedule) (m : Move) → IsHeard s m → deed.AreHeard s.line (deeds_of s m)
move_heard s (Takes c) is = (tt, tt)
move_heard s (Starts place) is = (tt, tt)
move_heard s (Asks place) is = (tt, tt)
move_heard s (Sends place) is = sends_heard s.line place _
move_heard s SendsEnds is = (ends_are s.line 32 (omega arith)).heard
move_heard s (Hears place part) is = (is, tt)
move_heard s (Answers place number i) is = (tt, tt)
move_heard s Draws is = (tt, tt)
move_heard s Forgives is = tt
move_heard s Resets is = (tt, tt)

-- ## Every run

all_are : (moves : List Move) (s : Schedule) → AreMoves s moves → AreDeeds s.line (all_deeds s moves)
unfolding all_deeds
all_are [] s are = tt
all_are (m ∷ later) s are = are_both (deeds_of s m) _ s.line (move_are s m are.0)
    (subst (λ l. AreDeeds l (all_deeds (after_move s m) later)) (moved s m) (all_are later (after_move s m) are.1))

all_heard : (moves : List Move) (s : Schedule) → AreHeard s moves → deed.AreHeard s.line (all_deeds s moves)
unfolding all_deeds
all_heard [] s are = tt
all_heard (m ∷ later) s are = heard_both (deeds_of s m) _ s.line (move_heard s m are.0)
    (subst (λ l. deed.AreHeard l (all_deeds (after_move s m) later)) (moved s m) (all_heard later (after_move s m) are.1))

pub requests_are_apart : RequestsAreApart
requests_are_apart limit moves are = door.requests_are_apart _ (all_are moves (none_scheduled limit) are)

pub ends_are_earned : EndsAreEarned
ends_are_earned limit moves are = door.ends_are_earned _ (all_are moves (none_scheduled limit) are)

pub data_are_named : DataAreNamed
data_are_named limit moves are heard = door.data_are_named _ (all_are moves (none_scheduled limit) are) (all_heard moves (none_scheduled limit) heard)

pub numbers_are_fresh : NumbersAreFresh
numbers_are_fresh limit moves = door.numbers_are_fresh (all_deeds (none_scheduled limit) moves)

-- ## Room

lines_after : (ds : List Deed) (l : Line) → IsLine l → AreDeeds l ds → IsLine (after_deeds l ds)
lines_after [] l line are = line
lines_after (d ∷ ds) l line are = lines_after ds (after_deed l d) (door.line_after l d line are.0) are.1

pub line_of : (moves : List Move) (s : Schedule) → IsLine s.line → AreMoves s moves → IsLine (after_moves s moves).line
unfolding after_moves
line_of [] s line are = line
line_of (m ∷ later) s line are = line_of later (after_move s m)
    (rw (moved s m) (lines_after (deeds_of s m) s.line line (move_are s m are.0))) are.1

limit_sent : (s : Schedule) (l : Line) (place : ℕ) (b : Bool)
    → (if b then record { line = l; limit = s.limit; fault = Some place } else with_line s (line_gone s.line place)).limit ≡ s.limit
limit_sent s l place true = refl
limit_sent s l place false = refl

same_limit : (s : Schedule) (m : Move) → (after_move s m).limit ≡ s.limit
same_limit s (Takes c) = refl
same_limit s (Starts place) = refl
same_limit s (Asks place) = refl
same_limit s (Sends place) = limit_sent s _ place _
same_limit s SendsEnds = refl
same_limit s (Hears place part) = refl
same_limit s (Answers place number i) = refl
same_limit s Draws = refl
same_limit s Forgives = refl
same_limit s Resets = refl

limit_of : (moves : List Move) (s : Schedule) → (after_moves s moves).limit ≡ s.limit
unfolding after_moves
limit_of [] s = refl
limit_of (m ∷ later) s = limit_of later (after_move s m) ∙ same_limit s m

-- some place holds bytes
record Holds (l : Line) (n : ℕ) : Type 0 where
  pub place : ℕ
  pub below : place < n
  pub some : 0 < held_at l place

some_holds : (l : Line) (n : ℕ) → 0 < held_below l n → Holds l n
unfolding held_below
some_holds l zero some = absurd (omega (arith, some))
some_holds l (suc n) some = elim (cases_lt 0 (held_at l n)) [
  | inl low ↦ record { place = n; below = omega arith; some = low }
  | inr high ↦ (let h = some_holds l n (omega (arith, some, high)) in
      record { place = h.place; below = (let below = h.below in omega (arith, below)); some = h.some })
]

run_case : (l : Line) (p : ℕ) (m : Moment) (b : Bool) (n : ℕ) → IsLine l → p < 33 → command_at l p ≡ Some m → runs m.stage ≡ b
    → 0 < (if b then n else 0) + 0 → Goes l
run_case l p m true n line low here run some = door.running_goes l p m line low here run
run_case l p m false n line low here run some = absurd (omega (arith, some))

holds_case : (l : Line) (p : ℕ) (x : Option Moment) (o : Option Orphan) → IsLine l → p < 33 → command_at l p ≡ x → orphan l p ≡ o
    → 0 < held_by x + held_for o → Goes l
holds_case l p x (Some o) line low here left some = door.orphan_goes l p low (ap is_none left)
holds_case l p None None line low here left some = absurd (omega (arith, some))
holds_case l p (Some m) None line low here left some = run_case l p m _ (held_of m.command.count) line low here refl some

most_case : (count : ℕ) (b : Bool) → nat_lt count 2048 ≡ b → (if b then count else 2048) * 512 ≤ 1048576
most_case count true e = let low = ltb-true _ _ e in omega (arith, low)
most_case count false e = omega arith

fits_case : (s : Schedule) (p : ℕ) (x : Option Moment) → may_start_at s.line p x ≡ true → fits_at s x ≡ false → s.limit < held s.line + 1048576
fits_case s p None may e = absurd (cc)
fits_case s p (Some m) may e = let large = leb-false _ _ e in let most = most_case m.command.count _ refl in omega (arith, large, most)

too_large : (s : Schedule) → IsLine s.line → 1048576 ≤ s.limit → IsTooLarge s → Goes s.line
too_large s line room t =
    let more = fits_case s t.place (command_at s.line t.place) t.oldest.passes t.large in
    let h = some_holds s.line 33 (omega (arith, room, more)) in
    holds_case s.line h.place _ _ line h.below refl refl h.some

goes : (s : Schedule) (p : ℕ) → IsLine s.line → 1048576 ≤ s.limit → p < 33 → is_under_way (command_at s.line p) ≡ true → IsNextStart s None → Goes s.line
goes s p line room low alive (inl none) = door.others_go s.line p line low alive none
goes s p line room low alive (inr large) = too_large s line room large

pub something_moves : SomethingMoves
something_moves limit moves p are room low alive next =
    goes (after_moves (none_scheduled limit) moves) p (line_of moves (none_scheduled limit) door.new_line are)
    (rw (limit_of moves (none_scheduled limit)) room) low alive next
