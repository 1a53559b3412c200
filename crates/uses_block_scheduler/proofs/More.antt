-- A run that goes on.
use Rattle.std.proofs.Common.{◌≡◌, ℕ, true, List, [], ◌∷◌, ◌++◌, Some, None, refl, sym, ap, ◌∙◌, subst}
use Rattle.std.specs.{Prelude.{Option, Bool, not}, Option.is_some}
use Rattle.block_disk.specs.Table.{is_under_way}
use Rattle.block_queue.specs.Line.{command_at}
use Rattle.block_scheduler.specs.{Schedule.{IsNextStart, Schedule, none_scheduled}, Laws.{AreMoves, IsMove, Move, SomethingMoves, after_move}}
use Rattle.block_scheduler.specs.Laws.{after_moves}
use Rattle.uses_block_scheduler.specs.Reached.{Extends, IsDriven}

are_more : (moves : List Move) (s : Schedule) (m : Move) → AreMoves s moves → IsMove (after_moves s moves) m → AreMoves s (moves ++ m ∷ [])
unfolding after_moves
are_more [] s m are is = (is, tt)
are_more (n ∷ later) s m are is = (are.0, are_more later (after_move s n) m are.1 is)

after_more : (moves : List Move) (s : Schedule) (m : Move) → after_moves s (moves ++ m ∷ []) ≡ after_move (after_moves s moves) m
unfolding after_moves
after_more [] s m = refl
after_more (n ∷ later) s m = after_more later (after_move s n) m

pub one_more : (old new : Schedule) (m : Move) → IsMove old m → new ≡ after_move old m → Extends old new (m ∷ [])
one_more old new m is e = λ limit moves r. (
  are_more moves (none_scheduled limit) m r.0 (subst (λ s. IsMove s m) r.1 is),
  e ∙ ap (λ s. after_move s m) r.1 ∙ sym (after_more moves (none_scheduled limit) m),
)

append_none : (moves : List Move) → moves ++ [] ≡ moves
append_none [] = refl
append_none (m ∷ later) = ap (λ ms. m ∷ ms) (append_none later)

pub no_more : (old new : Schedule) → new ≡ old → Extends old new []
no_more old new e = λ limit moves r. rw (append_none moves) (r.0, e ∙ r.1)

pub driven : (s : Schedule) (next : Option ℕ) (idle : Bool) → SomethingMoves → IsNextStart s next → is_some next ≡ not idle → IsDriven s idle
driven s None idle law is e = λ same limit moves p r room low alive.
    rw r.1 (law limit moves p r.0 room low (subst (λ s. is_under_way (command_at s.line p) ≡ true) r.1 alive) (subst (λ s. IsNextStart s None) r.1 is))
driven s (Some p) idle law is e = λ same. absurd (let f = e ∙ ap not same in cc)
