-- The bytes of a store are Data that came for its command: at each place the page of the books agrees with the command.
use Rattle.std.proofs.Common.{◌≡◌, ℕ, zero, suc, ◌<◌, ◌≤◌, true, false, List, [], ◌∷◌, ◌++◌, length, Some, None, refl, sym, ap, ◌∙◌, subst, arith}
use Rattle.std.proofs.Common.{inl, inr}
use Rattle.std.specs.Prelude.{Option, Bool, map, if◌then◌else◌}
use Rattle.block_command.specs.{declared.command.{Command.Command, Stage.{Stage, TheVariants.Store}}, Moments.Moment, Laws.{Goes, Ledger, happening}}
use Rattle.block_command.proofs.Door.{Agrees, at}
use Rattle.block_disk.specs.Table as table
use Rattle.block_disk.specs.{Laws.{Page, at_page, shown_at}, Requests.{Act, Asked, Books, Queue, AreActs, Asks, after_act, entered_by, no_books}}
use Rattle.block_disk.specs.Requests.{none_queued, seen, seen_by}
use Rattle.block_disk.proofs.Door.{Agree, Matches, kept_none, one}
use Rattle.block_queue.specs.Deeds as deed
use Rattle.block_queue.specs.{Deeds.{Deed, act_of}, Line.Line}
use Rattle.block_scheduler.specs.{Schedule.{Schedule, none_scheduled}, Laws.{AreMoves, IsMove, Move, after_move, after_moves, all_deeds, deeds_in}}
use Rattle.block_scheduler.specs.Laws.{deeds_of, ends_deeds}
use Rattle.block_scheduler.specs.Laws as move
use Rattle.block_engine.specs.{Engine.{EngineState, none_engaged}, Laws.{AreSteps, Step, after_step, all_moves, moves_in, moves_of}}
use Rattle.block_engine.proofs.Runs.{moved, step_are}
use Rattle.sata_disk.specs.State.{new_disk}
use Rattle.sata_disk_laws.specs.{Laws.{NumbersAreFresh, steps_in}, Stores.{AreStoresHeard, IsStoreHeard, IsWhatCame, PageHas, StoresAreHeard}}
use Rattle.sata_disk_laws.proofs.Runs.{all_are}

-- ## One command

came_of : (c : Command) (done : ℕ) (bytes : List ℕ) (sent : ℕ) (stage : Stage) (l : Ledger) → Agrees c (at c done bytes sent stage) l
    → IsWhatCame c l (happening (at c done bytes sent stage) Goes)
came_of c done bytes sent Store l (inl over) = absurd (cc)
came_of c done bytes sent Store l (inr k) =
    let kept = ap (λ x. x.kept) k.is in
    let long = ap length kept in
    let behind = k.facts.1.0 in
    (ap (λ x. x.came) k.is ∙ ap (λ x. x ++ bytes) (sym kept), omega (arith, long, behind))
came_of c done bytes sent stage l agrees = tt

came_then : (c : Command) (m : Moment) (l : Ledger) → m.command ≡ c → Agrees c m l → IsWhatCame c l (happening m Goes)
came_then c m l same agrees =
    let P : Command → Type 0 = λ x. Agrees x m l → IsWhatCame x l (happening m Goes) in
    subst P same (came_of m.command m.done m.bytes m.sent m.stage l) agrees

page_has : (m : Moment) (y : Option Page) → Matches (Some m) y → PageHas y (happening m Goes)
page_has m None match' = absurd match'
page_has m (Some p) match' = came_then p.command m p.ledger match'.0 match'.1

asked_heard : (b : Books) (place number : ℕ) (x : Option Moment) → Matches x (at_page b.pages place)
    → IsStoreHeard b (Asked place number (shown_at place x Goes))
asked_heard b place number None match' = tt
asked_heard b place number (Some m) match' = (refl, page_has m _ match')

-- ## Every run of requests by number

act_heard : (q : Queue) (b : Books) (a : Act) → Agree q b → IsStoreHeard b (seen q a)
act_heard q b (Asks place) agree = asked_heard b place q.next (table.at q.table place) (agree.kept.each place)
act_heard q b other agree = tt

acts_heard : (acts : List Act) (q : Queue) (b : Books) → Agree q b → AreActs acts → AreStoresHeard b (seen_by q acts)
unfolding seen_by
acts_heard [] q b agree are = tt
acts_heard (a ∷ later) q b agree are =
    (act_heard q b a agree, acts_heard later (after_act q a) (entered_by b (seen q a)) (one q a b agree are.0).1 are.1)

-- ## A run of a disk is one of those

acts_both : (ds es : List Deed) → AreActs (map act_of ds) → AreActs (map act_of es) → AreActs (map act_of (ds ++ es))
acts_both [] es are later = later
acts_both (d ∷ ds) es are later = (are.0, acts_both ds es are.1 later)

end_acts : (tag : ℕ) (b : Bool) → tag < 33 → AreActs (map act_of (if b then deed.Sends tag ∷ [] else []))
end_acts tag true low = (low, tt)
end_acts tag false low = tt

ends_acts : (l : Line) (n : ℕ) → n ≤ 32 → AreActs (map act_of (ends_deeds l n))
unfolding ends_deeds
ends_acts l zero low = tt
ends_acts l (suc n) low = acts_both (ends_deeds l n) _ (ends_acts l n (omega (arith, low))) (end_acts n _ (omega (arith, low)))

send_acts : (place : ℕ) (b : Bool) → place < 33
    → AreActs (map act_of (if b then deed.Sends place ∷ deed.Resets ∷ [] else deed.Sends place ∷ []))
send_acts place true low = (low, (tt, tt))
send_acts place false low = (low, tt)

move_acts : (s : Schedule) (m : Move) → IsMove s m → AreActs (map act_of (deeds_of s m))
move_acts s (move.Starts place) is = (is.0, tt)
move_acts s (move.Asks place) is = (is.0, tt)
move_acts s (move.Sends place) is = send_acts place _ is.0
move_acts s move.SendsEnds is = ends_acts s.line 32 (omega arith)
move_acts s move.Draws is = (tt, tt)
move_acts s move.Forgives is = tt
move_acts s move.Resets is = (tt, tt)
move_acts s other is = (is, tt)

moves_acts : (moves : List Move) (s : Schedule) → AreMoves s moves → AreActs (map act_of (all_deeds s moves))
unfolding all_deeds
moves_acts [] s are = tt
moves_acts (m ∷ later) s are = acts_both (deeds_of s m) _ (move_acts s m are.0) (moves_acts later (after_move s m) are.1)

moves_both : (ms ns : List Move) (s : Schedule) → AreMoves s ms → AreMoves (after_moves s ms) ns → AreMoves s (ms ++ ns)
unfolding after_moves
moves_both [] ns s are later = later
moves_both (m ∷ ms) ns s are later = (are.0, moves_both ms ns (after_move s m) are.1 later)

steps_moves : (steps : List Step) (e : EngineState) → AreSteps e steps → AreMoves e.schedule (all_moves e steps)
unfolding all_moves
steps_moves [] e are = tt
steps_moves (s ∷ later) e are = moves_both (moves_of e s) _ e.schedule (step_are e s are.0)
    (subst (λ x. AreMoves x (all_moves (after_step e s) later)) (moved e s) (steps_moves later (after_step e s) are.1))

none_agree : Agree none_queued no_books
none_agree = record { kept = kept_none 33 refl; out = refl }

pub stores_are_heard : NumbersAreFresh → StoresAreHeard
stores_are_heard fresh p limit calls are =
    let steps = all_are calls (new_disk p limit) are in
    let acts = map act_of (deeds_in limit (moves_in limit (steps_in p limit calls))) in
    subst (λ x. AreStoresHeard no_books x) (sym (fresh p limit calls).0)
    (acts_heard acts none_queued no_books none_agree (moves_acts _ (none_scheduled limit) (steps_moves _ (none_engaged limit) steps)))
