-- What is held over each call of a disk.
use Rattle.std.proofs.Common.{◌≡◌, ℕ, zero, suc, ◌<◌, true, false, List, [], ◌∷◌, ◌++◌, get_or, Some, None, refl, sym, ap, ◌∙◌, arith, inl, inr}
use Rattle.std.proofs.{Common.subst, lemmas.{Bool.{cases_eq, eq-eqb, eqb-true, lt-ltb}, List.{append-nil}, Option.same_Some}}
use Rattle.std.specs.Prelude.{Option, Bool, ◌&&◌, ◌||◌, ◌==◌, nat_lt, if◌then◌else◌}
use Rattle.block_command.specs.{declared.answer.AnswerError.AnswerError, Laws.{Fails, Loads, Stores, Flushes}}
use Rattle.block_command.specs.Laws as command
use Rattle.block_disk.specs.Requests.{Books, Seen, entered_by, is_answer, is_out, number_at, number_of as given_number, seen}
use Rattle.block_queue.specs.Deeds as deed
use Rattle.block_queue.specs.{Deeds.{AreDeeds, Deed, IsDeed, act_of, after_deed, seen_of}, Line.{Line, awaits, command_at, first_below, is_of}}
use Rattle.block_queue.specs.{Line.{line_refusal, or_this, orphan}, declared.queue.Orphan.Orphan}
use Rattle.block_scheduler.specs.{Laws.all_deeds, Schedule.is_quiet}
use Rattle.block_engine.specs.declared.numbers.Holder.TheVariants as holder
use Rattle.block_engine.specs.{declared.request.{Answer.Answer, Request.Request}, Engine.{EngineState, IsAskedOf, answer_refusal, done_of}}
use Rattle.block_engine.specs.{Engine.{done_refusal, fail_refusal, failure_misfit, line, load_refusal, or_else, place_of, what_at}, Laws.Step}
use Rattle.block_engine.specs.{Laws.{after_step, after_steps, all_moves}, Numbers.store_number}
use Rattle.block_engine.specs.declared.request.Answer.TheVariants as answers
use Rattle.block_engine.specs.Laws as engine
use Rattle.block_engine.proofs.Runs.{found_low}
use Rattle.sata_disk.specs.State.{DiskState, commands}
use Rattle.sata_disk_laws.specs.Calls as call
use Rattle.sata_disk_laws.specs.Calls.{AreCalls, Call, IsCall, after_call, after_calls, all_steps, asked_by, steps_of}
use Rattle.sata_disk_books.specs.Books.{books_after}
use Rattle.sata_disk_books.proofs.Door.{after_deeds, call_after, line_then, shown_from}
use Rattle.sata_disk_media.specs.{Cells.{Cell, answered_cell, asked_cell, bytes_at}, Media.{cell_after, store_bytes}}
use Rattle.sata_disk_media.proofs.{Called.{AllOf, call_are, calm_call, calm_deeds, deeds_are, deeds_by}, Numbers.{Numbered, step_numbered}}
use Rattle.sata_disk_media.proofs.{Requested.{Fits, IsOnly, answered_held, asked_held, left_claims}, Stored.{Held, calm_held, drawn_held, is_calm}}

-- ## One call by itself

one_call : (d : DiskState) (c : Call) → after_calls d (c ∷ []) ≡ after_call d c
unfolding after_calls
one_call d c = refl

one_steps : (d : DiskState) (c : Call) → all_steps d (c ∷ []) ≡ steps_of d c
unfolding all_steps
one_steps d c = append-nil (steps_of d c)

-- what a call shows
abbrev pub shown_by : DiskState → Call → List Seen
shown_by d c = seen_of (commands d) (deeds_by d.engine (steps_of d c))

pub shown_one : (d : DiskState) (c : Call) → shown_from d (c ∷ []) ≡ shown_by d c
shown_one d c = ap (λ x. seen_of (commands d) (deeds_by d.engine x)) (one_steps d c)

pub line_one : (d : DiskState) (c : Call) → commands (after_call d c) ≡ after_deeds (commands d) (deeds_by d.engine (steps_of d c))
line_one d c = ap commands (sym (one_call d c)) ∙ line_then d (c ∷ []) ∙ ap (λ x. after_deeds (commands d) (deeds_by d.engine x)) (one_steps d c)

-- ## Numbers

steps_numbered : (steps : List Step) (e : EngineState) → Numbered e → Numbered (after_steps e steps)
unfolding after_steps
steps_numbered [] e are = are
steps_numbered (s ∷ later) e are = steps_numbered later (after_step e s) (step_numbered e s are)

pub call_numbered : (d : DiskState) (c : Call) → Numbered d.engine → Numbered (after_call d c).engine
call_numbered d c are = subst Numbered (sym (call_after d c)) (steps_numbered (steps_of d c) d.engine are)

-- ## Calm deeds

pub deeds_held : (ds : List Deed) (l : Line) (b : Books) (s : ℕ) (cell : Cell) → AreDeeds l ds → AllOf is_calm ds → Held l b s cell
    → Held (after_deeds l ds) (books_after b (seen_of l ds)) s cell
unfolding books_after seen_of
deeds_held [] l b s cell are calm held = held
deeds_held (d ∷ later) l b s cell are calm held =
    deeds_held later (after_deed l d) (entered_by b (seen l.queue (act_of d))) s cell are.1 calm.1 (calm_held l b s cell d are.0 calm.0 held)

-- ## What is held behind a call

abbrev pub HeldBy : DiskState → Books → (s : ℕ) → Cell → Call → Type 0
HeldBy d b s new c = Held (after_deeds (commands d) (deeds_by d.engine (steps_of d c))) (books_after b (shown_by d c)) s new

-- a request of a place
ask_place : (d : DiskState) (b : Books) (s : ℕ) (cell : Cell) (p : ℕ) → Held (commands d) b s cell → IsDeed (commands d) (deed.Asks p)
    → Held (after_deeds (commands d) (deeds_by d.engine (engine.Asks p ∷ []))) (books_after b (seen_of (commands d) (deeds_by d.engine (engine.Asks p ∷ [])))) s
    (asked_cell s cell (what_at (command_at (commands d) p)) (commands d).queue.next (bytes_at (command_at (commands d) p)) d.engine.ranges)
unfolding books_after seen_of all_deeds all_moves
ask_place d b s cell p held is = asked_held (commands d) b s cell p d.engine.ranges is held

ask_aside : (d : DiskState) (b : Books) (s : ℕ) (cell new : Cell) → Held (commands d) b s cell → is_quiet (commands d) ≡ true
    → Held (after_deeds (commands d) (deeds_by d.engine (engine.AsksAside ∷ []))) (books_after b (seen_of (commands d) (deeds_by d.engine (engine.AsksAside ∷ [])))) s new
unfolding books_after seen_of all_deeds all_moves
ask_aside d b s cell new held quiet = drawn_held (commands d) b s cell new quiet held

middle : (a b c : Bool) → (a && b && c) ≡ true → b ≡ true
middle true true c e = refl
middle true false c e = absurd (cc)
middle false b c e = absurd (cc)

ask_case : (d : DiskState) (b : Books) (s : ℕ) (cell : Cell) (r : Request) (x : Option ℕ) → Held (commands d) b s cell → r.number ≡ (commands d).queue.next
    → IsAskedOf d.engine (asked_by d.engine x) r x
    → Held (after_deeds (commands d) (deeds_by d.engine (call.ask_steps x))) (books_after b (seen_of (commands d) (deeds_by d.engine (call.ask_steps x)))) s
    (asked_cell s cell r.what r.number (store_bytes d x) d.engine.ranges)
ask_case d b s cell r None held number is = ask_aside d b s cell _ held (middle _ _ _ is.1)
ask_case d b s cell r (Some p) held number is =
    let new = ask_place d b s cell p held (is.0.below, is.0.passes) in
    let P : ℕ → Type 0 = λ n. Held (after_deeds (commands d) (deeds_by d.engine (engine.Asks p ∷ []))) (books_after b (seen_of (commands d) (deeds_by d.engine (engine.Asks p ∷ [])))) s
    (asked_cell s cell r.what n (bytes_at (command_at (commands d) p)) d.engine.ranges) in
    subst P (sym number) (subst (λ w. Held (after_deeds (commands d) (deeds_by d.engine (engine.Asks p ∷ []))) (books_after b (seen_of (commands d) (deeds_by d.engine (engine.Asks p ∷ [])))) s
    (asked_cell s cell w (commands d).queue.next (bytes_at (command_at (commands d) p)) d.engine.ranges)) (sym is.2) new)

-- ## The place of an answer

found_case : (n k : ℕ) (x : Option ℕ) (b : Bool) (P : ℕ → Type 0) → ((j : ℕ) → x ≡ Some j → P j) → (b ≡ true → P n)
    → or_this x (if b then Some n else None) ≡ Some k → P k
found_case n k None true P old new e = subst P (same_Some n k e) (new refl)
found_case n k None false P old new e = absurd (cc)
found_case n k (Some j) b P old new e = old k e

found_is : (test : ℕ → Bool) (n k : ℕ) → first_below test n ≡ Some k → test k ≡ true
unfolding first_below
found_is test zero k e = absurd (cc)
found_is test (suc n) k e = found_case n k (first_below test n) (test n) (λ j. test j ≡ true) (λ j f. found_is test n j f) (λ f. f) e

record Nowhere (x : Option ℕ) (b : Bool) : Type 0 where
  pub before : x ≡ None
  pub here : b ≡ false

nowhere : (n : ℕ) (x : Option ℕ) (b : Bool) → or_this x (if b then Some n else None) ≡ None → Nowhere x b
nowhere n None true e = absurd (cc)
nowhere n None false e = record { before = refl; here = refl }
nowhere n (Some j) b e = absurd (cc)

found_none : (test : ℕ → Bool) (n k : ℕ) → first_below test n ≡ None → k < n → test k ≡ false
unfolding first_below
found_none test zero k e low = absurd (omega (arith, low))
found_none test (suc n) k e low = let w = nowhere n (first_below test n) (test n) e in elim (cases_eq k n) [
  | inl same ↦ ap test same ∙ w.here
  | inr apart ↦ found_none test n k w.before (omega (arith, low, apart))
]

both_true : (x y : Bool) → x ≡ true → y ≡ true → (x && y) ≡ true
both_true true y e f = f
both_true false y e f = absurd (cc)

out_is : (out : List ℕ) (p number : ℕ) → 0 < number → get_or out p 0 ≡ number → is_out out p number ≡ true
out_is out p number some e = both_true _ _ (lt-ltb 0 number some) (eq-eqb _ _ e)

if_true : {X : Type 0} (b : Bool) (x y : X) → b ≡ true → (if b then x else y) ≡ x
if_true true x y e = refl
if_true false x y e = absurd (cc)

-- the number that is out there
number_is : (out : List ℕ) (p number : ℕ) → 0 < number → get_or out p 0 ≡ number → number_at out p ≡ Some number
number_is out p number some e = ap given_number e ∙ if_true (nat_lt 0 number) (Some number) None (lt-ltb 0 number some)

second_true : (a b : Bool) → (a && b) ≡ true → b ≡ true
second_true true b e = e
second_true false b e = absurd (cc)

positive : (out : List ℕ) (p number : ℕ) → is_out out p number ≡ true → get_or out p 0 ≡ number
positive out p number e = eqb-true _ _ (second_true (nat_lt 0 number) (get_or out p 0 == number) e)

of_orphan : (o : Option Orphan) (number : ℕ) → is_of number o ≡ true → store_number o ≡ Some number
of_orphan None number e = absurd (cc)
of_orphan (Some o) number e = ap Some (eqb-true _ _ e)

command_place : (p q : ℕ) → holder.Command p ≡ holder.Command q → p ≡ q
command_place p q e = cc

only_case : (e : EngineState) (q number : ℕ) (out : Bool) → Numbered e → q < 33 → is_out (line e).queue.out q number ≡ out
    → (out || is_of number (orphan (line e) q)) ≡ true → IsOnly (line e) q number
only_case e q number true are low is await p low' some there =
    let one = are.each (holder.Command p) number low' (number_is (line e).queue.out p number some there) in
    let q_has = number_is (line e).queue.out q number some (positive (line e).queue.out q number is) in
    (sym (command_place q p (one.own (holder.Command q) low q_has)), is)
only_case e q number false are low is await p low' some there =
    let one = are.each (holder.Command p) number low' (number_is (line e).queue.out p number some there) in
    absurd (let f : holder.Store q ≡ holder.Command p = one.own (holder.Store q) low (of_orphan (orphan (line e) q) number await) in cc)

only_is : (e : EngineState) (q number : ℕ) → Numbered e → place_of e number ≡ Some q → IsOnly (line e) q number
only_is e q number are is = only_case e q number (is_out (line e).queue.out q number) are (found_low (awaits (line e) number) 33 q is) refl
    (found_is (awaits (line e) number) 33 q is)

-- ## An answer

or_none : (x y : Option AnswerError) → or_else x y ≡ None → y ≡ None
or_none None y e = e
or_none (Some f) y e = absurd (cc)

done_fits : (b : Bool) → Fits (if b then Stores else Flushes) answers.Done
done_fits true = tt
done_fits false = tt

answer_place : (d : DiskState) (b : Books) (s : ℕ) (cell : Cell) (q number : ℕ) (i : command.Input) (a : Answer) → Held (commands d) b s cell
    → IsDeed (commands d) (deed.Answers q number i) → IsOnly (commands d) q number → line_refusal (commands d) q number i ≡ None → Fits i a
    → Held (after_deed (commands d) (deed.Answers q number i)) (books_after b (seen_of (commands d) (deed.Answers q number i ∷ []))) s (answered_cell cell number a)
unfolding books_after seen_of
answer_place d b s cell q number i a held is only right fits = answered_held (commands d) b s cell q number i a is held only right fits

done_answers : (b : Bool) → is_answer (if b then Stores else Flushes) ≡ true
done_answers true = refl
done_answers false = refl

by_both : (b : Bool) → b ≡ true → b ≡ false → ⊥
by_both b e f = cc

-- an answer beside the queue
beside_held : (l : Line) (b : Books) (s : ℕ) (cell : Cell) (number : ℕ) (a : Answer) → Held l b s cell
    → ((p : ℕ) → p < 33 → 0 < number → get_or l.queue.out p 0 ≡ number → is_out l.queue.out p number ≡ false) → Held l b s (answered_cell cell number a)
beside_held l b s cell number a held none = record {
  line = held.line;
  agree = held.agree;
  outs = held.outs;
  next = held.next;
  each = λ p m g low was had alive. left_claims m g (get_or b.out p 0) s cell number a (held.each p m g low was had alive)
      (λ some e. (let same = ap (λ o. get_or o p 0) (sym held.agree.out) ∙ e in let some' : 0 < number = omega (arith, some, e) in
      by_both _ (out_is l.queue.out p number some' same) (none p low some' same)));
}

or_false : (a b : Bool) → (a || b) ≡ false → a ≡ false
or_false false b e = refl
or_false true b e = absurd (cc)

answer_none : (d : DiskState) (b : Books) (s : ℕ) (cell : Cell) (number : ℕ) (a : Answer) → Held (commands d) b s cell → place_of d.engine number ≡ None
    → Held (commands d) (books_after b (seen_of (commands d) [])) s (answered_cell cell number a)
unfolding books_after seen_of
answer_none d b s cell number a held is = beside_held (commands d) b s cell number a held
    (λ p low some e. or_false _ _ (found_none (awaits (commands d) number) 33 p is low))

unfoldable AnswerHeld : DiskState → Books → (s : ℕ) → Cell → (x : Option ℕ) → (number : ℕ) → Answer → Type 0
AnswerHeld d b s new x number a =
    Held (after_deeds (commands d) (all_deeds d.engine.schedule (engine.answer_moves d.engine x number a ++ [])))
    (books_after b (seen_of (commands d) (all_deeds d.engine.schedule (engine.answer_moves d.engine x number a ++ [])))) s new

answer_case : (d : DiskState) (b : Books) (s : ℕ) (cell : Cell) (number : ℕ) (a : Answer) (x : Option ℕ) → Held (commands d) b s cell → Numbered d.engine
    → place_of d.engine number ≡ x → answer_refusal d.engine number a ≡ None → AnswerHeld d b s (answered_cell cell number a) x number a
unfolding all_deeds AnswerHeld
answer_case d b s cell number a None held are is right = answer_none d b s cell number a held is
answer_case d b s cell number (answers.Loaded bytes) (Some q) held are is right =
    answer_place d b s cell q number (Loads bytes.items) (answers.Loaded bytes) held (found_low (awaits (commands d) number) 33 q is, refl)
    (only_is d.engine q number are is) (ap (λ x. load_refusal d.engine x number bytes.items) (sym is) ∙ right) tt
answer_case d b s cell number answers.Done (Some q) held are is right =
    answer_place d b s cell q number (done_of (commands d) q number) answers.Done held (found_low (awaits (commands d) number) 33 q is, done_answers _)
    (only_is d.engine q number are is) (ap (λ x. done_refusal d.engine x number) (sym is) ∙ right) (done_fits _)
answer_case d b s cell number (answers.Failed f) (Some q) held are is right =
    answer_place d b s cell q number Fails (answers.Failed f) held (found_low (awaits (commands d) number) 33 q is, refl)
    (only_is d.engine q number are is)
    (or_none (failure_misfit (command_at (commands d) q) f) (line_refusal (commands d) q number Fails) (ap (λ x. fail_refusal d.engine x number f) (sym is) ∙ right)) tt

answer_held : (d : DiskState) (b : Books) (s : ℕ) (cell : Cell) (number : ℕ) (a : Answer) → Held (commands d) b s cell → Numbered d.engine
    → answer_refusal d.engine number a ≡ None → HeldBy d b s (answered_cell cell number a) (call.Answers number a)
unfolding all_moves AnswerHeld
answer_held d b s cell number a held are right = answer_case d b s cell number a (place_of d.engine number) held are refl right

-- ## Any call

calm_by : (d : DiskState) (b : Books) (s : ℕ) (cell : Cell) (c : Call) → IsCall d c → calm_call c ≡ true → Held (commands d) b s cell → HeldBy d b s cell c
calm_by d b s cell c is calm held =
    deeds_held (deeds_by d.engine (steps_of d c)) (commands d) b s cell (deeds_are d.engine (steps_of d c) (call_are d c is)) (calm_deeds d c calm) held

held_by : (d : DiskState) (b : Books) (s : ℕ) (cell : Cell) (c : Call) → IsCall d c → Numbered d.engine → Held (commands d) b s cell
    → HeldBy d b s (cell_after d s cell c) c
held_by d b s cell (call.Asks r) is are held = ask_case d b s cell r r.place held is.0 is.1
held_by d b s cell (call.Answers number a) is are held = answer_held d b s cell number a held are is
held_by d b s cell call.Plugs is are held = calm_by d b s cell call.Plugs is refl held
held_by d b s cell (call.Hears f) is are held = calm_by d b s cell (call.Hears f) is refl held
held_by d b s cell (call.Starts x) is are held = calm_by d b s cell (call.Starts x) is refl held
held_by d b s cell (call.Sends o) is are held = calm_by d b s cell (call.Sends o) is refl held

pub call_held : (d : DiskState) (b : Books) (s : ℕ) (cell : Cell) (c : Call) → IsCall d c → Numbered d.engine → Held (commands d) b s cell
    → Held (commands (after_call d c)) (books_after b (shown_by d c)) s (cell_after d s cell c)
call_held d b s cell c is are held =
    subst (λ l. Held l (books_after b (shown_by d c)) s (cell_after d s cell c)) (sym (line_one d c)) (held_by d b s cell c is are held)
