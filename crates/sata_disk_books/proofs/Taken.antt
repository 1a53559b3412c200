-- In every run the bytes that were taken for a queued command since its DMA Setup FIS are those that the books have as come for it.
use Rattle.std.proofs.Common.{◌≡◌, ℕ, zero, suc, ◌+◌, ◌*◌, ◌<◌, ◌⊎◌, true, false, List, [], ◌∷◌, ◌++◌, drop, length, Some, None, refl, sym, ap, ◌∙◌}
use Rattle.std.proofs.{Common.{subst, arith, inl, inr}, lemmas.{Bool.{cases_eq, lt-ltb, ltb-true}, List.{length-append}, Option.same_Some}}
use Rattle.std.specs.{Prelude.{Option, Bool, nat_lt, ◌&&◌, if◌then◌else◌, Result, Ok}, Option.option_map}
use Rattle.fis_view.specs.{Seen.seen as view_seen, declared.view.{Fis.Fis, FisFault.FisFault}}
use Rattle.fis_view.specs.declared.view.Fis.TheVariants as view
use Rattle.block_command.specs.declared.command.{Command.Command, Stage.{Stage, TheVariants.{Receiving, Sending, SetUpRead, SetUpWrite}}}
use Rattle.block_command.specs.{Moments.{Moment, is_queued, opening, turn_of}, Laws.{Comes, Goes, Input, Ledger, after}}
use Rattle.block_command.proofs.Door.{Agrees, at as moment}
use Rattle.block_disk.specs.{Laws.at_page, Table.{has_wire, is_under_way, none_under_way, wants_wire, with_command, with_input}, Requests.Books}
use Rattle.block_disk.specs.Requests.{is_answer, no_books, with_table}
use Rattle.block_disk.proofs.Door.{each_is}
use Rattle.block_queue.specs.Deeds as deed
use Rattle.block_queue.specs.{Deeds.{Deed, IsDeed, after_deed, seen_of}, Line.{Line, command_at, first_below, may_send, or_this}}
use Rattle.block_scheduler.specs.{Schedule.{Schedule, ends_all, ends_sent}, Sets.ends_at, Laws.{Move, after_move, all_deeds, deeds_of, end_deeds}}
use Rattle.block_scheduler.specs.Laws.{ends_deeds}
use Rattle.block_scheduler.specs.Laws as move
use Rattle.block_engine.specs.{declared.request.{Answer.Answer, Range.Range}, Engine.{EngineState, place_of}, Laws.{Step, after_step, all_moves}}
use Rattle.block_engine.specs.Laws.{answer_moves, moves_of}
use Rattle.block_engine.specs.declared.request.Answer.TheVariants as answers
use Rattle.block_engine.specs.Laws as engine
use Rattle.ata_front.specs.{Fronts.heard_data, declared.task.Act.Act}
use Rattle.ata_front.specs.declared.task.Act.TheVariants as act
use Rattle.ata_reply.specs.declared.reply.Reply.{Reply}
use Rattle.ata_reply.specs.declared.reply.Reply.TheVariants as replies
use Rattle.disk_pages.specs.{Profiles.facts_of, declared.profile.Profile.Profile}
use Rattle.sata_disk.specs.{State.{DiskState, commands, data_place, has_link, new_disk, or_single}, Hearing.{data_by, discarding, fis_heard}}
use Rattle.sata_disk.specs.{Hearing.{is_receiving, ranges_of, receives, register_told}, Sending.{IsOut, out_at}, declared.out.Out.Out}
use Rattle.sata_disk.specs.declared.out.Out.TheVariants as out
use Rattle.sata_disk_laws.specs.Calls as call
use Rattle.sata_disk_laws.specs.Calls.{AreCalls, Call, IsCall, act_steps, after_call, after_calls, ask_steps, data_steps, fis_steps, out_steps}
use Rattle.sata_disk_laws.specs.{Calls.{range_steps, start_steps, steps_of}, Laws.{reached, seen_in}}
use Rattle.sata_disk_books.specs.{Books.{books_after, page_in}, Counted.{Counted, counted_after, counted_call, more_by, set_up_by}}
use Rattle.sata_disk_books.specs.Taken.{AllDataAreTaken, AreTakenFor, DataAreTaken, awaits, is_awaited, set_up_out, taken_after, taken_call}
use Rattle.sata_disk_books.specs.Taken.{taken_fis}
use Rattle.sata_disk_books.proofs.{Holds.is_loud_stage, Sound.{IsOwn, IsQuiet, Stands, loud_at, and_true, deed_stands, may_free, opening_free, paged}}
use Rattle.sata_disk_books.proofs.{Sound.{queued_of, same_protocol}, Does.{AreDone, IsQuietCall, call_are, call_quiet, deeds_by, line_by, place_low}}
use Rattle.sata_disk_books.proofs.{Does.{sent_deeds, shown_by, steps_done}, Counted.{Good, call_good, data_stage, new_good, none_shown, of_case}}
use Rattle.sata_disk_books.proofs.Coming.{AllCome, CameFor, ComesAt, HasFacts, IsFresh, come_of, comes_more, facts_of as ledger_facts, is_turning}
use Rattle.sata_disk_books.proofs.{Coming.{is_writing, put_alone, put_same, stays_at, fresh_after}, Walks.{after_deeds, books_both, shown_from}}

-- ## One input

abbrev turning_at : Option Moment → Input → Bool
turning_at None i = false
turning_at (Some m) i = is_turning m.stage i

page_facts : (c : Command) (m : Moment) (g : Ledger) → m.command ≡ c → Agrees c m g → HasFacts m
page_facts c m g same is = ledger_facts c m.command m.done m.bytes m.sent m.stage g same is

facts_at : (l : Line) (b : Books) (t : Option Counted) (p : ℕ) (m : Moment) → Stands l b t → command_at l p ≡ Some m → HasFacts m
facts_at l b t p m is here = let x = paged l b p m is.agree here in page_facts x.page.command m x.page.ledger x.same x.agrees

input_case : (l : Line) (b : Books) (u t : Option Counted) (p : ℕ) (i : Input) (x : Option Moment) → command_at l p ≡ x → Stands l b u → p < 33 → turning_at x i ≡ false
    → AllCome l.queue.table t → AllCome (with_command l.queue.table p (option_map (λ m. after m i) x)) t
input_case l b u t p i None here is low quiet are =
    put_same l.queue.table p None is.agree.kept.commands low t are (record { fresh = tt; held = λ h. absurd (cc) })
input_case l b u t p i (Some m) here is low quiet are =
    put_same l.queue.table p (Some (after m i)) is.agree.kept.commands low t are
    (stays_at t p m i (facts_at l b u p m is here) quiet (subst (λ (x : Option Moment). ComesAt t p x) here (are p)))

input_comes : (l : Line) (b : Books) (u t : Option Counted) (p : ℕ) (i : Input) → Stands l b u → p < 33 → turning_at (command_at l p) i ≡ false
    → AllCome l.queue.table t → AllCome (with_input l.queue.table p i) t
input_comes l b u t p i is low quiet are = input_case l b u t p i (command_at l p) refl is low quiet are

-- ## One deed

quiet_stage : (s : Stage) → is_loud_stage s ≡ false → is_turning s Goes ≡ false
quiet_stage SetUpRead e = absurd (cc)
quiet_stage SetUpWrite e = absurd (cc)
quiet_stage s e = refl

quiet_turn : (x : Option Moment) → loud_at x Goes ≡ false → turning_at x Goes ≡ false
quiet_turn None e = refl
quiet_turn (Some m) e = quiet_stage m.stage e

answer_stage : (s : Stage) (i : Input) → is_answer i ≡ true → is_turning s i ≡ false
answer_stage SetUpRead Goes e = absurd (cc)
answer_stage SetUpWrite Goes e = absurd (cc)
answer_stage Receiving (Comes part) e = absurd (cc)
answer_stage s i e = refl

answer_turn : (x : Option Moment) (i : Input) → is_answer i ≡ true → turning_at x i ≡ false
answer_turn None i e = refl
answer_turn (Some m) i e = answer_stage m.stage i e

none_comes : (t : Option Counted) → AllCome none_under_way t
none_comes t p = subst (λ (x : Option Moment). ComesAt t p x) (sym (each_is (Option Moment) 33 p None)) (record { fresh = tt; held = λ h. absurd (cc) })

taken_comes : (l : Line) (c : Command) (ranks : List ℕ) (b : Bool) (t : Option Counted) → length l.queue.table.places ≡ 33 → c.place < 33 → AllCome l.queue.table t
    → AllCome (if b then l else record l { queue = with_table l.queue (if b then l.queue.table else with_command l.queue.table c.place (Some (opening c))); ranks = ranks }).queue.table t
taken_comes l c ranks true t long low are = are
taken_comes l c ranks false t long low are =
    put_same l.queue.table c.place (Some (opening c)) long low t are (record { fresh = tt; held = λ h. absurd (opening_free c h) })

answered_comes : (l : Line) (b : Books) (u t : Option Counted) (p : ℕ) (i : Input) (out : List ℕ) (c : Bool) → Stands l b u → p < 33 → is_answer i ≡ true → AllCome l.queue.table t
    → AllCome (if c then record { table = with_input l.queue.table p i; out = out; next = l.queue.next } else l.queue).table t
answered_comes l b u t p i out true is low ans are = input_comes l b u t p i is low (answer_turn (command_at l p) i ans) are
answered_comes l b u t p i out false is low ans are = are

-- no Data come by it, and, where it sends none, no FIS goes and nothing is reset
abbrev pub IsStill : (sends : Bool) → Deed → Type 0
IsStill b (deed.Hears p part) = ⊥
IsStill b (deed.Sends p) = b ≡ true
IsStill b deed.Resets = b ≡ true
IsStill b d = Unit {0}

deed_comes : (l : Line) (b : Books) (u t : Option Counted) (d : Deed) → Stands l b u → IsDeed l d → IsQuiet l d → IsStill true d → AllCome l.queue.table t
    → AllCome (after_deed l d).queue.table t
deed_comes l b u t (deed.Takes c) is may quiet none are = taken_comes l c _ (is_under_way (command_at l c.place)) t is.agree.kept.commands may.0 are
deed_comes l b u t (deed.Starts p) is may quiet none are = input_comes l b u t p Goes is may.0 (quiet_turn (command_at l p) quiet) are
deed_comes l b u t (deed.Sends p) is may quiet none are = input_comes l b u t p Goes is may.0 (quiet_turn (command_at l p) quiet) are
deed_comes l b u t (deed.Asks p) is may quiet none are = input_comes l b u t p Goes is may.0 (quiet_turn (command_at l p) quiet) are
deed_comes l b u t (deed.Hears p part) is may quiet none are = absurd none
deed_comes l b u t (deed.Answers p number i) is may quiet none are = answered_comes l b u t p i _ _ is may.0 may.1 are
deed_comes l b u t deed.Resets is may quiet none are = none_comes t
deed_comes l b u t deed.Draws is may quiet none are = are

abbrev pub AreStill : (sends : Bool) → List Deed → Type 0
AreStill b [] = Unit {0}
AreStill b (d ∷ later) = IsStill b d × AreStill b later

deeds_come : (ds : List Deed) (l : Line) (b : Books) (u t : Option Counted) → Stands l b u → AreDone l ds → AreStill true ds → AllCome l.queue.table t
    → AllCome (after_deeds l ds).queue.table t
deeds_come [] l b u t is done none are = are
deeds_come (d ∷ ds) l b u t is done none are =
    deeds_come ds (after_deed l d) _ u t (deed_stands l b u d is done.0 done.1) done.2 none.1 (deed_comes l b u t d is done.0 done.1 none.0 are)

-- ## No Data come

both_still : (b : Bool) (ds es : List Deed) → AreStill b ds → AreStill b es → AreStill b (ds ++ es)
both_still b [] es one two = two
both_still b (d ∷ ds) es one two = (one.0, both_still b ds es one.1 two)

end_still : (tag : ℕ) (c : Bool) → AreStill true (if c then deed.Sends tag ∷ [] else [])
end_still tag true = (refl, tt)
end_still tag false = tt

ends_still : (l : Line) (n : ℕ) → AreStill true (ends_deeds l n)
unfolding ends_deeds
ends_still l zero = tt
ends_still l (suc n) = both_still true (ends_deeds l n) (end_deeds (ends_sent l n) n) (ends_still l n) (end_still n (ends_at (ends_sent l n) n && may_send (ends_sent l n) n))

sent_still : (p : ℕ) (c : Bool) → AreStill true (if c then deed.Sends p ∷ deed.Resets ∷ [] else deed.Sends p ∷ [])
sent_still p true = (refl, (refl, tt))
sent_still p false = (refl, tt)

abbrev IsStillMove : (sends : Bool) → Move → Type 0
IsStillMove b (move.Hears p part) = ⊥
IsStillMove b (move.Sends p) = b ≡ true
IsStillMove b move.SendsEnds = b ≡ true
IsStillMove b move.Resets = b ≡ true
IsStillMove b m = Unit {0}

any_still : (b : Bool) (ds : List Deed) → b ≡ true → AreStill true ds → AreStill b ds
any_still b ds is still = subst (λ (x : Bool). AreStill x ds) (sym is) still

move_still : (b : Bool) (s : Schedule) (m : Move) → IsStillMove b m → AreStill b (deeds_of s m)
move_still b s (move.Hears p part) none = absurd none
move_still b s (move.Sends p) is = any_still b _ is (sent_still p (ends_all s.line p))
move_still b s move.SendsEnds is = any_still b _ is (ends_still s.line 32)
move_still b s move.Resets is = (is, tt)
move_still b s move.Forgives none = tt
move_still b s other none = (tt, tt)

abbrev AreStillMoves : (sends : Bool) → List Move → Type 0
AreStillMoves b [] = Unit {0}
AreStillMoves b (m ∷ later) = IsStillMove b m × AreStillMoves b later

moves_still : (b : Bool) (ms : List Move) (s : Schedule) → AreStillMoves b ms → AreStill b (all_deeds s ms)
unfolding all_deeds
moves_still b [] s none = tt
moves_still b (m ∷ later) s none = both_still b (deeds_of s m) (all_deeds (after_move s m) later) (move_still b s m none.0) (moves_still b later (after_move s m) none.1)

both_moves : (b : Bool) (ms ns : List Move) → AreStillMoves b ms → AreStillMoves b ns → AreStillMoves b (ms ++ ns)
both_moves b [] ns one two = two
both_moves b (m ∷ ms) ns one two = (one.0, both_moves b ms ns one.1 two)

answer_still : (b : Bool) (e : EngineState) (x : Option ℕ) (number : ℕ) (a : Answer) → AreStillMoves b (answer_moves e x number a)
answer_still b e None number a = tt
answer_still b e (Some p) number (answers.Loaded bytes) = (tt, tt)
answer_still b e (Some p) number answers.Done = (tt, tt)
answer_still b e (Some p) number (answers.Failed f) = (tt, tt)

abbrev IsStillStep : (sends : Bool) → Step → Type 0
IsStillStep b (engine.Hears p part) = ⊥
IsStillStep b (engine.Sends p) = b ≡ true
IsStillStep b engine.SendsEnds = b ≡ true
IsStillStep b engine.Resets = b ≡ true
IsStillStep b s = Unit {0}

step_still : (b : Bool) (e : EngineState) (s : Step) → IsStillStep b s → AreStillMoves b (moves_of e s)
step_still b e (engine.Hears p part) none = absurd none
step_still b e (engine.Answers number a) none = answer_still b e (place_of e number) number a
step_still b e (engine.TakesAside k ranges) none = tt
step_still b e engine.SendsAside none = tt
step_still b e (engine.Sends p) is = (is, tt)
step_still b e engine.SendsEnds is = (is, tt)
step_still b e engine.Resets is = (is, tt)
step_still b e other none = (tt, tt)

abbrev pub AreStillSteps : (sends : Bool) → List Step → Type 0
AreStillSteps b [] = Unit {0}
AreStillSteps b (s ∷ later) = IsStillStep b s × AreStillSteps b later

steps_still : (b : Bool) (ss : List Step) (e : EngineState) → AreStillSteps b ss → AreStillMoves b (all_moves e ss)
unfolding all_moves
steps_still b [] e none = tt
steps_still b (s ∷ later) e none = both_moves b (moves_of e s) (all_moves (after_step e s) later) (step_still b e s none.0) (steps_still b later (after_step e s) none.1)

pub call_still : (b : Bool) (d : DiskState) (c : Call) → AreStillSteps b (steps_of d c) → AreStill b (deeds_by d c)
call_still b d c none = moves_still b (all_moves d.engine (steps_of d c)) d.engine.schedule (steps_still b (steps_of d c) d.engine none)

quiet_comes : (d : DiskState) (b : Books) (u t : Option Counted) (c : Call) → Stands (commands d) b u → IsCall d c → IsQuietCall d c → AreStillSteps true (steps_of d c)
    → AllCome (commands d).queue.table t → AllCome (commands (after_call d c)).queue.table t
quiet_comes d b u t c is may quiet none are =
    subst (λ (l : Line). AllCome l.queue.table t) (sym (line_by d c))
    (deeds_come (deeds_by d c) (commands d) b u t is (steps_done (steps_of d c) d.engine (call_are d c may) (call_quiet d c quiet))
    (call_still true d c none) are)

-- ## A FIS of a command goes

reset_case : (l : Line) (p : ℕ) (c : Bool) (t : Option Counted) → AllCome (after_deed l (deed.Sends p)).queue.table t
    → AllCome (after_deeds l (if c then deed.Sends p ∷ deed.Resets ∷ [] else deed.Sends p ∷ [])).queue.table t
reset_case l p true t are = none_comes t
reset_case l p false t are = are

sent_comes : (d : DiskState) (t : Option Counted) (p : ℕ) (o : Out) → out_steps o ≡ engine.Sends p ∷ engine.Forgives ∷ [] → AllCome (after_deed (commands d) (deed.Sends p)).queue.table t
    → AllCome (commands (after_call d (call.Sends o))).queue.table t
sent_comes d t p o is now =
    let same : deeds_by d (call.Sends o) ≡ deeds_of d.engine.schedule (move.Sends p) =
    ap (λ (ss : List Step). all_deeds d.engine.schedule (all_moves d.engine ss)) is ∙ sent_deeds d.engine p in
    subst (λ (l : Line). AllCome l.queue.table t) (sym (line_by d (call.Sends o)))
    (subst (λ (ds : List Deed). AllCome (after_deeds (commands d) ds).queue.table t) (sym same) (reset_case (commands d) p (ends_all (commands d) p) t now))

-- nothing came of a command that is set up now
set_zero : (c : Command) (done : ℕ) (bytes : List ℕ) (sent : ℕ) (stage : Stage) → is_loud_stage stage ≡ true → wants_wire (turn_of stage) ≡ true → IsFresh done bytes stage
    → is_writing (after (moment c done bytes sent stage) Goes).stage ≡ true → 0 ≡ come_of (after (moment c done bytes sent stage) Goes)
set_zero c done bytes sent SetUpRead loud wants is w = absurd (cc)
set_zero c done bytes sent SetUpWrite loud wants is w = let one = is.0 in let two = is.1 in omega (arith, one, two)
set_zero c done bytes sent Sending loud wants is w = absurd (cc)
set_zero c done bytes sent stage loud wants is w = absurd (cc)

set_comes : (l : Line) (b : Books) (u t : Option Counted) (p : ℕ) (m : Moment) → Stands l b u → IsDeed l (deed.Sends p) → command_at l p ≡ Some m → wants_wire (turn_of m.stage) ≡ true
    → is_loud_stage m.stage ≡ true → AllCome l.queue.table t → AllCome (after_deed l (deed.Sends p)).queue.table (Some (record { tag = p; count = 0 }))
set_comes l b u t p m is may here wants loud are =
    let free = may_free l p m here may.1 wants in
    let was : ComesAt t p (Some m) = subst (λ (x : Option Moment). ComesAt t p x) here (are p) in
    subst (λ (x : Option Moment). AllCome (with_command l.queue.table p (option_map (λ m. after m Goes) x)) (Some (record { tag = p; count = 0 }))) (sym here)
    (put_alone l.queue.table p (Some (after m Goes)) is.agree.kept.commands may.0 t (Some (record { tag = p; count = 0 })) are
    (λ q apart h. absurd (let held = ((is.sound q).wired h).0 in let no = sym held ∙ free in cc))
    (record {
      fresh = fresh_after m.command m.done m.bytes m.sent m.stage Goes (facts_at l b u p m is here).waits was.fresh;
      held = λ h. record { count = 0; told = refl; come = λ w. set_zero m.command m.done m.bytes m.sent m.stage loud wants was.fresh w };
    }))

of_comes : (d : DiskState) (b : Books) (u t : Option Counted) (p : ℕ) (r : Reply) (x : Option Moment) → command_at (commands d) p ≡ x → Stands (commands d) b u
    → IsOut d (Some (out.Of p r)) → Some (out.Of p r) ≡ out_at d p x → AllCome (commands d).queue.table t
    → AllCome (commands (after_call d (call.Sends (out.Of p r)))).queue.table (set_up_by r t)
of_comes d b u t p r None here is may e are = absurd (cc)
of_comes d b u t p r (Some m) here is may e are = elim (of_case d p r m.command m.done m.bytes m.sent m.stage e) [
  | inl sets ↦
      let place : m.command.place ≡ p = (subst (λ (x : Option Moment). IsOwn p x) here (is.sound p).own).1 in
      let told : set_up_by r t ≡ Some (record { tag = p; count = 0 }) =
      ap (λ x. set_up_by x t) sets.2 ∙ ap (λ k. Some (record { tag = k; count = 0 })) place in
      subst (λ (k : Option Counted). AllCome (commands (after_call d (call.Sends (out.Of p r)))).queue.table k) (sym told)
      (sent_comes d (Some (record { tag = p; count = 0 })) p (out.Of p r) refl (set_comes (commands d) b u t p m is may.2 here sets.1 sets.0 are))
  | inr none ↦
      subst (λ (k : Option Counted). AllCome (commands (after_call d (call.Sends (out.Of p r)))).queue.table k) (sym (none.1 t))
      (sent_comes d t p (out.Of p r) refl (input_comes (commands d) b u t p Goes is may.2.0 (quiet_turn (command_at (commands d) p) (ap (λ x. loud_at x Goes) here ∙ none.0)) are))
]

data_turn : (d : DiskState) (p n : ℕ) (x : Option Moment) → Some (out.Data p n) ≡ out_at d p x → turning_at x Goes ≡ false
data_turn d p n None e = refl
data_turn d p n (Some m) e = ap (λ (s : Stage). is_turning s Goes) (data_stage d p n m.command m.done m.bytes m.sent m.stage e).0

out_comes : (d : DiskState) (b : Books) (u t : Option Counted) (o : Out) → Stands (commands d) b u → IsOut d (Some o) → AllCome (commands d).queue.table t
    → AllCome (commands (after_call d (call.Sends o))).queue.table (set_up_out o t)
out_comes d b u t (out.Of p r) is may are = of_comes d b u t p r (command_at (commands d) p) refl is may may.3 are
out_comes d b u t (out.Data p n) is may are =
    sent_comes d t p (out.Data p n) refl (input_comes (commands d) b u t p Goes is may.2.0 (data_turn d p n (command_at (commands d) p) may.3) are)
out_comes d b u t (out.Page p) is may are = quiet_comes d b u t (call.Sends (out.Page p)) is may tt tt are
out_comes d b u t (out.Own r) is may are = quiet_comes d b u t (call.Sends (out.Own r)) is may tt tt are
out_comes d b u t (out.Beside r) is may are = quiet_comes d b u t (call.Sends (out.Beside r)) is may tt (tt, tt) are
out_comes d b u t (out.Ends tags) is may are = quiet_comes d b u t (call.Sends (out.Ends tags)) is may tt (refl, tt) are

-- ## Who takes Data

abbrev Found : (test : ℕ → Bool) → (n : ℕ) → Option ℕ → Type 0
Found test n x = ((x ≡ None) × ((k : ℕ) → k < n → test k ≡ false)) ⊎ ((j : ℕ) × ((x ≡ Some j) × ((test j ≡ true) × (j < n))))

found_more : (test : ℕ → Bool) (n : ℕ) (x : Option ℕ) (b : Bool) → test n ≡ b → Found test n x → Found test (suc n) (or_this x (if b then Some n else None))
found_more test n x true here (inl none) = inr (n, (ap (λ y. or_this y (Some n)) none.0, (here, omega arith)))
found_more test n x false here (inl none) = inl (
  ap (λ y. or_this y None) none.0,
  λ k low. elim (cases_eq k n) [
    | inl same ↦ ap test same ∙ here
    | inr apart ↦ none.1 k (omega (arith, low, apart))
  ],
)
found_more test n x b here (inr some) = let low = some.1.1.1 in inr (some.0, (ap (λ y. or_this y (if b then Some n else None)) some.1.0, (some.1.1.0, omega (arith, low))))

found : (test : ℕ → Bool) (n : ℕ) → Found test n (first_below test n)
unfolding first_below
found test zero = inl (refl, λ k low. absurd (omega (arith, low)))
found test (suc n) = found_more test n (first_below test n) (test n) refl (found test n)

low_holder : (p : ℕ) (x : Option Moment) → IsOwn p x → has_wire x ≡ true → nat_lt p 32 ≡ true
low_holder p None own h = absurd (cc)
low_holder p (Some m) own h = sym own.0 ∙ queued_of m h

pub holder_place : (l : Line) (b : Books) (u : Option Counted) (q : ℕ) → Stands l b u → has_wire (command_at l q) ≡ true → data_place l ≡ q
unfolding data_place
holder_place l b u q is h = elim (found (has_link l) 32) [
  | inl none ↦ absurd (let no = none.1 q (ltb-true q 32 (low_holder q (command_at l q) (is.sound q).own h)) in let both = sym no ∙ h in cc)
  | inr some ↦
      let same : some.0 ≡ q = same_Some some.0 q (sym ((is.sound some.0).wired some.1.1.0).0 ∙ ((is.sound q).wired h).0) in
      ap or_single some.1.0 ∙ same
]

pub receiving_stage : (s : Stage) → is_receiving s ≡ true → s ≡ Receiving
receiving_stage Receiving e = refl
receiving_stage s e = absurd (cc)

not_receiving : (s : Stage) (part : List ℕ) → is_receiving s ≡ false → is_turning s (Comes part) ≡ false
not_receiving Receiving part e = absurd (cc)
not_receiving s part e = refl

take_at : (t : Option Counted) (p : ℕ) (c : Command) (done : ℕ) (bytes : List ℕ) (sent : ℕ) (part : List ℕ) → ComesAt t p (Some (moment c done bytes sent Receiving))
    → ComesAt (more_by (length part) t) p (Some (after (moment c done bytes sent Receiving) (Comes part)))
take_at t p c done bytes sent part was = record {
  fresh = fresh_after c done bytes sent Receiving (Comes part) (λ e. absurd (cc)) tt;
  held = λ h.
      (let q : is_queued c.protocol ≡ true = sym (same_protocol (moment c done bytes sent Receiving) (Comes part)) ∙ queued_of (after (moment c done bytes sent Receiving) (Comes part)) h in
      let x : CameFor t p (moment c done bytes sent Receiving) = was.held (and_true (is_queued c.protocol) true q refl) in
      record {
        count = x.count + length part;
        told = ap (λ k. more_by (length part) k) x.told;
        come = λ w. ap (λ k. k + length part) (x.come refl) ∙ sym (comes_more c done bytes sent part w);
      });
}

hears_case : (l : Line) (b : Books) (u t : Option Counted) (part : List ℕ) (m : Moment) (r : Bool) → is_receiving m.stage ≡ r → command_at l (data_place l) ≡ Some m → Stands l b u
    → AllCome l.queue.table t → AllCome (with_command l.queue.table (data_place l) (Some (after m (Comes part)))) (if r then more_by (length part) t else t)
hears_case l b u t part m false away here is are =
    put_same l.queue.table (data_place l) (Some (after m (Comes part))) is.agree.kept.commands (place_low l) t are
    (stays_at t (data_place l) m (Comes part) (facts_at l b u (data_place l) m is here) (not_receiving m.stage part away)
    (subst (λ (x : Option Moment). ComesAt t (data_place l) x) here (are (data_place l))))
hears_case l b u t part m true takes here is are =
    let p : ℕ = data_place l in
    let now : Some m ≡ Some (moment m.command m.done m.bytes m.sent Receiving) = ap (λ (s : Stage). Some (moment m.command m.done m.bytes m.sent s)) (receiving_stage m.stage takes) in
    let taken : ComesAt (more_by (length part) t) p (Some (after (moment m.command m.done m.bytes m.sent Receiving) (Comes part))) =
    take_at t p m.command m.done m.bytes m.sent part (subst (λ (x : Option Moment). ComesAt t p x) (here ∙ now) (are p)) in
    put_alone l.queue.table p (Some (after m (Comes part))) is.agree.kept.commands (place_low l) t (more_by (length part) t) are
    (λ q apart h. absurd (apart (sym (holder_place l b u q is h))))
    (subst (λ (x : Option Moment). ComesAt (more_by (length part) t) p (option_map (λ m. after m (Comes part)) x)) (sym now) taken)

hears_at : (l : Line) (b : Books) (u t : Option Counted) (part : List ℕ) (x : Option Moment) → command_at l (data_place l) ≡ x → Stands l b u → AllCome l.queue.table t
    → AllCome (with_command l.queue.table (data_place l) (option_map (λ m. after m (Comes part)) x)) (if receives x then more_by (length part) t else t)
hears_at l b u t part None here is are = input_case l b u t (data_place l) (Comes part) None here is (place_low l) refl are
hears_at l b u t part (Some m) here is are = hears_case l b u t part m (is_receiving m.stage) refl here is are

-- ## A FIS of the host

range_comes : (d : DiskState) (x : Option (List Range)) (t : Option Counted) → AllCome (commands d).queue.table t → AllCome (commands (discarding d x)).queue.table t
range_comes d None t are = are
range_comes d (Some ranges) t are = are

data_comes : (d : DiskState) (b : Books) (u t : Option Counted) (x : Option ℕ) (bytes : List ℕ) → Stands (commands d) b u → AllCome (commands d).queue.table t
    → AllCome (commands (data_by d x bytes)).queue.table (if is_awaited d x then more_by (length bytes) t else t)
data_comes d b u t None bytes is are = hears_at (commands d) b u t bytes (command_at (commands d) (data_place (commands d))) refl is are
data_comes d b u t (Some blocks) bytes is are = range_comes d (ranges_of blocks (facts_of d.profile).sectors bytes) t are

act_none : (e : EngineState) (a : Act) → AreStillSteps true (act_steps e a)
act_none e act.Nothing = tt
act_none e act.Resets = (refl, tt)
act_none e other = (tt, tt)

fis_comes : (d : DiskState) (b : Books) (u t : Option Counted) (f : List ℕ) (r : Result Fis FisFault) → view_seen f ≡ r → Stands (commands d) b u → IsCall d (call.Hears f)
    → AllCome (commands d).queue.table t → AllCome (commands (fis_heard d r)).queue.table (taken_fis d r t)
fis_comes d b u t f (Ok (view.RegH2D g)) e is may are =
    subst (λ (x : Result Fis FisFault). AllCome (commands (fis_heard d x)).queue.table t) e
    (quiet_comes d b u t (call.Hears f) is may tt (subst (λ (x : Result Fis FisFault). AreStillSteps true (fis_steps d x)) (sym e) (act_none d.engine (register_told d g).act)) are)
fis_comes d b u t f (Ok (view.Payload g)) e is may are = data_comes d b u t (heard_data d.front.task) (drop 4 g) is are
fis_comes d b u t f other e is may are = are

-- ## Each call

pub start_still : (b : Bool) (x : Option ℕ) → AreStillSteps b (start_steps x)
start_still b None = tt
start_still b (Some p) = (tt, tt)

pub ask_still : (b : Bool) (x : Option ℕ) → AreStillSteps b (ask_steps x)
ask_still b None = (tt, tt)
ask_still b (Some p) = (tt, tt)

call_comes : (d : DiskState) (b : Books) (u t : Option Counted) (c : Call) → Stands (commands d) b u → IsCall d c → AllCome (commands d).queue.table t
    → AllCome (commands (after_call d c)).queue.table (taken_call d c t)
call_comes d b u t call.Plugs is may are = quiet_comes d b u t call.Plugs is may tt (refl, tt) are
call_comes d b u t (call.Hears f) is may are = fis_comes d b u t f (view_seen f) refl is may are
call_comes d b u t (call.Starts x) is may are = quiet_comes d b u t (call.Starts x) is may tt (start_still true x) are
call_comes d b u t (call.Asks r) is may are = quiet_comes d b u t (call.Asks r) is may tt (ask_still true r.place) are
call_comes d b u t (call.Answers number a) is may are = quiet_comes d b u t (call.Answers number a) is may tt (tt, tt) are
call_comes d b u t (call.Sends o) is may are = out_comes d b u t o is may are

-- ## Every run

pub record Stand (d : DiskState) (b : Books) (u t : Option Counted) : Type 0 where
  pub good : Good d b u
  pub come : AllCome (commands d).queue.table t

calls_come : (calls : List Call) (d : DiskState) (b : Books) (u t : Option Counted) → Stand d b u t → AreCalls d calls
    → Stand (after_calls d calls) (books_after b (shown_from d calls)) (counted_after u calls) (taken_after d t calls)
unfolding after_calls counted_after taken_after
calls_come [] d b u t is are = subst (λ (x : Books). Stand d x u t) (none_shown d b) is
calls_come (c ∷ later) d b u t is are =
    subst (λ (x : Books). Stand (after_calls (after_call d c) later) x (counted_after (counted_call c u) later) (taken_after (after_call d c) (taken_call d c t) later))
    (sym (books_both (seen_of (commands d) (deeds_by d c)) (shown_from (after_call d c) later) b) ∙ ap (λ x. books_after b x) (sym (shown_by d c later)))
    (calls_come later (after_call d c) (books_after b (seen_of (commands d) (deeds_by d c))) (counted_call c u) (taken_call d c t)
    (record { good = call_good d b u c is.good are.0; come = call_comes d b u t c is.good.stands are.0 is.come }) are.1)

-- so many bytes came for a write that awaits more
came_known : (c k : Command) (done : ℕ) (bytes : List ℕ) (sent : ℕ) (g : Ledger) → Agrees c (moment k done bytes sent Receiving) g
    → length g.came ≡ done * 512 + length bytes
came_known c k done bytes sent g (inl over) = absurd (cc)
came_known c k done bytes sent g (inr known) =
    let long = known.facts.1.0 in let sum = length-append known.past bytes in ap (λ (x : Ledger). length x.came) known.is ∙ omega (arith, long, sum)

taken_case : (d : DiskState) (b : Books) (u t : Option Counted) (p : ℕ) (c : Command) (done : ℕ) (bytes : List ℕ) (sent : ℕ) → Stand d b u t → p < 32
    → command_at (commands d) p ≡ Some (moment c done bytes sent Receiving) → AreTakenFor d (at_page b.pages p) p t
taken_case d b u t p c done bytes sent is low here =
    let m : Moment = moment c done bytes sent Receiving in
    let own : IsOwn p (Some m) = subst (λ (x : Option Moment). IsOwn p x) here (is.good.stands.sound p).own in
    let link : has_wire (Some m) ≡ true = and_true (is_queued c.protocol) true (own.0 ∙ lt-ltb p 32 low) refl in
    let at' : ComesAt t p (Some m) = subst (λ (x : Option Moment). ComesAt t p x) here (is.come p) in
    let x : CameFor t p m = at'.held link in
    let y = paged (commands d) b p m is.good.stands.agree here in
    record {
      next = holder_place (commands d) b u p is.good.stands (ap has_wire here ∙ link);
      of = y.page;
      is = y.is;
      counts = x.told ∙ ap (λ k. Some (record { tag = p; count = k })) (x.come refl ∙ sym (came_known y.page.command c done bytes sent y.page.ledger y.agrees));
    }

taken_at : (d : DiskState) (b : Books) (u t : Option Counted) (p : ℕ) (x : Option Moment) → command_at (commands d) p ≡ x → Stand d b u t → p < 32 → receives x ≡ true
    → AreTakenFor d (at_page b.pages p) p t
taken_at d b u t p None here is low r = absurd (cc)
taken_at d b u t p (Some m) here is low r =
    taken_case d b u t p m.command m.done m.bytes m.sent is low (here ∙ ap (λ (s : Stage). Some (moment m.command m.done m.bytes m.sent s)) (receiving_stage m.stage r))

new_come : (p : Profile) (limit : ℕ) → Stand (new_disk p limit) no_books None None
new_come p limit = record { good = new_good p limit; come = none_comes None }

pub all_taken : AllDataAreTaken
all_taken p limit calls place are low r =
    taken_at (reached p limit calls) (books_after no_books (seen_in p limit calls)) (counted_after None calls) (taken_after (new_disk p limit) None calls) place
    (command_at (commands (reached p limit calls)) place) refl (calls_come calls (new_disk p limit) no_books None None (new_come p limit) are) low r

-- ## From a moment on

-- both are one, or the first knows nothing
abbrev Alike : Option Counted → Option Counted → Type 0
Alike u t = (u ≡ t) ⊎ (u ≡ None)

reply_alike : (r : Reply) (u t : Option Counted) → Alike u t → Alike (set_up_by r u) (set_up_by r t)
reply_alike (replies.SetUp s) u t is = inl refl
reply_alike other u t is = is

more_alike : (n : ℕ) (b : Bool) (u t : Option Counted) → Alike u t → Alike (if b then more_by n u else u) (if b then more_by n t else t)
more_alike n true u t (inl same) = inl (ap (λ x. more_by n x) same)
more_alike n true u t (inr none) = inr (ap (λ x. more_by n x) none)
more_alike n false u t is = is

fis_alike : (d : DiskState) (r : Result Fis FisFault) (u t : Option Counted) → Alike u t → Alike (taken_fis d r u) (taken_fis d r t)
fis_alike d (Ok (view.Payload f)) u t is = more_alike (length (drop 4 f)) (awaits d) u t is
fis_alike d other u t is = is

out_alike : (o : Out) (u t : Option Counted) → Alike u t → Alike (set_up_out o u) (set_up_out o t)
out_alike (out.Of p r) u t is = reply_alike r u t is
out_alike other u t is = is

call_alike : (d : DiskState) (c : Call) (u t : Option Counted) → Alike u t → Alike (taken_call d c u) (taken_call d c t)
call_alike d (call.Sends o) u t is = out_alike o u t is
call_alike d (call.Hears f) u t is = fis_alike d (view_seen f) u t is
call_alike d other u t is = is

calls_alike : (calls : List Call) (d : DiskState) (u t : Option Counted) → Alike u t → Alike (taken_after d u calls) (taken_after d t calls)
unfolding taken_after
calls_alike [] d u t is = is
calls_alike (c ∷ later) d u t is = calls_alike later (after_call d c) (taken_call d c u) (taken_call d c t) (call_alike d c u t is)

taken_both : (base calls : List Call) (d : DiskState) (t : Option Counted) → taken_after d t (base ++ calls) ≡ taken_after (after_calls d base) (taken_after d t base) calls
unfolding taken_after after_calls
taken_both [] calls d t = refl
taken_both (c ∷ base) calls d t = taken_both base calls (after_call d c) (taken_call d c t)

pub since_taken : DataAreTaken
since_taken p limit base calls place are low r =
    let d : DiskState = new_disk p limit in
    let all = all_taken p limit (base ++ calls) place are low r in
    elim (calls_alike calls (reached p limit base) None (taken_after d None base) (inr refl)) [
      | inl same ↦ inr (subst (λ (k : Option Counted). AreTakenFor (reached p limit (base ++ calls)) (page_in p limit (base ++ calls) place) place k)
          (taken_both base calls d None ∙ sym same) all)
      | inr none ↦ inl none
    ]
