-- While a discard is out, nothing of the queue runs.
use Rattle.std.proofs.Common.{◌≡◌, ℕ, zero, suc, ◌<◌, ◌≤◌, true, false, List, [], ◌∷◌, length, get_or, set, Some, None, refl, sym, ap, ◌∙◌, arith}
use Rattle.std.proofs.{Common.{inl, inr, subst}, lemmas.{Bool.{cases_eq, cases_lt}, List.{get_or-set_same, get_or-set_other, length-set}}}
use Rattle.std.proofs.Math.ListN.{get_or-eq_default}
use Rattle.std.specs.{Prelude.{Option, Bool, not, ◌&&◌, ◌||◌, is_none, if◌then◌else◌}, Option.{option_map, is_some}}
use Rattle.block_command.specs.{declared.command.{Command.Command, Stage.{Stage, TheVariants.{Waiting, Ended}}}, Moments.{Moment, is_ended}}
use Rattle.block_command.specs.{Moments.{is_storing, opening, runs, turn_of}, Laws.{Input, Goes, Stores, Flushes, after}}
use Rattle.block_command.specs.Laws as command
use Rattle.block_disk.specs.{Table.{is_under_way, with_command, with_input}, Requests.{asks_at, is_fis, is_request, sends_at, with_drawn, with_table}}
use Rattle.block_disk.proofs.Door.{each_is}
use Rattle.block_queue.specs.Line.{Line, any_below, command_at, left_of, line_answered, line_gone, line_reset, line_taken, may_send, orphan}
use Rattle.block_queue.specs.{Line.{orphan_of, with_queue}, declared.queue.Orphan.Orphan}
use Rattle.block_queue.proofs.Door.{left_read, of_and, runs_before, storing_runs}
use Rattle.block_scheduler.specs.{Sets.ends_at, Schedule.{ends_sent, is_busy, is_quiet}}
use Rattle.block_engine.specs.{declared.{aside.{AsideKind.AsideKind, AsideStage.AsideStage}, request.Answer.Answer}, Aside.settled, Engine.runs_at}
use Rattle.block_engine.specs.Engine.{EngineState, answered, discards, done_at, done_of, dropped_by, failed_by, is_asked, is_discard, line, loaded_at}
use Rattle.block_engine.specs.{Engine.{none_engaged, place_of}, Laws.{Step, Takes, TakesAside, Starts, Asks, AsksAside, Answers, Hears, Sends}}
use Rattle.block_engine.specs.Laws.{SendsEnds, SendsAside, Forgives, Resets, IsStep, after_step, AreSteps, after_steps, IsStill, DiscardsAreAlone}
use Rattle.block_engine.specs.declared.aside.AsideKind.TheVariants as kinds
use Rattle.block_engine.specs.declared.aside.AsideStage.TheVariants as stages
use Rattle.block_engine.specs.declared.request.Answer.TheVariants as answers

-- ## Commands that do not run

no_bool : (a : Bool) → a ≡ true → a ≡ false → (P : Type 0) → P
no_bool a e f P = absurd (cc)

not_runs : (b a : Bool) → (b ≡ true → a ≡ true) → a ≡ false → b ≡ false
not_runs false a f e = refl
not_runs true a f e = no_bool a (f refl) e _

fis_runs : (stage : Stage) → is_fis (turn_of stage) ≡ true → runs stage ≡ true
fis_runs Waiting e = absurd (cc)
fis_runs Ended e = absurd (cc)
fis_runs stage e = refl

request_runs : (stage : Stage) → is_request (turn_of stage) ≡ true → runs stage ≡ true
request_runs Waiting e = absurd (cc)
request_runs Ended e = absurd (cc)
request_runs stage e = refl

ended_runs : (stage : Stage) → not (is_ended stage) ≡ false → runs stage ≡ false
ended_runs Ended e = refl
ended_runs stage e = absurd (cc)

sends_run : (x : Option Moment) → sends_at x ≡ true → runs_at x ≡ true
sends_run None e = absurd (cc)
sends_run (Some m) e = fis_runs m.stage e

asks_run : (x : Option Moment) → asks_at x ≡ true → runs_at x ≡ true
asks_run None e = absurd (cc)
asks_run (Some m) e = request_runs m.stage e

idle_still : (x : Option Moment) → is_under_way x ≡ false → runs_at x ≡ false
idle_still None e = refl
idle_still (Some m) e = ended_runs m.stage e

given_still : (x : Option Moment) (i : Input) → (i ≡ Goes → ⊥) → runs_at x ≡ false → runs_at (option_map (λ m. after m i) x) ≡ false
given_still None i never e = refl
given_still (Some m) i never e = not_runs _ _ (λ f. runs_before m.command m.done m.bytes m.sent m.stage i (λ g. absurd (never g)) f) e

-- ## A place changes

out_none : (xs : List (Option Moment)) (p : ℕ) (x : Option Moment) → length xs ≤ p → get_or (set xs p x) p None ≡ None
out_none xs p x high = get_or-eq_default (set xs p x) None (let l = length-set xs p x in omega (arith, l, high))

set_still : (xs : List (Option Moment)) (p q : ℕ) (x : Option Moment) → runs_at x ≡ false → runs_at (get_or xs q None) ≡ false
    → runs_at (get_or (set xs p x) q None) ≡ false
set_still xs p q x e f = elim (cases_eq q p) [
  | inl same ↦ rw same (elim (cases_lt p (length xs)) [
    | inl low ↦ rw (get_or-set_same xs p x None low) e
    | inr high ↦ rw (out_none xs p x high) refl
  ])
  | inr apart ↦ rw (get_or-set_other xs p q x None apart) f
]

set_none : (xs : List (Option Orphan)) (p q : ℕ) → get_or xs q None ≡ None → get_or (set xs p None) q None ≡ None
set_none xs p q f = elim (cases_eq q p) [
  | inl same ↦ rw same (elim (cases_lt p (length xs)) [
    | inl low ↦ get_or-set_same xs p None None low
    | inr high ↦ get_or-eq_default (set xs p None) None (let l = length-set xs p None in omega (arith, l, high))
  ])
  | inr apart ↦ get_or-set_other xs p q None None apart ∙ f
]

given_line : (l : Line) (p : ℕ) (i : Input) → (i ≡ Goes → ⊥) → IsStill l
    → IsStill (with_queue l (with_table l.queue (with_input l.queue.table p i)))
given_line l p i never s = record {
  still = λ q low. elim (cases_lt p 33) [
    | inl here ↦ set_still l.queue.table.places p q _ (given_still (command_at l p) i never (s.still p here)) (s.still q low)
    | inr high ↦ rw (get_or-set_other l.queue.table.places p q (option_map (λ m. after m i) (command_at l p)) None (λ e. omega (arith, e, low, high))) (s.still q low)
  ];
  none = s.none;
}

answer_still : (l : Line) (p : ℕ) (i : Input) (out : List ℕ) (b : Bool) (q : ℕ) → (i ≡ Goes → ⊥) → IsStill l → q < 33
    → runs_at (get_or (if b then record { table = with_input l.queue.table p i; out = out; next = l.queue.next } else l.queue).table.places q None) ≡ false
answer_still l p i out true q never s low = (given_line l p i never s).still q low
answer_still l p i out false q never s low = s.still q low

orphans_none : (l : Line) (p : ℕ) (b : Bool) (q : ℕ) → IsStill l → q < 33 → get_or (if b then set l.orphans p None else l.orphans) q None ≡ None
orphans_none l p true q s low = set_none l.orphans p q (s.none q low)
orphans_none l p false q s low = s.none q low

answered_still : (l : Line) (p number : ℕ) (i : Input) → (i ≡ Goes → ⊥) → IsStill l → IsStill (line_answered l p number i)
answered_still l p number i never s = record {
  still = λ q low. answer_still l p i _ _ q never s low;
  none = λ q low. orphans_none l p _ q s low;
}

taken_case : (l : Line) (c : Command) (ranks : List ℕ) (b d : Bool) → IsStill l
    → IsStill (if b then l else record l {
      queue = with_table l.queue (if d then l.queue.table else with_command l.queue.table c.place (Some (opening c)));
      ranks = ranks;
    })
taken_case l c ranks true d s = s
taken_case l c ranks false true s = record { still = s.still; none = s.none }
taken_case l c ranks false false s = record { still = λ q low. set_still l.queue.table.places c.place q _ refl (s.still q low); none = s.none }

taken_still : (l : Line) (c : Command) → IsStill l → IsStill (line_taken l c)
taken_still l c s = taken_case l c _ _ _ s

end_still : (l : Line) (tag : ℕ) (b : Bool) → (ends_at l tag && may_send l tag) ≡ b → tag < 33 → IsStill l → IsStill (if b then line_gone l tag else l)
end_still l tag true e low s = no_bool _ (sends_run (command_at l tag) (of_and _ _ (of_and _ _ e).1).0) (s.still tag low) _
end_still l tag false e low s = s

ends_still : (l : Line) (n : ℕ) → n ≤ 32 → IsStill l → IsStill (ends_sent l n)
unfolding ends_sent
ends_still l zero low s = s
ends_still l (suc n) low s = end_still (ends_sent l n) n _ refl (omega (arith, low)) (ends_still l n (omega (arith, low)) s)

-- ## A reset

storing_case : (m : Moment) (n : ℕ) (b : Bool) → is_storing m.stage ≡ b → runs m.stage ≡ false
    → (if b then Some (orphan_of m.command n) else None) ≡ None
storing_case m n true e f = no_bool _ (storing_runs m.stage e) f _
storing_case m n false e f = refl

left_none : (x : Option Moment) (n : Option ℕ) (o : Option Orphan) → runs_at x ≡ false → o ≡ None → left_of x n o ≡ None
left_none None n o e f = f
left_none (Some m) None o e f = f
left_none (Some m) (Some n) o e f = rw f (storing_case m n _ refl e)

reset_still : (l : Line) → IsStill l → IsStill (line_reset l)
reset_still l s = record {
  still = λ q low. ap runs_at (each_is (Option Moment) 33 q None);
  none = λ q low. left_read l 33 q low ∙ left_none (command_at l q) _ (orphan l q) (s.still q low) (s.none q low);
}

-- ## Nothing is under way

of_or : (a b : Bool) → (a || b) ≡ false → (a ≡ false) × (b ≡ false)
of_or false b e = (refl, e)
of_or true b e = absurd (cc)

of_not : (a : Bool) → not a ≡ true → a ≡ false
of_not false e = refl
of_not true e = absurd (cc)

none_below : (test : ℕ → Bool) (n q : ℕ) → any_below test n ≡ false → q < n → test q ≡ false
unfolding any_below
none_below test zero q e low = absurd (omega (arith, low))
none_below test (suc n) q e low = elim (cases_eq q n) [
  | inl same ↦ ap test same ∙ (of_or _ _ e).0
  | inr apart ↦ none_below test n q (of_or _ _ e).1 (omega (arith, low, apart))
]

is_nothing : (o : Option Orphan) → is_some o ≡ false → o ≡ None
is_nothing None e = refl
is_nothing (Some o) e = absurd (cc)

quiet_still : (l : Line) → is_quiet l ≡ true → IsStill l
quiet_still l e = record {
  still = λ q low. idle_still (command_at l q) (of_or _ _ (none_below (is_busy l) 33 q (of_not _ e) low)).0;
  none = λ q low. is_nothing (orphan l q) (of_or _ _ (none_below (is_busy l) 33 q (of_not _ e) low)).1;
}

drawn_still : (l : Line) → IsStill l → IsStill (with_queue l (with_drawn l.queue))
drawn_still l s = record { still = s.still; none = s.none }

middle : (a b c : Bool) → (a && b && c) ≡ true → b ≡ true
middle true true c e = refl
middle true false c e = absurd (cc)
middle false b c e = absurd (cc)

-- ## A discard that is out was out, or is asked for now

drop_left : (a b c : Bool) → ((a && false) || c) ≡ true → (b || c) ≡ true
drop_left true true c e = refl
drop_left true false c e = e
drop_left false true c e = refl
drop_left false false c e = e

keep_left : (a c : Bool) → (a || false) ≡ true → (a || c) ≡ true
keep_left true c e = refl
keep_left false c e = absurd (cc)

reset_discards : (k : AsideKind) (stage : AsideStage) (was : Option ℕ) → ((is_discard k && false) || not (is_none (dropped_by k stage was))) ≡ true
    → ((is_discard k && is_asked stage) || not (is_none was)) ≡ true
reset_discards kinds.Flush stage was e = e
reset_discards kinds.Discard (stages.Asked n) was e = refl
reset_discards kinds.Discard stages.Idle was e = e
reset_discards kinds.Discard stages.Waiting was e = e
reset_discards kinds.Discard stages.Done was e = e
reset_discards kinds.Discard stages.Failed was e = e

abbrev Alone : EngineState → Type 0
Alone e = discards e ≡ true → IsStill (line e)

beside_case : (e : EngineState) (well b : Bool) → Alone e → Alone (if b then record e { stage = settled well } else record e { dropped = None })
beside_case e true true alone = λ d. alone (drop_left (is_discard e.kind) _ _ d)
beside_case e false true alone = λ d. alone (drop_left (is_discard e.kind) _ _ d)
beside_case e well false alone = λ d. alone (keep_left _ _ d)

done_goes : (b : Bool) → (if b then Stores else Flushes) ≡ Goes → ⊥
done_goes true e = absurd (cc)
done_goes false e = absurd (cc)

answer_alone : (e : EngineState) (x : Option ℕ) (number : ℕ) (a : Answer) → place_of e number ≡ x → Alone e → Alone (answered e number a)
answer_alone e None number (answers.Loaded bytes) is alone = subst (λ x. Alone (loaded_at e x number bytes.items)) (sym is) alone
answer_alone e None number answers.Done is alone = subst (λ x. Alone (done_at e x number)) (sym is) (beside_case e true _ alone)
answer_alone e None number (answers.Failed f) is alone = subst (λ x. Alone (failed_by e x number f)) (sym is) (beside_case e false _ alone)
answer_alone e (Some p) number (answers.Loaded bytes) is alone = subst (λ x. Alone (loaded_at e x number bytes.items)) (sym is)
    (λ d. answered_still (line e) p number (command.Loads bytes.items) (λ g. absurd (cc)) (alone d))
answer_alone e (Some p) number answers.Done is alone = subst (λ x. Alone (done_at e x number)) (sym is)
    (λ d. answered_still (line e) p number (done_of (line e) p number) (done_goes _) (alone d))
answer_alone e (Some p) number (answers.Failed f) is alone = subst (λ x. Alone (failed_by e x number f)) (sym is)
    (λ d. answered_still (line e) p number command.Fails (λ g. absurd (cc)) (alone d))

-- ## Every run

step_alone : (e : EngineState) (s : Step) → IsStep e s → Alone e → Alone (after_step e s)
step_alone e (Takes c) is alone = λ d. taken_still (line e) c (alone d)
step_alone e (TakesAside k ranges) is alone = λ d. alone (drop_left (is_discard k) _ _ d)
step_alone e (Starts p) is alone = λ d. no_bool _ d is.2 _
step_alone e (Asks p) is alone = λ d. no_bool _ (asks_run (command_at (line e) p) is.1) ((alone d).still p is.0) _
step_alone e AsksAside is alone = λ d. drawn_still (line e) (quiet_still (line e) (middle _ _ _ is))
step_alone e (Answers number a) is alone = answer_alone e _ number a refl alone
step_alone e (Hears p part) is alone = λ d. given_line (line e) p (command.Comes part) (λ g. absurd (cc)) (alone d)
step_alone e (Sends p) is alone = λ d. no_bool _ (sends_run (command_at (line e) p) (of_and _ _ is.1).0) ((alone d).still p is.0) _
step_alone e SendsEnds is alone = λ d. ends_still (line e) 32 (omega arith) (alone d)
step_alone e SendsAside is alone = λ d. alone (drop_left (is_discard e.kind) _ _ d)
step_alone e Forgives is alone = alone
step_alone e Resets is alone = λ d. reset_still (line e) (alone (reset_discards e.kind e.stage e.dropped d))

all_alone : (steps : List Step) (e : EngineState) → AreSteps e steps → Alone e → Alone (after_steps e steps)
unfolding after_steps
all_alone [] e are alone = alone
all_alone (s ∷ later) e are alone = all_alone later (after_step e s) are.1 (step_alone e s are.0 alone)

pub discards_are_alone : DiscardsAreAlone
discards_are_alone limit steps are = all_alone steps (none_engaged limit) are (λ d. absurd (cc))
