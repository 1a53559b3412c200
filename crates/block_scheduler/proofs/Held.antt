-- What every schedule keeps: its sets, and its bound in bytes.
use Rattle.std.proofs.Common.{◌≡◌, ◌≢◌, ℕ, zero, suc, ◌+◌, ◌<◌, ◌≤◌, true, false, sym, List, Some, None, refl, ap, ◌∙◌, arith, inl, inr, ◌⊎◌, get_or}
use Rattle.std.proofs.{Common.{set, length, subst}, lemmas.{Bool.{cases_eq, cases_lt, leb-true}, List.{get_or-set_same, get_or-set_other}}}
use Rattle.std.proofs.{lemmas.List.{length-set}, Math.ListN.{get_or-eq_default}}
use Rattle.std.specs.{Prelude.{Option, Bool, IfSome, IfNone, ◌^◌, if◌then◌else◌}, Option.option_map}
use Rattle.block_command.specs.{declared.command.{Command.Command, Turn.Turn}, Moments.{Moment, opening, is_storing, runs, turn_of}, Laws.Input}
use Rattle.block_command.specs.Laws.{Goes, Comes, after}
use Rattle.block_command.specs.declared.command.Turn.TheVariants as turn
use Rattle.block_command.proofs.Door.{same_command}
use Rattle.block_disk.specs.{Table.{at, with_command, with_input}, Requests.{Queue, is_fis, is_request, number_at, with_answer, with_asked}}
use Rattle.block_disk.specs.Requests.{with_drawn, with_table}
use Rattle.block_disk.specs.Requests as requests
use Rattle.block_disk.proofs.Door.{each_is}
use Rattle.block_queue.specs.Line.{Line, command_at, left_of, line_answered, line_gone, line_reset, line_taken, may_send, moved_back, none_in_line}
use Rattle.block_queue.specs.{Line.{orphan, orphan_of, orphans_answered, starts, with_queue}, declared.queue.Orphan.Orphan}
use Rattle.block_queue.proofs.Door.{left_read, of_and, runs_before, storing_runs}
use Rattle.block_scheduler.specs.{declared.sets.Sets.Sets, Sets.{AreSets, IsNoted, asks_at, is_end, no_sets, sends_alone, turn_at}, Schedule.IsKept}
use Rattle.block_scheduler.specs.Schedule.{Schedule, with_line, end_sent, ends_sent, fits_at, held, held_at, held_below, held_by, held_for, held_of}
use Rattle.block_scheduler.proofs.Places.{SameOthers, empty, empty_tags, noted_sets}

-- ## Sums

held_less : (old new : Line) (n : ℕ) → ((q : ℕ) → q < n → held_at new q ≤ held_at old q) → held_below new n ≤ held_below old n
unfolding held_below
held_less old new zero less = omega arith
held_less old new (suc n) less =
    let before = held_less old new n (λ q low. less q (omega (arith, low))) in
    let here = less n (omega arith) in omega (arith, before, here)

held_more : (old new : Line) (p n more : ℕ) → p < n → ((q : ℕ) → q < n → q ≢ p → held_at new q ≤ held_at old q)
    → held_at new p ≤ held_at old p + more → held_below new n ≤ held_below old n + more
unfolding held_below
held_more old new p zero more low less here = absurd (omega (arith, low))
held_more old new p (suc n) more low less here = elim (cases_eq n p) [
  | inl same ↦ (let before = held_less old new n (λ q low'. less q (omega (arith, low')) (λ e. omega (arith, e, same, low'))) in
      let here' : held_at new n ≤ held_at old n + more = rw same here in omega (arith, before, here'))
  | inr apart ↦ (let before = held_more old new p n more (omega (arith, low, apart)) (λ q low' apart'. less q (omega (arith, low')) apart') here in
      let here' = less n (omega arith) apart in omega (arith, before, here'))
]

held_zero : (l : Line) (n : ℕ) → ((q : ℕ) → q < n → held_at l q ≡ 0) → held_below l n ≡ 0
unfolding held_below
held_zero l zero none = refl
held_zero l (suc n) none =
    let before = held_zero l n (λ q low. none q (omega (arith, low))) in
    let here = none n (omega arith) in omega (arith, before, here)

pub held_next : (l : Line) (n : ℕ) → held_below l (n + 1) ≡ held_at l n + held_below l n
unfolding held_below
held_next l n = let more : n + 1 ≡ suc n = omega arith in ap (held_below l) more

pub held_none : (l : Line) → 0 ≡ held_below l 0
unfolding held_below
held_none l = refl

-- ## One command

held_case : (a b : Bool) (x y : ℕ) → (a ≡ true → b ≡ true) → x ≡ y → (if a then x else 0) ≤ (if b then y else 0)
held_case false b x y up e = omega arith
held_case true true x y up e = omega (arith, e)
held_case true false x y up e = absurd (let f = up refl in cc)

held_most : (b : Bool) (x : ℕ) → (if b then x else 0) ≤ x
held_most true x = omega arith
held_most false x = omega arith

held_input : (x : Option Moment) (i : Input) → (i ≡ Goes → starts (turn_at x) ≡ false) → held_by (option_map (λ m. after m i) x) ≤ held_by x
held_input None i may = omega arith
held_input (Some m) i may = held_case _ _ _ _ (runs_before m.command m.done m.bytes m.sent m.stage i may)
    (ap (λ c. held_of c.count) (same_command m.command m.done m.bytes m.sent m.stage i))

-- what is read after a write, whatever the length is
read_set : (places : List (Option Moment)) (p : ℕ) (x : Option Moment)
    → (get_or (set places p x) p None ≡ x) ⊎ (get_or (set places p x) p None ≡ None)
read_set places p x = elim (cases_lt p (length places)) [
  | inl low ↦ inl (get_or-set_same places p x None low)
  | inr high ↦ inr (get_or-eq_default (set places p x) None (let l = length-set places p x in omega (arith, l, high)))
]

read_held : (places : List (Option Moment)) (p : ℕ) (x : Option Moment) (most : ℕ) → held_by x ≤ most → held_by (get_or (set places p x) p None) ≤ most
read_held places p x most less = elim (read_set places p x) [
  | inl is ↦ rw is less
  | inr none ↦ rw none (omega arith)
]

-- ## One place changes

abbrev pub changed : Line → ℕ → Option Moment → Option ℕ → List ℕ → ℕ → List ℕ → Line
changed l p x wire out next ranks = record {
  queue = record { table = record { places = set l.queue.table.places p x; wire = wire }; out = out; next = next };
  ranks = ranks;
  orphans = l.orphans;
}

change_kept : (l : Line) (limit : ℕ) (s t : Sets) (p : ℕ) (x : Option Moment) (wire : Option ℕ) (out : List ℕ) (next : ℕ) (ranks : List ℕ)
    → IsKept l limit s → IsNoted s t p (turn_at (get_or (set l.queue.table.places p x) p None)) → held_by x ≤ held_by (command_at l p)
    → IsKept (changed l p x wire out next ranks) limit t
change_kept l limit s t p x wire out next ranks kept noted less =
    let same : SameOthers l (changed l p x wire out next ranks) p = λ q low apart. get_or-set_other l.queue.table.places p q x None apart in
    let all = held_less l (changed l p x wire out next ranks) 33 (λ q low. elim (cases_eq q p) [
      | inl is ↦ rw is (let here = read_held l.queue.table.places p x _ less in omega (arith, here))
      | inr apart ↦ (let e = ap held_by (same q low apart) in omega (arith, e))
    ]) in
    let was = kept.held in
    record { sets = noted_sets l (changed l p x wire out next ranks) s t p kept.sets noted same; held = omega (arith, all, was) }

start_kept : (l : Line) (limit : ℕ) (s t : Sets) (p : ℕ) (x : Option Moment) (more : ℕ) (wire : Option ℕ) (out : List ℕ) (next : ℕ)
    → IsKept l limit s → p < 33 → IsNoted s t p (turn_at (get_or (set l.queue.table.places p x) p None)) → held_by x ≤ more → held l + more ≤ limit
    → IsKept (changed l p x wire out next l.ranks) limit t
start_kept l limit s t p x more wire out next kept low noted less fits =
    let same : SameOthers l (changed l p x wire out next l.ranks) p = λ q low apart. get_or-set_other l.queue.table.places p q x None apart in
    let here = read_held l.queue.table.places p x more less in
    let all = held_more l (changed l p x wire out next l.ranks) p 33 more low
    (λ q low apart. (let e = ap held_by (same q low apart) in omega (arith, e))) (omega (arith, here)) in
    record { sets = noted_sets l (changed l p x wire out next l.ranks) s t p kept.sets noted same; held = omega (arith, all, fits) }

-- ## Each call

abbrev NotedAt : Line → Sets → Sets → ℕ → Turn → Type 0
NotedAt new s t p turn = (turn ≡ turn_at (command_at new p)) × IsNoted s t p turn

noted_at : (new is : Line) (s t : Sets) (p : ℕ) (turn : Turn) → new ≡ is → turn ≡ turn_at (command_at new p) → IsNoted s t p turn
    → IsNoted s t p (turn_at (command_at is p))
noted_at new is s t p turn e f noted = subst (λ n. IsNoted s t p n) (f ∙ ap (λ l. turn_at (command_at l p)) e) noted

fis_starts : (t : Turn) → is_fis t ≡ true → starts t ≡ false
fis_starts turn.Start e = absurd (cc)
fis_starts t e = refl

request_starts : (t : Turn) → is_request t ≡ true → starts t ≡ false
request_starts turn.Start e = absurd (cc)
request_starts t e = refl

gone_starts : (x : Option Moment) → requests.sends_at x ≡ true → starts (turn_at x) ≡ false
gone_starts None e = refl
gone_starts (Some m) e = fis_starts (turn_of m.stage) e

asks_starts : (x : Option Moment) → requests.asks_at x ≡ true → starts (turn_at x) ≡ false
asks_starts None e = refl
asks_starts (Some m) e = request_starts (turn_of m.stage) e

pub sent_kept : (l new : Line) (limit : ℕ) (s t : Sets) (p : ℕ) (turn : Turn) → IsKept l limit s → may_send l p ≡ true
    → new ≡ line_gone l p → turn ≡ turn_at (command_at new p) → IsNoted s t p turn → IsKept new limit t
sent_kept l new limit s t p turn kept may e f noted = rw e
    (change_kept l limit s t p (option_map (λ m. after m Goes) (command_at l p)) _ l.queue.out l.queue.next l.ranks kept
    (noted_at new (line_gone l p) s t p turn e f noted) (held_input (command_at l p) Goes (λ g. gone_starts _ (of_and _ _ may).0)))

pub asked_kept : (l new : Line) (limit : ℕ) (s t : Sets) (p : ℕ) (turn : Turn) → IsKept l limit s → requests.asks_at (command_at l p) ≡ true
    → new ≡ with_queue l (with_asked l.queue p) → turn ≡ turn_at (command_at new p) → IsNoted s t p turn → IsKept new limit t
asked_kept l new limit s t p turn kept may e f noted = rw e
    (change_kept l limit s t p (option_map (λ m. after m Goes) (command_at l p)) _ _ _ l.ranks kept
    (noted_at new (with_queue l (with_asked l.queue p)) s t p turn e f noted) (held_input (command_at l p) Goes (λ g. asks_starts _ may)))

pub given_kept : (l new : Line) (limit : ℕ) (s t : Sets) (p : ℕ) (part : List ℕ) (turn : Turn) → IsKept l limit s
    → new ≡ with_queue l (with_table l.queue (with_input l.queue.table p (Comes part))) → turn ≡ turn_at (command_at new p) → IsNoted s t p turn
    → IsKept new limit t
given_kept l new limit s t p part turn kept e f noted = rw e
    (change_kept l limit s t p (option_map (λ m. after m (Comes part)) (command_at l p)) _ l.queue.out l.queue.next l.ranks kept
    (noted_at new (with_queue l (with_table l.queue (with_input l.queue.table p (Comes part)))) s t p turn e f noted)
    (held_input (command_at l p) (Comes part) (λ g. absurd (cc))))

-- an answer
abbrev pub is_given : Input → Bool
is_given Goes = false
is_given _ = true

answer_case : (l : Line) (limit : ℕ) (s t : Sets) (p : ℕ) (i : Input) (out : List ℕ) (b : Bool) → IsKept l limit s → is_given i ≡ true
    → IsNoted s t p (turn_at (at (if b then record { table = with_input l.queue.table p i; out = out; next = l.queue.next } else l.queue).table p))
    → IsKept (with_queue l (if b then record { table = with_input l.queue.table p i; out = out; next = l.queue.next } else l.queue)) limit t
answer_case l limit s t p i out true kept given noted = change_kept l limit s t p (option_map (λ m. after m i) (command_at l p)) _ out l.queue.next l.ranks kept noted
    (held_input (command_at l p) i (λ g. absurd (let h = ap is_given g in cc)))
answer_case l limit s t p i out false kept given noted = record { sets = noted_sets l l s t p kept.sets noted (λ q low apart. refl); held = kept.held }

forget_kept : (l : Line) (limit : ℕ) (t : Sets) (orphans : List (Option Orphan)) → IsKept l limit t
    → ((q : ℕ) → q < 33 → held_for (get_or orphans q None) ≤ held_for (orphan l q)) → IsKept (record l { orphans = orphans }) limit t
forget_kept l limit t orphans kept less =
    let all = held_less l (record l { orphans = orphans }) 33 (λ q low. (let here = less q low in omega (arith, here))) in
    let was = kept.held in
    record {
      sets = record { waiting = kept.sets.waiting; asking = kept.sets.asking; sending = kept.sets.sending; ending = kept.sets.ending };
      held = omega (arith, all, was);
    }

none_left : (orphans : List (Option Orphan)) (p : ℕ) → get_or (set orphans p None) p None ≡ None
none_left orphans p = elim (cases_lt p (length orphans)) [
  | inl low ↦ get_or-set_same orphans p None None low
  | inr high ↦ get_or-eq_default (set orphans p None) None (let l = length-set orphans p None in omega (arith, l, high))
]

answered_less : (l : Line) (p : ℕ) (b : Bool) (q : ℕ)
    → held_for (get_or (if b then set l.orphans p None else l.orphans) q None) ≤ held_for (orphan l q)
answered_less l p false q = omega arith
answered_less l p true q = elim (cases_eq q p) [
  | inl same ↦ rw same (rw (none_left l.orphans p) (omega arith))
  | inr apart ↦ rw (get_or-set_other l.orphans p q None None apart) (omega arith)
]

pub answered_kept : (l new : Line) (limit : ℕ) (s t : Sets) (p number : ℕ) (i : Input) (turn : Turn) → IsKept l limit s → is_given i ≡ true
    → new ≡ line_answered l p number i → turn ≡ turn_at (command_at new p) → IsNoted s t p turn → IsKept new limit t
answered_kept l new limit s t p number i turn kept given e f noted = rw e
    (forget_kept (with_queue l (with_answer l.queue p number i)) limit t (orphans_answered l.orphans p number)
    (answer_case l limit s t p i _ _ kept given (noted_at new (line_answered l p number i) s t p turn e f noted))
    (λ q low. answered_less l p _ q))

-- a number is drawn
drawn_kept : (l : Line) (limit : ℕ) (s : Sets) → IsKept l limit s → IsKept (with_queue l (with_drawn l.queue)) limit s
drawn_kept l limit s kept =
    let all = held_less l (with_queue l (with_drawn l.queue)) 33 (λ q low. omega arith) in
    let was = kept.held in
    record {
      sets = record { waiting = kept.sets.waiting; asking = kept.sets.asking; sending = kept.sets.sending; ending = kept.sets.ending };
      held = omega (arith, all, was);
    }

pub draws_kept : (l new : Line) (limit : ℕ) (s : Sets) (result : Option ℕ) → IsKept l limit s
    → IfSome result (λ number. new ≡ with_queue l (with_drawn l.queue)) → IfNone result ((2 ^ 63 ≤ l.queue.next) × (new ≡ l)) → IsKept new limit s
draws_kept l new limit s None kept some none = rw none.1 kept
draws_kept l new limit s (Some number) kept some none = rw some (drawn_kept l limit s kept)

-- a command is taken
take_case : (l : Line) (limit : ℕ) (s t : Sets) (c : Command) (b : Bool) → IsKept l limit s
    → IsNoted s t c.place (turn_at (command_at (if b then l else record l {
      queue = with_table l.queue (if b then l.queue.table else with_command l.queue.table c.place (Some (opening c)));
      ranks = moved_back l.ranks c.place;
    }) c.place))
    → IsKept (if b then l else record l {
      queue = with_table l.queue (if b then l.queue.table else with_command l.queue.table c.place (Some (opening c)));
      ranks = moved_back l.ranks c.place;
    }) limit t
take_case l limit s t c true kept noted = record { sets = noted_sets l l s t c.place kept.sets noted (λ q low apart. refl); held = kept.held }
take_case l limit s t c false kept noted =
    change_kept l limit s t c.place (Some (opening c)) _ l.queue.out l.queue.next (moved_back l.ranks c.place) kept noted (omega arith)

pub taken_kept : (l new : Line) (limit : ℕ) (s t : Sets) (c : Command) (turn : Turn) → IsKept l limit s
    → new ≡ line_taken l c → turn ≡ turn_at (command_at new c.place) → IsNoted s t c.place turn → IsKept new limit t
taken_kept l new limit s t c turn kept e f noted = rw e
    (take_case l limit s t c _ kept (noted_at new (line_taken l c) s t c.place turn e f noted))

-- a start
start_case : (l : Line) (limit : ℕ) (fault : Option ℕ) (s t : Sets) (p : ℕ) (x : Option Moment) → command_at l p ≡ x → IsKept l limit s → p < 33
    → fits_at (record { line = l; limit = limit; fault = fault }) x ≡ true
    → IsNoted s t p (turn_at (get_or (set l.queue.table.places p (option_map (λ m. after m Goes) x)) p None))
    → (wire : Option ℕ) → IsKept (changed l p (option_map (λ m. after m Goes) x) wire l.queue.out l.queue.next l.ranks) limit t
start_case l limit fault s t p None here kept low fits noted wire = absurd (cc)
start_case l limit fault s t p (Some m) here kept low fits noted wire =
    start_kept l limit s t p (Some (after m Goes)) (held_of m.command.count) wire l.queue.out l.queue.next kept low noted
    (let most = held_most (runs (after m Goes).stage) (held_of (after m Goes).command.count) in
    let same = ap (λ c. held_of c.count) (same_command m.command m.done m.bytes m.sent m.stage Goes) in omega (arith, most, same))
    (leb-true _ _ fits)

pub started_kept : (l new : Line) (limit : ℕ) (fault : Option ℕ) (s t : Sets) (p : ℕ) (turn : Turn) → IsKept l limit s → p < 33
    → fits_at (record { line = l; limit = limit; fault = fault }) (command_at l p) ≡ true
    → new ≡ line_gone l p → turn ≡ turn_at (command_at new p) → IsNoted s t p turn → IsKept new limit t
started_kept l new limit fault s t p turn kept low fits e f noted = rw e
    (start_case l limit fault s t p (command_at l p) refl kept low fits (noted_at new (line_gone l p) s t p turn e f noted) _)

-- nothing is under way
none_sets : (l : Line) → ((q : ℕ) → q < 33 → command_at l q ≡ None) → AreSets l no_sets
none_sets l none = record {
  waiting = empty _ (λ q low. ap (λ x. starts (turn_at x)) (none q low));
  asking = empty (asks_at l) (λ q low. ap (λ x. requests.asks_at x) (none q low));
  sending = empty _ (λ q low. ap (λ x. sends_alone q (turn_at x)) (none q low));
  ending = empty_tags _ (λ q low. ap (λ x. is_end (turn_at x)) (none q (omega (arith, low))));
}

left_case : (m : Moment) (n : ℕ) (was : Option Orphan) (b : Bool) → is_storing m.stage ≡ b
    → held_for (if b then Some (orphan_of m.command n) else was) ≤ held_by (Some m) + held_for was
left_case m n was false e = omega arith
left_case m n was true e = let run = storing_runs m.stage e in
    let is : held_by (Some m) ≡ held_of m.command.count = ap (λ b. if b then held_of m.command.count else 0) run in omega (arith, is)

left_less : (x : Option Moment) (n : Option ℕ) (was : Option Orphan) → held_for (left_of x n was) ≤ held_by x + held_for was
left_less None n was = omega arith
left_less (Some m) None was = omega arith
left_less (Some m) (Some n) was = left_case m n was _ refl

reset_at : (l : Line) (q : ℕ) → q < 33 → held_at (line_reset l) q ≤ held_at l q
reset_at l q low =
    let none = ap held_by (each_is (Option Moment) 33 q None) in
    let left = ap held_for (left_read l 33 q low) in
    let less = left_less (command_at l q) (number_at l.queue.out q) (orphan l q) in omega (arith, none, left, less)

pub reset_kept : (l new : Line) (limit : ℕ) (s : Sets) → IsKept l limit s → new ≡ line_reset l → IsKept new limit no_sets
reset_kept l new limit s kept e =
    let all = held_less l (line_reset l) 33 (reset_at l) in
    let was = kept.held in
    rw e (record {
      sets = none_sets (line_reset l) (λ q low. each_is (Option Moment) 33 q None);
      held = omega (arith, all, was);
    })

pub new_kept : (limit : ℕ) → IsKept none_in_line limit no_sets
new_kept limit =
    let zero = held_zero none_in_line 33 (λ q low. (let none = ap held_by (each_is (Option Moment) 33 q None) in
    let left = ap held_for (each_is (Option Orphan) 33 q None) in omega (arith, none, left))) in
    record { sets = none_sets none_in_line (λ q low. each_is (Option Moment) 33 q None); held = omega (arith, zero) }

-- ## Ends that go together

ends_next : (l : Line) (n : ℕ) → ends_sent l (n + 1) ≡ end_sent (ends_sent l n) n
unfolding ends_sent
ends_next l n = let more : n + 1 ≡ suc n = omega arith in ap (ends_sent l) more

pub ends_none : (l : Line) → l ≡ ends_sent l 0
unfolding ends_sent
ends_none l = refl

pub ends_more : (s now : Schedule) (n : ℕ) → s ≡ with_line now (ends_sent now.line n)
    → with_line s (end_sent s.line n) ≡ with_line now (ends_sent now.line (n + 1))
ends_more s now n e = rw e (ap (with_line now) (sym (ends_next now.line n)))
