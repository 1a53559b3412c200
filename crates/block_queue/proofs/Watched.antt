-- The set of the places at which something stands, call by call, and walks over it.
use Rattle.std.proofs.Common.{◌≡◌, ◌≢◌, ℕ, zero, suc, ◌+◌, ◌-◌, ◌*◌, ◌%◌, ◌^◌, ◌<◌, ◌≤◌, true, false, List, ◌++◌, length, get_or, set, Some, None}
use Rattle.std.proofs.{Common.{refl, sym, ap, ◌∙◌, arith, inl, inr, w64, bit_or}, lemmas.Bool.{cases_eq, cases_lt, eq-eqb, ne_eqb}}
use Rattle.std.proofs.lemmas.{List.{get_or-set_same, get_or-set_other, get_or-replicate}, Nat.Bits.{bit_at_set_same, bit_at_set_other, bit_at-zero}}
use Rattle.std.specs.Prelude.{Option, Bool, Result, Ok, Err, IfSome, IfNone, OnOk, OnErr, is_some, not, ◌||◌, ◌&&◌, ◌==◌, nat_lt, if◌then◌else◌}
use Rattle.std.specs.{Option.option_map, declared.alloc.AllocError.AllocError}
use Rattle.block_command.specs.declared.command.{Command.Command, Stage.{Stage, TheVariants.{Waiting, Load, SetUpWrite, Activate, Receiving, Store}}}
use Rattle.block_command.specs.{declared.command.Stage.TheVariants.{Flush, Fail}, Moments.{Moment, chunk, is_ended, is_queued, opening, part_len}}
use Rattle.block_command.specs.{Moments.{started, turn_of}, Laws.{Input, Comes, Goes, after}}
use Rattle.block_command.proofs.Door.{at as moment}
use Rattle.block_disk.specs.{Table.{at, is_under_way, with_command, with_input, with_taken}, Requests.{Queue, asks_at, is_request, number_of}}
use Rattle.block_disk.specs.Requests.{sends_at, with_answer, with_asked, with_drawn, with_table}
use Rattle.block_queue.specs.{declared.queue.Orphan.Orphan, Line.{Line, PassesNowhere, any_below, awaits, bars, command_at, first_below, has_bit}}
use Rattle.block_queue.specs.Line.{is_in_way, is_of, may_start_at, moved_back, none_in_line, orphan, orphans_answered, starts, waits_for, with_queue}
use Rattle.block_queue.specs.Places.{IsFirstIn, IsKept, IsNoted, IsWatched, IsWatchedIn, IsWithout, is_watched_in}
use Rattle.block_queue.proofs.Kept.{any_none, answers_line, asks_line, came_line, draws_line, first_none, first_more, forgets_line, is_given, of_and}
use Rattle.block_queue.proofs.Kept.{of_or, sent_line, starts_line, take_line, new_line}

-- ## One place of a set

abbrev bit : ℕ → Bool
bit n = n == 1

pub is_with : (s p : ℕ) → p < 33 → IsNoted s (bit_or s (1 * 2 ^ p % 2 ^ 64)) p true
is_with s p low = record {
  here = eq-eqb _ _ (bit_at_set_same w64 s p (omega (arith, low)));
  others = λ q low' apart. ap bit (bit_at_set_other w64 s p (omega (arith, low)) q apart);
}

pub is_less : (s new p : ℕ) → IsWithout s new p → IsNoted s new p false
is_less s new p without = record { here = without.here; others = without.others }

-- ## A walk: the places that were taken out of the rest do not pass

pub record IsChecked (test : ℕ → Bool) (rest n : ℕ) : Type 0 where
  pub gone : (q : ℕ) → q < n → q < 33 → has_bit rest q ≡ false
  pub fails : (q : ℕ) → q < 33 → has_bit rest q ≡ false → test q ≡ false

pub checked_none : (test : ℕ → Bool) (set : ℕ) → ((q : ℕ) → q < 33 → has_bit set q ≡ false → test q ≡ false) → IsChecked test set 0
checked_none test set none = record { gone = λ q low _. absurd (omega (arith, low)); fails = none }

pub checked_on : (test : ℕ → Bool) (rest less n p : ℕ) → IsChecked test rest n → IsFirstIn rest p → test p ≡ false → IsWithout rest less p
    → IsChecked test less (n + 1)
checked_on test rest less n p checked first fails without = record {
  gone = λ q low below. elim (cases_eq q p) [
    | inl same ↦ rw same without.here
    | inr apart ↦ without.others q below apart ∙ elim (cases_lt q p) [
      | inl lower ↦ first.before q lower
      | inr higher ↦ absurd (let e = checked.gone p (omega (arith, low, apart, higher)) first.below in let f = first.has in cc)
    ]
  ];
  fails = λ q low e. elim (cases_eq q p) [
    | inl same ↦ ap test same ∙ fails
    | inr apart ↦ checked.fails q low (sym (without.others q low apart) ∙ e)
  ];
}

pub checked_all : (test : ℕ → Bool) (rest n : ℕ) → IsChecked test rest n → PassesNowhere (has_bit rest) → any_below test 33 ≡ false
checked_all test rest n checked none = any_none test 33 (λ q low. checked.fails q low (none q low))

pub checked_end : (test : ℕ → Bool) (rest n : ℕ) → 33 ≤ n → IsChecked test rest n → any_below test 33 ≡ false
checked_end test rest n all checked = any_none test 33 (λ q low. checked.fails q low (checked.gone q (omega (arith, low, all)) low))

pub first_nowhere : (test : ℕ → Bool) (n : ℕ) → ((q : ℕ) → q < n → test q ≡ false) → first_below test n ≡ None
first_nowhere test zero none = sym (first_none test)
first_nowhere test (suc n) none = (let more : suc n ≡ n + 1 = omega arith in ap (first_below test) more)
    ∙ first_more test n (first_nowhere test n (λ q low. none q (omega (arith, low)))) (none n (omega arith))

pub before_first : (test : ℕ → Bool) (rest n p : ℕ) → IsChecked test rest n → IsFirstIn rest p → first_below test p ≡ None
before_first test rest n p checked first = first_nowhere test p
    (λ q low. checked.fails q (let below = first.below in omega (arith, low, below)) (first.before q low))

pub checked_nowhere : (test : ℕ → Bool) (rest n : ℕ) → IsChecked test rest n → PassesNowhere (has_bit rest) → first_below test 33 ≡ None
checked_nowhere test rest n checked none = first_nowhere test 33 (λ q low. checked.fails q low (none q low))

pub checked_through : (test : ℕ → Bool) (rest n : ℕ) → 33 ≤ n → IsChecked test rest n → first_below test 33 ≡ None
checked_through test rest n all checked = first_nowhere test 33 (λ q low. checked.fails q low (checked.gone q (omega (arith, low, all)) low))

-- ## Where nothing stands

abbrev pub stands : Option Moment → Option Orphan → ℕ → Bool
stands x o number = (is_under_way x || is_some o) || is_some (number_of number)

abbrev pub is_watched : Line → ℕ → Bool
is_watched l p = is_watched_in l.queue l.orphans p

pub record IsBare (l : Line) (q : ℕ) : Type 0 where
  pub free : is_under_way (command_at l q) ≡ false
  pub spared : is_some (orphan l q) ≡ false
  pub silent : is_some (number_of (get_or l.queue.out q 0)) ≡ false

pub bare : (l : Line) (set q : ℕ) → IsWatched l set → q < 33 → has_bit set q ≡ false → IsBare l q
bare l set q watched low e =
    let all = of_or (is_under_way (command_at l q) || is_some (orphan l q)) (is_some (number_of (get_or l.queue.out q 0))) (sym (watched q low) ∙ e) in
    let two = of_or (is_under_way (command_at l q)) (is_some (orphan l q)) all.0 in
    record { free = two.0; spared = two.1; silent = all.1 }

not_in_way : (c : Command) (x : Option Moment) → is_under_way x ≡ false → is_in_way c x ≡ false
not_in_way c None e = refl
not_in_way c (Some m) e = rw e refl

not_barred : (c : Command) (o : Option Orphan) → is_some o ≡ false → bars c o ≡ false
not_barred c None e = refl
not_barred c (Some o) e = absurd (cc)

not_of : (number : ℕ) (o : Option Orphan) → is_some o ≡ false → is_of number o ≡ false
not_of number None e = refl
not_of number (Some o) e = absurd (cc)

or_false : (a b : Bool) → a ≡ false → b ≡ false → (a || b) ≡ false
or_false false b e f = f
or_false true b e f = absurd (cc)

and_second : (a b : Bool) → b ≡ false → (a && b) ≡ false
and_second true b e = e
and_second false b e = refl

pub waits_not : (l : Line) (set : ℕ) (c : Command) (p q : ℕ) → IsWatched l set → q < 33 → has_bit set q ≡ false → waits_for l c p q ≡ false
waits_not l set c p q watched low e =
    let b = bare l set q watched low e in
    or_false _ _ (and_second _ _ (not_in_way c (command_at l q) b.free)) (not_barred c (orphan l q) b.spared)

out_case : (k number : ℕ) (b d : Bool) → nat_lt 0 k ≡ b → nat_lt 0 number ≡ d → is_some (if b then Some k else None) ≡ false → (d && k == number) ≡ false
out_case k number true d e f none = absurd (cc)
out_case k number false false e f none = refl
out_case k number false true e f none = ne_eqb k number (λ same. absurd (let g = ap (nat_lt 0) same in cc))

pub awaits_not : (l : Line) (set number q : ℕ) → IsWatched l set → q < 33 → has_bit set q ≡ false → awaits l number q ≡ false
awaits_not l set number q watched low e =
    let b = bare l set q watched low e in
    or_false _ _ (out_case (get_or l.queue.out q 0) number _ _ refl refl b.silent) (not_of number (orphan l q) b.spared)

-- ## One place changes

stands_as : (x x' : Option Moment) (o o' : Option Orphan) (n n' : ℕ) → x ≡ x' → o ≡ o' → n ≡ n' → stands x o n ≡ stands x' o' n'
stands_as x x' o o' n n' e f g = rw (e, f, g) refl

stands_way : (x y : Option Moment) (o : Option Orphan) (n : ℕ) → is_under_way x ≡ is_under_way y → stands x o n ≡ stands y o n
stands_way x y o n e = ap (λ b. (b || is_some o) || is_some (number_of n)) e

stands_up : (x : Option Moment) (o : Option Orphan) (n : ℕ) → is_under_way x ≡ true → stands x o n ≡ true
stands_up x o n e = ap (λ b. (b || is_some o) || is_some (number_of n)) e

abbrev pub SameElsewhere : Line → Line → ℕ → Type 0
SameElsewhere old new p = (q : ℕ) → q ≢ p → is_watched new q ≡ is_watched old q

noted_watched : (l new : Line) (busy marked p : ℕ) (is : Bool) → IsWatched l busy → IsNoted busy marked p is → is ≡ is_watched new p
    → SameElsewhere l new p → IsWatched new marked
noted_watched l new busy marked p is watched noted here elsewhere = λ q low. elim (cases_eq q p) [
  | inl same ↦ ap (has_bit marked) same ∙ noted.here ∙ here ∙ sym (ap (is_watched new) same)
  | inr apart ↦ noted.others q low apart ∙ watched q low ∙ sym (elsewhere q apart)
]

same_watched : (l new : Line) (busy p : ℕ) → IsWatched l busy → is_watched new p ≡ is_watched l p → SameElsewhere l new p → IsWatched new busy
same_watched l new busy p watched here elsewhere = λ q low. elim (cases_eq q p) [
  | inl same ↦ watched q low ∙ ap (is_watched l) same ∙ sym here ∙ sym (ap (is_watched new) same)
  | inr apart ↦ watched q low ∙ sym (elsewhere q apart)
]

-- ## An input: what stands is under way before and after, or neither

input_elsewhere : (l : Line) (p : ℕ) (i : Input) (out : List ℕ) (next : ℕ) → ((q : ℕ) → q ≢ p → get_or out q 0 ≡ get_or l.queue.out q 0)
    → SameElsewhere l (with_queue l (record { table = with_input l.queue.table p i; out = out; next = next })) p
input_elsewhere l p i out next others = λ q apart. stands_as _ _ (orphan l q) (orphan l q) _ _
    (get_or-set_other l.queue.table.places p q (option_map (λ m. after m i) (command_at l p)) None apart) refl (others q apart)

abbrev WasUp : Option Moment → Type 0
WasUp x = (is_under_way x ≡ true) × (is_under_way (option_map (λ m. after m Goes) x) ≡ true)

ended_if : (b : Bool) (x y : Stage) → is_ended x ≡ false → is_ended y ≡ false → is_ended (if b then x else y) ≡ false
ended_if true x y e f = e
ended_if false x y e f = f

started_up : (c : Command) → is_ended (started c) ≡ false
started_up c = ended_if c.write _ _ (ended_if (is_queued c.protocol) SetUpWrite Activate refl refl) refl

start_stage : (c : Command) (done : ℕ) (bytes : List ℕ) (sent : ℕ) (stage : Stage) → starts (turn_of stage) ≡ true
    → WasUp (Some (moment c done bytes sent stage))
start_stage c done bytes sent Waiting e = (refl, ap not (started_up c))
start_stage c done bytes sent stage e = absurd (cc)

start_up : (l : Line) (p : ℕ) (x : Option Moment) → may_start_at l p x ≡ true → WasUp x
start_up l p None e = absurd (cc)
start_up l p (Some m) e = start_stage m.command m.done m.bytes m.sent m.stage (of_and _ _ e).0

ask_stage : (c : Command) (done : ℕ) (bytes : List ℕ) (sent : ℕ) (stage : Stage) → is_request (turn_of stage) ≡ true
    → WasUp (Some (moment c done bytes sent stage))
ask_stage c done bytes sent Load e = (refl, refl)
ask_stage c done bytes sent Store e = (refl, refl)
ask_stage c done bytes sent Flush e = (refl, refl)
ask_stage c done bytes sent stage e = absurd (cc)

ask_up : (x : Option Moment) → asks_at x ≡ true → WasUp x
ask_up None e = absurd (cc)
ask_up (Some m) e = ask_stage m.command m.done m.bytes m.sent m.stage e

goes_watched : (l : Line) (busy p : ℕ) (out : List ℕ) (next : ℕ) → IsKept l busy → p < 33 → WasUp (command_at l p)
    → ((q : ℕ) → q ≢ p → get_or out q 0 ≡ get_or l.queue.out q 0)
    → IsWatched (with_queue l (record { table = with_input l.queue.table p Goes; out = out; next = next })) busy
goes_watched l busy p out next kept low up others =
    same_watched l (with_queue l (record { table = with_input l.queue.table p Goes; out = out; next = next })) busy p kept.watched
    (stands_up _ (orphan l p) (get_or out p 0) (ap is_under_way
    (get_or-set_same l.queue.table.places p (option_map (λ m. after m Goes) (command_at l p)) None (let long = kept.line.places in omega (arith, low, long))) ∙ up.1)
    ∙ sym (stands_up (command_at l p) (orphan l p) (get_or l.queue.out p 0) up.0))
    (input_elsewhere l p Goes out next others)

pub start_kept : (l : Line) (busy p : ℕ) (result : Result (Unit {0}) AllocError) (q : Queue) → IsKept l busy → p < 33
    → may_start_at l p (command_at l p) ≡ true → OnOk result (q ≡ with_table l.queue (with_input l.queue.table p Goes)) → OnErr result (q ≡ l.queue)
    → IsKept (with_queue l q) busy
start_kept l busy p (Ok done) q kept low may ok err = record {
  line = starts_line l p (Ok done) q kept.line low may ok err;
  watched = rw ok (goes_watched l busy p l.queue.out l.queue.next kept low (start_up l p (command_at l p) may) (λ q apart. refl));
}
start_kept l busy p (Err e) q kept low may ok err = rw err kept

pub ask_kept : (l : Line) (busy p : ℕ) (result : Option ℕ) (q : Queue) → IsKept l busy → p < 33 → asks_at (command_at l p) ≡ true
    → IfSome result (λ number. q ≡ with_asked l.queue p) → IfNone result ((2 ^ 63 ≤ l.queue.next) × (q ≡ l.queue)) → IsKept (with_queue l q) busy
ask_kept l busy p None q kept low asks some none = rw none.1 kept
ask_kept l busy p (Some number) q kept low asks some none = record {
  line = asks_line l p (Some number) q kept.line low asks some none;
  watched = rw some (goes_watched l busy p (set l.queue.out p l.queue.next) (l.queue.next + 1) kept low (ask_up (command_at l p) asks)
      (λ q apart. get_or-set_other l.queue.out p q l.queue.next 0 apart));
}

-- Data end nothing
came_case : (m : Moment) (bytes : List ℕ) (b d : Bool)
    → is_under_way (Some (if b then record m { stage = Fail } else record m { bytes = bytes; stage = if d then Activate else Store })) ≡ true
came_case m bytes true d = refl
came_case m bytes false true = refl
came_case m bytes false false = refl

came_stage : (c : Command) (done : ℕ) (bytes : List ℕ) (sent : ℕ) (stage : Stage) (part : List ℕ)
    → is_under_way (Some (after (moment c done bytes sent stage) (Comes part))) ≡ is_under_way (Some (moment c done bytes sent stage))
came_stage c done bytes sent Receiving part =
    came_case (moment c done bytes sent Receiving) (bytes ++ part) (nat_lt (chunk c (part_len c done - length bytes)) (length part))
    (nat_lt (length (bytes ++ part)) (part_len c done))
came_stage c done bytes sent stage part = refl

came_way : (x : Option Moment) (part : List ℕ) → is_under_way (option_map (λ m. after m (Comes part)) x) ≡ is_under_way x
came_way None part = refl
came_way (Some m) part = came_stage m.command m.done m.bytes m.sent m.stage part

came_watched : (l : Line) (busy p : ℕ) (part : List ℕ) → IsKept l busy → p < 33
    → IsWatched (with_queue l (with_table l.queue (with_input l.queue.table p (Comes part)))) busy
came_watched l busy p part kept low =
    same_watched l (with_queue l (with_table l.queue (with_input l.queue.table p (Comes part)))) busy p kept.watched
    (stands_way _ (command_at l p) (orphan l p) (get_or l.queue.out p 0) (ap is_under_way
    (get_or-set_same l.queue.table.places p (option_map (λ m. after m (Comes part)) (command_at l p)) None (let long = kept.line.places in omega (arith, low, long)))
    ∙ came_way (command_at l p) part))
    (input_elsewhere l p (Comes part) l.queue.out l.queue.next (λ q apart. refl))

pub came_kept : (l : Line) (busy p : ℕ) (part : List ℕ) (result : Result (Unit {0}) AllocError) (q : Queue) → IsKept l busy → p < 33
    → OnOk result (q ≡ with_table l.queue (with_input l.queue.table p (Comes part))) → OnErr result (q ≡ l.queue) → IsKept (with_queue l q) busy
came_kept l busy p part (Ok done) q kept low ok err = record {
  line = came_line l p part (Ok done) q kept.line low ok err;
  watched = rw ok (came_watched l busy p part kept low);
}
came_kept l busy p part (Err e) q kept low ok err = rw err kept

-- ## A FIS may be an end

pub sent_kept : (l : Line) (busy marked p : ℕ) (q : Queue) → IsKept l busy → p < 33 → sends_at (command_at l p) ≡ true
    → q ≡ with_table l.queue (with_input l.queue.table p Goes) → IsNoted busy marked p (is_watched_in q l.orphans p) → IsKept (with_queue l q) marked
sent_kept l busy marked p q kept low sends e noted = record {
  line = rw e (sent_line l p l.queue.out l.queue.next kept.line low sends);
  watched = noted_watched l (with_queue l q) busy marked p _ kept.watched noted refl
      (rw e (input_elsewhere l p Goes l.queue.out l.queue.next (λ q apart. refl)));
}

-- ## An answer

answer_table : (q : Queue) (p k : ℕ) (i : Input) (b : Bool) → k ≢ p
    → at (if b then record { table = with_input q.table p i; out = set q.out p 0; next = q.next } else q).table k ≡ at q.table k
answer_table q p k i true apart = get_or-set_other q.table.places p k (option_map (λ m. after m i) (at q.table p)) None apart
answer_table q p k i false apart = refl

answer_out : (q : Queue) (p k : ℕ) (i : Input) (b : Bool) → k ≢ p
    → get_or (if b then record { table = with_input q.table p i; out = set q.out p 0; next = q.next } else q).out k 0 ≡ get_or q.out k 0
answer_out q p k i true apart = get_or-set_other q.out p k 0 0 apart
answer_out q p k i false apart = refl

forget_case : (orphans : List (Option Orphan)) (p k : ℕ) (b : Bool) → k ≢ p
    → get_or (if b then set orphans p None else orphans) k None ≡ get_or orphans k None
forget_case orphans p k true apart = get_or-set_other orphans p k None None apart
forget_case orphans p k false apart = refl

answer_elsewhere : (l : Line) (p number : ℕ) (i : Input)
    → SameElsewhere l (record l { queue = with_answer l.queue p number i; orphans = orphans_answered l.orphans p number }) p
answer_elsewhere l p number i = λ k apart. stands_as _ (command_at l k) _ (orphan l k) _ (get_or l.queue.out k 0)
    (answer_table l.queue p k i _ apart) (forget_case l.orphans p k _ apart) (answer_out l.queue p k i _ apart)

pub answer_kept : (l : Line) (busy marked p number : ℕ) (i : Input) (q : Queue) (orphans : List (Option Orphan)) → IsKept l busy → p < 33
    → is_given i ≡ true → q ≡ with_answer l.queue p number i → orphans ≡ orphans_answered l.orphans p number
    → IsNoted busy marked p (is_watched_in q orphans p) → IsKept (record l { queue = q; orphans = orphans }) marked
answer_kept l busy marked p number i q orphans kept low given e f noted = record {
  line = rw (e, f) (forgets_line (with_queue l (with_answer l.queue p number i)) p number (answers_line l p number i kept.line low given) low);
  watched = noted_watched l (record l { queue = q; orphans = orphans }) busy marked p _ kept.watched noted refl
      (rw (e, f) (answer_elsewhere l p number i));
}

pub settled_kept : (l : Line) (busy marked p number : ℕ) (orphans : List (Option Orphan)) → IsKept l busy → p < 33
    → orphans ≡ orphans_answered l.orphans p number → IsNoted busy marked p (is_watched_in l.queue orphans p)
    → IsKept (record l { orphans = orphans }) marked
settled_kept l busy marked p number orphans kept low f noted = record {
  line = rw f (forgets_line l p number kept.line low);
  watched = noted_watched l (record l { orphans = orphans }) busy marked p _ kept.watched noted refl
      (rw f (λ k apart. stands_as (command_at l k) (command_at l k) _ (orphan l k) (get_or l.queue.out k 0) (get_or l.queue.out k 0)
      refl (forget_case l.orphans p k _ apart) refl));
}

-- ## A command is taken

taken_here : (l : Line) (c : Command) (o : Option Orphan) (n : ℕ) (b : Bool) → length l.queue.table.places ≡ 33 → c.place < 33 → b ≡ false
    → true ≡ stands (at (if b then l.queue.table else with_command l.queue.table c.place (Some (opening c))) c.place) o n
taken_here l c o n true long low e = absurd (cc)
taken_here l c o n false long low e = sym (stands_up _ o n
    (ap is_under_way (get_or-set_same l.queue.table.places c.place (Some (opening c)) None (omega (arith, low, long)))))

taken_table : (l : Line) (c : Command) (k : ℕ) (b : Bool) → k ≢ c.place
    → at (if b then l.queue.table else with_command l.queue.table c.place (Some (opening c))) k ≡ command_at l k
taken_table l c k true apart = refl
taken_table l c k false apart = get_or-set_other l.queue.table.places c.place k (Some (opening c)) None apart

pub taken_kept : (l : Line) (busy marked : ℕ) (c : Command) (q : Queue) (ranks : List ℕ) → IsKept l busy → c.place < 33
    → is_under_way (command_at l c.place) ≡ false → q ≡ with_table l.queue (with_taken l.queue.table c) → ranks ≡ moved_back l.ranks c.place
    → IsNoted busy marked c.place true → IsKept (record l { queue = q; ranks = ranks }) marked
taken_kept l busy marked c q ranks kept low free e f noted = record {
  line = rw (e, f) (take_line l c _ kept.line low free);
  watched = noted_watched l (record l { queue = q; ranks = ranks }) busy marked c.place true kept.watched noted
      (rw e (taken_here l c (orphan l c.place) (get_or l.queue.out c.place 0) _ kept.line.places low free))
      (rw e (λ k apart. stands_as _ (command_at l k) (orphan l k) (orphan l k) (get_or l.queue.out k 0) (get_or l.queue.out k 0)
      (taken_table l c k _ apart) refl refl));
}

-- ## Nothing yet, and a number that is drawn

none_watched : (q : ℕ) → q < 33 → has_bit 0 q ≡ is_watched none_in_line q
none_watched q low = ap bit (bit_at-zero q) ∙ sym (stands_as _ None _ None _ 0
    (get_or-replicate 33 q None None low) (get_or-replicate 33 q None None low) (get_or-replicate 33 q 0 0 low))

pub new_kept : IsKept none_in_line 0
new_kept = record { line = new_line; watched = none_watched }

pub draw_kept : (l : Line) (busy : ℕ) (result : Option ℕ) (q : Queue) → IsKept l busy → IfSome result (λ number. q ≡ with_drawn l.queue)
    → IfNone result ((2 ^ 63 ≤ l.queue.next) × (q ≡ l.queue)) → IsKept (with_queue l q) busy
draw_kept l busy None q kept some none = rw none.1 kept
draw_kept l busy (Some number) q kept some none = record {
  line = draws_line l (Some number) q kept.line some none;
  watched = rw some kept.watched;
}

-- ## A set that is made place by place

abbrev pub IsWatchedBelow : Queue → List (Option Orphan) → (n set : ℕ) → Type 0
IsWatchedBelow queue orphans n set = (q : ℕ) → q < n → has_bit set q ≡ is_watched_in queue orphans q

pub below_none : (queue : Queue) (orphans : List (Option Orphan)) (set : ℕ) → IsWatchedBelow queue orphans 0 set
below_none queue orphans set = λ q low. absurd (omega (arith, low))

pub below_on : (queue : Queue) (orphans : List (Option Orphan)) (n set new : ℕ) → n < 33 → IsWatchedBelow queue orphans n set
    → IsNoted set new n (is_watched_in queue orphans n) → IsWatchedBelow queue orphans (n + 1) new
below_on queue orphans n set new low before noted = λ q below. elim (cases_eq q n) [
  | inl same ↦ ap (has_bit new) same ∙ noted.here ∙ sym (ap (is_watched_in queue orphans) same)
  | inr apart ↦ noted.others q (omega (arith, below, low)) apart ∙ before q (omega (arith, below, apart))
]

pub below_all : (queue : Queue) (orphans : List (Option Orphan)) (n set : ℕ) → 33 ≤ n → IsWatchedBelow queue orphans n set → IsWatchedIn queue orphans set
below_all queue orphans n set all before = λ q low. before q (omega (arith, low, all))
