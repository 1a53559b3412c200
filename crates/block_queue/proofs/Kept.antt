-- What every line keeps, call by call.
use Rattle.std.proofs.Common.{◌≡◌, ◌≢◌, ℕ, zero, suc, ◌^◌, ◌+◌, ◌-◌, ◌<◌, ◌≤◌, true, false, List, ◌++◌, length, get_or, set, Some, None, refl, sym}
use Rattle.std.proofs.{Common.{ap, ◌∙◌, arith, inl, inr}, lemmas.{Bool.{cases_eq, lt-ltb, eq-eqb, ltb-true, ltb-false}, Option.same_Some}}
use Rattle.std.proofs.lemmas.{Option.{none-some}, List.{get_or-set_same, get_or-set_other, length-set, length-replicate, get_or-replicate}}
use Rattle.std.proofs.lemmas.List.{get_or-map, length-map, ext_get_or, FromFn.{length-range_with_len, get_or-range_with_len}}
use Rattle.std.proofs.lemmas.List.FromFn.{length-map-range_with_len, get_or-map-range_with_len}
use Rattle.std.specs.Prelude.{Option, Bool, Result, Ok, Err, IfSome, IfNone, OnOk, OnErr, is_none, not, ◌||◌, ◌&&◌, ◌==◌, nat_lt, if◌then◌else◌}
use Rattle.std.specs.{Prelude.{replicate, map}, Option.option_map, declared.alloc.AllocError.AllocError}
use Rattle.block_command.specs.declared.command.{Command.Command, Stage.{Stage, TheVariants.{Waiting, Load, Loading, SetUpRead, Sending, SetUpWrite}}}
use Rattle.block_command.specs.declared.command.{Stage.TheVariants.{Activate, Receiving, Store, Storing, Flush, End, Fail, Ended}, Protocol.Protocol}
use Rattle.block_command.specs.{declared.command.Protocol.TheVariants.{Queued, Dma, Pio, Verify}, Moments.{Moment, runs, opening, chunk, data_stage}}
use Rattle.block_command.specs.Moments.{is_ended, is_queued, is_verify, part_count, part_len, read_end, read_on, started, turn_of, with_sectors}
use Rattle.block_command.specs.Laws.{Input, Goes, Loads, Comes, Stores, Flushes, Fails, after}
use Rattle.block_command.proofs.Door.{same_command, at as moment}
use Rattle.block_disk.specs.{Table.{Table, at, has_wire, freed, with_command, with_input}, Requests.{Queue, number_at, with_table, with_answer}}
use Rattle.block_disk.specs.Requests.{with_asked, with_drawn, queue_reset, asks_at, is_fis, sends_at}
use Rattle.block_queue.specs.Line.{Line, IsLine, IsClear, IsWired, any_below, first_ranks, none_in_line, orphan, command_at, conflict, is_in_way}
use Rattle.block_queue.specs.Line.{bars, is_before, waits_for, starts, may_start_at, with_queue, first_below, or_this, moved_up, moved_back}
use Rattle.block_queue.specs.{Line.{orphans_answered, left_below, left_of, left_at, line_reset}, declared.queue.Orphan.Orphan}

-- ## Tests of all places

either_true : (a b : Bool) → a ≡ true → (a || b) ≡ true
either_true true b e = refl
either_true false b e = absurd (cc)

or_true : (a b : Bool) → b ≡ true → (a || b) ≡ true
or_true true b e = refl
or_true false b e = e

or_false : (a b : Bool) → a ≡ false → b ≡ false → (a || b) ≡ false
or_false false b e f = f
or_false true b e f = absurd (cc)

pub of_or : (a b : Bool) → (a || b) ≡ false → (a ≡ false) × (b ≡ false)
of_or false b e = (refl, e)
of_or true b e = absurd (cc)

pub of_and : (a b : Bool) → (a && b) ≡ true → (a ≡ true) × (b ≡ true)
of_and true b e = (refl, e)
of_and false b e = absurd (cc)

pub of_not : (a : Bool) → not a ≡ true → a ≡ false
of_not false e = refl
of_not true e = absurd (cc)

pub any_found : (test : ℕ → Bool) (n q : ℕ) → q < n → test q ≡ true → any_below test n ≡ true
unfolding any_below
any_found test zero q low e = absurd (omega (arith, low))
any_found test (suc n) q low e = elim (cases_eq q n) [
  | inl same ↦ either_true _ _ (sym (ap test same) ∙ e)
  | inr apart ↦ or_true _ _ (any_found test n q (omega (arith, low, apart)) e)
]

pub any_none : (test : ℕ → Bool) (n : ℕ) → ((q : ℕ) → q < n → test q ≡ false) → any_below test n ≡ false
unfolding any_below
any_none test zero none = refl
any_none test (suc n) none = or_false _ _ (none n (omega arith)) (any_none test n (λ q low. none q (omega (arith, low))))

pub any_at : (test : ℕ → Bool) (n q : ℕ) → any_below test n ≡ false → q < n → test q ≡ false
unfolding any_below
any_at test zero q e low = absurd (omega (arith, low))
any_at test (suc n) q e low = elim (cases_eq q n) [
  | inl same ↦ ap test same ∙ (of_or _ _ e).0
  | inr apart ↦ any_at test n q (of_or _ _ e).1 (omega (arith, low, apart))
]

-- ## One command

-- it runs only if it ran before, but for its start
pub runs_before : (c : Command) (done : ℕ) (bytes : List ℕ) (sent : ℕ) (stage : Stage) (i : Input)
    → (i ≡ Goes → starts (turn_of stage) ≡ false)
    → runs (after (moment c done bytes sent stage) i).stage ≡ true → runs stage ≡ true
runs_before c done bytes sent Waiting Goes may e = let f = may refl in absurd (cc)
runs_before c done bytes sent Waiting (Loads given) may e = e
runs_before c done bytes sent Waiting (Comes part) may e = e
runs_before c done bytes sent Waiting Stores may e = e
runs_before c done bytes sent Waiting Flushes may e = e
runs_before c done bytes sent Waiting Fails may e = e
runs_before c done bytes sent Ended Goes may e = e
runs_before c done bytes sent Ended (Loads given) may e = e
runs_before c done bytes sent Ended (Comes part) may e = e
runs_before c done bytes sent Ended Stores may e = e
runs_before c done bytes sent Ended Flushes may e = e
runs_before c done bytes sent Ended Fails may e = e
runs_before c done bytes sent stage i may e = refl

-- it is under way only if it was
was_under_way : (c : Command) (done : ℕ) (bytes : List ℕ) (sent : ℕ) (stage : Stage) (i : Input)
    → not (is_ended (after (moment c done bytes sent stage) i).stage) ≡ true → not (is_ended stage) ≡ true
was_under_way c done bytes sent Ended Goes e = e
was_under_way c done bytes sent Ended (Loads given) e = e
was_under_way c done bytes sent Ended (Comes part) e = e
was_under_way c done bytes sent Ended Stores e = e
was_under_way c done bytes sent Ended Flushes e = e
was_under_way c done bytes sent Ended Fails e = e
was_under_way c done bytes sent stage i e = refl

-- it waits for its start only if it did, and then it is as it was
abbrev Started : Stage → Type 0
Started stage = starts (turn_of stage) ≡ false

started_if : (b : Bool) (x y : Stage) → Started x → Started y → Started (if b then x else y)
started_if true x y e f = e
started_if false x y e f = f

started_either : (b : Bool) (x y : Moment) → Started x.stage → Started y.stage → Started (if b then x else y).stage
started_either true x y e f = e
started_either false x y e f = f

data_started : (p : Protocol) → Started (data_stage p)
data_started Queued = refl
data_started Dma = refl
data_started Pio = refl
data_started Verify = refl

end_started : (p : Protocol) → Started (read_end p)
end_started Queued = refl
end_started Dma = refl
end_started Pio = refl
end_started Verify = refl

started_of : (c : Command) → Started (started c)
started_of c = started_if c.write _ _ (started_if (is_queued c.protocol) SetUpWrite Activate refl refl) refl

read_started : (m : Moment) (done : ℕ) → Started (read_on m done).stage
read_started m done = started_if (nat_lt done m.command.count) Load (read_end m.command.protocol) refl (end_started m.command.protocol)

sectors_started : (m : Moment) (bytes : List ℕ) → Started (with_sectors m bytes).stage
sectors_started m bytes = started_either (is_verify m.command.protocol) _ _ (read_started m _)
    (started_if _ SetUpRead (data_stage m.command.protocol) refl (data_started m.command.protocol))

loads_started : (m : Moment) (bytes : List ℕ) (b : Bool) → Started m.stage → Started (if b then with_sectors m bytes else m).stage
loads_started m bytes true e = sectors_started m bytes
loads_started m bytes false e = e

came_started : (m : Moment) (bytes : List ℕ) (b d : Bool)
    → Started (if b then record m { stage = Fail } else record m { bytes = bytes; stage = if d then Activate else Store }).stage
came_started m bytes true d = refl
came_started m bytes false true = refl
came_started m bytes false false = refl

absurd_start : (stage : Stage) (P : Type 0) → Started stage → starts (turn_of stage) ≡ true → P
absurd_start stage P e f = absurd (cc)

waited_before : (c : Command) (done : ℕ) (bytes : List ℕ) (sent : ℕ) (stage : Stage) (i : Input)
    → starts (turn_of (after (moment c done bytes sent stage) i).stage) ≡ true
    → (starts (turn_of stage) ≡ true) × ((after (moment c done bytes sent stage) i).done ≡ done)
waited_before c done bytes sent Waiting Goes e = absurd_start _ _ (started_of c) e
waited_before c done bytes sent Waiting (Loads given) e = (e, refl)
waited_before c done bytes sent Waiting (Comes part) e = (e, refl)
waited_before c done bytes sent Waiting Stores e = (e, refl)
waited_before c done bytes sent Waiting Flushes e = (e, refl)
waited_before c done bytes sent Waiting Fails e = (e, refl)
waited_before c done bytes sent Sending Goes e = absurd_start _ _ (started_either _ _ _ (data_started c.protocol)
    (read_started (moment c done bytes sent Sending) (done + part_count c done))) e
waited_before c done bytes sent Loading (Loads given) e = absurd_start _ _
    (loads_started (moment c done bytes sent Loading) given (length given == part_len c done) refl) e
waited_before c done bytes sent Receiving (Comes part) e = absurd_start _ _
    (came_started (moment c done bytes sent Receiving) (bytes ++ part) (nat_lt (chunk c (part_len c done - length bytes)) (length part))
    (nat_lt (length (bytes ++ part)) (part_len c done))) e
waited_before c done bytes sent Storing Stores e = absurd_start _ _ (started_if _ Activate _ refl (started_if c.lasting Flush End refl refl)) e
waited_before c done bytes sent SetUpWrite Goes e = absurd_start _ _ (started_if c.auto_activate Receiving Activate refl refl) e
waited_before c done bytes sent stage Goes e = absurd (cc)
waited_before c done bytes sent stage i e = absurd (cc)

and_less : (a b a' b' : Bool) → (a' ≡ true → a ≡ true) → b' ≡ b → (a && b) ≡ false → (a' && b') ≡ false
and_less a b false b' up same e = refl
and_less true b true b' up same e = same ∙ e
and_less false b true b' up same e = let f = up refl in absurd (cc)

abbrev pub IsLess : Option Moment → Option Moment → Type 0
IsLess old new = (c : Command) → is_in_way c old ≡ false → is_in_way c new ≡ false

less_in_way : (x : Option Moment) (i : Input) → IsLess x (option_map (λ m. after m i) x)
less_in_way None i = λ c e. e
less_in_way (Some m) i = λ c e. and_less _ _ _ _ (was_under_way m.command m.done m.bytes m.sent m.stage i)
    (ap (conflict c) (same_command m.command m.done m.bytes m.sent m.stage i)) e

-- ## A command changes

less_at : (d : List (Option Moment)) (p : ℕ) (x : Option Moment) → length d ≡ 33 → p < 33 → IsLess (get_or d p None) x
    → (t : ℕ) → IsLess (get_or d t None) (get_or (set d p x) t None)
less_at d p x long low less t = elim (cases_eq t p) [
  | inl same ↦ rw same (rw (get_or-set_same d p x None (omega (arith, low, long))) less)
  | inr apart ↦ rw (get_or-set_other d p t x None apart) (λ c e. e)
]

freed_case : (h p t : ℕ) (b : Bool) → (h == p) ≡ b → (if b then None else Some h) ≡ Some t → (Some h ≡ Some t) × (t ≢ p)
freed_case h p t true e f = absurd (cc)
freed_case h p t false e f = (f, λ same. (let g = eq-eqb h p (same_Some h t f ∙ same) in cc))

freed_other : (wire : Option ℕ) (p t : ℕ) → freed wire p ≡ Some t → (wire ≡ Some t) × (t ≢ p)
freed_other None p t e = absurd (cc)
freed_other (Some h) p t e = freed_case h p t _ refl e

wired_case : (d : Table) (p : ℕ) (x : Option Moment) (b : Bool) → has_wire x ≡ b → length d.places ≡ 33 → IsWired d → p < 33
    → IsWired (record { places = set d.places p x; wire = if b then Some p else freed d.wire p })
wired_case d p x true e long wired low = λ t is. (let same : p ≡ t = same_Some p t is in
    rw (← same) (low, rw (get_or-set_same d.places p x None (omega (arith, low, long))) e))
wired_case d p x false e long wired low = λ t is. (let was = freed_other d.wire p t is in
    let held = wired t was.0 in (held.0, rw (get_or-set_other d.places p t x None was.1) held.1))

wired_set : (d : Table) (p : ℕ) (x : Option Moment) → length d.places ≡ 33 → IsWired d → p < 33 → IsWired (with_command d p x)
wired_set d p x long wired low = wired_case d p x _ refl long wired low

-- the line with another command at a place
abbrev with_at : Line → ℕ → Option Moment → List ℕ → ℕ → Line
with_at l p x out next = with_queue l (record { table = with_command l.queue.table p x; out = out; next = next })

clear_at : (l : Line) (p : ℕ) (x : Option Moment) (out : List ℕ) (next : ℕ) (t : ℕ) (c : Command)
    → IsLine l → p < 33 → IsLess (command_at l p) x → IsClear l t c → IsClear (with_at l p x out next) t c
clear_at l p x out next t c line low less clear = record {
  first = λ q below before. less_at l.queue.table.places p x line.places low less q c (clear.first q below before);
  spared = clear.spared;
  vacant = clear.vacant;
}

at_case : (l : Line) (p : ℕ) (x : Option Moment) (t : ℕ) (m : Moment) → IsLine l → p < 33
    → ((m : Moment) → x ≡ Some m → runs m.stage ≡ true → IsClear l p m.command)
    → t < 33 → get_or (set l.queue.table.places p x) t None ≡ Some m → runs m.stage ≡ true → IsClear l t m.command
at_case l p x t m line low here below is run = elim (cases_eq t p) [
  | inl same ↦ rw same (here m (sym (get_or-set_same l.queue.table.places p x None (omega (arith, low, line.places)))
      ∙ sym (ap (λ n. get_or (set l.queue.table.places p x) n None) same) ∙ is) run)
  | inr apart ↦ line.clear t m below (sym (get_or-set_other l.queue.table.places p t x None apart) ∙ is) run
]

fresh_case : (l : Line) (p : ℕ) (x : Option Moment) (t : ℕ) (m : Moment) → IsLine l → p < 33
    → ((m : Moment) → x ≡ Some m → starts (turn_of m.stage) ≡ true → m.done ≡ 0)
    → t < 33 → get_or (set l.queue.table.places p x) t None ≡ Some m → starts (turn_of m.stage) ≡ true → m.done ≡ 0
fresh_case l p x t m line low new below is start = elim (cases_eq t p) [
  | inl same ↦ new m (sym (get_or-set_same l.queue.table.places p x None (omega (arith, low, line.places)))
      ∙ sym (ap (λ n. get_or (set l.queue.table.places p x) n None) same) ∙ is) start
  | inr apart ↦ line.fresh t m below (sym (get_or-set_other l.queue.table.places p t x None apart) ∙ is) start
]

set_line : (l : Line) (p : ℕ) (x : Option Moment) (out : List ℕ) (next : ℕ) → IsLine l → p < 33 → IsLess (command_at l p) x
    → ((m : Moment) → x ≡ Some m → runs m.stage ≡ true → IsClear l p m.command)
    → ((m : Moment) → x ≡ Some m → starts (turn_of m.stage) ≡ true → m.done ≡ 0)
    → IsLine (with_at l p x out next)
set_line l p x out next line low less here new = record {
  places = length-set l.queue.table.places p x ∙ line.places;
  ranks = line.ranks;
  orphans = line.orphans;
  below = line.below;
  own = line.own;
  clear = λ t m below is run. clear_at l p x out next t m.command line low less (at_case l p x t m line low here below is run);
  wired = wired_set l.queue.table p x line.places line.wired low;
  fresh = λ t m below is start. fresh_case l p x t m line low new below is start;
}

-- ## Inputs

abbrev pub starts_at : Option Moment → Bool
starts_at None = false
starts_at (Some m) = starts (turn_of m.stage)

still_clear : (l : Line) (p : ℕ) (x : Option Moment) (i : Input) (m : Moment) → IsLine l → p < 33 → command_at l p ≡ x
    → (i ≡ Goes → starts_at x ≡ false)
    → option_map (λ m. after m i) x ≡ Some m → runs m.stage ≡ true → IsClear l p m.command
still_clear l p None i m line low is may e run = absurd (cc)
still_clear l p (Some k) i m line low is may e run =
    let same : after k i ≡ m = same_Some _ _ e in
    let ran : runs k.stage ≡ true = runs_before k.command k.done k.bytes k.sent k.stage i may (ap (λ n. runs n.stage) same ∙ run) in
    let command : m.command ≡ k.command = sym (ap (λ n. n.command) same) ∙ same_command k.command k.done k.bytes k.sent k.stage i in
    rw command (line.clear p k low is ran)

still_fresh : (l : Line) (p : ℕ) (x : Option Moment) (i : Input) (m : Moment) → IsLine l → p < 33 → command_at l p ≡ x
    → option_map (λ m. after m i) x ≡ Some m → starts (turn_of m.stage) ≡ true → m.done ≡ 0
still_fresh l p None i m line low is e start = absurd (cc)
still_fresh l p (Some k) i m line low is e start =
    let same : after k i ≡ m = same_Some _ _ e in
    let was = waited_before k.command k.done k.bytes k.sent k.stage i (ap (λ n. starts (turn_of n.stage)) same ∙ start) in
    sym (ap (λ n. n.done) same) ∙ was.1 ∙ line.fresh p k low is was.0

pub input_line : (l : Line) (p : ℕ) (i : Input) (out : List ℕ) (next : ℕ) → IsLine l → p < 33
    → (i ≡ Goes → starts_at (command_at l p) ≡ false)
    → IsLine (with_queue l (record { table = with_input l.queue.table p i; out = out; next = next }))
input_line l p i out next line low may = set_line l p _ out next line low (less_in_way (command_at l p) i)
    (λ m e run. still_clear l p (command_at l p) i m line low refl may e run)
    (λ m e start. still_fresh l p (command_at l p) i m line low refl e start)

-- a FIS and a request are no start
fis_starts : (m : Moment) (stage : Stage) → m.stage ≡ stage → is_fis (turn_of stage) ≡ true → starts (turn_of stage) ≡ false
fis_starts m Waiting is e = absurd (cc)
fis_starts m stage is e = refl

sends_starts : (x : Option Moment) → sends_at x ≡ true → starts_at x ≡ false
sends_starts None e = refl
sends_starts (Some m) e = fis_starts m m.stage refl e

request_starts : (m : Moment) (stage : Stage) → m.stage ≡ stage → asks_at (Some (record m { stage = stage })) ≡ true → starts (turn_of stage) ≡ false
request_starts m Waiting is e = absurd (cc)
request_starts m stage is e = refl

asks_starts : (x : Option Moment) → asks_at x ≡ true → starts_at x ≡ false
asks_starts None e = refl
asks_starts (Some m) e = request_starts m m.stage refl e

pub sent_line : (l : Line) (p : ℕ) (out : List ℕ) (next : ℕ) → IsLine l → p < 33 → sends_at (command_at l p) ≡ true
    → IsLine (with_queue l (record { table = with_input l.queue.table p Goes; out = out; next = next }))
sent_line l p out next line low e = input_line l p Goes out next line low (λ same. sends_starts _ e)

pub asked_line : (l : Line) (p : ℕ) (out : List ℕ) (next : ℕ) → IsLine l → p < 33 → asks_at (command_at l p) ≡ true
    → IsLine (with_queue l (record { table = with_input l.queue.table p Goes; out = out; next = next }))
asked_line l p out next line low e = input_line l p Goes out next line low (λ same. asks_starts _ e)

-- what a command is given is no start
abbrev pub is_given : Input → Bool
is_given Goes = false
is_given _ = true

given_starts : (i : Input) (b : Bool) → is_given i ≡ true → i ≡ Goes → b ≡ false
given_starts i b e same = absurd (let f = ap is_given same in cc)

pub given_line : (l : Line) (p : ℕ) (i : Input) (out : List ℕ) (next : ℕ) → IsLine l → p < 33 → is_given i ≡ true
    → IsLine (with_queue l (record { table = with_input l.queue.table p i; out = out; next = next }))
given_line l p i out next line low e = input_line l p i out next line low (given_starts i _ e)

answers_case : (l : Line) (p : ℕ) (i : Input) (out : List ℕ) (b : Bool) → IsLine l → p < 33 → is_given i ≡ true
    → IsLine (with_queue l (if b then record { table = with_input l.queue.table p i; out = out; next = l.queue.next } else l.queue))
answers_case l p i out true line low e = given_line l p i out l.queue.next line low e
answers_case l p i out false line low e = line

pub answers_line : (l : Line) (p number : ℕ) (i : Input) → IsLine l → p < 33 → is_given i ≡ true
    → IsLine (with_queue l (with_answer l.queue p number i))
answers_line l p number i line low e = answers_case l p i _ _ line low e

-- ## A start

clear_before : (before way bar : Bool) → ((before && way) || bar) ≡ false
    → (before ≡ true → way ≡ false) × (bar ≡ false)
clear_before true way bar e = let both = of_or _ _ e in ((λ f. both.0), both.1)
clear_before false way bar e = ((λ f. absurd (cc)), e)

no_orphan : (o : Option Orphan) → is_none o ≡ true → o ≡ None
no_orphan None e = refl
no_orphan (Some o) e = absurd (cc)

pub start_clear : (l : Line) (p : ℕ) (m : Moment) → may_start_at l p (Some m) ≡ true → IsClear l p m.command
start_clear l p m e =
    let all = of_and _ _ (of_and _ _ e).1 in
    let none = of_not _ all.1 in
    record {
      first = λ q low. (clear_before (is_before l.ranks q p) (is_in_way m.command (command_at l q)) (bars m.command (orphan l q)) (any_at (waits_for l m.command p) 33 q none low)).0;
      spared = λ q low. (clear_before (is_before l.ranks q p) (is_in_way m.command (command_at l q)) (bars m.command (orphan l q)) (any_at (waits_for l m.command p) 33 q none low)).1;
      vacant = no_orphan _ all.0;
    }

starts_clear : (l : Line) (p : ℕ) (x : Option Moment) (m : Moment) → may_start_at l p x ≡ true
    → option_map (λ m. after m Goes) x ≡ Some m → IsClear l p m.command
starts_clear l p None m may e = absurd (cc)
starts_clear l p (Some k) m may e =
    let command : m.command ≡ k.command = sym (ap (λ n. n.command) (same_Some _ _ e)) ∙ same_command k.command k.done k.bytes k.sent k.stage Goes in
    rw command (start_clear l p k may)

pub start_line : (l : Line) (p : ℕ) (out : List ℕ) (next : ℕ) → IsLine l → p < 33 → may_start_at l p (command_at l p) ≡ true
    → IsLine (with_queue l (record { table = with_input l.queue.table p Goes; out = out; next = next }))
start_line l p out next line low may = set_line l p _ out next line low (less_in_way (command_at l p) Goes)
    (λ m e run. starts_clear l p (command_at l p) m may e)
    (λ m e start. still_fresh l p (command_at l p) Goes m line low refl e start)

-- ## Dropped stores

bars_less : (c : Command) (x : Option Orphan) → bars c x ≡ false → bars c None ≡ false
bars_less c x e = refl

pub dropped_line : (l : Line) (p : ℕ) → IsLine l → p < 33 → IsLine (record l { orphans = set l.orphans p None })
dropped_line l p line low = record {
  places = line.places;
  ranks = line.ranks;
  orphans = length-set l.orphans p None ∙ line.orphans;
  below = line.below;
  own = line.own;
  clear = λ t m below is run. (let was = line.clear t m below is run in record {
    first = was.first;
    spared = λ q low'. elim (cases_eq q p) [
      | inl same ↦ rw same (rw (get_or-set_same l.orphans p None None (omega (arith, low, line.orphans))) refl)
      | inr apart ↦ rw (get_or-set_other l.orphans p q None None apart) (was.spared q low')
    ];
    vacant = elim (cases_eq t p) [
      | inl same ↦ rw same (get_or-set_same l.orphans p None None (omega (arith, low, line.orphans)))
      | inr apart ↦ rw (get_or-set_other l.orphans p t None None apart) was.vacant
    ];
  });
  wired = line.wired;
  fresh = line.fresh;
}

forgets_case : (l : Line) (p : ℕ) (b : Bool) → IsLine l → p < 33
    → IsLine (record l { orphans = if b then set l.orphans p None else l.orphans })
forgets_case l p true line low = dropped_line l p line low
forgets_case l p false line low = line

pub forgets_line : (l : Line) (p number : ℕ) → IsLine l → p < 33
    → IsLine (record l { orphans = orphans_answered l.orphans p number })
forgets_line l p number line low = forgets_case l p _ line low

-- ## A reset, and nothing yet

pub long_left : (l : Line) (n : ℕ) → length (left_below l n) ≡ n
unfolding left_below
long_left l n = length-map-range_with_len (left_at l) 0 n

pub long_replicate : (X : Type 0) (n : ℕ) (a : X) → length (replicate n a) ≡ n
long_replicate X n a = length-replicate n a

none_at : (n t : ℕ) (m : Moment) → t < n → get_or (replicate n None) t None ≡ Some m → ⊥
none_at n t m low is = let e : None ≡ Some m = sym (get_or-replicate n t None None low) ∙ is in none-some m e

pub left_all : (l : Line) (xs : List (Option Orphan)) (n : ℕ) → length xs ≡ n
    → ((k : ℕ) → k < n → get_or xs k None ≡ left_at l k) → xs ≡ left_below l n
unfolding left_below
left_all l xs n long each = ext_get_or None xs _ (long ∙ sym (length-map-range_with_len (left_at l) 0 n))
    (λ i low. (let low' : i < n = omega (arith, low, long) in
    each i low' ∙ sym (get_or-map-range_with_len (left_at l) 0 n i i None low' (omega arith))))

pub reset_line : (l : Line) (orphans : List (Option Orphan)) → IsLine l → length orphans ≡ 33
    → IsLine (record l { queue = queue_reset l.queue; orphans = orphans })
reset_line l orphans line long = record {
  places = long_replicate (Option Moment) 33 None;
  ranks = line.ranks;
  orphans = long;
  below = line.below;
  own = line.own;
  clear = λ t m below is run. absurd (none_at 33 t m below is);
  wired = λ p e. absurd (cc);
  fresh = λ t m below is start. absurd (none_at 33 t m below is);
}

first_rank : (n p : ℕ) → p < n → get_or (first_ranks n) p 0 ≡ p
unfolding first_ranks
first_rank n p low = let e = get_or-range_with_len 0 n p 0 low in omega (arith, e)

long_first : (n : ℕ) → length (first_ranks n) ≡ n
unfolding first_ranks
long_first n = length-range_with_len 0 n

pub new_line : IsLine none_in_line
new_line = record {
  places = long_replicate (Option Moment) 33 None;
  ranks = long_first 33;
  orphans = long_replicate (Option Orphan) 33 None;
  below = λ p low. rw (first_rank 33 p low) low;
  own = λ p q low low' e. sym (first_rank 33 p low) ∙ e ∙ first_rank 33 q low';
  clear = λ t m below is run. absurd (none_at 33 t m below is);
  wired = λ p e. absurd (cc);
  fresh = λ t m below is start. absurd (none_at 33 t m below is);
}

-- ## A command is taken

up_below : (last r : ℕ) (b : Bool) → nat_lt last r ≡ b → last < 33 → r < 33 → r ≢ last → (if b then r - 1 else r) < 32
up_below last r true e low low' apart = omega arith
up_below last r false e low low' apart = let f = ltb-false _ _ e in omega (arith, f, apart, low)

up_own : (last r s : ℕ) (a b : Bool) → nat_lt last r ≡ a → nat_lt last s ≡ b → r ≢ last → s ≢ last
    → (if a then r - 1 else r) ≡ (if b then s - 1 else s) → r ≡ s
up_own last r s true true e f no' no'' same = let g = ltb-true _ _ e in let h = ltb-true _ _ f in omega (arith, g, h, same)
up_own last r s true false e f no' no'' same = let g = ltb-true _ _ e in let h = ltb-false _ _ f in omega (arith, g, h, same, no', no'')
up_own last r s false true e f no' no'' same = let g = ltb-false _ _ e in let h = ltb-true _ _ f in omega (arith, g, h, same, no', no'')
up_own last r s false false e f no' no'' same = same

up_before : (last r s : ℕ) (a b : Bool) → nat_lt last r ≡ a → nat_lt last s ≡ b
    → (if a then r - 1 else r) < (if b then s - 1 else s) → r < s
up_before last r s true true e f less = omega (arith, less)
up_before last r s true false e f less = let g = ltb-true _ _ e in let h = ltb-false _ _ f in omega (arith, g, h, less)
up_before last r s false true e f less = let g = ltb-false _ _ e in let h = ltb-true _ _ f in omega (arith, g, h, less)
up_before last r s false false e f less = less

pub rank_other : (ranks : List ℕ) (p t : ℕ) → length ranks ≡ 33 → t < 33 → t ≢ p
    → get_or (moved_back ranks p) t 0 ≡ moved_up (get_or ranks p 0) (get_or ranks t 0)
rank_other ranks p t long low apart = get_or-set_other (map (moved_up (get_or ranks p 0)) ranks) p t 32 0 apart
    ∙ get_or-map (moved_up (get_or ranks p 0)) ranks t 0 0 (omega (arith, low, long))

pub rank_same : (ranks : List ℕ) (p : ℕ) → length ranks ≡ 33 → p < 33 → get_or (moved_back ranks p) p 0 ≡ 32
rank_same ranks p long low =
    let l = length-map ranks (moved_up (get_or ranks p 0)) in
    get_or-set_same (map (moved_up (get_or ranks p 0)) ranks) p 32 0 (omega (arith, l, low, long))

pub rank_below : (l : Line) (p t : ℕ) → IsLine l → p < 33 → t < 33 → t ≢ p → get_or (moved_back l.ranks p) t 0 < 32
rank_below l p t line low low' apart = rw (rank_other l.ranks p t line.ranks low' apart)
    (up_below _ _ _ refl (line.below p low) (line.below t low') (λ e. apart (line.own t p low' low e)))

below_taken : (l : Line) (p t : ℕ) → IsLine l → p < 33 → t < 33 → get_or (moved_back l.ranks p) t 0 < 33
below_taken l p t line low low' = elim (cases_eq t p) [
  | inl same ↦ rw same (rw (rank_same l.ranks p line.ranks low) (omega arith))
  | inr apart ↦ let b = rank_below l p t line low low' apart in omega (arith, b)
]

own_others : (l : Line) (p s t : ℕ) → IsLine l → p < 33 → s < 33 → t < 33 → s ≢ p → t ≢ p
    → get_or (moved_back l.ranks p) s 0 ≡ get_or (moved_back l.ranks p) t 0 → s ≡ t
own_others l p s t line low low' low'' no' no'' e =
    line.own s t low' low'' (up_own (get_or l.ranks p 0) _ _ _ _ refl refl (λ f. no' (line.own s p low' low f)) (λ f. no'' (line.own t p low'' low f))
    (sym (rank_other l.ranks p s line.ranks low' no') ∙ e ∙ rank_other l.ranks p t line.ranks low'' no''))

own_last : (l : Line) (p t : ℕ) → IsLine l → p < 33 → t < 33
    → get_or (moved_back l.ranks p) p 0 ≡ get_or (moved_back l.ranks p) t 0 → t ≡ p
own_last l p t line low low' e = elim (cases_eq t p) [
  | inl same ↦ same
  | inr apart ↦ absurd (let b = rank_below l p t line low low' apart in let f = rank_same l.ranks p line.ranks low in omega (arith, b, e, f))
]

own_taken : (l : Line) (p s t : ℕ) → IsLine l → p < 33 → s < 33 → t < 33
    → get_or (moved_back l.ranks p) s 0 ≡ get_or (moved_back l.ranks p) t 0 → s ≡ t
own_taken l p s t line low low' low'' e = elim (cases_eq s p) [
  | inl same ↦ same ∙ sym (own_last l p t line low low'' (sym (ap (λ n. get_or (moved_back l.ranks p) n 0) same) ∙ e))
  | inr apart ↦ elim (cases_eq t p) [
    | inl same' ↦ own_last l p s line low low' (sym (ap (λ n. get_or (moved_back l.ranks p) n 0) same') ∙ sym e) ∙ sym same'
    | inr apart' ↦ own_others l p s t line low low' low'' apart apart' e
  ]
]

-- whose command was before another's still is, and nobody is behind the new one
pub before_taken : (l : Line) (p q t : ℕ) → IsLine l → p < 33 → q < 33 → t < 33 → t ≢ p
    → is_before (moved_back l.ranks p) q t ≡ true → (q ≢ p) × (is_before l.ranks q t ≡ true)
before_taken l p q t line low low' low'' apart e =
    let less = ltb-true _ _ e in
    let small = rank_below l p t line low low'' apart in
    let first : q ≢ p = λ same. (let f = ap (λ n. get_or (moved_back l.ranks p) n 0) same in
    let g = rank_same l.ranks p line.ranks low in omega (arith, less, small, f, g)) in (
      first,
      lt-ltb _ _ (up_before (get_or l.ranks p 0) _ _ _ _ refl refl
          (rw (← rank_other l.ranks p q line.ranks low' first) (rw (← rank_other l.ranks p t line.ranks low'' apart) less))),
    )

runs_not : (c : Command) (m : Moment) → Some (opening c) ≡ Some m → runs m.stage ≡ true → ⊥
runs_not c m e run = let f : runs (opening c).stage ≡ runs m.stage = ap (λ n. runs n.stage) (same_Some _ _ e) in cc

abbrev pub with_new : Line → Command → List ℕ → ℕ → Line
with_new l c out next = record {
  queue = record { table = with_command l.queue.table c.place (Some (opening c)); out = out; next = next };
  ranks = moved_back l.ranks c.place;
  orphans = l.orphans;
}

clear_new : (l : Line) (c : Command) (out : List ℕ) (next t : ℕ) (m : Moment) → IsLine l → c.place < 33 → t < 33 → t ≢ c.place
    → get_or l.queue.table.places t None ≡ Some m → runs m.stage ≡ true → IsClear (with_new l c out next) t m.command
clear_new l c out next t m line low low' apart is run =
    let was = line.clear t m low' is run in
    record {
      first = λ q low'' e. (let before = before_taken l c.place q t line low low'' low' apart e in
          rw (get_or-set_other l.queue.table.places c.place q (Some (opening c)) None before.0) (was.first q low'' before.1));
      spared = was.spared;
      vacant = was.vacant;
    }

clear_taken : (l : Line) (c : Command) (out : List ℕ) (next t : ℕ) (m : Moment) → IsLine l → c.place < 33 → t < 33
    → get_or (set l.queue.table.places c.place (Some (opening c))) t None ≡ Some m → runs m.stage ≡ true
    → IsClear (with_new l c out next) t m.command
clear_taken l c out next t m line low low' is run = elim (cases_eq t c.place) [
  | inl same ↦ absurd (runs_not c m (sym (get_or-set_same l.queue.table.places c.place (Some (opening c)) None (omega (arith, low, line.places)))
      ∙ sym (ap (λ n. get_or (set l.queue.table.places c.place (Some (opening c))) n None) same) ∙ is) run)
  | inr apart ↦ clear_new l c out next t m line low low' apart
      (sym (get_or-set_other l.queue.table.places c.place t (Some (opening c)) None apart) ∙ is) run
]

pub new_command_line : (l : Line) (c : Command) (out : List ℕ) (next : ℕ) → IsLine l → c.place < 33 → IsLine (with_new l c out next)
new_command_line l c out next line low = record {
  places = length-set l.queue.table.places c.place (Some (opening c)) ∙ line.places;
  ranks = length-set (map (moved_up (get_or l.ranks c.place 0)) l.ranks) c.place 32 ∙ length-map l.ranks (moved_up (get_or l.ranks c.place 0)) ∙ line.ranks;
  orphans = line.orphans;
  below = λ t low'. below_taken l c.place t line low low';
  own = λ s t low' low'' e. own_taken l c.place s t line low low' low'' e;
  clear = λ t m low' is run. clear_taken l c out next t m line low low' is run;
  wired = wired_set l.queue.table c.place (Some (opening c)) line.places line.wired low;
  fresh = λ t m low' is start. fresh_case l c.place (Some (opening c)) t m line low
      (λ n e f. sym (ap (λ n. n.done) (same_Some (opening c) n e))) low' is start;
}

pub take_line : (l : Line) (c : Command) (b : Bool) → IsLine l → c.place < 33 → b ≡ false
    → IsLine (record {
      queue = with_table l.queue (if b then l.queue.table else with_command l.queue.table c.place (Some (opening c)));
      ranks = moved_back l.ranks c.place;
      orphans = l.orphans;
    })
take_line l c true line low e = absurd (cc)
take_line l c false line low e = new_command_line l c l.queue.out l.queue.next line low

-- ## Calls with more than one outcome

pub asks_line : (l : Line) (p : ℕ) (result : Option ℕ) (q : Queue) → IsLine l → p < 33 → asks_at (command_at l p) ≡ true
    → IfSome result (λ number. q ≡ with_asked l.queue p) → IfNone result ((2 ^ 63 ≤ l.queue.next) × (q ≡ l.queue)) → IsLine (with_queue l q)
asks_line l p None q line low asks some none = rw none.1 line
asks_line l p (Some number) q line low asks some none = rw some (asked_line l p _ _ line low asks)

pub came_line : (l : Line) (p : ℕ) (part : List ℕ) (result : Result (Unit {0}) AllocError) (q : Queue) → IsLine l → p < 33
    → OnOk result (q ≡ with_table l.queue (with_input l.queue.table p (Comes part))) → OnErr result (q ≡ l.queue) → IsLine (with_queue l q)
came_line l p part (Ok done) q line low ok err = rw ok (given_line l p (Comes part) l.queue.out l.queue.next line low refl)
came_line l p part (Err e) q line low ok err = rw err line

pub starts_line : (l : Line) (p : ℕ) (result : Result (Unit {0}) AllocError) (q : Queue) → IsLine l → p < 33 → may_start_at l p (command_at l p) ≡ true
    → OnOk result (q ≡ with_table l.queue (with_input l.queue.table p Goes)) → OnErr result (q ≡ l.queue) → IsLine (with_queue l q)
starts_line l p (Ok done) q line low may ok err = rw ok (start_line l p l.queue.out l.queue.next line low may)
starts_line l p (Err e) q line low may ok err = rw err line

pub ranks_all : (xs : List ℕ) (n : ℕ) → length xs ≡ n → ((k : ℕ) → k < n → get_or xs k 0 ≡ k) → xs ≡ first_ranks n
unfolding first_ranks
ranks_all xs n long each = ext_get_or 0 xs _ (long ∙ sym (length-range_with_len 0 n))
    (λ i low. (let low' : i < n = omega (arith, low, long) in
    let e = get_or-range_with_len 0 n i 0 low' in let f = each i low' in omega (arith, e, f)))

pub moved_all : (ranks xs : List ℕ) (last : ℕ) → length xs ≡ length ranks
    → ((k : ℕ) → k < length xs → get_or xs k 0 ≡ moved_up last (get_or ranks k 0)) → xs ≡ map (moved_up last) ranks
moved_all ranks xs last long each = ext_get_or 0 xs _ (long ∙ sym (length-map ranks (moved_up last)))
    (λ i low. each i low ∙ sym (get_or-map (moved_up last) ranks i 0 0 (omega (arith, low, long))))

-- ## The loop of a reset

pub left_same : (l : Line) (q : Queue) (o : Option Orphan) (p : ℕ) → q ≡ l.queue → o ≡ orphan l p
    → left_of (at q.table p) (number_at q.out p) o ≡ left_at l p
left_same l q o p e f = rw (e, f) refl

pub left_more : (l : Line) (xs : List (Option Orphan)) (n : ℕ) (x : Option Orphan) → length xs ≡ 33 → n < 33 → x ≡ left_at l n
    → ((k : ℕ) → k < n → get_or xs k None ≡ left_at l k) → (k : ℕ) → k < n + 1 → get_or (set xs n x) k None ≡ left_at l k
left_more l xs n x long low is left k below = elim (cases_eq k n) [
  | inl same ↦ rw same (get_or-set_same xs n x None (omega (arith, low, long)) ∙ is)
  | inr apart ↦ get_or-set_other xs n k x None apart ∙ left k (omega (arith, below, apart))
]

pub others_more : (l : Line) (xs : List (Option Orphan)) (n : ℕ) (x : Option Orphan)
    → ((k : ℕ) → n ≤ k → get_or xs k None ≡ orphan l k) → (k : ℕ) → n + 1 ≤ k → get_or (set xs n x) k None ≡ orphan l k
others_more l xs n x others k above = get_or-set_other xs n k x None (λ e. omega (arith, e, above)) ∙ others k (omega (arith, above))

pub reset_is : (l : Line) (q : Queue) (ranks : List ℕ) (orphans : List (Option Orphan)) → q ≡ queue_reset l.queue → ranks ≡ l.ranks
    → orphans ≡ left_below l 33 → record { queue = q; ranks = ranks; orphans = orphans } ≡ line_reset l
reset_is l q ranks orphans e f g = rw (e, f, g) refl

pub reset_kept : (l : Line) (q : Queue) (ranks : List ℕ) (orphans : List (Option Orphan)) → IsLine l → q ≡ queue_reset l.queue → ranks ≡ l.ranks
    → length orphans ≡ 33 → IsLine (record { queue = q; ranks = ranks; orphans = orphans })
reset_kept l q ranks orphans line e f long = rw (e, f) (reset_line l orphans line long)

-- the link is of a place
pub wire_below : (l : Line) (w : Option ℕ) → IsLine l → w ≡ l.queue.table.wire → IfSome w (λ place. place < 33)
wire_below l None line e = tt
wire_below l (Some p) line e = (line.wired p (sym e)).0

pub wire_holds : (l : Line) (w : Option ℕ) → IsLine l → w ≡ l.queue.table.wire → IfSome w (λ place. has_wire (command_at l place) ≡ true)
wire_holds l None line e = tt
wire_holds l (Some p) line e = (line.wired p (sym e)).1

-- ## A number is drawn

pub drawn_line : (l : Line) → IsLine l → IsLine (with_queue l (with_drawn l.queue))
drawn_line l line = record {
  places = line.places;
  ranks = line.ranks;
  orphans = line.orphans;
  below = line.below;
  own = line.own;
  clear = λ t m below is run. (let was = line.clear t m below is run in record { first = was.first; spared = was.spared; vacant = was.vacant });
  wired = line.wired;
  fresh = line.fresh;
}

pub draws_line : (l : Line) (result : Option ℕ) (q : Queue) → IsLine l → IfSome result (λ number. q ≡ with_drawn l.queue)
    → IfNone result ((2 ^ 63 ≤ l.queue.next) × (q ≡ l.queue)) → IsLine (with_queue l q)
draws_line l None q line some none = rw none.1 line
draws_line l (Some number) q line some none = rw some (drawn_line l line)

-- ## The first place

first_here : (test : ℕ → Bool) (n : ℕ) (x : Option ℕ) (b : Bool) → x ≡ None → b ≡ true → or_this x (if b then Some n else None) ≡ Some n
first_here test n None true e f = refl
first_here test n None false e f = absurd (cc)
first_here test n (Some k) b e f = absurd (cc)

first_stays : (x : Option ℕ) (k : ℕ) (y : Option ℕ) → x ≡ Some k → or_this x y ≡ Some k
first_stays None k y e = absurd (cc)
first_stays (Some j) k y e = e

pub first_found : (test : ℕ → Bool) (n k : ℕ) → k < n → first_below test k ≡ None → test k ≡ true → first_below test n ≡ Some k
unfolding first_below
first_found test zero k low none e = absurd (omega (arith, low))
first_found test (suc n) k low none e = elim (cases_eq k n) [
  | inl same ↦ let none' = ap (first_below test) (sym same) ∙ none in
      first_here test n _ _ none' (ap test (sym same) ∙ e) ∙ ap Some (sym same)
  | inr apart ↦ first_stays _ k _ (first_found test n k (omega (arith, low, apart)) none e)
]

none_here : (n : ℕ) (x : Option ℕ) (b : Bool) → x ≡ None → b ≡ false → or_this x (if b then Some n else None) ≡ None
none_here n None false e f = refl
none_here n None true e f = absurd (cc)
none_here n (Some k) b e f = absurd (cc)

pub first_none : (test : ℕ → Bool) → None ≡ first_below test 0
unfolding first_below
first_none test = refl

pub first_more : (test : ℕ → Bool) (n : ℕ) → first_below test n ≡ None → test n ≡ false → first_below test (n + 1) ≡ None
unfolding first_below
first_more test n none e = let more : n + 1 ≡ suc n = omega arith in ap (first_below test) more ∙ none_here n _ _ none e
