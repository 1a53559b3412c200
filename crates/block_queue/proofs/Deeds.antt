-- A run of a line is one of its requests, so what these keep it keeps.
use Rattle.std.proofs.Common.{◌≡◌, ℕ, ◌<◌, true, false, List, [], ◌∷◌, map, Some, None, refl, ap, ◌∙◌, subst}
use Rattle.std.specs.Prelude.{Option, Bool, not, ◌||◌, is_none, if◌then◌else◌}
use Rattle.block_command.specs.{declared.command.{Command.Command, Stage.{Stage, TheVariants.{Waiting, Load, Store, Flush}}}, Moments.Moment}
use Rattle.block_command.specs.{Moments.{opening, turn_of}, Laws.{Input, Goes, Loads, Comes, Stores, Flushes, Fails, shown}}
use Rattle.block_disk.specs.{Table.{Table, at, is_under_way, may_go_at, wants_wire, with_command, with_input}, Laws.{shown_at, wire_after, IsWired}}
use Rattle.block_disk.specs.Requests.{Queue, AreSeenRightly, Books, IsAct, after_act, asks_at, entered_by, is_answer, is_request, no_books}
use Rattle.block_disk.specs.Requests.{none_queued, seen, seen_by, with_answer, with_table}
use Rattle.block_disk.specs.Laws as laws
use Rattle.block_disk.proofs.Door.{Agree, Held, kept_none, none_held, numbers_are_fresh as fresh, one, stays_held}
use Rattle.block_queue.specs.{Line.{Line, IsLine, command_at, moved_back, may_start_at, none_in_line, starts, with_queue}, Deeds.{Deed, Takes}}
use Rattle.block_queue.specs.Deeds.{Starts, Sends, Asks, Hears, Answers, Resets, Draws, IsDeed, AreDeeds, act_of, after_deed, seen_of, EndsAreEarned}
use Rattle.block_queue.specs.Deeds.{NumbersAreFresh, IsHeard, AreHeard, IsNamed, AreNamed, DataAreNamed, named_after}
use Rattle.block_queue.proofs.Kept.{answers_line, asked_line, drawn_line, forgets_line, given_line, is_given, long_left, of_and, reset_line}
use Rattle.block_queue.proofs.Kept.{sent_line, start_line, take_line}

-- ## The requests of a line

taken_queue : (l : Line) (t : Table) (ranks : List ℕ) (b : Bool)
    → (if b then l else record l { queue = with_table l.queue (if b then l.queue.table else t); ranks = ranks }).queue
    ≡ with_table l.queue (if b then l.queue.table else t)
taken_queue l t ranks true = refl
taken_queue l t ranks false = refl

pub same_queue : (l : Line) (d : Deed) → (after_deed l d).queue ≡ after_act l.queue (act_of d)
same_queue l (Takes c) = taken_queue l (with_command l.queue.table c.place (Some (opening c))) (moved_back l.ranks c.place) (is_under_way (command_at l c.place))
same_queue l (Starts place) = refl
same_queue l (Sends place) = refl
same_queue l (Asks place) = refl
same_queue l (Hears place part) = refl
same_queue l (Answers place number i) = refl
same_queue l Resets = refl
same_queue l Draws = refl

pub is_act : (l : Line) (d : Deed) → IsDeed l d → IsAct (act_of d)
is_act l (Takes c) is = is
is_act l (Starts place) is = is.0
is_act l (Sends place) is = is.0
is_act l (Asks place) is = is.0
is_act l (Hears place part) is = is
is_act l (Answers place number i) is = is
is_act l Resets is = tt
is_act l Draws is = tt

-- ## Every line of a run keeps what a line keeps

taken_line : (l : Line) (c : Command) (b : Bool) → is_under_way (command_at l c.place) ≡ b → IsLine l → c.place < 33
    → IsLine (if b then l else record l {
      queue = with_table l.queue (if is_under_way (command_at l c.place) then l.queue.table else with_command l.queue.table c.place (Some (opening c)));
      ranks = moved_back l.ranks c.place;
    })
taken_line l c true e line low = line
taken_line l c false e line low = take_line l c _ line low e

answer_given : (i : Input) → is_answer i ≡ true → is_given i ≡ true
answer_given Goes e = absurd (cc)
answer_given (Comes part) e = refl
answer_given (Loads bytes) e = refl
answer_given Stores e = refl
answer_given Flushes e = refl
answer_given Fails e = refl

pub line_after : (l : Line) (d : Deed) → IsLine l → IsDeed l d → IsLine (after_deed l d)
line_after l (Takes c) line is = taken_line l c _ refl line is.0
line_after l (Starts place) line is = start_line l place l.queue.out l.queue.next line is.0 is.1
line_after l (Sends place) line is = sent_line l place l.queue.out l.queue.next line is.0 (of_and _ _ is.1).0
line_after l (Asks place) line is = asked_line l place _ _ line is.0 is.1
line_after l (Hears place part) line is = given_line l place (Comes part) l.queue.out l.queue.next line is refl
line_after l (Answers place number i) line is =
    forgets_line (with_queue l (with_answer l.queue place number i)) place number (answers_line l place number i line is.0 (answer_given i is.1)) is.0
line_after l Resets line is = reset_line l _ line (long_left l 33)
line_after l Draws line is = drawn_line l line

-- ## Ends are earned

pub agree_after : (l : Line) (d : Deed) (b : Books) → Agree l.queue b → IsDeed l d → Agree (after_deed l d).queue (entered_by b (seen l.queue (act_of d)))
agree_after l d b agree is = rw (same_queue l d) (one l.queue (act_of d) b agree (is_act l d is)).1

ends : (deeds : List Deed) (l : Line) (b : Books) → Agree l.queue b → AreDeeds l deeds → AreSeenRightly b (seen_of l deeds)
unfolding seen_of
ends [] l b agree are = tt
ends (d ∷ later) l b agree are = (
  (one l.queue (act_of d) b agree (is_act l d are.0)).0,
  ends later (after_deed l d) (entered_by b (seen l.queue (act_of d))) (agree_after l d b agree are.0) are.1,
)

pub no_agree : Agree none_queued no_books
no_agree = record { kept = kept_none 33 refl; out = refl }

pub ends_are_earned : EndsAreEarned
ends_are_earned deeds are = ends deeds none_in_line no_books no_agree are

-- ## Numbers are fresh

same_seen : (deeds : List Deed) (l : Line) → seen_of l deeds ≡ seen_by l.queue (map act_of deeds)
unfolding seen_of seen_by
same_seen [] l = refl
same_seen (d ∷ later) l = ap (λ x. seen l.queue (act_of d) ∷ x)
    (same_seen later (after_deed l d) ∙ ap (λ q. seen_by q (map act_of later)) (same_queue l d))

pub numbers_are_fresh : NumbersAreFresh
numbers_are_fresh deeds = (same_seen deeds none_in_line, fresh (map act_of deeds))

-- ## Data are named

start_wants : (m : Moment) (stage : Stage) → m.stage ≡ stage → starts (turn_of stage) ≡ true → wants_wire (turn_of stage) ≡ false
start_wants m Waiting is e = refl
start_wants m stage is e = absurd (cc)

pub request_wants : (stage : Stage) → is_request (turn_of stage) ≡ true → wants_wire (turn_of stage) ≡ false
request_wants Load e = refl
request_wants Store e = refl
request_wants Flush e = refl
request_wants stage e = absurd (cc)

may_free : (d : Table) (b : Bool) → b ≡ false → (not b || is_none d.wire) ≡ true
may_free d true e = absurd (cc)
may_free d false e = refl

start_may : (l : Line) (p : ℕ) (x : Option Moment) → may_start_at l p x ≡ true → may_go_at l.queue.table x ≡ true
start_may l p None e = absurd (cc)
start_may l p (Some m) e = may_free l.queue.table _ (start_wants m m.stage refl (of_and _ _ e).0)

asks_may : (d : Table) (x : Option Moment) → asks_at x ≡ true → may_go_at d x ≡ true
asks_may d None e = absurd (cc)
asks_may d (Some m) e = may_free d _ (request_wants m.stage e)

-- a request names no command
request_names : (w : Option ℕ) (p : ℕ) (m : Moment) (stage : Stage) → m.stage ≡ stage → is_request (turn_of stage) ≡ true
    → wire_after w (laws.At p (shown m (turn_of stage))) ≡ w
request_names w p m Load is e = refl
request_names w p m Store is e = refl
request_names w p m Flush is e = refl
request_names w p m stage is e = absurd (cc)

asks_names : (w : Option ℕ) (p : ℕ) (x : Option Moment) → asks_at x ≡ true → wire_after w (shown_at p x Goes) ≡ w
asks_names w p None e = refl
asks_names w p (Some m) e = request_names w p m m.stage refl e

answer_names : (w : Option ℕ) (p : ℕ) (x : Option Moment) (i : Input) → is_answer i ≡ true → wire_after w (shown_at p x i) ≡ w
answer_names w p None i e = refl
answer_names w p (Some m) Goes e = absurd (cc)
answer_names w p (Some m) (Comes part) e = absurd (cc)
answer_names w p (Some m) (Loads bytes) e = refl
answer_names w p (Some m) Stores e = refl
answer_names w p (Some m) Flushes e = refl
answer_names w p (Some m) Fails e = refl

answer_allowed : (d : Table) (p : ℕ) (i : Input) → is_answer i ≡ true → p < 33 → laws.IsAllowed d (laws.Does p i)
answer_allowed d p Goes e low = absurd (cc)
answer_allowed d p (Comes part) e low = absurd (cc)
answer_allowed d p (Loads bytes) e low = low
answer_allowed d p Stores e low = low
answer_allowed d p Flushes e low = low
answer_allowed d p Fails e low = low

answers_held : (q : Queue) (p : ℕ) (i : Input) (out : List ℕ) (w : Option ℕ) (b : Bool) → Held q.table w → p < 33 → is_answer i ≡ true
    → Held (if b then record { table = with_input q.table p i; out = out; next = q.next } else q).table w
answers_held q p i out w true held low is =
    subst (λ x. Held (with_input q.table p i) x) (answer_names w p (at q.table p) i is)
    (stays_held q.table w (laws.Does p i) held (answer_allowed q.table p i is low)).1
answers_held q p i out w false held low is = held

abbrev pub NextNamed : Line → Deed → Option ℕ → Type 0
NextNamed l d w = IsNamed w (seen l.queue (act_of d)) × Held (after_act l.queue (act_of d)).table (named_after w (seen l.queue (act_of d)))

names : (l : Line) (d : Deed) (w : Option ℕ) → Held l.queue.table w → IsDeed l d → IsHeard l d → NextNamed l d w
names l (Takes c) w held is heard = stays_held l.queue.table w (laws.Takes c) held is
names l (Starts p) w held is heard = stays_held l.queue.table w (laws.Does p Goes) held (is.0, start_may l p (command_at l p) is.1)
names l (Sends p) w held is heard = stays_held l.queue.table w (laws.Does p Goes) held (is.0, (of_and _ _ is.1).1)
names l (Asks p) w held is heard = (
  tt,
  subst (λ x. Held (with_input l.queue.table p Goes) x) (asks_names w p (command_at l p) is.1)
      (stays_held l.queue.table w (laws.Does p Goes) held (is.0, asks_may l.queue.table (command_at l p) is.1)).1,
)
names l (Hears p part) w held is heard = stays_held l.queue.table w (laws.Does p (Comes part)) held (is, heard)
names l (Answers p number i) w held is heard = (tt, answers_held l.queue p i _ w _ held is.0 is.1)
names l Resets w held is heard = (tt, none_held 33 w refl)
names l Draws w held is heard = (tt, held)

named : (deeds : List Deed) (l : Line) (w : Option ℕ) → Held l.queue.table w → AreDeeds l deeds → AreHeard l deeds → AreNamed w (seen_of l deeds)
unfolding seen_of
named [] l w held are heard = tt
named (d ∷ later) l w held are heard =
    let now = names l d w held are.0 heard.0 in (
      now.0,
      named later (after_deed l d) (named_after w (seen l.queue (act_of d)))
          (rw (same_queue l d) now.1) are.1 heard.1,
    )

pub data_are_named : DataAreNamed
data_are_named deeds are heard = named deeds none_in_line None (none_held 33 None refl) are heard
