-- A disk that serves queued commands alone: some Data are asked for exactly while a command awaits them.
use Rattle.std.proofs.Common.{◌≡◌, ℕ, zero, suc, ◌+◌, ◌<◌, ◌≤◌, true, false, List, [], ◌∷◌, ◌++◌, drop, length, length-set, get_or, set, Some, None}
use Rattle.std.proofs.{Common.{refl, sym, ap, ◌∙◌, subst, arith, inl, inr}, lemmas.Bool.{cases_eq, eq-eqb, eqb-true, false≢true, ne_eqb, lt-ltb}}
use Rattle.std.proofs.lemmas.{List.{get_or-set_same, get_or-set_other}, Option.same_Some}
use Rattle.std.specs.{Prelude.{Option, Bool, is_some, nat_lt, not, ◌&&◌, ◌==◌, if◌then◌else◌, Result, Ok}, Option.option_map}
use Rattle.fis_view.specs.{Seen.seen as view_seen, declared.view.{Fis.Fis, FisFault.FisFault}}
use Rattle.fis_view.specs.declared.view.Fis.TheVariants as view
use Rattle.block_command.specs.declared.command.{Command.Command, Protocol.Protocol, Stage.{Stage, TheVariants.{Waiting, Load, Loading, SetUpRead}}}
use Rattle.block_command.specs.declared.command.Stage.TheVariants.{Announce, Sending, SetUpWrite, Activate, Receiving, Store, Storing, Flush}
use Rattle.block_command.specs.{declared.command.Stage.TheVariants.{Flushing, End, Ended, Fail}, Moments.{Moment, data_stage as stage_of_data}}
use Rattle.block_command.specs.Moments.{first_data_stage, is_ended, is_queued, is_verify, opening, part_count, part_len, read_end, read_on, turn_of}
use Rattle.block_command.specs.Laws.{Comes, Fails, Flushes, Goes, Input, Ledger, Loads, Stores, after}
use Rattle.block_command.specs.declared.command.Protocol.TheVariants as protocol
use Rattle.block_command.proofs.Door.{Agrees, at as moment}
use Rattle.block_disk.specs.{Table.{Table, has_wire, is_under_way, none_under_way, wants_wire, with_command, with_input}, Requests.{Books, asks_at}}
use Rattle.block_disk.specs.Requests.{is_answer, is_request, no_books, with_table}
use Rattle.block_disk.proofs.Door.{each_is}
use Rattle.block_queue.specs.Deeds as deed
use Rattle.block_queue.specs.{Deeds.{Deed, IsDeed, after_deed, seen_of}, Line.{Line, command_at, may_send, may_start_at, starts}}
use Rattle.block_queue.proofs.Door.{of_and}
use Rattle.block_scheduler.specs.{Schedule.{ends_all, ends_sent}, Sets.{ends_at, is_end, is_fail, turn_at}, Laws.{all_deeds, deeds_of, end_deeds}}
use Rattle.block_scheduler.specs.Laws.{ends_deeds}
use Rattle.block_scheduler.specs.Laws as move
use Rattle.block_engine.specs.Laws as engine
use Rattle.block_engine.specs.Laws.{Step as EngineStep, all_moves}
use Rattle.ata_front.specs.{CommandFis.asks_by, Fronts.heard_data, declared.task.Act.Act}
use Rattle.ata_front.specs.declared.task.Act.TheVariants as act
use Rattle.ata_reply.specs.declared.reply.Reply.{Reply}
use Rattle.ata_reply.specs.declared.reply.Reply.TheVariants as replies
use Rattle.disk_pages.specs.declared.profile.Profile.{Profile}
use Rattle.sata_disk.specs.{State.{DiskState, commands, data_place, new_disk}, Hearing.{data_by, fis_heard, is_receiving, receives, register_told}}
use Rattle.sata_disk.specs.{Sending.{IsOut, out_at}, declared.out.Out.Out}
use Rattle.sata_disk.specs.declared.out.Out.TheVariants as out
use Rattle.sata_disk_laws.specs.Calls as call
use Rattle.sata_disk_laws.specs.{Calls.{AreCalls, Call, IsCall, act_steps, after_call, after_calls, fis_steps, out_steps, steps_of}, Laws.reached}
use Rattle.sata_disk_laws.specs.Laws.{seen_in}
use Rattle.sata_disk_laws.proofs.Door.{calls_after}
use Rattle.sata_disk_books.specs.{Books.{books_after, page_in}, Counted.{Counted, counted_after, counted_call, more_by, set_up_by}, InTurn.AreOfQueue}
use Rattle.sata_disk_books.specs.InTurn.{AsksInTurn, AwaitsNone, AwaitsWhatItAsked, IsNoPio, IsOfQueue, IsQueuedFis, IsQueuedOut, call_steps}
use Rattle.sata_disk_books.specs.{InTurn.{calls_steps, data_steps, sign_out, sign_reply}, Taken.{AreTakenFor, DataAreTaken, is_awaited, set_up_out}}
use Rattle.sata_disk_books.specs.{Taken.{taken_after, taken_call, taken_fis}, Talks.{AreInTurn, Asks, Down, IsInTurn, Plain, SetsUp, Sign, Step}}
use Rattle.sata_disk_books.specs.Talks.{Talk, Up, quiet_talk, talk_after, talk_by}
use Rattle.sata_disk_books.proofs.{Sound.{IsOwn, Stands, and_true, deed_stands, may_free, paged}, Does.{AreDone, IsQuietCall, call_are, call_quiet}}
use Rattle.sata_disk_books.proofs.{Does.{deeds_by, line_by, place_low, sent_deeds, steps_done}, Counted.{Good, call_good, calls_good, data_stage}}
use Rattle.sata_disk_books.proofs.{Counted.{new_good, reply_or}, Taken.{AreStill, AreStillSteps, IsStill, ask_still, call_still, holder_place}}
use Rattle.sata_disk_books.proofs.{Taken.{receiving_stage, start_still}, Walks.after_deeds}

-- ## One input

abbrev is_asking : Stage → Input → Bool
is_asking SetUpWrite Goes = true
is_asking Activate Goes = true
is_asking Receiving (Comes part) = true
is_asking _ _ = false

started_none : (w q : Bool) → is_receiving (if w then (if q then SetUpWrite else Activate) else Load) ≡ false
started_none true true = refl
started_none true false = refl
started_none false q = refl

end_none : (p : Protocol) → is_receiving (read_end p) ≡ false
end_none protocol.Pio = refl
end_none other = refl

on_none : (p : Protocol) (b : Bool) → is_receiving (if b then Load else read_end p) ≡ false
on_none p true = refl
on_none p false = end_none p

data_none : (p : Protocol) → is_receiving (stage_of_data p) ≡ false
data_none protocol.Pio = refl
data_none other = refl

first_none : (p : Protocol) (b : Bool) → is_receiving (if b then SetUpRead else stage_of_data p) ≡ false
first_none p true = refl
first_none p false = data_none p

loaded_none : (c : Command) (done : ℕ) (bytes given : List ℕ) (sent : ℕ) (b d : Bool)
    → is_receiving (if b then (if d then read_on (moment c done bytes sent Loading) (done + part_count c done)
    else moment c done given sent (first_data_stage c.protocol done)) else moment c done bytes sent Loading).stage ≡ false
loaded_none c done bytes given sent false d = refl
loaded_none c done bytes given sent true true = on_none c.protocol _
loaded_none c done bytes given sent true false = first_none c.protocol _

sent_none : (c : Command) (done : ℕ) (bytes : List ℕ) (to : ℕ) (b : Bool)
    → is_receiving (if b then moment c done bytes to (stage_of_data c.protocol) else read_on (moment c done bytes to Sending) (done + part_count c done)).stage ≡ false
sent_none c done bytes to true = data_none c.protocol
sent_none c done bytes to false = on_none c.protocol _

stored_none : (b l : Bool) → is_receiving (if b then Activate else (if l then Flush else End)) ≡ false
stored_none true l = refl
stored_none false true = refl
stored_none false false = refl

same_receives : (c : Command) (done : ℕ) (bytes : List ℕ) (sent : ℕ) (stage : Stage) (i : Input) → is_asking stage i ≡ false
    → is_receiving (after (moment c done bytes sent stage) i).stage ≡ is_receiving stage
same_receives c done bytes sent Waiting Goes e = started_none c.write (is_queued c.protocol)
same_receives c done bytes sent Loading (Loads given) e = loaded_none c done bytes given sent (length given == part_len c done) (is_verify c.protocol)
same_receives c done bytes sent Sending Goes e = sent_none c done bytes _ _
same_receives c done bytes sent Storing Stores e = stored_none _ c.lasting
same_receives c done bytes sent SetUpWrite Goes e = absurd (cc)
same_receives c done bytes sent Activate Goes e = absurd (cc)
same_receives c done bytes sent Receiving (Comes part) e = absurd (cc)
same_receives c done bytes sent Flushing Flushes e = refl
same_receives c done bytes sent Loading Fails e = refl
same_receives c done bytes sent Storing Fails e = refl
same_receives c done bytes sent Flushing Fails e = refl
same_receives c done bytes sent stage Goes e = refl
same_receives c done bytes sent stage (Loads given) e = refl
same_receives c done bytes sent stage (Comes part) e = refl
same_receives c done bytes sent stage Stores e = refl
same_receives c done bytes sent stage Flushes e = refl
same_receives c done bytes sent stage Fails e = refl

-- ## The table

-- Data are awaited at this place alone, if at any
abbrev pub is_the : ℕ → Option ℕ → Bool
is_the q None = false
is_the q (Some p) = p == q

abbrev pub AllReceive : Table → Option ℕ → Type 0
AllReceive d o = (q : ℕ) → receives (get_or d.places q None) ≡ is_the q o

module _ (d : Table) (place : ℕ) (x : Option Moment) (long : length d.places ≡ 33) (low : place < 33) where
  here : get_or (set d.places place x) place None ≡ x
  here = get_or-set_same d.places place x None (omega (arith, low, long))

  put : (o o' : Option ℕ) → AllReceive d o → receives x ≡ is_the place o' → ((q : ℕ) → (q ≡ place → ⊥) → is_the q o ≡ is_the q o') → AllReceive (with_command d place x) o'
  put o o' are is others q = elim (cases_eq q place) [
    | inl same ↦ ap (λ k. receives (get_or (set d.places place x) k None)) same ∙ ap receives here ∙ is ∙ ap (λ k. is_the k o') (sym same)
    | inr apart ↦ ap receives (get_or-set_other d.places place q x None apart) ∙ are q ∙ others q apart
  ]

abbrev asking_at : Option Moment → Input → Bool
asking_at None i = false
asking_at (Some m) i = is_asking m.stage i

after_receives : (x : Option Moment) (i : Input) → asking_at x i ≡ false → receives (option_map (λ m. after m i) x) ≡ receives x
after_receives None i e = refl
after_receives (Some m) i e = same_receives m.command m.done m.bytes m.sent m.stage i e

input_receives : (l : Line) (o : Option ℕ) (p : ℕ) (i : Input) → length l.queue.table.places ≡ 33 → p < 33 → asking_at (command_at l p) i ≡ false → AllReceive l.queue.table o
    → AllReceive (with_input l.queue.table p i) o
input_receives l o p i long low quiet are =
    put l.queue.table p (option_map (λ m. after m i) (command_at l p)) long low o o are (after_receives (command_at l p) i quiet ∙ are p) (λ q apart. refl)

-- ## One deed

start_stage : (s : Stage) → starts (turn_of s) ≡ true → is_asking s Goes ≡ false
start_stage SetUpWrite e = absurd (cc)
start_stage Activate e = absurd (cc)
start_stage s e = refl

start_asks : (l : Line) (p : ℕ) (x : Option Moment) → may_start_at l p x ≡ true → asking_at x Goes ≡ false
start_asks l p None e = refl
start_asks l p (Some m) e = start_stage m.stage (of_and _ _ e).0

request_stage : (s : Stage) → is_request (turn_of s) ≡ true → is_asking s Goes ≡ false
request_stage SetUpWrite e = absurd (cc)
request_stage Activate e = absurd (cc)
request_stage s e = refl

request_asks : (x : Option Moment) → asks_at x ≡ true → asking_at x Goes ≡ false
request_asks None e = refl
request_asks (Some m) e = request_stage m.stage e

answer_stage : (s : Stage) (i : Input) → is_answer i ≡ true → is_asking s i ≡ false
answer_stage SetUpWrite Goes e = absurd (cc)
answer_stage Activate Goes e = absurd (cc)
answer_stage Receiving (Comes part) e = absurd (cc)
answer_stage s i e = refl

answer_asks : (x : Option Moment) (i : Input) → is_answer i ≡ true → asking_at x i ≡ false
answer_asks None i e = refl
answer_asks (Some m) i e = answer_stage m.stage i e

taken_receives : (l : Line) (c : Command) (ranks : List ℕ) (b : Bool) (o : Option ℕ) → is_under_way (command_at l c.place) ≡ b → length l.queue.table.places ≡ 33 → c.place < 33
    → AllReceive l.queue.table o
    → AllReceive (if b then l else record l { queue = with_table l.queue (if b then l.queue.table else with_command l.queue.table c.place (Some (opening c))); ranks = ranks }).queue.table o
taken_receives l c ranks true o free long low are = are
taken_receives l c ranks false o free long low are =
    put l.queue.table c.place (Some (opening c)) long low o o are (sym (not_way (command_at l c.place) free) ∙ are c.place) (λ q apart. refl)
  where
    ended : (s : Stage) → not (is_ended s) ≡ false → is_receiving s ≡ false
    ended Receiving e = absurd (cc)
    ended s e = refl

    not_way : (x : Option Moment) → is_under_way x ≡ false → receives x ≡ false
    not_way None e = refl
    not_way (Some m) e = ended m.stage e

answered_receives : (l : Line) (o : Option ℕ) (p : ℕ) (i : Input) (out : List ℕ) (c : Bool) → length l.queue.table.places ≡ 33 → p < 33 → is_answer i ≡ true → AllReceive l.queue.table o
    → AllReceive (if c then record { table = with_input l.queue.table p i; out = out; next = l.queue.next } else l.queue).table o
answered_receives l o p i out true long low ans are = input_receives l o p i long low (answer_asks (command_at l p) i ans) are
answered_receives l o p i out false long low ans are = are

deed_receives : (l : Line) (b : Books) (u : Option Counted) (o : Option ℕ) (d : Deed) → Stands l b u → IsDeed l d → IsStill false d → AllReceive l.queue.table o
    → AllReceive (after_deed l d).queue.table o
deed_receives l b u o (deed.Takes c) is may still are = taken_receives l c _ (is_under_way (command_at l c.place)) o refl is.agree.kept.commands may.0 are
deed_receives l b u o (deed.Starts p) is may still are = input_receives l o p Goes is.agree.kept.commands may.0 (start_asks l p (command_at l p) may.1) are
deed_receives l b u o (deed.Sends p) is may still are = absurd (false≢true still)
deed_receives l b u o (deed.Asks p) is may still are = input_receives l o p Goes is.agree.kept.commands may.0 (request_asks (command_at l p) may.1) are
deed_receives l b u o (deed.Hears p part) is may still are = absurd still
deed_receives l b u o (deed.Answers p number i) is may still are = answered_receives l o p i _ _ is.agree.kept.commands may.0 may.1 are
deed_receives l b u o deed.Resets is may still are = absurd (false≢true still)
deed_receives l b u o deed.Draws is may still are = are

deeds_receive : (ds : List Deed) (l : Line) (b : Books) (u : Option Counted) (o : Option ℕ) → Stands l b u → AreDone l ds → AreStill false ds → AllReceive l.queue.table o
    → AllReceive (after_deeds l ds).queue.table o
deeds_receive [] l b u o is done still are = are
deeds_receive (d ∷ ds) l b u o is done still are =
    deeds_receive ds (after_deed l d) _ u o (deed_stands l b u d is done.0 done.1) done.2 still.1 (deed_receives l b u o d is done.0 still.0 are)

quiet_receives : (d : DiskState) (b : Books) (u : Option Counted) (o : Option ℕ) (c : Call) → Stands (commands d) b u → IsCall d c → IsQuietCall d c → AreStillSteps false (steps_of d c)
    → AllReceive (commands d).queue.table o → AllReceive (commands (after_call d c)).queue.table o
quiet_receives d b u o c is may quiet still are =
    subst (λ (l : Line). AllReceive l.queue.table o) (sym (line_by d c))
    (deeds_receive (deeds_by d c) (commands d) b u o is (steps_done (steps_of d c) d.engine (call_are d c may) (call_quiet d c quiet)) (call_still false d c still) are)

-- ## Ends

end_stage : (s : Stage) → is_end (turn_of s) ≡ true → is_asking s Goes ≡ false
end_stage SetUpWrite e = absurd (cc)
end_stage Activate e = absurd (cc)
end_stage s e = refl

end_asks : (x : Option Moment) → is_end (turn_at x) ≡ true → asking_at x Goes ≡ false
end_asks None e = refl
end_asks (Some m) e = end_stage m.stage e

gone_long : (l : Line) (p : ℕ) → length l.queue.table.places ≡ 33 → length (after_deed l (deed.Sends p)).queue.table.places ≡ 33
gone_long l p long = length-set l.queue.table.places p _ ∙ long

record Ends (l : Line) (o : Option ℕ) : Type 0 where
  long : length l.queue.table.places ≡ 33
  all : AllReceive l.queue.table o

end_case : (l : Line) (o : Option ℕ) (tag : ℕ) (b : Bool) → (ends_at l tag && may_send l tag) ≡ b → tag < 33 → Ends l o → Ends (if b then after_deed l (deed.Sends tag) else l) o
end_case l o tag false e low is = is
end_case l o tag true e low is = record {
  long = gone_long l tag is.long;
  all = input_receives l o tag Goes is.long low (end_asks (command_at l tag) (of_and (ends_at l tag) (may_send l tag) e).0) is.all;
}

ends_receive : (l : Line) (o : Option ℕ) (n : ℕ) → n ≤ 32 → Ends l o → Ends (ends_sent l n) o
unfolding ends_sent
ends_receive l o zero low is = is
ends_receive l o (suc n) low is = end_case (ends_sent l n) o n _ refl (omega (arith, low)) (ends_receive l o n (omega (arith, low)) is)

-- ## Who awaits Data has the link

wire_case : (p : ℕ) (x : Option Moment) → IsOwn p x → p < 32 → receives x ≡ true → has_wire x ≡ true
wire_case p None own low r = absurd (false≢true r)
wire_case p (Some m) own low r =
    subst (λ (s : Stage). has_wire (Some (moment m.command m.done m.bytes m.sent s)) ≡ true) (sym (receiving_stage m.stage r))
    (and_true (is_queued m.command.protocol) true (own.0 ∙ lt-ltb p 32 low) refl)

awaited_wire : (l : Line) (b : Books) (u : Option Counted) (q : ℕ) → Stands l b u → q < 32 → receives (command_at l q) ≡ true → l.queue.table.wire ≡ Some q
awaited_wire l b u q is low r = ((is.sound q).wired (wire_case q (command_at l q) (is.sound q).own low r)).0

the_same : (q : ℕ) → is_the q (Some q) ≡ true
the_same q = eq-eqb q q refl

abbrev AreLow : Option ℕ → Type 0
AreLow o = (p : ℕ) → o ≡ Some p → p < 32

-- nobody has the link, so nothing is awaited
none_awaited : (l : Line) (b : Books) (u : Option Counted) (o : Option ℕ) → Stands l b u → AllReceive l.queue.table o → AreLow o → l.queue.table.wire ≡ None → o ≡ None
none_awaited l b u None is are low free = refl
none_awaited l b u (Some q) is are low free = absurd (let has = awaited_wire l b u q is (low q refl) (are q ∙ the_same q) in let both = sym free ∙ has in cc)

-- or another one has it
other_awaited : (l : Line) (b : Books) (u : Option Counted) (o : Option ℕ) (p : ℕ) → Stands l b u → AllReceive l.queue.table o → AreLow o → has_wire (command_at l p) ≡ true
    → receives (command_at l p) ≡ false → o ≡ None
other_awaited l b u None p is are low wire r = refl
other_awaited l b u (Some q) p is are low wire r =
    let has = awaited_wire l b u q is (low q refl) (are q ∙ the_same q) in
    let same : q ≡ p = same_Some q p (sym has ∙ ((is.sound p).wired wire).0) in
    absurd (false≢true (sym r ∙ are p ∙ ap (λ k. is_the k (Some q)) (sym same) ∙ the_same q))

-- ## A FIS of a command

abbrev pub sign_at : Command → Stage → Sign
sign_at c SetUpRead = SetsUp c.place 0 (c.auto_activate && not (not c.write))
sign_at c SetUpWrite = SetsUp c.place 0 (c.auto_activate && not (not c.write))
sign_at c Activate = Asks
sign_at c other = Plain

asks_sign : (m : Moment) (p : Protocol) → sign_reply (asks_by m p) ≡ Asks
asks_sign m protocol.Pio = refl
asks_sign m other = refl

fails_sign : (b : Bool) (one two : Reply) → sign_reply one ≡ Plain → sign_reply two ≡ Plain → sign_reply (if b then one else two) ≡ Plain
fails_sign true one two first second = first
fails_sign false one two first second = second

sign_case : (d : DiskState) (p : ℕ) (r : Reply) (c : Command) (done : ℕ) (bytes : List ℕ) (sent : ℕ) (stage : Stage) → Some (out.Of p r) ≡ out_at d p (Some (moment c done bytes sent stage))
    → IsNoPio r → sign_reply r ≡ sign_at c stage
sign_case d p r c done bytes sent SetUpRead e never = ap (λ x. sign_reply (reply_or r x)) e
sign_case d p r c done bytes sent SetUpWrite e never = ap (λ x. sign_reply (reply_or r x)) e
sign_case d p r c done bytes sent Announce e never = absurd (subst IsNoPio (ap (λ x. reply_or r x) e) never)
sign_case d p r c done bytes sent Activate e never = ap (λ x. sign_reply (reply_or r x)) e ∙ asks_sign (moment c done bytes sent Activate) c.protocol
sign_case d p r c done bytes sent End e never = ap (λ x. sign_reply (reply_or r x)) e
sign_case d p r c done bytes sent Fail e never = ap (λ x. sign_reply (reply_or r x)) e ∙ fails_sign (nat_lt c.place 32) _ _ refl refl
sign_case d p r c done bytes sent stage e never = absurd (cc)

-- what it leaves
record Went (l : Line) (p : ℕ) (t : Talk) (s : Sign) : Type 0 where
  turn : IsInTurn t (Up s)
  next : Option ℕ
  all : AllReceive (after_deed l (deed.Sends p)).queue.table next
  low : AreLow next
  wants : (talk_by t (Up s)).wants ≡ is_some next
  reset : ends_all l p ≡ true → next ≡ None

none_low : AreLow None
none_low p e = absurd (cc)

one_low : (p : ℕ) → p < 32 → AreLow (Some p)
one_low p low q e = subst (λ (k : ℕ). k < 32) (same_Some p q e) low

not_fail : (l : Line) (p : ℕ) (x : Option Moment) (P : Type 0) → command_at l p ≡ x → is_fail (turn_at x) ≡ false → ends_all l p ≡ true → P
not_fail l p x P here never all = absurd (false≢true (sym never ∙ ap (λ (y : Option Moment). is_fail (turn_at y)) (sym here) ∙ (of_and _ _ all).1))

put_sent : (l : Line) (p : ℕ) (m : Moment) (o o' : Option ℕ) → length l.queue.table.places ≡ 33 → p < 33 → command_at l p ≡ Some m → AllReceive l.queue.table o
    → receives (Some (after m Goes)) ≡ is_the p o' → ((q : ℕ) → (q ≡ p → ⊥) → is_the q o ≡ is_the q o') → AllReceive (after_deed l (deed.Sends p)).queue.table o'
put_sent l p m o o' long low here are is others =
    subst (λ (x : Option Moment). AllReceive (with_command l.queue.table p (option_map (λ m. after m Goes) x)) o') (sym here)
    (put l.queue.table p (Some (after m Goes)) long low o o' are is others)

none_the : (o : Option ℕ) → o ≡ None → (q : ℕ) → is_the q o ≡ false
none_the o e q = ap (is_the q) e

other_the : (p q : ℕ) → (q ≡ p → ⊥) → is_the q (Some p) ≡ false
other_the p q apart = ne_eqb p q (λ e. apart (sym e))

-- a DMA Setup FIS
read_known : (c k : Command) (done : ℕ) (bytes : List ℕ) (sent : ℕ) (g : Ledger) → k ≡ c → Agrees c (moment k done bytes sent SetUpRead) g → k.write ≡ false
read_known c k done bytes sent g e (inl over) = absurd (cc)
read_known c k done bytes sent g e (inr known) = ap (λ (x : Command). x.write) e ∙ known.facts.0

write_known : (c k : Command) (done : ℕ) (bytes : List ℕ) (sent : ℕ) (g : Ledger) → k ≡ c → Agrees c (moment k done bytes sent SetUpWrite) g → k.write ≡ true
write_known c k done bytes sent g e (inl over) = absurd (cc)
write_known c k done bytes sent g e (inr known) = ap (λ (x : Command). x.write) e ∙ known.facts.0

auto_read : (a w : Bool) → w ≡ false → (a && not (not w)) ≡ false
auto_read true w e = ap (λ b. not (not b)) e
auto_read false w e = refl

auto_write : (a w : Bool) → w ≡ true → (a && not (not w)) ≡ a
auto_write true w e = ap (λ b. not (not b)) e
auto_write false w e = refl

abbrev the_if : Bool → ℕ → Option ℕ
the_if b p = if b then Some p else None

if_receives : (a : Bool) → is_receiving (if a then Receiving else Activate) ≡ a
if_receives true = refl
if_receives false = refl

if_the : (a : Bool) (p : ℕ) → is_the p (the_if a p) ≡ a
if_the true p = the_same p
if_the false p = refl

if_other : (a : Bool) (p q : ℕ) → (q ≡ p → ⊥) → is_the q (the_if a p) ≡ false
if_other true p q apart = other_the p q apart
if_other false p q apart = refl

if_low : (a : Bool) (p : ℕ) → p < 32 → AreLow (the_if a p)
if_low true p low = one_low p low
if_low false p low = none_low

if_some : (a : Bool) (p : ℕ) → a ≡ is_some (the_if a p)
if_some true p = refl
if_some false p = refl

module _ (l : Line) (b : Books) (u : Option Counted) (o : Option ℕ) (t : Talk) (p : ℕ) (is : Stands l b u) (may : IsDeed l (deed.Sends p)) (below : p < 32) (are : AllReceive l.queue.table o)
    (low : AreLow o) (wants : t.wants ≡ is_some o) (c : Command) (done : ℕ) (bytes : List ℕ) (sent : ℕ) where
  free_turn : (stage : Stage) → command_at l p ≡ Some (moment c done bytes sent stage) → wants_wire (turn_of stage) ≡ true → o ≡ None
  free_turn stage here wire = none_awaited l b u o is are low (may_free l p (moment c done bytes sent stage) here may.1 wire)

  plain_went : (stage : Stage) (s : Sign) → s ≡ Plain → command_at l p ≡ Some (moment c done bytes sent stage) → is_asking stage Goes ≡ false → is_fail (turn_of stage) ≡ false → Went l p t s
  plain_went stage s plain here asks fail =
      subst (Went l p t) (sym plain) (record {
        turn = tt;
        next = o;
        all = input_receives l o p Goes is.agree.kept.commands may.0 (ap (λ (x : Option Moment). asking_at x Goes) here ∙ asks) are;
        low = low;
        wants = wants;
        reset = λ all. not_fail l p (Some (moment c done bytes sent stage)) _ here fail all;
      })

  went : (stage : Stage) → command_at l p ≡ Some (moment c done bytes sent stage) → Went l p t (sign_at c stage)
  went SetUpRead here =
      let none : o ≡ None = free_turn SetUpRead here refl in
      let x = paged l b p (moment c done bytes sent SetUpRead) is.agree here in
      record {
        turn = wants ∙ ap is_some none;
        next = None;
        all = put_sent l p (moment c done bytes sent SetUpRead) o None is.agree.kept.commands may.0 here are refl (λ q apart. none_the o none q);
        low = none_low;
        wants = auto_read c.auto_activate c.write (read_known x.page.command c done bytes sent x.page.ledger x.same x.agrees);
        reset = λ all. refl;
      }
  went SetUpWrite here =
      let none : o ≡ None = free_turn SetUpWrite here refl in
      let x = paged l b p (moment c done bytes sent SetUpWrite) is.agree here in
      record {
        turn = wants ∙ ap is_some none;
        next = the_if c.auto_activate p;
        all = put_sent l p (moment c done bytes sent SetUpWrite) o (the_if c.auto_activate p) is.agree.kept.commands may.0 here are (if_receives c.auto_activate ∙ sym (if_the c.auto_activate p))
            (λ q apart. none_the o none q ∙ sym (if_other c.auto_activate p q apart));
        low = if_low c.auto_activate p below;
        wants = auto_write c.auto_activate c.write (write_known x.page.command c done bytes sent x.page.ledger x.same x.agrees) ∙ if_some c.auto_activate p;
        reset = λ all. not_fail l p (Some (moment c done bytes sent SetUpWrite)) _ here refl all;
      }
  went Activate here =
      let own : IsOwn p (Some (moment c done bytes sent Activate)) = subst (IsOwn p) here (is.sound p).own in
      let wire : has_wire (command_at l p) ≡ true = ap has_wire here ∙ and_true (is_queued c.protocol) true (own.0 ∙ lt-ltb p 32 below) refl in
      let none : o ≡ None = other_awaited l b u o p is are low wire (ap receives here) in
      record {
        turn = wants ∙ ap is_some none;
        next = Some p;
        all = put_sent l p (moment c done bytes sent Activate) o (Some p) is.agree.kept.commands may.0 here are (sym (the_same p)) (λ q apart. none_the o none q ∙ sym (other_the p q apart));
        low = one_low p below;
        wants = refl;
        reset = λ all. not_fail l p (Some (moment c done bytes sent Activate)) _ here refl all;
      }
  went Fail here =
      let none : o ≡ None = free_turn Fail here refl in
      record {
        turn = tt;
        next = o;
        all = input_receives l o p Goes is.agree.kept.commands may.0 (ap (λ (x : Option Moment). asking_at x Goes) here) are;
        low = low;
        wants = wants;
        reset = λ all. none;
      }
  went Waiting here = plain_went Waiting Plain refl here refl refl
  went Load here = plain_went Load Plain refl here refl refl
  went Loading here = plain_went Loading Plain refl here refl refl
  went Announce here = plain_went Announce Plain refl here refl refl
  went Sending here = plain_went Sending Plain refl here refl refl
  went Receiving here = plain_went Receiving Plain refl here refl refl
  went Store here = plain_went Store Plain refl here refl refl
  went Storing here = plain_went Storing Plain refl here refl refl
  went Flush here = plain_went Flush Plain refl here refl refl
  went Flushing here = plain_went Flushing Plain refl here refl refl
  went End here = plain_went End Plain refl here refl refl
  went Ended here = plain_went Ended Plain refl here refl refl

-- ## A disk and what went

pub record Turn (d : DiskState) (o : Option ℕ) (t : Talk) (k : Option Counted) : Type 0 where
  pub all : AllReceive (commands d).queue.table o
  pub low : AreLow o
  pub wants : t.wants ≡ is_some o
  pub told : t.told ≡ k

-- what a call leaves, step by step
record Turned (d : DiskState) (c : Call) (t : Talk) (k : Option Counted) : Type 0 where
  turns : AreInTurn t (call_steps c)
  next : Option ℕ
  turn : Turn (after_call d c) next (talk_after t (call_steps c)) (taken_call d c k)

none_receives : AllReceive none_under_way None
none_receives q = ap receives (each_is (Option Moment) 33 q None)

reset_case : (l : Line) (p : ℕ) (b : Bool) (o : Option ℕ) → (b ≡ true → o ≡ None) → AllReceive (after_deed l (deed.Sends p)).queue.table o
    → AllReceive (after_deeds l (if b then deed.Sends p ∷ deed.Resets ∷ [] else deed.Sends p ∷ [])).queue.table o
reset_case l p true o none are = subst (λ (x : Option ℕ). AllReceive none_under_way x) (sym (none refl)) none_receives
reset_case l p false o none are = are

sent_receives : (d : DiskState) (o : Option ℕ) (p : ℕ) (x : Out) → out_steps x ≡ engine.Sends p ∷ engine.Forgives ∷ [] → (ends_all (commands d) p ≡ true → o ≡ None)
    → AllReceive (after_deed (commands d) (deed.Sends p)).queue.table o → AllReceive (commands (after_call d (call.Sends x))).queue.table o
sent_receives d o p x is none now =
    let same : deeds_by d (call.Sends x) ≡ deeds_of d.engine.schedule (move.Sends p) =
    ap (λ (ss : List EngineStep). all_deeds d.engine.schedule (all_moves d.engine ss)) is ∙ sent_deeds d.engine p in
    subst (λ (l : Line). AllReceive l.queue.table o) (sym (line_by d (call.Sends x)))
    (subst (λ (ds : List Deed). AllReceive (after_deeds (commands d) ds).queue.table o) (sym same) (reset_case (commands d) p (ends_all (commands d) p) o none now))

one_step : (t : Talk) (s : Step) → talk_by t s ≡ talk_after t (s ∷ [])
unfolding talk_after
one_step t s = refl

no_step : (t : Talk) → t ≡ talk_after t []
unfolding talk_after
no_step t = refl

same_told : (r : Reply) (t : Talk) (k : Option Counted) → t.told ≡ k → (talk_by t (Up (sign_reply r))).told ≡ set_up_by r k
same_told (replies.SetUp s) t k e = refl
same_told replies.Activate t k e = e
same_told (replies.Announce a) t k e = e
same_told other t k e = e

module _ (d : DiskState) (b : Books) (u : Option Counted) (o : Option ℕ) (t : Talk) (k : Option Counted) (good : Good d b u) (was : Turn d o t k) where
  quiet_turned : (c : Call) → IsCall d c → IsQuietCall d c → AreStillSteps false (steps_of d c) → call_steps c ≡ [] → taken_call d c k ≡ k → Turned d c t k
  quiet_turned c may quiet still none same =
      let now : Turn (after_call d c) o t k = record { all = quiet_receives d b u o c good.stands may quiet still was.all; low = was.low; wants = was.wants; told = was.told } in
      record {
        turns = subst (AreInTurn t) (sym none) tt;
        next = o;
        turn = subst (λ (x : Talk). Turn (after_call d c) o x (taken_call d c k)) (no_step t ∙ ap (talk_after t) (sym none)) (subst (λ (x : Option Counted). Turn (after_call d c) o t x) (sym same) now);
      }

  -- a FIS that says nothing of Data
  plain_turned : (x : Out) → sign_out x ≡ Plain → set_up_out x k ≡ k → AllReceive (commands (after_call d (call.Sends x))).queue.table o → Turned d (call.Sends x) t k
  plain_turned x plain same all =
      let now : Turn (after_call d (call.Sends x)) o t k = record { all = all; low = was.low; wants = was.wants; told = was.told } in
      record {
        turns = (subst (λ (s : Sign). IsInTurn t (Up s)) (sym plain) tt, tt);
        next = o;
        turn = subst (λ (y : Talk). Turn (after_call d (call.Sends x)) o y (set_up_out x k)) (ap (λ (s : Sign). talk_by t (Up s)) (sym plain) ∙ one_step t (Up (sign_out x)))
            (subst (λ (y : Option Counted). Turn (after_call d (call.Sends x)) o t y) (sym same) now);
      }

  of_turned : (p : ℕ) (r : Reply) (x : Option Moment) → command_at (commands d) p ≡ x → IsOut d (Some (out.Of p r)) → Some (out.Of p r) ≡ out_at d p x → p < 32 → IsNoPio r
      → Turned d (call.Sends (out.Of p r)) t k
  of_turned p r None here may e below never = absurd (cc)
  of_turned p r (Some m) here may e below never =
      let sign : sign_reply r ≡ sign_at m.command m.stage = sign_case d p r m.command m.done m.bytes m.sent m.stage e never in
      let w : Went (commands d) p t (sign_at m.command m.stage) =
      went (commands d) b u o t p good.stands may.2 below was.all was.low was.wants m.command m.done m.bytes m.sent m.stage here in
      record {
        turns = (subst (λ (s : Sign). IsInTurn t (Up s)) (sym sign) w.turn, tt);
        next = w.next;
        turn = subst (λ (y : Talk). Turn (after_call d (call.Sends (out.Of p r))) w.next y (set_up_by r k)) (one_step t (Up (sign_reply r)))
            (record {
              all = sent_receives d w.next p (out.Of p r) refl w.reset w.all;
              low = w.low;
              wants = ap (λ (s : Sign). (talk_by t (Up s)).wants) sign ∙ w.wants;
              told = same_told r t k was.told;
            });
      }

  data_asks : (p n : ℕ) (x : Option Moment) → Some (out.Data p n) ≡ out_at d p x → (asking_at x Goes ≡ false) × (is_fail (turn_at x) ≡ false)
  data_asks p n None e = absurd (cc)
  data_asks p n (Some m) e =
      let s = (data_stage d p n m.command m.done m.bytes m.sent m.stage e).0 in
      (ap (λ (x : Stage). is_asking x Goes) s, ap (λ (x : Stage). is_fail (turn_of x)) s)

  out_turned : (x : Out) → IsOut d (Some x) → IsQueuedOut x → Turned d (call.Sends x) t k
  out_turned (out.Own r) may own =
      plain_turned (out.Own r) (ap sign_reply own) refl (quiet_receives d b u o (call.Sends (out.Own r)) good.stands may tt tt was.all)
  out_turned (out.Page p) may own = absurd own
  out_turned (out.Beside r) may own = absurd own
  out_turned (out.Ends tags) may own =
      plain_turned (out.Ends tags) refl refl (ends_receive (commands d) o 32 (omega arith) (record { long = good.stands.agree.kept.commands; all = was.all })).all
  out_turned (out.Of p r) may own = of_turned p r (command_at (commands d) p) refl may may.3 own.0 own.1
  out_turned (out.Data p n) may own =
      let asks = data_asks p n (command_at (commands d) p) may.3 in
      plain_turned (out.Data p n) refl refl
      (sent_receives d o p (out.Data p n) refl (λ all. not_fail (commands d) p (command_at (commands d) p) _ refl asks.1 all)
      (input_receives (commands d) o p Goes good.stands.agree.kept.commands may.2.0 asks.0 was.all))

  -- ## Data come

  awaits_is : receives (command_at (commands d) (data_place (commands d))) ≡ is_some o
  awaits_is = was.all (data_place (commands d)) ∙ by o refl
    where
      by : (x : Option ℕ) → o ≡ x → is_the (data_place (commands d)) o ≡ is_some o
      by None e = ap (is_the (data_place (commands d))) e ∙ ap is_some (sym e)
      by (Some q) e =
          let r : receives (command_at (commands d) q) ≡ true = was.all q ∙ ap (is_the q) e ∙ the_same q in
          let place : data_place (commands d) ≡ q = holder_place (commands d) b u q good.stands (wire_case q (command_at (commands d) q) (good.stands.sound q).own (was.low q e) r) in
          ap (is_the (data_place (commands d))) e ∙ ap (λ j. is_the j (Some q)) place ∙ the_same q ∙ ap is_some (sym e)

  came_not : (s : Stage) (c : Command) (done : ℕ) (bytes : List ℕ) (sent : ℕ) (part : List ℕ) → is_receiving (after (moment c done bytes sent s) (Comes part)).stage ≡ false
  came_not Receiving c done bytes sent part = by _ _
    where
      by : (x y : Bool) → is_receiving (if x then moment c done bytes sent Fail else moment c done (bytes ++ part) sent (if y then Activate else Store)).stage ≡ false
      by true y = refl
      by false true = refl
      by false false = refl
  came_not s c done bytes sent part = refl

  came_none : (x : Option Moment) (part : List ℕ) → receives (option_map (λ m. after m (Comes part)) x) ≡ false
  came_none None part = refl
  came_none (Some m) part = came_not m.stage m.command m.done m.bytes m.sent part

  others_none : (q : ℕ) → (q ≡ data_place (commands d) → ⊥) → is_the q o ≡ false
  others_none q apart = by (is_the q o) refl
    where
      low_the : (q : ℕ) (o : Option ℕ) → AreLow o → is_the q o ≡ true → q < 32
      low_the q None low e = absurd (false≢true e)
      low_the q (Some p) low e = subst (λ (k : ℕ). k < 32) (eqb-true p q e) (low p refl)

      by : (x : Bool) → is_the q o ≡ x → is_the q o ≡ false
      by false e = e
      by true e =
          let r : receives (command_at (commands d) q) ≡ true = was.all q ∙ e in
          absurd (apart (sym (holder_place (commands d) b u q good.stands (wire_case q (command_at (commands d) q) (good.stands.sound q).own (low_the q o was.low e) r))))

  more_told : (n : ℕ) → (if t.wants then more_by n t.told else t.told) ≡ (if is_some o then more_by n k else k)
  more_told n = ap (λ (x : Bool). if x then more_by n t.told else t.told) was.wants ∙ ap (λ (x : Option Counted). if is_some o then more_by n x else x) was.told

  data_turned : (x : Option ℕ) (bytes : List ℕ) → x ≡ None
      → Turn (data_by d x bytes) None (talk_by t (Down (length bytes))) (if is_awaited d x then more_by (length bytes) k else k)
  data_turned (Some blocks) bytes none = absurd (cc)
  data_turned None bytes none = record {
    all = put (commands d).queue.table (data_place (commands d)) (option_map (λ m. after m (Comes bytes)) (command_at (commands d) (data_place (commands d)))) good.stands.agree.kept.commands
        (place_low (commands d)) o None was.all (came_none (command_at (commands d) (data_place (commands d))) bytes) (λ q apart. others_none q apart);
    low = none_low;
    wants = refl;
    told = more_told (length bytes) ∙ ap (λ (y : Bool). if y then more_by (length bytes) k else k) (sym awaits_is);
  }

  record FisTurned (r : Result Fis FisFault) : Type 0 where
    turns : AreInTurn t (data_steps r)
    next : Option ℕ
    turn : Turn (fis_heard d r) next (talk_after t (data_steps r)) (taken_fis d r k)

  takes_still : (a : Act) (c : Command) → a ≡ act.Takes c → AreStillSteps false (act_steps d.engine a)
  takes_still a c is = subst (λ (x : Act). AreStillSteps false (act_steps d.engine x)) (sym is) (tt, tt)

  fis_turned : (f : List ℕ) (r : Result Fis FisFault) → view_seen f ≡ r → IsCall d (call.Hears f) → IsQueuedFis d r → FisTurned r
  fis_turned f (Ok (view.RegH2D g)) e may own = record {
    turns = tt;
    next = o;
    turn = subst (λ (x : Talk). Turn (fis_heard d (Ok (view.RegH2D g))) o x k) (no_step t) (record {
      all = subst (λ (x : Result Fis FisFault). AllReceive (commands (fis_heard d x)).queue.table o) e
          (quiet_receives d b u o (call.Hears f) good.stands may tt
          (subst (λ (x : Result Fis FisFault). AreStillSteps false (fis_steps d x)) (sym e) (takes_still (register_told d g).act own.command own.takes)) was.all);
      low = was.low;
      wants = was.wants;
      told = was.told;
    });
  }
  fis_turned f (Ok (view.Payload g)) e may own = record {
    turns = (tt, tt);
    next = None;
    turn = subst (λ (x : Talk). Turn (data_by d (heard_data d.front.task) (drop 4 g)) None x (taken_fis d (Ok (view.Payload g)) k)) (one_step t (Down (length (drop 4 g))))
        (data_turned (heard_data d.front.task) (drop 4 g) own);
  }
  fis_turned f other e may own = record {
    turns = tt;
    next = o;
    turn = subst (λ (x : Talk). Turn d o x k) (no_step t) was;
  }

  call_turned : (c : Call) → IsCall d c → IsOfQueue d c → Turned d c t k
  call_turned call.Plugs may own = absurd own
  call_turned (call.Hears f) may own = let x = fis_turned f (view_seen f) refl may own in record { turns = x.turns; next = x.next; turn = x.turn }
  call_turned (call.Starts x) may own = quiet_turned (call.Starts x) may tt (start_still false x) refl refl
  call_turned (call.Asks r) may own = quiet_turned (call.Asks r) may tt (ask_still false r.place) refl refl
  call_turned (call.Answers number a) may own = quiet_turned (call.Answers number a) may tt (tt, tt) refl refl
  call_turned (call.Sends x) may own = out_turned x may own

-- ## A stretch

turn_both : (xs ys : List Step) (t : Talk) → AreInTurn t xs → AreInTurn (talk_after t xs) ys → AreInTurn t (xs ++ ys)
unfolding talk_after
turn_both [] ys t one two = two
turn_both (x ∷ xs) ys t one two = (one.0, turn_both xs ys (talk_by t x) one.1 two)

talk_both : (xs ys : List Step) (t : Talk) → talk_after t (xs ++ ys) ≡ talk_after (talk_after t xs) ys
unfolding talk_after
talk_both [] ys t = refl
talk_both (x ∷ xs) ys t = talk_both xs ys (talk_by t x)

record Ran (d : DiskState) (calls : List Call) (t : Talk) (k : Option Counted) : Type 0 where
  turns : AreInTurn t (calls_steps calls)
  next : Option ℕ
  turn : Turn (after_calls d calls) next (talk_after t (calls_steps calls)) (taken_after d k calls)

runs : (calls : List Call) (d : DiskState) (b : Books) (u : Option Counted) (o : Option ℕ) (t : Talk) (k : Option Counted) → Good d b u → AreCalls d calls → AreOfQueue d calls
    → Turn d o t k → Ran d calls t k
unfolding after_calls taken_after talk_after
runs [] d b u o t k good are own was = record { turns = tt; next = o; turn = was }
runs (c ∷ later) d b u o t k good are own was =
    let one : Turned d c t k = call_turned d b u o t k good was c are.0 own.0 in
    let rest : Ran (after_call d c) later (talk_after t (call_steps c)) (taken_call d c k) =
    runs later (after_call d c) (books_after b (seen_of (commands d) (deeds_by d c))) (counted_call c u) one.next (talk_after t (call_steps c)) (taken_call d c k) (call_good d b u c good are.0)
    are.1 own.1 one.turn in
    record {
      turns = turn_both (call_steps c) (calls_steps later) t one.turns rest.turns;
      next = rest.next;
      turn = subst (λ (x : Talk). Turn (after_calls (after_call d c) later) rest.next x (taken_after (after_call d c) (taken_call d c k) later))
          (sym (talk_both (call_steps c) (calls_steps later) t)) rest.turn;
    }

are_later : (base calls : List Call) (d : DiskState) → AreCalls d (base ++ calls) → AreCalls d base × AreCalls (after_calls d base) calls
unfolding after_calls
are_later [] calls d are = (tt, are)
are_later (c ∷ base) calls d are = let x = are_later base calls (after_call d c) are.1 in ((are.0, x.0), x.1)

stretch : (p : Profile) (limit : ℕ) (base calls : List Call) → AreCalls (new_disk p limit) (base ++ calls) → AwaitsNone (reached p limit base) → AreOfQueue (reached p limit base) calls
    → Ran (reached p limit base) calls quiet_talk None
stretch p limit base calls are none own =
    let parts = are_later base calls (new_disk p limit) are in
    runs calls (reached p limit base) (books_after no_books (seen_in p limit base)) (counted_after None base) None quiet_talk None
    (calls_good base (new_disk p limit) no_books None (new_good p limit) parts.0) parts.1 own
    (record { all = none; low = none_low; wants = refl; told = refl })

pub asks_in_turn : AsksInTurn
asks_in_turn p limit base calls are none own = (stretch p limit base calls are none own).turns

some_the : (q : ℕ) (o : Option ℕ) → is_the q o ≡ true → is_some o ≡ true
some_the q None e = absurd (false≢true e)
some_the q (Some p) e = refl

pub awaits_asked : DataAreTaken → AwaitsWhatItAsked
awaits_asked taken p limit base calls are none own place low r =
    let ran : Ran (reached p limit base) calls quiet_talk None = stretch p limit base calls are none own in
    let same : reached p limit (base ++ calls) ≡ after_calls (reached p limit base) calls = calls_after base calls (new_disk p limit) in
    let now : is_the place ran.next ≡ true = sym (ran.turn.all place) ∙ ap (λ (x : DiskState). receives (command_at (commands x) place)) (sym same) ∙ r in
    record {
      wants = ran.turn.wants ∙ some_the place ran.next now;
      told = elim (taken p limit base calls place are low r) [
        | inl empty ↦ inl (ran.turn.told ∙ empty)
        | inr is ↦ inr (subst (λ (x : Option Counted). AreTakenFor (reached p limit (base ++ calls)) (page_in p limit (base ++ calls) place) place x) (sym ran.turn.told) is)
      ];
    }
