-- For `core_isolated`. The history of a device of the core is told by its own events.
use Rattle.std.proofs.Common.{◌≡◌, ℕ, zero, suc, ◌<◌, Bool, true, false, ◌&&◌, List, [], ◌∷◌, ◌++◌, drop, refl, sym, ◌∙◌, ap, ap₂, subst, lt_trans}
use Rattle.std.proofs.{Common.{lt-suc_self, Option, Some, None}, lemmas.Bool.{cond-false, cond-true, eqb-true, not-false, or_parts, true≢false}}
use Rattle.std.specs.{Prelude.{◌==◌, if◌then◌else◌, is_some, map, not}, List.AllZip}
use Rattle.fis_view.specs.{Seen.seen, declared.view.Fis.Fis}
use Rattle.host_memory.specs.declared.table.Prd.{Prd}
use Rattle.hba_commands.specs.declared.command.Command.{Command}
use Rattle.slots.specs.{Data.payload, Slots.{Issue, context_of, holds, issue_at, match_some, own_issue}}
use Rattle.hba_fbs.specs.declared.{hearing.{Fault.Fault, Heard.Heard}, register.Register.{Register, TheVariants.{Cmd, Ci, Fbs}}}
use Rattle.hba_fbs.specs.declared.{report.TakeReport.TakeReport, room.Room.Room, turn.Turn.{Turn, TheVariants.{Feeds, Orders, Rests}}}
use Rattle.hba_fbs.specs.{Choosing.MayChoose, Deciding.decided, Offering.{Offer, aimed_by, asked_by}, Sending.{next_receiver, next_to_send}}
use Rattle.hba_fbs.specs.{Taking.{admitted, ignores, is_running, port_cause, port_of, stops_with}, Turning.{IsOrdered, turn_of}, Views.DeviceView}
use Rattle.hba_fbs.specs.{Views.{Port, view_of}, Writing.{cleared_by, is_device}}
use Rattle.hba_laws.specs.{Alike.{AreFilledAlike, told_going, told_issue, told_issued, told_order, told_own}, CoreHistories.CoreFillAlike}
use Rattle.hba_laws.specs.CoreHistories.{CoreHistoriesByOwn, Given, IsGivenAlike, event_by, given_by, given_through, happened, history_given}
use Rattle.hba_laws.specs.{CoreHistories.{history_through, told_arrival, told_given, turned_for, with_caller, written_for}, Cores.AreCores}
use Rattle.hba_laws.specs.Cores.{AreOfOnes, Arrived, Chose, Commanded, CoreEvent, CoreOwn, DoesBy, Fed, Flushed, Gave, Gone, Hung, IsCore, IsPart}
use Rattle.hba_laws.specs.Cores.{Overridden, Overrode, Own, Placed, RunsBy, Sent, Took, Wrote, chosen_to, own_by, part_by, part_by_all, stops_by}
use Rattle.hba_laws.specs.{Cores.{turned_to, used}, Delivering.{begun_by, event_heard, event_sent, is_control_issue}, History.{Event, History}}
use Rattle.hba_laws.specs.{History.{filled, issued}, Isolation.{Cleared, Emptied, Issued, OwnEvent, Went, lowers_st, next_own}, Parts.DevicePart}
use Rattle.hba_laws.specs.Between.{IsOrder}
use Rattle.hba_laws.specs.History as event
use Rattle.hba_laws.proofs.{histories.ChoiceLemmas.chosen_own, isolation.CoreLemmas.{decided_used, feeds_by, first_core, order_by, skipped, step}}
use Rattle.hba_laws.proofs.isolation.OutgoingLemmas.{order_is_own, order_no_payload, order_stands}

-- ---- a list of one own event, or none

pub told_if : (n : ℕ) (p : DevicePart) (past : History) (f : CoreOwn → Given) (b : Bool) (e : CoreOwn) (h : History) → (b ≡ true → told_given n p (f e).event (f e).tables (f e).bytes ≡ h)
    → history_given n p past (map f (if b then e ∷ [] else [])) ≡ (if b then h else []) ++ past
told_if n p past f true e h here = ap (λ (x : History). x ++ past) (here refl)
told_if n p past f false e h here = refl

-- ---- a frame is received

heard_case : (n : ℕ) (v : DeviceView) (on : Bool) (room : Room) (fis : Option Fis) (bytes : List ℕ) (ignored : Bool) → (not ignored && stops_with on (decided n v room fis).fault) ≡ false
    → (if ignored then None else event_heard (decided n v (used room) fis) bytes) ≡ (if ignored then None else event_heard (decided n v room fis) bytes)
heard_case n v on room fis bytes true none = refl
heard_case n v on room fis bytes false none =
    let f : Option Fault = (decided n v room fis).fault in
    let quiet : is_some (port_cause f) ≡ false = (or_parts (not on && is_some f) (is_some (port_cause f)) none).1 in
    ap (λ (h : Heard). event_heard h bytes) (sym (decided_used n v room fis quiet))

came : (n : ℕ) (old : Port) (p : DevicePart) (frame : List ℕ) (room : Room) → is_running old ≡ true → IsPart n old p
    → (not (ignores n old frame) && stops_with old.registers.switching (decided n (view_of n old) room (admitted n (seen frame))).fault) ≡ false
    → told_arrival n p room frame ≡ (if ignores n old frame then None else event_heard (decided n (view_of n old) room (admitted n (seen frame))) (drop 4 frame))
came n old p frame room runs is none =
    let fis : Option Fis = admitted n (seen frame) in
    ap (λ (b : Bool). if b then None else event_heard (decided n p.view (used room) fis) (drop 4 frame)) (skipped n old p frame runs is)
    ∙ ap (λ (v : DeviceView). if ignores n old frame then None else event_heard (decided n v (used room) fis) (drop 4 frame)) is.view
    ∙ heard_case n (view_of n old) old.registers.switching room fis (drop 4 frame) (ignores n old frame) none

took : (n : ℕ) (old : Port) (p : DevicePart) (frame : List ℕ) (room : Room) (report : TakeReport) (past : History) → is_running old ≡ true → IsPart n old p → stops_by old (Took frame room report) ≡ false
    → history_given n p past (given_by n old (Took frame room report)) ≡ happened n old (Took frame room report) ++ past
took n old p frame room report past runs is none =
    told_if n p past (with_caller (Took frame room report)) (port_of frame == n) (Arrived room frame) (match_some (event_by old room frame) [] (λ e. e ∷ []))
    (λ same. ap (λ (o : Option Event). match_some o [] (λ e. e ∷ [])) (subst Told (eqb-true (port_of frame) n same) (λ is. came (port_of frame) old p frame room runs is none) is))
  where
    Told : ℕ → Type 0
    Told m = IsPart m old p → told_arrival m p room frame ≡ event_by old room frame

-- ---- a register is written

wrote : (n : ℕ) (old : Port) (p : DevicePart) (register : Register) (value : ℕ) (offer : Offer) (tables : ℕ → List Prd) (past : History) → lowers_st register old.registers value ≡ false
    → history_given n p past (given_by n old (Wrote register value offer tables)) ≡ written_for n old register value offer tables ++ past
wrote n old p Cmd value offer tables past none = sym (ap (λ (b : Bool). (if b then event.Emptied ∷ [] else []) ++ past) none)
wrote n old p Ci value offer tables past none =
    told_if n p past (with_caller (Wrote Ci value offer tables)) (n == aimed_by old.registers offer value) (Own (Issued (asked_by offer value))) (told_issued (asked_by offer value) tables 32) (λ same. refl)
wrote n old p Fbs value offer tables past none =
    told_if n p past (with_caller (Wrote Fbs value offer tables)) (is_device n (cleared_by old.errors value)) (Own Cleared) (event.Emptied ∷ []) (λ same. refl)
wrote n old p other value offer tables past none = refl

-- ---- what goes out

fed : (n : ℕ) (old : Port) (p : DevicePart) (bytes : List ℕ) → IsPart n old p → is_some (payload (context_of old.slots n)) ≡ true → told_going p bytes ≡ event.Carried (drop 4 bytes) ∷ []
fed n old p bytes is has =
    let asked : is_some (payload p.view.slots.context) ≡ true = ap (λ (x : DeviceView). is_some (payload x.slots.context)) is.view ∙ has in
    cond-true (is_some (payload p.view.slots.context)) (event.Carried (drop 4 bytes) ∷ [])
    (match_some (next_own p.view) [] (λ slot. begun_by slot (own_issue p.view.slots slot) ++ told_order p slot ∷ [])) asked

ordered : (n : ℕ) (old : Port) (p : DevicePart) (slot : ℕ) (command : Command) (bytes : List ℕ) → n < 16 → IsCore old → IsPart n old p → IsOrder old n slot command (next_receiver old) (next_to_send old)
    → told_going p bytes ≡ begun_by slot (issue_at old.slots slot) ++ event_sent old.slots slot ∷ []
ordered n old p slot command bytes lt before is order =
    let none : is_some (payload p.view.slots.context) ≡ false =
    ap (λ (x : DeviceView). is_some (payload x.slots.context)) is.view ∙ order_no_payload old n slot lt before.slots.slots order.owns order.next order.no_data in
    let next : next_own p.view ≡ Some slot = ap next_own is.view ∙ order_is_own old n slot lt before.slots.slots order.owns order.next in
    let stands : own_issue p.view.slots slot ≡ issue_at old.slots slot = ap (λ (x : DeviceView). own_issue x.slots slot) is.view ∙ order_stands old n slot before.slots.slots order.owns order.next in
    cond-false (is_some (payload p.view.slots.context)) (event.Carried (drop 4 bytes) ∷ []) (match_some (next_own p.view) [] (λ k. begun_by k (own_issue p.view.slots k) ++ told_order p k ∷ [])) none
    ∙ ap (λ (o : Option ℕ). match_some o [] (λ k. begun_by k (own_issue p.view.slots k) ++ told_order p k ∷ [])) next
    ∙ ap (λ (o : Option Issue). begun_by slot o ++ (if holds is_control_issue o then event.SentControl slot else event.Sent slot) ∷ []) stands

gave : (n : ℕ) (old : Port) (p : DevicePart) (t : Turn) (bytes : List ℕ) (past : History) → n < 16 → IsCore old → IsPart n old p → turn_of old ≡ t
    → history_given n p past (map (with_caller (Gave bytes)) (turned_to n t)) ≡ turned_for n old t bytes ++ past
gave n old p Rests bytes past lt before is next = refl
gave n old p (Feeds dev slot offset len) bytes past lt before is next =
    told_if n p past (with_caller (Gave bytes)) (dev == n) (Own Went) (event.Carried (drop 4 bytes) ∷ [])
    (λ same.
    fed n old p bytes is
    (subst (λ (m : ℕ). is_some (payload (context_of old.slots m)) ≡ true) (eqb-true dev n same)
    (feeds_by old (not (is_running old)) (next_receiver old) (next_to_send old) dev slot offset len next)))
gave n old p (Orders dev slot command) bytes past lt before is next =
    told_if n p past (with_caller (Gave bytes)) (dev == n) (Own Went) (begun_by slot (issue_at old.slots slot) ++ event_sent old.slots slot ∷ [])
    (λ same.
    ordered n old p slot command bytes lt before is
    (subst (λ (m : ℕ). IsOrder old m slot command (next_receiver old) (next_to_send old)) (eqb-true dev n same)
    (order_by old (not (is_running old)) (next_receiver old) (next_to_send old) dev slot command next)))

-- ---- what the caller chose

sent : (n : ℕ) (old : Port) (p : DevicePart) (slot : ℕ) (command : Command) → IsOrdered old n slot command → IsPart n old p
    → begun_by slot (own_issue p.view.slots slot) ++ told_order p slot ∷ [] ≡ begun_by slot (issue_at old.slots slot) ++ event_sent old.slots slot ∷ []
sent n old p slot command order is =
    ap (λ (o : Option Issue). begun_by slot o ++ (if holds is_control_issue o then event.SentControl slot else event.Sent slot) ∷ [])
    (ap (λ (x : DeviceView). own_issue x.slots slot) is.view ∙ chosen_own old n slot command order)

chose : (n : ℕ) (old : Port) (p : DevicePart) (t : Turn) (bytes : List ℕ) (past : History) → MayChoose old t → IsPart n old p
    → history_given n p past (map (with_caller (Chose t bytes)) (chosen_to n t)) ≡ turned_for n old t bytes ++ past
chose n old p Rests bytes past may is = refl
chose n old p (Feeds dev slot offset len) bytes past may is =
    told_if n p past (with_caller (Chose (Feeds dev slot offset len) bytes)) (dev == n) Fed (event.Carried (drop 4 bytes) ∷ []) (λ same. refl)
chose n old p (Orders dev slot command) bytes past may is =
    told_if n p past (with_caller (Chose (Orders dev slot command) bytes)) (dev == n) (Sent slot) (begun_by slot (issue_at old.slots slot) ++ event_sent old.slots slot ∷ [])
    (λ same. sent n old p slot command (subst (λ (m : ℕ). IsOrdered old m slot command) (eqb-true dev n same) may.1) is)

-- an own event that tells nothing, or none
told_nothing : (n : ℕ) (p : DevicePart) (past : History) (f : CoreOwn → Given) (b : Bool) (e : CoreOwn) → told_given n p (f e).event (f e).tables (f e).bytes ≡ []
    → history_given n p past (map f (if b then e ∷ [] else [])) ≡ past
told_nothing n p past f true e none = ap (λ (x : History). x ++ past) none
told_nothing n p past f false e none = refl

-- ---- one event

pub told_by : (n : ℕ) (old new : Port) (event : CoreEvent) (p : DevicePart) (past : History) → n < 16 → IsCore old → is_running old ≡ true → DoesBy old event new → stops_by old event ≡ false → IsPart n old p
    → history_given n p past (given_by n old event) ≡ happened n old event ++ past
told_by n old new (Took frame room report) p past lt before runs does none is = took n old p frame room report past runs is none
told_by n old new (Wrote register value offer tables) p past lt before runs does none is = wrote n old p register value offer tables past none
told_by n old new (Flushed dev) p past lt before runs does none is = told_if n p past (with_caller (Flushed dev)) (dev == n) (Own Emptied) (event.Emptied ∷ []) (λ same. refl)
told_by n old new (Gave bytes) p past lt before runs does none is = gave n old p (turn_of old) bytes past lt before is refl
told_by n old new (Placed dev slots offer tables) p past lt before runs does none is =
    told_if n p past (with_caller (Placed dev slots offer tables)) (dev == n) (Own (Issued (asked_by offer slots))) (told_issued (asked_by offer slots) tables 32) (λ same. refl)
told_by n old new (Chose turn bytes) p past lt before runs does none is = chose n old p turn bytes past does.0 is
told_by n old new (Commanded value) p past lt before runs does none is = sym (ap (λ (b : Bool). (if b then event.Emptied ∷ [] else []) ++ past) none)
told_by n old new (Overrode dev) p past lt before runs does none is = told_nothing n p past (with_caller (Overrode dev)) (dev == n) Overridden refl
told_by n old new (Hung dev line) p past lt before runs does none is = told_if n p past (with_caller (Hung dev line)) (dev == n) (Gone line) (event.Emptied ∷ []) (λ same. refl)
told_by n old new other p past lt before runs does none is = absurd (true≢false none)

-- ---- lists of events

abbrev events_of : List Given → List CoreOwn
events_of gs = map (λ (g : Given). g.event) gs

by_append : (n : ℕ) (p : DevicePart) (past : History) (xs ys : List Given)
    → history_given n p past (xs ++ ys) ≡ history_given n (part_by_all n p (events_of xs)) (history_given n p past xs) ys
by_append n p past [] ys = refl
by_append n p past (x ∷ xs) ys = by_append n (part_by n p x.event) (told_given n p x.event x.tables x.bytes ++ past) xs ys

events_back : (event : CoreEvent) (es : List CoreOwn) → events_of (map (with_caller event) es) ≡ es
events_back event [] = refl
events_back event (e ∷ es) = ap (λ (xs : List CoreOwn). e ∷ xs) (events_back event es)

told_through : (n : ℕ) → n < 16 → (old new : Port) (events : List CoreEvent) (run : RunsBy old events new) → AreCores old new events run → AreOfOnes old new events run → (p : DevicePart) → IsPart n old p → (past : History)
    → history_through n past old new events run ≡ history_given n p past (given_through n old new events run)
told_through n lt old new [] run cores ones p is past = refl
told_through n lt old new (event ∷ events) run cores ones p is past =
    let parts = or_parts (not (is_running old)) (stops_by old event) ones.0 in
    let runs : is_running old ≡ true = not-false (is_running old) parts.0 in
    let rest : List Given = given_through n run.0 new events run.2 in
    let now : List Given = given_by n old event in
    let q : DevicePart = part_by_all n p (own_by n old event) in
    let after : IsPart n run.0 (part_by_all n p (own_by n old event)) = step n old run.0 event p lt cores.0 (first_core run.0 new events run.2 cores.1) runs run.1 parts.1 is in
    told_through n lt run.0 new events run.2 cores.1 ones.1 q after (happened n old event ++ past)
    ∙ ap (λ (h : History). history_given n q h rest) (sym (told_by n old run.0 event p past lt cores.0 runs run.1 parts.1 is))
    ∙ ap (λ (es : List CoreOwn). history_given n (part_by_all n p es) (history_given n p past now) rest) (sym (events_back event (own_by n old event)))
    ∙ sym (by_append n p past now rest)

pub core_histories_by_own : CoreHistoriesByOwn
core_histories_by_own n lt old new events run part is past = told_through n lt old new events run.run run.cores run.ones part is past

pub filled_alike : (h g : History) → h ≡ g → AreFilledAlike h g
filled_alike h g same = record {
  histories = same;
  issues = λ s. ap (issued s) same;
  bytes = λ s i. ap (λ (x : History). filled s x i) same;
}

-- PRDs that are the same below a slot tell the same of the commands issued below it
issued_alike : (commands : ℕ → Option Command) (one other : ℕ → List Prd) (m : ℕ)
    → ((slot : ℕ) → slot < m → one slot ≡ other slot) → told_issued commands one m ≡ told_issued commands other m
unfolding told_issued
issued_alike commands one other zero same = refl
issued_alike commands one other (suc m) same =
    ap₂ (λ (table : List Prd) (h : History). told_issue m table (commands m) ++ h) (same m (lt-suc_self m))
    (issued_alike commands one other m (λ slot lt. same slot (lt_trans lt (lt-suc_self m))))

pub own_alike : (n : ℕ) (p : DevicePart) (own : OwnEvent) (one other : ℕ → List Prd) (bytes : List ℕ)
    → ((slot : ℕ) → slot < 32 → one slot ≡ other slot) → told_own n p own one bytes ≡ told_own n p own other bytes
own_alike n p (Issued commands) one other bytes same = issued_alike commands one other 32 same
own_alike n p rest one other bytes same = refl

given_alike : (n : ℕ) (p : DevicePart) (event : CoreOwn) (one other : ℕ → List Prd) (bytes : List ℕ)
    → ((slot : ℕ) → slot < 32 → one slot ≡ other slot) → told_given n p event one bytes ≡ told_given n p event other bytes
given_alike n p (Arrived room frame) one other bytes same = refl
given_alike n p (Own event) one other bytes same = own_alike n p event one other bytes same
given_alike n p event one other bytes same = refl

by_alike : (n : ℕ) (p : DevicePart) (past : History) (xs ys : List Given) → AllZip IsGivenAlike xs ys
    → history_given n p past xs ≡ history_given n p past ys
by_alike n p past [] [] alike = refl
by_alike n p past (x ∷ xs) (y ∷ ys) alike =
    let same = alike.0 in
    ap (λ (h : History). history_given n (part_by n p x.event) (h ++ past) xs)
    (given_alike n p x.event x.tables y.tables x.bytes same.tables
    ∙ ap₂ (λ (e : CoreOwn) (b : List ℕ). told_given n p e y.tables b) same.event same.bytes)
    ∙ ap (λ (e : CoreOwn). history_given n (part_by n p e) (told_given n p y.event y.tables y.bytes ++ past) xs) same.event
    ∙ by_alike n (part_by n p y.event) (told_given n p y.event y.tables y.bytes ++ past) xs ys alike.1
by_alike n p past [] (y ∷ ys) alike = absurd alike
by_alike n p past (x ∷ xs) [] alike = absurd alike

pub core_fill_alike : CoreFillAlike
core_fill_alike n lt part old new events run is old2 new2 events2 run2 is2 past own =
    filled_alike _ _
    (core_histories_by_own n lt old new events run part is past ∙ by_alike n part past _ _ own ∙ sym (core_histories_by_own n lt old2 new2 events2 run2 part is2 past))
