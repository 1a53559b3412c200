-- Events and calls by which a command that waits in its slot does so still, if they carry no Data.
use Rattle.std.proofs.Common.{◌≡◌, ℕ, zero, suc, ◌<◌, ◌^◌, ◌&&◌, Bool, true, false, not, List, [], ◌∷◌, ◌++◌, drop, refl, sym, ap, ◌∙◌, arith, Option}
use Rattle.std.proofs.{Common.{Some, None}, lemmas.Bool.{eq-eqb, eqb-true, false≢true}}
use Rattle.std.specs.{Prelude.{◌==◌, IfSome, if◌then◌else◌}, Option.option_map}
use Rattle.guest_fetch.specs.Commands.{Fetched}
use Rattle.host_memory.specs.declared.table.Prd.{Prd}
use Rattle.hba_commands.specs.declared.command.Command.{Command}
use Rattle.slots.specs.{Data.payload, Slots.{Issue, context_of, has_bit, holds, issue_at, match_some}}
use Rattle.slots.specs.{Work.{is_dma, is_read}, declared.work.Work.Work}
use Rattle.hba_fbs.specs.{Offering.asked_by, Registers.falls, Taking.port_of, Turning.feeds, Views.{Port, last_command}}
use Rattle.hba_fbs.specs.declared.{error.WriteError.WriteError, report.TakeReport.TakeReport, turn.Turn.{Turn, TheVariants.{Feeds, Orders, Rests}}}
use Rattle.hba_laws.specs.{Agreement.{work_of_transfer}, Alike.{told_issue, told_issued}, CoreHistories.{event_by, happened}}
use Rattle.hba_laws.specs.{CoreHistories.{turned_for}, Cores.{CoreEvent, RunsBy}, Delivering.{begun_by, event_sent}}
use Rattle.hba_laws.specs.{Delivering.is_control_issue, History.{Event, History, Transfer, is_at, unless}}
use Rattle.hba_laws.specs.Cores as core
use Rattle.hba_laws.specs.History as history
use Rattle.ahci_controller.specs.{Issuing.{device_of, offered_command}, Next.{is_halted, next_write, written}, Offers.offer_in}
use Rattle.ahci_controller.specs.{States.{ControllerState, kept}, declared.{feeding.Fed.Fed, issuing.Supply.Supply, next.Next.Next}}
use Rattle.ahci_controller.specs.declared.feeding.Fed.TheVariants as fed_answer
use Rattle.ahci_controller.specs.declared.issuing.Supply.TheVariants as supply_answer
use Rattle.ahci_controller.specs.declared.next.Next.TheVariants as next_step
use Rattle.controller_laws.specs.{CoreEvents.{no_tables, of_event, of_fed, of_frame, of_next, of_supply, of_turn}, Events.{Does, Event as Call}}
use Rattle.controller_laws.specs.Events.{IsController}
use Rattle.controller_laws.specs.Events as call
use Rattle.machine_theorem.specs.{Commands.{is_issue, issues_in}, InTurn.is_answering}
use Rattle.machine_theorem.specs.Waits.{is_answered, is_command_issue, is_commanded}
use Rattle.machine_theorem.proofs.{AnswersHeard.{IsMild, fis_mild}, CoreStems.{PlaceNone, supply_none}, OrderedOnce.{IsOrderedOnce, ordered_once}}
use Rattle.machine_theorem.proofs.{Unread.is_alone}

-- ---- histories

-- an event by which a command that waits in the slot does so still, if it is no Data
abbrev pub Leaves : (s : ℕ) → Event → Type 0
Leaves s (history.Issued slot t) = (slot == s) ≡ false
Leaves s (history.Sent slot) = ⊥
Leaves s (history.SentControl slot) = (slot == s) ≡ false
Leaves s history.Answered = ⊥
Leaves s history.Emptied = ⊥
Leaves s e = Unit {0}

abbrev pub AllLeave : (s : ℕ) → History → Type 0
AllLeave s [] = Unit {0}
AllLeave s (e ∷ past) = Leaves s e × AllLeave s past

pub named_none : (a q b : Bool) → q ≡ false → (a && (q && b)) ≡ false
named_none a true b e = absurd (cc)
named_none true false b e = refl
named_none false false b e = refl

pub kept_some : (o : Option Transfer) (t : Transfer) (f : Transfer → Bool) → o ≡ Some t → f t ≡ false → match_some o None (λ x. unless (f x) (Some x)) ≡ Some t
kept_some o t f is none =
    ap (λ (p : Option Transfer). match_some p None (λ x. unless (f x) (Some x))) is ∙ ap (λ (b : Bool). unless b (Some t)) none

pub if_other : (b : Bool) (o p : Option Transfer) → b ≡ false → (if b then o else p) ≡ p
if_other true o p e = absurd (cc)
if_other false o p e = refl

not_at : (slot s : ℕ) → (slot == s) ≡ false → (s == slot) ≡ false
not_at slot s apart = by (s == slot) refl
  where
    by : (b : Bool) → (s == slot) ≡ b → b ≡ false
    by true e = absurd (false≢true (sym apart ∙ eq-eqb slot s (sym (eqb-true s slot e))))
    by false e = refl

pub still_waits : (slot s : ℕ) (o : Option ℕ) → o ≡ Some s → (slot == s) ≡ false → unless (is_at slot o) o ≡ Some s
still_waits slot s o is apart =
    ap (λ (p : Option ℕ). unless (is_at slot p) p) is ∙ ap (λ (b : Bool). unless b (Some s)) (not_at slot s apart)

-- ---- events of the core

both_leave : (s : ℕ) (g h : History) → AllLeave s g → AllLeave s h → AllLeave s (g ++ h)
both_leave s [] h a b = b
both_leave s (e ∷ g) h a b = (a.0, both_leave s g h a.1 b)

if_leaves : (s : ℕ) (b : Bool) (h : History) → (b ≡ true → AllLeave s h) → AllLeave s (if b then h else [])
if_leaves s true h leaves = leaves refl
if_leaves s false h leaves = tt

mild_leaves : (s : ℕ) (e : Event) → IsMild e → Leaves s e
mild_leaves s (history.Named mask) mild = tt
mild_leaves s (history.SetUp tag offset count to_host) mild = tt
mild_leaves s (history.PioSetUp count to_host ends) mild = tt
mild_leaves s (history.Carried bytes) mild = tt
mild_leaves s (history.Issued slot t) mild = absurd mild
mild_leaves s (history.Sent slot) mild = absurd mild
mild_leaves s (history.SentControl slot) mild = absurd mild
mild_leaves s history.Answered mild = absurd mild
mild_leaves s history.Emptied mild = absurd mild

some_leaves : (s : ℕ) (o : Option Event) → IfSome o IsMild → AllLeave s (match_some o [] (λ e. e ∷ []))
some_leaves s None mild = tt
some_leaves s (Some e) mild = (mild_leaves s e mild, tt)

issue_leaves : (s slot : ℕ) (table : List Prd) (o : Option Command) (b : Bool) → (slot == s) ≡ b → (b ≡ true → o ≡ None) → AllLeave s (told_issue slot table o)
issue_leaves s slot table None b same none = tt
issue_leaves s slot table (Some command) false same none = (same, tt)
issue_leaves s slot table (Some command) true same none = absurd (by (none refl))
  where
    by : Some command ≡ None → ⊥
    by e = cc

issued_leave : (s : ℕ) (commands : ℕ → Option Command) (tables : ℕ → List Prd) → commands s ≡ None → (k : ℕ) → AllLeave s (told_issued commands tables k)
unfolding told_issued
issued_leave s commands tables none zero = tt
issued_leave s commands tables none (suc k) =
    both_leave s (told_issue k (tables k) (commands k)) (told_issued commands tables k)
    (issue_leaves s k (tables k) (commands k) (k == s) refl (λ e. ap commands (eqb-true k s e) ∙ none)) (issued_leave s commands tables none k)

abbrev IsQuietTurn : (s n : ℕ) → Port → Turn → Type 0
IsQuietTurn s n port (Orders dev slot command) = (dev == n) ≡ true → (holds is_control_issue (issue_at port.slots slot) ≡ true) × ((slot == s) ≡ false)
IsQuietTurn s n port turn = Unit {0}

-- what is no write, and no answer of the device, and sends it no command
abbrev pub IsQuiet : (s n : ℕ) → Port → CoreEvent → Type 0
IsQuiet s n port (core.Took frame room report) = (port_of frame == n) ≡ true → is_answering frame ≡ false
IsQuiet s n port (core.Placed dev slots offer tables) = has_bit slots s ≡ false
IsQuiet s n port (core.Chose turn bytes) = IsQuietTurn s n port turn
IsQuiet s n port (core.Greeted frame report) = Unit {0}
IsQuiet s n port (core.Commanded value) = falls port.registers value ≡ false
IsQuiet s n port other = ⊥

begun_leaves : (s slot : ℕ) (o : Option Issue) → AllLeave s (begun_by slot o)
begun_leaves s slot None = tt
begun_leaves s slot (Some i) = if_leaves s (is_dma i.work.kind) (history.SetUp slot 0 i.work.len (is_read i.work.kind) ∷ []) (λ e. (tt, tt))

control_leaves : (s slot : ℕ) (b : Bool) → b ≡ true → (slot == s) ≡ false → Leaves s (if b then history.SentControl slot else history.Sent slot)
control_leaves s slot true is apart = apart
control_leaves s slot false is apart = absurd (cc)

turn_leaves : (s n : ℕ) (port : Port) (turn : Turn) (bytes : List ℕ) → IsQuietTurn s n port turn → AllLeave s (turned_for n port turn bytes)
turn_leaves s n port Rests bytes quiet = tt
turn_leaves s n port (Feeds dev slot offset len) bytes quiet = if_leaves s (dev == n) (history.Carried (drop 4 bytes) ∷ []) (λ e. (tt, tt))
turn_leaves s n port (Orders dev slot command) bytes quiet =
    if_leaves s (dev == n) (begun_by slot (issue_at port.slots slot) ++ event_sent port.slots slot ∷ []) (λ e.
    both_leave s (begun_by slot (issue_at port.slots slot)) (event_sent port.slots slot ∷ []) (begun_leaves s slot (issue_at port.slots slot))
    (control_leaves s slot (holds is_control_issue (issue_at port.slots slot)) (quiet e).0 (quiet e).1, tt))

none_asked : (b : Bool) (o : Option Command) → b ≡ false → (if b then o else None) ≡ None
none_asked true o e = absurd (cc)
none_asked false o e = refl

if_none : (s : ℕ) (b : Bool) → b ≡ false → AllLeave s (if b then history.Emptied ∷ [] else [])
if_none s true e = absurd (cc)
if_none s false e = tt

pub event_leaves : (s n : ℕ) (port : Port) (e : CoreEvent) → IsQuiet s n port e → AllLeave s (happened n port e)
event_leaves s n port (core.Took frame room report) quiet =
    if_leaves s (port_of frame == n) (match_some (event_by port room frame) [] (λ e. e ∷ [])) (λ same. some_leaves s (event_by port room frame) (fis_mild port room frame (quiet same)))
event_leaves s n port (core.Placed dev slots offer tables) quiet =
    if_leaves s (dev == n) (told_issued (asked_by offer slots) tables 32) (λ e. issued_leave s (asked_by offer slots) tables (none_asked (has_bit slots s) (offer.commands s) quiet) 32)
event_leaves s n port (core.Chose turn bytes) quiet = turn_leaves s n port turn bytes quiet
event_leaves s n port (core.Greeted frame report) quiet = tt
event_leaves s n port (core.Commanded value) quiet = if_none s (falls port.registers value) quiet
event_leaves s n port other quiet = absurd quiet

abbrev pub AllQuiet : (s n : ℕ) → (old : Port) → (events : List CoreEvent) → (new : Port) → RunsBy old events new → Type 0
AllQuiet s n old [] new run = Unit {0}
AllQuiet s n old (e ∷ later) new run = IsQuiet s n old e × AllQuiet s n run.0 later new run.2

-- ---- calls of the controller

placed_quiet : (s n slot : ℕ) (o : Option Fetched) (old new : Port)
    (run : RunsBy old (match_some o [] (λ command. core.Placed (device_of command) (2 ^ slot) (offer_in (offered_command command)) no_tables ∷ [])) new)
    → PlaceNone s (match_some o [] (λ command. core.Placed (device_of command) (2 ^ slot) (offer_in (offered_command command)) no_tables ∷ []))
    → AllQuiet s n old (match_some o [] (λ command. core.Placed (device_of command) (2 ^ slot) (offer_in (offered_command command)) no_tables ∷ [])) new run
placed_quiet s n slot None old new run none = tt
placed_quiet s n slot (Some command) old new run none = (none.0, tt)

supply_quiet : (s n slot : ℕ) (told : Supply) (old : Port) (new : ControllerState) (run : RunsBy old (of_supply told slot new) new.core) → ((slot == s) && is_issue told) ≡ false
    → AllQuiet s n old (of_supply told slot new) new.core run
supply_quiet s n slot (supply_answer.Issued dev) old new run none = placed_quiet s n slot (kept new slot) old new.core run (supply_none s slot (supply_answer.Issued dev) new none)
supply_quiet s n slot supply_answer.More old new run none = tt
supply_quiet s n slot (supply_answer.NotTaken reason message line) old new run none = tt
supply_quiet s n slot supply_answer.OutOfMemory old new run none = tt
supply_quiet s n slot supply_answer.Stale old new run none = tt

second_of : (a b : Bool) → (a && b) ≡ false → a ≡ true → b ≡ false
second_of true b e f = e
second_of false b e f = absurd (cc)

frame_quiet : (s n : ℕ) (b : Bool) (old : ControllerState) (frame : List ℕ) (report : TakeReport) (port : Port) → ((port_of frame == n) && is_answering frame) ≡ false
    → IsQuiet s n port (of_frame b old frame report)
frame_quiet s n true old frame report port none = second_of (port_of frame == n) (is_answering frame) none
frame_quiet s n false old frame report port none = tt

is_control_then : (a c : Bool) → (a && not c) ≡ false → a ≡ true → c ≡ true
is_control_then true true e f = refl
is_control_then true false e f = absurd (cc)
is_control_then false c e f = absurd (cc)

orders_quiet : (s n slot : ℕ) (port : Port) (o : Option Issue) (l : Option Command) → issue_at port.slots slot ≡ o → holds (is_command_issue n) o ≡ false → (slot == s) ≡ false
    → IsQuietTurn s n port (match_some o Rests (λ issue. match_some l Rests (Orders issue.dev slot)))
orders_quiet s n slot port None l is none apart = tt
orders_quiet s n slot port (Some issue) None is none apart = tt
orders_quiet s n slot port (Some issue) (Some command) is none apart =
    λ own. (ap (λ (o : Option Issue). holds is_control_issue o) is ∙ is_control_then (issue.dev == n) (holds is_control_issue (Some issue)) none own, apart)

-- the command of another slot goes
abbrev IsApart : (s : ℕ) → Next → Type 0
IsApart s (next_step.Order dev slot fis) = (slot == s) ≡ false
IsApart s other = Unit {0}

next_quiet : (s n : ℕ) (next : Next) (old : ControllerState) (new : Port) (run : RunsBy old.core (of_next next old) new) → is_commanded n old (call.Turned next) ≡ false → IsApart s next
    → AllQuiet s n old.core (of_next next old) new run
next_quiet s n (next_step.Order dev slot fis) old new run none apart =
    (orders_quiet s n slot old.core (issue_at old.core.slots slot) (last_command old.core.commands slot) refl none apart, tt)
next_quiet s n other old new run none apart = tt

commanded_quiet : (s n : ℕ) (o : Option WriteError) (value : ℕ) (old new : Port) (run : RunsBy old (match_some o (core.Commanded value ∷ []) (λ e. [])) new) → falls old.registers value ≡ false
    → AllQuiet s n old (match_some o (core.Commanded value ∷ []) (λ e. [])) new run
commanded_quiet s n None value old new run none = (none, tt)
commanded_quiet s n (Some e) value old new run none = tt

no_fall : (b c : Bool) → b ≡ false → (b && c) ≡ false
no_fall true c e = absurd (cc)
no_fall false c e = refl

turn_quiet : (s n : ℕ) (halted started : Bool) (next : Next) (old : ControllerState) (new : Port) (run : RunsBy old.core (of_turn halted started next old) new)
    → old.core.registers.started ≡ started → is_commanded n old (call.Turned next) ≡ false → IsApart s next → AllQuiet s n old.core (of_turn halted started next old) new run
turn_quiet s n true started next old new run is none apart = next_quiet s n next old new run none apart
turn_quiet s n false true next old new run is none apart = next_quiet s n next old new run none apart
turn_quiet s n false false next old new run is none apart = commanded_quiet s n _ _ old.core new run (no_fall old.core.registers.started _ is)

turned_quiet : (s n : ℕ) (o : Option Next) (next : Next) (old : ControllerState) (new : Port)
    (run : RunsBy old.core (match_some o (of_turn (is_halted (written old)) old.core.registers.started next old) (λ write. of_next next old)) new)
    → is_commanded n old (call.Turned next) ≡ false → IsApart s next
    → AllQuiet s n old.core (match_some o (of_turn (is_halted (written old)) old.core.registers.started next old) (λ write. of_next next old)) new run
turned_quiet s n None next old new run none apart = turn_quiet s n (is_halted (written old)) old.core.registers.started next old new run refl none apart
turned_quiet s n (Some write) next old new run none apart = next_quiet s n next old new run none apart

feeds_quiet : (s n : ℕ) (port : Port) (dev : ℕ) (o : Option (ℕ × ℕ × ℕ)) → IsQuietTurn s n port (match_some o Rests (feeds dev))
feeds_quiet s n port dev None = tt
feeds_quiet s n port dev (Some x) = tt

fed_quiet : (s n : ℕ) (fed : Fed) (old : ControllerState) (dev : ℕ) (frame : List ℕ) (new : Port) (run : RunsBy old.core (of_fed fed old dev frame) new)
    → AllQuiet s n old.core (of_fed fed old dev frame) new run
fed_quiet s n (fed_answer.Goes message line) old dev frame new run = (feeds_quiet s n old.core dev (payload (context_of old.core.slots dev)), tt)
fed_quiet s n other old dev frame new run = tt

abbrev pub IsNoWrite : Call → Type 0
IsNoWrite (call.Wrote offset value written) = ⊥
IsNoWrite (call.WroteWide offset width value written) = ⊥
IsNoWrite e = Unit {0}

-- a slot whose command was sent
pub record IsSentThere (s : ℕ) (c : ControllerState) : Type 0 where
  pub issue : Issue
  pub is : issue_at c.core.slots s ≡ Some issue
  pub sent : issue.sent ≡ true
  pub low : s < 32

some_same : (o : Option Issue) (i j : Issue) → o ≡ Some i → o ≡ Some j → i ≡ j
some_same o i j a b = by (sym a ∙ b)
  where
    by : Some i ≡ Some j → i ≡ j
    by e = cc

next_apart : (s : ℕ) (next : Next) (old new : ControllerState) → IsController old → Does old (call.Turned next) new → IsSentThere s old → IsApart s next
next_apart s (next_step.Order dev slot fis) old new k does there = by (slot == s) refl
  where
    by : (b : Bool) → (slot == s) ≡ b → b ≡ false
    by true e =
        let same : slot ≡ s = eqb-true slot s e in
        let long = k.slots.slots in
        let low = there.low in
        let h : IsOrderedOnce slot old.core new.core = ordered_once old new dev slot fis (omega (arith, long, low, same)) does in
        let one : there.issue ≡ h.issue = some_same (issue_at old.core.slots s) there.issue h.issue there.is (ap (issue_at old.core.slots) (sym same) ∙ h.was) in
        absurd (false≢true (sym h.unsent ∙ ap (λ (i : Issue). i.sent) (sym one) ∙ there.sent))
    by false e = refl
next_apart s other old new k does there = tt

none_issued : (s : ℕ) (e : Call) (old new : ControllerState) → IsController old → Does old e new → IsSentThere s old → issues_in s e ≡ false
none_issued s e old new k does there = by (issues_in s e) refl
  where
    by : (b : Bool) → issues_in s e ≡ b → b ≡ false
    by true is = absurd (none (sym there.is ∙ (is_alone e s old new k does is).free))
      where
        none : Some there.issue ≡ None → ⊥
        none e = cc
    by false is = refl

pub call_quiet : (s n : ℕ) (e : Call) (old new : ControllerState) (does : Does old e new) (run : RunsBy old.core (of_event old e new does) new.core) → IsController old → IsNoWrite e
    → is_commanded n old e ≡ false → is_answered n e ≡ false → IsSentThere s old → AllQuiet s n old.core (of_event old e new does) new.core run
call_quiet s n (call.Wrote offset value written) old new does run k plain none free there = absurd plain
call_quiet s n (call.WroteWide offset width value written) old new does run k plain none free there = absurd plain
call_quiet s n (call.Supplied slot number bytes told) old new does run k plain none free there =
    supply_quiet s n slot told old.core new run (none_issued s (call.Supplied slot number bytes told) old new k does there)
call_quiet s n (call.Missed slot number told) old new does run k plain none free there = tt
call_quiet s n (call.Took frame took) old new does run k plain none free there = (frame_quiet s n old.core.registers.started old frame took.report old.core free, tt)
call_quiet s n (call.Left frame why) old new does run k plain none free there = tt
call_quiet s n (call.Turned next) old new does run k plain none free there = turned_quiet s n (next_write old) next old new.core run none (next_apart s next old new k does there)
call_quiet s n (call.Said write) old new does run k plain none free there = tt
call_quiet s n (call.Gathered dev number frame fed) old new does run k plain none free there = fed_quiet s n fed old dev frame new.core run
call_quiet s n (call.NotThere dev number fed) old new does run k plain none free there = tt

-- ---- the slot that waits

pub of_issue : (o : Option Transfer) (w : Work) → option_map work_of_transfer o ≡ Some w → (t : Transfer) × ((o ≡ Some t) × (t.work ≡ w))
of_issue None w e = absurd (cc)
of_issue (Some t) w e = (t, (refl, cc))

pub at_some : (s : ℕ) (o : Option ℕ) → is_at s o ≡ true → o ≡ Some s
at_some s None e = absurd (cc)
at_some s (Some k) e = ap (λ (j : ℕ). Some j) (eqb-true k s e)

pub sent_if : (a b : Bool) → (a && not b) ≡ true → a ≡ true
sent_if true b e = refl
sent_if false b e = absurd (cc)
