-- A slot of a device begins to wait only as its command is sent: what the history of the device has of the slot that waits it had before any other call.
use Rattle.std.proofs.Common.{◌≡◌, ℕ, zero, suc, ◌&&◌, Bool, true, false, not, List, [], ◌∷◌, ◌++◌, append_assoc, drop, refl, ap, subst, ◌∙◌, Option}
use Rattle.std.proofs.{Common.{Some, None, All}, lemmas.List.Elements.{All-head, All-tail}}
use Rattle.std.specs.Prelude.{◌==◌, IfSome, if◌then◌else◌}
use Rattle.fis_view.specs.Seen.{seen}
use Rattle.host_memory.specs.declared.table.Prd.{Prd}
use Rattle.slots.specs.{declared.answer.Answered.Answered, Data.payload, Slots.{Issue, context_of, holds, issue_at, match_some}, Work.is_dma}
use Rattle.slots.specs.Work.{is_read}
use Rattle.slots.specs.declared.answer.Answered.TheVariants as answer
use Rattle.hba_commands.specs.declared.command.Command.{Command}
use Rattle.hba_fbs.specs.declared.{hearing.{Happening.Happening, Heard.Heard}, report.TakeReport.TakeReport, room.Room.Room, status.Block.Block}
use Rattle.hba_fbs.specs.{declared.turn.Turn.{Turn, TheVariants.{Feeds, Orders, Rests}}, Deciding.decided, Offering.asked_by, Registers.falls}
use Rattle.hba_fbs.specs.{Taking.{admitted, ignores, port_of}, Turning.feeds, Views.{Port, last_command, view_of}, Writing.{cleared_by, is_device}}
use Rattle.hba_fbs.specs.declared.hearing.Happening.TheVariants as happening
use Rattle.hba_fbs.specs.declared.register.Register.TheVariants as on_port
use Rattle.hba_laws.specs.{Alike.{told_issue, told_issued}, CoreHistories.{event_by, happened, history_through, turned_for}, Cores.CoreEvent}
use Rattle.hba_laws.specs.{Cores.RunsBy, Delivering.{begun_by, event_heard, event_of, event_of_answer, event_of_block, event_sent, is_control_issue}}
use Rattle.hba_laws.specs.History.{Event, History, is_at, unless, waiting_in}
use Rattle.hba_laws.specs.Cores as core
use Rattle.hba_laws.specs.History as history
use Rattle.ahci_controller.specs.{Access.fits, Next.{is_halted, next_write, written}, States.ControllerState, declared.feeding.Fed.Fed}
use Rattle.ahci_controller.specs.declared.next.Next.{Next}
use Rattle.ahci_controller.specs.declared.feeding.Fed.TheVariants as fed_answer
use Rattle.ahci_controller.specs.declared.next.Next.TheVariants as next_step
use Rattle.ahci_registers.specs.Offsets.{register_at}
use Rattle.controller_laws.specs.{CoreEvents.{of_event, of_fed, of_frame, of_next, of_turn}, Events.{Does, Event as Call}}
use Rattle.controller_laws.specs.Events as call
use Rattle.machine_theorem.specs.Waits.{is_command_issue, is_commanded}
use Rattle.machine_theorem.proofs.{CallCores.{Allows, commanded_all, supply_all, wide_all, write_all}, SetupCores.IsWritten}

-- ---- histories

abbrev pub NotSent : Event → Type 0
NotSent (history.Sent slot) = ⊥
NotSent e = Unit {0}

-- the slot that waits behind these events waited before them
abbrev Back : (s : ℕ) → History → Type 0
Back s h = (past : History) → is_at s (waiting_in (h ++ past)) ≡ true → is_at s (waiting_in past) ≡ true

unless_at : (s : ℕ) (b : Bool) (o : Option ℕ) → is_at s (unless b o) ≡ true → is_at s o ≡ true
unless_at s true o e = absurd (cc)
unless_at s false o e = e

pub one_back : (s : ℕ) (e : Event) → NotSent e → Back s (e ∷ [])
one_back s (history.Sent slot) none past e = absurd none
one_back s (history.Issued slot t) none past e = unless_at s (is_at slot (waiting_in past)) (waiting_in past) e
one_back s history.Answered none past e = absurd (cc)
one_back s (history.SentControl slot) none past e = e
one_back s (history.SetUp tag offset count to_host) none past e = e
one_back s (history.PioSetUp count to_host ends) none past e = e
one_back s (history.Carried bytes) none past e = e
one_back s (history.Named mask) none past e = e
one_back s history.Emptied none past e = e

both_back : (s : ℕ) (g h : History) → Back s g → Back s h → Back s (g ++ h)
both_back s g h first second past e =
    second past (first (h ++ past) (subst (λ (l : History). is_at s (waiting_in l) ≡ true) (append_assoc g h past) e))

if_back : (s : ℕ) (b : Bool) (h : History) → (b ≡ true → Back s h) → Back s (if b then h else [])
if_back s true h back = back refl
if_back s false h back = λ past e. e

none_back : (s : ℕ) → Back s []
none_back s past e = e

some_back : (s : ℕ) (o : Option Event) → IfSome o NotSent → Back s (match_some o [] (λ e. e ∷ []))
some_back s None none = none_back s
some_back s (Some e) none = one_back s e none

-- ---- what a FIS is

answer_not : (a : Answered) → IfSome (event_of_answer a) NotSent
answer_not (answer.Short slot) = tt
answer_not answer.Nobody = tt
answer_not (answer.Queued slot) = tt
answer_not (answer.Done slot) = tt

block_not : (count : ℕ) (to_host : Bool) (o : Option Block) → IfSome (event_of_block count to_host o) NotSent
block_not count to_host None = tt
block_not count to_host (Some b) = tt

event_not : (m : Happening) (o : Option Block) (bytes : List ℕ) → IfSome (event_of m o bytes) NotSent
event_not happening.Nothing o bytes = tt
event_not (happening.Answered a) o bytes = answer_not a
event_not (happening.Named mask) o bytes = tt
event_not (happening.SetUp c) o bytes = tt
event_not (happening.PioSetUp count to_host) o bytes = block_not count to_host o
event_not happening.Activated o bytes = tt
event_not (happening.Carried wrote finishes) o bytes = tt

if_not : (b : Bool) (o : Option Event) → IfSome o NotSent → IfSome (if b then None else o) NotSent
if_not true o none = tt
if_not false o none = none

pub fis_not : (port : Port) (room : Room) (frame : List ℕ) → IfSome (event_by port room frame) NotSent
fis_not port room frame =
    let h : Heard = decided (port_of frame) (view_of (port_of frame) port) room (admitted (port_of frame) (seen frame)) in
    if_not (ignores (port_of frame) port frame) (event_heard h (drop 4 frame)) (event_not h.happening h.state.block (drop 4 frame))

-- ---- events of the core

issue_back : (s slot : ℕ) (table : List Prd) (o : Option Command) → Back s (told_issue slot table o)
issue_back s slot table None = none_back s
issue_back s slot table (Some command) = one_back s (history.Issued slot (record { work = command.work; table = table })) tt

issued_back : (s : ℕ) (commands : ℕ → Option Command) (tables : ℕ → List Prd) (k : ℕ) → Back s (told_issued commands tables k)
unfolding told_issued
issued_back s commands tables zero = none_back s
issued_back s commands tables (suc k) =
    both_back s (told_issue k (tables k) (commands k)) (told_issued commands tables k) (issue_back s k (tables k) (commands k)) (issued_back s commands tables k)

-- no command goes to the device
abbrev pub IsUnsentTurn : (n : ℕ) → Port → Turn → Type 0
IsUnsentTurn n port (Orders dev slot command) = ((dev == n) && not (holds is_control_issue (issue_at port.slots slot))) ≡ false
IsUnsentTurn n port turn = Unit {0}

abbrev IsUnsent : (n : ℕ) → Port → CoreEvent → Type 0
IsUnsent n port (core.Chose turn bytes) = IsUnsentTurn n port turn
IsUnsent n port (core.Wrote register value offer tables) = IsWritten register
IsUnsent n port (core.Flushed dev) = ⊥
IsUnsent n port (core.Gave bytes) = ⊥
IsUnsent n port core.Failed = ⊥
IsUnsent n port e = Unit {0}

begun_back : (s slot : ℕ) (o : Option Issue) → Back s (begun_by slot o)
begun_back s slot None = none_back s
begun_back s slot (Some i) =
    let up : Event = history.SetUp slot 0 i.work.len (is_read i.work.kind) in if_back s (is_dma i.work.kind) (up ∷ []) (λ e. one_back s up tt)

control_back : (s slot : ℕ) (b : Bool) → (true && not b) ≡ false → Back s ((if b then history.SentControl slot else history.Sent slot) ∷ [])
control_back s slot true e = one_back s (history.SentControl slot) tt
control_back s slot false e = absurd (cc)

order_back : (s n : ℕ) (port : Port) (dev slot : ℕ) (b : Bool) → (dev == n) ≡ b → (b && not (holds is_control_issue (issue_at port.slots slot))) ≡ false
    → Back s (if b then begun_by slot (issue_at port.slots slot) ++ event_sent port.slots slot ∷ [] else [])
order_back s n port dev slot true same unsent =
    both_back s (begun_by slot (issue_at port.slots slot)) (event_sent port.slots slot ∷ []) (begun_back s slot (issue_at port.slots slot))
    (control_back s slot (holds is_control_issue (issue_at port.slots slot)) unsent)
order_back s n port dev slot false same unsent = none_back s

turn_back : (s n : ℕ) (port : Port) (turn : Turn) (bytes : List ℕ) → IsUnsentTurn n port turn → Back s (turned_for n port turn bytes)
turn_back s n port Rests bytes unsent = none_back s
turn_back s n port (Feeds dev slot offset len) bytes unsent = if_back s (dev == n) (history.Carried (drop 4 bytes) ∷ []) (λ e. one_back s (history.Carried (drop 4 bytes)) tt)
turn_back s n port (Orders dev slot command) bytes unsent = order_back s n port dev slot (dev == n) refl unsent

event_back : (s n : ℕ) (port : Port) (e : CoreEvent) → IsUnsent n port e → Back s (happened n port e)
event_back s n port (core.Took frame room report) unsent = if_back s (port_of frame == n) (match_some (event_by port room frame) [] (λ e. e ∷ [])) (λ e. some_back s (event_by port room frame) (fis_not port room frame))
event_back s n port (core.Wrote on_port.Fbs value offer tables) unsent = if_back s (is_device n (cleared_by port.errors value)) (history.Emptied ∷ []) (λ e. one_back s history.Emptied tt)
event_back s n port (core.Wrote on_port.Is value offer tables) unsent = none_back s
event_back s n port (core.Wrote on_port.Serr value offer tables) unsent = none_back s
event_back s n port (core.Wrote on_port.Sact value offer tables) unsent = none_back s
event_back s n port (core.Wrote on_port.Sntf value offer tables) unsent = none_back s
event_back s n port (core.Wrote register value offer tables) unsent = absurd unsent
event_back s n port (core.Flushed dev) unsent = absurd unsent
event_back s n port (core.Gave bytes) unsent = absurd unsent
event_back s n port core.Failed unsent = absurd unsent
event_back s n port (core.Placed dev slots offer tables) unsent = if_back s (dev == n) (told_issued (asked_by offer slots) tables 32) (λ e. issued_back s (asked_by offer slots) tables 32)
event_back s n port (core.Chose turn bytes) unsent = turn_back s n port turn bytes unsent
event_back s n port (core.Greeted frame report) unsent = none_back s
event_back s n port (core.Commanded value) unsent = if_back s (falls port.registers value) (history.Emptied ∷ []) (λ e. one_back s history.Emptied tt)
event_back s n port (core.Overrode dev) unsent = none_back s
event_back s n port (core.Hung dev line) unsent = if_back s (dev == n) (history.Emptied ∷ []) (λ e. one_back s history.Emptied tt)
event_back s n port core.Relinked unsent = one_back s history.Emptied tt
event_back s n port core.Restarted unsent = one_back s history.Emptied tt

abbrev AllUnsent : (n : ℕ) → (old : Port) → (events : List CoreEvent) → (new : Port) → RunsBy old events new → Type 0
AllUnsent n old [] new run = Unit {0}
AllUnsent n old (e ∷ later) new run = IsUnsent n old e × AllUnsent n run.0 later new run.2

through_back : (s n : ℕ) (events : List CoreEvent) (old new : Port) (run : RunsBy old events new) → AllUnsent n old events new run → (past : History)
    → is_at s (waiting_in (history_through n past old new events run)) ≡ true → is_at s (waiting_in past) ≡ true
through_back s n [] old new run unsent past e = e
through_back s n (x ∷ later) old new run unsent past e =
    event_back s n old x unsent.0 past (through_back s n later run.0 new run.2 unsent.1 (happened n old x ++ past) e)

-- ---- calls of the controller

-- an event that is no choice
abbrev IsPlain : CoreEvent → Type 0
IsPlain (core.Chose turn bytes) = ⊥
IsPlain (core.Wrote register value offer tables) = IsWritten register
IsPlain (core.Flushed dev) = ⊥
IsPlain (core.Gave bytes) = ⊥
IsPlain core.Failed = ⊥
IsPlain e = Unit {0}

plain_may : Allows IsPlain
plain_may = record {
  wrote = λ r value is. is;
  placed = λ dev slots offer tables. tt;
  commanded = λ value. tt;
  overrode = λ dev. tt;
  hung = λ dev line. tt;
  relinked = tt;
  restarted = tt;
}

plain_unsent : (n : ℕ) (port : Port) (e : CoreEvent) → IsPlain e → IsUnsent n port e
plain_unsent n port (core.Chose turn bytes) plain = absurd plain
plain_unsent n port (core.Wrote register value offer tables) plain = plain
plain_unsent n port (core.Flushed dev) plain = absurd plain
plain_unsent n port (core.Gave bytes) plain = absurd plain
plain_unsent n port core.Failed plain = absurd plain
plain_unsent n port (core.Took frame room report) plain = tt
plain_unsent n port (core.Placed dev slots offer tables) plain = tt
plain_unsent n port (core.Greeted frame report) plain = tt
plain_unsent n port (core.Commanded value) plain = tt
plain_unsent n port (core.Overrode dev) plain = tt
plain_unsent n port (core.Hung dev line) plain = tt
plain_unsent n port core.Relinked plain = tt
plain_unsent n port core.Restarted plain = tt

all_plain : (n : ℕ) (events : List CoreEvent) (old new : Port) (run : RunsBy old events new) → All IsPlain events → AllUnsent n old events new run
all_plain n [] old new run plain = tt
all_plain n (e ∷ later) old new run plain =
    (plain_unsent n old e (All-head IsPlain e later plain), all_plain n later run.0 new run.2 (All-tail IsPlain e later plain))

-- the command of a slot
pub orders_unsent : (n slot : ℕ) (port : Port) (o : Option Issue) (l : Option Command) → issue_at port.slots slot ≡ o → holds (is_command_issue n) o ≡ false
    → IsUnsentTurn n port (match_some o Rests (λ issue. match_some l Rests (Orders issue.dev slot)))
orders_unsent n slot port None l is none = tt
orders_unsent n slot port (Some issue) None is none = tt
orders_unsent n slot port (Some issue) (Some command) is none = ap (λ (o : Option Issue). (issue.dev == n) && not (holds is_control_issue o)) is ∙ none

next_unsent : (n : ℕ) (next : Next) (old : ControllerState) (new : Port) (run : RunsBy old.core (of_next next old) new) → is_commanded n old (call.Turned next) ≡ false
    → AllUnsent n old.core (of_next next old) new run
next_unsent n (next_step.Order dev slot fis) old new run none =
    (orders_unsent n slot old.core (issue_at old.core.slots slot) (last_command old.core.commands slot) refl none, tt)
next_unsent n other old new run none = tt

turn_unsent : (n : ℕ) (halted started : Bool) (next : Next) (old : ControllerState) (new : Port) (run : RunsBy old.core (of_turn halted started next old) new)
    → is_commanded n old (call.Turned next) ≡ false → AllUnsent n old.core (of_turn halted started next old) new run
turn_unsent n true started next old new run none = next_unsent n next old new run none
turn_unsent n false true next old new run none = next_unsent n next old new run none
turn_unsent n false false next old new run none = all_plain n _ old.core new run (commanded_all IsPlain plain_may _ _)

turned_unsent : (n : ℕ) (o : Option Next) (next : Next) (old : ControllerState) (new : Port)
    (run : RunsBy old.core (match_some o (of_turn (is_halted (written old)) old.core.registers.started next old) (λ write. of_next next old)) new)
    → is_commanded n old (call.Turned next) ≡ false
    → AllUnsent n old.core (match_some o (of_turn (is_halted (written old)) old.core.registers.started next old) (λ write. of_next next old)) new run
turned_unsent n None next old new run none = turn_unsent n (is_halted (written old)) old.core.registers.started next old new run none
turned_unsent n (Some write) next old new run none = next_unsent n next old new run none

pub feeds_unsent : (n : ℕ) (port : Port) (dev : ℕ) (o : Option (ℕ × ℕ × ℕ)) → IsUnsentTurn n port (match_some o Rests (feeds dev))
feeds_unsent n port dev None = tt
feeds_unsent n port dev (Some x) = tt

fed_unsent : (n : ℕ) (fed : Fed) (old : ControllerState) (dev : ℕ) (frame : List ℕ) (new : Port) (run : RunsBy old.core (of_fed fed old dev frame) new)
    → AllUnsent n old.core (of_fed fed old dev frame) new run
fed_unsent n (fed_answer.Goes message line) old dev frame new run = (feeds_unsent n old.core dev (payload (context_of old.core.slots dev)), tt)
fed_unsent n other old dev frame new run = tt

frame_unsent : (n : ℕ) (b : Bool) (old : ControllerState) (frame : List ℕ) (report : TakeReport) (port : Port) → IsUnsent n port (of_frame b old frame report)
frame_unsent n true old frame report port = tt
frame_unsent n false old frame report port = tt

call_unsent : (n : ℕ) (e : Call) (old new : ControllerState) (does : Does old e new) (run : RunsBy old.core (of_event old e new does) new.core) → is_commanded n old e ≡ false
    → AllUnsent n old.core (of_event old e new does) new.core run
call_unsent n (call.Wrote offset value written) old new does run none = all_plain n _ old.core new.core run (write_all IsPlain plain_may (register_at offset) (λ r. value) old)
call_unsent n (call.WroteWide offset width value written) old new does run none =
    all_plain n _ old.core new.core run (wide_all IsPlain plain_may (fits width offset) old offset width value written new does)
call_unsent n (call.Supplied slot number bytes told) old new does run none = all_plain n _ old.core new.core run (supply_all IsPlain plain_may slot told new)
call_unsent n (call.Missed slot number told) old new does run none = tt
call_unsent n (call.Took frame took) old new does run none = (frame_unsent n old.core.registers.started old frame took.report old.core, tt)
call_unsent n (call.Left frame why) old new does run none = tt
call_unsent n (call.Turned next) old new does run none = turned_unsent n (next_write old) next old new.core run none
call_unsent n (call.Said write) old new does run none = tt
call_unsent n (call.Gathered dev number frame fed) old new does run none = fed_unsent n fed old dev frame new.core run
call_unsent n (call.NotThere dev number fed) old new does run none = tt

-- the slot that waits behind a call that sends no command to the device waited before it
pub call_back : (s n : ℕ) (e : Call) (old new : ControllerState) (does : Does old e new) (run : RunsBy old.core (of_event old e new does) new.core) → is_commanded n old e ≡ false
    → (past : History) → is_at s (waiting_in (history_through n past old.core new.core (of_event old e new does) run)) ≡ true → is_at s (waiting_in past) ≡ true
call_back s n e old new does run none past is = through_back s n (of_event old e new does) old.core new.core run (call_unsent n e old new does run none) past is
