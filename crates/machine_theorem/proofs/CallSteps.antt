-- What a call of a controller is in the history of a device: the event of a FIS of the device, a command or Data that go to it, or commands that are
-- issued and what empties it.
use Rattle.std.proofs.Common.{◌≡◌, ◌⊎◌, ℕ, zero, suc, ◌<◌, Bool, true, false, List, [], ◌∷◌, ◌++◌, append_assoc, drop, length, refl, sym, ap, subst}
use Rattle.std.proofs.{Common.{◌∙◌, inl, inr, arith, Option, Some, None, All}, lemmas.{Bool.{eqb-true, false≢true}, List.Elements.{All-head}}}
use Rattle.std.proofs.lemmas.List.Elements.{All-tail}
use Rattle.std.specs.{Prelude.{◌==◌, is_some, if◌then◌else◌}, Option.option_map}
use Rattle.host_memory.specs.declared.table.Prd.{Prd}
use Rattle.slots.specs.{Commands.{MayBeSent, after_sent, is_slot, sent_issue}, Data.payload, Setup.{begun, whole_context, with_own_context}}
use Rattle.slots.specs.Slots.{DeviceSlots, Issue, context_of, freed, holds, is_control, issue_at, match_some, own_issue, slots_of, with_own_issue}
use Rattle.slots.specs.{Work.is_dma, declared.work.Kind.{Kind, TheVariants.{DmaIn, DmaOut}}}
use Rattle.hba_commands.specs.declared.command.Command.{Command}
use Rattle.hba_fbs.specs.{Offering.asked_by, Registers.falls, Taking.port_of, Turning.feeds, Choosing.Chooses, Views.{DeviceView, Port, last_command}}
use Rattle.hba_fbs.specs.{Views.view_of, Writing.{cleared_by, is_device}, declared.{report.TakeReport.TakeReport, turn.Turn.TheVariants.Orders}}
use Rattle.hba_fbs.specs.declared.turn.Turn.TheVariants.{Rests}
use Rattle.hba_fbs.specs.declared.register.Register.TheVariants as on_port
use Rattle.hba_laws.specs.{Agreement.IsTold, Alike.{told_issue, told_issued}, CoreHistories.{event_by, happened, history_through}, Cores.CoreEvent}
use Rattle.hba_laws.specs.{Cores.RunsBy, Delivering.{begun_by, event_sent}, History.History}
use Rattle.hba_laws.specs.Cores as core
use Rattle.hba_laws.specs.History as history
use Rattle.hba_laws.proofs.Door.{own_here}
use Rattle.ahci_controller.specs.{Access.fits, Next.{is_halted, next_write, written}, States.ControllerState, Taking.room_for}
use Rattle.ahci_controller.specs.declared.next.Next.{Next}
use Rattle.ahci_controller.specs.declared.feeding.Fed.TheVariants as fed_answer
use Rattle.ahci_controller.specs.declared.next.Next.TheVariants as next_step
use Rattle.ahci_registers.specs.Offsets.{register_at}
use Rattle.controller_laws.specs.{CoreEvents.{AreCoreEvents, of_event, of_frame, of_next, of_turn}, Events.{Does, Event, IsController}}
use Rattle.controller_laws.specs.Events as call
use Rattle.machine_theorem.proofs.{CallCores.{Allows, commanded_all, supply_all, wide_all, write_all}, Ordered.fed_some, SetupCores.IsWritten}
use Rattle.machine_theorem.proofs.Waiting.{Laws, core_events}

-- ---- commands that are issued, and what empties the device

abbrev pub IsIdle : history.Event → Type 0
IsIdle (history.Issued slot t) = Unit {0}
IsIdle history.Emptied = Unit {0}
IsIdle e = ⊥

abbrev pub AreIdle : History → Type 0
AreIdle [] = Unit {0}
AreIdle (e ∷ later) = IsIdle e × AreIdle later

-- these are all that is new
pub record Idly (past now : History) : Type 0 where
  pub events : History
  pub idle : AreIdle events
  pub is : now ≡ events ++ past

idle_both : (xs ys : History) → AreIdle xs → AreIdle ys → AreIdle (xs ++ ys)
idle_both [] ys first later = later
idle_both (x ∷ xs) ys first later = (first.0, idle_both xs ys first.1 later)

idle_if : (b : Bool) (h : History) → AreIdle h → AreIdle (if b then h else [])
idle_if true h idle = idle
idle_if false h idle = tt

nothing : (past : History) → Idly past past
nothing past = record { events = []; idle = tt; is = refl }

issue_idle : (slot : ℕ) (table : List Prd) (o : Option Command) → AreIdle (told_issue slot table o)
issue_idle slot table None = tt
issue_idle slot table (Some command) = (tt, tt)

issued_idle : (commands : ℕ → Option Command) (tables : ℕ → List Prd) (k : ℕ) → AreIdle (told_issued commands tables k)
unfolding told_issued
issued_idle commands tables zero = tt
issued_idle commands tables (suc k) =
    idle_both (told_issue k (tables k) (commands k)) (told_issued commands tables k) (issue_idle k (tables k) (commands k)) (issued_idle commands tables k)

-- ---- events of the core that are neither a FIS nor a choice

abbrev IsPlain : CoreEvent → Type 0
IsPlain (core.Took frame room report) = ⊥
IsPlain (core.Wrote register value offer tables) = IsWritten register
IsPlain (core.Flushed dev) = ⊥
IsPlain (core.Gave bytes) = ⊥
IsPlain core.Failed = ⊥
IsPlain (core.Chose turn bytes) = ⊥
IsPlain (core.Greeted frame report) = ⊥
IsPlain e = Unit {0}

plain_may : Allows IsPlain
plain_may = record {
  wrote = λ r value is. is;
  placed = λ dev slots offer tables. tt;
  commanded = λ value. tt;
  overrode = λ dev. tt;
  hung = λ dev line. tt;
  relinked = tt;
  restarted = tt;
}

plain_idle : (n : ℕ) (port : Port) (e : CoreEvent) → IsPlain e → AreIdle (happened n port e)
plain_idle n port (core.Took frame room report) plain = absurd plain
plain_idle n port (core.Wrote on_port.Fbs value offer tables) plain = idle_if (is_device n (cleared_by port.errors value)) (history.Emptied ∷ []) (tt, tt)
plain_idle n port (core.Wrote on_port.Is value offer tables) plain = tt
plain_idle n port (core.Wrote on_port.Serr value offer tables) plain = tt
plain_idle n port (core.Wrote on_port.Sact value offer tables) plain = tt
plain_idle n port (core.Wrote on_port.Sntf value offer tables) plain = tt
plain_idle n port (core.Wrote register value offer tables) plain = absurd plain
plain_idle n port (core.Flushed dev) plain = absurd plain
plain_idle n port (core.Gave bytes) plain = absurd plain
plain_idle n port core.Failed plain = absurd plain
plain_idle n port (core.Placed dev slots offer tables) plain = idle_if (dev == n) (told_issued (asked_by offer slots) tables 32) (issued_idle (asked_by offer slots) tables 32)
plain_idle n port (core.Chose turn bytes) plain = absurd plain
plain_idle n port (core.Greeted frame report) plain = absurd plain
plain_idle n port (core.Commanded value) plain = idle_if (falls port.registers value) (history.Emptied ∷ []) (tt, tt)
plain_idle n port (core.Overrode dev) plain = tt
plain_idle n port (core.Hung dev line) plain = idle_if (dev == n) (history.Emptied ∷ []) (tt, tt)
plain_idle n port core.Relinked plain = (tt, tt)
plain_idle n port core.Restarted plain = (tt, tt)

through_idle : (n : ℕ) (events : List CoreEvent) (old new : Port) (run : RunsBy old events new) → All IsPlain events → (past : History)
    → Idly past (history_through n past old new events run)
through_idle n [] old new run plain past = nothing past
through_idle n (e ∷ later) old new run plain past =
    let rest = through_idle n later run.0 new run.2 (All-tail IsPlain e later plain) (happened n old e ++ past) in
    record {
      events = rest.events ++ happened n old e;
      idle = idle_both rest.events (happened n old e) rest.idle (plain_idle n old e (All-head IsPlain e later plain));
      is = rest.is ∙ sym (append_assoc rest.events (happened n old e) past);
    }

-- ---- what each call is

-- a FIS of the device
pub record Heard (n : ℕ) (old : ControllerState) (frame : List ℕ) (past now : History) : Type 0 where
  pub own : (port_of frame == n) ≡ true
  pub event : history.Event
  pub by : event_by old.core (room_for old (port_of frame)) frame ≡ Some event
  pub is : now ≡ event ∷ past

-- a command goes to the device; where it is its own setup, no Data may go yet
pub record Ordered (n : ℕ) (old : ControllerState) (new : Port) (slot : ℕ) (past now : History) : Type 0 where
  pub issue : Issue
  pub low : slot < 32
  pub there : issue_at old.core.slots slot ≡ Some issue
  pub own : issue.dev ≡ n
  pub may : MayBeSent old.core.slots slot
  pub fresh : is_dma issue.work.kind ≡ true → payload (context_of new.slots n) ≡ None
  pub is : now ≡ (begun_by slot (Some issue) ++ event_sent old.core.slots slot ∷ []) ++ past

abbrev pub IsStep : (n : ℕ) → Event → ControllerState → (new : Port) → (past now : History) → Type 0
IsStep n (call.Took frame took) old new past now = (now ≡ past) ⊎ Heard n old frame past now
IsStep n (call.Turned (next_step.Order to slot fis)) old new past now = Idly past now ⊎ Ordered n old new slot past now
IsStep n (call.Gathered dev number frame (fed_answer.Goes message line)) old new past now = now ≡ (if dev == n then history.Carried (drop 4 frame) ∷ [] else []) ++ past
IsStep n e old new past now = Idly past now

frame_step : (n : ℕ) (old : ControllerState) (frame : List ℕ) (past : History) (b : Bool) → (port_of frame == n) ≡ b → (o : Option history.Event)
    → event_by old.core (room_for old (port_of frame)) frame ≡ o
    → ((if b then match_some o [] (λ e. e ∷ []) else []) ++ past ≡ past) ⊎ Heard n old frame past ((if b then match_some o [] (λ e. e ∷ []) else []) ++ past)
frame_step n old frame past true own None is = inl refl
frame_step n old frame past true own (Some e) is = inr (record { own = own; event = e; by = is; is = refl })
frame_step n old frame past false own o is = inl refl

took_step : (n : ℕ) (started : Bool) (old : ControllerState) (frame : List ℕ) (report : TakeReport) (new : Port) (run : RunsBy old.core (of_frame started old frame report ∷ []) new) (past : History)
    → (history_through n past old.core new (of_frame started old frame report ∷ []) run ≡ past)
    ⊎ Heard n old frame past (history_through n past old.core new (of_frame started old frame report ∷ []) run)
took_step n true old frame report new run past = frame_step n old frame past (port_of frame == n) refl (event_by old.core (room_for old (port_of frame)) frame) refl
took_step n false old frame report new run past = inl refl

-- a command that is its own setup
dma_control : (k : Kind) → is_dma k ≡ true → is_control k ≡ false
dma_control DmaIn e = refl
dma_control DmaOut e = refl
dma_control other e = absurd (cc)

-- the slots of the device behind the command of this issue
abbrev gone_with : DeviceSlots → ℕ → Option Issue → DeviceSlots
gone_with own slot o =
    if holds (λ issue. is_control issue.work.kind) o then freed (is_slot slot) own
    else match_some o (with_own_issue own slot (option_map sent_issue o)) (λ issue. begun slot issue.work (with_own_issue own slot (option_map sent_issue o)))

none_due : (own more : DeviceSlots) (slot : ℕ) (i : Issue) (c d : Bool) → c ≡ false → d ≡ true
    → payload (if c then freed (is_slot slot) own else (if d then with_own_context more (whole_context slot i.work) else more)).context ≡ None
none_due own more slot i true d e f = absurd (cc)
none_due own more slot i false true e f = refl
none_due own more slot i false false e f = absurd (cc)

sent_none : (own : DeviceSlots) (slot : ℕ) (i : Issue) → own_issue own slot ≡ Some i → is_dma i.work.kind ≡ true → payload (after_sent own slot).context ≡ None
sent_none own slot i is dma =
    ap (λ (o : Option Issue). payload (gone_with own slot o).context) is
    ∙ none_due own (with_own_issue own slot (Some (sent_issue i))) slot i (is_control i.work.kind) (is_dma i.work.kind) (dma_control i.work.kind dma) dma

sent_step : (n : ℕ) (old : ControllerState) (new : Port) (slot : ℕ) (past : History) (issue : Issue) (command : Command) → length old.core.slots.issues ≡ 32
    → issue_at old.core.slots slot ≡ Some issue → slot < 32 → MayBeSent old.core.slots slot → Chooses (Orders issue.dev slot command) old.core new → (b : Bool) → (issue.dev == n) ≡ b
    → Idly past ((if b then begun_by slot (issue_at old.core.slots slot) ++ event_sent old.core.slots slot ∷ [] else []) ++ past)
    ⊎ Ordered n old new slot past ((if b then begun_by slot (issue_at old.core.slots slot) ++ event_sent old.core.slots slot ∷ [] else []) ++ past)
sent_step n old new slot past issue command long there low may goes true own =
    let same : issue.dev ≡ n = eqb-true issue.dev n own in
    let mine : own_issue (slots_of issue.dev old.core.slots) slot ≡ Some issue = own_here slot old.core.slots issue (omega (arith, long, low)) there in
    inr (record {
      issue = issue;
      low = low;
      there = there;
      own = same;
      may = may;
      fresh = λ dma.
          ap (λ (k : ℕ). payload (context_of new.slots k)) (sym same) ∙ ap (λ (v : DeviceView). payload v.slots.context) goes.own
          ∙ sent_none (slots_of issue.dev old.core.slots) slot issue mine dma;
      is = ap (λ (o : Option Issue). (begun_by slot o ++ event_sent old.core.slots slot ∷ []) ++ past) there;
    })
sent_step n old new slot past issue command long there low may goes false own = inl (nothing past)

-- the port behind one event
one_last : (n : ℕ) (old : ControllerState) (slot : ℕ) (past now : History) (a b : Port) → a ≡ b → Idly past now ⊎ Ordered n old b slot past now → Idly past now ⊎ Ordered n old a slot past now
one_last n old slot past now a b same it = subst (λ (p : Port). Idly past now ⊎ Ordered n old p slot past now) (sym same) it

order_step : (n : ℕ) (old : ControllerState) (slot : ℕ) (fis : List ℕ) (new : Port) (past : History) → length old.core.slots.issues ≡ 32 → (i : Option Issue)
    → issue_at old.core.slots slot ≡ i → (l : Option Command)
    → (run : RunsBy old.core (core.Chose (match_some i Rests (λ issue. match_some l Rests (Orders issue.dev slot))) fis ∷ []) new)
    → Idly past (history_through n past old.core new (core.Chose (match_some i Rests (λ issue. match_some l Rests (Orders issue.dev slot))) fis ∷ []) run)
    ⊎ Ordered n old new slot past (history_through n past old.core new (core.Chose (match_some i Rests (λ issue. match_some l Rests (Orders issue.dev slot))) fis ∷ []) run)
order_step n old slot fis new past long None is l run = inl (nothing past)
order_step n old slot fis new past long (Some issue) is None run = inl (nothing past)
order_step n old slot fis new past long (Some issue) is (Some command) run =
    one_last n old slot past _ new run.0 run.2
    (sent_step n old run.0 slot past issue command long is run.1.0.1.slot_below run.1.0.1.may run.1.1 (issue.dev == n) refl)

next_is : (n : ℕ) (said : Next) (old : ControllerState) (new : Port) (past : History) → length old.core.slots.issues ≡ 32 → (run : RunsBy old.core (of_next said old) new)
    → IsStep n (call.Turned said) old new past (history_through n past old.core new (of_next said old) run)
next_is n (next_step.Order to slot fis) old new past long run =
    order_step n old slot fis new past long (issue_at old.core.slots slot) refl (last_command old.core.commands slot) run
next_is n other old new past long run = nothing past

idle_turn : (n : ℕ) (said : Next) (old : ControllerState) (new : Port) (past now : History) → Idly past now → IsStep n (call.Turned said) old new past now
idle_turn n (next_step.Order to slot fis) old new past now idle = inl idle
idle_turn n other old new past now idle = idle

turn_is : (n : ℕ) (halted started : Bool) (said : Next) (old : ControllerState) (new : Port) (past : History) → length old.core.slots.issues ≡ 32
    → (run : RunsBy old.core (of_turn halted started said old) new)
    → IsStep n (call.Turned said) old new past (history_through n past old.core new (of_turn halted started said old) run)
turn_is n true started said old new past long run = next_is n said old new past long run
turn_is n false true said old new past long run = next_is n said old new past long run
turn_is n false false said old new past long run = idle_turn n said old new past _ (through_idle n _ old.core new run (commanded_all IsPlain plain_may _ _) past)

turned_is : (n : ℕ) (o : Option Next) (said : Next) (old : ControllerState) (new : Port) (past : History) → length old.core.slots.issues ≡ 32
    → (run : RunsBy old.core (match_some o (of_turn (is_halted (written old)) old.core.registers.started said old) (λ write. of_next said old)) new)
    → IsStep n (call.Turned said) old new past
    (history_through n past old.core new (match_some o (of_turn (is_halted (written old)) old.core.registers.started said old) (λ write. of_next said old)) run)
turned_is n None said old new past long run = turn_is n (is_halted (written old)) old.core.registers.started said old new past long run
turned_is n (Some write) said old new past long run = next_is n said old new past long run

goes_step : (n : ℕ) (old : ControllerState) (dev : ℕ) (frame : List ℕ) (new : Port) (past : History) (o : Option (ℕ × ℕ × ℕ)) → is_some o ≡ true
    → (run : RunsBy old.core (core.Chose (match_some o Rests (feeds dev)) frame ∷ []) new)
    → history_through n past old.core new (core.Chose (match_some o Rests (feeds dev)) frame ∷ []) run ≡ (if dev == n then history.Carried (drop 4 frame) ∷ [] else []) ++ past
goes_step n old dev frame new past None some run = absurd (false≢true some)
goes_step n old dev frame new past (Some x) some run = refl

step_by : (n : ℕ) (e : Event) (old new : ControllerState) → IsController old → (does : Does old e new) (run : RunsBy old.core (of_event old e new does) new.core) (past : History)
    → IsStep n e old new.core past (history_through n past old.core new.core (of_event old e new does) run)
step_by n (call.Wrote offset value told) old new k does run past = through_idle n _ old.core new.core run (write_all IsPlain plain_may (register_at offset) (λ r. value) old) past
step_by n (call.WroteWide offset width value told) old new k does run past =
    through_idle n _ old.core new.core run (wide_all IsPlain plain_may (fits width offset) old offset width value told new does) past
step_by n (call.Supplied slot number bytes told) old new k does run past = through_idle n _ old.core new.core run (supply_all IsPlain plain_may slot told new) past
step_by n (call.Missed slot number told) old new k does run past = nothing past
step_by n (call.Took frame took) old new k does run past = took_step n old.core.registers.started old frame took.report new.core run past
step_by n (call.Left frame why) old new k does run past = nothing past
step_by n (call.Turned said) old new k does run past = turned_is n (next_write old) said old new.core past k.slots.slots run
step_by n (call.Said write) old new k does run past = nothing past
step_by n (call.Gathered dev number frame (fed_answer.Goes message line)) old new k does run past =
    goes_step n old dev frame new.core past (payload (context_of old.core.slots dev)) (fed_some old new dev number (fed_answer.Goes message line) tt does.1) run
step_by n (call.Gathered dev number frame other) old new k does run past = nothing past
step_by n (call.NotThere dev number fed) old new k does run past = nothing past

-- the history behind a call
pub record Stepped (n : ℕ) (e : Event) (old new : ControllerState) (past : History) : Type 0 where
  pub now : History
  pub told : IsTold (view_of n new.core) now
  pub step : IsStep n e old new.core past now

pub stepped : Laws → (n : ℕ) → n < 16 → (e : Event) (old new : ControllerState) → IsController old → IsController new → Does old e new → (past : History)
    → IsTold (view_of n old.core) past → Stepped n e old new past
stepped laws n low e old new k l does past told =
    let are : AreCoreEvents old.core (of_event old e new does) new.core = core_events laws n low old new e k l does in
    record {
      now = history_through n past old.core new.core (of_event old e new does) are.run;
      told = laws.views n low old.core new.core (of_event old e new does) are.run are.sound past told;
      step = step_by n e old new k does are.run past;
    }
