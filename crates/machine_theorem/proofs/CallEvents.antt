-- What a call of a controller that sends no command to a device is for its history: events that a test allows. So no slot of the device begins to wait by it, and
-- only the PIO Setup FIS of a last block sets up the end of a PIO data-in.
use Rattle.std.proofs.Common.{◌≡◌, ℕ, zero, suc, ◌&&◌, Bool, true, false, not, List, [], ◌∷◌, ◌++◌, append_assoc, drop, refl, sym, ◌∙◌, Option, Some}
use Rattle.std.proofs.{Common.{None, All}, lemmas.List.Elements.{All-head, All-tail}}
use Rattle.std.specs.Prelude.{◌==◌, IfSome, if◌then◌else◌}
use Rattle.host_memory.specs.declared.table.Prd.{Prd}
use Rattle.slots.specs.{Data.payload, Slots.{Issue, context_of, holds, issue_at, match_some}, Work.{is_dma, is_read}}
use Rattle.hba_commands.specs.declared.command.Command.{Command}
use Rattle.hba_fbs.specs.declared.register.Register.TheVariants as on_port
use Rattle.hba_fbs.specs.declared.{report.TakeReport.TakeReport, room.Room.Room, turn.Turn.{Turn, TheVariants.{Feeds, Orders, Rests}}}
use Rattle.hba_fbs.specs.{Offering.asked_by, Registers.falls, Taking.port_of, Turning.feeds, Views.{Port, last_command}, Writing.cleared_by}
use Rattle.hba_fbs.specs.Writing.{is_device}
use Rattle.hba_laws.specs.{Alike.{told_issue, told_issued}, CoreHistories.{event_by, happened, history_through, turned_for}, Cores.CoreEvent}
use Rattle.hba_laws.specs.{Cores.RunsBy, Delivering.{begun_by, event_sent, is_control_issue}, History.{Event, History}}
use Rattle.hba_laws.specs.Cores as core
use Rattle.hba_laws.specs.History as history
use Rattle.ahci_controller.specs.{Access.fits, Next.{is_halted, next_write, written}, States.ControllerState, declared.feeding.Fed.Fed}
use Rattle.ahci_controller.specs.declared.next.Next.{Next}
use Rattle.ahci_controller.specs.declared.feeding.Fed.TheVariants as fed_answer
use Rattle.ahci_controller.specs.declared.next.Next.TheVariants as next_step
use Rattle.ahci_registers.specs.Offsets.{register_at}
use Rattle.controller_laws.specs.{CoreEvents.{of_event, of_fed, of_frame, of_next, of_turn}, Events.{Does, Event as Call}}
use Rattle.controller_laws.specs.Events as call
use Rattle.machine_theorem.specs.Waits.{is_commanded}
use Rattle.machine_theorem.proofs.{Calm.{IsUnsentTurn, feeds_unsent, orders_unsent}, CallCores.{Allows, commanded_all, supply_all, wide_all}}
use Rattle.machine_theorem.proofs.{CallCores.write_all, SetupCores.IsWritten}

-- ---- events of a history

abbrev pub AllOf : (Event → Type 0) → History → Type 0
AllOf P [] = Unit {0}
AllOf P (e ∷ h) = P e × AllOf P h

-- no command goes, no block begins, and no Data are carried
abbrev pub IsPlain : Event → Type 0
IsPlain (history.Sent slot) = ⊥
IsPlain (history.PioSetUp count to_host ends) = ⊥
IsPlain (history.Carried bytes) = ⊥
IsPlain other = Unit {0}

module _ (P : Event → Type 0) (plain : (e : Event) → IsPlain e → P e) where
  pub both_of : (g h : History) → AllOf P g → AllOf P h → AllOf P (g ++ h)
  both_of [] h a b = b
  both_of (e ∷ g) h a b = (a.0, both_of g h a.1 b)

  if_of : (b : Bool) (h : History) → (b ≡ true → AllOf P h) → AllOf P (if b then h else [])
  if_of true h of = of refl
  if_of false h of = tt

  some_of : (o : Option Event) → IfSome o P → AllOf P (match_some o [] (λ e. e ∷ []))
  some_of None of = tt
  some_of (Some e) of = (of, tt)

  one_plain : (e : Event) → IsPlain e → AllOf P (e ∷ [])
  one_plain e is = (plain e is, tt)

  issue_of : (slot : ℕ) (table : List Prd) (o : Option Command) → AllOf P (told_issue slot table o)
  issue_of slot table None = tt
  issue_of slot table (Some command) = one_plain (history.Issued slot (record { work = command.work; table = table })) tt

  issued_of : (commands : ℕ → Option Command) (tables : ℕ → List Prd) (k : ℕ) → AllOf P (told_issued commands tables k)
  unfolding told_issued
  issued_of commands tables zero = tt
  issued_of commands tables (suc k) = both_of (told_issue k (tables k) (commands k)) (told_issued commands tables k) (issue_of k (tables k) (commands k)) (issued_of commands tables k)

  begun_of : (slot : ℕ) (o : Option Issue) → AllOf P (begun_by slot o)
  begun_of slot None = tt
  begun_of slot (Some i) = if_of (is_dma i.work.kind) (history.SetUp slot 0 i.work.len (is_read i.work.kind) ∷ []) (λ e. one_plain (history.SetUp slot 0 i.work.len (is_read i.work.kind)) tt)

  control_of : (slot : ℕ) (b : Bool) → (true && not b) ≡ false → AllOf P ((if b then history.SentControl slot else history.Sent slot) ∷ [])
  control_of slot true e = one_plain (history.SentControl slot) tt
  control_of slot false e = absurd (cc)

  pub order_of : (n : ℕ) (port : Port) (dev slot : ℕ) (b : Bool) → (dev == n) ≡ b
      → (b && not (holds is_control_issue (issue_at port.slots slot))) ≡ false
      → AllOf P (if b then begun_by slot (issue_at port.slots slot) ++ event_sent port.slots slot ∷ [] else [])
  order_of n port dev slot true same unsent =
      both_of (begun_by slot (issue_at port.slots slot)) (event_sent port.slots slot ∷ []) (begun_of slot (issue_at port.slots slot))
      (control_of slot (holds is_control_issue (issue_at port.slots slot)) unsent)
  order_of n port dev slot false same unsent = tt

  pub turn_of : ((bytes : List ℕ) → P (history.Carried bytes)) → (n : ℕ) (port : Port) (turn : Turn) (bytes : List ℕ) → IsUnsentTurn n port turn
      → AllOf P (turned_for n port turn bytes)
  turn_of carried n port Rests bytes unsent = tt
  turn_of carried n port (Feeds dev slot offset len) bytes unsent = if_of (dev == n) (history.Carried (drop 4 bytes) ∷ []) (λ e. (
    carried (drop 4
        bytes),
    tt,
  ))
  turn_of carried n port (Orders dev slot command) bytes unsent = order_of n port dev slot (dev == n) refl unsent

-- the test holds of what goes by the turns that are allowed
module _ (P : Event → Type 0) (plain : (e : Event) → IsPlain e → P e) (Goes : (n : ℕ) → Port → Turn → Type 0)
    (turns : (n : ℕ) (port : Port) (turn : Turn) (bytes : List ℕ) → Goes n port turn → AllOf P (turned_for n port turn bytes)) where
  -- ---- events of the core

  abbrev IsFine : (n : ℕ) → Port → CoreEvent → Type 0
  IsFine n port (core.Took frame room report) = (port_of frame == n) ≡ true → IfSome (event_by port room frame) P
  IsFine n port (core.Chose turn bytes) = Goes n port turn
  IsFine n port (core.Wrote register value offer tables) = IsWritten register
  IsFine n port (core.Flushed dev) = ⊥
  IsFine n port (core.Gave bytes) = ⊥
  IsFine n port core.Failed = ⊥
  IsFine n port e = Unit {0}

  event_of_core : (n : ℕ) (port : Port) (e : CoreEvent) → IsFine n port e → AllOf P (happened n port e)
  event_of_core n port (core.Took frame room report) fine = if_of P plain (port_of frame == n) (match_some (event_by port room frame) [] (λ e. e ∷ [])) (λ e. some_of P plain (event_by port room frame) (fine e))
  event_of_core n port (core.Wrote on_port.Fbs value offer tables) fine = if_of P plain (is_device n (cleared_by port.errors value)) (history.Emptied ∷ []) (λ e. one_plain P plain history.Emptied tt)
  event_of_core n port (core.Wrote on_port.Is value offer tables) fine = tt
  event_of_core n port (core.Wrote on_port.Serr value offer tables) fine = tt
  event_of_core n port (core.Wrote on_port.Sact value offer tables) fine = tt
  event_of_core n port (core.Wrote on_port.Sntf value offer tables) fine = tt
  event_of_core n port (core.Wrote register value offer tables) fine = absurd fine
  event_of_core n port (core.Flushed dev) fine = absurd fine
  event_of_core n port (core.Gave bytes) fine = absurd fine
  event_of_core n port core.Failed fine = absurd fine
  event_of_core n port (core.Placed dev slots offer tables) fine = if_of P plain (dev == n) (told_issued (asked_by offer slots) tables 32) (λ e. issued_of P plain (asked_by offer slots) tables 32)
  event_of_core n port (core.Chose turn bytes) fine = turns n port turn bytes fine
  event_of_core n port (core.Greeted frame report) fine = tt
  event_of_core n port (core.Commanded value) fine = if_of P plain (falls port.registers value) (history.Emptied ∷ []) (λ e. one_plain P plain history.Emptied tt)
  event_of_core n port (core.Overrode dev) fine = tt
  event_of_core n port (core.Hung dev line) fine = if_of P plain (dev == n) (history.Emptied ∷ []) (λ e. one_plain P plain history.Emptied tt)
  event_of_core n port core.Relinked fine = one_plain P plain history.Emptied tt
  event_of_core n port core.Restarted fine = one_plain P plain history.Emptied tt

  -- ---- calls of the controller

  abbrev AllFine : (n : ℕ) → (old : Port) → (events : List CoreEvent) → (new : Port) → RunsBy old events new → Type 0
  AllFine n old [] new run = Unit {0}
  AllFine n old (e ∷ later) new run = IsFine n old e × AllFine n run.0 later new run.2

  -- an event that is neither a choice nor a FIS
  abbrev IsQuiet : CoreEvent → Type 0
  IsQuiet (core.Chose turn bytes) = ⊥
  IsQuiet (core.Took frame room report) = ⊥
  IsQuiet (core.Wrote register value offer tables) = IsWritten register
  IsQuiet (core.Flushed dev) = ⊥
  IsQuiet (core.Gave bytes) = ⊥
  IsQuiet core.Failed = ⊥
  IsQuiet e = Unit {0}

  quiet_may : Allows IsQuiet
  quiet_may = record {
    wrote = λ r value is. is;
    placed = λ dev slots offer tables. tt;
    commanded = λ value. tt;
    overrode = λ dev. tt;
    hung = λ dev line. tt;
    relinked = tt;
    restarted = tt;
  }

  quiet_fine : (n : ℕ) (port : Port) (e : CoreEvent) → IsQuiet e → IsFine n port e
  quiet_fine n port (core.Chose turn bytes) quiet = absurd quiet
  quiet_fine n port (core.Took frame room report) quiet = absurd quiet
  quiet_fine n port (core.Wrote register value offer tables) quiet = quiet
  quiet_fine n port (core.Flushed dev) quiet = absurd quiet
  quiet_fine n port (core.Gave bytes) quiet = absurd quiet
  quiet_fine n port core.Failed quiet = absurd quiet
  quiet_fine n port (core.Placed dev slots offer tables) quiet = tt
  quiet_fine n port (core.Greeted frame report) quiet = tt
  quiet_fine n port (core.Commanded value) quiet = tt
  quiet_fine n port (core.Overrode dev) quiet = tt
  quiet_fine n port (core.Hung dev line) quiet = tt
  quiet_fine n port core.Relinked quiet = tt
  quiet_fine n port core.Restarted quiet = tt

  all_fine : (n : ℕ) (events : List CoreEvent) (old new : Port) (run : RunsBy old events new) → All IsQuiet events → AllFine n old events new run
  all_fine n [] old new run quiet = tt
  all_fine n (e ∷ later) old new run quiet =
      (quiet_fine n old e (All-head IsQuiet e later quiet), all_fine n later run.0 new run.2 (All-tail IsQuiet e later quiet))

  -- what a call chooses is allowed
  abbrev NextGoes : (n : ℕ) → Next → ControllerState → Type 0
  NextGoes n (next_step.Order dev slot fis) old =
      Goes n old.core (match_some (issue_at old.core.slots slot) Rests (λ issue. match_some (last_command old.core.commands slot) Rests (Orders issue.dev slot)))
  NextGoes n other old = Unit {0}

  abbrev pub CallGoes : (n : ℕ) → Call → ControllerState → Type 0
  CallGoes n (call.Turned next) old = NextGoes n next old
  CallGoes n (call.Gathered dev number frame fed) old = Goes n old.core (match_some (payload (context_of old.core.slots dev)) Rests (feeds dev))
  CallGoes n e old = Unit {0}

  next_fine : (n : ℕ) (next : Next) (old : ControllerState) (new : Port) (run : RunsBy old.core (of_next next old) new) → NextGoes n next old
      → AllFine n old.core (of_next next old) new run
  next_fine n (next_step.Order dev slot fis) old new run goes = (goes, tt)
  next_fine n other old new run goes = tt

  turn_fine : (n : ℕ) (halted started : Bool) (next : Next) (old : ControllerState) (new : Port) (run : RunsBy old.core (of_turn halted started next old) new)
      → NextGoes n next old → AllFine n old.core (of_turn halted started next old) new run
  turn_fine n true started next old new run goes = next_fine n next old new run goes
  turn_fine n false true next old new run goes = next_fine n next old new run goes
  turn_fine n false false next old new run goes = all_fine n _ old.core new run (commanded_all IsQuiet quiet_may _ _)

  turned_fine : (n : ℕ) (o : Option Next) (next : Next) (old : ControllerState) (new : Port)
      (run : RunsBy old.core (match_some o (of_turn (is_halted (written old)) old.core.registers.started next old) (λ write. of_next next old)) new)
      → NextGoes n next old
      → AllFine n old.core (match_some o (of_turn (is_halted (written old)) old.core.registers.started next old) (λ write. of_next next old)) new run
  turned_fine n None next old new run goes = turn_fine n (is_halted (written old)) old.core.registers.started next old new run goes
  turned_fine n (Some write) next old new run goes = next_fine n next old new run goes

  fed_fine : (n : ℕ) (fed : Fed) (old : ControllerState) (dev : ℕ) (frame : List ℕ) (new : Port) (run : RunsBy old.core (of_fed fed old dev frame) new)
      → Goes n old.core (match_some (payload (context_of old.core.slots dev)) Rests (feeds dev)) → AllFine n old.core (of_fed fed old dev frame) new run
  fed_fine n (fed_answer.Goes message line) old dev frame new run goes = (goes, tt)
  fed_fine n other old dev frame new run goes = tt

  frame_fine : (n : ℕ) (b : Bool) (old : ControllerState) (frame : List ℕ) (report : TakeReport) (port : Port) → ((port_of frame == n) ≡ true → (room : Room) → IfSome (event_by port room frame) P)
      → IsFine n port (of_frame b old frame report)
  frame_fine n true old frame report port fine = λ same. fine same _
  frame_fine n false old frame report port fine = tt

  -- a FIS of the device that is taken by a call is such an event, or none
  abbrev pub FrameIs : (n : ℕ) → Call → Type 0
  FrameIs n (call.Took frame took) = (port_of frame == n) ≡ true → (port : Port) (room : Room) → IfSome (event_by port room frame) P
  FrameIs n e = Unit {0}

  call_fine : (n : ℕ) (e : Call) (old new : ControllerState) (does : Does old e new) (run : RunsBy old.core (of_event old e new does) new.core)
      → CallGoes n e old → FrameIs n e
      → AllFine n old.core (of_event old e new does) new.core run
  call_fine n (call.Wrote offset value written) old new does run goes frame = all_fine n _ old.core new.core run (write_all IsQuiet quiet_may (register_at offset) (λ r. value) old)
  call_fine n (call.WroteWide offset width value written) old new does run goes frame =
      all_fine n _ old.core new.core run (wide_all IsQuiet quiet_may (fits width offset) old offset width value written new does)
  call_fine n (call.Supplied slot number bytes told) old new does run goes frame = all_fine n _ old.core new.core run (supply_all IsQuiet quiet_may slot told new)
  call_fine n (call.Missed slot number told) old new does run goes frame = tt
  call_fine n (call.Took frame took) old new does run goes is = (frame_fine n old.core.registers.started old frame took.report old.core (λ same. is same old.core), tt)
  call_fine n (call.Left frame why) old new does run goes is = tt
  call_fine n (call.Turned next) old new does run goes is = turned_fine n (next_write old) next old new.core run goes
  call_fine n (call.Said write) old new does run goes is = tt
  call_fine n (call.Gathered dev number frame fed) old new does run goes is = fed_fine n fed old dev frame new.core run goes
  call_fine n (call.NotThere dev number fed) old new does run goes is = tt

  -- ---- the history behind a call

  pub record Grown (past now : History) : Type 0 where
    pub more : History
    pub is : now ≡ more ++ past
    pub all : AllOf P more

  through : (n : ℕ) (events : List CoreEvent) (old new : Port) (run : RunsBy old events new) → AllFine n old events new run → (past : History)
      → Grown past (history_through n past old new events run)
  through n [] old new run fine past = record { more = []; is = refl; all = tt }
  through n (e ∷ later) old new run fine past =
      let rest = through n later run.0 new run.2 fine.1 (happened n old e ++ past) in
      record {
        more = rest.more ++ happened n old e;
        is = rest.is ∙ sym (append_assoc rest.more (happened n old e) past);
        all = both_of P plain rest.more (happened n old e) rest.all (event_of_core n old e fine.0);
      }

  pub grown : (n : ℕ) (e : Call) (old new : ControllerState) (does : Does old e new) (run : RunsBy old.core (of_event old e new does) new.core)
      → CallGoes n e old → FrameIs n e
      → (past : History) → Grown past (history_through n past old.core new.core (of_event old e new does) run)
  grown n e old new does run goes is past = through n (of_event old e new does) old.core new.core run (call_fine n e old new does run goes is) past

-- ---- calls that send no command to the device

pub unsent_goes : (P : Event → Type 0) (plain : (e : Event) → IsPlain e → P e) (carried : (bytes : List ℕ)
    → P (history.Carried bytes)) (n : ℕ) (e : Call)
    (old : ControllerState) → is_commanded n old e ≡ false → CallGoes P plain IsUnsentTurn (turn_of P plain carried) n e old
unsent_goes P plain carried n (call.Turned (next_step.Order dev slot fis)) old none =
    orders_unsent n slot old.core (issue_at old.core.slots slot) (last_command old.core.commands slot) refl none
unsent_goes P plain carried n (call.Turned other) old none = tt
unsent_goes P plain carried n (call.Gathered dev number frame fed) old none = feeds_unsent n old.core dev (payload (context_of old.core.slots dev))
unsent_goes P plain carried n e old none = tt

-- ---- any calls

-- no block begins
abbrev pub IsNoBlock : Event → Type 0
IsNoBlock (history.PioSetUp count to_host ends) = ⊥
IsNoBlock other = Unit {0}

pub no_block : (e : Event) → IsPlain e → IsNoBlock e
no_block (history.Sent slot) is = tt
no_block (history.PioSetUp count to_host ends) is = absurd is
no_block (history.Issued slot t) is = tt
no_block (history.SentControl slot) is = tt
no_block (history.SetUp tag offset count to_host) is = tt
no_block (history.Carried bytes) is = absurd is
no_block history.Answered is = tt
no_block (history.Named mask) is = tt
no_block history.Emptied is = tt

begun_any : (slot : ℕ) (o : Option Issue) → AllOf IsNoBlock (begun_by slot o)
begun_any slot None = tt
begun_any slot (Some i) = by (is_dma i.work.kind)
  where
    by : (b : Bool) → AllOf IsNoBlock (if b then history.SetUp slot 0 i.work.len (is_read i.work.kind) ∷ [] else [])
    by true = (tt, tt)
    by false = tt

control_any : (slot : ℕ) (b : Bool) → AllOf IsNoBlock ((if b then history.SentControl slot else history.Sent slot) ∷ [])
control_any slot true = (tt, tt)
control_any slot false = (tt, tt)

if_any : (b : Bool) (h : History) → AllOf IsNoBlock h → AllOf IsNoBlock (if b then h else [])
if_any true h of = of
if_any false h of = tt

abbrev pub AnyTurn : (n : ℕ) → Port → Turn → Type 0
AnyTurn n port turn = Unit {0}

pub turn_any : (n : ℕ) (port : Port) (turn : Turn) (bytes : List ℕ) → AnyTurn n port turn → AllOf IsNoBlock (turned_for n port turn bytes)
turn_any n port Rests bytes goes = tt
turn_any n port (Feeds dev slot offset len) bytes goes = if_any (dev == n) (history.Carried (drop 4 bytes) ∷ []) (tt, tt)
turn_any n port (Orders dev slot command) bytes goes =
    if_any (dev == n) (begun_by slot (issue_at port.slots slot) ++ event_sent port.slots slot ∷ [])
    (both_of IsNoBlock no_block (begun_by slot (issue_at port.slots slot)) (event_sent port.slots slot ∷ []) (begun_any slot (issue_at port.slots slot))
    (control_any slot (holds is_control_issue (issue_at port.slots slot))))

pub any_goes : (n : ℕ) (e : Call) (old : ControllerState) → CallGoes IsNoBlock no_block AnyTurn turn_any n e old
any_goes n (call.Turned (next_step.Order dev slot fis)) old = tt
any_goes n (call.Turned other) old = tt
any_goes n (call.Gathered dev number frame fed) old = tt
any_goes n e old = tt
