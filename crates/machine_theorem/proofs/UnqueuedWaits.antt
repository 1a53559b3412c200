-- A command that is not queued waits in its slot until its device answers or sends Data that end it, if the guest spares it.
use Rattle.std.proofs.Common.{◌≡◌, ℕ, zero, suc, ◌<◌, ◌^◌, ◌&&◌, Bool, true, false, List, [], ◌∷◌, ◌++◌, drop, refl, sym, ap, subst, ◌∙◌, arith}
use Rattle.std.proofs.{Common.{Option, Some, None}, lemmas.Bool.{eq-eqb, eqb-true, false≢true}}
use Rattle.std.specs.{Prelude.{◌==◌, IfSome, MatchOption, if◌then◌else◌}, Option.option_map}
use Rattle.fis_view.specs.Seen.{seen}
use Rattle.host_memory.specs.declared.table.Prd.{Prd}
use Rattle.hba_commands.specs.declared.command.Command.{Command}
use Rattle.guest_fetch.specs.Commands.{Fetched}
use Rattle.slots.specs.{Data.{payload, payload_len}, Slots.{Issue, context_of, has_bit, holds, is_pio, issue_at, match_some, own_issue, slots_of}}
use Rattle.slots.specs.{Table.{IsContext, IsContextOf}, Work.{is_dma, is_queued, is_read}, declared.{table.Context.Context, work.Kind.Kind}}
use Rattle.slots.specs.declared.work.{Kind.TheVariants.PioIn, Work.Work}
use Rattle.slots.proofs.Door.{own_at}
use Rattle.hba_fbs.specs.{Offering.asked_by, Registers.falls, Taking.port_of, Turning.feeds, Views.{Port, last_command, view_of}}
use Rattle.hba_fbs.specs.declared.{error.WriteError.WriteError, report.TakeReport.TakeReport, turn.Turn.{Turn, TheVariants.{Feeds, Orders, Rests}}}
use Rattle.hba_laws.specs.{Agreement.{IsTold, is_for, work_of_issue}, Alike.{told_issue, told_issued}, CoreHistories.{event_by, happened}}
use Rattle.hba_laws.specs.{CoreHistories.{history_through, turned_for}, Cores.{CoreEvent, RunsBy}, Delivering.{begun_by, event_sent}}
use Rattle.hba_laws.specs.{Delivering.is_control_issue, History.{Event, History, Transfer, completes, is_at, is_set_up, issued, unless, waiting_in}}
use Rattle.hba_laws.specs.Cores as core
use Rattle.hba_laws.specs.History as history
use Rattle.hba_laws.proofs.Door.{own_in}
use Rattle.ahci_controller.specs.{Issuing.{device_of, offered_command}, Next.{is_halted, next_write, written}, Offers.offer_in}
use Rattle.ahci_controller.specs.{States.{ControllerState, kept}, declared.{feeding.Fed.Fed, next.Next.Next, issuing.Supply.Supply}}
use Rattle.ahci_controller.specs.declared.feeding.Fed.TheVariants as fed_answer
use Rattle.ahci_controller.specs.declared.next.Next.TheVariants as next_step
use Rattle.ahci_controller.specs.declared.issuing.Supply.TheVariants as supply_answer
use Rattle.controller_laws.specs.{CoreEvents.{no_tables, of_event, of_fed, of_frame, of_next, of_turn, of_supply}, Events.{Does, Event as Call}}
use Rattle.controller_laws.specs.Events.{IsController, Runs}
use Rattle.controller_laws.specs.Events as call
use Rattle.machine_theorem.specs.Ending.{AllKeepEnding, AllUnqueued, HasNoQueued, KeepsEnding, UnqueuedCommandsWait, carries, is_data_of}
use Rattle.machine_theorem.specs.Waits.{SparesWaiting, is_answered, is_commanded, waits_in}
use Rattle.machine_theorem.proofs.{CallEvents.AllOf, FisEvents.{IsNoData, fis_plain}, QuietCalls.{AllLeave, AllQuiet, IsNoWrite, IsQuiet}}
use Rattle.machine_theorem.proofs.QuietCalls.{IsSentThere, Leaves, at_some, call_quiet, event_leaves, if_other, kept_some, named_none, of_issue}
use Rattle.machine_theorem.proofs.{QuietCalls.{sent_if, still_waits}, SetupFrames.the_issue, Shutting.{OneWaits, one_waits as one_waiting, then'}}
use Rattle.machine_theorem.proofs.{Shutting.told_then, Waiting.{Laws, commanded_free, core_events, first_kept, owner, some_waits}}

-- ---- histories

-- a command that is not queued is issued in the slot, and waits
record Waits (s : ℕ) (past : History) : Type 0 where
  transfer : Transfer
  is : issued s past ≡ Some transfer
  plain : is_queued transfer.work.kind ≡ false
  waits : waiting_in past ≡ Some s

one_waits : (s : ℕ) (e : Event) (past : History) → Leaves s e → IsNoData e → Waits s past → Waits s (e ∷ past)
one_waits s (history.Issued slot t) past leaves none w = record {
  transfer = w.transfer;
  is = if_other (slot == s) (Some t) (issued s past) leaves ∙ w.is;
  plain = w.plain;
  waits = still_waits slot s (waiting_in past) w.waits leaves;
}
one_waits s (history.Sent slot) past leaves none w = absurd leaves
one_waits s (history.SentControl slot) past leaves none w = record {
  transfer = w.transfer;
  is = ap (λ (b : Bool). unless b (issued s past)) leaves ∙ w.is;
  plain = w.plain;
  waits = w.waits;
}
one_waits s (history.SetUp tag offset count to_host) past leaves none w = record {
  transfer = w.transfer;
  is = kept_some (issued s past) w.transfer (λ t. false) w.is refl;
  plain = w.plain;
  waits = w.waits;
}
one_waits s (history.PioSetUp count to_host ends) past leaves none w = record {
  transfer = w.transfer;
  is = kept_some (issued s past) w.transfer (λ t. false) w.is refl;
  plain = w.plain;
  waits = w.waits;
}
one_waits s (history.Carried bytes) past leaves none w = absurd none
one_waits s history.Answered past leaves none w = absurd leaves
one_waits s (history.Named mask) past leaves none w = record {
  transfer = w.transfer;
  is = kept_some (issued s past) w.transfer (λ t. completes s (history.Named mask) past t.work) w.is (named_none (has_bit mask s) (is_queued w.transfer.work.kind) _ w.plain);
  plain = w.plain;
  waits = w.waits;
}
one_waits s history.Emptied past leaves none w = absurd leaves

all_wait : (s : ℕ) (h past : History) → AllLeave s h → AllOf IsNoData h → Waits s past → Waits s (h ++ past)
all_wait s [] past leaves none w = w
all_wait s (e ∷ h) past leaves none w = one_waits s e (h ++ past) leaves.0 none.0 (all_wait s h past leaves.1 none.1 w)

-- ---- events of the core that carry no Data for the device

abbrev IsNoFeed : (n : ℕ) → Turn → Type 0
IsNoFeed n (Feeds dev slot offset len) = (dev == n) ≡ false
IsNoFeed n turn = Unit {0}

abbrev HasNoData : (n : ℕ) → CoreEvent → Type 0
HasNoData n (core.Took frame room report) = (port_of frame == n) ≡ true → carries (seen frame) ≡ false
HasNoData n (core.Chose turn bytes) = IsNoFeed n turn
HasNoData n other = Unit {0}

both_no : (g h : History) → AllOf IsNoData g → AllOf IsNoData h → AllOf IsNoData (g ++ h)
both_no [] h a b = b
both_no (e ∷ g) h a b = (a.0, both_no g h a.1 b)

if_no : (b : Bool) (h : History) → (b ≡ true → AllOf IsNoData h) → AllOf IsNoData (if b then h else [])
if_no true h no_data = no_data refl
if_no false h no_data = tt

some_no : (o : Option Event) → IfSome o IsNoData → AllOf IsNoData (match_some o [] (λ e. e ∷ []))
some_no None no_data = tt
some_no (Some e) no_data = (no_data, tt)

issue_no : (slot : ℕ) (table : List Prd) (o : Option Command) → AllOf IsNoData (told_issue slot table o)
issue_no slot table None = tt
issue_no slot table (Some command) = (tt, tt)

issued_no : (commands : ℕ → Option Command) (tables : ℕ → List Prd) (k : ℕ) → AllOf IsNoData (told_issued commands tables k)
unfolding told_issued
issued_no commands tables zero = tt
issued_no commands tables (suc k) = both_no (told_issue k (tables k) (commands k)) (told_issued commands tables k) (issue_no k (tables k) (commands k)) (issued_no commands tables k)

begun_no : (slot : ℕ) (o : Option Issue) → AllOf IsNoData (begun_by slot o)
begun_no slot None = tt
begun_no slot (Some i) = if_no (is_dma i.work.kind) (history.SetUp slot 0 i.work.len (is_read i.work.kind) ∷ []) (λ e. (tt, tt))

control_no : (slot : ℕ) (b : Bool) → IsNoData (if b then history.SentControl slot else history.Sent slot)
control_no slot true = tt
control_no slot false = tt

feed_no : (b : Bool) (e : Event) → b ≡ false → AllOf IsNoData (if b then e ∷ [] else [])
feed_no true e is = absurd (cc)
feed_no false e is = tt

turn_no : (n : ℕ) (port : Port) (turn : Turn) (bytes : List ℕ) → IsNoFeed n turn → AllOf IsNoData (turned_for n port turn bytes)
turn_no n port Rests bytes none = tt
turn_no n port (Feeds dev slot offset len) bytes none = feed_no (dev == n) (history.Carried (drop 4 bytes)) none
turn_no n port (Orders dev slot command) bytes none =
    if_no (dev == n) (begun_by slot (issue_at port.slots slot) ++ event_sent port.slots slot ∷ []) (λ e.
    both_no (begun_by slot (issue_at port.slots slot)) (event_sent port.slots slot ∷ []) (begun_no slot (issue_at port.slots slot))
    (control_no slot (holds is_control_issue (issue_at port.slots slot)), tt))

event_no : (s n : ℕ) (port : Port) (e : CoreEvent) → IsQuiet s n port e → HasNoData n e → AllOf IsNoData (happened n port e)
event_no s n port (core.Took frame room report) quiet none =
    if_no (port_of frame == n) (match_some (event_by port room frame) [] (λ e. e ∷ [])) (λ same. some_no (event_by port room frame) (fis_plain port room frame (none same)))
event_no s n port (core.Placed dev slots offer tables) quiet none = if_no (dev == n) (told_issued (asked_by offer slots) tables 32) (λ e. issued_no (asked_by offer slots) tables 32)
event_no s n port (core.Chose turn bytes) quiet none = turn_no n port turn bytes none
event_no s n port (core.Greeted frame report) quiet none = tt
event_no s n port (core.Commanded value) quiet none = if_no (falls port.registers value) (history.Emptied ∷ []) (λ e. (tt, tt))
event_no s n port other quiet none = absurd quiet

abbrev AllNoData : (n : ℕ) → (old : Port) → (events : List CoreEvent) → (new : Port) → RunsBy old events new → Type 0
AllNoData n old [] new run = Unit {0}
AllNoData n old (e ∷ later) new run = HasNoData n e × AllNoData n run.0 later new run.2

through_waits : (s n : ℕ) (events : List CoreEvent) (old new : Port) (run : RunsBy old events new) → AllQuiet s n old events new run
    → AllNoData n old events new run → (past : History) → Waits s past
    → Waits s (history_through n past old new events run)
through_waits s n [] old new run quiet none past w = w
through_waits s n (e ∷ later) old new run quiet none past w =
    through_waits s n later run.0 new run.2 quiet.1 none.1 (happened n old e ++ past)
    (all_wait s (happened n old e) past (event_leaves s n old e quiet.0) (event_no s n old e quiet.0 none.0) w)

-- ---- calls of the controller

second_off : (a b : Bool) → (a && b) ≡ false → a ≡ true → b ≡ false
second_off true b e f = e
second_off false b e f = absurd (cc)

placed_no : (n slot : ℕ) (o : Option Fetched) (old new : Port)
    (run : RunsBy old (match_some o [] (λ command. core.Placed (device_of command) (2 ^ slot) (offer_in (offered_command command)) no_tables ∷ [])) new)
    → AllNoData n old (match_some o [] (λ command. core.Placed (device_of command) (2 ^ slot) (offer_in (offered_command command)) no_tables ∷ [])) new run
placed_no n slot None old new run = tt
placed_no n slot (Some command) old new run = (tt, tt)

supply_no : (n slot : ℕ) (told : Supply) (old : Port) (new : ControllerState) (run : RunsBy old (of_supply told slot new) new.core)
    → AllNoData n old (of_supply told slot new) new.core run
supply_no n slot (supply_answer.Issued dev) old new run = placed_no n slot (kept new slot) old new.core run
supply_no n slot supply_answer.More old new run = tt
supply_no n slot (supply_answer.NotTaken reason message line) old new run = tt
supply_no n slot supply_answer.OutOfMemory old new run = tt
supply_no n slot supply_answer.Stale old new run = tt

frame_no : (n : ℕ) (b : Bool) (old : ControllerState) (frame : List ℕ) (report : TakeReport) → ((port_of frame == n) && carries (seen frame)) ≡ false → HasNoData n (of_frame b old frame report)
frame_no n true old frame report none = λ same. second_off (port_of frame == n) (carries (seen frame)) none same
frame_no n false old frame report none = tt

orders_no : (n slot : ℕ) (o : Option Issue) (l : Option Command) → IsNoFeed n (match_some o Rests (λ issue. match_some l Rests (Orders issue.dev slot)))
orders_no n slot None l = tt
orders_no n slot (Some issue) None = tt
orders_no n slot (Some issue) (Some command) = tt

next_no : (n : ℕ) (next : Next) (old : ControllerState) (new : Port) (run : RunsBy old.core (of_next next old) new)
    → AllNoData n old.core (of_next next old) new run
next_no n (next_step.Order dev slot fis) old new run = (orders_no n slot (issue_at old.core.slots slot) (last_command old.core.commands slot), tt)
next_no n other old new run = tt

commanded_no : (n : ℕ) (o : Option WriteError) (value : ℕ) (old new : Port) (run : RunsBy old (match_some o (core.Commanded value ∷ []) (λ e. [])) new)
    → AllNoData n old (match_some o (core.Commanded value ∷ []) (λ e. [])) new run
commanded_no n None value old new run = (tt, tt)
commanded_no n (Some e) value old new run = tt

turn_call_no : (n : ℕ) (halted started : Bool) (next : Next) (old : ControllerState) (new : Port) (run : RunsBy old.core (of_turn halted started next old) new)
    → AllNoData n old.core (of_turn halted started next old) new run
turn_call_no n true started next old new run = next_no n next old new run
turn_call_no n false true next old new run = next_no n next old new run
turn_call_no n false false next old new run = commanded_no n _ _ old.core new run

turned_no : (n : ℕ) (o : Option Next) (next : Next) (old : ControllerState) (new : Port)
    (run : RunsBy old.core (match_some o (of_turn (is_halted (written old)) old.core.registers.started next old) (λ write. of_next next old)) new)
    → AllNoData n old.core (match_some o (of_turn (is_halted (written old)) old.core.registers.started next old) (λ write. of_next next old)) new run
turned_no n None next old new run = turn_call_no n (is_halted (written old)) old.core.registers.started next old new run
turned_no n (Some write) next old new run = next_no n next old new run

-- Data go to another device, or to this one where its slot does not wait for Data of a read
feeds_no : (n dev : ℕ) (o : Option (ℕ × ℕ × ℕ)) → ((dev == n) ≡ true → o ≡ None) → IsNoFeed n (match_some o Rests (feeds dev))
feeds_no n dev None none = tt
feeds_no n dev (Some x) none = by (dev == n) refl
  where
    by : (b : Bool) → (dev == n) ≡ b → b ≡ false
    by true same = absurd (some (none same))
      where
        some : Some x ≡ None → ⊥
        some e = cc
    by false same = refl

fed_no : (n : ℕ) (fed : Fed) (old : ControllerState) (dev : ℕ) (frame : List ℕ) (new : Port) (run : RunsBy old.core (of_fed fed old dev frame) new)
    → ((dev == n) ≡ true → payload (context_of old.core.slots dev) ≡ None) → AllNoData n old.core (of_fed fed old dev frame) new run
fed_no n (fed_answer.Goes message line) old dev frame new run none = (feeds_no n dev (payload (context_of old.core.slots dev)) none, tt)
fed_no n other old dev frame new run none = tt

-- the Data that go by a call are none for the device
abbrev FeedsNone : (n : ℕ) → ControllerState → Call → Type 0
FeedsNone n old (call.Gathered dev number frame fed) = (dev == n) ≡ true → payload (context_of old.core.slots dev) ≡ None
FeedsNone n old e = Unit {0}

call_no : (n : ℕ) (e : Call) (old new : ControllerState) (does : Does old e new) (run : RunsBy old.core (of_event old e new does) new.core) → IsNoWrite e
    → is_data_of n e ≡ false
    → FeedsNone n old e → AllNoData n old.core (of_event old e new does) new.core run
call_no n (call.Wrote offset value written) old new does run plain none feeds = absurd plain
call_no n (call.WroteWide offset width value written) old new does run plain none feeds = absurd plain
call_no n (call.Supplied slot number bytes told) old new does run plain none feeds = supply_no n slot told old.core new run
call_no n (call.Missed slot number told) old new does run plain none feeds = tt
call_no n (call.Took frame took) old new does run plain none feeds = (frame_no n old.core.registers.started old frame took.report none, tt)
call_no n (call.Left frame why) old new does run plain none feeds = tt
call_no n (call.Turned next) old new does run plain none feeds = turned_no n (next_write old) next old new.core run
call_no n (call.Said write) old new does run plain none feeds = tt
call_no n (call.Gathered dev number frame fed) old new does run plain none feeds = fed_no n fed old dev frame new.core run feeds
call_no n (call.NotThere dev number fed) old new does run plain none feeds = tt

-- ---- Data that go to the device

is_pio_read : (k : Kind) → is_pio k ≡ true → is_read k ≡ true
is_pio_read PioIn e = refl
is_pio_read other e = absurd (cc)

-- one event of Data that go: the slot is not ended by it
feed_waits : (s : ℕ) (bytes : List ℕ) (past : History) (w : Waits s past) → (is_set_up s past ≡ true → is_pio w.transfer.work.kind ≡ false)
    → Waits s (history.Carried bytes ∷ past)
feed_waits s bytes past w none = record {
  transfer = w.transfer;
  is = kept_some (issued s past) w.transfer (λ t. completes s (history.Carried bytes) past t.work) w.is (four (is_set_up s past) (is_pio w.transfer.work.kind) _ _ none);
  plain = w.plain;
  waits = w.waits;
}
  where
    four : (a b c d : Bool) → (a ≡ true → b ≡ false) → (a && b && c && d) ≡ false
    four false b c d off = refl
    four true true c d off = absurd (let e = off refl in cc)
    four true false c d off = refl

module _ (laws : Laws) (n : ℕ) (below : n < 16) where
  -- the slot that waits, as the history has it
  record Waiting (old : ControllerState) (past : History) : Type 0 where
    slot : ℕ
    issue : Issue
    mine : own_issue (slots_of n old.core.slots) slot ≡ Some issue
    sent : IsSentThere slot old
    waits : Waits slot past
    work : waits.transfer.work ≡ issue.work

  waiting_is : (old : ControllerState) → IsController old → HasNoQueued n old → (past : History) → IsTold (view_of n old.core) past
      → waits_in n old ≡ true → Waiting old past
  waiting_is old k has past told some =
      let o : OneWaits n old = one_waiting n old some in
      let i : Issue = o.issue in
      let there = own_in n o.slot old.core.slots i o.mine in
      let dev : i.dev ≡ n = owner n i (issue_at old.core.slots o.slot) (sym (own_at n old.core.slots o.slot there.0) ∙ o.mine) in
      let t = of_issue (issued o.slot past) i.work (told.issued o.slot ∙ ap (λ (x : Option Issue). option_map work_of_issue x) o.mine) in
      let long = k.slots.slots in
      let under = there.0 in
      record {
        slot = o.slot;
        issue = i;
        mine = o.mine;
        sent = record { issue = i; is = there.1; sent = sent_if i.sent i.answered o.waits; low = omega (arith, long, under) };
        waits = record {
          transfer = t.0;
          is = t.1.0;
          plain = ap (λ (x : Work). is_queued x.kind) t.1.1 ∙ has o.slot i there.1 dev;
          waits = at_some o.slot (waiting_in past) ((told.agrees.issues_agree o.slot i o.mine).waits_is ∙ o.waits);
        };
        work = t.1.1;
      }

  -- what waits in the history waits in its slot
  waits_now : (new : ControllerState) → IsController new → (past : History) → IsTold (view_of n new.core) past → (s : ℕ) → Waits s past → waits_in n new ≡ true
  waits_now new l past told s v =
      let j = the_issue (issued s past) (own_issue (slots_of n new.core.slots) s) v.transfer (told.issued s) v.is in
      some_waits n s new l j.0 j.1.0 (sym (told.agrees.issues_agree s j.0 j.1.0).waits_is ∙ ap (is_at s) v.waits ∙ eq-eqb s s refl)

  -- by a call that feeds the device nothing
  quiet_stays : (e : Call) (old new : ControllerState) (k : IsController old) (l : IsController new) (does : Does old e new) (past : History)
      → (told : IsTold (view_of n old.core) past)
      → IsNoWrite e → is_commanded n old e ≡ false → is_answered n e ≡ false → is_data_of n e ≡ false → FeedsNone n old e → Waiting old past
      → waits_in n new ≡ true
  quiet_stays e old new k l does past told plain none free no_data feeds w =
      let are = core_events laws n below old new e k l does in
      waits_now new l (then' laws n below e old new k l does past told) (told_then laws n below e old new k l does past told) w.slot
      (through_waits w.slot n (of_event old e new does) old.core new.core are.run (call_quiet w.slot n e old new does are.run k plain none free w.sent)
      (call_no n e old new does are.run plain no_data feeds) past w.waits)

  -- by Data that go to the device
  none_set : (old : ControllerState) → IsController old → (past : History) → (told : IsTold (view_of n old.core) past) → (w : Waiting old past)
      → (c : Context) → context_of old.core.slots n ≡ Some c → c.activated ≡ true
      → is_set_up w.slot past ≡ true → is_pio w.waits.transfer.work.kind ≡ false
  none_set old k past told w c is active up =
      let of : IsContext n old.core.slots c = subst (λ (o : Option Context). MatchOption o (Unit {0}) (IsContext n old.core.slots)) is (k.slots.contexts n) in
      let there = (own_in n w.slot old.core.slots w.issue w.mine).1 in
      let for' : (c.slot == w.slot) ≡ true = ap (λ (o : Option Context). is_for w.slot o) (sym is) ∙ sym (told.agrees.issues_agree w.slot w.issue w.mine).set_up_is ∙ up in
      let at : IsContextOf n c w.issue = subst (λ (o : Option Issue). MatchOption o ⊥ (IsContextOf n c)) (ap (issue_at old.core.slots) (eqb-true c.slot w.slot for') ∙ there) of.1 in
      ap (λ (x : Work). is_pio x.kind) w.work ∙ by (is_pio w.issue.work.kind) refl (at.way ∙ (at.activates active).0)
    where
      by : (b : Bool) → is_pio w.issue.work.kind ≡ b → is_read w.issue.work.kind ≡ false → b ≡ false
      by true e no_read = absurd (false≢true (sym no_read ∙ is_pio_read w.issue.work.kind e))
      by false e no_read = refl

  feed_case : (old : ControllerState) (k : IsController old) (past : History) → (told : IsTold (view_of n old.core) past) → (w : Waiting old past) → (dev : ℕ) (frame : List ℕ) → (dev == n) ≡ true
      → (o : Option Context) → context_of old.core.slots dev ≡ o → Waits w.slot (turned_for n old.core (match_some (payload o) Rests (feeds dev)) frame ++ past)
  feed_case old k past told w dev frame same None is = w.waits
  feed_case old k past told w dev frame same (Some c) is = by c.activated refl
    where
      here : context_of old.core.slots n ≡ Some c
      here = ap (context_of old.core.slots) (sym (eqb-true dev n same)) ∙ is

      by : (b : Bool) → c.activated ≡ b
          → Waits w.slot (turned_for n old.core (match_some (if b then Some (c.slot, c.next, payload_len c) else None) Rests (feeds dev)) frame ++ past)
      by false off = w.waits
      by true on =
          subst (λ (b : Bool). Waits w.slot ((if b then history.Carried (drop 4 frame) ∷ [] else []) ++ past)) (sym same)
          (feed_waits w.slot (drop 4 frame) past w.waits (none_set old k past told w c here on))

  feed_through : (fed : Fed) (old new : ControllerState) (k : IsController old) (past : History) → (told : IsTold (view_of n old.core) past)
      → (w : Waiting old past) → (dev : ℕ) (frame : List ℕ)
      → (dev == n) ≡ true → (run : RunsBy old.core (of_fed fed old dev frame) new.core)
      → Waits w.slot (history_through n past old.core new.core (of_fed fed old dev frame) run)
  feed_through (fed_answer.Goes message line) old new k past told w dev frame same run = feed_case old k past told w dev frame same (context_of old.core.slots dev) refl
  feed_through other old new k past told w dev frame same run = w.waits

  fed_stays : (dev number : ℕ) (frame : List ℕ) (fed : Fed) (old new : ControllerState) (k : IsController old) (l : IsController new) (does : Does old (call.Gathered dev number frame fed) new) (past : History)
      → (told : IsTold (view_of n old.core) past) → Waiting old past → waits_in n new ≡ true
  fed_stays dev number frame fed old new k l does past told w = by (dev == n) refl
    where
      by : (b : Bool) → (dev == n) ≡ b → waits_in n new ≡ true
      by false apart = quiet_stays (call.Gathered dev number frame fed) old new k l does past told tt refl refl refl (λ same. absurd (false≢true (sym apart ∙ same))) w
      by true same =
          waits_now new l (then' laws n below (call.Gathered dev number frame fed) old new k l does past told) (told_then laws n below (call.Gathered dev number frame fed) old new k l does past told) w.slot
          (feed_through fed old new k past told w dev frame same (core_events laws n below old new (call.Gathered dev number frame fed) k l does).run)

  other_keeps : (e : Call) (old new : ControllerState) → IsController old → IsController new → Does old e new → IsNoWrite e → FeedsNone n old e
      → HasNoQueued n old → (past : History)
      → IsTold (view_of n old.core) past → KeepsEnding n old e new
  other_keeps e old new k l does plain feeds has past told free no_data some = by (is_commanded n old e) refl
    where
      by : (b : Bool) → is_commanded n old e ≡ b → waits_in n new ≡ true
      by true is = absurd (false≢true (sym (commanded_free n e old new k l does is) ∙ some))
      by false is = quiet_stays e old new k l does past told plain is free no_data feeds (waiting_is old k has past told some)

  keeps : (e : Call) (old new : ControllerState) → IsController old → IsController new → Does old e new → HasNoQueued n old → SparesWaiting n old e new
      → (past : History) → IsTold (view_of n old.core) past
      → KeepsEnding n old e new
  keeps (call.Wrote offset value result) old new k l does has spares past told = λ free no_data some. spares some
  keeps (call.WroteWide offset width value result) old new k l does has spares past told = λ free no_data some. spares some
  keeps (call.Supplied slot number bytes supply) old new k l does has spares past told = other_keeps (call.Supplied slot number bytes supply) old new k l does tt tt has past told
  keeps (call.Missed slot number supply) old new k l does has spares past told = other_keeps (call.Missed slot number supply) old new k l does tt tt has past told
  keeps (call.Took frame took) old new k l does has spares past told = other_keeps (call.Took frame took) old new k l does tt tt has past told
  keeps (call.Left frame why) old new k l does has spares past told = other_keeps (call.Left frame why) old new k l does tt tt has past told
  keeps (call.Turned next) old new k l does has spares past told = other_keeps (call.Turned next) old new k l does tt tt has past told
  keeps (call.Said write) old new k l does has spares past told = other_keeps (call.Said write) old new k l does tt tt has past told
  keeps (call.Gathered dev number frame fed) old new k l does has spares past told =
      λ free no_data some. fed_stays dev number frame fed old new k l does past told (waiting_is old k has past told some)
  keeps (call.NotThere dev number fed) old new k l does has spares past told = other_keeps (call.NotThere dev number fed) old new k l does tt tt has past told

  all_keep : (old now : ControllerState) (events : List Call) (run : Runs old events now) → (past : History) → IsTold (view_of n old.core) past
      → AllUnqueued n old events now run
      → AllKeepEnding n old events now run
  all_keep old now [] run past told plain = tt
  all_keep old now (e ∷ later) run past told plain =
      let mid : ControllerState = run.1.0 in
      let kept_mid : IsController mid = first_kept later mid now run.1.2 in
      (keeps e old mid run.0 kept_mid run.1.1 plain.0 plain.1 past told, all_keep mid now later run.1.2 _ (told_then laws n below e old mid run.0 kept_mid run.1.1 past told) plain.2)

pub unqueued_wait : Laws → UnqueuedCommandsWait
unqueued_wait laws n below old now events run past told plain = all_keep laws n below old now events run past told plain
