-- For `devices_are_apart`. What a device has issued while it recovers, what goes out to it, and that none of its
-- requests waits or is issued.
use Rattle.std.proofs.Common.{◌≡◌, ◌≢◌, ℕ, ◌+◌, ◌*◌, ◌<◌, ◌≤◌, ◌⊎◌, Bool, true, false, ◌&&◌, ◌||◌, List, length, set, refl, sym, ◌∙◌, ap, subst, inl}
use Rattle.std.proofs.{Common.{inr, arith, Option, Some, None}, lemmas.Bool.{cases_eq, false≢true, true≢false}}
use Rattle.std.specs.{Prelude.{if◌then◌else◌, not, is_none, is_some, bit_or, ◌%◌}, Option.option_map}
use Rattle.fis_view.specs.{Bits.bits, Built.{IsBuilt, cut, h2d_given}, Frames.Stamped, Table.{H2d, field, places, spelled}}
use Rattle.fis_view.specs.declared.build.H2dFields.{H2dFields}
use Rattle.fis_view.specs.Table as table
use Rattle.host_memory.specs.Memory.{Memory}
use Rattle.hba_commands.specs.{declared.command.Command.Command, Requests.{request_of, work_of}}
use Rattle.port_errors.specs.{Errors.cause_of, declared.cause.DeviceCause.DeviceCause}
use Rattle.slots.specs.{Commands.{is_slot, may_begin, sent_issue, with_sent}, Data.payload, Slots.{DeviceSlots, Issue, context_of, context_unless}}
use Rattle.slots.specs.{Slots.{freed, holds, is_control, issue_at, match_some, new_issue, own_issue, slots_of, waiting}, Work.{is_dma, is_queued}}
use Rattle.slots.specs.declared.{table.Context.Context, work.Work.Work}
use Rattle.slots.proofs.Door.{lowest_is}
use Rattle.hba_fbs.specs.Sending.{Data, Gives, Nothing, Order as Goes, Outgoing, Sends, data_due, data_with, is_due, is_ready, next_receiver}
use Rattle.hba_fbs.specs.{Sending.{next_to_send, order_due, outgoing, resets, view_sent}, Tables.sound_command, Views.{DeviceView, Port}}
use Rattle.hba_fbs.specs.Views.{last_command, view_of}
use Rattle.hba_laws.specs.{Agreement.{work_of_issue, work_of_transfer}, Client.{Touches, own}, History.{Transfer, issued}, Isolation.may_leave}
use Rattle.hba_laws.specs.{Isolation.next_own, Between.IsOrder}
use Rattle.hba_laws.proofs.Door.{at_same, held, is_own, order_is, order_is_own, own_freed, own_set, some_inj, the_transfer}
use Rattle.hba_driver.specs.declared.{plan.{Device.TheVariants.{Ready, Recovering}, Plan.Plan}, request.Request.Request, slot.Phase.Phase}
use Rattle.hba_driver.specs.{declared.slot.Phase.TheVariants.Issued, Drivers.{Driver, Entry, device_at, entry_at, has_ended_in, is_aside_in}}
use Rattle.hba_driver.specs.{Drivers.is_issued_in, Events.{IsSoundHost, shared_by}, HostTurns.{Host, Pushed}, Laws.is_withdrawn, Orders.control}
use Rattle.hba_driver.specs.{Orders.log_fields, Served.{IsOrdered, IsRequest, IsServed, IsStep}, Slot30.{Asks, Cleared, Clears, Faulty, IsAlone30}}
use Rattle.hba_driver.specs.Slot30.{IsAt30, IsFree30, IsPlan30, IsSlot30, IsUnsent30, LogSent, Off, On, PushesOn30, Sets, Stage30, StaysOn30, Turns30}
use Rattle.hba_driver.specs.{Slot30.{fields30, is_faulty, is_resetting, sent30}, Submits.{after_submit, next_slot as place_for, new_entry}}
use Rattle.hba_driver.specs.Between.{PollFacts}
use Rattle.hba_driver.proofs.{requests.HistoryLemmas.{freed as polled_is, poll_facts}, slot31.Push31Lemmas.third_bit, calls.RequestLemmas.set_cases}
use Rattle.hba_driver.proofs.{steady.SteadyTurns.is_ready_dev, slot31.SentLemmas.{gone, gone_plain}}

-- ---- what leaves a stage

unsent_same : (n : ℕ) (fields : H2dFields) (p q : Port) → view_of n q ≡ view_of n p → last_command q.commands 30 ≡ last_command p.commands 30 → IsUnsent30 n fields p → IsUnsent30 n fields q
unsent_same n fields p q view last u = record {
  issued = ap (λ (v : DeviceView). own_issue v.slots 30) view ∙ u.issued;
  command = u.command;
  there = last ∙ u.there;
  work = u.work;
  built = u.built;
}

pub slot_same : (n : ℕ) (stage : Stage30) (p q : Port) → view_of n q ≡ view_of n p → (is_some (fields30 n stage) ≡ true → last_command q.commands 30 ≡ last_command p.commands 30) → IsSlot30 n stage p → IsSlot30 n stage q
slot_same n Faulty p q view last is = tt
slot_same n Asks p q view last is = unsent_same n (log_fields n) p q view (last refl) is
slot_same n LogSent p q view last is = record { issue = is.issue; issued = ap (λ (v : DeviceView). own_issue v.slots 30) view ∙ is.issued; sent = is.sent; unanswered = is.unanswered; work = is.work }
slot_same n Sets p q view last is = unsent_same n (control n 4) p q view (last refl) is
slot_same n Clears p q view last is = unsent_same n (control n 0) p q view (last refl) is
slot_same n other p q view last is = ap (λ (v : DeviceView). own_issue v.slots 30) view ∙ is

-- the driver's side of a stage
pub record IsDriven30 (n : ℕ) (stage : Stage30) (d : Driver) : Type 0 where
  pub opened : 7 ≤ d.plan.opened
  pub plan : is_faulty stage ≡ false → IsPlan30 n stage d.plan
  pub withdrawn : is_faulty stage ≡ false → (s : ℕ) (e : Entry) → entry_at d.entries s ≡ Some e → e.head.dev ≡ n → is_withdrawn e.head ≡ true

pub driven_at : (n : ℕ) (stage : Stage30) (h : Host) → IsAt30 n stage h → IsDriven30 n stage h.driver
driven_at n stage h at = record { opened = at.opened; plan = λ well. (at.apart well).plan; withdrawn = λ well. (at.apart well).withdrawn }

pub kept30 : (n : ℕ) (stage : Stage30) (old new : Host) → view_of n new.port ≡ view_of n old.port → (is_some (fields30 n stage) ≡ true → last_command new.port.commands 30 ≡ last_command old.port.commands 30)
    → IsDriven30 n stage new.driver → IsAt30 n stage old → IsAt30 n stage new
kept30 n stage old new view last d at = record {
  opened = d.opened;
  fault = ap (λ (v : DeviceView). is_some v.fault) view ∙ at.fault;
  apart = λ well. record {
    plan = d.plan well;
    slot = slot_same n stage old.port new.port view last (at.apart well).slot;
    context = ap (λ (v : DeviceView). v.slots.context) view ∙ (at.apart well).context;
    resetting = ap (λ (v : DeviceView). v.state.resetting) view ∙ (at.apart well).resetting;
    withdrawn = d.withdrawn well;
  };
}

same_driver : (n : ℕ) (stage : Stage30) (old new : Driver) → new ≡ old → IsDriven30 n stage old → IsDriven30 n stage new
same_driver n stage old new is h = subst (IsDriven30 n stage) (sym is) h

-- ---- what is issued

not_withdrawn : (p : Phase) → is_issued_in p ≡ true → (is_aside_in p || has_ended_in p) ≡ true → ⊥
not_withdrawn Issued h k = false≢true k
not_withdrawn other h k = false≢true h

-- no command of slot 30 is queued
unqueued_log : (n : ℕ) → is_queued (work_of (request_of (log_fields n))).kind ≡ false
unfolding work_of
unqueued_log n = refl

pub control_kind : (n value : ℕ) → (is_queued (work_of (request_of (control n value))).kind ≡ false) × (is_control (work_of (request_of (control n value))).kind ≡ true)
unfolding work_of
control_kind n value = (refl, refl)

plain_log : (n : ℕ) → is_control (work_of (request_of (log_fields n))).kind ≡ false
unfolding work_of
plain_log n = refl

-- and none moves data of its own accord
log_apart : (n : ℕ) → is_dma (work_of (request_of (log_fields n))).kind ≡ false
unfolding work_of
log_apart n = refl

plain_control : (n value : ℕ) → is_dma (work_of (request_of (control n value))).kind ≡ false
unfolding work_of
plain_control n value = refl

issue_of_transfer : (o : Option Transfer) (p : Option Issue) (t : Transfer) → o ≡ Some t → option_map work_of_transfer o ≡ option_map work_of_issue p → (i : Issue) × (p ≡ Some i) × (i.work ≡ t.work)
issue_of_transfer o None t is same = let bad : Some t.work ≡ None = sym (ap (option_map work_of_transfer) is) ∙ same in cc
issue_of_transfer o (Some i) t is same = (i, refl, some_inj i.work t.work (sym same ∙ ap (option_map work_of_transfer) is))

queued_slot : (n : ℕ) (stage : Stage30) (port : Port) (i : Issue) → is_faulty stage ≡ false → IsSlot30 n stage port → own_issue (view_of n port).slots 30 ≡ Some i → is_queued i.work.kind ≡ false
queued_slot n Faulty port i well is there = absurd (true≢false well)
queued_slot n Asks port i well is there = ap (λ (x : Issue). is_queued x.work.kind) (some_inj i (new_issue n (work_of (request_of (log_fields n)))) (sym there ∙ is.issued)) ∙ unqueued_log n
queued_slot n LogSent port i well is there = ap (λ (x : Issue). is_queued x.work.kind) (some_inj i is.issue (sym there ∙ is.issued)) ∙ ap (λ (w : Work). is_queued w.kind) is.work ∙ unqueued_log n
queued_slot n Sets port i well is there = ap (λ (x : Issue). is_queued x.work.kind) (some_inj i (new_issue n (work_of (request_of (control n 4)))) (sym there ∙ is.issued)) ∙ (control_kind n 4).0
queued_slot n Clears port i well is there = ap (λ (x : Issue). is_queued x.work.kind) (some_inj i (new_issue n (work_of (request_of (control n 0)))) (sym there ∙ is.issued)) ∙ (control_kind n 0).0
queued_slot n other port i well is there = let bad : None ≡ Some i = sym is ∙ there in cc

module _ (n : ℕ) (past : Touches) (h : Host) (stage : Stage30) (low : n < 15) (served : IsServed h.driver (shared_by h) past) (at : IsAt30 n stage h) (well : is_faulty stage ≡ false) where
  in_thirty : (s : ℕ) (t : Transfer) → IsRequest h.driver n s t ⊎ (IsStep h.driver n s t ⊎ IsOrdered h.driver n s t) → s ≡ 30
  in_thirty s t (inl r) = absurd (not_withdrawn r.entry.head.phase r.goes ((at.apart well).withdrawn s r.entry r.stands r.of_dev))
  in_thirty s t (inr (inl st)) = st.slot
  in_thirty s t (inr (inr o)) = absurd (omega (arith, low, o.of_dev))

  pub alone_issue : (s : ℕ) (i : Issue) → own_issue (slots_of n h.port.slots) s ≡ Some i → s ≡ 30
  alone_issue s i there =
      let t = the_transfer (issued s (own n past)) (own_issue (slots_of n h.port.slots) s) i there ((served.told n (omega (arith, low))).issued s) in
      in_thirty s t.0 (served.issues n s t.0 t.1).from

  pub alone_transfer : (s : ℕ) (t : Transfer) → issued s (own n past) ≡ Some t → (s ≡ 30) × (is_queued t.work.kind ≡ false)
  alone_transfer s t is =
      let slot : s ≡ 30 = in_thirty s t (served.issues n s t is).from in
      let i = issue_of_transfer (issued s (own n past)) (own_issue (slots_of n h.port.slots) s) t is ((served.told n (omega (arith, low))).issued s) in
      let here : own_issue (view_of n h.port).slots 30 ≡ Some i.0 = subst (λ (k : ℕ). own_issue (slots_of n h.port.slots) k ≡ Some i.0) slot i.1 in
      (slot, sym (ap (λ (w : Work). is_queued w.kind) i.2) ∙ queued_slot n stage h.port i.0 well (at.apart well).slot here)

pub is_alone : (n : ℕ) → IsAlone30 n
is_alone n = record {
  issues = λ past h stage low served at well s i there. alone_issue n past h stage low served at well s i there;
  transfers = λ past h stage low served at well s t is. alone_transfer n past h stage low served at well s t is;
}

-- ---- a command goes out of slot 30

module _ (view : DeviceView) (command : Command) (i : Issue) (there : own_issue view.slots 30 ≡ Some i) (long : length view.slots.issues ≡ 32) (none : view.slots.context ≡ None) (plain : is_dma i.work.kind ≡ false) where
  holds_is : holds (λ issue. is_control issue.work.kind) (own_issue view.slots 30) ≡ is_control i.work.kind
  holds_is = ap (holds (λ issue. is_control issue.work.kind)) there

  slots_control : is_control i.work.kind ≡ true → (view_sent view 30 command).slots ≡ freed (is_slot 30) view.slots
  slots_control is = ap (λ (b : Bool). if b then freed (is_slot 30) view.slots else gone view.slots 30) (holds_is ∙ is)

  slots_command : is_control i.work.kind ≡ false → (view_sent view 30 command).slots ≡ with_sent view.slots 30
  slots_command is = ap (λ (b : Bool). if b then freed (is_slot 30) view.slots else gone view.slots 30) (holds_is ∙ is) ∙ gone_plain view.slots 30 i there plain

  gone_free : is_control i.work.kind ≡ true → own_issue (view_sent view 30 command).slots 30 ≡ None
  gone_free is = ap (λ (s : DeviceSlots). own_issue s 30) (slots_control is) ∙ ap (λ (f : ℕ → Option Issue). f 30) (own_freed (is_slot 30) view.slots)

  gone_context : is_control i.work.kind ≡ true → (view_sent view 30 command).slots.context ≡ None
  gone_context is = ap (λ (s : DeviceSlots). s.context) (slots_control is) ∙ ap (context_unless (is_slot 30)) none

  kept_context : is_control i.work.kind ≡ false → (view_sent view 30 command).slots.context ≡ None
  kept_context is = ap (λ (s : DeviceSlots). s.context) (slots_command is) ∙ none

  gone_sent : is_control i.work.kind ≡ false → own_issue (view_sent view 30 command).slots 30 ≡ Some (sent_issue i)
  gone_sent is =
      ap (λ (s : DeviceSlots). own_issue s 30) (slots_command is)
      ∙ ap (λ (f : ℕ → Option Issue). f 30) (own_set view.slots 30 (option_map sent_issue (own_issue view.slots 30)) (omega (arith, long)))
      ∙ at_same (own_issue view.slots) 30 30 (option_map sent_issue (own_issue view.slots 30)) refl
      ∙ ap (option_map sent_issue) there

  state_control : is_control command.work.kind ≡ true → (view_sent view 30 command).state.resetting ≡ (view.state.resetting || resets command.cfis)
  state_control is = ap (λ (b : Bool). (if b then record view.state { resetting = view.state.resetting || resets command.cfis } else record view.state { status = bit_or view.state.status 128 }).resetting) is

  state_command : is_control command.work.kind ≡ false → (view_sent view 30 command).state.resetting ≡ view.state.resetting
  state_command is = ap (λ (b : Bool). (if b then record view.state { resetting = view.state.resetting || resets command.cfis } else record view.state { status = bit_or view.state.status 128 }).resetting) is

leaves_fresh : (sent a b : Bool) → (not sent && a && b) ≡ true → sent ≡ false
leaves_fresh false a b h = refl
leaves_fresh true a b h = absurd (false≢true h)

leaves_healthy : (sent a b : Bool) → (not sent && not a && b) ≡ true → a ≡ false
leaves_healthy false false b h = refl
leaves_healthy false true b h = absurd (false≢true h)
leaves_healthy true a b h = absurd (false≢true h)

set_reset : (n : ℕ) (cfis : List ℕ) → IsBuilt H2d (h2d_given (control n 4)) cfis → resets cfis ≡ true
unfolding field places spelled cut
set_reset n cfis built =
    let is : bits cfis 120 8 + 256 * 0 ≡ 4 % 256 + 256 * 0 = built.fields table.Control in
    third_bit cfis (omega (arith, is))

or_true : (a b : Bool) → b ≡ true → (a || b) ≡ true
or_true true b h = refl
or_true false b h = h

or_first : (a b : Bool) → a ≡ true → (a || b) ≡ true
or_first true b h = refl
or_first false b h = absurd (false≢true h)

-- ---- to whom data goes

data_dev : (d dev offset len a l : ℕ) (o : Option Command) (command : Command) → data_with d a l o ≡ Data dev offset len command → d ≡ dev
data_dev d dev offset len a l None command h = cc
data_dev d dev offset len a l (Some c) command h = cc

due_dev : (port : Port) (memory : Memory) (d dev offset len : ℕ) (p : Option (ℕ × ℕ × ℕ)) (command : Command) → match_some p Nothing (λ next. data_with d next.1 next.2 (sound_command memory port.commands (view_of d port).slots next.0)) ≡ Data dev offset len command → d ≡ dev
due_dev port memory d dev offset len None command h = cc
due_dev port memory d dev offset len (Some next) command h = data_dev d dev offset len next.1 next.2 (sound_command memory port.commands (view_of d port).slots next.0) command h

order_none : (slot dev offset len : ℕ) (o : Option Issue) (q : Option Command) (command : Command) → match_some o Nothing (λ issue. match_some q Nothing (Goes issue.dev slot)) ≡ Data dev offset len command → ⊥
order_none slot dev offset len None q command h = cc
order_none slot dev offset len (Some i) None command h = cc
order_none slot dev offset len (Some i) (Some c) command h = cc

data_next : (port : Port) (memory : Memory) (b : Bool) (r s : Option ℕ) (dev offset len : ℕ) (command : Command) → (if b then Nothing else match_some r (match_some s Nothing (order_due port)) (data_due port memory)) ≡ Data dev offset len command → r ≡ Some dev
data_next port memory true r s dev offset len command h = cc
data_next port memory false None None dev offset len command h = cc
data_next port memory false None (Some slot) dev offset len command h = absurd (order_none slot dev offset len (issue_at port.slots slot) (last_command port.commands slot) command h)
data_next port memory false (Some d) s dev offset len command h = ap (λ (k : ℕ). Some k) (due_dev port memory d dev offset len (payload (context_of port.slots d)) command h)

both : (a b : Bool) → (a && b) ≡ true → (a ≡ true) × (b ≡ true)
both true b h = (refl, h)
both false b h = absurd (false≢true h)

none_some : (o : Option DeviceCause) → is_none o ≡ true → is_some o ≡ false
none_some None h = refl
none_some (Some c) h = absurd (false≢true h)

-- it goes to no device with a fault
data_healthy : (port : Port) (dev : ℕ) → next_receiver port ≡ Some dev → (is_some (payload (context_of port.slots dev)) ≡ true) × (is_some (cause_of port.errors dev) ≡ false)
unfolding next_receiver
data_healthy port dev h =
    let parts = both (is_some (payload (context_of port.slots dev))) (is_none (cause_of port.errors dev)) (lowest_is (is_due port.slots port.errors) 16 dev h).passes in
    (parts.0, none_some (cause_of port.errors dev) parts.1)

-- ---- a frame goes out

module _ (n : ℕ) (past : Touches) (old : Host) (new : Host) (stage : Stage30) (low : n < 15) (sound : IsSoundHost old) (served : IsServed old.driver (shared_by old) past) (at : IsAt30 n stage old) (driver : new.driver ≡ old.driver) where
  abbrev v : DeviceView
  v = view_of n old.port

  driven : (next : Stage30) → IsDriven30 n next old.driver → IsDriven30 n next new.driver
  driven next h = same_driver n next old.driver new.driver driver h

  stays : view_of n new.port ≡ v → new.port.commands ≡ old.port.commands → IsAt30 n stage new
  stays view commands = kept30 n stage old new view (λ some. ap (λ (c : List (Option Command)). last_command c 30) commands) (driven stage (driven_at n stage old at)) at

  record Went (bytes : List ℕ) : Type 0 where
    pub next : Stage30
    pub now : IsAt30 n next new
    pub fields : H2dFields
    pub are : fields30 n stage ≡ Some fields
    pub built : IsBuilt H2d (h2d_given fields) bytes
    pub after : next ≡ sent30 stage

  long : length v.slots.issues ≡ 32
  long = (is_own n old.port.slots sound.ruled.table).long

  -- the stage after it
  went_at : (next : Stage30) → is_faulty next ≡ false → is_faulty stage ≡ false → IsPlan30 n next old.driver.plan → is_some (view_of n new.port).fault ≡ false → IsSlot30 n next new.port
      → (view_of n new.port).slots.context ≡ None → (view_of n new.port).state.resetting ≡ is_resetting next → IsAt30 n next new
  went_at next good well plan fault slot context resetting = record {
    opened = subst (λ (d : Driver). 7 ≤ d.plan.opened) (sym driver) at.opened;
    fault = fault ∙ sym good;
    apart = λ w. record {
      plan = subst (λ (d : Driver). IsPlan30 n next d.plan) (sym driver) plan;
      slot = slot;
      context = context;
      resetting = resetting;
      withdrawn = subst (λ (d : Driver). (s : ℕ) (e : Entry) → entry_at d.entries s ≡ Some e → e.head.dev ≡ n → is_withdrawn e.head ≡ true) (sym driver) (at.apart well).withdrawn;
    };
  }

  -- a Control went out
  went_control : (value : ℕ) (next : Stage30) (frame : Stamped) (command : Command) → Sends old.port n command.cfis (view_sent v 30 command) frame new.port → last_command old.port.commands 30 ≡ Some command
      → (u : IsUnsent30 n (control n value) old.port) → is_faulty next ≡ false → is_faulty stage ≡ false → IsPlan30 n next old.driver.plan → ((port : Port) → IsFree30 n port → IsSlot30 n next port)
      → (IsBuilt H2d (h2d_given (control n value)) command.cfis → (v.state.resetting || resets command.cfis) ≡ is_resetting next) → fields30 n stage ≡ Some (control n value) → next ≡ sent30 stage → Went frame.bytes
  went_control value next frame command sent last u good well plan free reset are after =
      let same : u.command ≡ command = some_inj u.command command (sym u.there ∙ last) in
      let i : Issue = new_issue n (work_of (request_of (control n value))) in
      let kind : is_control i.work.kind ≡ true = (control_kind n value).1 in
      let work : is_control command.work.kind ≡ true = ap (λ (c : Command). is_control c.work.kind) (sym same) ∙ ap (λ (w : Work). is_control w.kind) u.work ∙ kind in
      let built : IsBuilt H2d (h2d_given (control n value)) command.cfis = subst (λ (c : Command). IsBuilt H2d (h2d_given (control n value)) c.cfis) same u.built in
      record {
        next = next;
        now = went_at next good well plan (ap (λ (x : DeviceView). is_some x.fault) sent.own ∙ at.fault ∙ well)
            (free new.port (ap (λ (x : DeviceView). own_issue x.slots 30) sent.own ∙ gone_free v command i u.issued long (at.apart well).context (plain_control n value) kind))
            (ap (λ (x : DeviceView). x.slots.context) sent.own ∙ gone_context v command i u.issued long (at.apart well).context (plain_control n value) kind)
            (ap (λ (x : DeviceView). x.state.resetting) sent.own ∙ state_control v command i u.issued long (at.apart well).context (plain_control n value) work ∙ reset built);
        fields = control n value;
        are = are;
        built = subst (λ (b : List ℕ). IsBuilt H2d (h2d_given (control n value)) b) (sym (ap (λ (f : Stamped). f.bytes) sent.frame_is)) built;
        after = after;
      }

  -- the log is asked for
  went_log : (frame : Stamped) (command : Command) → stage ≡ Asks → Sends old.port n command.cfis (view_sent v 30 command) frame new.port → last_command old.port.commands 30 ≡ Some command
      → (u : IsUnsent30 n (log_fields n) old.port) → is_faulty stage ≡ false → IsPlan30 n LogSent old.driver.plan → Went frame.bytes
  went_log frame command asks sent last u well plan =
      let same : u.command ≡ command = some_inj u.command command (sym u.there ∙ last) in
      let i : Issue = new_issue n (work_of (request_of (log_fields n))) in
      let kind : is_control i.work.kind ≡ false = plain_log n in
      let work : is_control command.work.kind ≡ false = ap (λ (c : Command). is_control c.work.kind) (sym same) ∙ ap (λ (w : Work). is_control w.kind) u.work ∙ kind in
      let none : v.slots.context ≡ None = (at.apart well).context in
      record {
        next = LogSent;
        now = went_at LogSent refl well plan (ap (λ (x : DeviceView). is_some x.fault) sent.own ∙ at.fault ∙ well)
            (record { issue = sent_issue i; issued = ap (λ (x : DeviceView). own_issue x.slots 30) sent.own ∙ gone_sent v command i u.issued long none (log_apart n) kind; sent = refl; unanswered = refl; work = refl })
            (ap (λ (x : DeviceView). x.slots.context) sent.own ∙ kept_context v command i u.issued long none (log_apart n) kind)
            (ap (λ (x : DeviceView). x.state.resetting) sent.own ∙ state_command v command i u.issued long none (log_apart n) work ∙ (at.apart well).resetting ∙ ap is_resetting asks);
        fields = log_fields n;
        are = ap (fields30 n) asks;
        built = subst (λ (b : List ℕ). IsBuilt H2d (h2d_given (log_fields n)) b) (sym (ap (λ (f : Stamped). f.bytes) sent.frame_is)) (subst (λ (c : Command). IsBuilt H2d (h2d_given (log_fields n)) c.cfis) same u.built);
        after = ap sent30 (sym asks);
      }

  no_free : (i : Issue) {P : Type 0} → own_issue v.slots 30 ≡ Some i → IsFree30 n old.port → P
  no_free i there free = let bad : None ≡ Some i = sym free ∙ there in cc

  goes_by : (s : Stage30) → stage ≡ s → (frame : Stamped) (command : Command) → Sends old.port n command.cfis (view_sent v 30 command) frame new.port → last_command old.port.commands 30 ≡ Some command
      → (i : Issue) → own_issue v.slots 30 ≡ Some i → i.sent ≡ false → is_faulty stage ≡ false → IsPlan30 n s old.driver.plan → IsSlot30 n s old.port → Went frame.bytes
  goes_by Faulty is frame command sent last i there fresh well plan slot = absurd (true≢false (sym (ap is_faulty is) ∙ well))
  goes_by Asks is frame command sent last i there fresh well plan slot = went_log frame command is sent last slot well plan
  goes_by LogSent is frame command sent last i there fresh well plan slot =
      let same : slot.issue ≡ i = some_inj slot.issue i (sym slot.issued ∙ there) in
      absurd (true≢false (sym slot.sent ∙ ap (λ (x : Issue). x.sent) same ∙ fresh))
  goes_by Sets is frame command sent last i there fresh well plan slot =
      went_control 4 On frame command sent last slot refl well (inl plan) (λ port free. free) (λ built. or_true v.state.resetting (resets command.cfis) (set_reset n command.cfis built)) (ap (fields30 n) is) (ap sent30 (sym is))
  goes_by Clears is frame command sent last i there fresh well plan slot =
      went_control 0 Off frame command sent last slot refl well (inl plan) (λ port free. free) (λ built. or_first v.state.resetting (resets command.cfis) ((at.apart well).resetting ∙ ap is_resetting is)) (ap (fields30 n) is) (ap sent30 (sym is))
  goes_by other is frame command sent last i there fresh well plan slot = no_free i there slot

  -- the command that goes to the device is that of slot 30
  goes_order : (slot : ℕ) (command : Command) (frame : Stamped) → outgoing old.port old.memory ≡ Goes n slot command → Sends old.port n command.cfis (view_sent v slot command) frame new.port → Went frame.bytes
  goes_order slot command frame is sent =
      let o : IsOrder old.port n slot command (next_receiver old.port) (next_to_send old.port) = order_is old.port old.memory n slot command is in
      let next : next_own v ≡ Some slot = order_is_own old.port n slot (omega (arith, low)) sound.ruled.table.slots o.owns o.next in
      let found = lowest_is (λ s. holds (may_leave v) (own_issue v.slots s)) 32 slot next in
      let here = held (may_leave v) (own_issue v.slots slot) found.passes in
      let fresh : here.0.sent ≡ false = leaves_fresh here.0.sent (not (is_some v.fault)) (is_control here.0.work.kind || is_ready v.state && is_none (waiting v.slots) && may_begin v.slots here.0) here.2 in
      let well : is_faulty stage ≡ false = sym at.fault ∙ leaves_healthy here.0.sent (is_some v.fault) (is_control here.0.work.kind || is_ready v.state && is_none (waiting v.slots) && may_begin v.slots here.0) here.2 in
      let thirty : slot ≡ 30 = alone_issue n past old stage low served at well slot here.0 here.1 in
      goes_by stage refl frame command (subst (λ (s : ℕ). Sends old.port n command.cfis (view_sent v s command) frame new.port) thirty sent)
      (subst (λ (s : ℕ). last_command old.port.commands s ≡ Some command) thirty o.stands) here.0 (subst (λ (s : ℕ). own_issue v.slots s ≡ Some here.0) thirty here.1) fresh well (at.apart well).plan (at.apart well).slot

  -- no data goes to it
  no_data : (offset len : ℕ) (command : Command) → outgoing old.port old.memory ≡ Data n offset len command → ⊥
  no_data offset len command is =
      let parts = data_healthy old.port n (data_next old.port old.memory _ (next_receiver old.port) (next_to_send old.port) n offset len command is) in
      let well : is_faulty stage ≡ false = sym at.fault ∙ parts.1 in
      false≢true (sym (ap (λ (c : Option Context). is_some (payload c)) (at.apart well).context) ∙ parts.0)

  turn_none : (f : Option Stamped) → f ≡ None → IsAt30 n stage new → Turns30 n stage (Pushed f) new
  turn_none f is now = subst (λ (x : Option Stamped). Turns30 n stage (Pushed x) new) (sym is) (record { next = stage; at = now; is = refl })

  turn_other : (frame : Stamped) → frame.stamp.port ≢ n → IsAt30 n stage new → Turns30 n stage (Pushed (Some frame)) new
  turn_other frame other now = record { next = stage; at = now; is = (λ own. absurd (other own), λ far. refl) }

  turn_own : (frame : Stamped) → frame.stamp.port ≡ n → Went frame.bytes → Turns30 n stage (Pushed (Some frame)) new
  turn_own frame same w = record { next = w.next; at = w.now; is = (λ own. record { fields = w.fields; are = w.are; built = w.built; after = w.after }, λ far. absurd (far same)) }

  pub pushed_by : (o : Outgoing) (frame : Option Stamped) → outgoing old.port old.memory ≡ o → Gives o old.port old.memory frame new.port → Turns30 n stage (Pushed frame) new
  pushed_by (Data dev offset len command) None is gives = absurd gives
  pushed_by (Data dev offset len command) (Some f) is gives = elim (cases_eq dev n) [
    | inl same ↦ absurd (no_data offset len command (is ∙ ap (λ (d : ℕ). Data d offset len command) same))
    | inr other ↦ turn_other f (λ own. other (sym (ap (λ (x : Stamped). x.stamp.port) gives.frame_is) ∙ own)) (stays (gives.others n (λ e. other (sym e))) gives.commands)
  ]
  pushed_by (Goes dev slot command) None is gives = absurd gives
  pushed_by (Goes dev slot command) (Some f) is gives = elim (cases_eq dev n) [
    | inl same ↦
        turn_own f (ap (λ (x : Stamped). x.stamp.port) gives.frame_is ∙ same)
        (goes_order slot command f (is ∙ ap (λ (d : ℕ). Goes d slot command) same) (subst (λ (d : ℕ). Sends old.port d command.cfis (view_sent (view_of d old.port) slot command) f new.port) same gives))
    | inr other ↦ turn_other f (λ own. other (sym (ap (λ (x : Stamped). x.stamp.port) gives.frame_is) ∙ own)) (stays (gives.others n (λ e. other (sym e))) gives.commands)
  ]
  pushed_by rest frame is gives = turn_none frame gives.0 (stays (ap (view_of n) gives.1) (ap (λ (p : Port). p.commands) gives.1))

pub pushes_on : (n : ℕ) → PushesOn30 n
pushes_on n past old frame new stage low sound served does at = pushed_by n past old new stage low sound served at does.driver (outgoing old.port old.memory) frame refl does.gives

-- ---- turns of the driver between two ticks

not_ready : (n : ℕ) (stage : Stage30) (plan : Plan) → is_faulty stage ≡ false → IsPlan30 n stage plan → device_at plan n ≡ Ready → ⊥
not_ready n Faulty plan well is ready = true≢false well
not_ready n Cleared plan well is ready = let bad : Recovering is.way ≡ Ready = sym is.device ∙ ready in cc
not_ready n On plan well (inl is) ready = let bad : Recovering _ ≡ Ready = sym is.device ∙ ready in cc
not_ready n On plan well (inr is) ready = let bad : Recovering _ ≡ Ready = sym is.device ∙ ready in cc
not_ready n Off plan well (inl is) ready = let bad : Recovering _ ≡ Ready = sym is.device ∙ ready in cc
not_ready n Off plan well (inr is) ready = let bad : Recovering _ ≡ Ready = sym is.device ∙ ready in cc
not_ready n other plan well is ready = let bad : Recovering _ ≡ Ready = sym is.device ∙ ready in cc

same_port : (n : ℕ) (stage : Stage30) (old new : Host) → new.port ≡ old.port → IsDriven30 n stage new.driver → IsAt30 n stage old → IsAt30 n stage new
same_port n stage old new port d at = kept30 n stage old new (ap (view_of n) port) (λ some. ap (λ (p : Port). last_command p.commands 30) port) d at

submit_driven : (n : ℕ) (stage : Stage30) (d : Driver) (memory : Memory) (dev : ℕ) (request : Request) → Rattle.hba_driver.specs.Submits.submit_refusal d memory dev request ≡ None → IsDriven30 n stage d → IsDriven30 n stage (after_submit d dev request)
submit_driven n stage d memory dev request accepted h = record {
  opened = h.opened;
  plan = h.plan;
  withdrawn = λ well s e there of_dev. elim (set_cases d.entries (place_for d) (Some (new_entry (d.given + 1) dev request)) s e there) [
    | inl at ↦
        let same : dev ≡ n = ap (λ (x : Entry). x.head.dev) (some_inj (new_entry (d.given + 1) dev request) e at.1) ∙ of_dev in
        absurd (not_ready n stage d.plan well (h.plan well) (subst (λ (k : ℕ). device_at d.plan k ≡ Ready) same (is_ready_dev d memory dev request accepted)))
    | inr beside ↦ h.withdrawn well s e beside.1 of_dev
  ];
}

poll_driven : (n : ℕ) (stage : Stage30) (d : Driver) (place : ℕ) → IsDriven30 n stage d → IsDriven30 n stage (record d { entries = set d.entries place None })
poll_driven n stage d place h = record {
  opened = h.opened;
  plan = h.plan;
  withdrawn = λ well s e there of_dev. elim (set_cases d.entries place None s e there) [
    | inl at ↦ let bad : None ≡ Some e = at.1 in cc
    | inr beside ↦ h.withdrawn well s e beside.1 of_dev
  ];
}

pub stays_on : (n : ℕ) → StaysOn30 n
stays_on n = record {
  submitted = λ old dev request ticket new stage does at.
      same_port n stage old new does.port (same_driver n stage _ new.driver does.taken.driver (submit_driven n stage old.driver old.memory dev request does.accepted (driven_at n stage old at))) at;
  polled = λ old completion new stage does at.
      let f : PollFacts old.driver completion = poll_facts old.driver completion does.polled in
      same_port n stage old new does.port (same_driver n stage _ new.driver (does.driver ∙ polled_is old.driver completion f) (poll_driven n stage old.driver f.place (driven_at n stage old at))) at;
  put = λ old at bytes new stage does is. same_port n stage old new does.port (same_driver n stage old.driver new.driver does.driver (driven_at n stage old is)) is;
}
