-- For `port_and_ledger_stay_joined`. What goes out of a host port leaves it joined to a disk's ledger.
use Rattle.std.proofs.Common.{◌≡◌, eqb, ℕ, ◌<◌, ◌≤◌, ◌%◌, Bool, true, false, List, [], ◌∷◌, ◌++◌, length, set, refl, sym, ap, subst, ◌∙◌, inl, inr}
use Rattle.std.proofs.{Common.{Option, Some, None, Ok, arith, get_or-set_same, get_or-set_other}, lemmas.Bool.{cases_lt, eq-eqb, eqb-true}}
use Rattle.std.proofs.lemmas.{Bool.{true≢false, Decides.nat_tests}, List.{get_or_past, length-set, FromFn.{length-map-range_with_len}}}
use Rattle.std.specs.{Prelude.{◌≢◌, if◌then◌else◌, map}, Option.option_map}
use Rattle.fis_view.specs.{Frames.{IsPayload, Stamped}, Seen.seen}
use Rattle.fis_view.specs.declared.view.Fis.TheVariants as view
use Rattle.fis_view.proofs.Door.{payload_seen}
use Rattle.slots.specs.{Commands.{is_slot, sent_issue, with_sent}, Data.{gone_over, moved_on, moved_over, payload_len}, Slots.{DeviceSlots, Issue}}
use Rattle.slots.specs.{Slots.{freed, holds, is_control, issue_at, match_some, own_issue, slots_of, waiting}, Setup.{begun, whole_context}}
use Rattle.slots.specs.{Setup.with_own_context, Work.{is_dma, is_queued}, declared.{table.Context.Context, work.Kind.{Kind, TheVariants.QueuedRead}}}
use Rattle.slots.specs.declared.work.{Kind.TheVariants.{QueuedWrite, DmaIn, DmaOut}, Work.Work}
use Rattle.hba_commands.specs.declared.command.Command as issued_command
use Rattle.hba_fbs.specs.{Sending.{Data, Gives, Order, Outgoing, data_fis, gathered, outgoing}, Tables.prds_of, Views.{DeviceView, view_of}}
use Rattle.disk_model.specs.{declared.request.Request.{Request, TheVariants.Queue}, Ends.{Fits, FitsData, FitsRequest, IsAskedFor, IsFree}}
use Rattle.disk_model.specs.{Ledger.{Ledger, Moving, asks, listens, listens_down, takes_data}, Requests.request_of}
use Rattle.disk_model.specs.Histories as told_of
use Rattle.disk_model.proofs.Door.{opens_free}
use Rattle.hba_laws.specs.{Agreement.{IsHistoryOf, IsTold, IssueAgrees, work_of_transfer}, Client.{By, own}, Delivering.{begun_by, event_sent}}
use Rattle.hba_laws.specs.{Delivering.{is_control_issue, touched_by_out}, History.{Event, History, Transfer, issued}, Hosts.{Does, Gave, Host}}
use Rattle.hba_laws.specs.{Sound.IsHost, Between.{GoesOut, HasContext, IsOwn}}
use Rattle.hba_laws.specs.History as event
use Rattle.hba_laws.proofs.Door.{goes_out, is_own, none_waits, own_here, own_one, step}
use Rattle.disk_simulation.specs.{Together.{NothingWaits, QueuesOne, Same, is_sent, AsksOne}, Joined.{AreShort, IsAskedBy, IsJoined, JoinsCommands}}
use Rattle.disk_simulation.specs.{Joined.{JoinsData, JoinsGiven, JoinsOthers, SentAgrees}, Same.SlotCommand, Between.IsThere}
use Rattle.disk_simulation.proofs.{joined.{HeardLemmas.there_by, ShortLemmas.short_down, OutLemmas.begun_none}, together.TogetherLemmas.same_goes_on}
use Rattle.disk_simulation.proofs.{events.AnswerLemmas.{IsBeside, asks_beside}, joined.JoinLemmas.{WasSent, asked_same, inactive, set_sent}}

-- ## A command goes out

not_control : (kind : Kind) → is_queued kind ≡ true → is_control kind ≡ false
not_control QueuedRead queued = refl
not_control QueuedWrite queued = refl
not_control other queued = absurd (true≢false (sym queued))

not_dma : (kind : Kind) → is_queued kind ≡ true → is_dma kind ≡ false
not_dma DmaIn queued = absurd (true≢false (sym queued))
not_dma DmaOut queued = absurd (true≢false (sym queued))
not_dma kind queued = refl

-- what is known of a command that goes out
record GoesOn (n slot : ℕ) (host : Host) : Type 0 where
  issue : Issue
  at_table : issue_at host.port.slots slot ≡ Some issue
  there : own_issue (view_of n host.port).slots slot ≡ Some issue
  unsent : issue.sent ≡ false
  none_waits : is_control issue.work.kind ≡ false → waiting (view_of n host.port).slots ≡ None

goes_on_out : (n slot : ℕ) (host : Host) (command : issued_command.Command) → IsHost host → GoesOut host.port (Order n slot command)
    → GoesOn n slot host
unfolding GoesOut
goes_on_out n slot host command sound goes =
    let long = sound.slots.slots in
    let lt : slot < 32 = goes.3 in
    let here : own_issue (slots_of goes.0.dev host.port.slots) slot ≡ Some goes.0 =
    own_here slot host.port.slots goes.0 (omega (arith, long, lt)) goes.1 in
    record {
      issue = goes.0;
      at_table = goes.1;
      there = subst (λ (d : ℕ). own_issue (slots_of d host.port.slots) slot ≡ Some goes.0) (sym goes.2) here;
      unsent = goes.4;
      none_waits = λ other. subst (λ (d : ℕ). waiting (slots_of d host.port.slots) ≡ None) (sym goes.2) (goes.5 other);
    }

nothing_waits : (n : ℕ) (v : DeviceView) (past : History) → IsOwn n v.slots → IsTold v past → waiting v.slots ≡ None → NothingWaits past
nothing_waits n v past is history none s t here =
    let there : IsThere v.slots s t =
    there_by v.slots s t (own_issue v.slots s) refl (sym (ap (option_map work_of_transfer) here) ∙ history.issued s) in
    let agrees : IssueAgrees s there.issue v.slots.context past = history.agrees.issues_agree s there.issue there.there in
    agrees.waits_is ∙ none_waits n v.slots is none s there.issue there.there

sent_one : (i : Issue) (o : Option Issue) → option_map sent_issue o ≡ Some i → true ≡ i.sent
sent_one i None e = cc e
sent_one i (Some j) e = let same_issue : sent_issue j ≡ i = cc e in ap (λ (x : Issue). x.sent) same_issue

sent_after_by : (own : DeviceSlots) (slot s : ℕ) (past : History) (i : Issue) (b : Bool) → eqb slot s ≡ b → SentAgrees own past
    → own_issue (with_sent own slot) s ≡ Some i
    → (if b then true else is_sent s past) ≡ i.sent
sent_after_by own slot s past i true same agrees there =
    let at : s ≡ slot = sym (eqb-true slot s same) in
    let here : own_issue (with_sent own slot) slot ≡ Some i = ap (λ (n : ℕ). own_issue (with_sent own slot) n) (sym at) ∙ there in
    elim (cases_lt slot (length own.issues)) [
      | inl lt ↦
          let now : own_issue (with_sent own slot) slot ≡ option_map sent_issue (own_issue own slot) =
          get_or-set_same own.issues slot (option_map sent_issue (own_issue own slot)) None lt in
          sent_one i (own_issue own slot) (sym now ∙ here)
      | inr past_end ↦
          let long = length-set own.issues slot (option_map sent_issue (own_issue own slot)) in
          let now : own_issue (with_sent own slot) slot ≡ None =
          get_or_past (set own.issues slot (option_map sent_issue (own_issue own slot))) slot None (omega (arith, long, past_end)) in
          cc (sym now ∙ here)
    ]
sent_after_by own slot s past i false other agrees there =
    let apart : s ≢ slot = λ e. true≢false (sym (eq-eqb slot s (sym e)) ∙ other) in
    let now : own_issue (with_sent own slot) s ≡ own_issue own s =
    get_or-set_other own.issues slot s (option_map sent_issue (own_issue own slot)) None apart in
    agrees s i (sym now ∙ there)

-- what holds of the port as the command of a slot goes out
record IsOrdered (n slot : ℕ) (t : Transfer) (past : History) (host : Host) : Type 0 where
  goes : GoesOn n slot host
  kind : is_control goes.issue.work.kind ≡ false
  plain : is_dma goes.issue.work.kind ≡ false
  unsent : is_sent slot past ≡ false
  waits : NothingWaits past

ordered : (n slot : ℕ) (host : Host) (command : issued_command.Command) (t : Transfer) (commands : ℕ → SlotCommand) (past : History) (k : Ledger)
    → IsHost host → outgoing host.port host.memory ≡ Order n slot command
    → issued slot past ≡ Some t → is_control t.work.kind ≡ false → is_dma t.work.kind ≡ false → IsJoined n commands host past k
    → IsOrdered n slot t past host
ordered n slot host command t commands past k sound out here control plain joined =
    let v : DeviceView = view_of n host.port in
    let owns : IsOwn n v.slots = is_own n host.port.slots sound.slots in
    let goes : GoesOut host.port (Order n slot command) = subst (GoesOut host.port) out (goes_out host.port host.memory) in
    let g : GoesOn n slot host = goes_on_out n slot host command sound goes in
    let at : IsThere v.slots slot t =
    there_by v.slots slot t (own_issue v.slots slot) refl (sym (ap (option_map work_of_transfer) here) ∙ joined.history.issued slot) in
    let one : at.issue ≡ g.issue = let e : Some at.issue ≡ Some g.issue = sym at.there ∙ g.there in cc e in
    let kind : is_control g.issue.work.kind ≡ false =
    subst (λ (i : Issue). is_control i.work.kind ≡ false) one (ap (λ (w : Work). is_control w.kind) (sym at.work) ∙ control) in
    record {
      goes = g;
      kind = kind;
      plain = subst (λ (i : Issue). is_dma i.work.kind ≡ false) one (ap (λ (w : Work). is_dma w.kind) (sym at.work) ∙ plain);
      unsent = joined.sent slot g.issue g.there ∙ g.unsent;
      waits = nothing_waits n v past owns joined.history (g.none_waits kind);
    }

-- the ledger's part of it
record IsAdded (commands : ℕ → SlotCommand) (slot : ℕ) (f : List ℕ) (past : History) (k x : Ledger) : Type 0 where
  fits : FitsRequest k (request_of f)
  later : asks k (request_of f) k.failed ≡ x
  moving : x.moving ≡ k.moving
  same : Same commands (event.Sent slot ∷ past) x

joins_order : (n slot : ℕ) (host new : Host) (frame : Stamped) (command : issued_command.Command) (f : List ℕ) (t : Transfer) (commands : ℕ
    → SlotCommand) (past : History) (k x : Ledger) → IsHost host → n < 15
    → Does host (Gave (Some frame)) new → outgoing host.port host.memory ≡ Order n slot command → seen command.cfis ≡ Ok (view.RegH2D f)
    → IsOrdered n slot t past host → IsAdded commands slot f past k x
    → IsJoined n commands host past k → JoinsGiven n commands frame.bytes (event.Sent slot) past k new
joins_order n slot host new frame command f t commands past k x sound below does out cfis o a joined =
    let v : DeviceView = view_of n host.port in
    let g : GoesOn n slot host = o.goes in
    let sends = subst (λ (o : Outgoing). Gives o host.port host.memory (Some frame) new.port) out does.0 in
    let frame_is : frame.bytes ≡ command.cfis = ap (λ (s : Stamped). s.bytes) sends.frame_is in
    let shown : seen frame.bytes ≡ Ok (view.RegH2D f) = ap seen frame_is ∙ cfis in
    let later : listens k (told_of.Received frame.bytes) ≡ x = ap (listens_down k) shown ∙ a.later in
    let fits_fis : Fits k (Ok (view.RegH2D f)) = (joined.same.fine, a.fits) in
    let not_order : holds is_control_issue (issue_at host.port.slots slot) ≡ false = ap (holds is_control_issue) g.at_table ∙ o.kind in
    let event_is : event_sent host.port.slots slot ≡ event.Sent slot =
    ap (λ (b : Bool). if b then event.SentControl slot else event.Sent slot) not_order in
    let begins : begun_by slot (issue_at host.port.slots slot) ≡ [] = begun_none slot (issue_at host.port.slots slot) g.issue g.at_table o.plain in
    let told_next : IsHistoryOf n new (own n (touched_by_out host (outgoing host.port host.memory)) ++ past) =
    step n host sound past joined.history (Gave (Some frame)) new (omega (arith, below)) tt does in
    let touch_is : own n (touched_by_out host (outgoing host.port host.memory)) ++ past ≡ event.Sent slot ∷ past =
    ap (λ (o : Outgoing). own n (touched_by_out host o) ++ past) out
    ∙ ap (λ (es : History). own n (map (By n) es ++ By n (event_sent host.port.slots slot) ∷ []) ++ past) begins
    ∙ own_one n n (event_sent host.port.slots slot) past refl
    ∙ ap (λ (e : Event). e ∷ past) event_is in
    let own_control : holds (λ issue. is_control issue.work.kind) (own_issue v.slots slot) ≡ false =
    ap (holds (λ (issue : Issue). is_control issue.work.kind)) g.there ∙ o.kind in
    let slots_is : (view_of n new.port).slots ≡ with_sent v.slots slot =
    ap (λ (w : DeviceView). w.slots) sends.own
    ∙ ap (λ (b : Bool). if b then freed (is_slot slot) v.slots
    else match_some (own_issue v.slots slot) (with_sent v.slots slot) (λ issue. begun slot issue.work (with_sent v.slots slot))) own_control
    ∙ ap (λ (i : Option Issue). match_some i (with_sent v.slots slot) (λ issue. begun slot issue.work (with_sent v.slots slot))) g.there
    ∙ ap (λ (b : Bool). if b then with_own_context (with_sent v.slots slot) (whole_context slot g.issue.work) else with_sent v.slots slot) o.plain in
    record {
      fits = subst (Fits k) (sym shown) fits_fis;
      joined = record {
        history = subst (IsHistoryOf n new) touch_is told_next;
        same = subst (Same commands (event.Sent slot ∷ past)) (sym later) a.same;
        sent =
            λ s i there. sent_after_by v.slots slot s past i (eqb slot s) refl joined.sent (sym (ap (λ (d : DeviceSlots). own_issue d s) slots_is)
            ∙ there);
        short = λ w now. joined.short w (sym (ap (λ (l : Ledger). l.moving) later ∙ a.moving) ∙ now);
        active = λ c now set.
            asked_same c k (listens k (told_of.Received frame.bytes)) (ap (λ (l : Ledger). l.moving) later ∙ a.moving)
            (joined.active c (sym (ap (λ (d : DeviceSlots). d.context) slots_is) ∙ now) set);
      };
    }

pub joins_commands : JoinsCommands
joins_commands n slot host new frame command f t commands past k sound below does out here queued cfis request signed joined =
    let o : IsOrdered n slot t past host = ordered n slot host command t commands past k sound out here (not_control t.work.kind queued) (not_dma t.work.kind queued) joined in
    let q : QueuesOne commands slot past k = same_goes_on.queues commands slot t past k here queued o.unsent signed o.waits joined.same in
    let free : IsFree k (commands slot).command.tag = q.fits.0 in
    joins_order n slot host new frame command f t commands past k (asks k (Queue (commands slot).command) k.failed) sound below does out cfis o (record {
      fits = subst (FitsRequest k) (sym request) q.fits;
      later = ap (λ (r : Request). asks k r k.failed) request;
      moving = ap (λ (l : Ledger). l.moving) (opens_free k (commands slot).command joined.same.fine free.outstanding);
      same = q.same;
    }) joined

pub joins_others : JoinsOthers
joins_others n slot host new frame command f t commands past k sound below does out here not_queued control plain cfis one none signed joined =
    let o : IsOrdered n slot t past host = ordered n slot host command t commands past k sound out here control plain joined in
    let q : AsksOne commands slot (request_of f) past k =
    same_goes_on.asks_other commands slot t (request_of f) past k here not_queued o.unsent one none signed o.waits joined.same in
    let beside : IsBeside k (asks k (request_of f) k.failed) = asks_beside k (request_of f) joined.same.fine one q.fits in
    joins_order n slot host new frame command f t commands past k (asks k (request_of f) k.failed) sound below does out cfis o
    (record { fits = q.fits; later = refl; moving = beside.moving; same = q.same }) joined

-- ## Data goes out

-- what is known of data that goes out
record IsDue (n len : ℕ) (host : Host) : Type 0 where
  context : Context
  now : (view_of n host.port).slots.context ≡ Some context
  asked : context.activated ≡ true
  long : len ≡ payload_len context

due_out : (n offset len : ℕ) (host : Host) (command : issued_command.Command) → GoesOut host.port (Data n offset len command) → IsDue n len host
unfolding GoesOut
due_out n offset len host command goes = record { context = goes.0; now = goes.1; asked = goes.2; long = goes.3 }

is_payload_by : (bytes : List ℕ) → 4 ≤ length bytes → length bytes ≤ 8192 → length bytes % 4 ≡ 0 → IsPayload bytes
is_payload_by bytes low high dwords = grind (arith, nat_tests)

pub joins_data : JoinsData
joins_data n offset len host new frame command commands past k sound below does out joined =
    let w : DeviceView = view_of n host.port in
    let owns : IsOwn n w.slots = is_own n host.port.slots sound.slots in
    let bytes : List ℕ = gathered (prds_of host.memory command) offset len host.memory.client in
    let goes : GoesOut host.port (Data n offset len command) = subst (GoesOut host.port) out (goes_out host.port host.memory) in
    let due : IsDue n len host = due_out n offset len host command goes in
    let sends = subst (λ (o : Outgoing). Gives o host.port host.memory (Some frame) new.port) out does.0 in
    let a : IsAskedBy due.context k = joined.active due.context due.now due.asked in
    let short : a.current.count ≤ 8192 = joined.short a.current a.moving in
    let has : HasContext n w.slots due.context = owns.contexts due.context due.now in
    let left_is : due.context.left ≡ a.current.count = a.left in
    let size = due.long in
    let dwords = has.is.left_dwords in
    let some = (has.is.activates due.asked).1 in
    let long : length (gathered (prds_of host.memory command) offset len host.memory.client) ≡ len = length-map-range_with_len _ 0 len in
    let all : length (gathered (prds_of host.memory command) offset len host.memory.client) ≡ a.current.count =
    omega (arith, long, size, left_is, short) in
    let payload : IsPayload (gathered (prds_of host.memory command) offset len host.memory.client) =
    is_payload_by (gathered (prds_of host.memory command) offset len host.memory.client) (omega (arith, all, left_is, some, dwords))
    (omega (arith, all, short)) (omega (arith, all, left_is, dwords)) in
    let frame_is : frame.bytes ≡ data_fis n (gathered (prds_of host.memory command) offset len host.memory.client) =
    ap (λ (x : Stamped). x.bytes) sends.frame_is in
    let shown : seen frame.bytes ≡ Ok (view.Payload (data_fis n (gathered (prds_of host.memory command) offset len host.memory.client))) =
    ap seen frame_is ∙ payload_seen n (gathered (prds_of host.memory command) offset len host.memory.client) payload in
    let asked_for : IsAskedFor a.current (gathered (prds_of host.memory command) offset len host.memory.client) = record {
      writes = a.writes;
      asked = a.asked;
      long = all;
    } in
    let fits_data : FitsData k.moving (gathered (prds_of host.memory command) offset len host.memory.client) =
    subst (λ (m : Option Moving). FitsData m (gathered (prds_of host.memory command) offset len host.memory.client)) (sym a.moving) asked_for in
    let later : listens k (told_of.Received frame.bytes) ≡ takes_data k k.moving
    (gathered (prds_of host.memory command) offset len host.memory.client) = ap (listens_down k) shown in
    let told_next : IsHistoryOf n new (own n (touched_by_out host (outgoing host.port host.memory)) ++ past) =
    step n host sound past joined.history (Gave (Some frame)) new (omega (arith, below)) tt does in
    let touch_is : own n (touched_by_out host (outgoing host.port host.memory)) ++ past ≡ event.Carried
    (gathered (prds_of host.memory command) offset len host.memory.client) ∷ past =
    ap (λ (o : Outgoing). own n (touched_by_out host o) ++ past) out
    ∙ own_one n n (event.Carried (gathered (prds_of host.memory command) offset len host.memory.client)) past refl in
    let slots_is : (view_of n new.port).slots ≡ gone_over (payload_len due.context) due.context w.slots =
    ap (λ (x : DeviceView). x.slots) sends.own
    ∙ ap (λ (o : Option Context). match_some o w.slots (λ c. gone_over (payload_len c) c w.slots)) due.now in
    record {
      fits = subst (Fits k) (sym shown) fits_data;
      joined = record {
        history = subst (IsHistoryOf n new) touch_is told_next;
        same = subst (Same commands (event.Carried (gathered (prds_of host.memory command) offset len host.memory.client) ∷ past)) (sym later)
            (same_goes_on.gives commands (gathered (prds_of host.memory command) offset len host.memory.client) past k fits_data joined.same);
        sent = λ s i there.
            let before : WasSent w.slots s i =
            set_sent w.slots (gone_over (payload_len due.context) due.context w.slots) due.context.slot
            (moved_over due.context.next (payload_len due.context)) (λ j. refl) refl s i
            (sym (ap (λ (o : DeviceSlots). own_issue o s) slots_is) ∙ there) in
            joined.sent s before.before before.there ∙ before.sent;
        short =
            subst AreShort (sym later)
            (short_down k a.current (gathered (prds_of host.memory command) offset len host.memory.client) a.moving asked_for joined.short);
        active = λ c now set.
            let gone_on : Some (moved_on (payload_len due.context) due.context) ≡ Some c = sym (ap (λ (o : DeviceSlots). o.context) slots_is) ∙ now in
            inactive (moved_on (payload_len due.context) due.context) c gone_on refl set;
      };
    }
