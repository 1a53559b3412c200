-- Data are due to a device only where it asked for them.
use Rattle.std.proofs.Common.{◌≡◌, ℕ, ◌-◌, ◌<◌, Bool, true, false, List, [], ◌∷◌, ◌++◌, append-nil, length, replicate, get_or, refl, sym, ap, subst}
use Rattle.std.proofs.{Common.{◌∙◌, inl, inr, Option, Some, None}, lemmas.Bool.{cases_Bool, eqb-false, eqb-true, false≢true, ltb-false, ltb-true}}
use Rattle.std.proofs.lemmas.{Bool.{true≢false}, List.{get_or_past, get_or-replicate}}
use Rattle.std.specs.Prelude.{◌==◌, ◌&&◌, min, is_ok, is_some, not, nat_lt, if◌then◌else◌, Result, Ok, Err}
use Rattle.fis_view.specs.{Seen.seen, Table.field, declared.view.{Fis.Fis, FisFault.FisFault}}
use Rattle.fis_view.specs.Table as table
use Rattle.fis_view.specs.declared.view.Fis.TheVariants as view
use Rattle.slots.specs.{Commands.{after_pio_done, answer_of, answered_as, completed, is_slot, whole_pio, with_sent}, Data.after_arrive}
use Rattle.slots.specs.{Data.{arrive_answer, gone_over, moved_on, payload, payload_len}, Setup.{begun, dma_context, setup_fault}, Slots.DeviceSlots}
use Rattle.slots.specs.{Slots.{Issue, context_of, context_unless, freed, holds, is_control, match_some, own_issue}, Work.is_dma}
use Rattle.slots.specs.declared.{answer.SetupError.SetupError, table.Context.Context, work.Kind.TheVariants.QueuedWrite}
use Rattle.slots.specs.declared.answer.Answered as answered_type
use Rattle.slots.specs.declared.answer.Answered.TheVariants as answer
use Rattle.hba_fbs.specs.{Deciding.{Decides, decided, heard_within, is_past}, Greeting.{Greets, greeted_in, line_view}, Hearing.answered}
use Rattle.hba_fbs.specs.Hearing.{bus_failed, faulty, heard_bytes, heard_data_of, heard_fis, is_admitted, moved, named, overflowed, quietly, set_up}
use Rattle.hba_fbs.specs.{Hearing.{signing, tag_of}, Offering.{Offer, view_by}, Registers.falls, Status.{after_reset, is_busy, is_error, is_quiet}}
use Rattle.hba_fbs.specs.{Status.{with_bits, with_file}, Stopping.fallen_view, Taking.{admitted, heard_report, ignores, port_of}, Turning.feeds}
use Rattle.hba_fbs.specs.{Views.{DeviceView, LeavesOtherViews, Port, stopped_view, view_of}, Writing.{cleared_by, is_device, view_cleared}}
use Rattle.hba_fbs.specs.declared.{hearing.Heard.Heard, report.{TakeReport.TakeReport, Wrote.Wrote}, room.Room.{Room, TheVariants.{Bytes, NoTable}}}
use Rattle.hba_fbs.specs.declared.{room.Room.TheVariants.Whole, state.DeviceState.DeviceState, status.Block.Block, turn.Turn.TheVariants.Feeds}
use Rattle.hba_fbs.specs.declared.turn.Turn.TheVariants.{Orders, Rests}
use Rattle.hba_fbs.specs.declared.hearing.Happening.TheVariants as happening
use Rattle.hba_fbs.specs.declared.register.Register.TheVariants as on_port
use Rattle.port_errors.specs.declared.cause.DeviceCause.TheVariants as cause
use Rattle.hba_laws.specs.Cores as core
use Rattle.hba_laws.specs.Cores.{CoreEvent, DoesBy, RunsBy}
use Rattle.ahci_controller.specs.{States.ControllerState, Next.turn_to, Taking.room_for, declared.{latch.Edge.Edge, taking.Took.Took}}
use Rattle.ahci_controller.specs.declared.feeding.Fed.TheVariants as fed_answer
use Rattle.controller_laws.specs.{CoreEvents.{AreCoreEvents, EventsAreCoreEvents, of_event, of_frame}, Events.{Does, Event, IsController, Runs}}
use Rattle.controller_laws.specs.Events as call
use Rattle.sata_disk_books.specs.Talks.{AreAsked, Asks, Down, Plain, SetsUp, Sign, Step, Talk, Up, quiet_talk, sign_of, talk_by}
use Rattle.machine_theorem.specs.{Asking.{DataGoAsAsked, events_steps}, Following.{AllHeardWell, IsHeardWell}}
use Rattle.machine_theorem.proofs.{Ordered.fed_some, SetupCalls.{IsNoTake, call_none, first_kept}, SetupCores.{AreNoFises, IsNoFis, no_fault}}

abbrev due_by : Option Context → Bool
due_by o = is_some (payload o)

abbrev due : ℕ → Port → Bool
due n port = due_by (context_of port.slots n)

-- ---- views

by_view : (n : ℕ) (old new : Port) (v : DeviceView) → view_of n new ≡ v → (due_by v.slots.context ≡ true → due n old ≡ true) → due n new ≡ true → due n old ≡ true
by_view n old new v is then' h = then' (ap (λ (x : DeviceView). due_by x.slots.context) (sym is) ∙ h)

same_view : (n : ℕ) (old new : Port) → view_of n new ≡ view_of n old → due n new ≡ true → due n old ≡ true
same_view n old new is h = by_view n old new (view_of n old) is (λ x. x) h

other_view : (n dev : ℕ) (old new : Port) → (dev == n) ≡ false → LeavesOtherViews dev old new → due n new ≡ true → due n old ≡ true
other_view n dev old new apart others h = same_view n old new (others n (λ same. eqb-false dev n apart (sym same))) h

port_same : (n : ℕ) (old new : Port) → new ≡ old → due n new ≡ true → due n old ≡ true
port_same n old new is h = ap (λ (p : Port). due n p) (sym is) ∙ h

-- its own view, or that of another
either_view : (n dev : ℕ) (old new : Port) (v : DeviceView) → view_of dev new ≡ v → LeavesOtherViews dev old new → (due_by v.slots.context ≡ true → due dev old ≡ true) → (b : Bool) → (dev == n) ≡ b
    → due n new ≡ true → due n old ≡ true
either_view n dev old new v is others then' false apart h = other_view n dev old new apart others h
either_view n dev old new v is others then' true same h =
    subst (λ (k : ℕ). due k old ≡ true) (eqb-true dev n same) (by_view dev old new v is then' (subst (λ (k : ℕ). due k new ≡ true) (sym (eqb-true dev n same)) h))

-- ---- contexts that end

kept_due : (b : Bool) (c : Context) → due_by (if b then None else Some c) ≡ true → due_by (Some c) ≡ true
kept_due true c h = absurd (false≢true h)
kept_due false c h = h

unless_due : (test : ℕ → Bool) (o : Option Context) → due_by (context_unless test o) ≡ true → due_by o ≡ true
unless_due test None h = h
unless_due test (Some c) h = kept_due (test c.slot) c h

-- ---- an event that is no FIS of the device

opened_none : (n : ℕ) → get_or (replicate {A = Option Context} 16 None) n None ≡ None
opened_none n = elim (cases_Bool (nat_lt n 16)) [
  | inl inside ↦ get_or-replicate 16 n None None (ltb-true n 16 inside)
  | inr outside ↦ get_or_past (replicate {A = Option Context} 16 None) n None (let past = ltb-false n 16 outside in past)
]

reset_due : (n : ℕ) (old new : Port) → context_of new.slots n ≡ None → due n new ≡ true → due n old ≡ true
reset_due n old new none h = absurd (false≢true (sym (ap due_by none) ∙ h))

wrote_is : (offer : Offer) (value n : ℕ) (old : Port) → view_by on_port.Is old offer value n ≡ view_of n old
unfolding view_by
wrote_is offer value n old = refl

wrote_serr : (offer : Offer) (value n : ℕ) (old : Port) → view_by on_port.Serr old offer value n ≡ view_of n old
unfolding view_by
wrote_serr offer value n old = refl

wrote_sact : (offer : Offer) (value n : ℕ) (old : Port) → view_by on_port.Sact old offer value n ≡ view_of n old
unfolding view_by
wrote_sact offer value n old = refl

wrote_sntf : (offer : Offer) (value n : ℕ) (old : Port) → view_by on_port.Sntf old offer value n ≡ view_of n old
unfolding view_by
wrote_sntf offer value n old = refl

wrote_fbs : (offer : Offer) (value n : ℕ) (old : Port) → view_by on_port.Fbs old offer value n ≡ view_cleared n (cleared_by old.errors value) (view_of n old)
unfolding view_by
wrote_fbs offer value n old = refl

if_view : (b : Bool) (w v : DeviceView) → due_by w.slots.context ≡ false → due_by (if b then w else v).slots.context ≡ true → due_by v.slots.context ≡ true
if_view true w v none h = absurd (false≢true (sym none ∙ h))
if_view false w v none h = h

begun_due : (b : Bool) (c : Context) (own : DeviceSlots) → due_by (Some c) ≡ false → due_by (if b then record own { context = Some c } else own).context ≡ true → due_by own.context ≡ true
begun_due true c own none h = absurd (false≢true (sym none ∙ h))
begun_due false c own none h = h

issue_due : (o : Option Issue) (own : DeviceSlots) (slot : ℕ) → due_by (match_some o (with_sent own slot) (λ issue. begun slot issue.work (with_sent own slot))).context ≡ true → due_by own.context ≡ true
issue_due None own slot h = h
issue_due (Some i) own slot h = begun_due (is_dma i.work.kind) _ (with_sent own slot) refl h

sent_due : (control : Bool) (own : DeviceSlots) (slot : ℕ)
    → due_by (if control then freed (is_slot slot) own else match_some (own_issue own slot) (with_sent own slot) (λ issue. begun slot issue.work (with_sent own slot))).context ≡ true
    → due_by own.context ≡ true
sent_due true own slot h = unless_due (is_slot slot) own.context h
sent_due false own slot h = issue_due (own_issue own slot) own slot h

greeted_due : (n dev : ℕ) (o : Option (List ℕ)) (report : TakeReport) (old new : Port) → Greets old dev o report new → due n new ≡ true → due n old ≡ true
greeted_due n dev None report old new h d = port_same n old new h.port d
greeted_due n dev (Some f) report old new h d = ap (λ s. due_by (context_of s n)) (sym h.slots) ∙ d

core_due : (n : ℕ) → n < 16 → (e : CoreEvent) (old new : Port) → IsNoFis QueuedWrite n e → DoesBy old e new → due n new ≡ true → due n old ≡ true
core_due n low (core.Took frame room report) old new plain does d = absurd plain
core_due n low (core.Wrote on_port.Is value offer tables) old new plain does d = same_view n old new (does.1.views n low ∙ wrote_is offer value n old) d
core_due n low (core.Wrote on_port.Serr value offer tables) old new plain does d = same_view n old new (does.1.views n low ∙ wrote_serr offer value n old) d
core_due n low (core.Wrote on_port.Sact value offer tables) old new plain does d = same_view n old new (does.1.views n low ∙ wrote_sact offer value n old) d
core_due n low (core.Wrote on_port.Sntf value offer tables) old new plain does d = same_view n old new (does.1.views n low ∙ wrote_sntf offer value n old) d
core_due n low (core.Wrote on_port.Fbs value offer tables) old new plain does d =
    by_view n old new (view_cleared n (cleared_by old.errors value) (view_of n old)) (does.1.views n low ∙ wrote_fbs offer value n old)
    (λ h. if_view (is_device n (cleared_by old.errors value)) (stopped_view (view_of n old)) (view_of n old) refl h) d
core_due n low (core.Wrote register value offer tables) old new plain does d = absurd plain
core_due n low (core.Flushed dev) old new plain does d = absurd plain
core_due n low (core.Gave bytes) old new plain does d = absurd plain
core_due n low core.Failed old new plain does d = absurd plain
core_due n low (core.Placed dev slots offer tables) old new plain does d = either_view n dev old new _ does.2.own does.2.others (λ h. h) (dev == n) refl d
core_due n low (core.Chose Rests bytes) old new plain does d = port_same n old new does.1 d
core_due n low (core.Chose (Feeds dev slot offset len) bytes) old new plain does d = other_view n dev old new (plain refl) does.1.others d
core_due n low (core.Chose (Orders dev slot command) bytes) old new plain does d =
    either_view n dev old new _ does.1.own does.1.others
    (λ h. sent_due (holds (λ issue. is_control issue.work.kind) (own_issue (view_of dev old).slots slot)) (view_of dev old).slots slot h) (dev == n) refl d
core_due n low (core.Greeted frame report) old new plain does d = greeted_due n (port_of frame) (greeted_in (view_of (port_of frame) old).state (seen frame)) report old new does.1 d
core_due n low (core.Commanded value) old new plain does d =
    by_view n old new _ (does.1.views n low) (λ h. if_view (falls old.registers value) (fallen_view (view_of n old)) (view_of n old) refl h) d
core_due n low (core.Overrode dev) old new plain does d = ap (λ s. due_by (context_of s n)) (sym does.slots) ∙ d
core_due n low (core.Hung dev line) old new plain does d = either_view n dev old new (line_view line) does.own does.others (λ h. absurd (false≢true h)) (dev == n) refl d
core_due n low core.Relinked old new plain does d = reset_due n old new (ap (λ (p : Port). context_of p.slots n) does ∙ opened_none n) d
core_due n low core.Restarted old new plain does d = reset_due n old new (ap (λ (p : Port). context_of p.slots n) does ∙ opened_none n) d

cores_due : (n : ℕ) → n < 16 → (events : List CoreEvent) (old new : Port) → AreNoFises QueuedWrite n events → RunsBy old events new → due n new ≡ true → due n old ≡ true
cores_due n low [] old new plain run d = port_same n old new run d
cores_due n low (e ∷ later) old new plain run d = core_due n low e old run.0 plain.0 run.1 (cores_due n low later run.0 new plain.1 run.2 d)

-- ---- a FIS of the device

abbrev open_by : Sign → Bool → Bool
open_by (SetsUp tag offset auto) was = auto
open_by Asks was = true
open_by Plain was = was

if_due : (ok : Bool) (c : Context) (gone own : DeviceSlots) → gone.context ≡ Some c → c.activated ≡ false → due_by (if ok then gone else own).context ≡ true → due_by own.context ≡ true
if_due true c gone own is off h = absurd (false≢true (sym (ap due_by is ∙ ap (λ (b : Bool). is_some {T = ℕ × ℕ × ℕ} (if b then Some (c.slot, c.next, min c.left 8192) else None)) off) ∙ h))
if_due false c gone own is off h = h

arrive_due : (own : DeviceSlots) (count : ℕ) (ok : Bool) (o : Option Context) → own.context ≡ o
    → due_by (match_some o own (λ c. if ok then gone_over count c own else own)).context ≡ true → due_by own.context ≡ true
arrive_due own count ok None is h = h
arrive_due own count ok (Some c) is h = if_due ok (moved_on count c) (gone_over count c own) own refl refl h

pio_due : (o : Option ℕ) (own : DeviceSlots) → due_by (match_some o own (λ slot. freed (is_slot slot) own)).context ≡ true → due_by own.context ≡ true
pio_due None own h = h
pio_due (Some slot) own h = unless_due (is_slot slot) own.context h

block_due : (finishes : Bool) (own : DeviceSlots) → due_by (if finishes then after_pio_done own else own).context ≡ true → due_by own.context ≡ true
block_due true own h = pio_due (whole_pio own) own h
block_due false own h = h

answered_due : (a : answered_type.Answered) (own : DeviceSlots) → due_by (answered_as a own).context ≡ true → due_by own.context ≡ true
answered_due answer.Nobody own h = h
answered_due (answer.Queued slot) own h = h
answered_due (answer.Done slot) own h = unless_due (is_slot slot) own.context h
answered_due (answer.Short slot) own h = h

module _ (v : DeviceView) (b : Bool) (was : due_by v.slots.context ≡ true → b ≡ true) where
  abbrev Opens : Heard → Bool → Type 0
  Opens h now = h.fault ≡ None → due_by (moved h.happening v.slots).context ≡ true → now ≡ true

  setup_opens : (o : Option SetupError) (state : DeviceState) (tag offset count : ℕ) (to_host auto : Bool)
      → Opens (set_up o state None (happening.SetUp (dma_context tag offset count to_host auto))) (auto && not to_host)
  setup_opens None state tag offset count to_host auto fine d = by (auto && not to_host) d
    where
      by : (x : Bool) → is_some {T = ℕ × ℕ × ℕ} (if x then Some (tag, offset, min count 8192) else None) ≡ true → x ≡ true
      by true h = refl
      by false h = absurd (false≢true h)
  setup_opens (Some e) state tag offset count to_host auto fine d = absurd (cc)

  data_case : (own : DeviceSlots) (state : DeviceState) (wrote : Wrote) (o : Option Block) (last : Bool) → (d : due_by (moved (heard_bytes own state wrote o last).happening v.slots).context ≡ true) → b ≡ true
  data_case own state wrote None last d = was (arrive_due v.slots wrote.len (is_ok (arrive_answer v.slots.context wrote.len)) v.slots.context refl d)
  data_case own state wrote (Some block) true d =
      was (arrive_due v.slots wrote.len (is_ok (arrive_answer v.slots.context wrote.len)) v.slots.context refl (block_due (is_quiet block.ends) (after_arrive v.slots wrote.len) d))
  data_case own state wrote (Some block) false d = was (arrive_due v.slots wrote.len (is_ok (arrive_answer v.slots.context wrote.len)) v.slots.context refl d)

  arrived_opens : (state : DeviceState) (c : Context) (count : ℕ) (away lost over last : Bool)
      → Opens (if away then faulty state cause.Stray else if lost then bus_failed state else if over then overflowed state
      else heard_bytes (after_arrive v.slots count) state (record { slot = c.slot; offset = c.next; len = count }) state.block last) b
  arrived_opens state c count true lost over last fine d = absurd (cc)
  arrived_opens state c count false true over last fine d = absurd (cc)
  arrived_opens state c count false false true last fine d = absurd (cc)
  arrived_opens state c count false false false last fine d =
      data_case (after_arrive v.slots count) state (record { slot = c.slot; offset = c.next; len = count }) state.block last d

  data_opens : (state : DeviceState) (sound : Bool) (count : ℕ) (o : Option Context) → Opens (match_some o (faulty state cause.Stray) (heard_data_of v.slots state sound count)) b
  data_opens state sound count None fine d = absurd (cc)
  data_opens state sound count (Some c) fine d = arrived_opens state c count (not c.to_host) (not sound) (nat_lt c.left count) (c.left == count) fine d

  register_opens : (f : List ℕ) (state : DeviceState) (status error : ℕ) (r e q : Bool)
      → Opens (signing f (if r then quietly (after_reset state status error) happening.Nothing else if e then faulty (with_file state status error) cause.TaskFile
      else if q then quietly (with_file state status error) happening.Nothing else answered (answer_of v.slots) (with_file state status error))) b
  register_opens f state status error true e q fine d = was d
  register_opens f state status error false true q fine d = was d
  register_opens f state status error false false true fine d = was d
  register_opens f state status error false false false fine d = was (answered_due (answer_of v.slots) v.slots d)

  bits_opens : (state : DeviceState) (status error mask : ℕ) (e : Bool)
      → Opens (if e then faulty (with_bits state status error) cause.TaskFile else named (completed mask v.slots) (with_bits state status error) mask) b
  bits_opens state status error mask true fine d = was d
  bits_opens state status error mask false fine d = was (unless_due _ v.slots.context d)

  fis_opens : (state : DeviceState) (sound : Bool) (fis : Fis) → Opens (heard_fis v.slots state sound fis) (open_by (sign_of (Ok fis)) b)
  unfolding heard_fis
  fis_opens state sound (view.RegH2D f) fine d = was d
  fis_opens state sound (view.RegD2H f) fine d =
      register_opens f state (field table.D2h table.Status f) (field table.D2h table.Error f) state.resetting (is_error (field table.D2h table.Status f)) (is_busy (field table.D2h table.Status f)) fine d
  fis_opens state sound (view.SetBits f) fine d =
      bits_opens state (field table.Bits table.Status f) (field table.Bits table.Error f) (field table.Bits table.SActive f) (is_error (field table.Bits table.Status f)) fine d
  fis_opens state sound (view.DmaActivate f) fine d = refl
  fis_opens state sound (view.DmaSetup f) fine d =
      setup_opens (setup_fault (own_issue v.slots (tag_of f)) (field table.Setup table.Offset f) (field table.Setup table.Count f) (field table.Setup table.D f == 1)) state
      (tag_of f) (field table.Setup table.Offset f) (field table.Setup table.Count f) (field table.Setup table.D f == 1) (field table.Setup table.A f == 1) fine d
  fis_opens state sound (view.PioSetup f) fine d = refl
  fis_opens state sound (view.Payload f) fine d = data_opens state sound (length f - 4) v.slots.context fine d
  fis_opens state sound (view.Unknown f) fine d = was d

  within_case : (state : DeviceState) (fis : Fis) (p : Bool) → Opens (if p then overflowed state else heard_fis v.slots state true fis) (open_by (sign_of (Ok fis)) b)
  within_case state fis true fine d = absurd (cc)
  within_case state fis false fine d = fis_opens state true fis fine d

  within_opens : (state : DeviceState) (room : Room) (fis : Fis) → Opens (heard_within v.slots state room fis) (open_by (sign_of (Ok fis)) b)
  unfolding heard_within
  within_opens state NoTable fis fine d = fis_opens state false fis fine d
  within_opens state (Bytes total) fis fine d = within_case state fis (is_past total v.slots.context fis) fine d
  within_opens state Whole fis fine d = fis_opens state true fis fine d

  admitted_opens : (dev : ℕ) (room : Room) (fis : Fis) (p : Bool) → Opens (decided dev v room (if p then Some fis else None)) (open_by (sign_of (Ok fis)) b)
  admitted_opens dev room fis true fine d = within_opens v.state room fis fine d
  admitted_opens dev room fis false fine d = absurd (cc)

  decided_opens : (dev : ℕ) (room : Room) (r : Result Fis FisFault) → Opens (decided dev v room (admitted dev r)) (open_by (sign_of r) b)
  decided_opens dev room (Err f) fine d = absurd (cc)
  decided_opens dev room (Ok fis) fine d = admitted_opens dev room fis (is_admitted dev fis) fine d

-- ---- each call

own_opens : (old new : Port) (frame : List ℕ) (room : Room) (report : TakeReport) → core.Hearkens old frame room report new → report.ignored ≡ false → report.fault ≡ None → report.stopped ≡ None
    → (b : Bool) → (due (port_of frame) old ≡ true → b ≡ true) → due (port_of frame) new ≡ true → open_by (sign_of (seen frame)) b ≡ true
unfolding heard_report
own_opens old new frame room report does heard well runs b was d = by (ignores (port_of frame) old frame) refl
  where
    by : (x : Bool) → ignores (port_of frame) old frame ≡ x → open_by (sign_of (seen frame)) b ≡ true
    by true e = absurd (true≢false (ap (λ (r : TakeReport). r.ignored) (sym (does.ignored e).reports) ∙ heard))
    by false e =
        let is : Decides old (port_of frame) room (admitted (port_of frame) (seen frame)) report new = does.heard e in
        let v : DeviceView = view_of (port_of frame) old in
        let h : Heard = decided (port_of frame) v room (admitted (port_of frame) (seen frame)) in
        let fine : h.fault ≡ None = no_fault h.fault (ap (λ (r : TakeReport). r.fault) (sym is.reports) ∙ well) (ap (λ (r : TakeReport). r.stopped) (sym is.reports) ∙ runs) in
        decided_opens v b was (port_of frame) room (seen frame) fine (ap (λ (x : DeviceView). due_by x.slots.context) (sym is.own) ∙ d)

other_takes : (n : ℕ) (old new : Port) (frame : List ℕ) (room : Room) (report : TakeReport) → core.Hearkens old frame room report new → (port_of frame == n) ≡ false → due n new ≡ true → due n old ≡ true
other_takes n old new frame room report does apart d = by (ignores (port_of frame) old frame) refl
  where
    by : (x : Bool) → ignores (port_of frame) old frame ≡ x → due n old ≡ true
    by true e = port_same n old new (does.ignored e).port d
    by false e = other_view n (port_of frame) old new apart (does.heard e).others d

-- what goes is due no more
fed_over : (old new : Port) (dev : ℕ) (frame : List ℕ) (o : Option (ℕ × ℕ × ℕ)) → is_some o ≡ true → DoesBy old (core.Chose (match_some o Rests (feeds dev)) frame) new → due dev new ≡ true → ⊥
fed_over old new dev frame None some does d = false≢true some
fed_over old new dev frame (Some x) some does d = by (context_of old.slots dev) refl (ap (λ (v : DeviceView). due_by v.slots.context) (sym does.1.own) ∙ d)
  where
    own : DeviceSlots
    own = (view_of dev old).slots

    by : (c : Option Context) → own.context ≡ c → due_by (match_some c own (λ c. gone_over (payload_len c) c own)).context ≡ true → ⊥
    by None e h = false≢true (sym (ap due_by e) ∙ h)
    by (Some c) e h = false≢true h

module _ (law : EventsAreCoreEvents) (n : ℕ) (low : n < 16) where
  core_events : (old new : ControllerState) (e : Event) → IsController old → IsController new → (does : Does old e new) → AreCoreEvents old.core (of_event old e new does) new.core
  core_events old new e k l does =
      subst (λ (events : List CoreEvent). AreCoreEvents old.core events new.core) (append-nil (of_event old e new does)) (law old new (e ∷ []) (k, (new, does, (l, refl))))

  none_due : (e : Event) (old new : ControllerState) (does : Does old e new) → IsController old → IsController new → IsNoTake QueuedWrite n e → due n new.core ≡ true → due n old.core ≡ true
  none_due e old new does k l plain d =
      cores_due n low (of_event old e new does) old.core new.core (call_none QueuedWrite n e old new does plain) (core_events old new e k l does).run d

  took_case : (old new : ControllerState) (frame : List ℕ) (took : Took) (started : Bool) → old.core.registers.started ≡ started
      → (are : AreCoreEvents old.core (of_frame started old frame took.report ∷ []) new.core) → (port_of frame == n) ≡ true → IsHeardWell old took → (b : Bool) → (due n old.core ≡ true → b ≡ true)
      → due n new.core ≡ true → open_by (sign_of (seen frame)) b ≡ true
  took_case old new frame took false starts are own well b was d = absurd (false≢true (sym starts ∙ well.started))
  took_case old new frame took true starts are own well b was d =
      let same : port_of frame ≡ n = eqb-true (port_of frame) n own in
      own_opens old.core are.run.0 frame (room_for old (port_of frame)) took.report are.run.1 well.heard well.well well.runs b (λ h. was (ap (λ k. due k old.core) (sym same) ∙ h))
      (ap (λ k. due k are.run.0) same ∙ ap (due n) (sym are.run.2) ∙ d)

  other_case : (old new : ControllerState) (frame : List ℕ) (took : Took) (started : Bool) → (are : AreCoreEvents old.core (of_frame started old frame took.report ∷ []) new.core)
      → (port_of frame == n) ≡ false → due n new.core ≡ true → due n old.core ≡ true
  other_case old new frame took false are apart d = cores_due n low (core.Greeted frame took.report ∷ []) old.core new.core (tt, tt) are.run d
  other_case old new frame took true are apart d =
      other_takes n old.core are.run.0 frame (room_for old (port_of frame)) took.report are.run.1 apart (ap (due n) (sym are.run.2) ∙ d)

  went : (old new : ControllerState) (dev number : ℕ) (frame : List ℕ) (message : Bool) (line : Edge) (does : Does old (call.Gathered dev number frame (fed_answer.Goes message line)) new)
      → IsController old → IsController new → (dev == n) ≡ true → due n new.core ≡ true → ⊥
  went old new dev number frame message line does k l own d =
      let e : Event = call.Gathered dev number frame (fed_answer.Goes message line) in
      let same : dev ≡ n = eqb-true dev n own in
      let are : AreCoreEvents old.core (core.Chose (turn_to old dev) frame ∷ []) new.core = core_events old new e k l does in
      fed_over old.core are.run.0 dev frame (payload (context_of old.core.slots dev)) (fed_some old new dev number (fed_answer.Goes message line) tt does.1) are.run.1
      (ap (λ j. due j are.run.0) same ∙ ap (due n) (sym are.run.2) ∙ d)

  -- ---- a run of calls

  sign_open : (s : Sign) (t : Talk) → (talk_by t (Up s)).wants ≡ open_by s t.wants
  sign_open (SetsUp tag offset auto) t = refl
  sign_open Asks t = refl
  sign_open Plain t = refl

  up_case : (b : Bool) (s : Sign) (rest : List Step) (t : Talk) → (b ≡ true → AreAsked (talk_by t (Up s)) rest) → (b ≡ false → AreAsked t rest)
      → AreAsked t ((if b then Up s ∷ [] else []) ++ rest)
  up_case true s rest t one two = (tt, one refl)
  up_case false s rest t one two = two refl

  down_case : (b : Bool) (count : ℕ) (rest : List Step) (t : Talk) → (b ≡ true → t.wants ≡ true) → (b ≡ true → AreAsked (talk_by t (Down count)) rest) → (b ≡ false → AreAsked t rest)
      → AreAsked t ((if b then Down count ∷ [] else []) ++ rest)
  down_case true count rest t asks one two = (asks refl, one refl)
  down_case false count rest t asks one two = two refl

  abbrev IsOpenAt : ControllerState → Talk → Type 0
  IsOpenAt c t = due n c.core ≡ true → t.wants ≡ true

  went_open : (old new : ControllerState) (dev number : ℕ) (frame : List ℕ) (message : Bool) (line : Edge) → Does old (call.Gathered dev number frame (fed_answer.Goes message line)) new
      → (t : Talk) → IsOpenAt old t → (dev == n) ≡ true → t.wants ≡ true
  went_open old new dev number frame message line does t was own =
      was (ap (λ j. due j old.core) (sym (eqb-true dev n own)) ∙ fed_some old new dev number (fed_answer.Goes message line) tt does.1)

  calls_asked : (events : List Event) (old new : ControllerState) (run : Runs old events new) → AllHeardWell n old events new run → (t : Talk) → IsOpenAt old t
      → AreAsked t (events_steps n events)
  calls_asked [] old new run well t was = tt
  calls_asked (call.Took frame took ∷ later) old new run well t was =
      let mid : ControllerState = run.1.0 in
      let l : IsController mid = first_kept later mid new run.1.2 in
      let are = core_events old mid (call.Took frame took) run.0 l run.1.1 in
      up_case (port_of frame == n) (sign_of (seen frame)) (events_steps n later) t
      (λ own. calls_asked later mid new run.1.2 well.1 (talk_by t (Up (sign_of (seen frame))))
      (λ d. sign_open (sign_of (seen frame)) t ∙ took_case old mid frame took old.core.registers.started refl are own (well.0 (eqb-true (port_of frame) n own)) t.wants was d))
      (λ apart. calls_asked later mid new run.1.2 well.1 t (λ d. was (other_case old mid frame took old.core.registers.started are apart d)))
  calls_asked (call.Gathered dev number frame (fed_answer.Goes message line) ∷ later) old new run well t was =
      let mid : ControllerState = run.1.0 in
      let l : IsController mid = first_kept later mid new run.1.2 in
      down_case (dev == n) (length frame - 4) (events_steps n later) t
      (went_open old mid dev number frame message line run.1.1 t was)
      (λ own. calls_asked later mid new run.1.2 well.1 (talk_by t (Down (length frame - 4))) (λ d. absurd (went old mid dev number frame message line run.1.1 run.0 l own d)))
      (λ apart. calls_asked later mid new run.1.2 well.1 t
      (λ d. was (none_due (call.Gathered dev number frame (fed_answer.Goes message line)) old mid run.1.1 run.0 l (λ e. apart) d)))
  calls_asked (call.Gathered dev number frame other ∷ later) old new run well t was =
      calls_asked later run.1.0 new run.1.2 well.1 t (λ d. was (none_due (call.Gathered dev number frame other) old run.1.0 run.1.1 run.0 (first_kept later run.1.0 new run.1.2) tt d))
  calls_asked (call.Wrote offset value written ∷ later) old new run well t was =
      calls_asked later run.1.0 new run.1.2 well.1 t (λ d. was (none_due (call.Wrote offset value written) old run.1.0 run.1.1 run.0 (first_kept later run.1.0 new run.1.2) tt d))
  calls_asked (call.WroteWide offset width value written ∷ later) old new run well t was =
      calls_asked later run.1.0 new run.1.2 well.1 t (λ d. was (none_due (call.WroteWide offset width value written) old run.1.0 run.1.1 run.0 (first_kept later run.1.0 new run.1.2) tt d))
  calls_asked (call.Supplied slot number bytes supply ∷ later) old new run well t was =
      calls_asked later run.1.0 new run.1.2 well.1 t (λ d. was (none_due (call.Supplied slot number bytes supply) old run.1.0 run.1.1 run.0 (first_kept later run.1.0 new run.1.2) tt d))
  calls_asked (call.Missed slot number supply ∷ later) old new run well t was =
      calls_asked later run.1.0 new run.1.2 well.1 t (λ d. was (none_due (call.Missed slot number supply) old run.1.0 run.1.1 run.0 (first_kept later run.1.0 new run.1.2) tt d))
  calls_asked (call.Left frame why ∷ later) old new run well t was =
      calls_asked later run.1.0 new run.1.2 well.1 t (λ d. was (none_due (call.Left frame why) old run.1.0 run.1.1 run.0 (first_kept later run.1.0 new run.1.2) tt d))
  calls_asked (call.Turned next ∷ later) old new run well t was =
      calls_asked later run.1.0 new run.1.2 well.1 t (λ d. was (none_due (call.Turned next) old run.1.0 run.1.1 run.0 (first_kept later run.1.0 new run.1.2) refl d))
  calls_asked (call.Said write ∷ later) old new run well t was =
      calls_asked later run.1.0 new run.1.2 well.1 t (λ d. was (none_due (call.Said write) old run.1.0 run.1.1 run.0 (first_kept later run.1.0 new run.1.2) tt d))
  calls_asked (call.NotThere dev number fed ∷ later) old new run well t was =
      calls_asked later run.1.0 new run.1.2 well.1 t (λ d. was (none_due (call.NotThere dev number fed) old run.1.0 run.1.1 run.0 (first_kept later run.1.0 new run.1.2) tt d))

pub data_go : EventsAreCoreEvents → DataGoAsAsked
data_go law n low old new events run none well = calls_asked law n low events old new run well quiet_talk (λ d. absurd (false≢true (sym (ap due_by none) ∙ d)))
