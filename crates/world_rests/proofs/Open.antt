-- For `rested_disks_have_done`. Over all that a host does with a disk since both began anew: the tag of a queued command that was
-- sent is taken, and Data that the disk asked for may go.
use Rattle.std.proofs.Common.{◌≡◌, eqb, ℕ, ◌<◌, Bool, true, false, List, [], ◌∷◌, ◌++◌, ◌≤◌, ◌%◌, length, refl, sym, ap, subst, ◌∙◌, inl, inr, Option}
use Rattle.std.proofs.{Common.{Some, None, Ok, Result, arith}, lemmas.Bool.{cases_lt, eq-eqb, le-ltb, lt-ltb, true≢false, Decides.nat_tests}}
use Rattle.std.proofs.lemmas.List.FromFn.{length-map-range_with_len}
use Rattle.std.specs.{Prelude.{if◌then◌else◌}, Option.option_map}
use Rattle.fis_view.specs.{Frames.{IsFrame, IsPayload, Stamped, marked}, Seen.seen, declared.view.{Fis.Fis, FisFault.FisFault}}
use Rattle.fis_view.proofs.Door.{payload_seen}
use Rattle.fis_view.specs.declared.view.Fis.TheVariants as view
use Rattle.hba_commands.specs.declared.command.Command as issued_command
use Rattle.slots.specs.{Data.payload_len, Commands.{is_slot, with_sent}, Setup.{begun, whole_context, with_own_context}, Slots.{DeviceSlots, Issue}}
use Rattle.slots.specs.{Slots.{freed, holds, is_control, match_some, new_issue, own_issue}, Work.{is_dma, is_queued}, declared.table.Context.Context}
use Rattle.slots.specs.declared.work.{Kind.{Kind, TheVariants.{DmaIn, DmaOut, QueuedRead, QueuedWrite}}, Work.Work}
use Rattle.hba_fbs.specs.{declared.{hearing.Fault.Fault, register.Register.TheVariants.Ci, report.TakeReport.TakeReport}, Issuing.{aimed, asked}}
use Rattle.hba_fbs.specs.{Issuing.{issue_with, issued_slots, view_issued}, Sending.{Data, Gives, Order, Outgoing, data_fis, gathered, outgoing}}
use Rattle.hba_fbs.specs.{Tables.{is_sound, prds_of}, Taking.{admitted, device_cause, heard, heard_now, heard_report, ignores, port_cause, port_of}}
use Rattle.hba_fbs.specs.{Views.{DeviceView, view_of}, Writing.view_after}
use Rattle.hba_fbs.specs.declared.hearing.Fault.TheVariants as fault
use Rattle.disk_model.specs.{declared.request.Request.{Request, TheVariants.Queue}, Between.opened, Ends.{IsFree, IsRight, MovesOther}}
use Rattle.disk_model.specs.{Histories.{Happening, Received, Sent}, Ledger.{Ledger, Moving, asks, ledger, listens, listens_down, listens_up}}
use Rattle.disk_model.specs.{Ledger.takes_data, Requests.request_of}
use Rattle.disk_model.proofs.Door.{ledger_push, opens_free}
use Rattle.hba_laws.specs.{Agreement.{work_of_issue, work_of_transfer}, Client.own, Delivering.touched, History.{Event, History, Transfer, issued}}
use Rattle.hba_laws.specs.{Hosts.{Does, Gave, Host, TakesFrame, Wrote}, Sound.IsHost, Between.{GoesOut, HasContext, IsOwn, NotIssue, issue_below}}
use Rattle.hba_laws.specs.History as event
use Rattle.hba_laws.proofs.Door.{goes_out, is_own, issued_before, own_here, own_issued}
use Rattle.disk_simulation.specs.Anew as anew
use Rattle.disk_simulation.specs.{Anew.{IsHostedOn, IsKeptOn, IsOpening, IsSignedWell, KeepsSlots}, Between.{IsSigned, IsThere}, Heard.IsTakenWell}
use Rattle.disk_simulation.specs.{Heard.IsToldSo, Joined.{IsAskedBy, IsJoined}, Marked.IsHeardAlike, Same.SlotCommand, Together.{NoneQueued, is_sent}}
use Rattle.disk_simulation.specs.Together.{told}
use Rattle.disk_simulation.proofs.Door.{heard_as_told, hosted_on_is_kept, marks_tell_nothing, signature_is_none, signed, there_by}
use Rattle.world_rests.proofs.{Asking.{IsAsked, asked_up, takes_quiet}, Taken.{AreTaken, taken_down, taken_sent, taken_signed, taken_up}}

pub record IsOpen (n : ℕ) (host : Host) (past : History) (k : Ledger) : Type 0 where
  pub taken : AreTaken past k
  pub asked : IsAsked (view_of n host.port).slots.context k

unqueued : {X : Type 0} (w : Work) → is_queued w.kind ≡ true → is_queued w.kind ≡ false → X
unqueued w is not = absurd (true≢false (sym is ∙ not))

-- ---- where both begin

module _ (n : ℕ) (host : Host) (commands : ℕ → SlotCommand) (past : History) (k : Ledger) (o : IsOpening n host commands past k) where
  opens : IsOpen n host past k
  opens = record {
    taken = λ s t here queued was free.
        let at : IsThere (view_of n host.port).slots s t =
        there_by (view_of n host.port).slots s t (own_issue (view_of n host.port).slots s) refl (sym (ap (option_map work_of_transfer) here) ∙ o.history.issued s) in
        unqueued t.work queued (ap (λ (w : Work). is_queued w.kind) at.work ∙ (o.alone s at.issue at.there).kind);
    asked = λ v c now set there. let bad : None ≡ Some c = sym o.unset ∙ there in cc bad;
  }

-- ---- a FIS of the disk

no_fault : (o : Option Fault) → device_cause o ≡ None → port_cause o ≡ None → o ≡ None
no_fault None device port = refl
no_fault (Some (fault.Device c)) device port = cc device
no_fault (Some (fault.Port c)) device port = cc port

not_ignored : (host new : Host) (frame : List ℕ) (report : TakeReport) (b : Bool) → ignores (port_of frame) host.port frame ≡ b → TakesFrame host frame report new → report.ignored ≡ false → b ≡ false
not_ignored host new frame report false is takes heard = refl
not_ignored host new frame report true is takes heard =
    let said = (takes.ignored is).reports in
    absurd (true≢false (sym (ap (λ (r : TakeReport). r.ignored) said) ∙ heard))

module _ (host new : Host) (frame : List ℕ) (report : TakeReport) (well : IsTakenWell host frame report new) where
  pub heard_it : ignores (port_of frame) host.port frame ≡ false
  heard_it = not_ignored host new frame report (ignores (port_of frame) host.port frame) refl well.takes well.heard

  pub heard_fine : (heard_now host.port host.memory (port_of frame) (admitted (port_of frame) (seen frame))).fault ≡ None
  unfolding heard_report
  heard_fine =
      let reports = (well.takes.heard heard_it).reports in
      no_fault (heard_now host.port host.memory (port_of frame) (admitted (port_of frame) (seen frame))).fault
      (sym (ap (λ (r : TakeReport). r.fault) reports) ∙ well.no_fault) (sym (ap (λ (r : TakeReport). r.stopped) reports) ∙ well.no_stop)

  heard_open : (commands : ℕ → SlotCommand) (past : History) (k : Ledger) → IsHost host → port_of frame < 15 → IsRight k (seen frame)
      → IsJoined (port_of frame) commands host past k → IsOpen (port_of frame) host past k → IsOpen (port_of frame) new (told (seen frame) ++ past) (listens_up k (seen frame))
  heard_open commands past k sound low right joined o =
      let dev = port_of frame in
      let w : DeviceView = view_of (port_of frame) host.port in
      let so : IsToldSo host frame report past = heard_as_told host new frame report commands past k sound low well joined.history joined.same right in
      let view_is = (well.takes.heard heard_it).own in
      record {
        taken = taken_up past k o.taken (seen frame) right so.heard;
        asked =
            subst (λ (x : DeviceView). IsAsked x.slots.context (listens_up k (seen frame))) (sym view_is)
            (asked_up (port_of frame) w (is_sound host.memory host.port.commands w.slots) past k joined.same.talk o.asked (seen frame) right heard_fine);
      }

module _ (host new : Host) (frame : List ℕ) (report : TakeReport) (well : IsSignedWell host frame report new) where
  signed_open : (past : History) (k : Ledger) → IsOpen (port_of frame) host past k → IsOpen (port_of frame) new past (listens_up k (seen frame))
  signed_open past k o =
      let s : IsSigned (seen frame) = signed host new frame report well in
      let keeps : KeepsSlots (port_of frame) host new = (signature_is_none host new frame report well).keeps in
      subst (λ (r : Result Fis FisFault). IsOpen (port_of frame) new past (listens_up k r)) (sym s.is) (record {
        taken = taken_signed past k o.taken;
        asked = λ v c now set there. o.asked v c now set (sym (ap (λ (own : DeviceSlots). own.context) keeps.slots) ∙ there);
      })

-- ---- commands are issued

none_new : (dev : ℕ) (i : Issue) (o : Option issued_command.Command) (old : Option Issue) → i.sent ≡ true → issue_with dev o old ≡ Some i → old ≡ Some i
none_new dev i None old sent is = is
none_new dev i (Some command) old sent is =
    let one : new_issue dev command.work ≡ i = cc is in
    absurd (true≢false (sym sent ∙ ap (λ (x : Issue). x.sent) (sym one)))

-- what stands at the port stands in the history
pub record WasIssued (s : ℕ) (i : Issue) (past : History) : Type 0 where
  pub transfer : Transfer
  pub there : issued s past ≡ Some transfer
  pub work : transfer.work ≡ i.work

pub was_issued : (s : ℕ) (i : Issue) (past : History) (o : Option Transfer) → issued s past ≡ o → option_map work_of_transfer o ≡ Some i.work → WasIssued s i past
was_issued s i past None is same = cc same
was_issued s i past (Some u) is same = record { transfer = u; there = is; work = cc same }

module _ (n value : ℕ) (host new : Host) (commands next : ℕ → SlotCommand) (past : History) (k : Ledger) (sound : IsHost host) (below : n < 15)
    (chosen : aimed host.port.registers host.memory.structure value ≡ n) (does : Does host (Wrote Ci value) new) (joined : IsJoined n commands host past k) where
  abbrev after : History
  after = own n (touched host (Wrote Ci value)) ++ past

  view_issued_is : view_after Ci host.port host.memory value n ≡ view_issued host.port.registers host.memory value (view_of n host.port)
  unfolding view_after
  view_issued_is =
      ap (λ (b : Bool). if b then view_issued host.port.registers host.memory value (view_of n host.port) else view_of n host.port)
      (eq-eqb n (aimed host.port.registers host.memory.structure value) (sym chosen))

  pub view_is : view_of n new.port ≡ view_issued host.port.registers host.memory value (view_of n host.port)
  view_is = does.1.views n (omega (arith, below)) ∙ view_issued_is

  pub stood : (s : ℕ) (i : Issue) → i.sent ≡ true → own_issue (view_of n new.port).slots s ≡ Some i → own_issue (view_of n host.port).slots s ≡ Some i
  stood s i sent there =
      let v : DeviceView = view_of n host.port in
      let dev : ℕ = aimed host.port.registers host.memory.structure value in
      let owns : IsOwn n v.slots = is_own n host.port.slots sound.slots in
      let here : own_issue (issued_slots (aimed host.port.registers host.memory.structure value) (asked host.port.registers host.memory value) v.slots) s ≡ Some i =
      sym (ap (λ (w : DeviceView). own_issue w.slots s) view_is) ∙ there in
      let by_slot : issue_below (aimed host.port.registers host.memory.structure value) (asked host.port.registers host.memory value) (own_issue v.slots) 32 s ≡ Some i =
      sym (ap (λ (f : ℕ → Option Issue). f s)
      (own_issued (aimed host.port.registers host.memory.structure value) (asked host.port.registers host.memory value) v.slots 32 owns.long)) ∙ here in
      elim (cases_lt s 32) [
        | inl lt ↦
            none_new (aimed host.port.registers host.memory.structure value) i (asked host.port.registers host.memory value s) (own_issue v.slots s) sent
            (sym (ap (λ (b : Bool). if b then issue_with (aimed host.port.registers host.memory.structure value) (asked host.port.registers host.memory value s)
            (own_issue v.slots s) else own_issue v.slots s) (lt-ltb s 32 lt)) ∙ by_slot)
        | inr ge ↦
            sym (ap (λ (b : Bool). if b then issue_with (aimed host.port.registers host.memory.structure value) (asked host.port.registers host.memory value s)
            (own_issue v.slots s) else own_issue v.slots s) (le-ltb s 32 ge)) ∙ by_slot
      ]

  issued_open : IsJoined n next new after k → IsOpen n host past k → IsOpen n new after k
  issued_open later o = record {
    taken = λ s t here queued was free.
        let at : IsThere (view_of n new.port).slots s t =
        there_by (view_of n new.port).slots s t (own_issue (view_of n new.port).slots s) refl (sym (ap (option_map work_of_transfer) here) ∙ later.history.issued s) in
        let sent : at.issue.sent ≡ true = sym (later.sent s at.issue at.there) ∙ was in
        let old : own_issue (view_of n host.port).slots s ≡ Some at.issue = stood s at.issue sent at.there in
        let w : WasIssued s at.issue past = was_issued s at.issue past (issued s past) refl (joined.history.issued s ∙ ap (option_map work_of_issue) old) in
        o.taken s w.transfer w.there (ap (λ (x : Work). is_queued x.kind) (w.work ∙ sym at.work) ∙ queued) (joined.sent s at.issue old ∙ sent) free;
    asked = λ v c now set there. o.asked v c now set (sym (ap (λ (w : DeviceView). w.slots.context) view_is) ∙ there);
  }

-- ---- a command is sent

not_dma : (kind : Kind) → is_queued kind ≡ true → is_dma kind ≡ false
not_dma DmaIn queued = absurd (true≢false (sym queued))
not_dma DmaOut queued = absurd (true≢false (sym queued))
not_dma kind queued = refl

not_control : (kind : Kind) → is_queued kind ≡ true → is_control kind ≡ false
not_control QueuedRead queued = refl
not_control QueuedWrite queued = refl
not_control other queued = absurd (true≢false (sym queued))

record IsSending (n slot : ℕ) (host : Host) : Type 0 where
  issue : Issue
  there : own_issue (view_of n host.port).slots slot ≡ Some issue
  unsent : issue.sent ≡ false

is_sending : (n slot : ℕ) (host : Host) (command : issued_command.Command) → IsHost host → GoesOut host.port (Order n slot command) → IsSending n slot host
unfolding GoesOut
is_sending n slot host command sound goes =
    let long = sound.slots.slots in
    let lt : slot < 32 = goes.3 in
    let here : own_issue (view_of goes.0.dev host.port).slots slot ≡ Some goes.0 = own_here slot host.port.slots goes.0 (omega (arith, long, lt)) goes.1 in
    record {
      issue = goes.0;
      there = subst (λ (d : ℕ). own_issue (view_of d host.port).slots slot ≡ Some goes.0) (sym goes.2) here;
      unsent = goes.4;
    }

module _ (n slot : ℕ) (host new : Host) (frame : Stamped) (command : issued_command.Command) (f : List ℕ) (t : Transfer) (commands : ℕ → SlotCommand) (past : History) (k : Ledger)
    (sound : IsHost host) (does : Does host (Gave (Some frame)) new) (out : outgoing host.port host.memory ≡ Order n slot command) (here : issued slot past ≡ Some t)
    (cfis : seen command.cfis ≡ Ok (view.RegH2D f)) (joined : IsJoined n commands host past k) where
  pub sends : Gives (Order n slot command) host.port host.memory (Some frame) new.port
  sends = subst (λ (o : Outgoing). Gives o host.port host.memory (Some frame) new.port) out does.0

  pub shown : seen frame.bytes ≡ Ok (view.RegH2D f)
  shown = ap (λ (x : Stamped). seen x.bytes) sends.frame_is ∙ cfis

  going : IsSending n slot host
  going = is_sending n slot host command sound (subst (GoesOut host.port) out (goes_out host.port host.memory))

  its_work : t.work ≡ going.issue.work
  its_work =
      let own_slots : DeviceSlots = (view_of n host.port).slots in
      let at : IsThere (view_of n host.port).slots slot t =
      there_by (view_of n host.port).slots slot t (own_issue (view_of n host.port).slots slot) refl (sym (ap (option_map work_of_transfer) here) ∙ joined.history.issued slot) in
      let one : at.issue ≡ going.issue = let e : Some at.issue ≡ Some going.issue = sym at.there ∙ going.there in cc e in
      at.work ∙ ap (λ (i : Issue). i.work) one

  context_stays : is_queued t.work.kind ≡ true → (view_of n new.port).slots.context ≡ (view_of n host.port).slots.context
  context_stays queued =
      let v : DeviceView = view_of n host.port in
      let kind : is_queued going.issue.work.kind ≡ true = ap (λ (w : Work). is_queued w.kind) (sym its_work) ∙ queued in
      let own_control : holds (λ issue. is_control issue.work.kind) (own_issue v.slots slot) ≡ false =
      ap (holds (λ (issue : Issue). is_control issue.work.kind)) going.there ∙ not_control going.issue.work.kind kind in
      let slots_is : (view_of n new.port).slots ≡ with_sent v.slots slot =
      ap (λ (w : DeviceView). w.slots) sends.own
      ∙ ap (λ (b : Bool). if b then freed (is_slot slot) v.slots
      else match_some (own_issue v.slots slot) (with_sent v.slots slot) (λ issue. begun slot issue.work (with_sent v.slots slot))) own_control
      ∙ ap (λ (i : Option Issue). match_some i (with_sent v.slots slot) (λ issue. begun slot issue.work (with_sent v.slots slot))) going.there
      ∙ ap (λ (b : Bool). if b then with_own_context (with_sent v.slots slot) (whole_context slot going.issue.work) else with_sent v.slots slot)
      (not_dma going.issue.work.kind kind) in
      ap (λ (d : DeviceSlots). d.context) slots_is

  queued_open : is_queued t.work.kind ≡ true → request_of f ≡ Queue (commands slot).command → IsOpen n host past k
      → IsOpen n new (event.Sent slot ∷ past) (listens k (Received frame.bytes))
  queued_open queued request o =
      let tag : (commands slot).command.tag ≡ slot = joined.same.tags slot in
      let unsent : is_sent slot past ≡ false = joined.sent slot going.issue going.there ∙ going.unsent in
      let free : IsFree k (commands slot).command.tag = subst (IsFree k) (sym tag) (joined.same.unsent slot unsent) in
      let later : listens k (Received frame.bytes) ≡ opened k (commands slot).command =
      ap (listens_down k) shown ∙ ap (λ (r : Request). asks k r k.failed) request ∙ opens_free k (commands slot).command joined.same.fine free.outstanding in
      subst (IsOpen n new (event.Sent slot ∷ past)) (sym later) (record {
        taken = taken_sent past k o.taken slot (commands slot).command tag;
        asked = λ v c now set there. o.asked v c now set (sym (context_stays queued) ∙ there);
      })

-- a command that is not queued is sent while no queued one is issued
module _ (n slot : ℕ) (new : Host) (commands : ℕ → SlotCommand) (past : History) (x : Ledger) (none : (s : ℕ) → NoneQueued (issued s past))
    (joined : IsJoined n commands new (event.Sent slot ∷ past) x) where
  none_queued : (s : ℕ) (t : Transfer) → issued s (event.Sent slot ∷ past) ≡ Some t → is_queued t.work.kind ≡ false
  unfolding NotIssue
  none_queued s t here = subst (λ (o : Option Transfer). NoneQueued o) (issued_before s (event.Sent slot) past t tt here) (none s)

  none_after : (s : ℕ) (o : Option Transfer) → issued s (event.Sent slot ∷ past) ≡ o → NoneQueued o
  none_after s None is = tt
  none_after s (Some t) is = none_queued s t is

  other_open : IsOpen n new (event.Sent slot ∷ past) x
  other_open = record {
    taken = λ s t here queued was free. unqueued t.work queued (none_queued s t here);
    asked = λ v c now set there.
        let free : IsFree x v.command.tag = joined.same.free v.command.tag (none_after v.command.tag (issued v.command.tag (event.Sent slot ∷ past)) refl) in
        let other : eqb v.command.tag v.command.tag ≡ false = subst (MovesOther v.command.tag) now free.moving in
        absurd (true≢false (sym (eq-eqb v.command.tag v.command.tag refl) ∙ other));
  }

-- ---- Data is sent

pub record IsDue (n len : ℕ) (host : Host) : Type 0 where
  pub context : Context
  pub now : (view_of n host.port).slots.context ≡ Some context
  pub asked : context.activated ≡ true
  pub long : len ≡ payload_len context

pub due_out : (n offset len : ℕ) (host : Host) (command : issued_command.Command) → GoesOut host.port (Data n offset len command) → IsDue n len host
unfolding GoesOut
due_out n offset len host command goes = record { context = goes.0; now = goes.1; asked = goes.2; long = goes.3 }

is_payload_by : (bytes : List ℕ) → 4 ≤ length bytes → length bytes ≤ 8192 → length bytes % 4 ≡ 0 → IsPayload bytes
is_payload_by bytes low high dwords = grind (arith, nat_tests)

module _ (n offset len : ℕ) (host new : Host) (frame : Stamped) (command : issued_command.Command) (commands : ℕ → SlotCommand) (past : History) (k : Ledger)
    (sound : IsHost host) (does : Does host (Gave (Some frame)) new) (out : outgoing host.port host.memory ≡ Data n offset len command) (joined : IsJoined n commands host past k) where
  abbrev bytes : List ℕ
  bytes = gathered (prds_of host.memory command) offset len host.memory.client

  -- what the ledger hears of it, and which context it is of
  pub record IsToldDown : Type 0 where
    pub context : Context
    pub there : (view_of n host.port).slots.context ≡ Some context
    pub asks : IsAskedBy context k
    pub long : length bytes ≡ asks.current.count
    pub later : listens k (Received frame.bytes) ≡ takes_data k k.moving bytes

  pub told_down : IsToldDown
  told_down =
      let w : DeviceView = view_of n host.port in
      let owns : IsOwn n w.slots = is_own n host.port.slots sound.slots in
      let due : IsDue n len host = due_out n offset len host command (subst (GoesOut host.port) out (goes_out host.port host.memory)) in
      let sends = subst (λ (o : Outgoing). Gives o host.port host.memory (Some frame) new.port) out does.0 in
      let a : IsAskedBy due.context k = joined.active due.context due.now due.asked in
      let short : a.current.count ≤ 8192 = joined.short a.current a.moving in
      let has : HasContext n w.slots due.context = owns.contexts due.context due.now in
      let left_is : due.context.left ≡ a.current.count = a.left in
      let size = due.long in
      let dwords = has.is.left_dwords in
      let some = (has.is.activates due.asked).1 in
      let long : length bytes ≡ len = length-map-range_with_len _ 0 len in
      let all : length bytes ≡ a.current.count = omega (arith, long, size, left_is, short) in
      let payload : IsPayload bytes =
      is_payload_by bytes (omega (arith, all, left_is, some, dwords)) (omega (arith, all, short)) (omega (arith, all, left_is, dwords)) in
      let frame_is : frame.bytes ≡ data_fis n bytes = ap (λ (x : Stamped). x.bytes) sends.frame_is in
      let shown : seen frame.bytes ≡ Ok (view.Payload (data_fis n bytes)) = ap seen frame_is ∙ payload_seen n bytes payload in
      record { context = due.context; there = due.now; asks = a; long = all; later = ap (listens_down k) shown }

  data_open : IsOpen n host past k → IsOpen n new (event.Carried bytes ∷ past) (listens k (Received frame.bytes))
  data_open o =
      let d : IsToldDown = told_down in
      subst (IsOpen n new (event.Carried bytes ∷ past)) (sym d.later) (record {
        taken = taken_down past k o.taken bytes;
        asked = λ v c now set there.
            takes_quiet k d.asks.current v bytes d.asks.asked (eq-eqb (length bytes) d.asks.current.count d.long)
            (sym (ap (λ (m : Option Moving). (takes_data k m bytes).moving) d.asks.moving) ∙ now) set;
      })

-- ---- all of it

module _ (n : ℕ) (base : List Happening) (below : n < 15) where
  one_more : (new : Host) (given : List Happening) (e : Happening) (past : History) → IsOpen n new past (listens (ledger given) e) → IsOpen n new past (ledger (given ++ e ∷ []))
  one_more new given e past o = subst (IsOpen n new past) (sym (ledger_push given e)) o

  given_open : (new : Host) (frame : Stamped) (given : List Happening) (past : History) → IsFrame frame.bytes → IsOpen n new past (listens (ledger given) (Received frame.bytes))
      → IsOpen n new past (ledger (given ++ Received (marked frame.bytes 0) ∷ []))
  given_open new frame given past framed o =
      let a : IsHeardAlike (ledger given) frame.bytes (marked frame.bytes 0) = marks_tell_nothing (ledger given) frame.bytes 0 framed (omega arith) in
      one_more new given (Received (marked frame.bytes 0)) past (subst (IsOpen n new past) (sym a.down) o)

  taken_open : (old new : Host) (bytes : List ℕ) (given : List Happening) (commands : ℕ → SlotCommand) (past later : History) → IsFrame bytes → port_of (marked bytes n) ≡ n
      → IsJoined n commands old past (ledger given) → IsOpen n old past (ledger given)
      → (IsHeardAlike (ledger given) bytes (marked bytes n) → IsJoined (port_of (marked bytes n)) commands old past (ledger given) → IsOpen (port_of (marked bytes n)) old past (ledger given)
      → IsOpen (port_of (marked bytes n)) new later (listens (ledger given) (Sent (marked bytes n))))
      → IsOpen n new later (ledger (given ++ Sent bytes ∷ []))
  taken_open old new bytes given commands past later plain from_n joined before next =
      let a : IsHeardAlike (ledger given) bytes (marked bytes n) = marks_tell_nothing (ledger given) bytes n plain (omega (arith, below)) in
      let its = next a (subst (λ (m : ℕ). IsJoined m commands old past (ledger given)) (sym from_n) joined) (subst (λ (m : ℕ). IsOpen m old past (ledger given)) (sym from_n) before) in
      one_more new given (Sent bytes) later (subst (IsOpen n new later) a.up (subst (λ (m : ℕ). IsOpen m new later (listens (ledger given) (Sent (marked bytes n)))) from_n its))

  kept : (host : Host) (given : List Happening) (commands : ℕ → SlotCommand) (past : History) → IsHostedOn n base host given commands past → IsJoined n commands host past (ledger given)
  kept host given commands past hosted = (hosted_on_is_kept n base host given commands past below hosted).joined

  pub hosted_is_open : (host : Host) (given : List Happening) (commands : ℕ → SlotCommand) (past : History) → IsHostedOn n base host given commands past → IsOpen n host past (ledger given)
  hosted_is_open host given commands past (anew.opens h c p opening) = opens n h c p (ledger base) opening
  hosted_is_open host given commands past (anew.stays old new g c p same whole hosted) =
      let before : IsOpen n old p (ledger g) = hosted_is_open old g c p hosted in
      record { taken = before.taken; asked = λ v d now set there. before.asked v d now set (sym (ap (λ (own : DeviceSlots). own.context) same.slots) ∙ there) }
  hosted_is_open host given commands past (anew.signs old new bytes report g c p sound plain framed from_n well right hosted) =
      taken_open old new bytes g c p p plain from_n (kept old g c p hosted) (hosted_is_open old g c p hosted)
      (λ a joined o. signed_open old new (marked bytes n) report well p (ledger g) o)
  hosted_is_open host given commands past (anew.hears old new bytes report g c p sound plain framed from_n well right short hosted) =
      let lt : port_of (marked bytes n) < 15 = subst (λ (m : ℕ). m < 15) (sym from_n) below in
      taken_open old new bytes g c p (told (seen (marked bytes n)) ++ p) plain from_n (kept old g c p hosted) (hosted_is_open old g c p hosted)
      (λ a joined o. heard_open old new (marked bytes n) report well c p (ledger g) sound lt (a.right right) joined o)
  hosted_is_open host given commands past (anew.issues old new value g c next p sound chosen does tags names counted hosted) =
      issued_open n value old new c next p (ledger g) sound below chosen does (kept old g c p hosted)
      (kept new g next _ (anew.issues old new value g c next p sound chosen does tags names counted hosted)) (hosted_is_open old g c p hosted)
  hosted_is_open host given commands past (anew.sends old new frame slot command f t g c p sound framed does out here queued cfis request signs hosted) =
      given_open new frame g (event.Sent slot ∷ p) framed
      (queued_open n slot old new frame command f t c p (ledger g) sound does out here cfis (kept old g c p hosted) queued request (hosted_is_open old g c p hosted))
  hosted_is_open host given commands past (anew.asks old new frame slot command f t g c p sound framed does out here not_queued control moves cfis one none signs hosted) =
      other_open n slot new c p _ none
      (kept new _ c (event.Sent slot ∷ p) (anew.asks old new frame slot command f t g c p sound framed does out here not_queued control moves cfis one none signs hosted))
  hosted_is_open host given commands past (anew.gives old new frame offset len command g c p sound framed does out hosted) =
      given_open new frame g (event.Carried _ ∷ p) framed
      (data_open n offset len old new frame command c p (ledger g) sound does out (kept old g c p hosted) (hosted_is_open old g c p hosted))
