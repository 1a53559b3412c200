-- For `core_delivers`. A device's view says its history after each event of the core, and so after a list of them.
use Rattle.std.proofs.Common.{◌≡◌, ◌≢◌, ℕ, ◌+◌, ◌%◌, ◌<◌, ◌≤◌, Bool, true, false, cond, eqb, List, [], ◌∷◌, ◌++◌, drop, length, length-drop, refl}
use Rattle.std.proofs.{Common.{sym, ap, subst, ◌∙◌, inl, inr, Option, Some, None, arith, min}, lemmas.Bool.{cases_Bool, cases_eq, eqb-true}}
use Rattle.std.proofs.lemmas.Bool.{eqb-false, false≢true, true≢false, and_parts, leb-true}
use Rattle.std.specs.{Prelude.{MatchOption, is_some, is_none, ◌&&◌, ◌||◌, ◌==◌, not, nat_le, if◌then◌else◌}, Option.option_map}
use Rattle.fis_view.specs.{Frames.IsFrame, Seen.seen}
use Rattle.host_memory.specs.declared.table.Prd.{Prd}
use Rattle.hba_commands.specs.declared.command.Command.{Command}
use Rattle.slots.specs.{Commands.{MayBeSent, after_sent, may_begin, may_go}, Data.{after_payload, gone_over, payload, payload_len}, Slots.DeviceSlots}
use Rattle.slots.specs.Slots.{Issue, Slots, context_of, has_bit, holds, is_control, is_pio, issue_at, match_some, own_issue, owned_by, slots_of}
use Rattle.slots.specs.{Slots.waiting, Work.{is_dma, is_read}, declared.{table.Context.Context, work.Kind.{Kind, TheVariants.{QueuedRead, PioIn}}}}
use Rattle.slots.specs.declared.work.Kind.TheVariants.{DmaIn}
use Rattle.slots.proofs.Door.{lowest_is, own_at}
use Rattle.hba_fbs.specs.declared.{register.Register.{Register, TheVariants.{Clb, Cmd, Ci, Fbs}}, report.TakeReport.TakeReport, room.Room.Room}
use Rattle.hba_fbs.specs.declared.{turn.Turn.{Turn, TheVariants.{Feeds, Orders, Rests}}, greeting.Line.Line, state.DeviceState.DeviceState}
use Rattle.hba_fbs.specs.{declared.status.Block.Block, Choosing.{Chooses, MayChoose}, Deciding.{decided, decided_view}, Greeting.{Greets, Hangs}}
use Rattle.hba_fbs.specs.{Greeting.{greeted_in, greeted_state, line_view}, Issuing.view_with, Placing.{Places, issue_error}, Stopping.SetsCmd}
use Rattle.hba_fbs.specs.{Stopping.{fallen_view, overridden_state}, Offering.{AcceptsBy, Offer, aimed_by, asked_by, refusal_by, view_by}}
use Rattle.hba_fbs.specs.{Offering.view_issued_by, Registers.falls, Sending.{block_sent, faulty_devices, next_receiver, next_to_send, ready_devices}}
use Rattle.hba_fbs.specs.{Sending.{stopped_by_bus, view_fed, view_sent}, Taking.{admitted, ignores, is_running, port_of}, Turning.{Goes, Turns}}
use Rattle.hba_fbs.specs.{Turning.{feeds, orders, turn_of}, Views.{DeviceView, LeavesOtherViews, Port, flushed_view, last_command, stopped_view}}
use Rattle.hba_fbs.specs.{Views.view_of, Writing.{cleared_by, is_device}}
use Rattle.hba_laws.specs.{Agreement.{IsTold, end_of, is_pio_issue}, Alike.told_issued, CoreHistories.{CoreViewsAreTold, IsFramedBy, event_by}}
use Rattle.hba_laws.specs.{CoreHistories.{happened, turned_for, written_for}, Cores.{Chose, Commanded, CoreEvent, DoesBy, Failed, Flushed, Gave}}
use Rattle.hba_laws.specs.{Cores.{Greeted, HasBytes, Hearkens, Hung, IsCore, Overrode, Placed, Took, Wrote}, Delivering.{begun_by, event_heard}}
use Rattle.hba_laws.specs.{Delivering.{event_sent, is_control_issue}, History.{Carried, Emptied, Event, History, Sent, SentControl, SetUp}}
use Rattle.hba_laws.specs.Between.{HasContext, IsOwn}
use Rattle.hba_laws.proofs.histories.{ChoiceLemmas.{as_goes, placed_free}, DataLemmas.{ends_block, says_carried}, HearLemmas.decided_follows}
use Rattle.hba_laws.proofs.histories.{HearLemmas.with_event, IssueLemmas.{offered_free, says_issued}, ResetLemmas.reset_told, StepLemmas.Says}
use Rattle.hba_laws.proofs.histories.{StepLemmas.{control_no_dma, ends_after, says_control, says_emptied, says_sent}, ViewLemmas.{held, holds_at}}
use Rattle.hba_laws.proofs.histories.ViewLemmas.{is_own, own_here}

pub says_of : (v : DeviceView) (past : History) → IsTold v past → Says v.slots (option_map end_of v.state.block) past
says_of v past t = record { issued = t.issued; agrees = t.agrees }

told_of : (v : DeviceView) (past : History) → Says v.slots (option_map end_of v.state.block) past → IsTold v past
told_of v past s = record { issued = s.issued; agrees = s.agrees }

-- ---- what goes out

not_true : (b : Bool) → not b ≡ true → b ≡ false
not_true true e = absurd (false≢true e)
not_true false e = refl

is_none_is : (o : Option ℕ) → is_none o ≡ true → o ≡ None
is_none_is None e = refl
is_none_is (Some k) e = absurd (false≢true e)

may_wait : (control ready none begins : Bool) → (control || ready && none && begins) ≡ true → control ≡ false → none ≡ true
may_wait true ready none begins e f = absurd (true≢false f)
may_wait false ready none begins e f = (and_parts ready none (and_parts (ready && none) begins e).0).1

-- what is known of the next command that may go
pub record IsNext (port : Port) (slot : ℕ) : Type 0 where
  pub issue : Issue
  pub at : issue_at port.slots slot ≡ Some issue
  pub below : slot < 32
  pub unsent : issue.sent ≡ false
  pub waits : is_control issue.work.kind ≡ false → waiting (slots_of issue.dev port.slots) ≡ None

pub next_found : (port : Port) (slot : ℕ) → next_to_send port ≡ Some slot → IsNext port slot
unfolding next_to_send
next_found port slot e =
    let t : Slots = port.slots in
    let low = lowest_is (λ s. holds (may_go (ready_devices port) (faulty_devices port) port.slots) (issue_at port.slots s)) 32 slot e in
    let p = held (may_go (ready_devices port) (faulty_devices port) port.slots) (issue_at port.slots slot) low.passes in
    let i : Issue = p.0 in
    let may = and_parts (not i.sent && not (has_bit (faulty_devices port) i.dev)) (is_control i.work.kind || has_bit (ready_devices port) i.dev && is_none (waiting (slots_of i.dev t)) && may_begin (slots_of i.dev t) i) p.2 in
    let q = and_parts (not i.sent) (not (has_bit (faulty_devices port) i.dev)) may.0 in
    record {
      issue = i;
      at = p.1;
      below = low.below;
      unsent = not_true i.sent q.0;
      waits = λ other. is_none_is (waiting (slots_of i.dev t)) (may_wait (is_control i.work.kind) (has_bit (ready_devices port) i.dev) (is_none (waiting (slots_of i.dev t))) (may_begin (slots_of i.dev t) i) may.1 other);
    }

-- what is known of what goes out
pub record IsFeeding (port : Port) (dev slot offset len : ℕ) : Type 0 where
  pub context : Context
  pub now : context_of port.slots dev ≡ Some context
  pub active : context.activated ≡ true
  pub slot_is : slot ≡ context.slot
  pub offset_is : offset ≡ context.next
  pub len_is : len ≡ payload_len context

pub record IsOrdering (port : Port) (dev slot : ℕ) : Type 0 where
  pub next : IsNext port slot
  pub of_dev : dev ≡ next.issue.dev

abbrev pub GoesBy : Port → Turn → Type 0
GoesBy port Rests = Unit {0}
GoesBy port (Feeds dev slot offset len) = IsFeeding port dev slot offset len
GoesBy port (Orders dev slot command) = IsOrdering port dev slot

orders_goes : (port : Port) (slot : ℕ) → IsNext port slot → GoesBy port (orders port slot)
orders_goes port slot n =
    subst (λ (o : Option Issue). GoesBy port (match_some o Rests (λ issue. match_some (last_command port.commands slot) Rests (Orders issue.dev slot)))) (sym n.at) (by_command (last_command port.commands slot))
  where
    by_command : (q : Option Command) → GoesBy port (match_some q Rests (Orders n.issue.dev slot))
    by_command None = tt
    by_command (Some command) = record { next = n; of_dev = refl }

next_goes : (port : Port) (o : Option ℕ) → next_to_send port ≡ o → GoesBy port (match_some o Rests (orders port))
next_goes port None e = tt
next_goes port (Some slot) e = orders_goes port slot (next_found port slot e)

feeds_goes : (port : Port) (dev : ℕ) → GoesBy port (match_some (payload (context_of port.slots dev)) Rests (feeds dev))
feeds_goes port dev = by_context (context_of port.slots dev) refl
  where
    by_active : (c : Context) → context_of port.slots dev ≡ Some c → (b : Bool) → c.activated ≡ b
        → GoesBy port (match_some {A = ℕ × ℕ × ℕ} (cond b (Some (c.slot, c.next, payload_len c)) None) Rests (feeds dev))
    by_active c now false active = tt
    by_active c now true active = record { context = c; now = now; active = active; slot_is = refl; offset_is = refl; len_is = refl }

    by_context : (o : Option Context) → context_of port.slots dev ≡ o → GoesBy port (match_some (payload o) Rests (feeds dev))
    by_context None now = tt
    by_context (Some c) now = by_active c now c.activated refl

pub turn_goes : (port : Port) → GoesBy port (turn_of port)
turn_goes port = by_running (is_running port)
  where
    by_receiver : (o : Option ℕ) → GoesBy port (match_some o (match_some (next_to_send port) Rests (orders port)) (λ dev. match_some (payload (context_of port.slots dev)) Rests (feeds dev)))
    by_receiver None = next_goes port (next_to_send port) refl
    by_receiver (Some dev) = feeds_goes port dev

    by_running : (b : Bool) → GoesBy port (if not b then Rests else match_some (next_receiver port) (match_some (next_to_send port) Rests (orders port)) (λ dev. match_some (payload (context_of port.slots dev)) Rests (feeds dev)))
    by_running false = tt
    by_running true = by_receiver (next_receiver port)

-- ---- what goes out as its caller chose

abbrev got_slot : Option (ℕ × ℕ × ℕ) → ℕ
got_slot None = 0
got_slot (Some next) = next.0

abbrev got_offset : Option (ℕ × ℕ × ℕ) → ℕ
got_offset None = 0
got_offset (Some next) = next.1

abbrev got_len : Option (ℕ × ℕ × ℕ) → ℕ
got_len None = 0
got_len (Some next) = next.2

fed_goes : (port : Port) (dev slot offset len : ℕ) → payload (context_of port.slots dev) ≡ Some (slot, offset, len) → IsFeeding port dev slot offset len
fed_goes port dev slot offset len due = by_context (context_of port.slots dev) refl due
  where
    by_active : (c : Context) → context_of port.slots dev ≡ Some c → (b : Bool) → c.activated ≡ b → cond {A = Option (ℕ × ℕ × ℕ)} b (Some (c.slot, c.next, payload_len c)) None ≡ Some (slot, offset, len) → IsFeeding port dev slot offset len
    by_active c now false active e = cc
    by_active c now true active e = record { context = c; now = now; active = active; slot_is = sym (ap got_slot e); offset_is = sym (ap got_offset e); len_is = sym (ap got_len e) }

    by_context : (o : Option Context) → context_of port.slots dev ≡ o → payload o ≡ Some (slot, offset, len) → IsFeeding port dev slot offset len
    by_context None now e = cc
    by_context (Some c) now e = by_active c now c.activated refl e

ordered_goes : (port : Port) (dev slot : ℕ) → slot < 32 → MayBeSent port.slots slot → MatchOption (issue_at port.slots slot) ⊥ (λ issue. issue.dev ≡ dev) → IsOrdering port dev slot
ordered_goes port dev slot below may owner = by_issue (issue_at port.slots slot) refl may owner
  where
    by_issue : (o : Option Issue) → issue_at port.slots slot ≡ o
        → MatchOption o ⊥ (λ issue. (issue.sent ≡ false) × (is_control issue.work.kind ≡ false → waiting (slots_of issue.dev port.slots) ≡ None))
        → MatchOption o ⊥ (λ issue. issue.dev ≡ dev) → IsOrdering port dev slot
    by_issue None at m o = absurd m
    by_issue (Some i) at m o = record { next = record { issue = i; at = at; below = below; unsent = m.0; waits = m.1 }; of_dev = sym o }

pub chosen_goes : (port : Port) (t : Turn) → MayChoose port t → GoesBy port t
chosen_goes port Rests may = tt
chosen_goes port (Feeds dev slot offset len) may = fed_goes port dev slot offset len may.1.due
chosen_goes port (Orders dev slot command) may = ordered_goes port dev slot may.1.slot_below may.1.may may.1.owner

-- ---- one event

writes_none : (kind : Kind) → is_read kind ≡ false → is_pio kind ≡ false
writes_none QueuedRead e = absurd (true≢false e)
writes_none DmaIn e = absurd (true≢false e)
writes_none PioIn e = absurd (true≢false e)
writes_none other e = refl

none_ends : (ends : Option ℕ) (b : Bool) → is_some ends ≡ false → ends_block ends b ≡ false
none_ends None true e = refl
none_ends None false e = refl
none_ends (Some s) b e = absurd (true≢false e)

-- a history with these events, where a test passes
if_then : (b : Bool) (h past : History) (P : History → Type 0) → (b ≡ true → P (h ++ past)) → (b ≡ false → P past) → P ((if b then h else []) ++ past)
if_then true h past P here other = here refl
if_then false h past P here other = other refl

pub with_one : (o : Option Event) (past : History) → with_event o past ≡ match_some o [] (λ e. e ∷ []) ++ past
with_one None past = refl
with_one (Some e) past = refl

module _ (n : ℕ) (old : Port) (core : IsCore old) (past : History) (told : IsTold (view_of n old) past) where
  abbrev v : DeviceView
  v = view_of n old

  abbrev ends : Option ℕ
  ends = option_map end_of v.state.block

  says : Says v.slots ends past
  says = says_of v past told

  owns : IsOwn n v.slots
  owns = is_own n old.slots core.slots

  -- the view stays
  stays : (new : Port) → view_of n new ≡ v → IsTold (view_of n new) past
  stays new e = subst (λ (w : DeviceView). IsTold w past) (sym e) told

  -- a frame is received
  took_own : (frame : List ℕ) → IsFrame frame → (room : Room)
      → IsTold (decided_view n v room (admitted n (seen frame))) (with_event (event_heard (decided n v room (admitted n (seen frame))) (drop 4 frame)) past)
  took_own frame framed room =
      let p = and_parts (nat_le 4 (length frame) && nat_le (length frame) 8196) (eqb (length frame % 4) 0) framed in
      let q = and_parts (nat_le 4 (length frame)) (nat_le (length frame) 8196) p.0 in
      told_of (decided_view n v room (admitted n (seen frame))) (with_event (event_heard (decided n v room (admitted n (seen frame))) (drop 4 frame)) past)
      (decided_follows n v frame past owns says (leb-true 4 (length frame) q.0) (eqb-true (length frame % 4) 0 p.1) room)

  took_here : (frame : List ℕ) (room : Room) (report : TakeReport) (new : Port) → IsFrame frame → Hearkens old frame room report new → n ≡ port_of frame
      → (b : Bool) → ignores (port_of frame) old frame ≡ b
      → IsTold (view_of n new) (with_event (if b then None else event_heard (decided (port_of frame) (view_of (port_of frame) old) room (admitted (port_of frame) (seen frame))) (drop 4 frame)) past)
  took_here frame room report new framed does same true e = subst (λ (p : Port). IsTold (view_of n p) past) (sym (does.ignored e).port) told
  took_here frame room report new framed does same false e =
      subst (λ (d : ℕ). view_of d new ≡ decided_view d (view_of d old) room (admitted d (seen frame))
      → IsTold (view_of n new) (with_event (event_heard (decided d (view_of d old) room (admitted d (seen frame))) (drop 4 frame)) past)) same
      (λ own. subst (λ (w : DeviceView). IsTold w (with_event (event_heard (decided n v room (admitted n (seen frame))) (drop 4 frame)) past)) (sym own) (took_own frame framed room))
      (does.heard e).own

  took_other : (frame : List ℕ) (room : Room) (report : TakeReport) (new : Port) → Hearkens old frame room report new → n ≢ port_of frame → IsTold (view_of n new) past
  took_other frame room report new does ne = elim (cases_Bool (ignores (port_of frame) old frame)) [
    | inl t ↦ subst (λ (p : Port). IsTold (view_of n p) past) (sym (does.ignored t).port) told
    | inr f ↦ stays new ((does.heard f).others n ne)
  ]

  took : (frame : List ℕ) (room : Room) (report : TakeReport) (new : Port) → IsFrame frame → Hearkens old frame room report new
      → IsTold (view_of n new) (happened n old (Took frame room report) ++ past)
  took frame room report new framed does =
      if_then (port_of frame == n) (match_some (event_by old room frame) [] (λ e. e ∷ [])) past (IsTold (view_of n new))
      (λ same.
      subst (IsTold (view_of n new)) (with_one (event_by old room frame) past)
      (took_here frame room report new framed does (sym (eqb-true (port_of frame) n same)) (ignores (port_of frame) old frame) refl))
      (λ differs. took_other frame room report new does (λ e. eqb-false (port_of frame) n differs (sym e)))

  -- a register is written
  issued_own : (m value : ℕ) (offer : Offer) (tables : ℕ → List Prd) → m ≡ 32 → refusal_by Ci old offer value ≡ None
      → IsTold (view_issued_by old.registers offer value v) (told_issued (asked_by offer value) tables m ++ past)
  issued_own m value offer tables m_is accepted =
      told_of (view_issued_by old.registers offer value v) (told_issued (asked_by offer value) tables m ++ past)
      (says_issued (aimed_by old.registers offer value) tables (asked_by offer value) v.slots ends past says free m (omega (arith, m_is)) (owns.long ∙ sym m_is))
    where
      free : (s : ℕ) → s < 32 → is_some (asked_by offer value s) ≡ true → own_issue v.slots s ≡ None
      free s lt some =
          let long = core.slots.slots in
          own_at n old.slots s (omega (arith, lt, long)) ∙ ap (owned_by n) (offered_free old offer value s accepted lt some)

  chosen : (b : Bool) (w : DeviceView) (h : History) → (b ≡ true → IsTold w (h ++ past)) → IsTold (if b then w else v) ((if b then h else []) ++ past)
  chosen true w h here = here refl
  chosen false w h here = told

  wrote : (register : Register) (value : ℕ) (offer : Offer) (tables : ℕ → List Prd) (new : Port) → n < 16 → refusal_by register old offer value ≡ None → AcceptsBy old offer register value new
      → IsTold (view_of n new) (written_for n old register value offer tables ++ past)
  unfolding view_by
  wrote Cmd value offer tables new lt accepted does =
      subst (λ (w : DeviceView). IsTold w (written_for n old Cmd value offer tables ++ past)) (sym (does.views n lt))
      (chosen (falls old.registers value) (stopped_view v) (Emptied ∷ []) (λ b. told_of (stopped_view v) (Emptied ∷ past) (says_emptied None past)))
  wrote Ci value offer tables new lt accepted does =
      subst (λ (w : DeviceView). IsTold w (written_for n old Ci value offer tables ++ past)) (sym (does.views n lt))
      (chosen (n == aimed_by old.registers offer value) (view_issued_by old.registers offer value v) (told_issued (asked_by offer value) tables 32) (λ b. issued_own 32 value offer tables refl accepted))
  wrote Fbs value offer tables new lt accepted does =
      subst (λ (w : DeviceView). IsTold w (written_for n old Fbs value offer tables ++ past)) (sym (does.views n lt))
      (chosen (is_device n (cleared_by old.errors value)) (stopped_view v) (Emptied ∷ []) (λ b. told_of (stopped_view v) (Emptied ∷ past) (says_emptied None past)))
  wrote Clb value offer tables new lt accepted does = stays new (does.views n lt)
  wrote other value offer tables new lt accepted does = stays new (does.views n lt)

  -- Data goes out
  fed_own : (dev slot offset len : ℕ) (bytes : List ℕ) → IsFeeding old dev slot offset len → length bytes ≡ 4 + len → n ≡ dev
      → IsTold (view_fed v) (Carried (drop 4 bytes) ∷ past)
  fed_own dev slot offset len bytes fed sized same =
      told_of (view_fed v) (Carried (drop 4 bytes) ∷ past) (subst (λ (o : DeviceSlots). Says o ends (Carried (drop 4 bytes) ∷ past)) (sym after)
      (says_carried n v.slots ends past owns says c now (drop 4 bytes) dwords fits (none_ends ends (eqb c.left (length (drop 4 bytes))) no_end)))
    where
      c : Context
      c = fed.context

      now : v.slots.context ≡ Some fed.context
      now = ap (λ (d : ℕ). context_of old.slots d) same ∙ fed.now

      has : HasContext n v.slots fed.context
      has = owns.contexts fed.context now

      long : length (drop 4 bytes) ≡ min fed.context.left 8192
      long =
          let cut = length-drop 4 bytes in
          let same_len : length (drop 4 bytes) ≡ len = omega (arith, cut, sized) in
          same_len ∙ fed.len_is

      dwords : length (drop 4 bytes) % 4 ≡ 0
      dwords = omega (arith, long, has.is.left_dwords)

      fits : length (drop 4 bytes) ≤ c.left
      fits = omega (arith, long)

      after : after_payload v.slots ≡ gone_over (length (drop 4 bytes)) c v.slots
      after = ap (λ o. match_some o v.slots (λ d. gone_over (payload_len d) d v.slots)) now ∙ ap (λ k. gone_over k fed.context v.slots) (sym long)

      no_end : is_some ends ≡ false
      no_end = sym ((says.agrees.context_agrees fed.context now).of_kind) ∙ holds_at is_pio_issue (own_issue v.slots fed.context.slot) has.issue has.at
          ∙ writes_none has.issue.work.kind (has.is.way ∙ (has.is.activates fed.active).0)

  -- the frame of a slot goes out
  order_own : (dev slot : ℕ) (command : Command) → IsOrdering old dev slot → n ≡ dev
      → IsTold (view_sent v slot command) ((begun_by slot (issue_at old.slots slot) ++ event_sent old.slots slot ∷ []) ++ past)
  order_own dev slot command order same =
      subst (IsTold (view_sent v slot command)) (sym (last_of (begun_by slot (issue_at old.slots slot))))
      (told_of (view_sent v slot command) (sent_then (issue_at old.slots slot))
      (subst (λ (e : Option ℕ). Says (after_sent v.slots slot) e (sent_then (issue_at old.slots slot))) (sym block_is)
      (subst (λ (o : Option Issue). Says (after_sent v.slots slot) (ends_after i ends) (sent_then o)) (sym order.next.at) (by_kind (is_control i.work.kind) refl))))
    where
      i : Issue
      i = order.next.issue

      of_n : order.next.issue.dev ≡ n
      of_n = sym order.of_dev ∙ sym same

      at : own_issue v.slots slot ≡ Some order.next.issue
      at =
          let long = core.slots.slots in
          subst (λ (d : ℕ). own_issue (slots_of d old.slots) slot ≡ Some order.next.issue) of_n (own_here slot old.slots order.next.issue (let lt = order.next.below in omega (arith, long, lt)) order.next.at)

      sent_then : Option Issue → History
      sent_then o = begun_by slot o ++ cond (holds is_control_issue o) (SentControl slot) (Sent slot) ∷ past

      last_of : (h : History) → (h ++ event_sent old.slots slot ∷ []) ++ past ≡ h ++ event_sent old.slots slot ∷ past
      last_of [] = refl
      last_of (e ∷ h) = ap (λ (l : History). e ∷ l) (last_of h)

      same_block : (b : Bool) → option_map end_of (if b then None else v.state.block) ≡ (if b then None else ends)
      same_block true = refl
      same_block false = refl

      block_is : option_map end_of (block_sent v slot) ≡ ends_after order.next.issue ends
      block_is =
          ap (λ (b : Bool). option_map end_of (if b then None else v.state.block)) (holds_at (λ issue. is_dma issue.work.kind) (own_issue v.slots slot) order.next.issue at) ∙ same_block (is_dma order.next.issue.work.kind)

      by_kind : (b : Bool) → is_control order.next.issue.work.kind ≡ b
          → Says (after_sent v.slots slot) (ends_after order.next.issue ends) (begun_by slot (Some order.next.issue) ++ cond b (SentControl slot) (Sent slot) ∷ past)
      by_kind true e =
          subst (λ (b : Bool). Says (after_sent v.slots slot) (if b then None else ends) ((if b then SetUp slot 0 order.next.issue.work.len (is_read order.next.issue.work.kind) ∷ [] else []) ++ SentControl slot ∷ past))
          (sym (control_no_dma order.next.issue.work.kind e)) (says_control n v.slots ends past owns says slot order.next.issue at e)
      by_kind false e = says_sent n v.slots ends past owns says slot order.next.issue at order.next.unsent e (subst (λ (d : ℕ). waiting (slots_of d old.slots) ≡ None) of_n (order.next.waits e))

  -- of a device that is this one, or another
  goes : (dev : ℕ) (w : DeviceView) (h : History) (new : Port) → Goes old dev w new → (n ≡ dev → IsTold w (h ++ past)) → IsTold (view_of n new) ((if dev == n then h else []) ++ past)
  goes dev w h new does here =
      if_then (dev == n) h past (IsTold (view_of n new))
      (λ same.
      let at : dev ≡ n = eqb-true dev n same in
      subst (λ (u : DeviceView). IsTold u (h ++ past)) (sym (ap (λ (d : ℕ). view_of d new) (sym at) ∙ does.own)) (here (sym at)))
      (λ differs. stays new (does.others n (λ e. eqb-false dev n differs (sym e))))

  gave : (t : Turn) → GoesBy old t → (bytes : List ℕ) (new : Port) → Turns t old new → HasBytes t bytes → IsTold (view_of n new) (turned_for n old t bytes ++ past)
  gave Rests out bytes new does sized = subst (λ (p : Port). IsTold (view_of n p) past) (sym does) told
  gave (Feeds dev slot offset len) out bytes new does sized =
      goes dev (view_fed (view_of dev old)) (Carried (drop 4 bytes) ∷ []) new does
      (λ same. subst (λ (d : ℕ). IsTold (view_fed (view_of d old)) (Carried (drop 4 bytes) ∷ past)) same (fed_own dev slot offset len bytes out sized same))
  gave (Orders dev slot command) out bytes new does sized =
      goes dev (view_sent (view_of dev old) slot command) (begun_by slot (issue_at old.slots slot) ++ event_sent old.slots slot ∷ []) new does
      (λ same. subst (λ (d : ℕ). IsTold (view_sent (view_of d old) slot command) ((begun_by slot (issue_at old.slots slot) ++ event_sent old.slots slot ∷ []) ++ past)) same (order_own dev slot command out same))

  chose : (t : Turn) → GoesBy old t → (bytes : List ℕ) (new : Port) → Chooses t old new → HasBytes t bytes → IsTold (view_of n new) (turned_for n old t bytes ++ past)
  chose Rests out bytes new does sized = gave Rests out bytes new does sized
  chose (Feeds dev slot offset len) out bytes new does sized =
      gave (Feeds dev slot offset len) out bytes (record new { active = old.active }) (as_goes old new dev (view_fed (view_of dev old)) old.active does) sized
  chose (Orders dev slot command) out bytes new does sized =
      gave (Orders dev slot command) out bytes (record new { active = old.active }) (as_goes old new dev (view_sent (view_of dev old) slot command) dev does) sized

  -- commands are issued by the caller
  placed_own : (m value : ℕ) (offer : Offer) (tables : ℕ → List Prd) → m ≡ 32 → issue_error old offer value ≡ None
      → IsTold (view_with n (asked_by offer value) v) (told_issued (asked_by offer value) tables m ++ past)
  placed_own m value offer tables m_is accepted =
      told_of (view_with n (asked_by offer value) v) (told_issued (asked_by offer value) tables m ++ past)
      (says_issued n tables (asked_by offer value) v.slots ends past says free m (omega (arith, m_is)) (owns.long ∙ sym m_is))
    where
      free : (s : ℕ) → s < 32 → is_some (asked_by offer value s) ≡ true → own_issue v.slots s ≡ None
      free s lt some =
          let long = core.slots.slots in
          own_at n old.slots s (omega (arith, lt, long)) ∙ ap (owned_by n) (placed_free old offer value s accepted lt some)

  placed : (dev value : ℕ) (offer : Offer) (tables : ℕ → List Prd) (new : Port) → issue_error old offer value ≡ None → Places old offer dev value new
      → IsTold (view_of n new) ((if dev == n then told_issued (asked_by offer value) tables 32 else []) ++ past)
  placed dev value offer tables new accepted does =
      if_then (dev == n) (told_issued (asked_by offer value) tables 32) past (IsTold (view_of n new))
      (λ same.
      let here : Places old offer n value new = subst (λ (d : ℕ). Places old offer d value new) (eqb-true dev n same) does in
      subst (λ (w : DeviceView). IsTold w (told_issued (asked_by offer value) tables 32 ++ past)) (sym here.own) (placed_own 32 value offer tables refl accepted))
      (λ differs. stays new (does.others n (λ e. eqb-false dev n differs (sym e))))

  -- the task file of a device alone changes, or that of another
  filed : (dev : ℕ) (state : DeviceState → DeviceState) (new : Port) → ((s : DeviceState) → (state s).block ≡ s.block)
      → view_of dev new ≡ record (view_of dev old) { state = state (view_of dev old).state } → LeavesOtherViews dev old new → IsTold (view_of n new) past
  filed dev state new kept own others = elim (cases_eq n dev) [
    | inl same ↦
        let here : view_of n new ≡ record v { state = state v.state } = subst (λ (d : ℕ). view_of d new ≡ record (view_of d old) { state = state (view_of d old).state }) (sym same) own in
        subst (λ (w : DeviceView). IsTold w past) (sym here)
        (told_of (record v { state = state v.state }) past (subst (λ (b : Option Block). Says v.slots (option_map end_of b) past) (sym (kept v.state)) says))
    | inr ne ↦ stays new (others n ne)
  ]

  greeted : (frame : List ℕ) (o : Option (List ℕ)) (report : TakeReport) (new : Port) → Greets old (port_of frame) o report new → IsTold (view_of n new) past
  greeted frame None report new does = subst (λ (p : Port). IsTold (view_of n p) past) (sym does.port) told
  greeted frame (Some f) report new does = filed (port_of frame) (λ s. greeted_state s f) new (λ s. refl) does.own does.others

  hung : (dev : ℕ) (line : Line) (new : Port) → Hangs old dev line new → IsTold (view_of n new) ((if dev == n then Emptied ∷ [] else []) ++ past)
  hung dev line new does =
      if_then (dev == n) (Emptied ∷ []) past (IsTold (view_of n new))
      (λ same.
      subst (λ (w : DeviceView). IsTold w (Emptied ∷ past)) (sym (ap (λ (d : ℕ). view_of d new) (sym (eqb-true dev n same)) ∙ does.own))
      (told_of (line_view line) (Emptied ∷ past) (says_emptied None past)))
      (λ differs. stays new (does.others n (λ e. eqb-false dev n differs (sym e))))

  commanded : (value : ℕ) (new : Port) → n < 16 → SetsCmd old value new → IsTold (view_of n new) ((if falls old.registers value then Emptied ∷ [] else []) ++ past)
  commanded value new lt does =
      subst (λ (w : DeviceView). IsTold w ((if falls old.registers value then Emptied ∷ [] else []) ++ past)) (sym (does.views n lt))
      (chosen (falls old.registers value) (fallen_view v) (Emptied ∷ []) (λ b. told_of (fallen_view v) (Emptied ∷ past) (says_emptied None past)))

  pub step_by : (event : CoreEvent) (new : Port) → n < 16 → IsFramedBy event → DoesBy old event new → IsTold (view_of n new) (happened n old event ++ past)
  step_by (Took frame room report) new lt framed does = took frame room report new framed does
  step_by (Wrote register value offer tables) new lt framed does = wrote register value offer tables new lt does.0 does.1
  step_by (Flushed dev) new lt framed does =
      if_then (dev == n) (Emptied ∷ []) past (IsTold (view_of n new))
      (λ same.
      subst (λ (w : DeviceView). IsTold w (Emptied ∷ past)) (sym (ap (λ (d : ℕ). view_of d new) (sym (eqb-true dev n same)) ∙ does.own))
      (told_of flushed_view (Emptied ∷ past) (says_emptied None past)))
      (λ differs. stays new (does.others n (λ e. eqb-false dev n differs (sym e))))
  step_by (Gave bytes) new lt framed does = gave (turn_of old) (turn_goes old) bytes new does.0 does.1
  step_by Failed new lt framed does = subst (λ (p : Port). IsTold (view_of n p) past) (sym does) (told_of (view_of n (stopped_by_bus old)) past says)
  step_by (Placed dev slots offer tables) new lt framed does = placed dev slots offer tables new does.1 does.2
  step_by (Chose turn bytes) new lt framed does = chose turn (chosen_goes old turn does.0) bytes new does.1 does.2
  step_by (Greeted frame report) new lt framed does = greeted frame (greeted_in (view_of (port_of frame) old).state (seen frame)) report new does.1
  step_by (Commanded value) new lt framed does = commanded value new lt does.1
  step_by (Overrode dev) new lt framed does = filed dev overridden_state new (λ s. refl) does.own does.others
  step_by (Hung dev line) new lt framed does = hung dev line new does
  step_by other new lt framed does = subst (λ (p : Port). IsTold (view_of n p) (Emptied ∷ past)) (sym does) (reset_told n past)

-- ---- lists of events

pub core_views_are_told : CoreViewsAreTold
core_views_are_told n lt old new [] run sound past told = subst (λ (p : Port). IsTold (view_of n p) past) (sym run) told
core_views_are_told n lt old new (event ∷ events) run sound past told =
    core_views_are_told n lt run.0 new events run.2 (record { cores = sound.cores.1; frames = sound.frames.1 }) (happened n old event ++ past)
    (step_by n old sound.cores.0 past told event run.0 lt sound.frames.0 run.1)
