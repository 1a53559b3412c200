-- For `delivers`. The slots that a FIS is reported to free are those that it completes.
use Rattle.std.proofs.Common.{◌≡◌, ℕ, ◌-◌, ◌^◌, ◌%◌, ◌<◌, Bool, true, false, cond, eqb, List, [], ◌∷◌, drop, get_or, length, map, refl, sym, ap}
use Rattle.std.proofs.{Common.{subst, ◌∙◌, inl, inr, Option, Some, None, arith}, lemmas.Bool.{cases_eq, cases_lt, eq-eqb, ne_eqb, eqb-true}}
use Rattle.std.proofs.lemmas.{Bool.{false≢true, and_parts, leb-true}, List.{get_or-map, get_or-replicate, get_or_past, length-map, length-replicate}}
use Rattle.std.proofs.lemmas.Nat.Bits.{bit_at-pow_other, bit_at-pow_same, bit_at-zero}
use Rattle.std.specs.{Prelude.{Result, Ok, Err, is_none, is_some, is_ok, ◌&&◌, ◌==◌, not, nat_le, nat_lt, replicate, slice_index}, Option.option_map}
use Rattle.fis_view.specs.{Seen.seen, Table.field, declared.view.Fis.Fis, Frames.IsFrame}
use Rattle.fis_view.specs.Table as table
use Rattle.fis_view.specs.declared.view.Fis.TheVariants as view
use Rattle.port_errors.specs.declared.cause.DeviceCause.TheVariants as cause
use Rattle.slots.specs.Commands.{answer_for, answered_issue, answer_of, answered_as, completed, is_done, is_slot, whole_pio, with_answered}
use Rattle.slots.specs.{Data.{activated, after_activate, after_arrive, arrive_answer, gone_over, may_activate, moved_over}, Setup.after_setup_pio}
use Rattle.slots.specs.{Setup.{came, dma_context, new_context, out_setup, pio_fault, pio_issue, setup_fault, with_own_context}, Work.needs_all}
use Rattle.slots.specs.Slots.{DeviceSlots, Issue, freed, has_bit, holds, is_done_issue, is_queued_issue, is_waiting, is_whole_issue, match_some}
use Rattle.slots.specs.{Slots.{own_issue, owned_by, sent_pio, waiting}, declared.answer.{Answered.Answered, SetupError.SetupError}}
use Rattle.slots.specs.declared.table.Context.{Context}
use Rattle.slots.specs.declared.answer.Answered.TheVariants as answer
use Rattle.slots.proofs.Door.{has_bit_mask, lowest_is}
use Rattle.hba_fbs.specs.declared.{hearing.{Happening.Happening, Heard.Heard}, report.TakeReport.TakeReport, room.Room.Room}
use Rattle.hba_fbs.specs.{declared.{state.DeviceState.DeviceState, status.Block.Block}, Hearing.{answered, block_ended, block_of, bus_failed}}
use Rattle.hba_fbs.specs.Hearing.{done_by, faulty, heard_bytes, heard_d2h, heard_data, heard_data_of, heard_fis, heard_out, mask_of_slot, moved}
use Rattle.hba_fbs.specs.{Hearing.{named, overflowed, quietly, set_up, tag_of}, Status.{after_reset, is_busy, is_error, is_quiet, with_bits}}
use Rattle.hba_fbs.specs.{Status.with_file, Deciding.{decided, room_if}, Taking.{admitted, heard, heard_report, ignores, port_of}, Tables.is_sound}
use Rattle.hba_fbs.specs.Views.{DeviceView, Port, view_of}
use Rattle.hba_fbs.specs.declared.hearing.Happening.TheVariants as happening
use Rattle.hba_laws.specs.{Agreement.{IsHistoryOf, IsTold, end_of, work_of_issue, work_of_transfer}, CoreHistories.CoreDoneIsCompleted}
use Rattle.hba_laws.specs.{CoreHistories.{CoreOpensUntold, ReportsDoneBy, history_through}, Cores.{AreCores, CoreEvent, Hearkens, IsCore, RunsBy}}
use Rattle.hba_laws.specs.{Delivering.{DoneIsCompleted, OpensUntold, ReportsDone, event_heard, event_of, history_after}, History.{Event, History}}
use Rattle.hba_laws.specs.{History.{Transfer, completes, issued, unless}, Hosts.{Host, HostEvent, Runs, TakesFrame, Took}, Sound.{AreHosts, IsHost}}
use Rattle.hba_laws.specs.Between.{IsOwn, at_slot}
use Rattle.hba_laws.proofs.{cores.CoreHostLemmas.{hosts_are_cores, is_core}, histories.CoreEventLemmas.{core_views_are_told, says_of}}
use Rattle.hba_laws.proofs.histories.{EventLemmas.{event_by_is, views_are_told}, HearLemmas.{decided_cases, decided_follows, with_event}}
use Rattle.hba_laws.proofs.histories.{ResetLemmas.opens_told, StepLemmas.Says, ViewLemmas.{at_other, at_same, held, is_own, own_below, own_freed}}
use Rattle.hba_laws.proofs.histories.ViewLemmas.{own_set}

-- ---- which slots become free

-- the slot was filled, and is free now
abbrev pub becomes_free : DeviceSlots → DeviceSlots → ℕ → Bool
becomes_free old new s = is_some (own_issue old s) && is_none (own_issue new s)

both_not : (o : Option Issue) → (is_some o && is_none o) ≡ false
both_not None = refl
both_not (Some i) = refl

zero_has : (s : ℕ) → has_bit 0 s ≡ false
zero_has s = ap (λ b. b == 1) (bit_at-zero s)

-- nothing is done, and nothing becomes free
none_done : (own new : DeviceSlots) (s : ℕ) → is_none (own_issue new s) ≡ is_none (own_issue own s) → has_bit 0 s ≡ becomes_free own new s
none_done own new s same = zero_has s ∙ sym (ap (λ b. is_some (own_issue own s) && b) same ∙ both_not (own_issue own s))

slot_has : (slot s : ℕ) → has_bit (2 ^ slot) s ≡ eqb s slot
slot_has slot s = elim (cases_eq s slot) [
  | inl e ↦ ap (λ k. has_bit (2 ^ slot) k) e ∙ ap (λ b. b == 1) (bit_at-pow_same slot) ∙ sym (eq-eqb s slot e)
  | inr ne ↦ ap (λ b. b == 1) (bit_at-pow_other slot s ne) ∙ sym (ne_eqb s slot ne)
]

freed_is : (b : Bool) (o : Option Issue) → (b ≡ true → is_some o ≡ true) → (is_some o && is_none (unless b o)) ≡ b
freed_is true o here = ap (λ x. x && true) (here refl)
freed_is false o here = both_not o

-- slots of a set become free, in each of which something was issued
set_free : (own before : DeviceSlots) (F : ℕ → Bool) (s : ℕ) → is_some (own_issue before s) ≡ is_some (own_issue own s) → (F s ≡ true → is_some (own_issue before s) ≡ true)
    → becomes_free own (freed F before) s ≡ F s
set_free own before F s same here =
    ap (λ b. b && is_none (own_issue (freed F before) s)) (sym same) ∙ ap (λ (f : ℕ → Option Issue). is_some (own_issue before s) && is_none (f s)) (own_freed F before)
    ∙ freed_is (F s) (own_issue before s) here

some_at : (test : Issue → Bool) (o : Option Issue) → holds test o ≡ true → is_some o ≡ true
some_at test None e = absurd (false≢true e)
some_at test (Some i) e = refl

none_map : (f : Issue → Issue) (o : Option Issue) → is_none (option_map f o) ≡ is_none o
none_map f None = refl
none_map f (Some i) = refl

-- a change of one slot's issue frees nothing
none_changed : (own : DeviceSlots) (slot : ℕ) (f : Issue → Issue) (s : ℕ) → slot < length own.issues → is_none (at_slot (own_issue own) slot (option_map f (own_issue own slot)) s) ≡ is_none (own_issue own s)
none_changed own slot f s lt = elim (cases_eq s slot) [
  | inl e ↦ ap is_none (at_same (own_issue own) slot s (option_map f (own_issue own slot)) e) ∙ none_map f (own_issue own slot) ∙ sym (ap (λ k. is_none (own_issue own k)) e)
  | inr ne ↦ ap is_none (at_other (own_issue own) slot s (option_map f (own_issue own slot)) ne)
]

none_some : (o p : Option Issue) → is_none o ≡ is_none p → is_some o ≡ is_some p
none_some None None e = refl
none_some (Some i) (Some j) e = refl
none_some None (Some j) e = absurd (false≢true (sym e))
none_some (Some i) None e = absurd (false≢true e)

module _ (n : ℕ) (own : DeviceSlots) (state : DeviceState) (is : IsOwn n own) where
  abbrev Frees : Heard → Type 0
  Frees h = (s : ℕ) → s < 32 → has_bit h.done s ≡ becomes_free own (moved h.happening own) s

  quiet : (s : ℕ) → s < 32 → has_bit 0 s ≡ becomes_free own own s
  quiet s lt = none_done own own s refl

  -- ---- answers

  abbrev FreesAs : Answered → Type 0
  FreesAs a = (s : ℕ) → s < 32 → has_bit (done_by a) s ≡ becomes_free own (answered_as a own) s

  by_kind : (slot : ℕ) (j : Issue) → own_issue own slot ≡ Some j → (q short : Bool) → FreesAs (cond q (answer.Queued slot) (cond short (answer.Short slot) (answer.Done slot)))
  by_kind slot j at true short s lt =
      let below : slot < length own.issues = let k = own_below n slot own j is at in omega (arith, k, is.long) in
      none_done own (with_answered own slot) s
      (ap (λ (f : ℕ → Option Issue). is_none (f s)) (own_set own slot (option_map answered_issue (own_issue own slot)) below) ∙ none_changed own slot answered_issue s below)
  by_kind slot j at false true s lt = quiet s lt
  by_kind slot j at false false s lt =
      slot_has slot s ∙ sym (set_free own own (is_slot slot) s refl (λ e. ap (λ k. is_some (own_issue own k)) (eqb-true s slot e) ∙ ap is_some at))

  by_waiting : (o : Option ℕ) → waiting own ≡ o → FreesAs (match_some o answer.Nobody (λ slot. match_some (own_issue own slot) answer.Nobody (answer_for slot)))
  by_waiting None e = quiet
  by_waiting (Some slot) e =
      let low = lowest_is (λ k. holds is_waiting (own_issue own k)) 32 slot e in
      let p = held is_waiting (own_issue own slot) low.passes in
      subst (λ (o : Option Issue). FreesAs (match_some o answer.Nobody (answer_for slot))) (sym p.1)
      (by_kind slot p.0 p.1 (is_queued_issue p.0) (needs_all p.0.work.kind && not (is_whole_issue p.0)))

  d2h : (status error : ℕ) (e b : Bool)
      → Frees (cond e (faulty (with_file state status error) cause.TaskFile) (cond b (quietly (with_file state status error) happening.Nothing) (answered (answer_of own) (with_file state status error))))
  d2h status error true b = quiet
  d2h status error false true = quiet
  d2h status error false false = by_waiting (waiting own) refl

  register : (status error : ℕ) (resetting : Bool) → Frees (cond resetting (quietly (after_reset state status error) happening.Nothing) (heard_d2h own state status error))
  register status error true = quiet
  register status error false = d2h status error (is_error status) (is_busy status)

  -- ---- slots are named

  bits : (status error mask : ℕ) (e : Bool)
      → Frees (cond e (faulty (with_bits state status error) cause.TaskFile) (named (completed mask own) (with_bits state status error) mask))
  bits status error mask true = quiet
  bits status error mask false = λ s lt.
      has_bit_mask (is_done mask own) s lt
      ∙ sym (set_free own own (is_done mask own) s refl (λ e. some_at is_done_issue (own_issue own s) ((and_parts (has_bit mask s) (holds is_done_issue (own_issue own s)) e).1)))

  -- ---- setups

  setup : (c : Context) (o : Option SetupError) → Frees (set_up o state None (happening.SetUp c))
  setup c None = quiet
  setup c (Some e) = quiet

  same_pio : (count : ℕ) (to_host : Bool) (s : ℕ) → own_issue (after_setup_pio own count to_host) s ≡ own_issue own s
  same_pio count to_host s = by_fault (is_some (pio_fault (pio_issue own) count to_host)) (sent_pio own)
    where
      by_issue : (slot : ℕ) (o : Option Issue) → own_issue (match_some o own (λ issue. with_own_context own (new_context slot (came issue) count to_host))) s ≡ own_issue own s
      by_issue slot None = refl
      by_issue slot (Some i) = refl

      by_fault : (b : Bool) (o : Option ℕ)
          → own_issue (cond b own (match_some o own (λ slot. match_some (own_issue own slot) own (λ issue. with_own_context own (new_context slot (came issue) count to_host))))) s ≡ own_issue own s
      by_fault true o = refl
      by_fault false None = refl
      by_fault false (Some slot) = by_issue slot (own_issue own slot)

  pio : (status error count : ℕ) (to_host : Bool) (block : Block) (e b : Bool) (o : Option SetupError) (r : Result Context SetupError)
      → Frees (cond e (faulty (with_file state status error) cause.TaskFile) (cond b (set_up o (with_file state status error) (Some block) (happening.PioSetUp count to_host)) (heard_out (with_file state status error) block r)))
  pio status error count to_host block true b o r = quiet
  pio status error count to_host block false true None r = λ s lt. none_done own (after_setup_pio own count to_host) s (ap is_none (same_pio count to_host s))
  pio status error count to_host block false true (Some e) r = quiet
  pio status error count to_host block false false o (Ok c) = quiet
  pio status error count to_host block false false o (Err e) = quiet

  -- ---- DMA Activate

  same_activated : (b : Bool) (s : ℕ) → own_issue (cond b (record own { context = option_map activated own.context }) own) s ≡ own_issue own s
  same_activated true s = refl
  same_activated false s = refl

  activate : (b : Bool) → Frees (cond b (quietly state happening.Activated) (faulty state cause.Stray))
  activate true = λ s lt. none_done own (after_activate own) s (ap is_none (same_activated (may_activate own.context) s))
  activate false = quiet

  -- ---- Data

  arrived_none : (len s : ℕ) → is_none (own_issue (after_arrive own len) s) ≡ is_none (own_issue own s)
  arrived_none len s = by_context own.context refl
    where
      by_test : (c : Context) → own.context ≡ Some c → (b : Bool) → is_none (own_issue (cond b (gone_over len c own) own) s) ≡ is_none (own_issue own s)
      by_test c now false = refl
      by_test c now true =
          let has = is.contexts c now in
          let below : c.slot < length own.issues = let k = own_below n c.slot own has.issue is has.at in omega (arith, k, is.long) in
          ap (λ (f : ℕ → Option Issue). is_none (f s)) (own_set own c.slot (option_map (moved_over c.next len) (own_issue own c.slot)) below) ∙ none_changed own c.slot (moved_over c.next len) s below

      by_context : (o : Option Context) → own.context ≡ o → is_none (own_issue (match_some o own (λ c. cond (is_ok (arrive_answer own.context len)) (gone_over len c own) own)) s) ≡ is_none (own_issue own s)
      by_context None now = refl
      by_context (Some c) now = by_test c now (is_ok (arrive_answer own.context len))

  -- the end of a block frees the slot that is whole
  ended_frees : (len : ℕ) (b : Bool) → (s : ℕ) → s < 32 → has_bit (cond b (mask_of_slot (whole_pio (after_arrive own len))) 0) s ≡ becomes_free own (block_ended b (after_arrive own len)) s
  ended_frees len false s lt = none_done own (after_arrive own len) s (arrived_none len s)
  ended_frees len true s lt = by_slot (sent_pio (after_arrive own len))
    where
      by_whole : (slot : ℕ) (b : Bool) → holds is_whole_issue (own_issue (after_arrive own len) slot) ≡ b
          → has_bit (mask_of_slot (cond b (Some slot) None)) s ≡ becomes_free own (match_some (cond b (Some slot) None) (after_arrive own len) (λ slot. freed (is_slot slot) (after_arrive own len))) s
      by_whole slot false e = none_done own (after_arrive own len) s (arrived_none len s)
      by_whole slot true e =
          slot_has slot s
          ∙ sym (set_free own (after_arrive own len) (is_slot slot) s (none_some (own_issue (after_arrive own len) s) (own_issue own s) (arrived_none len s))
          (λ f. ap (λ k. is_some (own_issue (after_arrive own len) k)) (eqb-true s slot f) ∙ some_at is_whole_issue (own_issue (after_arrive own len) slot) e))

      by_slot : (o : Option ℕ) → let w : Option ℕ = match_some o None (λ slot. cond (holds is_whole_issue (own_issue (after_arrive own len) slot)) (Some slot) None) in
          has_bit (mask_of_slot w) s ≡ becomes_free own (match_some w (after_arrive own len) (λ slot. freed (is_slot slot) (after_arrive own len))) s
      by_slot None = none_done own (after_arrive own len) s (arrived_none len s)
      by_slot (Some slot) = by_whole slot (holds is_whole_issue (own_issue (after_arrive own len) slot)) refl

  bytes : (slot offset len : ℕ) (o : Option Block) (last : Bool) → Frees (heard_bytes (after_arrive own len) state (record { slot = slot; offset = offset; len = len }) o last)
  bytes slot offset len None last = ended_frees len false
  bytes slot offset len (Some b) true = ended_frees len (is_quiet b.ends)
  bytes slot offset len (Some b) false = ended_frees len false

  data_of : (c : Context) (len : ℕ) (host sound over : Bool)
      → Frees (cond (not host) (faulty state cause.Stray) (cond (not sound) (bus_failed state) (cond over (overflowed state)
      (heard_bytes (after_arrive own len) state (record { slot = c.slot; offset = c.next; len = len }) state.block (eqb c.left len)))))
  data_of c len false sound over = quiet
  data_of c len true false over = quiet
  data_of c len true true true = quiet
  data_of c len true true false = bytes c.slot c.next len state.block (eqb c.left len)

  data_fis : (sound : Bool) (len : ℕ) → Frees (heard_data own state sound len)
  data_fis sound len = by_context own.context
    where
      by_context : (o : Option Context) → Frees (match_some o (faulty state cause.Stray) (heard_data_of own state sound len))
      by_context None = quiet
      by_context (Some c) = data_of c len c.to_host sound (nat_lt c.left len)

  pub fis_frees : (sound : Bool) (fis : Fis) → Frees (heard_fis own state sound fis)
  unfolding heard_fis
  fis_frees sound (view.RegD2H f) = register (field table.D2h table.Status f) (field table.D2h table.Error f) state.resetting
  fis_frees sound (view.SetBits f) = bits (field table.Bits table.Status f) (field table.Bits table.Error f) (field table.Bits table.SActive f) (is_error (field table.Bits table.Status f))
  fis_frees sound (view.DmaActivate f) = activate (may_activate own.context)
  fis_frees sound (view.DmaSetup f) =
      setup (dma_context (tag_of f) (field table.Setup table.Offset f) (field table.Setup table.Count f) (eqb (field table.Setup table.D f) 1) (eqb (field table.Setup table.A f) 1))
      (setup_fault (own_issue own (tag_of f)) (field table.Setup table.Offset f) (field table.Setup table.Count f) (eqb (field table.Setup table.D f) 1))
  fis_frees sound (view.PioSetup f) =
      pio (field table.Pio table.Status f) (field table.Pio table.Error f) (field table.Pio table.Transfer f) (eqb (field table.Pio table.D f) 1) (block_of f) (is_error (field table.Pio table.Status f))
      (is_some (sent_pio own)) (pio_fault (pio_issue own) (field table.Pio table.Transfer f) (eqb (field table.Pio table.D f) 1)) (out_setup own (field table.Pio table.Transfer f) (eqb (field table.Pio table.D f) 1))
  fis_frees sound (view.Payload f) = data_fis sound (length f - 4)
  fis_frees sound other = quiet

heard_frees : (n : ℕ) (v : DeviceView) (sound : Bool) (o : Option Fis) → IsOwn n v.slots → (s : ℕ) → s < 32
    → has_bit (heard n v sound o).done s ≡ becomes_free v.slots (moved (heard n v sound o).happening v.slots) s
heard_frees n v sound None is = quiet n v.slots v.state is
heard_frees n v sound (Some fis) is = fis_frees n v.slots v.state is sound fis

decided_frees : (n : ℕ) (v : DeviceView) (room : Room) (o : Option Fis) → IsOwn n v.slots → (s : ℕ) → s < 32
    → has_bit (decided n v room o).done s ≡ becomes_free v.slots (moved (decided n v room o).happening v.slots) s
decided_frees n v room o is s lt =
    decided_cases (λ (h : Heard). has_bit h.done s ≡ becomes_free v.slots (moved h.happening v.slots) s) n v o room (heard_frees n v false o is s lt) (heard_frees n v true o is s lt) (quiet n v.slots v.state is s lt)

-- ---- what the history says of them

-- the event completes what is issued in s, or there is none
abbrev completes_by : ℕ → Option Event → History → Transfer → Bool
completes_by s o past t = match_some o false (λ e. completes s e past t.work)

-- what is issued then did not complete
abbrev IsTaken : Option Event → History → Type 0
IsTaken o past = (s : ℕ) → issued s (with_event o past) ≡ match_some (issued s past) None (λ t. unless (completes_by s o past t) (Some t))

left_alone : (o : Option Transfer) → o ≡ match_some o None (λ t. unless false (Some t))
left_alone None = refl
left_alone (Some t) = refl

event_is_taken : (x : Happening) (block : Option Block) (payload : List ℕ) (past : History) → IsTaken (event_of x block payload) past
event_is_taken happening.Nothing block payload past s = left_alone (issued s past)
event_is_taken (happening.Answered (answer.Short slot)) block payload past s = left_alone (issued s past)
event_is_taken (happening.PioSetUp count to_host) None payload past s = left_alone (issued s past)
event_is_taken (happening.PioSetUp count to_host) (Some b) payload past s = refl
event_is_taken happening.Activated block payload past s = left_alone (issued s past)
event_is_taken other block payload past s = refl

same_some : (o : Option Transfer) (p : Option Issue) → option_map work_of_transfer o ≡ option_map work_of_issue p → is_some p ≡ is_some o
same_some None None e = refl
same_some (Some t) (Some i) e = refl
same_some None (Some i) e = cc
same_some (Some t) None e = cc

same_none : (o : Option Transfer) (p : Option Issue) → option_map work_of_transfer o ≡ option_map work_of_issue p → is_none p ≡ is_none o
same_none None None e = refl
same_none (Some t) (Some i) e = refl
same_none None (Some i) e = cc
same_none (Some t) None e = cc

gone : (o : Option Transfer) (test : Transfer → Bool) → (is_some o && is_none (match_some o None (λ t. unless (test t) (Some t)))) ≡ match_some o false test
gone None test = refl
gone (Some t) test = by_test (test t)
  where
    by_test : (b : Bool) → is_none (unless b (Some t)) ≡ b
    by_test true = refl
    by_test false = refl

-- slots that become free complete
free_completes : (own after : DeviceSlots) (ends ends2 : Option ℕ) (past : History) (o : Option Event) → Says own ends past → Says after ends2 (with_event o past) → IsTaken o past
    → (s : ℕ) → becomes_free own after s ≡ match_some (issued s past) false (completes_by s o past)
free_completes own after ends ends2 past o says later taken s =
    ap (λ b. b && is_none (own_issue after s)) (same_some (issued s past) (own_issue own s) (says.issued s))
    ∙ ap (λ b. is_some (issued s past) && b) (same_none (issued s (with_event o past)) (own_issue after s) (later.issued s) ∙ ap is_none (taken s))
    ∙ gone (issued s past) (completes_by s o past)

-- ---- a frame that is taken

never : (o : Option Transfer) → match_some o false (λ t. false) ≡ false
never None = refl
never (Some t) = refl

module _ (port : Port) (core : IsCore port) (frame : List ℕ) (framed : IsFrame frame) (room : Room) (report : TakeReport) (new : Port) (past : History) (told : IsTold (view_of (port_of frame) port) past)
    (does : Hearkens port frame room report new) where
  abbrev n : ℕ
  n = port_of frame

  abbrev v : DeviceView
  v = view_of n port

  abbrev h : Heard
  h = decided n v room (admitted n (seen frame))

  owns : IsOwn n v.slots
  owns = is_own n port.slots core.slots

  later : Says (moved h.happening v.slots) (option_map end_of h.state.block) (with_event (event_heard h (drop 4 frame)) past)
  later =
      let p = and_parts (nat_le 4 (length frame) && nat_le (length frame) 8196) (eqb (length frame % 4) 0) framed in
      let q = and_parts (nat_le 4 (length frame)) (nat_le (length frame) 8196) p.0 in
      decided_follows n v frame past owns (says_of v past told) (leb-true 4 (length frame) q.0) (eqb-true (length frame % 4) 0 p.1) room

  by_ignored : (b : Bool) → ignores n port frame ≡ b
      → (report.dev ≡ n) × ((s : ℕ) → s < 32 → has_bit report.done s ≡ match_some (issued s past) false (λ t. match_some (cond b None (event_heard h (drop 4 frame))) false (λ e. completes s e past t.work)))
  unfolding heard_report
  by_ignored true e =
      let r = (does.ignored e).reports in
      (ap (λ (x : TakeReport). x.dev) r, λ s lt. ap (λ (x : TakeReport). has_bit x.done s) r ∙ zero_has s ∙ sym (never (issued s past)))
  by_ignored false e =
      let r = (does.heard e).reports in (
        ap (λ (x : TakeReport). x.dev) r,
        λ s lt.
            ap (λ (x : TakeReport). has_bit x.done s) r ∙ decided_frees n v room (admitted n (seen frame)) owns s lt
            ∙ free_completes v.slots (moved h.happening v.slots) (option_map end_of v.state.block) (option_map end_of h.state.block) past (event_heard h (drop 4 frame)) (says_of v past told) later
            (event_is_taken h.happening h.state.block (drop 4 frame) past) s,
      )

  reports_done_by : ReportsDoneBy port room frame report past
  reports_done_by = let r = by_ignored (ignores n port frame) refl in record { own_device = r.0; done = r.1 }

-- a host's report is its core's
pub reports_done : (host : Host) → IsHost host → (frame : List ℕ) → IsFrame frame → (report : TakeReport) (new : Host) (past : History) → IsHistoryOf (port_of frame) host past → TakesFrame host frame report new
    → ReportsDone host frame report past
reports_done host sound frame framed report new past told does =
    let v : DeviceView = view_of (port_of frame) host.port in
    let readable : Bool = is_sound host.memory host.port.commands v.slots in
    let r = reports_done_by host.port (is_core host sound) frame framed (room_if readable) report new.port past told (hosts_are_cores host new (Took frame report) does) in
    record {
      own_device = r.own_device;
      done = λ s lt. r.done s lt ∙ ap (λ (o : Option Event). match_some (issued s past) false (completes_by s o past)) (event_by_is host frame);
    }

-- ---- after lists of events

last_host : (old new : Host) (events : List HostEvent) (run : Runs old events new) → AreHosts old new events run → IsHost new
last_host old new [] run hosts = subst IsHost (sym run) hosts
last_host old new (event ∷ events) run hosts = last_host run.0 new events run.2 hosts.1

pub last_core : (old new : Port) (events : List CoreEvent) (run : RunsBy old events new) → AreCores old new events run → IsCore new
last_core old new [] run cores = subst IsCore (sym run) cores
last_core old new (event ∷ events) run cores = last_core run.0 new events run.2 cores.1

pub below_16 : (n : ℕ) → n % 16 < 16
below_16 n = omega arith

pub core_done_is_completed : CoreDoneIsCompleted
core_done_is_completed old port new events run runs frame room report past framed told does =
    reports_done_by port (last_core old port events run runs.cores) frame framed room report new (history_through (port_of frame) past old port events run)
    (core_views_are_told (port_of frame) (below_16 (slice_index frame 1)) old port events run runs past told) does

pub done_is_completed : DoneIsCompleted
done_is_completed old host new events run sound frame report past framed told does =
    reports_done host (last_host old host events run sound.hosts) frame framed report new (history_after (port_of frame) past old host events run)
    (views_are_told (port_of frame) (below_16 (slice_index frame 1)) old host events run sound past told) does

-- ---- a port that opens

pub core_opens_untold : CoreOpensUntold
core_opens_untold n = opens_told n

pub opens_untold : OpensUntold
opens_untold n memory = core_opens_untold n
