-- For `delivers`. What a device's part of the slots says after a FIS that is heard.
use Rattle.std.proofs.Common.{◌≡◌, ℕ, ◌-◌, ◌%◌, ◌≤◌, Bool, true, false, cond, eqb, List, ◌∷◌, drop, length, refl, sym, ap, subst, ◌∙◌, Option, Some}
use Rattle.std.proofs.{Common.{None, arith, length-drop}, lemmas.Bool.{false≢true, ltb-false}}
use Rattle.std.specs.{Prelude.{if◌then◌else◌, is_ok, is_some, ◌&&◌, not, nat_lt, Result, Ok, Err}, Option.option_map}
use Rattle.fis_view.specs.{Seen.{kind_of, may_have, seen, view_as}, Table.{Kind, H2d, D2h, Activate, Setup, Data, Pio, Bits, Other, field}}
use Rattle.fis_view.specs.declared.view.{Fis.Fis, FisFault.{FisFault, TheVariants.WrongLength}}
use Rattle.fis_view.specs.Table as table
use Rattle.fis_view.specs.declared.view.Fis.TheVariants as view
use Rattle.port_errors.specs.declared.cause.DeviceCause.TheVariants as cause
use Rattle.slots.specs.{Commands.{answer_for, answer_of, answered_as, completed}, Data.{activated, after_arrive, arrive_answer, gone_over}}
use Rattle.slots.specs.{Data.may_activate, Setup.{dma_context, out_setup, pio_fault, pio_issue, setup_fault}, Work.needs_all, Slots.DeviceSlots}
use Rattle.slots.specs.Slots.{Issue, holds, is_queued_issue, is_waiting, is_whole_issue, match_some, own_issue, sent_pio, waiting}
use Rattle.slots.specs.declared.{answer.{Answered.Answered, SetupError.SetupError}, table.Context.Context}
use Rattle.slots.specs.declared.answer.Answered.TheVariants as answer
use Rattle.slots.proofs.Door.{lowest_is}
use Rattle.hba_fbs.specs.declared.{hearing.Heard.Heard, report.Wrote.Wrote, room.Room.{Room, TheVariants.{Bytes, NoTable, Whole}}}
use Rattle.hba_fbs.specs.{declared.{state.DeviceState.DeviceState, status.Block.Block}, Deciding.{decided, heard_within, is_past}, Hearing.answered}
use Rattle.hba_fbs.specs.Hearing.{block_ended, block_of, bus_failed, faulty, heard_bytes, heard_d2h, heard_data, heard_data_of, heard_fis, heard_out}
use Rattle.hba_fbs.specs.{Hearing.{heard_setup, is_admitted, moved, named, overflowed, quietly, set_up, tag_of}, Status.{after_reset, is_busy}}
use Rattle.hba_fbs.specs.{Status.{is_error, is_quiet, with_bits, with_file}, Taking.{admitted, heard}, Views.DeviceView}
use Rattle.hba_fbs.specs.declared.hearing.Happening.TheVariants as happening
use Rattle.hba_laws.specs.{Agreement.end_of, Delivering.{event_heard, event_of_answer}, History.{Event, History}, Between.IsOwn}
use Rattle.hba_laws.proofs.histories.{AgreeLemmas.agrees_activated, DataLemmas.{ends_block, says_block}, StepLemmas.{Says, says_done, says_named}}
use Rattle.hba_laws.proofs.histories.{StepLemmas.{says_nobody, says_out, says_pio, says_queued, says_set_up}, ViewLemmas.held}

abbrev pub with_event : Option Event → History → History
with_event None past = past
with_event (Some e) past = e ∷ past

-- the part after it is heard says the history with its event
abbrev pub Follows : DeviceSlots → List ℕ → History → Heard → Type 0
Follows own payload past h = Says (moved h.happening own) (option_map end_of h.state.block) (with_event (event_heard h payload) past)

module _ (n : ℕ) (own : DeviceSlots) (state : DeviceState) (payload : List ℕ) (past : History) (is : IsOwn n own) (says : Says own (option_map end_of state.block) past) where
  abbrev ends : Option ℕ
  ends = option_map end_of state.block

  -- ---- answers

  abbrev Answers : Answered → Type 0
  Answers a = Says (answered_as a own) ends (with_event (event_of_answer a) past)

  by_kind : (slot : ℕ) (j : Issue) → own_issue own slot ≡ Some j → is_waiting j ≡ true → (q short : Bool) → is_queued_issue j ≡ q → (needs_all j.work.kind && not (is_whole_issue j)) ≡ short
      → Answers (cond q (answer.Queued slot) (cond short (answer.Short slot) (answer.Done slot)))
  by_kind slot j at waits true short queued e = says_queued n own ends past is says slot j at waits queued
  by_kind slot j at waits false true queued e = says
  by_kind slot j at waits false false queued e = says_done n own ends past is says slot j at waits queued e

  by_waiting : (o : Option ℕ) → waiting own ≡ o → Answers (match_some o answer.Nobody (λ slot. match_some (own_issue own slot) answer.Nobody (answer_for slot)))
  by_waiting None e = says_nobody n own ends past is says e
  by_waiting (Some slot) e =
      let low = lowest_is (λ k. holds is_waiting (own_issue own k)) 32 slot e in
      let p = held is_waiting (own_issue own slot) low.passes in
      subst (λ (o : Option Issue). Answers (match_some o answer.Nobody (answer_for slot))) (sym p.1)
      (by_kind slot p.0 p.1 p.2 (is_queued_issue p.0) (needs_all p.0.work.kind && not (is_whole_issue p.0)) refl refl)

  d2h : (status error : ℕ) (e b : Bool)
      → Follows own payload past (cond e (faulty (with_file state status error) cause.TaskFile) (cond b (quietly (with_file state status error) happening.Nothing) (answered (answer_of own) (with_file state status error))))
  d2h status error true b = says
  d2h status error false true = says
  d2h status error false false = by_waiting (waiting own) refl

  register : (status error : ℕ) (resetting : Bool) → Follows own payload past (cond resetting (quietly (after_reset state status error) happening.Nothing) (heard_d2h own state status error))
  register status error true = says
  register status error false = d2h status error (is_error status) (is_busy status)

  bits : (status error mask : ℕ) (e : Bool)
      → Follows own payload past (cond e (faulty (with_bits state status error) cause.TaskFile) (named (completed mask own) (with_bits state status error) mask))
  bits status error mask true = says
  bits status error mask false = says_named n own ends past is says mask

  -- ---- setups

  setup : (tag offset count : ℕ) (to_host auto : Bool) → Follows own payload past (heard_setup own state tag offset count to_host auto)
  setup tag offset count to_host auto = by_fault (setup_fault (own_issue own tag) offset count to_host) refl
    where
      by_fault : (o : Option SetupError) → setup_fault (own_issue own tag) offset count to_host ≡ o
          → Follows own payload past (set_up o state None (happening.SetUp (dma_context tag offset count to_host auto)))
      by_fault None e = says_set_up n own ends past is says tag offset count to_host auto e
      by_fault (Some fault) e = says

  pio : (status error count : ℕ) (to_host : Bool) (block : Block) (e : Bool)
      → Follows own payload past (cond e (faulty (with_file state status error) cause.TaskFile) (cond (is_some (sent_pio own)) (set_up (pio_fault (pio_issue own) count to_host) (with_file state status error) (Some block) (happening.PioSetUp count to_host)) (heard_out (with_file state status error) block (out_setup own count to_host))))
  pio status error count to_host block true = says
  pio status error count to_host block false = by_sent (is_some (sent_pio own))
    where
      by_out : (r : Result Context SetupError) → out_setup own count to_host ≡ r → Follows own payload past (heard_out (with_file state status error) block r)
      by_out (Ok c) e = says_out n own ends past is says count to_host c e
      by_out (Err x) e = says

      by_fault : (o : Option SetupError) → pio_fault (pio_issue own) count to_host ≡ o
          → Follows own payload past (set_up o (with_file state status error) (Some block) (happening.PioSetUp count to_host))
      by_fault None e = says_pio n own ends past is says count to_host block.ends e
      by_fault (Some fault) e = says

      by_sent : (b : Bool) → Follows own payload past (cond b (set_up (pio_fault (pio_issue own) count to_host) (with_file state status error) (Some block) (happening.PioSetUp count to_host)) (heard_out (with_file state status error) block (out_setup own count to_host)))
      by_sent true = by_fault (pio_fault (pio_issue own) count to_host) refl
      by_sent false = by_out (out_setup own count to_host) refl

  -- ---- DMA Activate

  activate : (b : Bool) → may_activate own.context ≡ b → Follows own payload past (cond b (quietly state happening.Activated) (faulty state cause.Stray))
  activate false e = says
  activate true e =
      subst (λ (b : Bool). let next : DeviceSlots = cond b (record own { context = option_map activated own.context }) own in Says next ends past) (sym e) (by_context own.context refl)
    where
      by_context : (o : Option Context) → own.context ≡ o → let next : DeviceSlots = record own { context = option_map activated o } in Says next ends past
      by_context None now = absurd (false≢true (sym (ap may_activate now) ∙ e))
      by_context (Some c) now = record {
        issued = says.issued;
        agrees = agrees_activated (own_issue own) own.context ends past says.agrees c (activated c) now refl refl refl refl;
      }

  -- ---- Data

  arrives : (c : Context) → own.context ≡ Some c → c.to_host ≡ true → nat_lt c.left (length payload) ≡ false → after_arrive own (length payload) ≡ gone_over (length payload) c own
  arrives c now host fits =
      ap (λ o. match_some o own (λ d. cond (is_ok (arrive_answer own.context (length payload))) (gone_over (length payload) d own) own)) now
      ∙ ap (λ o. cond (is_ok (arrive_answer o (length payload))) (gone_over (length payload) c own) own) now
      ∙ rw (host, fits) refl

  module _ (c : Context) (now : own.context ≡ Some c) (whole_dword : length payload % 4 ≡ 0) (wrote : Wrote) (len_is : wrote.len ≡ length payload) where
    block_says : (finishes : Bool) → c.to_host ≡ true → nat_lt c.left (length payload) ≡ false → finishes ≡ ends_block ends (eqb c.left (length payload))
        → Says (block_ended finishes (after_arrive own wrote.len)) ends (with_event (event_heard (record { state = state; happening = happening.Carried wrote finishes; fault = None; done = 0; pss = false }) payload) past)
    block_says finishes host fits e =
        subst (λ (o : DeviceSlots). Says (block_ended finishes o) ends (with_event (event_heard (record { state = state; happening = happening.Carried wrote finishes; fault = None; done = 0; pss = false }) payload) past))
        (sym (ap (after_arrive own) len_is ∙ arrives c now host fits))
        (says_block n own ends past is says c now payload whole_dword (ltb-false c.left (length payload) fits) finishes e)

    by_block : c.to_host ≡ true → nat_lt c.left (length payload) ≡ false → (o : Option Block) → state.block ≡ o → (last : Bool) → eqb c.left (length payload) ≡ last
        → Follows own payload past (heard_bytes (after_arrive own (length payload)) state wrote o last)
    by_block host fits None block last is_last = block_says false host fits (sym (ap (λ o. ends_block (option_map end_of o) (eqb c.left (length payload))) block ∙ none (eqb c.left (length payload))))
      where
        none : (b : Bool) → ends_block None b ≡ false
        none true = refl
        none false = refl
    by_block host fits (Some b) block true is_last =
        block_says (is_quiet b.ends) host fits (sym (ap (λ o. ends_block (option_map end_of o) (eqb c.left (length payload))) block ∙ ap (ends_block (Some b.ends)) is_last))
    by_block host fits (Some b) block false is_last =
        block_says false host fits (sym (ap (λ o. ends_block (option_map end_of o) (eqb c.left (length payload))) block ∙ ap (ends_block (Some b.ends)) is_last))

  data_of : length payload % 4 ≡ 0 → (c : Context) → own.context ≡ Some c → (sound host over : Bool) → c.to_host ≡ host → nat_lt c.left (length payload) ≡ over
      → Follows own payload past (cond (not host) (faulty state cause.Stray) (cond (not sound) (bus_failed state) (cond over (overflowed state)
      (heard_bytes (after_arrive own (length payload)) state (record { slot = c.slot; offset = c.next; len = length payload }) state.block (eqb c.left (length payload))))))
  data_of dwords c now sound false over h o = says
  data_of dwords c now false true over h o = says
  data_of dwords c now true true true h o = says
  data_of dwords c now true true false h o =
      by_block c now dwords (record { slot = c.slot; offset = c.next; len = length payload }) refl h o state.block refl (eqb c.left (length payload)) refl

  data_fis : length payload % 4 ≡ 0 → (sound : Bool) → Follows own payload past (heard_data own state sound (length payload))
  data_fis dwords sound = by_context own.context refl
    where
      by_context : (o : Option Context) → own.context ≡ o → Follows own payload past (match_some o (faulty state cause.Stray) (heard_data_of own state sound (length payload)))
      by_context None now = says
      by_context (Some c) now = data_of dwords c now sound c.to_host (nat_lt c.left (length payload)) refl refl

  -- ---- all of them

  pub fis_follows : (sound : Bool) (fis : Fis) → ((f : List ℕ) → fis ≡ view.Payload f → (length f - 4 ≡ length payload) × (length payload % 4 ≡ 0)) → Follows own payload past (heard_fis own state sound fis)
  unfolding heard_fis
  fis_follows sound (view.RegD2H f) is_data = register (field table.D2h table.Status f) (field table.D2h table.Error f) state.resetting
  fis_follows sound (view.SetBits f) is_data = bits (field table.Bits table.Status f) (field table.Bits table.Error f) (field table.Bits table.SActive f) (is_error (field table.Bits table.Status f))
  fis_follows sound (view.DmaActivate f) is_data = activate (may_activate own.context) refl
  fis_follows sound (view.DmaSetup f) is_data = setup (tag_of f) (field table.Setup table.Offset f) (field table.Setup table.Count f) (eqb (field table.Setup table.D f) 1) (eqb (field table.Setup table.A f) 1)
  fis_follows sound (view.PioSetup f) is_data =
      pio (field table.Pio table.Status f) (field table.Pio table.Error f) (field table.Pio table.Transfer f) (eqb (field table.Pio table.D f) 1) (block_of f) (is_error (field table.Pio table.Status f))
  fis_follows sound (view.Payload f) is_data =
      let p = is_data f refl in
      subst (λ (len : ℕ). Follows own payload past (heard_data own state sound len)) (sym p.0) (data_fis p.1 sound)
  fis_follows sound other is_data = says

-- ---- the FIS of a frame

-- a view of Data shows the frame
payload_by : (kind : Kind) (b : Bool) (f g : List ℕ) → may_have kind (length f) ≡ b → cond b (Ok (view_as kind f)) (Err WrongLength) ≡ Ok (view.Payload g) → g ≡ f
payload_by kind false f g e h = cc
payload_by Data true f g e h = cc
payload_by other true f g e h = cc

pub payload_is : (f g : List ℕ) → seen f ≡ Ok (view.Payload g) → g ≡ f
unfolding seen
payload_is f g h = payload_by (kind_of f) (may_have (kind_of f) (length f)) f g refl h

pub heard_follows : (n : ℕ) (v : DeviceView) (frame : List ℕ) (past : History) → IsOwn n v.slots → Says v.slots (option_map end_of v.state.block) past → 4 ≤ length frame → length frame % 4 ≡ 0 → (sound : Bool)
    → Follows v.slots (drop 4 frame) past (heard n v sound (admitted n (seen frame)))
heard_follows n v frame past is says long dwords sound = by_seen (seen frame) refl
  where
    len_of : (f : List ℕ) → seen frame ≡ Ok (view.Payload f) → (length f - 4 ≡ length (drop 4 frame)) × (length (drop 4 frame) % 4 ≡ 0)
    len_of f e =
        let short = length-drop 4 frame in
        (ap (λ (g : List ℕ). length g - 4) (payload_is frame f e) ∙ sym short, omega (arith, short, long, dwords))

    by_test : (fis : Fis) → seen frame ≡ Ok fis → (b : Bool) → Follows v.slots (drop 4 frame) past (heard n v sound (cond b (Some fis) None))
    by_test fis e false = says
    by_test fis e true = fis_follows n v.slots v.state (drop 4 frame) past is says sound fis (λ f same. len_of f (e ∙ ap Ok same))

    by_seen : (r : Result Fis FisFault) → seen frame ≡ r → Follows v.slots (drop 4 frame) past (heard n v sound (admitted n r))
    by_seen (Err fault) e = says
    by_seen (Ok fis) e = by_test fis e (is_admitted n fis)

-- what a FIS means for a table of some room is what it means for one that can be used or not, or an overflow
pub decided_cases : (P : Heard → Type 0) (n : ℕ) (v : DeviceView) (fis : Option Fis) (room : Room) → P (heard n v false fis) → P (heard n v true fis) → P (overflowed v.state) → P (decided n v room fis)
unfolding heard_within
decided_cases P n v None room bad sound over = bad
decided_cases P n v (Some fis) NoTable bad sound over = bad
decided_cases P n v (Some fis) Whole bad sound over = sound
decided_cases P n v (Some fis) (Bytes total) bad sound over = by_test (is_past total v.slots.context fis)
  where
    by_test : (b : Bool) → P (if b then overflowed v.state else heard_fis v.slots v.state true fis)
    by_test true = over
    by_test false = sound

pub decided_follows : (n : ℕ) (v : DeviceView) (frame : List ℕ) (past : History) → IsOwn n v.slots → Says v.slots (option_map end_of v.state.block) past → 4 ≤ length frame → length frame % 4 ≡ 0 → (room : Room)
    → Follows v.slots (drop 4 frame) past (decided n v room (admitted n (seen frame)))
decided_follows n v frame past is says long dwords room =
    decided_cases (Follows v.slots (drop 4 frame) past) n v (admitted n (seen frame)) room (heard_follows n v frame past is says long dwords false) (heard_follows n v frame past is says long dwords true) says
