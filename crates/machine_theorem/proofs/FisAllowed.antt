-- A FIS of a device that is heard, with a fault or without, is in the history of the device an event that its slots allow.
use Rattle.std.proofs.Common.{◌≡◌, ◌⊎◌, ℕ, ◌-◌, Bool, true, false, List, length, refl, sym, ap, subst, inl, inr, Option, Some, None}
use Rattle.std.proofs.lemmas.Bool.{and_parts}
use Rattle.std.specs.Prelude.{◌==◌, IfSome, MatchOption, is_some, not, nat_lt, if◌then◌else◌, Result, Ok, Err}
use Rattle.fis_view.specs.Table as table
use Rattle.fis_view.specs.{Table.field, declared.view.{Fis.Fis, FisFault.FisFault}}
use Rattle.fis_view.specs.declared.view.Fis.TheVariants as view
use Rattle.slots.specs.{Commands.{answer_of, completed}, Data.{after_arrive, may_activate}, Setup.{came, context_or, dma_context, is_outstanding}}
use Rattle.slots.specs.{Setup.{out_context, out_fault, out_setup, pio_fault, pio_issue, setup_fault, transfer_fault}, Slots.{DeviceSlots, Issue}}
use Rattle.slots.specs.{Slots.{is_queued_issue, match_some, own_issue, sent_out, sent_pio}, declared.answer.SetupError.SetupError}
use Rattle.slots.specs.declared.{answer.SetupError.TheVariants.NotOutstanding, table.Context.Context}
use Rattle.slots.specs.declared.answer.Answered as answered_type
use Rattle.slots.specs.declared.answer.Answered.TheVariants as answer
use Rattle.hba_fbs.specs.{Deciding.{decided, heard_within, is_past}, Hearing.{answered, block_of, bus_failed, faulty, heard_bytes, heard_data_of}}
use Rattle.hba_fbs.specs.{Hearing.{heard_fis, heard_out, is_admitted, named, overflowed, quietly, set_up, signing, tag_of}, Status.after_reset}
use Rattle.hba_fbs.specs.{Status.{is_busy, is_error, with_bits, with_file}, Taking.admitted, Views.DeviceView, declared.report.Wrote.Wrote}
use Rattle.hba_fbs.specs.declared.{hearing.Heard.Heard, room.Room.{Room, TheVariants.{Bytes, NoTable, Whole}}, state.DeviceState.DeviceState}
use Rattle.hba_fbs.specs.declared.status.Block.{Block}
use Rattle.port_errors.specs.declared.cause.DeviceCause.TheVariants as cause
use Rattle.hba_fbs.specs.declared.hearing.Happening.TheVariants as happening
use Rattle.hba_laws.specs.{Delivering.{event_heard, event_of_answer}, History.Event}
use Rattle.hba_laws.specs.History as history

-- a setup is of a queued command, or for the bytes behind those that came; and Data come where they are set up to the host
abbrev pub IsAllowed : DeviceView → Event → Type 0
IsAllowed v (history.SetUp tag offset count to_host) = MatchOption (own_issue v.slots tag) ⊥ (λ i. (is_queued_issue i ≡ true) ⊎ (offset ≡ came i))
IsAllowed v (history.PioSetUp count to_host ends) = Unit {0}
IsAllowed v (history.Carried bytes) = MatchOption v.slots.context ⊥ (λ c. c.to_host ≡ true)
IsAllowed v history.Answered = Unit {0}
IsAllowed v (history.Named mask) = Unit {0}
IsAllowed v e = ⊥

module _ (v : DeviceView) (bytes : List ℕ) where
  abbrev Is : Heard → Type 0
  Is h = IfSome (event_heard h bytes) (IsAllowed v)

  -- ---- DMA Setup

  setup_by : (tag offset count : ℕ) (to_host auto : Bool) (state : DeviceState) (i : Issue) → own_issue v.slots tag ≡ Some i → (b : Bool) → is_outstanding i ≡ b → (o : Option SetupError)
      → Is (set_up (if b then o else Some NotOutstanding) state None (happening.SetUp (dma_context tag offset count to_host auto)))
  setup_by tag offset count to_host auto state i there true out None =
      subst (λ (x : Option Issue). MatchOption x ⊥ (λ j. (is_queued_issue j ≡ true) ⊎ (offset ≡ came j))) (sym there) (inl (and_parts (is_queued_issue i) i.answered out).0)
  setup_by tag offset count to_host auto state i there true out (Some e) = tt
  setup_by tag offset count to_host auto state i there false out o = tt

  setup_is : (tag offset count : ℕ) (to_host auto : Bool) (state : DeviceState) (o : Option Issue) → own_issue v.slots tag ≡ o
      → Is (set_up (setup_fault o offset count to_host) state None (happening.SetUp (dma_context tag offset count to_host auto)))
  setup_is tag offset count to_host auto state None there = tt
  setup_is tag offset count to_host auto state (Some i) there = setup_by tag offset count to_host auto state i there (is_outstanding i) refl (transfer_fault i offset count to_host)

  -- ---- PIO Setup

  abbrev IsBehind : Context → Type 0
  IsBehind c = MatchOption (own_issue v.slots c.slot) ⊥ (λ i. (is_queued_issue i ≡ true) ⊎ (c.next ≡ came i))

  context_is : (o : Option SetupError) (d c : Context) → context_or o d ≡ Ok c → d ≡ c
  context_is None d c e = ap (λ (r : Result Context SetupError). context_in d r) e
    where
      context_in : Context → Result Context SetupError → Context
      context_in d (Ok x) = x
      context_in d (Err e) = d
  context_is (Some x) d c e = absurd (cc)

  issue_behind : (slot count : ℕ) (to_host : Bool) (c : Context) (o : Option Issue) → own_issue v.slots slot ≡ o → match_some o (Err NotOutstanding) (out_context slot count to_host) ≡ Ok c
      → IsBehind c
  issue_behind slot count to_host c None there e = absurd (cc)
  issue_behind slot count to_host c (Some i) there e =
      subst IsBehind (context_is (out_fault count to_host i) (dma_context slot (came i) count false true) c e)
      (subst (λ (x : Option Issue). MatchOption x ⊥ (λ j. (is_queued_issue j ≡ true) ⊎ (came i ≡ came j))) (sym there) (inr refl))

  slot_behind : (count : ℕ) (to_host : Bool) (c : Context) (o : Option ℕ)
      → match_some o (Err NotOutstanding) (λ slot. match_some (own_issue v.slots slot) (Err NotOutstanding) (out_context slot count to_host)) ≡ Ok c → IsBehind c
  slot_behind count to_host c None e = absurd (cc)
  slot_behind count to_host c (Some slot) e = issue_behind slot count to_host c (own_issue v.slots slot) refl e

  out_is : (r : Result Context SetupError) (state : DeviceState) (block : Block) → ((c : Context) → r ≡ Ok c → IsBehind c) → Is (heard_out state block r)
  out_is (Err e) state block behind = tt
  out_is (Ok c) state block behind = behind c refl

  block_is : (o : Option SetupError) (state : DeviceState) (block : Block) (count : ℕ) (to_host : Bool) → Is (set_up o state (Some block) (happening.PioSetUp count to_host))
  block_is None state block count to_host = tt
  block_is (Some e) state block count to_host = tt

  pio_is : (state : DeviceState) (status error count : ℕ) (to_host : Bool) (block : Block) (wrong some : Bool)
      → Is (if wrong then faulty (with_file state status error) cause.TaskFile else if some
      then set_up (pio_fault (pio_issue v.slots) count to_host) (with_file state status error) (Some block) (happening.PioSetUp count to_host)
      else heard_out (with_file state status error) block (out_setup v.slots count to_host))
  pio_is state status error count to_host block true some = tt
  pio_is state status error count to_host block false true = block_is (pio_fault (pio_issue v.slots) count to_host) (with_file state status error) block count to_host
  pio_is state status error count to_host block false false =
      out_is (out_setup v.slots count to_host) (with_file state status error) block (λ c e. slot_behind count to_host c (sent_out v.slots) e)

  -- ---- Data

  comes : (c : Context) → v.slots.context ≡ Some c → c.to_host ≡ true → MatchOption v.slots.context ⊥ (λ x. x.to_host ≡ true)
  comes c set inward = subst (λ (o : Option Context). MatchOption o ⊥ (λ x. x.to_host ≡ true)) (sym set) inward

  last_is : (c : Context) → v.slots.context ≡ Some c → c.to_host ≡ true → (own : DeviceSlots) (state : DeviceState) (wrote : Wrote) (o : Option Block) (last : Bool)
      → Is (heard_bytes own state wrote o last)
  last_is c set inward own state wrote None last = comes c set inward
  last_is c set inward own state wrote (Some block) true = comes c set inward
  last_is c set inward own state wrote (Some block) false = comes c set inward

  data_by : (state : DeviceState) (c : Context) (count : ℕ) → v.slots.context ≡ Some c → (inward lost over last : Bool) → c.to_host ≡ inward
      → Is (if not inward then faulty state cause.Stray else if lost then bus_failed state else if over then overflowed state
      else heard_bytes (after_arrive v.slots count) state (record { slot = c.slot; offset = c.next; len = count }) state.block last)
  data_by state c count set false lost over last way = tt
  data_by state c count set true true over last way = tt
  data_by state c count set true false true last way = tt
  data_by state c count set true false false last way = last_is c set way (after_arrive v.slots count) state (record { slot = c.slot; offset = c.next; len = count }) state.block last

  data_is : (state : DeviceState) (sound : Bool) (count : ℕ) (o : Option Context) → v.slots.context ≡ o
      → Is (match_some o (faulty state cause.Stray) (heard_data_of v.slots state sound count))
  data_is state sound count None set = tt
  data_is state sound count (Some c) set = data_by state c count set c.to_host (not sound) (nat_lt c.left count) (c.left == count) refl

  -- ---- all others

  answer_is : (a : answered_type.Answered) → IfSome (event_of_answer a) (IsAllowed v)
  answer_is (answer.Short slot) = tt
  answer_is answer.Nobody = tt
  answer_is (answer.Queued slot) = tt
  answer_is (answer.Done slot) = tt

  register_is : (f : List ℕ) (state : DeviceState) (status error : ℕ) (r e b : Bool)
      → Is (signing f (if r then quietly (after_reset state status error) happening.Nothing else if e then faulty (with_file state status error) cause.TaskFile
      else if b then quietly (with_file state status error) happening.Nothing else answered (answer_of v.slots) (with_file state status error)))
  register_is f state status error true e b = tt
  register_is f state status error false true b = tt
  register_is f state status error false false true = tt
  register_is f state status error false false false = answer_is (answer_of v.slots)

  bits_is : (state : DeviceState) (status error mask : ℕ) (e : Bool)
      → Is (if e then faulty (with_bits state status error) cause.TaskFile else named (completed mask v.slots) (with_bits state status error) mask)
  bits_is state status error mask true = tt
  bits_is state status error mask false = tt

  activate_is : (state : DeviceState) (b : Bool) → Is (if b then quietly state happening.Activated else faulty state cause.Stray)
  activate_is state true = tt
  activate_is state false = tt

  fis_is : (state : DeviceState) (sound : Bool) (fis : Fis) → Is (heard_fis v.slots state sound fis)
  unfolding heard_fis
  fis_is state sound (view.RegH2D f) = tt
  fis_is state sound (view.RegD2H f) =
      register_is f state (field table.D2h table.Status f) (field table.D2h table.Error f) state.resetting (is_error (field table.D2h table.Status f)) (is_busy (field table.D2h table.Status f))
  fis_is state sound (view.SetBits f) =
      bits_is state (field table.Bits table.Status f) (field table.Bits table.Error f) (field table.Bits table.SActive f) (is_error (field table.Bits table.Status f))
  fis_is state sound (view.DmaActivate f) = activate_is state (may_activate v.slots.context)
  fis_is state sound (view.DmaSetup f) =
      setup_is (tag_of f) (field table.Setup table.Offset f) (field table.Setup table.Count f) (field table.Setup table.D f == 1) (field table.Setup table.A f == 1) state
      (own_issue v.slots (tag_of f)) refl
  fis_is state sound (view.PioSetup f) =
      pio_is state (field table.Pio table.Status f) (field table.Pio table.Error f) (field table.Pio table.Transfer f) (field table.Pio table.D f == 1) (block_of f)
      (is_error (field table.Pio table.Status f)) (is_some (sent_pio v.slots))
  fis_is state sound (view.Payload f) = data_is state sound (length f - 4) v.slots.context refl
  fis_is state sound (view.Unknown f) = tt

  within_by : (state : DeviceState) (fis : Fis) (b : Bool) → Is (if b then overflowed state else heard_fis v.slots state true fis)
  within_by state fis true = tt
  within_by state fis false = fis_is state true fis

  within_is : (state : DeviceState) (room : Room) (fis : Fis) → Is (heard_within v.slots state room fis)
  unfolding heard_within
  within_is state NoTable fis = fis_is state false fis
  within_is state (Bytes total) fis = within_by state fis (is_past total v.slots.context fis)
  within_is state Whole fis = fis_is state true fis

  admitted_is : (dev : ℕ) (room : Room) (fis : Fis) (b : Bool) → Is (decided dev v room (if b then Some fis else None))
  admitted_is dev room fis true = within_is v.state room fis
  admitted_is dev room fis false = tt

  pub frame_allowed : (dev : ℕ) (room : Room) (r : Result Fis FisFault) → IfSome (event_heard (decided dev v room (admitted dev r)) bytes) (IsAllowed v)
  frame_allowed dev room (Err f) = tt
  frame_allowed dev room (Ok fis) = admitted_is dev room fis (is_admitted dev fis)
