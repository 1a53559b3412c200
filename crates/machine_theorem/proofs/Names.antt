-- Slots are named by a Set Device Bits FIS, and by no other.
use Rattle.std.proofs.Common.{◌≡◌, ℕ, ◌-◌, Bool, true, false, cond, eqb, List, [], length, drop, refl, sym, ap, subst, ◌∙◌, Option, Some, None}
use Rattle.std.specs.Prelude.{◌==◌, is_some, nat_lt, not, if◌then◌else◌, Result, Ok, Err}
use Rattle.fis_view.specs.{Seen.{frame_of, kind_of, may_have, seen, view_as}, Table.{Kind, field}, declared.view.{Fis.Fis, FisFault.FisFault}}
use Rattle.fis_view.specs.declared.view.FisFault.TheVariants.{WrongLength}
use Rattle.fis_view.specs.Table as table
use Rattle.fis_view.specs.declared.view.Fis.TheVariants as view
use Rattle.port_errors.specs.declared.cause.DeviceCause.TheVariants as cause
use Rattle.slots.specs.{Commands.{answer_of, completed}, Data.{after_arrive, may_activate}, Setup.{dma_context, out_setup, pio_fault, pio_issue}}
use Rattle.slots.specs.{Setup.setup_fault, Slots.{DeviceSlots, match_some, own_issue, sent_pio}, declared.answer.Answered.Answered}
use Rattle.slots.specs.declared.{answer.SetupError.SetupError, table.Context.Context}
use Rattle.slots.specs.declared.answer.Answered.TheVariants as answer
use Rattle.hba_fbs.specs.{Deciding.{decided, heard_within, is_past}, Hearing.{answered, block_of, bus_failed, faulty, heard_bytes, heard_d2h}}
use Rattle.hba_fbs.specs.{Hearing.{heard_data_of, heard_fis, heard_out, is_admitted, named, overflowed, quietly, set_up, tag_of}, Status.after_reset}
use Rattle.hba_fbs.specs.{Status.{is_busy, is_error, with_bits, with_file}, Taking.{admitted, ignores, port_of}, Views.{DeviceView, Port, view_of}}
use Rattle.hba_fbs.specs.declared.{hearing.{Happening.Happening, Heard.Heard}, report.Wrote.Wrote, room.Room.{Room, TheVariants.{Bytes, NoTable}}}
use Rattle.hba_fbs.specs.declared.{room.Room.TheVariants.Whole, state.DeviceState.DeviceState, status.Block.Block}
use Rattle.hba_fbs.specs.declared.hearing.Happening.TheVariants as happening
use Rattle.hba_laws.specs.{CoreHistories.event_by, Delivering.{event_heard, event_of, event_of_answer, event_of_block}, History.Event}
use Rattle.hba_laws.specs.History as event

-- it names no slot
abbrev NamesNone : Happening → Type 0
NamesNone (happening.Named mask) = ⊥
NamesNone other = Unit {0}

abbrev None' : Heard → Type 0
None' h = NamesNone h.happening

-- it is a Set Device Bits FIS, with this mask
abbrev IsBits : Option Fis → ℕ → Type 0
IsBits (Some (view.SetBits f)) mask = mask ≡ field table.Bits table.SActive f
IsBits other mask = ⊥

abbrev Names : Option Fis → Happening → Type 0
Names fis (happening.Named mask) = IsBits fis mask
Names fis other = Unit {0}

none_names : (fis : Option Fis) (h : Happening) → NamesNone h → Names fis h
none_names fis (happening.Named mask) none = absurd none
none_names fis other none = tt

module _ (own : DeviceSlots) (state : DeviceState) where
  d2h : (status error : ℕ) (e b : Bool)
      → None' (cond e (faulty (with_file state status error) cause.TaskFile) (cond b (quietly (with_file state status error) happening.Nothing) (answered (answer_of own) (with_file state status error))))
  d2h status error true b = tt
  d2h status error false true = tt
  d2h status error false false = tt

  register : (status error : ℕ) (resetting : Bool) → None' (cond resetting (quietly (after_reset state status error) happening.Nothing) (heard_d2h own state status error))
  register status error true = tt
  register status error false = d2h status error (is_error status) (is_busy status)

  setup : (c : Context) (o : Option SetupError) → None' (set_up o state None (happening.SetUp c))
  setup c None = tt
  setup c (Some e) = tt

  pio : (status error count : ℕ) (to_host : Bool) (block : Block) (e b : Bool) (o : Option SetupError) (r : Result Context SetupError)
      → None' (cond e (faulty (with_file state status error) cause.TaskFile) (cond b (set_up o (with_file state status error) (Some block) (happening.PioSetUp count to_host)) (heard_out (with_file state status error) block r)))
  pio status error count to_host block true b o r = tt
  pio status error count to_host block false true None r = tt
  pio status error count to_host block false true (Some e) r = tt
  pio status error count to_host block false false o (Ok c) = tt
  pio status error count to_host block false false o (Err e) = tt

  activate : (b : Bool) → None' (cond b (quietly state happening.Activated) (faulty state cause.Stray))
  activate true = tt
  activate false = tt

  bytes : (slots : DeviceSlots) (wrote : Wrote) (block : Option Block) (b : Bool) → None' (heard_bytes slots state wrote block b)
  bytes slots wrote None b = tt
  bytes slots wrote (Some block) true = tt
  bytes slots wrote (Some block) false = tt

  data_of : (count : ℕ) (c : Context) (stray unsound over : Bool)
      → None' (cond stray (faulty state cause.Stray) (cond unsound (bus_failed state) (cond over (overflowed state)
      (heard_bytes (after_arrive own count) state (record { slot = c.slot; offset = c.next; len = count }) state.block (c.left == count)))))
  data_of count c true unsound over = tt
  data_of count c false true over = tt
  data_of count c false false true = tt
  data_of count c false false false = bytes (after_arrive own count) (record { slot = c.slot; offset = c.next; len = count }) state.block (c.left == count)

  payload : (sound : Bool) (count : ℕ) (o : Option Context) → None' (match_some o (faulty state cause.Stray) (heard_data_of own state sound count))
  payload sound count None = tt
  payload sound count (Some c) = data_of count c (not c.to_host) (not sound) (nat_lt c.left count)

  bits : (f : List ℕ) (e : Bool)
      → Names (Some (view.SetBits f)) (cond e (faulty (with_bits state (field table.Bits table.Status f) (field table.Bits table.Error f)) cause.TaskFile)
      (named (completed (field table.Bits table.SActive f) own) (with_bits state (field table.Bits table.Status f) (field table.Bits table.Error f)) (field table.Bits table.SActive f))).happening
  bits f true = tt
  bits f false = refl

heard_names : (own : DeviceSlots) (state : DeviceState) (sound : Bool) (fis : Fis) → Names (Some fis) (heard_fis own state sound fis).happening
unfolding heard_fis
heard_names own state sound (view.RegD2H f) =
    none_names (Some (view.RegD2H f)) _ (register own state (field table.D2h table.Status f) (field table.D2h table.Error f) state.resetting)
heard_names own state sound (view.SetBits f) = bits own state f (is_error (field table.Bits table.Status f))
heard_names own state sound (view.DmaActivate f) = none_names (Some (view.DmaActivate f)) _ (activate own state (may_activate own.context))
heard_names own state sound (view.DmaSetup f) =
    none_names (Some (view.DmaSetup f)) _
    (setup own state (dma_context (tag_of f) (field table.Setup table.Offset f) (field table.Setup table.Count f) (eqb (field table.Setup table.D f) 1) (eqb (field table.Setup table.A f) 1))
    (setup_fault (own_issue own (tag_of f)) (field table.Setup table.Offset f) (field table.Setup table.Count f) (eqb (field table.Setup table.D f) 1)))
heard_names own state sound (view.PioSetup f) =
    none_names (Some (view.PioSetup f)) _
    (pio own state (field table.Pio table.Status f) (field table.Pio table.Error f) (field table.Pio table.Transfer f) (eqb (field table.Pio table.D f) 1) (block_of f) (is_error (field table.Pio table.Status f))
    (is_some (sent_pio own)) (pio_fault (pio_issue own) (field table.Pio table.Transfer f) (eqb (field table.Pio table.D f) 1)) (out_setup own (field table.Pio table.Transfer f) (eqb (field table.Pio table.D f) 1)))
heard_names own state sound (view.Payload f) = none_names (Some (view.Payload f)) _ (payload own state sound (length f - 4) own.context)
heard_names own state sound other = tt

decided_names : (dev : ℕ) (v : DeviceView) (room : Room) (fis : Option Fis) → Names fis (decided dev v room fis).happening
unfolding heard_within
decided_names dev v room None = tt
decided_names dev v NoTable (Some fis) = heard_names v.slots v.state false fis
decided_names dev v Whole (Some fis) = heard_names v.slots v.state true fis
decided_names dev v (Bytes total) (Some fis) = by (is_past total v.slots.context fis)
  where
    by : (b : Bool) → Names (Some fis) (if b then overflowed v.state else heard_fis v.slots v.state true fis).happening
    by true = tt
    by false = heard_names v.slots v.state true fis

-- ---- the event

abbrev mask_or : ℕ → Option Event → ℕ
mask_or other (Some (event.Named mask)) = mask
mask_or other o = other

answer_not : {C : Type 0} (a : Answered) (mask : ℕ) → event_of_answer a ≡ Some (event.Named mask) → C
answer_not answer.Nobody mask e = absurd (cc)
answer_not other mask e = absurd (cc)

block_not : {C : Type 0} (count : ℕ) (to_host : Bool) (block : Option Block) (mask : ℕ) → event_of_block count to_host block ≡ Some (event.Named mask) → C
block_not count to_host None mask e = absurd (cc)
block_not count to_host (Some block) mask e = absurd (cc)

event_names : (fis : Option Fis) (h : Happening) (block : Option Block) (bytes : List ℕ) (mask : ℕ) → Names fis h → event_of h block bytes ≡ Some (event.Named mask) → IsBits fis mask
event_names fis (happening.Answered a) block bytes mask is e = answer_not a mask e
event_names fis (happening.Named m) block bytes mask is e = subst (IsBits fis) (ap (mask_or m) e) is
event_names fis (happening.PioSetUp count to_host) block bytes mask is e = block_not count to_host block mask e
event_names fis other block bytes mask is e = absurd (cc)

-- ---- the frame

abbrev frame_in : Result Fis FisFault → List ℕ
frame_in (Ok v) = frame_of v
frame_in (Err e) = []

view_by : (kind : Kind) (b : Bool) (f g : List ℕ) → (if b then Ok (view_as kind f) else Err WrongLength) ≡ Ok (view.SetBits g) → g ≡ f
view_by kind false f g h = absurd (cc)
view_by table.Bits true f g h = sym (ap frame_in h)
view_by kind true f g h = absurd (cc)

pub same_frame : (f g : List ℕ) → seen f ≡ Ok (view.SetBits g) → g ≡ f
unfolding seen
same_frame f g h = view_by (kind_of f) (may_have (kind_of f) (length f)) f g h

-- a frame that names slots, with this mask
pub record IsNamingOf (frame : List ℕ) (mask : ℕ) : Type 0 where
  pub viewed : seen frame ≡ Ok (view.SetBits frame)
  pub mask_is : mask ≡ field table.Bits table.SActive frame

of_bits : (frame : List ℕ) (r : Result Fis FisFault) (mask : ℕ) → seen frame ≡ r → IsBits (admitted (port_of frame) r) mask → IsNamingOf frame mask
of_bits frame (Ok (view.SetBits f)) mask is bits =
    let same : f ≡ frame = same_frame frame f is in
    record { viewed = is ∙ ap (λ (g : List ℕ). Ok (view.SetBits g)) same; mask_is = bits ∙ ap (field table.Bits table.SActive) same }
of_bits frame (Ok other) mask is bits = absurd (not_bits (is_admitted (port_of frame) other) bits)
  where
    not_bits : (b : Bool) → IsBits (if b then Some other else None) mask → ⊥
    not_bits true h = h
    not_bits false h = h
of_bits frame (Err e) mask is bits = absurd bits

heard_by : (b : Bool) (port : Port) (room : Room) (frame : List ℕ) (mask : ℕ)
    → (if b then None else event_heard (decided (port_of frame) (view_of (port_of frame) port) room (admitted (port_of frame) (seen frame))) (drop 4 frame)) ≡ Some (event.Named mask)
    → IsNamingOf frame mask
heard_by true port room frame mask e = absurd (cc)
heard_by false port room frame mask e =
    let dev : ℕ = port_of frame in
    let h : Heard = decided dev (view_of dev port) room (admitted dev (seen frame)) in
    of_bits frame (seen frame) mask refl
    (event_names (admitted dev (seen frame)) h.happening h.state.block (drop 4 frame) mask (decided_names dev (view_of dev port) room (admitted dev (seen frame))) e)

pub names : (port : Port) (room : Room) (frame : List ℕ) (mask : ℕ) → event_by port room frame ≡ Some (event.Named mask) → IsNamingOf frame mask
names port room frame mask e = heard_by (ignores (port_of frame) port frame) port room frame mask e
