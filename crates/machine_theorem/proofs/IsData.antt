-- Bytes are brought by a Data FIS, and by no other.
use Rattle.std.proofs.Common.{◌≡◌, ℕ, ◌-◌, Bool, true, false, cond, eqb, List, length, refl, sym, ap, subst, ◌∙◌, arith, Option, Some, None}
use Rattle.std.proofs.lemmas.Bool.{eqb-true}
use Rattle.std.specs.Prelude.{◌==◌, ◌||◌, is_some, slice_index, if◌then◌else◌, Result, Ok, Err}
use Rattle.fis_view.specs.{Seen.{kind_of, kind_of_type, may_have, seen, view_as}, Table.{Kind, Data, field}, declared.view.Fis.Fis}
use Rattle.fis_view.specs.declared.view.FisFault.{FisFault, TheVariants.WrongLength}
use Rattle.fis_view.specs.Table as table
use Rattle.fis_view.specs.declared.view.Fis.TheVariants as view
use Rattle.guest_fetch.specs.{Commands.Fetched, Places.{Places, room_at}}
use Rattle.port_errors.specs.declared.cause.DeviceCause.TheVariants as cause
use Rattle.slots.specs.{Commands.{answer_of, completed}, Data.{may_activate, receiving_slot}, Setup.{dma_context, out_setup, pio_fault, pio_issue}}
use Rattle.slots.specs.{Setup.setup_fault, Slots.{DeviceSlots, context_of, match_some, own_issue, sent_pio}, declared.answer.SetupError.SetupError}
use Rattle.slots.specs.declared.table.Context.{Context}
use Rattle.hba_fbs.specs.{Deciding.{Decides, decided, heard_within, is_past}, Greeting.Greets, Hearing.{answered, block_of, faulty, heard_d2h}}
use Rattle.hba_fbs.specs.{Hearing.{heard_fis, heard_out, is_admitted, named, overflowed, quietly, set_up, tag_of}, Status.{after_reset, is_busy}}
use Rattle.hba_fbs.specs.{Status.{is_error, with_bits, with_file}, Taking.{admitted, heard_report, ignores, port_of, wrote_by}, Views.DeviceView}
use Rattle.hba_fbs.specs.{Views.{Port, view_of}, declared.{hearing.Heard.Heard, report.{TakeReport.TakeReport, Wrote.Wrote}, room.Room.Room}}
use Rattle.hba_fbs.specs.declared.{room.Room.TheVariants.{Bytes, NoTable, Whole}, state.DeviceState.DeviceState, status.Block.Block}
use Rattle.hba_fbs.specs.declared.hearing.Happening.TheVariants as happening
use Rattle.ahci_controller.specs.{States.{ControllerState, cursor, kept}, Taking.{CoreHearsIf, is_overflow, part_in, part_of, payload_of, room_for}}
use Rattle.ahci_controller.specs.declared.taking.Took.{Took}
use Rattle.controller_laws.specs.Events.{Takes}

abbrev pub is_payload : Fis → Bool
is_payload (view.Payload f) = true
is_payload other = false

abbrev pub BringsNone : Heard → Type 0
BringsNone h = wrote_by h.happening ≡ None

module _ (own : DeviceSlots) (state : DeviceState) where
  d2h : (status error : ℕ) (e b : Bool)
      → BringsNone (cond e (faulty (with_file state status error) cause.TaskFile) (cond b (quietly (with_file state status error) happening.Nothing) (answered (answer_of own) (with_file state status error))))
  d2h status error true b = refl
  d2h status error false true = refl
  d2h status error false false = refl

  register : (status error : ℕ) (resetting : Bool) → BringsNone (cond resetting (quietly (after_reset state status error) happening.Nothing) (heard_d2h own state status error))
  register status error true = refl
  register status error false = d2h status error (is_error status) (is_busy status)

  bits : (status error mask : ℕ) (e : Bool) → BringsNone (cond e (faulty (with_bits state status error) cause.TaskFile) (named (completed mask own) (with_bits state status error) mask))
  bits status error mask true = refl
  bits status error mask false = refl

  setup : (c : Context) (o : Option SetupError) → BringsNone (set_up o state None (happening.SetUp c))
  setup c None = refl
  setup c (Some e) = refl

  pio : (status error count : ℕ) (to_host : Bool) (block : Block) (e b : Bool) (o : Option SetupError) (r : Result Context SetupError)
      → BringsNone (cond e (faulty (with_file state status error) cause.TaskFile) (cond b (set_up o (with_file state status error) (Some block) (happening.PioSetUp count to_host)) (heard_out (with_file state status error) block r)))
  pio status error count to_host block true b o r = refl
  pio status error count to_host block false true None r = refl
  pio status error count to_host block false true (Some e) r = refl
  pio status error count to_host block false false o (Ok c) = refl
  pio status error count to_host block false false o (Err e) = refl

  activate : (b : Bool) → BringsNone (cond b (quietly state happening.Activated) (faulty state cause.Stray))
  activate true = refl
  activate false = refl

pub fis_none : (own : DeviceSlots) (state : DeviceState) (sound : Bool) (fis : Fis) → is_payload fis ≡ false → BringsNone (heard_fis own state sound fis)
unfolding heard_fis
fis_none own state sound (view.RegD2H f) other = register own state (field table.D2h table.Status f) (field table.D2h table.Error f) state.resetting
fis_none own state sound (view.SetBits f) other = bits own state (field table.Bits table.Status f) (field table.Bits table.Error f) (field table.Bits table.SActive f) (is_error (field table.Bits table.Status f))
fis_none own state sound (view.DmaActivate f) other = activate own state (may_activate own.context)
fis_none own state sound (view.DmaSetup f) other =
    setup own state (dma_context (tag_of f) (field table.Setup table.Offset f) (field table.Setup table.Count f) (eqb (field table.Setup table.D f) 1) (eqb (field table.Setup table.A f) 1))
    (setup_fault (own_issue own (tag_of f)) (field table.Setup table.Offset f) (field table.Setup table.Count f) (eqb (field table.Setup table.D f) 1))
fis_none own state sound (view.PioSetup f) other =
    pio own state (field table.Pio table.Status f) (field table.Pio table.Error f) (field table.Pio table.Transfer f) (eqb (field table.Pio table.D f) 1) (block_of f) (is_error (field table.Pio table.Status f))
    (is_some (sent_pio own)) (pio_fault (pio_issue own) (field table.Pio table.Transfer f) (eqb (field table.Pio table.D f) 1)) (out_setup own (field table.Pio table.Transfer f) (eqb (field table.Pio table.D f) 1))
fis_none own state sound (view.Payload f) other = absurd (cc)
fis_none own state sound rest other = refl

abbrev IsOther : Option Fis → Type 0
IsOther None = Unit {0}
IsOther (Some fis) = is_payload fis ≡ false

decided_none : (dev : ℕ) (v : DeviceView) (room : Room) (fis : Option Fis) → IsOther fis → BringsNone (decided dev v room fis)
unfolding heard_within
decided_none dev v room None other = refl
decided_none dev v NoTable (Some fis) other = fis_none v.slots v.state false fis other
decided_none dev v Whole (Some fis) other = fis_none v.slots v.state true fis other
decided_none dev v (Bytes total) (Some fis) other = by (is_past total v.slots.context fis)
  where
    by : (b : Bool) → BringsNone (if b then overflowed v.state else heard_fis v.slots v.state true fis)
    by true = refl
    by false = fis_none v.slots v.state true fis other

-- ---- the frame

view_of_kind : (kind : Kind) (b : Bool) (f g : List ℕ) → (if b then Ok (view_as kind f) else Err WrongLength) ≡ Ok (view.Payload g) → kind ≡ Data
view_of_kind kind false f g h = absurd (cc)
view_of_kind Data true f g h = refl
view_of_kind kind true f g h = absurd (cc)

-- of type 46h alone
type_of : (t : ℕ) → kind_of_type t ≡ Data → t ≡ 0x46
type_of t is = by (t == 0x27) (t == 0x34) (t == 0x39) (t == 0x41) (t == 0x46) (t == 0x5F) (t == 0xA1) refl is
  where
    by : (a b c d e g h : Bool) → (t == 0x46) ≡ e
        → (if a then table.H2d else if b then table.D2h else if c then table.Activate else if d then table.Setup else if e then Data else if g then table.Pio else if h then table.Bits else table.Other) ≡ Data → t ≡ 0x46
    by true b c d e g h so is = absurd (cc)
    by false true c d e g h so is = absurd (cc)
    by false false true d e g h so is = absurd (cc)
    by false false false true e g h so is = absurd (cc)
    by false false false false true g h so is = eqb-true t 0x46 so
    by false false false false false true h so is = absurd (cc)
    by false false false false false false true so is = absurd (cc)
    by false false false false false false false so is = absurd (cc)

pub payload_type : (f g : List ℕ) → seen f ≡ Ok (view.Payload g) → slice_index f 0 ≡ 0x46
unfolding seen
payload_type f g is = type_of (slice_index f 0) (view_of_kind (kind_of f) (may_have (kind_of f) (length f)) f g is)

-- it is Data, or is seen as none
abbrev pub IsDataOr : List ℕ → Option Wrote → Type 0
IsDataOr frame None = Unit {0}
IsDataOr frame (Some wrote) = slice_index frame 0 ≡ 0x46

nothing : (frame : List ℕ) (o : Option Wrote) → o ≡ None → IsDataOr frame o
nothing frame o none = subst (IsDataOr frame) (sym none) tt

brought_any : (frame : List ℕ) (o : Option Wrote) → slice_index frame 0 ≡ 0x46 → IsDataOr frame o
brought_any frame None type = tt
brought_any frame (Some wrote) type = type

other_admitted : (dev : ℕ) (fis : Fis) (b : Bool) → is_payload fis ≡ false → IsOther (if b then Some fis else None)
other_admitted dev fis true other = other
other_admitted dev fis false other = tt

reported : (dev : ℕ) (old new : Port) (room : Room) (fis : Option Fis) (report : TakeReport) → Decides old dev room fis report new → IsOther fis → report.wrote ≡ None
unfolding heard_report
reported dev old new room fis report h other = ap (λ (r : TakeReport). r.wrote) h.reports ∙ decided_none dev (view_of dev old) room fis other

decided_data : (c : ControllerState) (frame : List ℕ) (report : TakeReport) (new : Port) (r : Result Fis FisFault) → seen frame ≡ r
    → Decides c.core (port_of frame) (room_for c (port_of frame)) (admitted (port_of frame) r) report new → IsDataOr frame report.wrote
decided_data c frame report new (Ok (view.Payload f)) is h = brought_any frame report.wrote (payload_type frame f is)
decided_data c frame report new (Ok other) is h =
    nothing frame report.wrote (reported (port_of frame) c.core new (room_for c (port_of frame)) (admitted (port_of frame) (Ok other)) report h (other_admitted (port_of frame) other (is_admitted (port_of frame) other) refl))
decided_data c frame report new (Err e) is h = nothing frame report.wrote (reported (port_of frame) c.core new (room_for c (port_of frame)) None report h tt)

greeted_none : (old new : Port) (dev : ℕ) (o : Option (List ℕ)) (report : TakeReport) → Greets old dev o report new → report.wrote ≡ None
unfolding heard_report
greeted_none old new dev None report h = ap (λ (r : TakeReport). r.wrote) h.reports
greeted_none old new dev (Some f) report h = ap (λ (r : TakeReport). r.wrote) h.reports

heard_data : (started ignored : Bool) (c : ControllerState) (frame : List ℕ) (report : TakeReport) (new : Port) → ignores (port_of frame) c.core frame ≡ ignored
    → CoreHearsIf started c frame report new → IsDataOr frame report.wrote
heard_data true true c frame report new is h = nothing frame report.wrote (ap (λ (r : TakeReport). r.wrote) (h.ignored is).reports)
heard_data true false c frame report new is h = decided_data c frame report new (seen frame) refl (h.heard is)
heard_data false ignored c frame report new is h = nothing frame report.wrote (greeted_none c.core new (port_of frame) _ report h)

-- ---- past its table

no_room : (t : Places) (offset : ℕ) → room_at t offset 0 ≡ 0
no_room t offset = omega arith

none_fit : (f : Fetched) (slot offset : ℕ) → part_in f slot offset 0 ≡ None
none_fit f slot offset = ap with_room (no_room f.table offset)
  where
    with_room : ℕ → Option Wrote
    with_room n = if n == 0 || n == 0 then None else Some (record { slot = slot; offset = offset; len = n })

no_part : (c : ControllerState) (dev : ℕ) → part_of c dev 0 ≡ None
no_part c dev = of_slot (receiving_slot (context_of c.core.slots dev))
  where
    of_command : (o : Option Fetched) (slot : ℕ) → match_some o None (λ command. part_in command slot (cursor c dev) 0) ≡ None
    of_command None slot = refl
    of_command (Some f) slot = none_fit f slot (cursor c dev)

    of_slot : (o : Option ℕ) → match_some o None (λ slot. match_some (kept c slot) None (λ command. part_in command slot (cursor c dev) 0)) ≡ None
    of_slot None = refl
    of_slot (Some slot) = of_command (kept c slot) slot

past_data : (c : ControllerState) (frame : List ℕ) (r : Result Fis FisFault) → seen frame ≡ r → IsDataOr frame (part_of c (port_of frame) (payload_of r))
past_data c frame (Ok (view.Payload f)) is = brought_any frame (part_of c (port_of frame) (length f - 4)) (payload_type frame f is)
past_data c frame rest is = nothing frame (part_of c (port_of frame) 0) (no_part c (port_of frame))

brought_data : (over : Bool) (c : ControllerState) (frame : List ℕ) (wrote : Option Wrote) → IsDataOr frame wrote → IsDataOr frame (if over then part_of c (port_of frame) (payload_of (seen frame)) else wrote)
brought_data true c frame wrote h = past_data c frame (seen frame) refl
brought_data false c frame wrote h = h

-- what brings bytes is a Data FIS
pub brings_data : (old new : ControllerState) (frame : List ℕ) (took : Took) → Takes old frame took new → IsDataOr frame took.brought
brings_data old new frame took h =
    subst (IsDataOr frame) (sym h.hears.brought_is)
    (brought_data (is_overflow took.report.fault) old frame took.report.wrote (heard_data old.core.registers.started (ignores (port_of frame) old.core frame) old frame took.report new.core refl h.hears.core))
