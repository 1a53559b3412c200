-- Only a Register FIS of a device answers a command.
use Rattle.std.proofs.Common.{◌≡◌, ℕ, ◌-◌, Bool, true, false, cond, eqb, List, length, drop, Option, Some, None}
use Rattle.std.specs.Prelude.{◌==◌, IfSome, is_some, nat_lt, not, if◌then◌else◌, Result, Ok, Err}
use Rattle.fis_view.specs.{Seen.seen, Table.field, declared.view.{Fis.Fis, FisFault.FisFault}}
use Rattle.fis_view.specs.Table as table
use Rattle.fis_view.specs.declared.view.Fis.TheVariants as view
use Rattle.port_errors.specs.declared.cause.DeviceCause.TheVariants as cause
use Rattle.slots.specs.{Commands.completed, Data.{after_arrive, may_activate}, Setup.{dma_context, out_setup, pio_fault, pio_issue, setup_fault}}
use Rattle.slots.specs.{Slots.{DeviceSlots, match_some, own_issue, sent_pio}, declared.{answer.SetupError.SetupError, table.Context.Context}}
use Rattle.hba_fbs.specs.{Deciding.{decided, heard_within, is_past}, Hearing.{block_of, bus_failed, faulty, heard_bytes, heard_data_of, heard_fis}}
use Rattle.hba_fbs.specs.{Hearing.{heard_out, is_admitted, named, overflowed, quietly, set_up, tag_of}, Status.{is_error, with_bits, with_file}}
use Rattle.hba_fbs.specs.{Taking.{admitted, ignores, port_of}, Views.{DeviceView, Port, view_of}, declared.hearing.{Happening.Happening, Heard.Heard}}
use Rattle.hba_fbs.specs.declared.{report.Wrote.Wrote, room.Room.{Room, TheVariants.{Bytes, NoTable, Whole}}, state.DeviceState.DeviceState}
use Rattle.hba_fbs.specs.declared.status.Block.{Block}
use Rattle.hba_fbs.specs.declared.hearing.Happening.TheVariants as happening
use Rattle.hba_laws.specs.{CoreHistories.event_by, Delivering.{event_heard, event_of, event_of_block}, History.Event}
use Rattle.hba_laws.specs.History as event
use Rattle.machine_theorem.specs.InTurn.{answers}

abbrev NoAnswer : Happening → Type 0
NoAnswer (happening.Answered a) = ⊥
NoAnswer other = Unit {0}

abbrev Is : Heard → Type 0
Is h = NoAnswer h.happening

module _ (own : DeviceSlots) (state : DeviceState) where
  setup : (c : Context) (o : Option SetupError) → Is (set_up o state None (happening.SetUp c))
  setup c None = tt
  setup c (Some e) = tt

  pio : (status error count : ℕ) (to_host : Bool) (block : Block) (e b : Bool) (o : Option SetupError) (r : Result Context SetupError)
      → Is (cond e (faulty (with_file state status error) cause.TaskFile) (cond b (set_up o (with_file state status error) (Some block) (happening.PioSetUp count to_host)) (heard_out (with_file state status error) block r)))
  pio status error count to_host block true b o r = tt
  pio status error count to_host block false true None r = tt
  pio status error count to_host block false true (Some e) r = tt
  pio status error count to_host block false false o (Ok c) = tt
  pio status error count to_host block false false o (Err e) = tt

  activate : (b : Bool) → Is (cond b (quietly state happening.Activated) (faulty state cause.Stray))
  activate true = tt
  activate false = tt

  bytes : (slots : DeviceSlots) (wrote : Wrote) (block : Option Block) (b : Bool) → Is (heard_bytes slots state wrote block b)
  bytes slots wrote None b = tt
  bytes slots wrote (Some block) true = tt
  bytes slots wrote (Some block) false = tt

  data_of : (count : ℕ) (c : Context) (stray unsound over : Bool)
      → Is (cond stray (faulty state cause.Stray) (cond unsound (bus_failed state) (cond over (overflowed state)
      (heard_bytes (after_arrive own count) state (record { slot = c.slot; offset = c.next; len = count }) state.block (c.left == count)))))
  data_of count c true unsound over = tt
  data_of count c false true over = tt
  data_of count c false false true = tt
  data_of count c false false false = bytes (after_arrive own count) (record { slot = c.slot; offset = c.next; len = count }) state.block (c.left == count)

  payload : (sound : Bool) (count : ℕ) (o : Option Context) → Is (match_some o (faulty state cause.Stray) (heard_data_of own state sound count))
  payload sound count None = tt
  payload sound count (Some c) = data_of count c (not c.to_host) (not sound) (nat_lt c.left count)

  bits : (f : List ℕ) (e : Bool)
      → Is (cond e (faulty (with_bits state (field table.Bits table.Status f) (field table.Bits table.Error f)) cause.TaskFile)
      (named (completed (field table.Bits table.SActive f) own) (with_bits state (field table.Bits table.Status f) (field table.Bits table.Error f)) (field table.Bits table.SActive f)))
  bits f true = tt
  bits f false = tt

heard_none : (own : DeviceSlots) (state : DeviceState) (sound : Bool) (fis : Fis) → answers (Ok fis) ≡ false → Is (heard_fis own state sound fis)
unfolding heard_fis
heard_none own state sound (view.RegD2H f) none = absurd (cc)
heard_none own state sound (view.SetBits f) none = bits own state f (is_error (field table.Bits table.Status f))
heard_none own state sound (view.DmaActivate f) none = activate own state (may_activate own.context)
heard_none own state sound (view.DmaSetup f) none =
    setup own state (dma_context (tag_of f) (field table.Setup table.Offset f) (field table.Setup table.Count f) (eqb (field table.Setup table.D f) 1) (eqb (field table.Setup table.A f) 1))
    (setup_fault (own_issue own (tag_of f)) (field table.Setup table.Offset f) (field table.Setup table.Count f) (eqb (field table.Setup table.D f) 1))
heard_none own state sound (view.PioSetup f) none =
    pio own state (field table.Pio table.Status f) (field table.Pio table.Error f) (field table.Pio table.Transfer f) (eqb (field table.Pio table.D f) 1) (block_of f) (is_error (field table.Pio table.Status f))
    (is_some (sent_pio own)) (pio_fault (pio_issue own) (field table.Pio table.Transfer f) (eqb (field table.Pio table.D f) 1)) (out_setup own (field table.Pio table.Transfer f) (eqb (field table.Pio table.D f) 1))
heard_none own state sound (view.Payload f) none = payload own state sound (length f - 4) own.context
heard_none own state sound (view.RegH2D f) none = tt
heard_none own state sound (view.Unknown f) none = tt

decided_none : (dev : ℕ) (v : DeviceView) (room : Room) (fis : Fis) → answers (Ok fis) ≡ false → Is (decided dev v room (Some fis))
unfolding heard_within
decided_none dev v NoTable fis none = heard_none v.slots v.state false fis none
decided_none dev v Whole fis none = heard_none v.slots v.state true fis none
decided_none dev v (Bytes total) fis none = by (is_past total v.slots.context fis)
  where
    by : (b : Bool) → Is (if b then overflowed v.state else heard_fis v.slots v.state true fis)
    by true = tt
    by false = heard_none v.slots v.state true fis none

admitted_none : (dev : ℕ) (v : DeviceView) (room : Room) (r : Result Fis FisFault) → answers r ≡ false → Is (decided dev v room (admitted dev r))
admitted_none dev v room (Err e) none = tt
admitted_none dev v room (Ok fis) none = by (is_admitted dev fis)
  where
    by : (b : Bool) → Is (decided dev v room (if b then Some fis else None))
    by true = decided_none dev v room fis none
    by false = tt

-- what a FIS is that is no Register FIS of a device: it names slots, sets up, or carries Data
abbrev pub IsMild : Event → Type 0
IsMild (event.Named mask) = Unit {0}
IsMild (event.SetUp tag offset count to_host) = Unit {0}
IsMild (event.PioSetUp count to_host ends) = Unit {0}
IsMild (event.Carried bytes) = Unit {0}
IsMild other = ⊥

block_mild : (count : ℕ) (to_host : Bool) (o : Option Block) → IfSome (event_of_block count to_host o) IsMild
block_mild count to_host None = tt
block_mild count to_host (Some block) = tt

event_mild : (h : Happening) (block : Option Block) (bytes : List ℕ) → NoAnswer h → IfSome (event_of h block bytes) IsMild
event_mild happening.Nothing block bytes none = tt
event_mild (happening.Answered a) block bytes none = absurd none
event_mild (happening.Named mask) block bytes none = tt
event_mild (happening.SetUp c) block bytes none = tt
event_mild (happening.PioSetUp count to_host) block bytes none = block_mild count to_host block
event_mild happening.Activated block bytes none = tt
event_mild (happening.Carried wrote finishes) block bytes none = tt

if_mild : (b : Bool) (o : Option Event) → IfSome o IsMild → IfSome (if b then None else o) IsMild
if_mild true o mild = tt
if_mild false o mild = mild

pub fis_mild : (port : Port) (room : Room) (frame : List ℕ) → answers (seen frame) ≡ false → IfSome (event_by port room frame) IsMild
fis_mild port room frame none =
    let dev : ℕ = port_of frame in
    let h : Heard = decided dev (view_of dev port) room (admitted dev (seen frame)) in
    if_mild (ignores dev port frame) (event_heard h (drop 4 frame)) (event_mild h.happening h.state.block (drop 4 frame) (admitted_none dev (view_of dev port) room (seen frame) none))
