-- What a FIS means for the device that sent it: AHCI 1.3.1, 5.3.13 (how a port takes each type of FIS) and
-- chapter 9 (FIS-based Switching); Serial ATA 3.x, 10.5 (FIS types). The FIS and the device's own slots
-- decide what is wrong with the FIS, and which happening it is; the happening says how the slots change.
use Rattle.std.specs.Prelude.{ℕ, ◌-◌, ◌%◌, ◌^◌, ◌==◌, Bool, true, false, not, nat_lt, nat_le, if◌then◌else◌, List, length, Option, Some, None}
use Rattle.std.specs.Prelude.{is_some, Result, Ok, Err}
use Rattle.fis_view.specs.Table as table
use Rattle.fis_view.specs.{Table.field, declared.view.Fis.Fis}
use Rattle.fis_view.specs.declared.view.Fis.TheVariants as view
use Rattle.port_errors.specs.declared.cause.DeviceCause.{DeviceCause}
use Rattle.port_errors.specs.declared.cause.DeviceCause.TheVariants as cause
use Rattle.port_errors.specs.declared.cause.PortCause.TheVariants as port_cause
use Rattle.slots.specs.{declared.{answer.{Answered.Answered, Completed.Completed, SetupError.SetupError}, table.Context.Context}, Slots.DeviceSlots}
use Rattle.slots.specs.{Slots.{match_some, own_issue, sent_pio}, Commands.{after_complete, after_pio_done, answer_of, answered_as, completed}}
use Rattle.slots.specs.{Commands.whole_pio, Setup.{after_setup_pio, dma_context, out_setup, pio_fault, pio_issue, setup_fault, with_own_context}}
use Rattle.slots.specs.Data.{after_activate, after_arrive, may_activate}
use Rattle.slots.specs.declared.answer.Answered.TheVariants as answer
use Rattle.slots.specs.declared.answer.SetupError.TheVariants as refused
use Rattle.hba_fbs.specs.declared.{hearing.{Fault.Fault, Happening.Happening, Heard.Heard}, report.Wrote.Wrote, state.DeviceState.DeviceState}
use Rattle.hba_fbs.specs.{declared.status.Block.Block, Posting.is_ata_signature, Status.{after_reset, is_busy, is_error, is_quiet, signed_by}}
use Rattle.hba_fbs.specs.Status.{with_bits, with_block, with_file, with_status}
use Rattle.hba_fbs.specs.declared.hearing.Fault.TheVariants as fault
use Rattle.hba_fbs.specs.declared.hearing.Happening.TheVariants as happening

-- ---- happenings

-- the device's slots at the end of a block; finishes says that by its Status a PIO data-in may be done
abbrev pub block_ended : Bool → DeviceSlots → DeviceSlots
block_ended finishes own = if finishes then after_pio_done own else own

-- the device's slots after a happening
abbrev pub moved : Happening → DeviceSlots → DeviceSlots
moved happening.Nothing own = own
moved (happening.Answered a) own = answered_as a own
moved (happening.Named mask) own = after_complete mask own
moved (happening.SetUp c) own = with_own_context own c
moved (happening.PioSetUp count to_host) own = after_setup_pio own count to_host
moved happening.Activated own = after_activate own
moved (happening.Carried wrote finishes) own = block_ended finishes (after_arrive own wrote.len)

-- nothing is wrong with the FIS, and no slot becomes free
abbrev pub quietly : DeviceState → Happening → Heard
quietly state h = record { state = state; happening = h; fault = None; done = 0; pss = false }

-- this is wrong with the FIS, and no slot changes
abbrev pub faulty : DeviceState → DeviceCause → Heard
faulty state c = record {
  state = state;
  happening = happening.Nothing;
  fault = Some (fault.Device c);
  done = 0;
  pss = false;
}

-- ---- Register Device to Host

-- the slot whose command is done with this answer, as a mask
abbrev pub done_by : Answered → ℕ
done_by answer.Nobody = 0
done_by (answer.Queued slot) = 0
done_by (answer.Done slot) = 2 ^ slot
done_by (answer.Short slot) = 0

-- an answer while bytes are missing is a fault
abbrev pub answer_fault : Answered → Option Fault
answer_fault answer.Nobody = None
answer_fault (answer.Queued slot) = None
answer_fault (answer.Done slot) = None
answer_fault (answer.Short slot) = Some (fault.Device cause.Short)

abbrev pub answered : Answered → DeviceState → Heard
answered a state = record {
  state = state;
  happening = happening.Answered a;
  fault = answer_fault a;
  done = done_by a;
  pss = false;
}

-- with ERR it is a task file error; with neither ERR nor BSY it answers the command that waits
abbrev pub heard_d2h : DeviceSlots → DeviceState → ℕ → ℕ → Heard
heard_d2h own state status error =
    if is_error status then faulty (with_file state status error) cause.TaskFile
    else if is_busy status then quietly (with_file state status error) happening.Nothing
    else answered (answer_of own) (with_file state status error)

-- ---- Set Device Bits

-- naming a slot while bytes are missing is a fault
abbrev pub short_fault : Completed → Option Fault
short_fault c = if c.short == 0 then None else Some (fault.Device cause.Short)

abbrev pub named : Completed → DeviceState → ℕ → Heard
named c state mask = record {
  state = state;
  happening = happening.Named mask;
  fault = short_fault c;
  done = c.done;
  pss = false;
}

-- with ERR it is a task file error, and no slot is named
abbrev pub heard_bits : DeviceSlots → DeviceState → ℕ → ℕ → ℕ → Heard
heard_bits own state status error mask =
    if is_error status then faulty (with_bits state status error) cause.TaskFile
    else named (completed mask own) (with_bits state status error) mask

-- ---- DMA Setup and PIO Setup

-- the cause that a refused setup gives
abbrev pub cause_of_setup : SetupError → DeviceCause
cause_of_setup refused.NotOutstanding = cause.BadTag
cause_of_setup refused.WrongWay = cause.WrongWay
cause_of_setup refused.Overflow = cause.Overflow
cause_of_setup refused.Twice = cause.Twice
cause_of_setup refused.Fragments = cause.Fragments
cause_of_setup refused.BadCount = cause.BadFis

-- an accepted setup begins this block, or none; a refused one leaves the last setup as it is
abbrev pub set_up : Option SetupError → DeviceState → Option Block → Happening → Heard
set_up None state block h = quietly (with_block state block) h
set_up (Some e) state block h = faulty state (cause_of_setup e)

abbrev pub heard_setup : DeviceSlots → DeviceState → ℕ → ℕ → ℕ → (to_host auto : Bool) → Heard
heard_setup own state tag offset count to_host auto =
    set_up (setup_fault (own_issue own tag) offset count to_host) state None
    (happening.SetUp (dma_context tag offset count to_host auto))

-- A setup for a PIO data-out: its bytes are one block and may go at once. So the Status at the end of the
-- block, and PSS, come with the setup, and no block is kept.
abbrev pub heard_out : DeviceState → Block → Result Context SetupError → Heard
heard_out state block (Err e) = faulty state (cause_of_setup e)
heard_out state block (Ok c) = record {
  state = with_block (with_status state block.ends) None;
  happening = happening.SetUp c;
  fault = None;
  done = 0;
  pss = block.interrupts;
}

-- With ERR it is a task file error. Else it is for the PIO data-in that was sent, and if there is none, for the
-- PIO data-out.
abbrev pub heard_pio : DeviceSlots → DeviceState → ℕ → ℕ → ℕ → Bool → Block → Heard
heard_pio own state status error count to_host block =
    if is_error status then faulty (with_file state status error) cause.TaskFile
    else if is_some (sent_pio own)
    then set_up (pio_fault (pio_issue own) count to_host) (with_file state status error) (Some block)
    (happening.PioSetUp count to_host)
    else heard_out (with_file state status error) block (out_setup own count to_host)

-- ---- Data

-- the block asks for PSS at its end
abbrev pub asks : Option Block → Bool
asks None = false
asks (Some block) = block.interrupts

-- the PRD table of the slot cannot be used: a host bus error
abbrev pub bus_failed : DeviceState → Heard
bus_failed state = record {
  state = state;
  happening = happening.Nothing;
  fault = Some (fault.Port port_cause.Bus);
  done = 0;
  pss = asks state.block;
}

-- there are more bytes than the setup has left
abbrev pub overflowed : DeviceState → Heard
overflowed state = record {
  state = state;
  happening = happening.Nothing;
  fault = Some (fault.Device cause.Overflow);
  done = 0;
  pss = asks state.block;
}

abbrev pub mask_of_slot : Option ℕ → ℕ
mask_of_slot None = 0
mask_of_slot (Some slot) = 2 ^ slot

abbrev pub ended_fault : ℕ → Option Fault
ended_fault status = if is_error status then Some (fault.Device cause.TaskFile) else None

-- Bytes that end the block of a PIO Setup. Status becomes E_Status; with ERR that is a task file error. With
-- BSY, DRQ and ERR 0 the PIO data-in is done if it is whole. own are the device's slots with these bytes.
abbrev pub ended : DeviceSlots → DeviceState → Wrote → Block → Heard
ended own state wrote block = record {
  state = with_status state block.ends;
  happening = happening.Carried wrote (is_quiet block.ends);
  fault = ended_fault block.ends;
  done = (if is_quiet block.ends then mask_of_slot (whole_pio own) else 0);
  pss = block.interrupts;
}

abbrev pub carried : DeviceState → Wrote → Heard
carried state wrote = quietly state (happening.Carried wrote false)

-- bytes that were transferred; last says that they are the last of their setup
abbrev pub heard_bytes : DeviceSlots → DeviceState → Wrote → Option Block → Bool → Heard
heard_bytes own state wrote None last = carried state wrote
heard_bytes own state wrote (Some block) last =
    if last then ended own state wrote block else carried state wrote

-- count bytes, for a device whose last setup is c
abbrev pub heard_data_of : DeviceSlots → DeviceState → (sound : Bool) → ℕ → Context → Heard
heard_data_of own state sound count c =
    if not c.to_host then faulty state cause.Stray
    else if not sound then bus_failed state
    else if nat_lt c.left count then overflowed state
    else heard_bytes (after_arrive own count) state (record { slot = c.slot; offset = c.next; len = count })
    state.block (c.left == count)

abbrev pub heard_data : DeviceSlots → DeviceState → (sound : Bool) → ℕ → Heard
heard_data own state sound count =
    match_some own.context (faulty state cause.Stray) (heard_data_of own state sound count)

-- ---- DMA Activate

abbrev pub heard_activate : DeviceSlots → DeviceState → Heard
heard_activate own state =
    if may_activate own.context then quietly state happening.Activated else faulty state cause.Stray

-- ---- all of them

-- Of the known types, the control port sends only Register Device to Host and Set Device Bits FISes. No
-- device sends a FIS that goes to devices. A FIS of an unknown type must fit its place in the received area.
abbrev pub is_admitted : ℕ → Fis → Bool
is_admitted dev (view.RegH2D f) = false
is_admitted dev (view.RegD2H f) = true
is_admitted dev (view.SetBits f) = true
is_admitted dev (view.DmaActivate f) = not (dev == 15)
is_admitted dev (view.DmaSetup f) = not (dev == 15)
is_admitted dev (view.PioSetup f) = not (dev == 15)
is_admitted dev (view.Payload f) = not (dev == 15)
is_admitted dev (view.Unknown f) = nat_le (length f) 64

-- what is wrong with a FIS that may not come from this PM Port; if that is the control port, the port stops
abbrev pub bad_fault : ℕ → Fault
bad_fault dev = if dev == 15 then fault.Port port_cause.BadControl else fault.Device cause.BadFis

abbrev pub heard_bad : ℕ → DeviceState → Heard
heard_bad dev state = record {
  state = state;
  happening = happening.Nothing;
  fault = Some (bad_fault dev);
  done = 0;
  pss = false;
}

-- the tag of a DMA Setup: bits 4:0 of its buffer identifier
abbrev pub tag_of : List ℕ → ℕ
tag_of f = field table.Setup table.BufferId f % 32

abbrev pub block_of : List ℕ → Block
block_of f = record { interrupts = field table.Pio table.I f == 1; ends = field table.Pio table.EStatus f }

-- a signature that ends a software reset answers no command
abbrev pub heard_register : DeviceSlots → DeviceState → ℕ → ℕ → Heard
heard_register own state status error =
    if state.resetting then quietly (after_reset state status error) happening.Nothing
    else heard_d2h own state status error

-- the signature of an ATA device marks the device that sent it
abbrev pub signing : List ℕ → Heard → Heard
signing f h = record h { state = signed_by h.state (is_ata_signature f) }

-- What a FIS that is heard and may come from its PM Port means for the device that sent it. sound says
-- whether the PRD table can be used, for the slot for which the device sends Data.
unfoldable pub heard_fis : DeviceSlots → DeviceState → (sound : Bool) → Fis → Heard
heard_fis own state sound (view.RegH2D f) = quietly state happening.Nothing
heard_fis own state sound (view.RegD2H f) =
    signing f (heard_register own state (field table.D2h table.Status f) (field table.D2h table.Error f))
heard_fis own state sound (view.SetBits f) =
    heard_bits own state (field table.Bits table.Status f) (field table.Bits table.Error f)
    (field table.Bits table.SActive f)
heard_fis own state sound (view.DmaActivate f) = heard_activate own state
heard_fis own state sound (view.DmaSetup f) =
    heard_setup own state (tag_of f) (field table.Setup table.Offset f) (field table.Setup table.Count f)
    (field table.Setup table.D f == 1) (field table.Setup table.A f == 1)
heard_fis own state sound (view.PioSetup f) =
    heard_pio own state (field table.Pio table.Status f) (field table.Pio table.Error f)
    (field table.Pio table.Transfer f)
    (field table.Pio table.D f == 1) (block_of f)
heard_fis own state sound (view.Payload f) = heard_data own state sound (length f - 4)
heard_fis own state sound (view.Unknown f) = quietly state happening.Nothing
