-- A FIS of a device is taken: AHCI 1.3.1, sections 3.3.7 (FRE), 3.3.12 (PxSERR), 4.2.1 (Received FIS Structure), 4.2.2 (PRDBC),
-- 5.3.13 and 6.1; of the rows of the received area section 9.3.
use Rattle.std.specs.Prelude.{◌≡◌, ℕ, ◌+◌, ◌-◌, ◌^◌, ◌==◌, ◌&&◌, ◌||◌, nat_lt, Bool, true, false, not, if◌then◌else◌, List, length, Option, Some}
use Rattle.std.specs.{Prelude.{None, is_some, bit_or, unwrap_or, min, Result, Ok, slice_set}, Option.option_map}
use Rattle.fis_view.specs.{Seen.seen, Table.field, declared.view.{Fis.Fis, FisFault.FisFault}}
use Rattle.fis_view.specs.Table as table
use Rattle.fis_view.specs.declared.view.Fis.TheVariants as kind
use Rattle.guest_fetch.specs.{Commands.Fetched, Places.{reach_of, room_at}, declared.moves.Move.Move}
use Rattle.slots.specs.{Data.receiving_slot, Slots.{context_of, match_some, slots_of}}
use Rattle.rx_area.specs.{Area.start_of, declared.area.Posted.Posted}
use Rattle.rx_area.specs.declared.area.Posted.TheVariants as place
use Rattle.port_errors.specs.declared.cause.DeviceCause.{DeviceCause, TheVariants.{TaskFile, Overflow}}
use Rattle.ahci_registers.specs.{Lines.{is_due, LineEvent.Caused}, Link.action_of, declared.link.LinkAction.{LinkAction, TheVariants.NoAction}}
use Rattle.ahci_registers.specs.declared.link.LinkAction.TheVariants.{Comreset, Disable}
use Rattle.hba_fbs.specs.{Bits.without, Deciding.{Decides, Passes}, Greeting.{Greets, greeted_in}, Reading.value_of, Reasons.{concerned, ignored_for}}
use Rattle.hba_fbs.specs.{Taking.{admitted, ignores, port_of}, Views.{Port, view_of}, declared.reasons.Ignored.Ignored}
use Rattle.hba_fbs.specs.declared.{report.{TakeReport.TakeReport, Wrote.Wrote}, room.Room.{Room, TheVariants.{Bytes, Whole}}}
use Rattle.hba_fbs.specs.declared.register.Register.TheVariants as on_port
use Rattle.ahci_controller.specs.{Causes.causes_since, Latch.{edge, latched}, Moving.{commands_after, counted_after, processed_by}, Own.area_of}
use Rattle.ahci_controller.specs.{Own.is_failed, States.{ControllerState, cursor, kept}, declared.own.OwnRegisters.OwnRegisters}
use Rattle.ahci_controller.specs.declared.{taking.{Hindrance.Hindrance, Took.Took}, wants.{Carried.Carried, Writes.Writes}}
use Rattle.ahci_controller.specs.declared.taking.Hindrance.TheVariants as why

-- ---- why none is taken

abbrev pub is_up : LinkAction → Bool
is_up NoAction = true
is_up Comreset = false
is_up Disable = false

abbrev pub is_any : Writes → Bool
is_any w = is_some w.payload || is_some w.posted || not (w.counted == 0)

-- the first of these that applies
abbrev pub hindrance : ControllerState → Option Hindrance
hindrance c =
    if not (is_up (action_of c.link.control)) then Some why.LinkDown
    else if is_failed c.own then Some why.Failed
    else if not (c.own.receives && c.core.registers.receives) then Some why.NotReceiving
    else if is_any c.writes then Some why.Writing
    else None

-- ---- what is to be written to the guest

-- The row of the received area for a device that has one: its own with FIS-based switching (9.3), and row 0 without (9.2).
abbrev pub row_in : (switching : Bool) → ℕ → ℕ
row_in switching dev = if switching then dev else 0

-- the FIS itself, whole, from its place in its row of the received area on
abbrev pub move_to : (area start len : ℕ) → Option Move
move_to area start len =
    if nat_lt (18446744073709551615 - start - len) area then None
    else Some (record { at = area + start; from = 0; len = len; interrupt = false })

abbrev pub posting_at : (area row : ℕ) → Posted → ℕ → Option Move
posting_at area row place.Setup len = move_to area (start_of row place.Setup) len
posting_at area row place.Pio len = move_to area (start_of row place.Pio) len
posting_at area row place.D2h len = move_to area (start_of row place.D2h) len
posting_at area row place.Bits len = move_to area (start_of row place.Bits) len
posting_at area row place.Unknown len = move_to area (start_of row place.Unknown) len
posting_at area row place.Nothing len = None

-- the bytes of Data, which begin at byte 4 of the frame
abbrev pub carried : Wrote → Carried
carried w = record { slot = w.slot; offset = w.offset; from = 4; len = w.len }

abbrev pub carried_by : Option Wrote → Option Carried
carried_by wrote = option_map carried wrote

-- and the PRDBC of these slots
abbrev pub writes_of : ControllerState → (switching : Bool) → List ℕ → TakeReport → (slots : ℕ) → Writes
writes_of c switching frame report slots = record {
  payload = carried_by report.wrote;
  posted = posting_at (area_of c.own) (row_in switching (port_of frame)) report.posted (length frame);
  counted = slots;
}

-- ---- Data that go past their table

-- The bytes of Data that a frame has; of all other frames none.
abbrev pub payload_of : Result Fis FisFault → ℕ
payload_of (Ok (kind.Payload f)) = length f - 4
payload_of fis = 0

-- The last of them go past the table: the first ones still have a place, if there are any.
abbrev pub part_in : Fetched → (slot offset len : ℕ) → Option Wrote
part_in command slot offset len =
    if room_at command.table offset len == 0 || room_at command.table offset len == len then None
    else Some (record { slot = slot; offset = offset; len = room_at command.table offset len })

-- of the command for which a device sends Data, from where they begin
abbrev pub part_of : ControllerState → (dev len : ℕ) → Option Wrote
part_of c dev len = match_some (receiving_slot (context_of c.core.slots dev)) None (λ slot.
    match_some (kept c slot) None (λ command. part_in command slot (cursor c dev) len))

abbrev pub is_overflow : Option DeviceCause → Bool
is_overflow None = false
is_overflow (Some Overflow) = true
is_overflow (Some cause) = false

-- What a frame brings to the guest: what the core says, and where that is an overflow those bytes that have a place (3.3.5, OFS:
-- more bytes came than the table has room for).
abbrev pub brought : ControllerState → List ℕ → TakeReport → Option Wrote
brought c frame report = if is_overflow report.fault then part_of c (port_of frame) (payload_of (seen frame)) else report.wrote

-- the report with it
abbrev pub filled : ControllerState → List ℕ → TakeReport → TakeReport
filled c frame report = record report { wrote = brought c frame report }

-- ---- where Data begin

-- the offset of a DMA Setup (Serial ATA 3.x, 10.5, DMA Buffer Offset)
abbrev pub set_at : Result Fis FisFault → Option ℕ
set_at (Ok (kind.DmaSetup f)) = Some (field table.Setup table.Offset f)
set_at fis = None

-- Behind the bytes that came, or where a setup says that is accepted.
abbrev pub cursor_from : (was : ℕ) → (set : Option ℕ) → TakeReport → ℕ
cursor_from was set report = match_some report.wrote
    (if report.ignored || is_some report.fault || is_some report.stopped then was else unwrap_or set was)
    (λ w. min (w.offset + w.len) 4294967295)

abbrev pub cursors_after : ControllerState → List ℕ → TakeReport → List ℕ
cursors_after c frame report =
    slice_set c.cursors (port_of frame) (cursor_from (cursor c (port_of frame)) (set_at (seen frame)) report)

-- ---- what it tells

-- PxSERR.ERR: a protocol error (P, bit 10) of a device, but for one that its task file or an overflow tells, and an internal
-- error (E, bit 11) where the port stops
abbrev pub error_of : DeviceCause → ℕ
error_of TaskFile = 0
error_of Overflow = 0
error_of cause = 0x400

abbrev pub error_bits : TakeReport → ℕ
error_bits report = if is_some report.stopped then 0x800 else match_some report.fault 0 error_of

-- PxCMD.CCS is the slot that a fault is about
abbrev pub blamed : OwnRegisters → TakeReport → Option ℕ → OwnRegisters
blamed own report slot = record own {
  errors = bit_or own.errors (error_bits report);
  current = (if is_some report.fault || is_some report.stopped then unwrap_or slot own.current else own.current);
}

-- what a report says of a device
abbrev pub blamed_state : ControllerState → ℕ → TakeReport → ControllerState
blamed_state c dev report = record c {
  wants = record c.wants { feeding = without c.wants.feeding (2 ^ dev) };
  own = blamed c.own report (concerned (slots_of dev c.core.slots));
}

-- what becomes a cause: the bits that the core set, and DPS of the bytes that came
abbrev pub told_by : ControllerState → (was : ℕ) → Port → TakeReport → ℕ
told_by c was port report = bit_or (causes_since was port) (processed_by c report.wrote)

-- A report is settled: its causes come, what is to be written to the guest is at hand, and what was wanted for Data to the
-- device is wanted anew, if it still is.
abbrev pub settled : ControllerState → (was : ℕ) → (switching : Bool) → List ℕ → TakeReport → ControllerState
settled c was switching frame report = record c {
  latch = latched c.latch (Caused (told_by c was c.core report));
  own = blamed c.own report (concerned (slots_of (port_of frame) c.core.slots));
  wants = record c.wants { feeding = without c.wants.feeding (2 ^ port_of frame) };
  commands = commands_after c report.wrote;
  writes = writes_of c switching frame report (counted_after c report.wrote);
  cursors = cursors_after c frame report;
}

-- ---- the call

-- how many bytes the table has places for of the command for which a device sends Data
abbrev pub room_for : ControllerState → ℕ → Room
room_for c dev = match_some (receiving_slot (context_of c.core.slots dev)) Whole
    (λ slot. match_some (kept c slot) (Bytes 0) (λ command. Bytes (reach_of command.table)))

-- the core takes the frame
pub record CoreTakes (old : ControllerState) (frame : List ℕ) (report : TakeReport) (new : Port) : Type 0 where
  pub ignored : ignores (port_of frame) old.core frame ≡ true → Passes (port_of frame) old.core report new
  pub heard : ignores (port_of frame) old.core frame ≡ false
      → Decides old.core (port_of frame) (room_for old (port_of frame)) (admitted (port_of frame) (seen frame)) report new

-- or greets it, while ST is 0
abbrev pub CoreHearsIf : (started : Bool) → ControllerState → List ℕ → TakeReport → Port → Type 0
CoreHearsIf true old frame report new = CoreTakes old frame report new
CoreHearsIf false old frame report new = Greets old.core (port_of frame)
    (greeted_in (view_of (port_of frame) old.core).state (seen frame)) report new

abbrev pub CoreHears : ControllerState → List ℕ → TakeReport → Port → Type 0
CoreHears old frame report new = CoreHearsIf old.core.registers.started old frame report new

-- why the core ignores a frame, if it does
abbrev pub why_ignored : Port → List ℕ → (ignored : Bool) → Option Ignored
why_ignored port frame true = ignored_for (port_of frame) port (view_of (port_of frame) port) (seen frame)
why_ignored port frame false = None

-- The core hears the frame, and its report is settled.
pub record Hears (old : ControllerState) (frame : List ℕ) (result : Took) (new : ControllerState) : Type 0 where
  pub core : CoreHears old frame result.report new.core
  pub why : result.ignored ≡ why_ignored old.core frame result.report.ignored
  pub brought_is : result.brought ≡ brought old frame result.report
  pub told : result.message ≡ is_due old.latch.lines
      (Caused (told_by old (value_of on_port.Is old.core) new.core (filled old frame result.report)))
  pub line : result.line ≡ edge old.latch new.latch
  pub rest : new ≡ settled (record old { core = new.core }) (value_of on_port.Is old.core) old.core.registers.switching
      frame (filled old frame result.report)
