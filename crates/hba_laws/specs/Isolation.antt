-- Which device each event of a host port belongs to, and isolation (AHCI 1.3.1, chapter 9, FIS-based
-- Switching): what belongs to a device is the fold of its own events alone.
use Rattle.std.specs.Prelude.{ℕ, ◌≡◌, ◌<◌, ◌==◌, ◌&&◌, ◌||◌, Bool, true, false, not, if◌then◌else◌, List, [], ◌∷◌, ◌++◌, Option, Some, None, Result}
use Rattle.std.specs.{Prelude.{is_none, is_some}, Option.{option_map, option_or}}
use Rattle.fis_view.specs.{Frames.Stamped, Seen.seen, declared.view.{Fis.Fis, FisFault.FisFault}}
use Rattle.hba_commands.specs.declared.command.Command.{Command}
use Rattle.host_memory.specs.Memory.{Memory}
use Rattle.rx_area.specs.Area.{row_after}
use Rattle.slots.specs.{Commands.may_begin, Data.payload, Slots.{Issue, holds, is_control, lowest, match_some, own_issue, waiting}}
use Rattle.hba_fbs.specs.{declared.{register.Register.{Register, TheVariants.{Cmd, Ci, Fbs}}, registers.Registers.Registers}, Issuing.{aimed, asked}}
use Rattle.hba_fbs.specs.{Issuing.issued_slots, Registers.falls, Sending.{Data, Nothing, Order, Outgoing, Unreadable, data_fis, gathered, is_ready}}
use Rattle.hba_fbs.specs.{Sending.{outgoing, view_fed, view_sent}, Tables.prds_of, Taking.{admitted, heard_now, heard_view, ignores, is_ignored}}
use Rattle.hba_fbs.specs.{Taking.{is_running, passes_over, port_of, stops_with}, Views.{DeviceView, Port, flushed_view, stopped_view}}
use Rattle.hba_fbs.specs.Writing.{cleared_by, is_device}
use Rattle.hba_laws.specs.{Hosts.{Does, Flushed, Gave, Host, HostEvent, Put, Rewrote, Runs, Stored, Took, Wrote}, Parts.{DevicePart, part_of}}
use Rattle.hba_laws.specs.{Parts.with_view, Sound.{AreHosts, IsHost}}

-- ---- events of the port

-- the frame is heard and stops the port
abbrev pub stops_port : ℕ → Port → Memory → List ℕ → Bool
stops_port dev port memory frame =
    not (ignores dev port frame)
    && stops_with port.registers.switching (heard_now port memory dev (admitted dev (seen frame))).fault

-- the write takes ST from 1 to 0
abbrev pub lowers_st : Register → Registers → ℕ → Bool
lowers_st Cmd r value = falls r value
lowers_st register r value = false

-- data is due to a device, and the host bus fails
abbrev pub fails_by_bus : Outgoing → Bool
fails_by_bus Nothing = false
fails_by_bus (Unreadable dev) = true
fails_by_bus (Data dev offset len command) = false
fails_by_bus (Order dev slot command) = false

abbrev pub stops : Host → HostEvent → Bool
stops host (Took frame report) = stops_port (port_of frame) host.port host.memory frame
stops host (Wrote register value) = lowers_st register host.port.registers value
stops host (Flushed dev) = false
stops host (Gave frame) = fails_by_bus (outgoing host.port host.memory)
stops host (Stored structure) = false
stops host (Rewrote dev row) = false
stops host (Put at bytes) = false

-- An event of the port as a whole: any event while ST is 0 or the port has a fault, hence also the write that
-- sets ST, and each event that ends this.
abbrev pub is_port_event : Host → HostEvent → Bool
is_port_event host event = not (is_running host.port) || stops host event

-- ---- own events

-- what happens to one device
pub data OwnEvent : Type 0 where
  -- a frame of it is received
  Came : (frame : List ℕ) → OwnEvent
  -- commands are issued for it, each in its slot
  Issued : (commands : ℕ → Option Command) → OwnEvent
  -- a frame is transmitted to it
  Went : OwnEvent
  -- its error is cleared
  Cleared : OwnEvent
  -- it is flushed
  Emptied : OwnEvent
  -- the software writes its row
  Rewritten : (row : List ℕ) → OwnEvent

-- a write of PxCI issues commands for the device at which it is aimed; PxFBS.DEC clears the device that DWE
-- names
abbrev pub written_to : ℕ → Host → Register → ℕ → List OwnEvent
written_to n host Ci value =
    if n == aimed host.port.registers host.memory.structure value
    then Issued (asked host.port.registers host.memory value) ∷ []
    else []
written_to n host Fbs value =
    if is_device n (cleared_by host.port.errors value) then Cleared ∷ [] else []
written_to n host register value = []

-- a frame is transmitted to the device whose PM Port is given with it
abbrev pub gone_to : ℕ → Option Stamped → List OwnEvent
gone_to n None = []
gone_to n (Some frame) = if frame.stamp.port == n then Went ∷ [] else []

-- The own events of a device in an event: a frame with its PM Port, commands for it, the clearing of its
-- error, a frame to it, its flush, a write of its row.
abbrev pub own_events : ℕ → Host → HostEvent → List OwnEvent
own_events n host (Took frame report) = if port_of frame == n then Came frame ∷ [] else []
own_events n host (Wrote register value) = written_to n host register value
own_events n host (Flushed dev) = if dev == n then Emptied ∷ [] else []
own_events n host (Gave frame) = gone_to n frame
own_events n host (Stored structure) = []
own_events n host (Rewrote dev row) = if dev == n then Rewritten row ∷ [] else []
own_events n host (Put at bytes) = []

-- ---- what they leave

-- a FIS that has a place is posted in the row, if the device has one
abbrev pub row_with : Option (List ℕ) → Option Fis → Option (List ℕ)
row_with row None = row
row_with row (Some fis) = option_map (λ bytes. row_after bytes fis) row

-- the PRD table of a Data FIS that does not stop the port can be used
abbrev pub after_fis : ℕ → DevicePart → Option Fis → DevicePart
after_fis n part fis =
    record (with_view part (heard_view n part.view true fis)) { row = row_with part.row fis }

-- the commands that are issued now, or else those from before
abbrev pub after_issue : ℕ → (ℕ → Option Command) → DevicePart → DevicePart
after_issue n commands part =
    with_view (record part { commands = λ slot. option_or (commands slot) (part.commands slot) })
    (record part.view { slots = issued_slots n commands part.view.slots })

-- its command was not sent and can go: a Control always, any other while the device is ready and none of its
-- slots waits, and one that has no setup only while no queued one is outstanding
abbrev pub may_leave : DeviceView → Issue → Bool
may_leave view issue =
    not issue.sent && not (is_some view.fault)
    && (is_control issue.work.kind || is_ready view.state && is_none (waiting view.slots)
    && may_begin view.slots issue)

-- the lowest slot of the device whose command can go
abbrev pub next_own : DeviceView → Option ℕ
next_own view = lowest (λ slot. holds (may_leave view) (own_issue view.slots slot))

abbrev pub after_order : DevicePart → ℕ → DevicePart
after_order part slot =
    match_some (part.commands slot) part (λ command.
    with_view part (view_sent part.view slot command))

-- what goes out: the data that the device asked for, or else the command of the slot that can go
abbrev pub after_going : DevicePart → DevicePart
after_going part =
    if is_some (payload part.view.slots.context) then with_view part (view_fed part.view)
    else match_some (next_own part.view) part (after_order part)

-- a FIS of the device that it does not hear, while the port runs
abbrev pub skips : ℕ → DevicePart → Result Fis FisFault → Bool
skips n part fis = passes_over (is_some part.row) n part.view fis || is_ignored true part.view fis

-- What belongs to a device after one of its own events. It sees no register, no memory and no other device.
abbrev pub part_after : ℕ → DevicePart → OwnEvent → DevicePart
part_after n part (Came frame) =
    if skips n part (seen frame) then part
    else after_fis n part (admitted n (seen frame))
part_after n part (Issued commands) = after_issue n commands part
part_after n part Went = after_going part
part_after n part Cleared = with_view part (stopped_view part.view)
part_after n part Emptied = with_view part flushed_view
part_after n part (Rewritten row) = record part { row = option_map (λ old. row) part.row }

-- and after a list of them, the first event first
abbrev pub part_after_all : ℕ → DevicePart → List OwnEvent → DevicePart
part_after_all n part [] = part
part_after_all n part (event ∷ events) = part_after_all n (part_after n part event) events

-- ---- what goes out to a device

-- bytes of a slot's command, from the places in its table
abbrev pub own_data : ℕ → DevicePart → Memory → ℕ × ℕ × ℕ → Option (List ℕ)
own_data n part memory next =
    match_some (part.commands next.0) None (λ command.
    Some (data_fis n (gathered (prds_of memory command) next.1 next.2 memory.client)))

-- the command of the slot that can go
abbrev pub own_order : DevicePart → Option (List ℕ)
own_order part =
    match_some (next_own part.view) None (λ slot.
    match_some (part.commands slot) None (λ command. Some command.cfis))

-- the data that the device asked for, or else a command
abbrev pub own_bytes : ℕ → DevicePart → Memory → Option (List ℕ)
own_bytes n part memory =
    match_some (payload part.view.slots.context) (own_order part) (own_data n part memory)

-- ---- isolation

-- each event of a run belongs to devices, and none to the port
abbrev pub AreOfDevices : (old new : Host) (events : List HostEvent) → Runs old events new → Type 0
AreOfDevices old new [] run = Unit {0}
AreOfDevices old new (event ∷ events) run =
    (is_port_event old event ≡ false) × AreOfDevices run.0 new events run.2

pub record RunsByDevices (old : Host) (events : List HostEvent) (new : Host) : Type 0 where
  pub run : Runs old events new
  pub hosts : AreHosts old new events run
  pub devices : AreOfDevices old new events run

-- a device's own events in it
abbrev pub own_over : ℕ → (old new : Host) (events : List HostEvent) → Runs old events new
    → List OwnEvent
own_over n old new [] run = []
own_over n old new (event ∷ events) run =
    own_events n old event ++ own_over n run.0 new events run.2

-- what belongs to a device after a run is the fold of its own events over what it had before
abbrev pub IsFoldOfOwn : Type 0
IsFoldOfOwn =
    (n : ℕ) → n < 16
    → (old new : Host) (events : List HostEvent) (run : RunsByDevices old events new)
    → part_of n new ≡ part_after_all n (part_of n old) (own_over n old new events run.run)

-- So a device does not depend on what other devices send, what is issued for them, what goes out to them, or
-- which of them are flushed or faulty. Two runs with the same own events take equal parts of it to equal
-- parts.
abbrev pub AreAlike : Type 0
AreAlike =
    (n : ℕ) → n < 16
    → (old new : Host) (events : List HostEvent) (run : RunsByDevices old events new)
    → (old2 new2 : Host) (events2 : List HostEvent) (run2 : RunsByDevices old2 events2 new2)
    → part_of n old ≡ part_of n old2
    → own_over n old new events run.run ≡ own_over n old2 new2 events2 run2.run
    → part_of n new ≡ part_of n new2

-- And what goes out to a device follows from what belongs to it, and from memory only through its own table.
abbrev pub GoesByOwn : Type 0
GoesByOwn =
    (n : ℕ) → n < 16 → (old new : Host) (frame : Stamped) → IsHost old
    → Does old (Gave (Some frame)) new → frame.stamp.port ≡ n
    → own_bytes n (part_of n old) old.memory ≡ Some frame.bytes
