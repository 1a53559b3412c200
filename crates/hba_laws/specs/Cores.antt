-- A host port without a memory, as a list of events: what it decides, and what it is told of memory for that. The
-- memory's part is, at a FIS, the room of the PRD table; at a write of PxCI, the devices and the commands that the command
-- list has in the slots (AHCI 1.3.1, chapters 5 and 9).
use Rattle.std.specs.Prelude.{ℕ, ◌≡◌, ◌+◌, ◌<◌, ◌==◌, ◌&&◌, ◌||◌, Bool, true, false, not, if◌then◌else◌, List, [], ◌∷◌, ◌++◌, length, Option, Some}
use Rattle.std.specs.Prelude.{None, is_none, is_some}
use Rattle.fis_view.specs.{Seen.seen, declared.view.Fis.Fis}
use Rattle.host_memory.specs.declared.table.Prd.{Prd}
use Rattle.slots.specs.{Data.payload, Slots.{Issue, issue_at}, Table.IsTable}
use Rattle.hba_fbs.specs.declared.{register.Register.{Register, TheVariants.{Cmd, Ci, Fbs}}, greeting.{Line.Line, Listens.TheVariants.Greets}}
use Rattle.hba_fbs.specs.declared.{report.TakeReport.TakeReport, room.Room.{Room, TheVariants.{NoTable, Whole}}, turn.Turn.{Turn, TheVariants.Feeds}}
use Rattle.hba_fbs.specs.{declared.turn.Turn.TheVariants.{Orders, Rests}, Choosing.{Chooses, MayChoose, may_feed, may_order}, Deciding.Decides}
use Rattle.hba_fbs.specs.{Deciding.{Passes, decided, decided_view, room_if}, Greeting.{Hangs, Greets as GreetsBy, greeted_in, line_view}}
use Rattle.hba_fbs.specs.{Greeting.listens_with, Issuing.asked, Offering.{AcceptsBy, Offer, aimed_by, asked_by, offer_of, refusal_by}, Placing.Places}
use Rattle.hba_fbs.specs.{Placing.issue_error, Registers.{falls, own_refusal_by}, Resets.{link_reset, whole_reset}, Sending.{Outgoing, Unreadable}}
use Rattle.hba_fbs.specs.{Sending.{outgoing, stopped_by_bus, view_fed}, Stopping.{Overrides, SetsCmd, overridden_view}, Tables.is_sound}
use Rattle.hba_fbs.specs.{Taking.{admitted, ignores, is_running, port_of, stops_with}, Turning.{Turns, turn_of}, Views.{Flushes, IsCorePort, Port}}
use Rattle.hba_fbs.specs.{Views.{last_command, view_of}, Writing.{cleared_by, is_device}}
use Rattle.hba_laws.specs.{Alike.{bytes_out, tables_in}, Hosts.{Does, Host, HostEvent}, Isolation.{OwnEvent, Cleared, Emptied, Issued, RunsByDevices}}
use Rattle.hba_laws.specs.Isolation.{Went, after_order, lowers_st, may_leave, own_over, part_after, part_after_all, row_with, skips}
use Rattle.hba_laws.specs.Parts.{DevicePart, commands_of, part_of, with_view}
use Rattle.hba_laws.specs.Hosts as host

-- ---- a FIS

pub record Hearkens (old : Port) (frame : List ℕ) (room : Room) (report : TakeReport) (new : Port)
    : Type 0 where
  pub ignored : ignores (port_of frame) old frame ≡ true → Passes (port_of frame) old report new
  pub heard : ignores (port_of frame) old frame ≡ false
      → Decides old (port_of frame) room (admitted (port_of frame) (seen frame)) report new

-- ---- events

pub data CoreEvent : Type 0 where
  -- a frame is received, for a table of this room, and with this report
  Took : (frame : List ℕ) → (room : Room) → (report : TakeReport) → CoreEvent
  -- a value is written to a register, and not refused; for each command that is offered its caller keeps a PRD table
  Wrote : (register : Register) → (value : ℕ) → Offer → (tables : ℕ → List Prd) → CoreEvent
  -- a device is flushed
  Flushed : (dev : ℕ) → CoreEvent
  -- what goes out next went in a frame of these bytes, if anything may go
  Gave : (bytes : List ℕ) → CoreEvent
  -- the table of the data that is due cannot be used
  Failed : CoreEvent
  -- commands are issued for a device in these slots, and not refused, with the PRD tables that their caller keeps
  Placed : (dev slots : ℕ) → Offer → (tables : ℕ → List Prd) → CoreEvent
  -- what its caller chose goes in a frame of these bytes
  Chose : (turn : Turn) → (bytes : List ℕ) → CoreEvent
  -- a frame is received while ST is 0 and FRE is 1, with this report
  Greeted : (frame : List ℕ) → (report : TakeReport) → CoreEvent
  -- a value is written to PxCMD, and not refused; BSY and DRQ stay
  Commanded : (value : ℕ) → CoreEvent
  -- BSY and DRQ of a device are cleared by CLO
  Overrode : (dev : ℕ) → CoreEvent
  -- there is no device at a PM Port, or one that was reset and owes its signature
  Hung : (dev : ℕ) → Line → CoreEvent
  -- a COMRESET
  Relinked : CoreEvent
  -- a reset of the whole controller
  Restarted : CoreEvent

-- a Data FIS is its header and as many bytes as the turn says
abbrev pub HasBytes : Turn → List ℕ → Type 0
HasBytes (Feeds dev slot offset len) bytes = length bytes ≡ 4 + len
HasBytes turn bytes = Unit {0}

abbrev pub DoesBy : Port → CoreEvent → Port → Type 0
DoesBy old (Took frame room report) new = Hearkens old frame room report new
DoesBy old (Wrote register value offer tables) new =
    (refusal_by register old offer value ≡ None) × AcceptsBy old offer register value new
DoesBy old (Flushed dev) new = Flushes old dev new
DoesBy old (Gave bytes) new = Turns (turn_of old) old new × HasBytes (turn_of old) bytes
DoesBy old Failed new = new ≡ stopped_by_bus old
DoesBy old (Placed dev slots offer tables) new =
    (dev < 16) × (issue_error old offer slots ≡ None) × Places old offer dev slots new
DoesBy old (Chose turn bytes) new = MayChoose old turn × Chooses turn old new × HasBytes turn bytes
DoesBy old (Greeted frame report) new = (listens_with old.registers ≡ Greets)
    × GreetsBy old (port_of frame) (greeted_in (view_of (port_of frame) old).state (seen frame)) report new
DoesBy old (Commanded value) new = (own_refusal_by Cmd old.registers value ≡ None) × SetsCmd old value new
DoesBy old (Overrode dev) new = Overrides old dev new
DoesBy old (Hung dev line) new = Hangs old dev line new
DoesBy old Relinked new = new ≡ link_reset old
DoesBy old Restarted new = new ≡ whole_reset old

abbrev pub RunsBy : Port → List CoreEvent → Port → Type 0
RunsBy old [] new = new ≡ old
RunsBy old (event ∷ events) new = (next : Port) × DoesBy old event next × RunsBy next events new

-- what holds of every core
pub record IsCore (core : Port) : Type 0 where
  pub port : IsCorePort core
  pub slots : IsTable core.slots

abbrev pub AreCores : (old new : Port) (events : List CoreEvent) → RunsBy old events new → Type 0
AreCores old new [] run = IsCore old
AreCores old new (event ∷ events) run = IsCore old × AreCores run.0 new events run.2

-- ---- events of the port, and own events

abbrev pub stops_by : Port → CoreEvent → Bool
stops_by port (Took frame room report) = not (ignores (port_of frame) port frame)
    && stops_with port.registers.switching
    (decided (port_of frame) (view_of (port_of frame) port) room (admitted (port_of frame) (seen frame))).fault
stops_by port (Wrote register value offer tables) = lowers_st register port.registers value
stops_by port (Flushed dev) = false
stops_by port (Gave bytes) = false
stops_by port Failed = true
stops_by port (Placed dev slots offer tables) = false
stops_by port (Chose turn bytes) = false
stops_by port (Greeted frame report) = true
stops_by port (Commanded value) = falls port.registers value
stops_by port (Overrode dev) = false
stops_by port (Hung dev line) = false
stops_by port Relinked = true
stops_by port Restarted = true

abbrev pub is_of_port : Port → CoreEvent → Bool
is_of_port port event = not (is_running port) || stops_by port event

-- what happens to one device
pub data CoreOwn : Type 0 where
  -- a frame of it is received, for a table of its own command, of this room
  Arrived : (room : Room) → (frame : List ℕ) → CoreOwn
  -- something else, as beside a memory
  Own : OwnEvent → CoreOwn
  -- the data that is due goes to it
  Fed : CoreOwn
  -- the command of this slot goes to it
  Sent : (slot : ℕ) → CoreOwn
  -- its BSY and DRQ are cleared by CLO
  Overridden : CoreOwn
  -- it is not there, or was reset and owes its signature
  Gone : Line → CoreOwn

abbrev pub told_to : ℕ → Port → Register → ℕ → Offer → List CoreOwn
told_to n port Ci value offer =
    if n == aimed_by port.registers offer value then Own (Issued (asked_by offer value)) ∷ [] else []
told_to n port Fbs value offer =
    if is_device n (cleared_by port.errors value) then Own Cleared ∷ [] else []
told_to n port register value offer = []

abbrev pub turned_to : ℕ → Turn → List CoreOwn
turned_to n Rests = []
turned_to n (Feeds dev slot offset len) = if dev == n then Own Went ∷ [] else []
turned_to n (Orders dev slot command) = if dev == n then Own Went ∷ [] else []

-- the data of a device that was chosen, or the command of a slot
abbrev pub chosen_to : ℕ → Turn → List CoreOwn
chosen_to n Rests = []
chosen_to n (Feeds dev slot offset len) = if dev == n then Fed ∷ [] else []
chosen_to n (Orders dev slot command) = if dev == n then Sent slot ∷ [] else []

abbrev pub own_by : ℕ → Port → CoreEvent → List CoreOwn
own_by n port (Took frame room report) = if port_of frame == n then Arrived room frame ∷ [] else []
own_by n port (Wrote register value offer tables) = told_to n port register value offer
own_by n port (Flushed dev) = if dev == n then Own Emptied ∷ [] else []
own_by n port (Gave bytes) = turned_to n (turn_of port)
own_by n port Failed = []
own_by n port (Placed dev slots offer tables) = if dev == n then Own (Issued (asked_by offer slots)) ∷ [] else []
own_by n port (Chose turn bytes) = chosen_to n turn
own_by n port (Greeted frame report) = []
own_by n port (Commanded value) = []
own_by n port (Overrode dev) = if dev == n then Overridden ∷ [] else []
own_by n port (Hung dev line) = if dev == n then Gone line ∷ [] else []
own_by n port Relinked = []
own_by n port Restarted = []

-- ---- what they leave

-- in a run without an event of the port a table could be used where that mattered
abbrev pub used : Room → Room
used NoTable = Whole
used room = room

abbrev pub after_hearing : ℕ → DevicePart → Room → Option Fis → DevicePart
after_hearing n part room fis =
    record (with_view part (decided_view n part.view room fis)) { row = row_with part.row fis }

-- by the very functions of a host with a memory, but that the bytes of a table may run out
abbrev pub part_by : ℕ → DevicePart → CoreOwn → DevicePart
part_by n part (Arrived room frame) = if skips n part (seen frame) then part
    else after_hearing n part (used room) (admitted n (seen frame))
part_by n part (Own event) = part_after n part event
part_by n part Fed = with_view part (view_fed part.view)
part_by n part (Sent slot) = after_order part slot
part_by n part Overridden = with_view part (overridden_view part.view)
part_by n part (Gone line) = with_view part (line_view line)

abbrev pub part_by_all : ℕ → DevicePart → List CoreOwn → DevicePart
part_by_all n part [] = part
part_by_all n part (event ∷ events) = part_by_all n (part_by n part event) events

abbrev pub AreOfOnes : (old new : Port) (events : List CoreEvent) → RunsBy old events new → Type 0
AreOfOnes old new [] run = Unit {0}
AreOfOnes old new (event ∷ events) run =
    (is_of_port old event ≡ false) × AreOfOnes run.0 new events run.2

pub record RunsByOnes (old : Port) (events : List CoreEvent) (new : Port) : Type 0 where
  pub run : RunsBy old events new
  pub cores : AreCores old new events run
  pub ones : AreOfOnes old new events run

abbrev pub own_through : ℕ → (old new : Port) (events : List CoreEvent) → RunsBy old events new
    → List CoreOwn
own_through n old new [] run = []
own_through n old new (event ∷ events) run =
    own_by n old event ++ own_through n run.0 new events run.2

-- ---- isolation

-- What belongs to a device of the core: its view, and the commands of its slots. Its row of the received area is
-- wherever the reports were posted; of it, only whether there is one matters here.
pub record IsPart (n : ℕ) (port : Port) (part : DevicePart) : Type 0 where
  pub view : part.view ≡ view_of n port
  pub commands : part.commands ≡ commands_of (view_of n port).slots (last_command port.commands)
  pub row : is_some part.row ≡ port.registers.switching

-- What belongs to a device after a run is the fold of its own events over what it had before: no register, no memory
-- and no other device is in it.
abbrev pub IsFoldByOwn : Type 0
IsFoldByOwn =
    (n : ℕ) → n < 16
    → (old new : Port) (events : List CoreEvent) (run : RunsByOnes old events new) (part : DevicePart)
    → IsPart n old part
    → IsPart n new (part_by_all n part (own_through n old new events run.run))

-- With FIS-based switching, what may go to a device follows from its own view: no other device keeps it back.
pub record GoesByView (n : ℕ) (port : Port) : Type 0 where
  pub feeds : may_feed port n ≡ (is_some (payload (view_of n port).slots.context) && is_none (view_of n port).fault)
  pub orders : (slot : ℕ) (issue : Issue) → issue_at port.slots slot ≡ Some issue → issue.dev ≡ n
      → may_order port slot ≡ may_leave (view_of n port) issue

abbrev pub CoreGoesByView : Type 0
CoreGoesByView =
    (n : ℕ) → n < 16 → (port : Port) → is_running port ≡ true → port.registers.switching ≡ true → GoesByView n port

-- ---- a host with a memory is such a port, and its memory gives the answers

abbrev pub gave_event : Outgoing → (bytes : List ℕ) → CoreEvent
gave_event (Unreadable dev) bytes = Failed
gave_event outgoing bytes = Gave bytes

abbrev pub core_event : Host → HostEvent → Option CoreEvent
core_event h (host.Took frame report) =
    let dev = port_of frame in
    Some (Took frame (room_if (is_sound h.memory h.port.commands (view_of dev h.port).slots)) report)
core_event h (host.Wrote register value) =
    let r = h.port.registers in
    Some (Wrote register value (offer_of r h.memory) (tables_in h.memory (Issued (asked r h.memory value))))
core_event h (host.Flushed dev) = Some (Flushed dev)
core_event h (host.Gave frame) =
    Some (gave_event (outgoing h.port h.memory) (bytes_out (host.Gave frame)))
core_event h (host.Stored structure) = None
core_event h (host.Rewrote dev row) = None
core_event h (host.Put at bytes) = None

abbrev pub StepsBy : Port → Option CoreEvent → Port → Type 0
StepsBy old None new = new ≡ old
StepsBy old (Some event) new = DoesBy old event new

-- So each event of a host is one of its core, or none of it: whatever is proved of runs of the core holds of its port.
abbrev pub HostsAreCores : Type 0
HostsAreCores =
    (old new : Host) (event : HostEvent) → Does old event new
    → StepsBy old.port (core_event old event) new.port

-- And what belongs to a device of a host is, but for the bytes of its row, what its core's isolation says.
abbrev pub HostsFoldByCore : Type 0
HostsFoldByCore =
    (n : ℕ) → n < 16
    → (old new : Host) (events : List HostEvent) (run : RunsByDevices old events new)
    → IsPart n new.port (part_after_all n (part_of n old) (own_over n old new events run.run))
