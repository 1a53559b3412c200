-- What a host port delivers: the history of each device over a list of events, and what that history says of
-- the slots that become free and of the client bytes (AHCI 1.3.1, 5.3 and 9.3; Serial ATA 3.x, 10.5; ACS-3,
-- NCQ and PIO data-in commands).
use Rattle.std.specs.Prelude.{ℕ, ◌≡◌, ◌+◌, ◌<◌, Bool, false, true, if◌then◌else◌, List, [], ◌∷◌, ◌++◌, length, drop, is_some, map, slice_index}
use Rattle.std.specs.Prelude.{Option, Some, None, MatchOption, zero, suc}
use Rattle.fis_view.specs.{Frames.IsFrame, Seen.seen}
use Rattle.host_memory.specs.{Memory.{Memory, client_start}, Place.place}
use Rattle.hba_commands.specs.declared.command.Command.{Command}
use Rattle.slots.specs.{Slots.{Issue, Slots, has_bit, holds, is_control, issue_at, match_some}, Work.{is_dma, is_read}}
use Rattle.slots.specs.declared.answer.Answered.{Answered}
use Rattle.slots.specs.declared.answer.Answered.TheVariants as answer
use Rattle.hba_fbs.specs.declared.{hearing.{Happening.Happening, Heard.Heard}, register.Register.{Register, TheVariants.{Cmd, Ci, Fbs}}}
use Rattle.hba_fbs.specs.{declared.{report.TakeReport.TakeReport, status.Block.Block}, Issuing.{aimed, asked}, Registers.falls, Sending.Outgoing}
use Rattle.hba_fbs.specs.{Sending.{gathered, outgoing}, Tables.prds_of, Taking.{admitted, heard_now, ignores, port_of}, Views.last_command}
use Rattle.hba_fbs.specs.{Views.opening_port, Writing.cleared_by}
use Rattle.hba_fbs.specs.declared.hearing.Happening.TheVariants as happening
use Rattle.hba_fbs.specs.Sending as out
use Rattle.hba_laws.specs.{Agreement.{AreHistoriesOf, IsHistoryOf}, Client.{AreWithin, By, Filling, IsKept, IsReading, Puts, Stops, Touches, client}}
use Rattle.hba_laws.specs.{Client.{filling, own}, History.{Event, History, Transfer, completes, filled, issued}, Hosts.{Flushed, Gave, Host}}
use Rattle.hba_laws.specs.{Hosts.{HostEvent, Put, Rewrote, Runs, Stored, TakesFrame, Took, Wrote}, Sound.{AreHosts, IsHost}}
use Rattle.hba_laws.specs.History as event

-- ---- a frame is received

-- a Register FIS is an answer, except one received while bytes of a command are missing
abbrev pub event_of_answer : Answered → Option Event
event_of_answer answer.Nobody = Some event.Answered
event_of_answer (answer.Queued slot) = Some event.Answered
event_of_answer (answer.Done slot) = Some event.Answered
event_of_answer (answer.Short slot) = None

-- a PIO Setup begins a block
abbrev pub event_of_block : ℕ → Bool → Option Block → Option Event
event_of_block count to_host None = None
event_of_block count to_host (Some block) = Some (event.PioSetUp count to_host block.ends)

-- the event of a happening, given the device's block at that time and the payload of its frame
abbrev pub event_of : Happening → Option Block → List ℕ → Option Event
event_of happening.Nothing block payload = None
event_of (happening.Answered a) block payload = event_of_answer a
event_of (happening.Named mask) block payload = Some (event.Named mask)
event_of (happening.SetUp c) block payload = Some (event.SetUp c.slot c.next c.left c.to_host)
event_of (happening.PioSetUp count to_host) block payload = event_of_block count to_host block
event_of happening.Activated block payload = None
event_of (happening.Carried wrote finishes) block payload = Some (event.Carried payload)

abbrev pub event_heard : Heard → List ℕ → Option Event
event_heard h payload = event_of h.happening h.state.block payload

-- The event that a frame is for its device, given the state of the host. It follows from what the device's
-- view hears, and never from what is reported. An ignored frame is no event.
abbrev pub event_taken : Host → List ℕ → Option Event
event_taken host frame =
    let dev = port_of frame in
    if ignores dev host.port frame then None
    else event_heard (heard_now host.port host.memory dev (admitted dev (seen frame))) (drop 4 frame)

abbrev pub by_device : ℕ → Option Event → Touches
by_device dev None = []
by_device dev (Some e) = By dev e ∷ []

-- ---- commands are issued, and frames go out

-- a command is issued in a slot, with its PRDs as they are now
abbrev pub issued_in : ℕ → Memory → ℕ → Option Command → Touches
issued_in dev memory slot None = []
issued_in dev memory slot (Some command) =
    By dev (event.Issued slot (record { work = command.work; table = prds_of memory command })) ∷ []

-- commands are issued in slots below a number, the lowest first; so the highest comes first here
unfoldable pub issued_below : ℕ → Memory → (ℕ → Option Command) → ℕ → Touches
issued_below dev memory commands zero = []
issued_below dev memory commands (suc slot) =
    issued_in dev memory slot (commands slot) ++ issued_below dev memory commands slot

-- the error of a device is cleared, if there is a device
abbrev pub touched_by_clear : Option ℕ → Touches
touched_by_clear None = []
touched_by_clear (Some dev) = By dev event.Emptied ∷ []

-- a write issues commands, or takes ST to 0, or clears the error of the device that PxFBS shows
abbrev pub touched_by_write : Register → Host → ℕ → Touches
touched_by_write Cmd host value = if falls host.port.registers value then Stops ∷ [] else []
touched_by_write Ci host value =
    let r = host.port.registers in
    issued_below (aimed r host.memory.structure value) host.memory (asked r host.memory value) 32
touched_by_write Fbs host value = touched_by_clear (cleared_by host.port.errors value)
touched_by_write register host value = []

abbrev pub is_control_issue : Issue → Bool
is_control_issue issue = is_control issue.work.kind

-- the frame of a slot goes out
abbrev pub event_sent : Slots → ℕ → Event
event_sent slots slot =
    if holds is_control_issue (issue_at slots slot) then event.SentControl slot else event.Sent slot

-- a command that has no setup is its own, for all its bytes
abbrev pub begun_by : ℕ → Option Issue → History
begun_by slot None = []
begun_by slot (Some issue) = if is_dma issue.work.kind
    then event.SetUp slot 0 issue.work.len (is_read issue.work.kind) ∷ [] else []

abbrev pub touched_by_out : Host → Outgoing → Touches
touched_by_out host out.Nothing = []
touched_by_out host (out.Unreadable dev) = []
touched_by_out host (out.Data dev offset len command) =
    let prds = prds_of host.memory command in
    By dev (event.Carried (gathered prds offset len host.memory.client)) ∷ []
touched_by_out host (out.Order dev slot command) =
    map (By dev) (begun_by slot (issue_at host.port.slots slot))
    ++ By dev (event_sent host.port.slots slot) ∷ []

-- ---- over events

-- what an event touches, given the host before it, the latest first
abbrev pub touched : Host → HostEvent → Touches
touched host (Took frame report) = by_device (port_of frame) (event_taken host frame)
touched host (Wrote register value) = touched_by_write register host value
touched host (Flushed dev) = By dev event.Emptied ∷ []
touched host (Gave frame) = touched_by_out host (outgoing host.port host.memory)
touched host (Stored structure) = []
touched host (Rewrote dev row) = []
touched host (Put at bytes) = Puts at bytes ∷ []

-- what was touched after these events, the latest first
abbrev pub touches_after : Touches → (old new : Host) → (events : List HostEvent)
    → Runs old events new → Touches
touches_after past old new [] run = past
touches_after past old new (event ∷ events) run =
    touches_after (touched old event ++ past) run.0 new events run.2

-- and the history of one device
abbrev pub history_after : ℕ → History → (old new : Host) → (events : List HostEvent)
    → Runs old events new → History
history_after n past old new [] run = past
history_after n past old new (event ∷ events) run =
    history_after n (own n (touched old event) ++ past) run.0 new events run.2

-- what is received is a frame
abbrev pub IsFramed : HostEvent → Type 0
IsFramed (Took frame report) = IsFrame frame
IsFramed event = Unit {0}

abbrev pub AreFramed : List HostEvent → Type 0
AreFramed [] = Unit {0}
AreFramed (event ∷ events) = IsFramed event × AreFramed events

-- what every port and every memory keeps, at each host of a run, and what every frame is
pub record IsSound (old new : Host) (events : List HostEvent) (run : Runs old events new) : Type 0 where
  pub hosts : AreHosts old new events run
  pub frames : AreFramed events

-- ---- laws

-- After every list of events, from any sound host and any history of a device, its view is what its history
-- says.
abbrev pub ViewsAreTold : Type 0
ViewsAreTold =
    (n : ℕ) → n < 16 → (old new : Host) (events : List HostEvent) (run : Runs old events new)
    → IsSound old new events run → (past : History) → IsHistoryOf n old past
    → IsHistoryOf n new (history_after n past old new events run)

-- no device of a port that opens has a history yet
abbrev pub OpensUntold : Type 0
OpensUntold =
    (n : ℕ) (memory : Memory) → IsHistoryOf n (record { port = opening_port; memory = memory }) []

-- the history of a device is its part of all touches
abbrev pub HistoriesAreParts : Type 0
HistoriesAreParts =
    (n : ℕ) (past : Touches) (old new : Host) (events : List HostEvent) (run : Runs old events new)
    → own n (touches_after past old new events run) ≡ history_after n (own n past) old new events run

-- the frame completes what is issued in slot s of its device, after this history
abbrev pub completes_now : ℕ → Host → List ℕ → History → Bool
completes_now s host frame past =
    match_some (issued s past) false (λ t.
    match_some (event_taken host frame) false (λ e. completes s e past t.work))

-- A report names the device of its frame. Its done has the bit of each slot that the frame completes, and no
-- other.
pub record ReportsDone (host : Host) (frame : List ℕ) (report : TakeReport) (past : History) : Type 0 where
  pub own_device : report.dev ≡ port_of frame
  pub done : (s : ℕ) → s < 32 → has_bit report.done s ≡ completes_now s host frame past

-- this holds for each frame that is received, after every list of events
abbrev pub DoneIsCompleted : Type 0
DoneIsCompleted =
    (old host new : Host) (events : List HostEvent) (run : Runs old events host)
    → IsSound old host events run → (frame : List ℕ) (report : TakeReport) (past : History)
    → IsFrame frame → IsHistoryOf (port_of frame) old past → TakesFrame host frame report new
    → ReportsDone host frame report (history_after (port_of frame) past old host events run)

-- Data that is heard, or that goes out, stays within the issue of its setup, after every list of events.
abbrev pub DataIsWithin : Type 0
DataIsWithin =
    (old new : Host) (events : List HostEvent) (run : Runs old events new)
    → IsSound old new events run → (past : Touches) → AreHistoriesOf old past → AreWithin past
    → AreWithin (touches_after past old new events run)

-- ---- client bytes

-- the PRDs of the slot that Data fills are those that were there at its issue
abbrev pub ReadsAsIssued : Host → Filling → Type 0
ReadsAsIssued host f = MatchOption (last_command host.port.commands f.slot) (Unit {0}) (λ command.
    prds_of host.memory command ≡ f.transfer.table)

abbrev pub DataReadsAsIssued : Host → History → Event → Type 0
DataReadsAsIssued host past (event.Carried bytes) =
    MatchOption (filling past) (Unit {0}) (ReadsAsIssued host)
DataReadsAsIssued host past e = Unit {0}

-- this holds where the received frame is Data and is heard
abbrev pub IsReadAsIssued : Touches → Host → HostEvent → Type 0
IsReadAsIssued past host (Took frame report) =
    MatchOption (event_taken host frame) (Unit {0})
    (DataReadsAsIssued host (own (port_of frame) past))
IsReadAsIssued past host event = Unit {0}

-- this holds at each event of a run
abbrev pub AreReadAsIssued : Touches → (old new : Host) → (events : List HostEvent)
    → Runs old events new → Type 0
AreReadAsIssued past old new [] run = Unit {0}
AreReadAsIssued past old new (event ∷ events) run =
    IsReadAsIssued past old event
    × AreReadAsIssued (touched old event ++ past) run.0 new events run.2

-- the client bytes of a host are the bytes before, with these touches applied
abbrev pub IsClient : (ℕ → ℕ) → Touches → Host → Type 0
IsClient before past host = (k : ℕ) → k < length host.memory.client
    → slice_index host.memory.client k ≡ client before past (client_start + k)

-- Client memory is what the touches make of it, after every list of events over which tables read as at the
-- issues.
abbrev pub ClientIsTouched : Type 0
ClientIsTouched =
    (old new : Host) (events : List HostEvent) (run : Runs old events new)
    → IsSound old new events run → (before : ℕ → ℕ) (past : Touches) → AreHistoriesOf old past
    → AreReadAsIssued past old new events run
    → IsClient before past old → IsClient before (touches_after past old new events run) new

-- ---- tables that stay

-- what the history of device n has issued in a slot has the PRDs of the slot's command, as they are now
abbrev pub HasTables : ℕ → Host → History → Type 0
HasTables n host past = (s : ℕ) (t : Transfer) (command : Command) → issued s past ≡ Some t
    → last_command host.port.commands s ≡ Some command → prds_of host.memory command ≡ t.table

abbrev pub HaveTables : Host → Touches → Type 0
HaveTables host past = (n : ℕ) → n < 16 → HasTables n host (own n past)

-- the PRDs of each issued command stay unchanged
abbrev pub SparesTables : Host → Host → Type 0
SparesTables old new =
    (s : ℕ) (command : Command) → is_some (issue_at old.port.slots s) ≡ true
    → last_command old.port.commands s ≡ Some command
    → prds_of new.memory command ≡ prds_of old.memory command

-- over each event of a run
abbrev pub AreSpared : (old new : Host) → (events : List HostEvent) → Runs old events new → Type 0
AreSpared old new [] run = Unit {0}
AreSpared old new (event ∷ events) run = SparesTables old run.0 × AreSpared run.0 new events run.2

-- Where no event changes the PRDs of a command while it is issued, all Data is written by the tables as they
-- were at the issues.
abbrev pub SparedTablesRead : Type 0
SparedTablesRead =
    (old new : Host) (events : List HostEvent) (run : Runs old events new)
    → IsSound old new events run → (past : Touches) → AreHistoriesOf old past → HaveTables old past
    → AreSpared old new events run
    → AreReadAsIssued past old new events run
    × HaveTables new (touches_after past old new events run)

-- ---- a read that completes

-- a byte of what was issued in slot s of device n is filled, and stands in client memory at this offset
pub record IsDelivered (n s i : ℕ) (touches : Touches) (client_bytes : List ℕ) (k : ℕ) : Type 0 where
  pub byte : ℕ
  pub is_filled : filled s (own n touches) i ≡ Some byte
  pub stands : slice_index client_bytes k ≡ byte

-- Where a report says that a read is done, each byte of the read is filled, and stands in client memory at
-- the place that the read's table named at its issue.
abbrev pub DoneReadsStand : Type 0
DoneReadsStand =
    (host new : Host) (frame : List ℕ) (report : TakeReport) → IsHost host → IsFrame frame
    → TakesFrame host frame report new → (before : ℕ → ℕ) (past : Touches) → AreHistoriesOf host past
    → AreWithin past → IsClient before past host → IsReadAsIssued past host (Took frame report)
    → IsKept (touched host (Took frame report) ++ past)
    → (s i k : ℕ) (t : Transfer) → s < 32 → has_bit report.done s ≡ true
    → IsReading (port_of frame) s t past → i < t.work.len → place t.table i ≡ client_start + k
    → k < length new.memory.client
    → IsDelivered (port_of frame) s i (touched host (Took frame report) ++ past) new.memory.client k
