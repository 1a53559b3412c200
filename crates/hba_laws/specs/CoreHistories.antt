-- What a host port that holds no memory does with the commands of a device: the history of each device over a list of
-- the core's events, which slots a report names, and which bytes of which slots Data fills (AHCI 1.3.1, 5.3 and 9.3;
-- Serial ATA 3.x, 10.5). The histories are those of a host with a memory. Of memory they have the PRD tables that the
-- caller keeps, into which nothing here looks, and the bytes that it sends.
use Rattle.std.specs.Prelude.{ℕ, ◌≡◌, ◌+◌, ◌<◌, ◌≤◌, ◌==◌, ◌||◌, Bool, true, false, if◌then◌else◌, is_some, List, [], ◌∷◌, ◌++◌, drop, length, map}
use Rattle.std.specs.{Prelude.{Option, Some, None, MatchOption}, List.AllZip}
use Rattle.fis_view.specs.{Frames.IsFrame, Seen.seen}
use Rattle.host_memory.specs.declared.table.Prd.{Prd}
use Rattle.slots.specs.Slots.{has_bit, issue_at, match_some, own_issue}
use Rattle.hba_fbs.specs.declared.{register.Register.{Register, TheVariants.{Cmd, Ci, Fbs}}, report.{TakeReport.TakeReport, Wrote.Wrote}}
use Rattle.hba_fbs.specs.{declared.{room.Room.Room, turn.Turn.{Turn, TheVariants.{Feeds, Orders, Rests}}}, Choosing.MayChoose, Deciding.decided}
use Rattle.hba_fbs.specs.{Offering.{Offer, aimed_by, asked_by}, Registers.falls, Taking.{admitted, ignores, port_of}, Turning.turn_of, Views.Port}
use Rattle.hba_fbs.specs.{Views.{opening_port, view_of}, Writing.{cleared_by, is_device}}
use Rattle.hba_laws.specs.{Agreement.IsTold, Alike.{AreFilledAlike, told_issued, told_order, told_own}, Client.IsWithin, Cores.{AreCores, Arrived}}
use Rattle.hba_laws.specs.Cores.{Chose, Commanded, CoreEvent, CoreOwn, Failed, Fed, Flushed, Gave, Gone, Greeted, Hearkens, Hung, IsPart, Overridden}
use Rattle.hba_laws.specs.Cores.{Overrode, Own, Placed, Relinked, Restarted, RunsBy, RunsByOnes, Sent, Took, own_by, part_by, used}
use Rattle.hba_laws.specs.{Delivering.{begun_by, event_heard, event_sent}, History.{Event, History, completes, is_set_up, issued, next_number}}
use Rattle.hba_laws.specs.{Isolation.skips, Parts.DevicePart}
use Rattle.hba_laws.specs.Cores as core
use Rattle.hba_laws.specs.History as event
use Rattle.hba_laws.specs.Isolation as isolation

-- ---- histories

-- the event that a frame is for its device, which an ignored frame is not
abbrev pub event_by : Port → Room → (frame : List ℕ) → Option Event
event_by port room frame =
    let dev = port_of frame in
    if ignores dev port frame then None
    else event_heard (decided dev (view_of dev port) room (admitted dev (seen frame))) (drop 4 frame)

-- a write issues commands, or takes ST to 0, or clears the error of the device that PxFBS shows
abbrev pub written_for : ℕ → Port → Register → ℕ → Offer → (tables : ℕ → List Prd) → History
written_for n port Cmd value offer tables = if falls port.registers value then event.Emptied ∷ [] else []
written_for n port Ci value offer tables =
    if n == aimed_by port.registers offer value then told_issued (asked_by offer value) tables 32 else []
written_for n port Fbs value offer tables =
    if is_device n (cleared_by port.errors value) then event.Emptied ∷ [] else []
written_for n port register value offer tables = []

abbrev pub turned_for : ℕ → Port → Turn → (bytes : List ℕ) → History
turned_for n port Rests bytes = []
turned_for n port (Feeds dev slot offset len) bytes = if dev == n then event.Carried (drop 4 bytes) ∷ [] else []
turned_for n port (Orders dev slot command) bytes = if dev == n
    then begun_by slot (issue_at port.slots slot) ++ event_sent port.slots slot ∷ [] else []

-- what an event of the core is for a device, the latest first
abbrev pub happened : ℕ → Port → CoreEvent → History
happened n port (Took frame room report) =
    if port_of frame == n then match_some (event_by port room frame) [] (λ e. e ∷ []) else []
happened n port (core.Wrote register value offer tables) = written_for n port register value offer tables
happened n port (Flushed dev) = if dev == n then event.Emptied ∷ [] else []
happened n port (Gave bytes) = turned_for n port (turn_of port) bytes
happened n port Failed = []
happened n port (Placed dev slots offer tables) =
    if dev == n then told_issued (asked_by offer slots) tables 32 else []
happened n port (Chose turn bytes) = turned_for n port turn bytes
happened n port (Greeted frame report) = []
happened n port (Commanded value) = if falls port.registers value then event.Emptied ∷ [] else []
happened n port (Overrode dev) = []
happened n port (Hung dev line) = if dev == n then event.Emptied ∷ [] else []
happened n port Relinked = event.Emptied ∷ []
happened n port Restarted = event.Emptied ∷ []

-- the history of a device after these events
abbrev pub history_through : ℕ → History → (old new : Port) → (events : List CoreEvent) → RunsBy old events new
    → History
history_through n past old new [] run = past
history_through n past old new (event ∷ events) run =
    history_through n (happened n old event ++ past) run.0 new events run.2

-- what is received is a frame
abbrev pub IsFramedBy : CoreEvent → Type 0
IsFramedBy (Took frame room report) = IsFrame frame
IsFramedBy (Greeted frame report) = IsFrame frame
IsFramedBy event = Unit {0}

abbrev pub AreFramedBy : List CoreEvent → Type 0
AreFramedBy [] = Unit {0}
AreFramedBy (event ∷ events) = IsFramedBy event × AreFramedBy events

-- What every core keeps (`PortCore::keeps_rules`) at each event of a run, and what every frame is
pub record AreSoundBy (old new : Port) (events : List CoreEvent) (run : RunsBy old events new) : Type 0 where
  pub cores : AreCores old new events run
  pub frames : AreFramedBy events

-- After every list of events, from every history of a device, its view is what its history says, whatever was
-- answered about the tables.
abbrev pub CoreViewsAreTold : Type 0
CoreViewsAreTold =
    (n : ℕ) → n < 16 → (old new : Port) (events : List CoreEvent) (run : RunsBy old events new)
    → AreSoundBy old new events run → (past : History) → IsTold (view_of n old) past
    → IsTold (view_of n new) (history_through n past old new events run)

-- no device of a port that opens has a history yet
abbrev pub CoreOpensUntold : Type 0
CoreOpensUntold = (n : ℕ) → IsTold (view_of n opening_port) []

-- ---- what a report says

-- the frame completes what is issued in slot s of its device, after this history
abbrev pub is_completed_by : ℕ → Port → Room → (frame : List ℕ) → History → Bool
is_completed_by s port room frame past =
    match_some (issued s past) false (λ t.
    match_some (event_by port room frame) false (λ e. completes s e past t.work))

-- The report names the device of its frame. Its done has the bit of each slot that the frame completes, and no other.
pub record ReportsDoneBy (port : Port) (room : Room) (frame : List ℕ) (report : TakeReport) (past : History)
    : Type 0 where
  pub own_device : report.dev ≡ port_of frame
  pub done : (s : ℕ) → s < 32 → has_bit report.done s ≡ is_completed_by s port room frame past

-- so it is for each frame that is received, after every list of events
abbrev pub CoreDoneIsCompleted : Type 0
CoreDoneIsCompleted =
    (old port new : Port) (events : List CoreEvent) (run : RunsBy old events port)
    → AreSoundBy old port events run → (frame : List ℕ) (room : Room) (report : TakeReport) (past : History)
    → IsFrame frame → IsTold (view_of (port_of frame) old) past → Hearkens port frame room report new
    → ReportsDoneBy port room frame report (history_through (port_of frame) past old port events run)

-- ---- histories by own events

-- an own event of a device, with the tables and the bytes that the caller brings to it
pub record Given : Type 0 where
  pub event : CoreOwn
  -- by slot: the table of the command issued there now
  pub tables : ℕ → List Prd
  -- the bytes of the frame that goes to the device
  pub bytes : List ℕ

-- the same event, with the same bytes, and with the same PRDs at each slot of a port
pub record IsGivenAlike (one other : Given) : Type 0 where
  pub event : one.event ≡ other.event
  pub tables : (slot : ℕ) → slot < 32 → one.tables slot ≡ other.tables slot
  pub bytes : one.bytes ≡ other.bytes

abbrev pub tables_by : CoreEvent → CoreOwn → ℕ → List Prd
tables_by (core.Wrote register value offer tables) (Own (isolation.Issued commands)) slot = tables slot
tables_by (Placed dev slots offer tables) (Own (isolation.Issued commands)) slot = tables slot
tables_by event own slot = []

abbrev pub bytes_by : CoreEvent → List ℕ
bytes_by (Gave bytes) = bytes
bytes_by (Chose turn bytes) = bytes
bytes_by event = []

abbrev pub with_caller : CoreEvent → CoreOwn → Given
with_caller event own = record { event = own; tables = tables_by event own; bytes = bytes_by event }

abbrev pub given_by : ℕ → Port → CoreEvent → List Given
given_by n port event = map (with_caller event) (own_by n port event)

abbrev pub given_through : ℕ → (old new : Port) (events : List CoreEvent) → RunsBy old events new → List Given
given_through n old new [] run = []
given_through n old new (event ∷ events) run = given_by n old event ++ given_through n run.0 new events run.2

-- a frame of the device is what its own view hears, for a table of this room
abbrev pub told_arrival : ℕ → DevicePart → Room → List ℕ → Option Event
told_arrival n part room frame =
    if skips n part (seen frame) then None
    else event_heard (decided n part.view (used room) (admitted n (seen frame))) (drop 4 frame)

abbrev pub told_given : ℕ → DevicePart → CoreOwn → (ℕ → List Prd) → List ℕ → History
told_given n part (Arrived room frame) tables bytes =
    match_some (told_arrival n part room frame) [] (λ e. e ∷ [])
told_given n part (Own event) tables bytes = told_own n part event tables bytes
told_given n part Fed tables bytes = event.Carried (drop 4 bytes) ∷ []
told_given n part (Sent slot) tables bytes = begun_by slot (own_issue part.view.slots slot) ++ told_order part slot ∷ []
told_given n part Overridden tables bytes = []
told_given n part (Gone line) tables bytes = event.Emptied ∷ []

-- The history of a device after a list of its own events, the first event first. It sees no register and no other
-- device, and of memory only what was brought.
abbrev pub history_given : ℕ → DevicePart → History → List Given → History
history_given n part past [] = past
history_given n part past (g ∷ later) =
    history_given n (part_by n part g.event) (told_given n part g.event g.tables g.bytes ++ past) later

-- The history of a device follows from what belongs to it, its own events, and what the caller brought to these.
abbrev pub CoreHistoriesByOwn : Type 0
CoreHistoriesByOwn =
    (n : ℕ) → n < 16
    → (old new : Port) (events : List CoreEvent) (run : RunsByOnes old events new) (part : DevicePart)
    → IsPart n old part → (past : History)
    → history_through n past old new events run.run
    ≡ history_given n part past (given_through n old new events run.run)

-- So two runs with the same own events, to which the callers brought the same, fill its slots alike.
abbrev pub CoreFillAlike : Type 0
CoreFillAlike =
    (n : ℕ) → n < 16 → (part : DevicePart)
    → (old new : Port) (events : List CoreEvent) (run : RunsByOnes old events new) → IsPart n old part
    → (old2 new2 : Port) (events2 : List CoreEvent) (run2 : RunsByOnes old2 events2 new2) → IsPart n old2 part
    → (past : History)
    → AllZip IsGivenAlike (given_through n old new events run.run) (given_through n old2 new2 events2 run2.run)
    → AreFilledAlike (history_through n past old new events run.run)
    (history_through n past old2 new2 events2 run2.run)

-- ---- filled bytes

-- all Data of a device was within what was issued for it
abbrev pub WereWithin : History → Type 0
WereWithin [] = Unit {0}
WereWithin (event.Carried bytes ∷ past) = IsWithin past (length bytes) × WereWithin past
WereWithin (_ ∷ past) = WereWithin past

abbrev pub CoreDataIsWithin : Type 0
CoreDataIsWithin =
    (n : ℕ) → n < 16 → (old new : Port) (events : List CoreEvent) (run : RunsBy old events new)
    → AreSoundBy old new events run → (past : History) → IsTold (view_of n old) past → WereWithin past
    → WereWithin (history_through n past old new events run)

-- Data of this length fills what is issued in a slot, from a number on: the last setup since the issue is for the slot
pub record FillsFrom (slot offset len : ℕ) (past : History) : Type 0 where
  pub is_up : is_set_up slot past ≡ true
  pub from : next_number past ≡ offset
  pub of_issue : MatchOption (issued slot past) ⊥ (λ t. offset + len ≤ t.work.len)

abbrev pub IsNoData : Option Event → Type 0
IsNoData (Some (event.Carried bytes)) = ⊥
IsNoData e = Unit {0}

-- what a report says of a payload is what the event fills; it says so of Data alone
pub record FillsAs (wrote : Wrote) (payload : List ℕ) (e : Option Event) (past : History) : Type 0 where
  pub is : e ≡ Some (event.Carried payload)
  pub len : wrote.len ≡ length payload
  pub fills : FillsFrom wrote.slot wrote.offset wrote.len past

abbrev pub ReportsFilled : Option Wrote → (payload : List ℕ) → Option Event → History → Type 0
ReportsFilled None payload e past = IsNoData e
ReportsFilled (Some wrote) payload e past = FillsAs wrote payload e past

-- So it is for each frame that is received, after every list of events.
abbrev pub CoreReportsFilled : Type 0
CoreReportsFilled =
    (old port new : Port) (events : List CoreEvent) (run : RunsBy old events port)
    → AreSoundBy old port events run → (frame : List ℕ) (room : Room) (report : TakeReport) (past : History)
    → IsTold (view_of (port_of frame) old) past → Hearkens port frame room report new
    → ReportsFilled report.wrote (drop 4 frame) (event_by port room frame)
    (history_through (port_of frame) past old port events run)

-- And the slot and the numbers of the bytes that go out are those of the device's history.
abbrev pub CoreSendsFilled : Type 0
CoreSendsFilled =
    (old port : Port) (events : List CoreEvent) (run : RunsBy old events port) → AreSoundBy old port events run
    → (dev slot offset len : ℕ) (past : History) → turn_of port ≡ Feeds dev slot offset len
    → IsTold (view_of dev old) past → FillsFrom slot offset len (history_through dev past old port events run)

-- So it is of bytes that the caller chose.
abbrev pub CoreChoicesFilled : Type 0
CoreChoicesFilled =
    (old port : Port) (events : List CoreEvent) (run : RunsBy old events port) → AreSoundBy old port events run
    → (dev slot offset len : ℕ) (past : History) → MayChoose port (Feeds dev slot offset len)
    → IsTold (view_of dev old) past → FillsFrom slot offset len (history_through dev past old port events run)

-- ---- what frees a slot

-- the event frees what is issued in slot s: it completes it, or is the Control there, which goes, or the device is emptied
abbrev pub frees : ℕ → Event → History → Bool
frees s (event.Issued slot t) past = false
frees s (event.SentControl slot) past = slot == s
frees s event.Emptied past = true
frees s e past = match_some (issued s past) false (λ t. completes s e past t.work)

-- one of these events does, the latest first, after this history
abbrev pub is_freed_in : ℕ → History → History → Bool
is_freed_in s [] past = false
is_freed_in s (e ∷ h) past = frees s e (h ++ past) || is_freed_in s h past

-- After every list of events, what was issued in a slot of a device is issued still, or something is, or an event of that
-- device freed it. So no bit of PxCI and none of a queued command in PxSACT falls for another reason, but that PxCI shows a
-- queued command no longer once its device answered it.
abbrev pub CoreFreedByOwn : Type 0
CoreFreedByOwn =
    (n : ℕ) → n < 16 → (old new : Port) (events : List CoreEvent) (run : RunsBy old events new)
    → AreSoundBy old new events run → (past : History) → IsTold (view_of n old) past
    → (s : ℕ) → is_some (own_issue (view_of n old).slots s) ≡ true
    → is_some (own_issue (view_of n new).slots s) ≡ false
    → is_freed_in s (history_through n [] old new events run) past ≡ true
