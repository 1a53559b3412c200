-- What is due, as a function of what is known and of what a tick sees. The driver's list, first item first:
-- open the port, start it again after a fault, clear the fault of a device, bring up the multiplier and watch
-- it by slot 31, identify a device or recover it by slot 30, issue a request (AHCI 1.3.1, 5.5, 6.2.2, error
-- recovery, and 9.3, FIS-based Switching, on errors).
use Rattle.std.specs.Prelude.{ℕ, ◌%◌, ◌<◌, ◌==◌, ◌&&◌, ◌||◌, Bool, true, false, not, nat_lt, if◌then◌else◌, List, slice_index_or, Option, Some, None}
use Rattle.std.specs.{Prelude.is_some, List.list_any, Option.{option_map, option_or}}
use Rattle.slots.specs.Slots.{has_bit, lowest_below, match_some}
use Rattle.hba_driver.specs.declared.mode.Mode.{Mode, TheVariants.{Switching, CommandBased}}
use Rattle.hba_driver.specs.declared.{order.Order.{Order, TheVariants.{AwaitSignature, CountPorts, ResetOn, Scan, Detect, Watch}}, path.Path.Path}
use Rattle.hba_driver.specs.declared.{path.Recovery.TheVariants.Reset, path.Stage.{Stage, TheVariants.{Identify, ReadLog, AwaitReset}}}
use Rattle.hba_driver.specs.declared.{plan.Device.{Device, TheVariants.{Absent, Starting, Ready, Unusable, Recovering}}, plan.Plan.Plan}
use Rattle.hba_driver.specs.{Seeing.Sight, declared.{slot.Head.Head, turn.Act.Act, turn.Logged.Logged, turn.Turn.Turn}}
use Rattle.hba_driver.specs.Drivers.{Entry, IsOrder, device_at, entry_at, holds, is_issued, waits, with_device}
use Rattle.hba_driver.specs.{Orders.{control_port, is_queued, next_order, order_fields}, Paths.{first_stage, next_stage, stage_fields}}
use Rattle.hba_driver.specs.declared.turn.Act.TheVariants as act

-- ---- slot 31: the multiplier

-- SStatus.DET is 3: a device is there and communication is established
abbrev pub is_there : ℕ → Bool
is_there status = status % 16 == 3

-- What is known of a device that is there. One of which nothing is known starts, and is to send its signature.
-- One that recovers from a fault, or was identified since its flush, stays what it is: its signature came
-- before, and does not come again. If it was exchanged since, its port has an error again, and is scanned.
abbrev pub found_there : Device → Device
found_there Absent = Starting
found_there Starting = Starting
found_there Ready = Ready
found_there Unusable = Unusable
found_there (Recovering way) = Recovering way

-- what is known after the answer of PSCR[0] of its port, SStatus
abbrev pub detected : ℕ → Device → Device
detected status device = if is_there status then found_there device else Absent

-- what the answer of an order tells
unfoldable pub noted : Sight → Order → Plan → Plan
noted v CountPorts plan = record plan { ports = v.answer % 16 }
noted v Scan plan = record plan { found = v.answer }
noted v (Detect port) plan = with_device port (detected v.answer (device_at plan port)) plan
noted v order plan = plan

abbrev pub with_next : Order → Plan → Plan
with_next order plan = record plan { order = next_order plan.ports plan.found order; asked = false }

-- the order's command is out
abbrev pub is_out : Sight → Plan → Bool
is_out v plan = has_bit v.issued 31

-- the answer of an order came: it is noted, and the next order is due
abbrev pub answered : Sight → Plan → Plan
answered v plan =
    if plan.asked && not (is_out v plan) then with_next plan.order (noted v plan.order plan) else plan

-- The software reset of the multiplier ends with its signature, which is then in its own row of the received
-- area, as an answer is. After another signature the multiplier is reset again.
abbrev pub signed_order : Sight → Order
signed_order v =
    if v.resetting then AwaitSignature else if v.answer == 0x96690101 then CountPorts else ResetOn

-- what ends an order that waits: a signature, or a notification of the multiplier in PxSNTF
unfoldable pub met_order : Sight → Order → Order
met_order v AwaitSignature = signed_order v
met_order v Watch = if v.notified then Scan else Watch
met_order v order = order

-- an order whose command is not out may be over without one
abbrev pub met : Sight → Plan → Plan
met v plan = if plan.asked then plan else record plan { order = met_order v plan.order }

abbrev pub control_seen : Sight → Plan → Plan
control_seen v plan = met v (answered v plan)

abbrev pub awaits : Order → Bool
awaits AwaitSignature = true
awaits _ = false

abbrev pub watches : Order → Bool
watches Watch = true
watches _ = false

-- an answer, a signature or a notification came
abbrev pub control_news : Sight → Plan → Bool
control_news v plan =
    if plan.asked then not (is_out v plan)
    else (awaits plan.order && not v.resetting) || (watches plan.order && v.notified)

-- ---- slot 30: a device

-- the IDENTIFY data of a device came, or its log; a log that is not whole leads to a reset
unfoldable pub found_of : Sight → Stage → ℕ → Plan → Plan
found_of v Identify dev plan = with_device dev (if v.usable then Ready else Unusable) plan
found_of v (ReadLog file) dev plan = with_device dev (if v.log.whole then Ready else Recovering Reset) plan
found_of v stage dev plan = plan

-- a path that goes on with a stage, whose command is not out
abbrev pub path_to : ℕ → Option Stage → Option Path
path_to dev stage = option_map (λ s. record { dev = dev; stage = s; asked = false }) stage

-- the command of a path's stage is over: what came of it is noted, and the path goes on or ends
abbrev pub advanced : Sight → Path → Plan → Plan
advanced v path plan =
    record (found_of v path.stage path.dev plan) { path = path_to path.dev (next_stage path.stage) }

-- its command was issued, and is back
abbrev pub is_back : Sight → Path → Bool
is_back v path = path.asked && not (has_bit v.issued 30)

abbrev pub path_answered : Sight → Plan → Plan
path_answered v plan =
    match_some plan.path plan (λ path. if is_back v path then advanced v path plan else plan)

-- a software reset of the device is under way
abbrev pub is_in_reset : Sight → ℕ → Bool
is_in_reset v dev = slice_index_or v.in_reset dev false

-- the end of a reset is awaited; once it came, the device is identified
unfoldable pub met_stage : Sight → ℕ → Stage → Stage
met_stage v dev AwaitReset = if is_in_reset v dev then AwaitReset else Identify
met_stage v dev stage = stage

abbrev pub met_path : Sight → Path → Path
met_path v path = if path.asked then path else record path { stage = met_stage v path.dev path.stage }

abbrev pub path_met : Sight → Plan → Plan
path_met v plan = record plan { path = option_map (met_path v) plan.path }

abbrev pub device_seen : Sight → Plan → Plan
device_seen v plan = path_met v (path_answered v plan)

abbrev pub awaits_reset : Stage → Bool
awaits_reset AwaitReset = true
awaits_reset _ = false

-- an answer came, or the end of a reset
abbrev pub path_news : Sight → Path → Bool
path_news v path =
    if path.asked then not (has_bit v.issued 30) else awaits_reset path.stage && not (is_in_reset v path.dev)

abbrev pub device_news : Sight → Plan → Bool
device_news v plan = match_some plan.path false (path_news v)

-- the device whose log came and is whole, with its task file after the fault
unfoldable pub logged_by : Sight → ℕ → Stage → Option Logged
logged_by v dev (ReadLog file) = if v.log.whole then Some (record { dev = dev; file = file }) else None
logged_by v dev stage = None

abbrev pub device_logged : Sight → Plan → Option Logged
device_logged v plan =
    match_some plan.path None (λ path. if is_back v path then logged_by v path.dev path.stage else None)

-- ---- what is due

-- the next of the seven writes that open the port
abbrev pub opening_due : Plan → Option Act
opening_due plan = if nat_lt plan.opened 7 then Some (act.Opens plan.opened) else None

-- the next of the two writes that start the port again after a fault
abbrev pub restart_due : Plan → Option Act
restart_due plan = if nat_lt plan.restarted 2 then Some (act.Restarts plan.restarted) else None

-- a fault has stopped the port, or PxFBS shows a device with one
abbrev pub fault_due : Sight → Option Act
fault_due v = if v.stopped then Some act.Stops else option_map act.Clears v.faulty

-- these come before everything else
unfoldable pub early_due : Sight → Plan → Option Act
early_due v plan = option_or (opening_due plan) (option_or (restart_due plan) (fault_due v))

-- slot 31 is free, and the order has a command
abbrev pub order_due : Plan → Option Act
order_due plan =
    if plan.asked then None else option_map (λ fields. act.Orders plan.order) (order_fields plan.order)

-- what is due for a device by slot 30
abbrev pub stage_for : Sight → Plan → ℕ → Option Stage
stage_for v plan dev = first_stage (device_at plan dev) (slice_index_or v.signed dev false)

-- the command of a stage, if it has one
abbrev pub step_of : ℕ → Stage → Option Act
step_of dev stage = option_map (λ fields. act.Steps dev stage) (stage_fields dev stage)

-- a path that has slot 30 keeps it to its end
abbrev pub path_due : Path → Option Act
path_due path = if path.asked then None else step_of path.dev path.stage

-- if no path has slot 30, the lowest device for which something is due gets it
abbrev pub is_due : Sight → Plan → ℕ → Bool
is_due v plan dev = is_some (stage_for v plan dev)

abbrev pub stage_due : Sight → Plan → ℕ → Option Act
stage_due v plan dev = match_some (stage_for v plan dev) None (step_of dev)

unfoldable pub device_due : Sight → Plan → Option Act
device_due v plan =
    match_some plan.path (match_some (lowest_below (is_due v plan) 15) None (stage_due v plan)) path_due

abbrev pub is_ready : Device → Bool
is_ready Ready = true
is_ready _ = false

-- a request waits, and its device is ready
abbrev pub may_issue : Plan → Option Entry → Bool
may_issue plan entry = holds (λ head. waits head && is_ready (device_at plan head.dev)) entry

-- the command in a slot is issued
abbrev pub issue_of : ℕ → Option Entry → Option Act
issue_of slot None = None
issue_of slot (Some entry) = Some (act.Issues slot entry.head.dev (is_queued entry.head.work))

-- the lowest such request is issued
unfoldable pub request_due : Plan → List (Option Entry) → Option Act
request_due plan entries =
    match_some (lowest_below (λ slot. may_issue plan (entry_at entries slot)) 30) None
    (λ slot. issue_of slot (entry_at entries slot))

-- an act is to a device and a slot that exist
abbrev pub IsAct : Act → Type 0
IsAct (act.Opens k) = k < 7
IsAct act.Stops = Unit {0}
IsAct (act.Restarts k) = k < 2
IsAct (act.Clears dev) = Unit {0}
IsAct (act.Orders order) = IsOrder order
IsAct (act.Steps dev stage) = dev < 15
IsAct (act.Issues slot dev queued) = slot < 30

-- ---- one device at a time

-- the device for which an act issues a command
abbrev pub device_of : Act → Option ℕ
device_of (act.Opens k) = None
device_of act.Stops = None
device_of (act.Restarts k) = None
device_of (act.Clears dev) = None
device_of (act.Orders order) = Some control_port
device_of (act.Steps dev stage) = Some dev
device_of (act.Issues slot dev queued) = Some dev

-- slot 31 has a command, and the device is another one
abbrev pub control_beside : Sight → (dev : ℕ) → Bool
control_beside v dev = has_bit v.issued 31 && not (dev == control_port)

-- slot 30 has a command of another device
abbrev pub path_beside : Sight → Plan → (dev : ℕ) → Bool
path_beside v plan dev =
    match_some plan.path false (λ path. has_bit v.issued 30 && not (path.dev == dev))

-- a request of another device is issued
abbrev pub is_issued_of_other : (dev : ℕ) → Head → Bool
is_issued_of_other dev head = not (head.dev == dev) && is_issued head

-- nothing is issued for another device
abbrev pub may_go : Sight → Plan → List (Option Entry) → (dev : ℕ) → Bool
may_go v plan entries dev =
    not (control_beside v dev || path_beside v plan dev || list_any (holds (is_issued_of_other dev)) entries)

-- the same for what an act issues, if it issues something
abbrev pub may_go_to : Sight → Plan → List (Option Entry) → Option ℕ → Bool
may_go_to v plan entries None = true
may_go_to v plan entries (Some dev) = may_go v plan entries dev

-- what may go of what is due: with command-based switching nothing is issued beside another device
abbrev pub allowed : Mode → Sight → Plan → List (Option Entry) → Option Act → Option Act
allowed Switching v plan entries due = due
allowed CommandBased v plan entries due =
    match_some due None (λ a. if may_go_to v plan entries (device_of a) then Some a else None)

-- the command of the order, if it may go
abbrev pub order_allowed : Sight → Plan → List (Option Entry) → Option Act
order_allowed v plan entries = allowed plan.mode v plan entries (order_due plan)

-- what slot 30 or a request has, if it may go
abbrev pub device_or_request : Sight → Plan → List (Option Entry) → Option Act
device_or_request v plan entries =
    option_or (allowed plan.mode v plan entries (device_due v plan))
    (allowed plan.mode v plan entries (request_due plan entries))

-- ---- the turn: what is known then, the first act that is due, whether an answer came, and whose log it was

-- slot 30 and the requests, if slot 31 has nothing to issue
abbrev pub device_turn : Sight → Bool → Plan → List (Option Entry) → Turn
device_turn v news plan entries = record {
  plan = device_seen v plan;
  act = device_or_request v (device_seen v plan) entries;
  news = news || device_news v plan;
  logged = device_logged v plan;
}

-- a turn without slot 30
abbrev pub plain_turn : Plan → Option Act → Bool → Turn
plain_turn plan a news = record { plan = plan; act = a; news = news; logged = None }

-- once the port is open
abbrev pub control_turn : Sight → Bool → Plan → List (Option Entry) → Turn
control_turn v news plan entries =
    if is_some (order_allowed v plan entries) then plain_turn plan (order_allowed v plan entries) news
    else device_turn v news plan entries

unfoldable pub turn_of : Sight → Plan → List (Option Entry) → Turn
turn_of v plan entries =
    if is_some (early_due v plan) then plain_turn plan (early_due v plan) false
    else control_turn v (control_news v plan) (control_seen v plan) entries
