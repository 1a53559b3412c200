-- Slot 30 over turns of the host, while a device recovers from a fault (AHCI 1.3.1, 6.2.2, error recovery,
-- and 9.3, FIS-based Switching, on errors; Serial ATA 3.x, software reset; ACS-3, READ LOG EXT). Its fault is
-- cleared, and then its error log is read, or it is reset. Meanwhile no request of it waits or is issued.
use Rattle.std.specs.Prelude.{ℕ, ◌≡◌, ◌≢◌, ◌<◌, ◌≤◌, ◌⊎◌, ◌&&◌, Bool, true, false, not, Option, Some, None, List, is_some}
use Rattle.fis_view.specs.{Built.{IsBuilt, h2d_given}, Frames.Stamped, Seen.seen, Table.H2d, declared.build.H2dFields.H2dFields}
use Rattle.hba_commands.specs.{declared.command.Command.Command, Requests.{request_of, work_of}}
use Rattle.slots.specs.{Slots.{Issue, has_bit, new_issue, own_issue}, Work.is_queued}
use Rattle.hba_fbs.specs.{declared.report.TakeReport.TakeReport, Posting.signs, Taking.port_of, Views.{Port, last_command, view_of}}
use Rattle.hba_laws.specs.{Client.{Touches, own}, History.{Transfer, issued}}
use Rattle.host_memory.specs.Memory.{IsHostMemory, Memory}
use Rattle.hba_driver.specs.declared.{order.Order.TheVariants.Detect, path.Path.Path, path.Recovery.{Recovery, TheVariants.{Log, Reset}}}
use Rattle.hba_driver.specs.declared.{path.Stage.{Stage, TheVariants.{AssertReset, AwaitReset, ReadLog, ReleaseReset}}, path.TaskFile.TaskFile}
use Rattle.hba_driver.specs.declared.{plan.Device.TheVariants.{Ready, Recovering}, plan.Plan.Plan, request.Completion.Completion}
use Rattle.hba_driver.specs.{declared.request.Request.Request, Drivers.{Entry, device_at, entry_at}, Events.{IsSoundHost, opening_host, shared_by}}
use Rattle.hba_driver.specs.{Going.GoesOn, HostTurns.{Does, DoesAll, Host, HostTurn, Polled, Pushed, Put, Submitted, Ticked, Took, sight_in}}
use Rattle.hba_driver.specs.{Laws.is_withdrawn, Orders.{control, log_fields}, Served.IsServed, Sights.file_shown, Tended.IsUnworked}
use Rattle.hba_driver.specs.{Steady.{IsFlushTick, detects}, Turns.{is_out, is_there}}

pub data Stage30 : Type 0 where
  -- the device has a fault that the driver has not cleared
  Faulty : Stage30
  -- the fault was cleared
  Cleared : Stage30
  -- READ LOG EXT is issued, and has not gone out
  Asks : Stage30
  -- it went out
  LogSent : Stage30
  -- the Control that sets SRST is issued, and has not gone out
  Sets : Stage30
  -- it went out
  On : Stage30
  -- the Control that clears SRST is issued, and has not gone out
  Clears : Stage30
  -- it went out, and the signature is awaited
  Off : Stage30

abbrev pub is_faulty : Stage30 → Bool
is_faulty Faulty = true
is_faulty stage = false

-- a software reset of the device is under way
abbrev pub is_resetting : Stage30 → Bool
is_resetting On = true
is_resetting Clears = true
is_resetting Off = true
is_resetting stage = false

-- the command that slot 30 holds and that has not gone out
abbrev pub fields30 : ℕ → Stage30 → Option H2dFields
fields30 n Asks = Some (log_fields n)
fields30 n Sets = Some (control n 4)
fields30 n Clears = Some (control n 0)
fields30 n stage = None

-- the stage after the command went out
abbrev pub sent30 : Stage30 → Stage30
sent30 Asks = LogSent
sent30 Sets = On
sent30 Clears = Off
sent30 stage = stage

-- ---- the plan

abbrev pub path_of : ℕ → Stage → Bool → Option Path
path_of n stage asked = Some (record { dev = n; stage = stage; asked = asked })

-- the device recovers by its log, and slot 30 is to read it
pub record ReadsLog (n : ℕ) (plan : Plan) : Type 0 where
  pub file : TaskFile
  pub device : device_at plan n ≡ Recovering (Log file)
  pub path : plan.path ≡ path_of n (ReadLog file) true

-- it recovers by a software reset
pub record Resets (n : ℕ) (stage : Stage) (asked : Bool) (plan : Plan) : Type 0 where
  pub device : device_at plan n ≡ Recovering Reset
  pub path : plan.path ≡ path_of n stage asked

pub record IsCleared (n : ℕ) (plan : Plan) : Type 0 where
  pub way : Recovery
  pub device : device_at plan n ≡ Recovering way
  pub away : IsUnworked n plan

abbrev pub IsPlan30 : ℕ → Stage30 → Plan → Type 0
IsPlan30 n Faulty plan = Unit {0}
IsPlan30 n Cleared plan = IsCleared n plan
IsPlan30 n Asks plan = ReadsLog n plan
IsPlan30 n LogSent plan = ReadsLog n plan
IsPlan30 n Sets plan = Resets n AssertReset true plan
IsPlan30 n On plan = Resets n AssertReset true plan ⊎ Resets n ReleaseReset false plan
IsPlan30 n Clears plan = Resets n ReleaseReset true plan
IsPlan30 n Off plan = Resets n ReleaseReset true plan ⊎ Resets n AwaitReset false plan

-- ---- the port

-- slot 30 holds this command of the device, and it has not gone out
pub record IsUnsent30 (n : ℕ) (fields : H2dFields) (port : Port) : Type 0 where
  pub issued : own_issue (view_of n port).slots 30
      ≡ Some (new_issue n (work_of (request_of fields)))
  pub command : Command
  pub there : last_command port.commands 30 ≡ Some command
  pub work : command.work ≡ work_of (request_of fields)
  pub built : IsBuilt H2d (h2d_given fields) command.cfis

-- it went out, and was not answered
pub record IsSent30 (n : ℕ) (fields : H2dFields) (port : Port) : Type 0 where
  pub issue : Issue
  pub issued : own_issue (view_of n port).slots 30 ≡ Some issue
  pub sent : issue.sent ≡ true
  pub unanswered : issue.answered ≡ false
  pub work : issue.work ≡ work_of (request_of fields)

abbrev pub IsFree30 : ℕ → Port → Type 0
IsFree30 n port = own_issue (view_of n port).slots 30 ≡ None

abbrev pub IsSlot30 : ℕ → Stage30 → Port → Type 0
IsSlot30 n Faulty port = Unit {0}
IsSlot30 n Cleared port = IsFree30 n port
IsSlot30 n Asks port = IsUnsent30 n (log_fields n) port
IsSlot30 n LogSent port = IsSent30 n (log_fields n) port
IsSlot30 n Sets port = IsUnsent30 n (control n 4) port
IsSlot30 n On port = IsFree30 n port
IsSlot30 n Clears port = IsUnsent30 n (control n 0) port
IsSlot30 n Off port = IsFree30 n port

-- ---- how far a host is with a device

-- after its fault is cleared: no data is set up, and no request of it waits or is issued
pub record IsApart30 (n : ℕ) (stage : Stage30) (h : Host) : Type 0 where
  pub plan : IsPlan30 n stage h.driver.plan
  pub slot : IsSlot30 n stage h.port
  pub context : (view_of n h.port).slots.context ≡ None
  pub resetting : (view_of n h.port).state.resetting ≡ is_resetting stage
  pub withdrawn : (s : ℕ) (e : Entry) → entry_at h.driver.entries s ≡ Some e → e.head.dev ≡ n
      → is_withdrawn e.head ≡ true

-- The port is open. The device may be looked for meanwhile; if it is found there, it goes on recovering.
pub record IsAt30 (n : ℕ) (stage : Stage30) (h : Host) : Type 0 where
  pub opened : 7 ≤ h.driver.plan.opened
  pub fault : is_some (view_of n h.port).fault ≡ is_faulty stage
  pub apart : is_faulty stage ≡ false → IsApart30 n stage h

-- ---- what a turn changes

-- No FIS of the device comes before its log is asked for. While it is reset, only a signature ends that.
abbrev pub MayCome30 : Stage30 → List ℕ → Type 0
MayCome30 Asks frame = ⊥
MayCome30 LogSent frame = ⊥
MayCome30 On frame = signs (seen frame) ≡ false
MayCome30 Clears frame = signs (seen frame) ≡ false
MayCome30 Off frame = signs (seen frame) ≡ false
MayCome30 stage frame = Unit {0}

-- what comes may be a fault, unless it is ignored
abbrev pub TakesOn30 : Stage30 → Stage30 → Type 0
TakesOn30 Cleared next = (next ≡ Cleared) ⊎ (next ≡ Faulty)
TakesOn30 Sets next = (next ≡ Sets) ⊎ (next ≡ Faulty)
TakesOn30 stage next = next ≡ stage

-- a tick clears a fault, or issues what is due
abbrev pub TicksOn30 : Stage30 → Stage30 → Type 0
TicksOn30 Faulty next = (next ≡ Faulty) ⊎ (next ≡ Cleared)
TicksOn30 Cleared next = (next ≡ Cleared) ⊎ ((next ≡ Asks) ⊎ (next ≡ Sets))
TicksOn30 On next = (next ≡ On) ⊎ (next ≡ Clears)
TicksOn30 stage next = next ≡ stage

-- the frame is the command that slot 30 held
pub record Goes30 (n : ℕ) (stage : Stage30) (frame : Stamped) (next : Stage30) : Type 0 where
  pub fields : H2dFields
  pub are : fields30 n stage ≡ Some fields
  pub built : IsBuilt H2d (h2d_given fields) frame.bytes
  pub after : next ≡ sent30 stage

abbrev pub IsNext30 : ℕ → Stage30 → HostTurn → Stage30 → Type 0
IsNext30 n stage (Took frame report) next =
    (port_of frame ≡ n → TakesOn30 stage next) × (port_of frame ≢ n → next ≡ stage)
IsNext30 n stage (Pushed None) next = next ≡ stage
IsNext30 n stage (Pushed (Some frame)) next =
    (frame.stamp.port ≡ n → Goes30 n stage frame next) × (frame.stamp.port ≢ n → next ≡ stage)
IsNext30 n stage (Ticked acted) next = TicksOn30 stage next
IsNext30 n stage turn next = next ≡ stage

-- ---- the law

-- Turns lead from stage to stage.
pub record Turns30 (n : ℕ) (stage : Stage30) (turn : HostTurn) (new : Host) : Type 0 where
  pub next : Stage30
  pub at : IsAt30 n next new
  pub is : IsNext30 n stage turn next

-- what holds for the port of a host, besides that it goes on: no bit of PxSACT waits for its command
pub record IsOn30 (past : Touches) (h : Host) : Type 0 where
  pub sound : IsSoundHost h
  pub served : IsServed h.driver (shared_by h) past
  pub going : GoesOn h
  pub unarmed : h.port.registers.armed ≡ 0

-- A tick that clears the fault has the device recover by its log only if it was ready and its Status had ERR.
-- The task file of the log is the one that PxTFD shows then.
pub record IsLogged (n : ℕ) (old new : Host) (file : TaskFile) : Type 0 where
  pub ready : device_at old.driver.plan n ≡ Ready
  pub shown : file ≡ file_shown new.port
  pub failed : has_bit (view_of n old.port).state.status 0 ≡ true

-- a tick sees the answer of PSCR[0] of the device's port, which says that no device is there
pub record FindsNone (n : ℕ) (old : Host) : Type 0 where
  pub order : old.driver.plan.order ≡ Detect n
  pub came : (old.driver.plan.asked && not (is_out (sight_in old) old.driver.plan)) ≡ true
  pub none : is_there (sight_in old).answer ≡ false

-- Ticks lead from stage to stage, except one that flushes the device and one that finds none there.
pub record TicksLead30 (n : ℕ) : Type 0 where
  pub turns : (past : Touches) (old : Host) (acted : Bool) (new : Host) (stage : Stage30) → n < 15
      → IsOn30 past old → Does old (Ticked acted) new → IsAt30 n stage old
      → (IsFlushTick n old → ⊥) → (FindsNone n old → ⊥) → Turns30 n stage (Ticked acted) new
  pub logged : (past : Touches) (old : Host) (acted : Bool) (new : Host) (file : TaskFile) → n < 15
      → IsOn30 past old → Does old (Ticked acted) new → IsAt30 n Faulty old
      → (IsFlushTick n old → ⊥) → is_some (view_of n new.port).fault ≡ false
      → device_at new.driver.plan n ≡ Recovering (Log file) → IsLogged n old new file

-- At each stage except the first, only what slot 30 holds is issued for the device, and nothing queued.
pub record IsAlone30 (n : ℕ) : Type 0 where
  pub issues : (past : Touches) (h : Host) (stage : Stage30) → n < 15
      → IsServed h.driver (shared_by h) past → IsAt30 n stage h → is_faulty stage ≡ false
      → (s : ℕ) (i : Issue) → own_issue (view_of n h.port).slots s ≡ Some i → s ≡ 30
  pub transfers : (past : Touches) (h : Host) (stage : Stage30) → n < 15
      → IsServed h.driver (shared_by h) past → IsAt30 n stage h → is_faulty stage ≡ false
      → (s : ℕ) (t : Transfer) → issued s (own n past) ≡ Some t
      → (s ≡ 30) × (is_queued t.work.kind ≡ false)

-- No other frame goes out to it.
abbrev pub PushesOn30 : ℕ → Type 0
PushesOn30 n =
    (past : Touches) (old : Host) (frame : Option Stamped) (new : Host) (stage : Stage30) → n < 15
    → IsSoundHost old → IsServed old.driver (shared_by old) past → Does old (Pushed frame) new
    → IsAt30 n stage old → Turns30 n stage (Pushed frame) new

-- What comes from it is ignored while it has a fault or is reset. Otherwise it leaves the stage or is a
-- fault.
pub record TakesLead30 (n : ℕ) : Type 0 where
  pub turns : (past : Touches) (old : Host) (frame : List ℕ) (report : TakeReport) (new : Host)
      (stage : Stage30) → n < 15 → IsServed old.driver (shared_by old) past
      → Does old (Took frame report) new → IsAt30 n stage old
      → (port_of frame ≡ n → MayCome30 stage frame) → Turns30 n stage (Took frame report) new
  -- a frame that gives the device its first fault begins this
  pub begins : (old : Host) (frame : List ℕ) (report : TakeReport) (new : Host) → n < 15
      → IsSoundHost old → Does old (Took frame report) new → port_of frame ≡ n
      → is_some (view_of n old.port).fault ≡ false → is_some (view_of n new.port).fault ≡ true
      → IsAt30 n Faulty new

-- Meanwhile requests of other devices are taken, and none of it.
pub record StaysOn30 (n : ℕ) : Type 0 where
  pub submitted : (old : Host) (dev : ℕ) (request : Request) (ticket : ℕ) (new : Host)
      (stage : Stage30) → Does old (Submitted dev request ticket) new → IsAt30 n stage old
      → IsAt30 n stage new
  pub polled : (old : Host) (completion : Completion) (new : Host) (stage : Stage30)
      → Does old (Polled completion) new → IsAt30 n stage old → IsAt30 n stage new
  pub put : (old : Host) (at : ℕ) (bytes : List ℕ) (new : Host) (stage : Stage30)
      → Does old (Put at bytes) new → IsAt30 n stage old → IsAt30 n stage new

-- A device that is not being looked for is not looked for until a tick flushes it. So no tick finds none
-- there.
abbrev pub IsUnsought : ℕ → Host → Type 0
IsUnsought n h = detects n h.driver.plan.asked h.driver.plan.order ≡ false

abbrev pub IsUnflushed : ℕ → Host → HostTurn → Type 0
IsUnflushed n old (Ticked acted) = IsFlushTick n old → ⊥
IsUnflushed n old turn = Unit {0}

abbrev pub StaysUnsought : ℕ → Type 0
StaysUnsought n =
    (old : Host) (turn : HostTurn) (new : Host) → Does old turn new → IsUnflushed n old turn
    → IsUnsought n old → IsUnsought n new

pub record DeviceIsApart (n : ℕ) : Type 0 where
  pub alone : IsAlone30 n
  pub pushes : PushesOn30 n
  pub ticks : TicksLead30 n
  pub takes : TakesLead30 n
  pub stays : StaysOn30 n
  pub unsought : StaysUnsought n

abbrev pub EachIsApart : Type 0
EachIsApart = (n : ℕ) → DeviceIsApart n

-- From the opening of a host on, no bit of PxSACT waits for its command between two turns.
abbrev pub NoneIsArmed : Type 0
NoneIsArmed =
    (given : ℕ) (start : Memory) → IsHostMemory start → (turns : List HostTurn) (h : Host)
    → DoesAll (opening_host given start) turns h → h.port.registers.armed ≡ 0
