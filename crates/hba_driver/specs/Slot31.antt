-- Slot 31 over turns of the host: how far it is with the control port of the multiplier (Serial ATA 3.x,
-- 16.2: READ PORT MULTIPLIER and WRITE PORT MULTIPLIER, software reset of the control port). An order is
-- issued, goes out and is answered before the next one is issued. The two FISes of a software reset have no
-- answer but the signature.
use Rattle.std.specs.{Prelude.{ℕ, ◌≡◌, ◌≢◌, ◌<◌, ◌⊎◌, ◌||◌, Bool, List, [], ◌∷◌, Ok, true, false, Some, None, is_some}, List.list_any}
use Rattle.fis_view.specs.{Built.{IsBuilt, h2d_given}, Frames.Stamped, Seen.seen, Table.{Bits, D2h, H2d, SActive, Status, field}}
use Rattle.fis_view.specs.declared.build.H2dFields.{H2dFields}
use Rattle.fis_view.specs.declared.view.Fis.TheVariants as view
use Rattle.host_memory.specs.Memory.{IsHostMemory, Memory}
use Rattle.hba_commands.specs.{declared.command.Command.Command, Requests.{request_of, work_of}}
use Rattle.slots.specs.{Slots.{Issue, new_issue, own_issue}, Work.{is_queued, needs_all}}
use Rattle.hba_fbs.specs.{Posting.is_signature, Status.{is_busy, is_error}, Taking.port_of}
use Rattle.hba_laws.specs.Parts.{DevicePart, part_of}
use Rattle.hba_driver.specs.{declared.order.Order.{Order, TheVariants.{ResetOn, ResetOff, AwaitSignature, Clear}}, Events.{opening_host, shared_by}}
use Rattle.hba_driver.specs.{Laws.flushes, Ticks.effects, HostTurns.{DoesAll, Host, HostTurn, Pushed, Ticked, Took, sight_in}}
use Rattle.hba_driver.specs.{Orders.{control_port, order_fields}, Turns.control_seen, declared.plan.Plan.Plan}

pub data Stage31 : Type 0 where
  -- no order is issued
  Rests : Stage31
  -- an order is issued, and has not gone out
  Waits : Stage31
  -- SRST went out
  Resets : Stage31
  -- it was cleared, and the signature is awaited
  Signs : Stage31
  -- the command of the order went out, and its answer is awaited
  Asks : Stage31
  -- the answer came
  Told : Stage31
  -- the answer came, and was an error
  Fails : Stage31

-- a software reset of the control port is under way
abbrev pub is_resetting : Stage31 → Bool
is_resetting Rests = false
is_resetting Waits = false
is_resetting Resets = true
is_resetting Signs = true
is_resetting Asks = false
is_resetting Told = false
is_resetting Fails = false

abbrev pub has_failed : Stage31 → Bool
has_failed Fails = true
has_failed stage = false

abbrev pub is_on : Order → Bool
is_on ResetOn = true
is_on order = false

-- an order to clear a port is for a fan-out port
abbrev pub IsLow : Order → Type 0
IsLow (Clear port) = port < 15
IsLow order = Unit {0}

abbrev pub is_off : Order → Bool
is_off ResetOff = true
is_off order = false

-- what belongs to the control port of a host
abbrev pub control_of : Host → DevicePart
control_of h = part_of control_port (shared_by h)

-- the command of this order is issued, and has not gone out
pub record IsUnsent (order : Order) (part : DevicePart) : Type 0 where
  pub fields : H2dFields
  pub are : order_fields order ≡ Some fields
  pub issued : own_issue part.view.slots 31 ≡ Some (new_issue control_port (work_of (request_of fields)))
  pub command : Command
  pub there : part.commands 31 ≡ Some command
  pub work : command.work ≡ work_of (request_of fields)
  pub built : IsBuilt H2d (h2d_given fields) command.cfis

-- slot 31 is free
abbrev pub IsFree31 : DevicePart → Type 0
IsFree31 part = own_issue part.view.slots 31 ≡ None

-- the command of the order went out, and was not answered
pub record IsSent (part : DevicePart) : Type 0 where
  pub issue : Issue
  pub issued : own_issue part.view.slots 31 ≡ Some issue
  pub sent : issue.sent ≡ true
  pub plain : (needs_all issue.work.kind || is_queued issue.work.kind) ≡ false

-- the order, whether it is asked, and the control port, at each stage
abbrev pub IsIn : Stage31 → Order → Bool → DevicePart → Type 0
IsIn Rests order asked part = (asked ≡ false) × (is_off order ≡ false)
IsIn Waits order asked part = (asked ≡ true) × (is_off order ≡ false) × IsUnsent order part
IsIn Resets order asked part =
    ((order ≡ ResetOn) × (asked ≡ true) × IsFree31 part)
    ⊎ ((order ≡ ResetOff) × ((asked ≡ false) ⊎ ((asked ≡ true) × IsUnsent order part)))
IsIn Signs order asked part =
    IsFree31 part × (((order ≡ ResetOff) × (asked ≡ true)) ⊎ ((order ≡ AwaitSignature) × (asked ≡ false)))
IsIn Asks order asked part = (asked ≡ true) × (is_on order ≡ false) × IsSent part
IsIn Told order asked part = (asked ≡ true) × (is_on order ≡ false) × (IsFree31 part ⊎ IsSent part)
IsIn Fails order asked part = Unit {0}

-- the control port of a host whose slot 31 is at this stage; it has no fault unless the order failed, and no
-- data is set up
pub record IsAt31 (stage : Stage31) (h : Host) : Type 0 where
  pub fault : is_some (control_of h).view.fault ≡ has_failed stage
  pub context : (control_of h).view.slots.context ≡ None
  pub resetting : (control_of h).view.state.resetting ≡ is_resetting stage
  pub is : IsIn stage h.driver.plan.order h.driver.plan.asked (control_of h)
  -- a port that is cleared is a fan-out port
  pub low : IsLow h.driver.plan.order
  -- before the port is open nothing is asked
  pub closed : h.driver.plan.opened < 7 → stage ≡ Rests

-- ---- what a turn changes

-- nothing of the control port is on its way
abbrev pub is_quiet : Stage31 → Bool
is_quiet Rests = true
is_quiet Waits = true
is_quiet Resets = false
is_quiet Signs = false
is_quiet Asks = false
is_quiet Told = true
is_quiet Fails = true

-- no command is issued that has not gone out
abbrev pub is_idle : Stage31 → Bool
is_idle Rests = true
is_idle Told = true
is_idle stage = false

-- what is on its way stays; if nothing is, slot 31 rests
abbrev pub StaysOn : Stage31 → Stage31 → Type 0
StaysOn old new = (new ≡ old) ⊎ ((is_idle old ≡ true) × (is_quiet new ≡ true))

-- ---- what the control port sends

-- an answer
pub record IsAnswer31 (frame : List ℕ) : Type 0 where
  pub viewed : seen frame ≡ Ok (view.RegD2H frame)
  pub done : is_busy (field D2h Status frame) ≡ false

-- a signature
pub record IsSignature31 (frame : List ℕ) : Type 0 where
  pub viewed : seen frame ≡ Ok (view.RegD2H frame)
  pub signs : is_signature frame ≡ true

-- a notification
pub record IsNotice31 (frame : List ℕ) : Type 0 where
  pub viewed : seen frame ≡ Ok (view.SetBits frame)
  pub right : is_error (field Bits Status frame) ≡ false
  pub names : field Bits SActive frame ≡ 0

-- what may come at this stage
abbrev pub MayCome31 : Stage31 → List ℕ → Type 0
MayCome31 Signs frame = IsNotice31 frame ⊎ IsSignature31 frame
MayCome31 Asks frame = IsNotice31 frame ⊎ IsAnswer31 frame
MayCome31 stage frame = IsNotice31 frame

-- slot 31 begins anew after an error
abbrev pub TicksOn : Stage31 → Stage31 → Type 0
TicksOn old new = StaysOn old new ⊎ ((old ≡ Fails) × (new ≡ Rests))

-- the stage after a frame to the control port: after the first FIS of a software reset, after a command, and
-- after the second FIS
abbrev pub Follows31 : Stage31 → Order → Stage31 → Type 0
Follows31 stage order next =
    ((stage ≡ Waits) × (is_on order ≡ true) × (next ≡ Resets))
    ⊎ (((stage ≡ Waits) × (is_on order ≡ false) × (next ≡ Asks))
    ⊎ ((stage ≡ Resets) × (order ≡ ResetOff) × (next ≡ Signs)))

-- the frame that goes out to the control port is the command of the order in slot 31
pub record Pushes31 (stage : Stage31) (old : Host) (frame : Stamped) (next : Stage31) : Type 0 where
  pub unsent : IsUnsent old.driver.plan.order (control_of old)
  pub bytes : frame.bytes ≡ unsent.command.cfis
  pub follows : Follows31 stage old.driver.plan.order next

-- a notification leaves the stage, and an answer ends it
abbrev pub TakesOn : Stage31 → List ℕ → Stage31 → Type 0
TakesOn stage frame next =
    ((next ≡ stage) × IsNotice31 frame)
    ⊎ ((is_quiet next ≡ true)
    × (((stage ≡ Asks) × IsAnswer31 frame) ⊎ ((stage ≡ Signs) × IsSignature31 frame)))

-- the tick issues the order to clear port n
abbrev pub orders_clear : ℕ → Host → Bool
orders_clear n h = list_any (flushes n) (effects (sight_in h) h.driver)

-- what a plan knows of slot 31
pub record Control : Type 0 where
  pub order : Order
  pub asked : Bool
  pub ports : ℕ
  pub found : ℕ

abbrev pub control_in : Plan → Control
control_in plan = record { order = plan.order; asked = plan.asked; ports = plan.ports; found = plan.found }

-- the same once the driver has looked at what came
abbrev pub seen_in : Host → Control
seen_in h = control_in (control_seen (sight_in h) h.driver.plan)

-- What a tick leaves of slot 31. All of it stays; or the driver has looked at what came; or it has looked, and
-- the command of the order that is due waits; or a fault of the control port is cleared, and it begins anew.
pub data Goes31 (old new : Host) : Type 0 where
  Kept : control_in new.driver.plan ≡ control_in old.driver.plan
      → (control_of new).view ≡ (control_of old).view → Goes31 old new
  Looked : control_in new.driver.plan ≡ seen_in old → (control_of new).view ≡ (control_of old).view
      → Goes31 old new
  Ordered : is_some (control_of old).view.fault ≡ false → (seen_in old).asked ≡ false
      → control_in new.driver.plan ≡ record (seen_in old) { asked = true }
      → IsUnsent new.driver.plan.order (control_of new) → Goes31 old new
  Anew : new.driver.plan.order ≡ ResetOn → new.driver.plan.asked ≡ false → Goes31 old new

-- an order is issued only while nothing of the control port is on its way and no command is issued that has
-- not gone out
pub record Ticks31 (stage : Stage31) (old : Host) (new : Host) (next : Stage31) : Type 0 where
  pub stays : TicksOn stage next
  pub clears : (n : ℕ) → orders_clear n old ≡ true
      → (next ≡ Waits) × (new.driver.plan.order ≡ Clear n) × (n < 15) × (is_idle stage ≡ true)
  pub goes : Goes31 old new

-- what a turn makes of the stage
abbrev pub IsNext31 : (stage : Stage31) (old : Host) (turn : HostTurn) (new : Host) (next : Stage31) → Type 0
IsNext31 stage old (Took frame report) new next =
    (port_of frame ≡ control_port → TakesOn stage frame next) × (port_of frame ≢ control_port → next ≡ stage)
IsNext31 stage old (Pushed None) new next = next ≡ stage
IsNext31 stage old (Pushed (Some frame)) new next =
    (frame.stamp.port ≡ control_port → Pushes31 stage old frame next)
    × (frame.stamp.port ≢ control_port → next ≡ stage)
IsNext31 stage old (Ticked acted) new next = Ticks31 stage old new next
IsNext31 stage old turn new next = next ≡ stage

-- the control port sends what may come
abbrev pub MayBe31 : Stage31 → HostTurn → Type 0
MayBe31 stage (Took frame report) = port_of frame ≡ control_port → MayCome31 stage frame
MayBe31 stage turn = Unit {0}

-- the command of the order is issued and not answered
abbrev pub is_pending : Stage31 → Bool
is_pending Waits = true
is_pending Asks = true
is_pending stage = false

-- An order whose command is issued stays until its answer came. Only a tick makes a command wait, and the
-- tick flushes the device of a port that the command clears.
abbrev pub Stands31 : (stage : Stage31) (old : Host) (turn : HostTurn) (new : Host) (next : Stage31)
    → Type 0
Stands31 stage old (Took frame report) new next = next ≡ Waits → stage ≡ Waits
Stands31 stage old (Ticked acted) new next =
    (is_pending stage ≡ true → new.driver.plan.order ≡ old.driver.plan.order)
    × ((n : ℕ) → next ≡ Waits → is_idle stage ≡ true → new.driver.plan.order ≡ Clear n
    → orders_clear n old ≡ true)
Stands31 stage old turn new next = Unit {0}

-- ---- the law

-- the host comes to this stage, and to what it knows on its way, over turns in which the control port sends
-- what may come
pub record Turns31 (stage : Stage31) (old : Host) (turn : HostTurn) (new : Host) : Type 0 where
  pub next : Stage31
  pub at : IsAt31 next new
  pub is : IsNext31 stage old turn new next
  pub stands : Stands31 stage old turn new next

abbrev pub Comes31 : (stage : Stage31) → (old : Host) → (turns : List HostTurn) → (new : Host)
    → DoesAll old turns new → Type 0
Comes31 stage old [] new run = Unit {0}
Comes31 stage old (turn ∷ turns) new run =
    MayBe31 stage turn → (t : Turns31 stage old turn run.0) × Comes31 t.next run.0 turns new run.2

-- Slot 31 rests when the host opens. From there it goes from stage to stage with each turn, as long as the
-- control port sends what may come.
abbrev pub OrdersTakeTurns : Type 0
OrdersTakeTurns =
    (given : ℕ) (start : Memory) → IsHostMemory start → (turns : List HostTurn) (h : Host)
    (run : DoesAll (opening_host given start) turns h)
    → IsAt31 Rests (opening_host given start) × Comes31 Rests (opening_host given start) turns h run
