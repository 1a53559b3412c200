-- The rules of the steps: when a step is refused, and what it does otherwise (Serial ATA 3.x, 16.3,
-- port multiplier: frame transmission, presence; AHCI 1.3.1, chapter 5, command list).
--
-- The refusals of a step are tested first, in their order. Then the step is Idle if it reads from an
-- empty link or from a unit that is not plugged in. Then it is Blocked if the place it writes to is
-- full. Only then may it run out of memory, or find that its source has nothing.
use Rattle.std.specs.Prelude.{ℕ, ◌+◌, ◌≡◌, ◌≢◌, ◌<◌, ◌==◌, ◌&&◌, length, not, Bool, true, false, IsTrue, if◌then◌else◌, List, [], ◌∷◌, Option, Some}
use Rattle.std.specs.Prelude.{None, is_none, MatchOption, MatchBool, Result, Ok, Err, IsSomeAnd, slice_get, take, nat_lt, ◌||◌}
use Rattle.std.specs.{Option.option_map_or, declared.alloc.AllocError.AllocError}
use Rattle.fis_view.specs.Frames.{Stamped, is_frame}
use Rattle.host_memory.specs.Memory.{client_start}
use Rattle.disk_model.specs.Histories.{Plugged, Received}
use Rattle.pm_ports.specs.{Port.{came_refusal as port_came_refusal, gone_refusal as port_gone_refusal}, declared.port.Offered.Offered}
use Rattle.pm_ports.specs.declared.port.Offered.TheVariants.{Held, Dropped}
use Rattle.multiplier.specs.{Arbiter.control_port, Rules.{DropsOnly, FromDeviceRule, FromHostRule, NextDownRule, NextUpRule}}
use Rattle.multiplier.specs.{Rules.{with_device as connected, without_device}, State.{PmState, next_place, port_at}}
use Rattle.multiplier.specs.declared.multiplier.PmRefusal.TheVariants as pm_refusal
use Rattle.hba_fbs.specs.Sending.{MayRest, is_sent, outgoing}
use Rattle.hba_driver.specs.{HostTurns.{Host, Polls, Pushes, Puts, Submits, Ticks, Tooks, sight_in}, Requests.in_use, Submits.{completion_of, end_of}}
use Rattle.hba_driver.specs.{Submits.submit_refusal, Ticks.acts, declared.request.Request.Request}
use Rattle.pm_world.specs.{Attached.{GoesOnAttached, SendsAttached, IsSilentAttached, WantsRoom, PlugWantsRoom}, Places.{Places, Place, Queue}}
use Rattle.pm_world.specs.Places.{IsFull, AreFull, IsTold, pushed, posted, after_sending, with_device, with_multiplier, with_upward, with_downward}
use Rattle.pm_world.specs.{Places.with_host, declared.{link.Change.Change, step.{Step.Step, Answer.Answer, StepError.StepError}}}
use Rattle.pm_world.specs.declared.link.Change.TheVariants as change
use Rattle.pm_world.specs.declared.step.Step.TheVariants as step
use Rattle.pm_world.specs.declared.step.Answer.TheVariants as answer
use Rattle.pm_world.specs.declared.step.StepError.TheVariants as error

-- what a step gives
abbrev pub Outcome : Type 0
Outcome = Result Answer StepError

-- the largest connection, and the largest number
abbrev pub largest : ℕ
largest = 4294967295

-- a step is refused by the first refusal that applies, or for lack of memory if none does
abbrev pub Refuses : Option StepError → StepError → Type 0
Refuses first error.OutOfMemory = first ≡ None
Refuses first e = first ≡ Some e

-- A device comes.
abbrev pub came_refusal : Place → Option StepError
came_refusal place =
    if place.plugged then Some error.AlreadyThere
    else if place.conn == largest then Some error.Spent else None

abbrev pub CameActs : ℕ → Place → Answer → Place → Type 0
CameActs port old answer.Blocked new = AreFull old.presence × (new ≡ old)
CameActs port old (answer.Came p conn) new =
    (p ≡ port) × (conn ≡ old.conn + 1) × GoesOnAttached old.unit Plugged new.unit
    × (new ≡ record old {
      unit = new.unit;
      plugged = true;
      conn = old.conn + 1;
      number = 0;
      presence = posted old.presence (change.Came (old.conn + 1));
    })
    × (¬ AreFull old.presence)
CameActs port old _ new = ⊥

-- a step that takes no memory never runs out of it
abbrev pub TakesNone : StepError → Type 0
TakesNone error.OutOfMemory = ⊥
TakesNone _ = Unit {0}

-- a unit takes no memory as it is plugged in, and a device of the caller's own may
abbrev pub CameWants : Place → StepError → Type 0
CameWants place error.OutOfMemory = PlugWantsRoom place.unit
CameWants place _ = Unit {0}

abbrev pub CameRule : ℕ → Place → Outcome → Place → Type 0
CameRule port old (Ok a) new = (came_refusal old ≡ None) × CameActs port old a new
CameRule port old (Err e) new = Refuses (came_refusal old) e × CameWants old e × (new ≡ old)

-- A device goes. What is on its links stays there.
abbrev pub gone_refusal : Place → Option StepError
gone_refusal place = if place.plugged then None else Some error.NotThere

abbrev pub GoneActs : ℕ → Place → Answer → Place → Type 0
GoneActs port old answer.Blocked new = AreFull old.presence × (new ≡ old)
GoneActs port old (answer.Gone p conn) new =
    (p ≡ port) × (conn ≡ old.conn)
    × (new ≡ record old {
      plugged = false;
      presence = posted old.presence (change.Gone old.conn);
    })
    × (¬ AreFull old.presence)
GoneActs port old _ new = ⊥

abbrev pub GoneRule : ℕ → Place → Outcome → Place → Type 0
GoneRule port old (Ok a) new = (gone_refusal old ≡ None) × GoneActs port old a new
GoneRule port old (Err e) new = Refuses (gone_refusal old) e × TakesNone e × (new ≡ old)

-- A device sends its next FIS.
abbrev pub send_refusal : Place → Option StepError
send_refusal place = if place.number == largest then Some error.Spent else None

-- the unit is plugged in, and its link has room
abbrev pub CanSend : Place → Type 0
CanSend place = IsTrue place.plugged × ¬ IsFull place.up

abbrev pub DiskSendActs : ℕ → Place → Answer → Place → Type 0
DiskSendActs port old answer.Idle new =
    (IsTrue old.plugged → (¬ IsFull old.up) × IsSilentAttached old.unit) × (new ≡ old)
DiskSendActs port old answer.Blocked new = IsTrue old.plugged × IsFull old.up × (new ≡ old)
DiskSendActs port old (answer.Sent p conn number bytes) new =
    CanSend old × (p ≡ port) × (conn ≡ old.conn) × (number ≡ old.number)
    × SendsAttached old.unit bytes new.unit
    × (new ≡ after_sending port old bytes new.unit)
DiskSendActs port old _ new = ⊥

-- when the step may run out of memory
abbrev pub SendWants : Place → StepError → Type 0
SendWants place error.OutOfMemory = CanSend place
SendWants place _ = Unit {0}

abbrev pub DiskSendRule : ℕ → Place → Outcome → Place → Type 0
DiskSendRule port old (Ok a) new = (send_refusal old ≡ None) × DiskSendActs port old a new
DiskSendRule port old (Err e) new = Refuses (send_refusal old) e × SendWants old e × (new ≡ old)

-- Any frame is sent as the device.
abbrev pub inject_refusal : List ℕ → Place → Option StepError
inject_refusal bytes place =
    if not place.plugged then Some error.NotThere
    else if not (is_frame bytes) then Some error.BadBytes
    else if place.number == largest then Some error.Spent
    else None

abbrev pub InjectActs : ℕ → List ℕ → Place → Answer → Place → Type 0
InjectActs port given old answer.Blocked new = IsFull old.up × (new ≡ old)
InjectActs port given old (answer.Sent p conn number bytes) new =
    CanSend old × (p ≡ port) × (conn ≡ old.conn) × (number ≡ old.number) × (bytes ≡ given)
    × (new ≡ after_sending port old given old.unit)
InjectActs port given old _ new = ⊥

abbrev pub InjectRule : ℕ → List ℕ → Place → Outcome → Place → Type 0
InjectRule port given old (Ok a) new =
    (inject_refusal given old ≡ None) × InjectActs port given old a new
InjectRule port given old (Err e) new =
    Refuses (inject_refusal given old) e × SendWants old e × (new ≡ old)

-- A device takes the first FIS of its link. The FIS is for the device if the device is plugged in
-- under the connection to which the FIS was passed down. Any other FIS is dropped.
abbrev pub is_for : Place → Stamped → Bool
is_for place frame = place.plugged && frame.stamp.conn == place.conn

abbrev pub DiskTakeActs : ℕ → Place → Answer → Place → Type 0
DiskTakeActs port old answer.Idle new = (old.down.frames ≡ []) × (new ≡ old)
DiskTakeActs port old (answer.DiskTook p dropped) new =
    (p ≡ port) × ((frame : Stamped) × (old.down.frames ≡ frame ∷ new.down.frames)
    × (dropped ≡ not (is_for old frame))
    × MatchBool dropped (new.unit ≡ old.unit)
    (GoesOnAttached old.unit (Received frame.bytes) new.unit))
    × (new ≡ record old {
      unit = new.unit;
      down = record old.down { frames = new.down.frames };
    })
DiskTakeActs port old _ new = ⊥

-- a unit may run out of memory for a FIS that is for it
abbrev pub TakeWants : Place → StepError → Type 0
TakeWants place error.OutOfMemory = (frame : Stamped) × (rest : List Stamped)
    × (place.down.frames ≡ frame ∷ rest) × IsTrue (is_for place frame)
    × WantsRoom place.unit (Received frame.bytes)
TakeWants place _ = ⊥

abbrev pub DiskTakeRule : ℕ → Place → Outcome → Place → Type 0
DiskTakeRule port old (Ok a) new = DiskTakeActs port old a new
DiskTakeRule port old (Err e) new = TakeWants old e × (new ≡ old)

-- the multiplier after a change was read off port n's presence link; a change that the port refuses
-- changes nothing
abbrev pub recorded : PmState → ℕ → Change → PmState
recorded pm n (change.Came conn) =
    if is_none (port_came_refusal (port_at pm n) conn) then connected pm n conn else pm
recorded pm n (change.Gone conn) =
    if is_none (port_gone_refusal (port_at pm n) conn) then without_device pm n conn else pm

-- The first change on a presence link is recorded by its port.
abbrev pub PmPresenceRule : ℕ → Place → PmState → Outcome → Place → PmState → Type 0
PmPresenceRule n old pm (Ok answer.Idle) new after =
    (old.presence.changes ≡ []) × (new ≡ old) × (after ≡ pm)
PmPresenceRule n old pm (Ok (answer.Presence p)) new after =
    (p ≡ n)
    × (new ≡ record old { presence = record old.presence { changes = new.presence.changes } })
    × ((c : Change) × (old.presence.changes ≡ c ∷ new.presence.changes)
    × (after ≡ recorded pm n c))
PmPresenceRule n old pm _ new after = ⊥

-- what becomes of a frame that was offered
abbrev pub offered : Bool → Offered
offered true = Dropped
offered false = Held

-- The first frame of a device's link goes into the empty upward place of its port. It is dropped if
-- the removal of its connection was recorded.
abbrev pub PmFromDeviceRule : ℕ → Place → PmState → Outcome → Place → PmState → Type 0
PmFromDeviceRule n old pm (Ok answer.Idle) new after =
    (old.up.frames ≡ []) × (new ≡ old) × (after ≡ pm)
PmFromDeviceRule n old pm (Ok answer.Blocked) new after =
    (old.up.frames ≢ []) × ((port_at pm n).up ≢ None) × (new ≡ old) × (after ≡ pm)
PmFromDeviceRule n old pm (Ok (answer.Offered p dropped)) new after =
    (p ≡ n)
    × (new ≡ record old { up = record old.up { frames = new.up.frames } })
    × ((frame : Stamped) × (old.up.frames ≡ frame ∷ new.up.frames)
    × FromDeviceRule pm n frame (Ok (offered dropped)) after)
PmFromDeviceRule n old pm _ new after = ⊥

-- The frame that waits for the device at port n goes on the device's link.
abbrev pub PmDownRule : ℕ → Place → PmState → Outcome → Place → PmState → Type 0
PmDownRule n old pm (Ok answer.Idle) new after =
    (¬ IsFull old.down) × ((port_at pm n).down ≡ None) × (new ≡ old) × (after ≡ pm)
PmDownRule n old pm (Ok answer.Blocked) new after = IsFull old.down × (new ≡ old) × (after ≡ pm)
PmDownRule n old pm (Ok (answer.Down p)) new after =
    (p ≡ n) × (¬ IsFull old.down)
    × ((frame : Stamped) × NextDownRule pm n (Some frame) after
    × (new ≡ record old { down = pushed old.down frame }))
PmDownRule n old pm _ new after = ⊥

-- The multiplier takes the first frame of the host's link. The frame goes to its control port, which
-- answers it, or into the downward place of a port that forwards. It is dropped if its port is absent
-- or does not forward.
abbrev pub PmFromHostRule : Queue → PmState → Outcome → Queue → PmState → Type 0
PmFromHostRule old pm (Ok answer.Idle) new after =
    (old.frames ≡ []) × (new ≡ old) × (after ≡ pm)
PmFromHostRule old pm (Ok answer.Blocked) new after =
    ((frame : Stamped) × (rest : List Stamped) × (old.frames ≡ frame ∷ rest)
    × FromHostRule pm frame (Err (frame, pm_refusal.HoldFull)) after)
    × (new ≡ old) × (after ≡ pm)
PmFromHostRule old pm (Ok (answer.Passed passed)) new after =
    ((frame : Stamped) × (old.frames ≡ frame ∷ new.frames)
    × FromHostRule pm frame (Ok passed) after × DropsOnly pm frame (Ok passed))
    × (new.capacity ≡ old.capacity)
PmFromHostRule old pm (Err error.OutOfMemory) new after =
    ((frame : Stamped) × (rest : List Stamped) × (old.frames ≡ frame ∷ rest)
    × FromHostRule pm frame (Err (frame, pm_refusal.OutOfMemory)) after)
    × (new ≡ old) × (after ≡ pm)
PmFromHostRule old pm _ new after = ⊥

-- The frame of the place that is served next goes on the link to the host. Only a notification needs
-- memory.
abbrev pub PmUpRule : PmState → Queue → Outcome → PmState → Queue → Type 0
PmUpRule pm upward (Ok answer.Idle) after new =
    (¬ IsFull upward) × (next_place pm ≡ None) × (after ≡ pm) × (new ≡ upward)
PmUpRule pm upward (Ok answer.Blocked) after new =
    IsFull upward × (after ≡ pm) × (new ≡ upward)
PmUpRule pm upward (Ok (answer.Up n)) after new =
    (¬ IsFull upward) × ((frame : Stamped) × (frame.stamp.port ≡ n)
    × NextUpRule pm (Ok (Some frame)) after × (new ≡ pushed upward frame))
PmUpRule pm upward (Err error.OutOfMemory) after new =
    (¬ IsFull upward) × (next_place pm ≡ Some control_port) × (pm.registers.due ≡ true)
    × (after ≡ pm) × (new ≡ upward)
PmUpRule pm upward _ after new = ⊥

-- The host takes the first frame of its link.
abbrev pub HostTakeRule : Queue → Host → Outcome → Queue → Host → Type 0
HostTakeRule old host (Ok answer.Idle) new after = (old.frames ≡ []) × (new ≡ old) × (after ≡ host)
HostTakeRule old host (Ok (answer.Took port conn number bytes report)) new after =
    ((frame : Stamped) × (old.frames ≡ frame ∷ new.frames) × IsTold frame port conn number bytes)
    × (new.capacity ≡ old.capacity)
    × Tooks host bytes report after
HostTakeRule old host _ new after = ⊥

-- The host port is asked for its next frame. If it gives none, nothing may go, or a table was found
-- spoilt and the port is stopped since.
abbrev pub HostPushes : Host → Result (Option Stamped) AllocError → Host → Type 0
HostPushes old (Ok frame) new =
    Pushes old frame new × ((frame ≡ None) × (new ≡ old) → MayRest old.port)
HostPushes old (Err e) new = (is_sent (outgoing old.port old.memory) ≡ true) × (new ≡ old)

-- The next frame of the host port goes on its link.
abbrev pub HostPushRule : Host → Queue → Outcome → Host → Queue → Type 0
HostPushRule host link (Ok answer.Idle) after new =
    (¬ IsFull link) × HostPushes host (Ok None) after × (new ≡ link)
HostPushRule host link (Ok answer.Blocked) after new = IsFull link × (after ≡ host) × (new ≡ link)
HostPushRule host link (Ok answer.Pushed) after new =
    (¬ IsFull link)
    × ((frame : Stamped) × Pushes host (Some frame) after × (new ≡ pushed link frame))
HostPushRule host link (Err error.OutOfMemory) after new =
    (¬ IsFull link) × (is_sent (outgoing host.port host.memory) ≡ true) × (after ≡ host)
    × (new ≡ link)
HostPushRule host link _ after new = ⊥

-- The driver does the next thing that is due.
abbrev pub TickRule : Host → Outcome → Host → Type 0
TickRule host (Ok answer.Idle) after = (acts (sight_in host) host.driver ≡ false) × (after ≡ host)
TickRule host (Ok answer.Ticked) after = Ticks host true after
TickRule host _ after = ⊥

-- A request is given to the driver.
abbrev pub SubmitRule : ℕ → Request → Host → Outcome → Host → Type 0
SubmitRule dev request host (Ok (answer.Refused e)) after =
    (submit_refusal host.driver host.memory dev request ≡ Some e) × (after ≡ host)
SubmitRule dev request host (Ok (answer.Submitted ticket)) after =
    Submits host dev request ticket.0 after
SubmitRule dev request host _ after = ⊥

-- The ended request of the lowest slot is polled.
abbrev pub PollRule : Host → Outcome → Host → Type 0
PollRule host (Ok answer.Idle) after = (completion_of host.driver ≡ None) × (after ≡ host)
PollRule host (Ok (answer.Polled completion)) after = Polls host completion after
PollRule host _ after = ⊥

-- why bytes are not put: not all of them lie in the client area, or one is in use
abbrev pub put_refusal : Host → ℕ → ℕ → Option StepError
put_refusal host at len =
    if nat_lt at client_start || nat_lt (end_of host.memory) (at + len) then Some error.Outside
    else if in_use host.driver at len then Some error.InUse
    else None

-- Bytes are put into the client area.
abbrev pub PutRule : ℕ → List ℕ → Host → Outcome → Host → Type 0
PutRule at bytes host (Ok answer.Put) after =
    (put_refusal host at (length bytes) ≡ None) × Puts host at bytes after
PutRule at bytes host (Err e) after = (put_refusal host at (length bytes) ≡ Some e) × (after ≡ host)
PutRule at bytes host _ after = ⊥

-- a step at port n, where there is one
abbrev pub AtPort : Places → ℕ → Outcome → Places → (Place → Type 0) → Type 0
AtPort old n outcome new R =
    MatchOption (slice_get old.devices n) ((outcome ≡ Err error.NoSuchPort) × (new ≡ old)) R

-- a step of device n alone
abbrev pub OnDevice : Places → ℕ → Outcome → Places → (Place → Outcome → Place → Type 0) → Type 0
OnDevice old n outcome new R =
    AtPort old n outcome new
    (λ place. (after : Place) × R place outcome after × (new ≡ with_device old n after))

-- a step of device n and the multiplier
abbrev pub OnDeviceAndMultiplier : Places → ℕ → Outcome → Places
    → (Place → PmState → Outcome → Place → PmState → Type 0) → Type 0
OnDeviceAndMultiplier old n outcome new R =
    AtPort old n outcome new (λ place. (after : Place) × (left : PmState)
    × R place old.multiplier outcome after left
    × (new ≡ with_multiplier (with_device old n after) left))

-- a step of the host alone
abbrev pub OnHost : Places → Outcome → Places → (Host → Outcome → Host → Type 0) → Type 0
OnHost old outcome new R = R old.host outcome new.host × (new ≡ with_host old new.host)

-- what a step may give, and what it leaves
abbrev pub Rule : Places → Step → Outcome → Places → Type 0
Rule old (step.Came n) outcome new = OnDevice old n outcome new (CameRule n)
Rule old (step.Gone n) outcome new = OnDevice old n outcome new (GoneRule n)
Rule old (step.DiskSend n) outcome new = OnDevice old n outcome new (DiskSendRule n)
Rule old (step.Inject n bytes) outcome new = OnDevice old n outcome new (InjectRule n bytes)
Rule old (step.DiskTake n) outcome new = OnDevice old n outcome new (DiskTakeRule n)
Rule old (step.PmPresence n) outcome new =
    OnDeviceAndMultiplier old n outcome new (PmPresenceRule n)
Rule old (step.PmFromDevice n) outcome new =
    OnDeviceAndMultiplier old n outcome new (PmFromDeviceRule n)
Rule old (step.PmDown n) outcome new = OnDeviceAndMultiplier old n outcome new (PmDownRule n)
Rule old step.PmFromHost outcome new =
    PmFromHostRule old.downward old.multiplier outcome new.downward new.multiplier
    × (new ≡ with_multiplier (with_downward old new.downward) new.multiplier)
Rule old step.PmUp outcome new =
    PmUpRule old.multiplier old.upward outcome new.multiplier new.upward
    × (new ≡ with_upward (with_multiplier old new.multiplier) new.upward)
Rule old step.HostTake outcome new =
    HostTakeRule old.upward old.host outcome new.upward new.host
    × (new ≡ with_host (with_upward old new.upward) new.host)
Rule old step.HostPush outcome new =
    HostPushRule old.host old.downward outcome new.host new.downward
    × (new ≡ with_downward (with_host old new.host) new.downward)
Rule old step.Tick outcome new = OnHost old outcome new TickRule
Rule old (step.Submit dev request) outcome new = OnHost old outcome new (SubmitRule dev request)
Rule old step.Poll outcome new = OnHost old outcome new PollRule
Rule old (step.Put at bytes) outcome new = OnHost old outcome new (PutRule at bytes)

-- no refusal of a step at a port
abbrev pub no_refusal : Place → Option StepError
no_refusal place = None

-- the first refusal of a step at port n
abbrev pub port_refusal : Places → ℕ → (Place → Option StepError) → Option StepError
port_refusal now n first = option_map_or first (slice_get now.devices n) (Some error.NoSuchPort)

-- the first refusal that applies to a step, if one does
abbrev pub refusal : Places → Step → Option StepError
refusal now (step.Came n) = port_refusal now n came_refusal
refusal now (step.Gone n) = port_refusal now n gone_refusal
refusal now (step.DiskSend n) = port_refusal now n send_refusal
refusal now (step.Inject n bytes) = port_refusal now n (inject_refusal bytes)
refusal now (step.DiskTake n) = port_refusal now n no_refusal
refusal now (step.PmPresence n) = port_refusal now n no_refusal
refusal now (step.PmFromDevice n) = port_refusal now n no_refusal
refusal now (step.PmDown n) = port_refusal now n no_refusal
refusal now (step.Put at bytes) = put_refusal now.host at (length bytes)
refusal now _ = None

-- a whole run, one step after another
abbrev pub Run : Places → List Step → List Answer → Places → Type 0
Run old [] [] new = new ≡ old
Run old (s ∷ steps) (a ∷ answers) new =
    (mid : Places) × Rule old s (Ok a) mid × Run mid steps answers new
Run old [] (a ∷ answers) new = ⊥
Run old (s ∷ steps) [] new = ⊥

-- The run of these steps stops at step i with an error. The steps before it made answers, and the
-- world is the one that they leave. The error is the first refusal of step i there, or lack of memory
-- if none applies. After the first step it is an error that step i itself gives. Before the first
-- step, memory may also run out for the room for the answers.
pub record Stops (old : Places) (steps : List Step) (i : ℕ) (e : StepError) (answers : List Answer)
    (new : Places) : Type 0 where
  pub run : Run old (take i steps) answers new
  pub refused : IsSomeAnd (slice_get steps i) (λ s. Refuses (refusal new s) e)
  pub gives : 0 < i → IsSomeAnd (slice_get steps i) (λ s. Rule new s (Err e) new)
