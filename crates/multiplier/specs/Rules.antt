-- What each call does (Serial ATA 3.x, 16.3, port multiplier: frame transmission). The frame given last may
-- be put back until a call changes anything. A call that gives a frame grants this permission for its own
-- frame.
use Rattle.std.specs.Prelude.{◌≡◌, ◌≢◌, ◌↔◌, ℕ, ◌<◌, ◌≤◌, ◌==◌, true, false, if◌then◌else◌, Option, Some, None, is_some, MatchOption, MatchResult}
use Rattle.std.specs.{Prelude.{Result, Ok, Err}, Bool.MatchBool, Result.result_err, declared.alloc.AllocError.AllocError}
use Rattle.fis_view.specs.Frames.{Stamped, marked}
use Rattle.pm_registers.specs.RegisterMap as map
use Rattle.pm_control.specs.Answers.{IsAnswer, IsNotice, answer_to, registers_left, mark_left}
use Rattle.pm_ports.specs.Port as port
use Rattle.pm_ports.specs.declared.port.{GoneError.GoneError, PortError.PortError, Offered.{Offered, TheVariants.{Held as Kept, Dropped as LetGo}}}
use Rattle.multiplier.specs.{Arbiter.control_port, State.{PmState, IsSound, ShowsRecorded, is_answer, port_at, with_port, settled, held, rising}}
use Rattle.multiplier.specs.{State.{stamped, next_place, control_stamp, counted, pm_port, passes_to, falling}, declared.given.Given.Given}
use Rattle.multiplier.specs.declared.{given.{Given.TheVariants.{Up, Down}, Source.Source}, multiplier.{Passed.Passed, PmRefusal.PmRefusal}}
use Rattle.multiplier.specs.declared.given.Source.TheVariants as source
use Rattle.multiplier.specs.declared.multiplier.Passed.TheVariants as passed
use Rattle.multiplier.specs.declared.multiplier.PmRefusal.TheVariants as refusal

-- the ports stay: their number, which connection is present at each, which was the last, and which are gone
pub record KeepsPorts (old new : PmState) : Type 0 where
  pub count : new.registers.ports ≡ old.registers.ports
  pub present : (n : ℕ) → (port_at new n).present ≡ (port_at old n).present
  pub last : (n : ℕ) → (port_at new n).last ≡ (port_at old n).last
  pub gone : (n : ℕ) → (port_at new n).gone ≡ (port_at old n).gone

-- ---- a frame of the host

-- why the control port gives a frame back: an answer waits, or there is no memory for the frame's answer
abbrev pub ControlRefuses : PmState → Stamped → PmRefusal → Type 0
ControlRefuses old frame refusal.HoldFull = is_some old.answer ≡ true
ControlRefuses old frame refusal.OutOfMemory =
    (old.answer ≡ None) × (is_some (answer_to old.resetting old.registers frame.bytes) ≡ true)

-- otherwise it answers, or has no answer
abbrev pub ToControl : PmState → Stamped → Result Passed (Stamped × PmRefusal) → PmState → Type 0
ToControl old frame (Ok passed.Control) new =
    (old.answer ≡ None)
    × IsAnswer (answer_to old.resetting old.registers frame.bytes) (control_stamp old) new.answer
    × (new ≡ record old {
      registers = registers_left old.registers frame.bytes;
      resetting = mark_left old.resetting frame.bytes;
      answer = new.answer;
      number = (if is_some new.answer then counted old.number else old.number);
      given = None;
    })
ToControl old frame (Err given) new = ControlRefuses old frame given.1 × (given.0 ≡ frame) × (new ≡ old)
ToControl old frame _ new = ⊥

-- why a port that forwards gives a frame back: another frame is on its way down
abbrev pub DeviceRefuses : PmState → ℕ → PmRefusal → Type 0
DeviceRefuses old n refusal.HoldFull = is_some (port_at old n).down ≡ true
DeviceRefuses old n refusal.OutOfMemory = ⊥

-- otherwise it puts the frame into the downward place, for the connection
abbrev pub ToDevice : PmState → ℕ → ℕ → Stamped → Result Passed (Stamped × PmRefusal) → PmState → Type 0
ToDevice old n conn frame (Ok (passed.Down m)) new =
    (m ≡ n) × ((port_at old n).down ≡ None)
    × (new ≡ with_port old n (port.with_down (port_at old n) (Some (falling conn frame))))
ToDevice old n conn frame (Err given) new = DeviceRefuses old n given.1 × (given.0 ≡ frame) × (new ≡ old)
ToDevice old n conn frame _ new = ⊥

-- a frame for a port that is absent or does not forward is dropped and counted
abbrev pub ToNobody : PmState → Result Passed (Stamped × PmRefusal) → PmState → Type 0
ToNobody old (Ok passed.Dropped) new = new ≡ record old { dropped = counted old.dropped; given = None }
ToNobody old _ new = ⊥

abbrev pub ToPort : PmState → Stamped → Result Passed (Stamped × PmRefusal) → PmState → Type 0
ToPort old frame result new =
    MatchOption (passes_to old (pm_port frame)) (ToNobody old result new)
    (λ conn. ToDevice old (pm_port frame) conn frame result new)

abbrev pub FromHostRule : PmState → Stamped → Result Passed (Stamped × PmRefusal) → PmState → Type 0
FromHostRule old frame result new =
    MatchBool (pm_port frame == control_port) (ToControl old frame result new) (ToPort old frame result new)

-- a frame is dropped exactly where it is not for the control port and its port is absent or does not forward
abbrev pub DropsOnly : PmState → Stamped → Result Passed (Stamped × PmRefusal) → Type 0
DropsOnly old frame result =
    (result ≡ Ok passed.Dropped)
    ↔ ((pm_port frame ≢ control_port) × (map.forwards old.registers (pm_port frame) ≡ false))

-- ---- a frame of a device

abbrev pub FromDeviceRule : PmState → ℕ → Stamped → Result Offered Stamped → PmState → Type 0
FromDeviceRule old n frame (Ok LetGo) new =
    (port.is_gone (port_at old n) frame.stamp.conn ≡ true) × (new ≡ old)
FromDeviceRule old n frame (Ok Kept) new =
    (port.is_gone (port_at old n) frame.stamp.conn ≡ false) × ((port_at old n).up ≡ None)
    × (new ≡ with_port old n (port.with_up (port_at old n) (Some (stamped n frame))))
FromDeviceRule old n frame (Err back) new =
    (port.is_gone (port_at old n) frame.stamp.conn ≡ false) × (is_some (port_at old n).up ≡ true)
    × (back ≡ frame)
    × (new ≡ old)

-- a device came to a port: the port has its connection, and the registers show it
abbrev pub with_device : PmState → ℕ → ℕ → PmState
with_device pm n conn = record (with_port pm n (port.with_connection (port_at pm n) conn)) {
  registers = map.after_insert pm.registers n;
}

abbrev pub CameRule : PmState → ℕ → ℕ → Result (Unit {0}) PortError → PmState → Type 0
CameRule old n conn result new =
    (result_err result ≡ port.came_refusal (port_at old n) conn)
    × MatchResult result (λ _. new ≡ with_device old n conn) (λ _. new ≡ old)

-- A device went from a port: the port recorded it and holds no frame of it any more, and the registers show
-- it. The frame that waited to go down to it is dropped and counted.
abbrev pub without_device : PmState → ℕ → ℕ → PmState
without_device pm n conn = record (with_port pm n (port.with_removal (port_at pm n) conn)) {
  registers = map.after_remove pm.registers n;
  dropped = (if is_some (port_at pm n).down then counted pm.dropped else pm.dropped);
}

abbrev pub GoneRule : PmState → ℕ → ℕ → Result (Unit {0}) GoneError → PmState → Type 0
GoneRule old n conn result new =
    (result_err result ≡ port.gone_refusal (port_at old n) conn)
    × MatchResult result (λ _. new ≡ without_device old n conn) (λ _. new ≡ old)

-- ---- a frame for the host

-- how the frame held at a port is put back: with the PM Port that the device wrote
abbrev pub held_source : Stamped → Source
held_source frame = source.Held (pm_port frame)

-- the permission to put this frame back, with the place that was served before it
abbrev pub may_go_back : PmState → Source → Stamped → Option Given
may_go_back old kind frame = Some (Up old.served kind frame.stamp)

-- the frame that a port holds goes up; its stamp has the port, and its PM Port becomes the port
abbrev pub PortGives : PmState → ℕ → Stamped → PmState → Type 0
PortGives old n frame new = MatchOption (held old n) ⊥ (λ was.
    (was.stamp.port ≡ n) × (frame ≡ rising n was)
    × (new ≡ record (with_port old n (port.with_up (port_at old n) None)) {
      served = n;
      given = may_go_back old (held_source was) frame;
    }))

-- the control port gives a notification that is due before an answer that waits
abbrev pub ControlGives : PmState → Stamped → PmState → Type 0
ControlGives old frame new =
    MatchBool old.registers.due
    (IsNotice true (control_stamp old) (Some frame)
    × (new ≡ record old {
      registers = map.after_notice old.registers;
      number = counted old.number;
      served = control_port;
      given = may_go_back old source.Notice frame;
    }))
    ((old.answer ≡ Some frame)
    × (new ≡ record old {
      answer = None;
      served = control_port;
      given = may_go_back old source.Answer frame;
    }))

abbrev pub PlaceGives : PmState → ℕ → Stamped → PmState → Type 0
PlaceGives old place frame new =
    MatchBool (place == control_port) (ControlGives old frame new) (PortGives old place frame new)

-- The next ready place after the one served last gives its frame. Only a notification needs memory.
abbrev pub NextUpRule : PmState → Result (Option Stamped) AllocError → PmState → Type 0
NextUpRule old (Ok (Some frame)) new =
    MatchOption (next_place old) ⊥ (λ place. PlaceGives old place frame new)
NextUpRule old (Ok None) new = (next_place old ≡ None) × (new ≡ old)
NextUpRule old (Err e) new = (next_place old ≡ Some control_port) × (old.registers.due ≡ true) × (new ≡ old)

-- This frame is the one that went up last, and nothing has changed since: some sound multiplier that gives it
-- becomes this one. The permission with the frame's stamp is still there, because every other call that
-- changes anything revokes it or grants one for a frame of its own.
abbrev pub CanPutBackUp : PmState → Stamped → Type 0
CanPutBackUp pm frame = (before : PmState) × IsSound before × NextUpRule before (Ok (Some frame)) pm

-- all is as it was before the frame was given, whatever that was
abbrev pub UndoesUp : PmState → Stamped → PmState → Type 0
UndoesUp old frame new = (before : PmState) → NextUpRule before (Ok (Some frame)) old → new ≡ settled before

-- A frame has room at a place that was served last. A port's place is empty, and the frame's connection is
-- not gone. For an answer, the frame is an answer and shows only recorded removals.
abbrev pub HasRoom : PmState → ℕ → Stamped → Source → Type 0
HasRoom pm place frame (source.Held was) =
    (place < control_port) × (was < 16) × ((port_at pm place).up ≡ None) × (frame.stamp.port ≡ place)
    × (port.is_gone (port_at pm place) frame.stamp.conn ≡ false)
HasRoom pm place frame source.Answer = (is_answer frame ≡ true) × ShowsRecorded pm frame.stamp
HasRoom pm place frame source.Notice = Unit {0}

-- a frame with the PM Port that it had
abbrev pub remarked : ℕ → Stamped → Stamped
remarked was frame = record frame { bytes = marked frame.bytes was }

-- the multiplier with the frame back in its place
abbrev pub refilled : PmState → ℕ → Stamped → Source → PmState
refilled pm place frame (source.Held was) =
    with_port pm place (port.with_up (port_at pm place) (Some (remarked was frame)))
refilled pm place frame source.Answer = record pm { answer = Some frame; given = None }
refilled pm place frame source.Notice = record pm {
  registers = map.after_restore pm.registers;
  number = frame.stamp.number;
  given = None;
}

-- the frame is put back as the permission says
abbrev pub put_back : PmState → Stamped → Option Given → PmState
put_back pm frame (Some (Up before kind stamp)) =
    refilled (record pm { served = before }) pm.served frame kind
put_back pm frame _ = pm

abbrev pub HasRoomFor : PmState → Stamped → Option Given → Type 0
HasRoomFor pm frame (Some (Up before kind stamp)) = (before ≤ control_port) × HasRoom pm pm.served frame kind
HasRoomFor pm frame _ = ⊥

-- ---- a frame for a device

-- the frame on its way down to the device at this port, if there is one
abbrev pub NextDownRule : PmState → ℕ → Option Stamped → PmState → Type 0
NextDownRule old n (Some frame) new =
    ((port_at old n).down ≡ Some frame)
    × (new ≡ record (with_port old n (port.with_down (port_at old n) None))
    { given = Some (Down n frame.stamp) })
NextDownRule old n None new = ((port_at old n).down ≡ None) × (new ≡ old)

-- the same for the frame that went down last, to the device at this port
abbrev pub CanPutBackDown : PmState → ℕ → Stamped → Type 0
CanPutBackDown pm n frame = (before : PmState) × IsSound before × NextDownRule before n (Some frame) pm

abbrev pub UndoesDown : PmState → ℕ → Stamped → PmState → Type 0
UndoesDown old n frame new =
    (before : PmState) → NextDownRule before n (Some frame) old → new ≡ settled before
