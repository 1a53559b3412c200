-- What a port multiplier holds (Serial ATA 3.x, 16.3, port multiplier): its registers (16.4), its device
-- ports, and what its control port has to transmit.
use Rattle.std.specs.Prelude.{◌≡◌, ℕ, ◌+◌, ◌%◌, ◌==◌, ◌≤◌, ◌&&◌, ◌||◌, min, Bool, false, true, if◌then◌else◌, List, length, map, replicate}
use Rattle.std.specs.Prelude.{slice_index, slice_index_or, slice_set, Option, None, Some, is_some}
use Rattle.fis_view.specs.{Frames.{Stamped, marked}, declared.frame.Stamp.Stamp}
use Rattle.pm_registers.specs.RegisterMap as map
use Rattle.pm_ports.specs.Port as port
use Rattle.multiplier.specs.{Arbiter.{control_port, next_served}, declared.given.Given.{Given, TheVariants.{Up, Down}}}

-- a multiplier, as contracts see it
pub record PmState : Type 0 where
  pub registers : map.RegisterMap
  -- whether a software reset of the control port has begun
  pub resetting : Bool
  -- the device ports; those beyond the number of ports do not exist
  pub ports : List port.PortState
  -- the answer of the control port that waits to go up
  pub answer : Option Stamped
  -- the place that was served last
  pub served : ℕ
  -- the running number of the next frame of the control port
  pub number : ℕ
  -- the number of frames of the host that were dropped
  pub dropped : ℕ
  -- the frame that the last call gave, if it can be put back
  pub given : Option Given

-- the largest count and the largest running number; one that reached it stays there
abbrev pub largest : ℕ
largest = 4294967295

abbrev pub counted : ℕ → ℕ
counted n = min (n + 1) largest

-- a new multiplier: nothing is connected, and port 0 is served first
abbrev pub opening : ℕ → PmState
opening ports = record {
  registers = map.opening ports;
  resetting = false;
  ports = replicate 15 port.empty_port;
  answer = None;
  served = control_port;
  number = 0;
  dropped = 0;
  given = None;
}

abbrev pub port_at : PmState → ℕ → port.PortState
port_at pm n = slice_index_or pm.ports n port.empty_port

-- a port at which the device of this connection is present from the start, if there is one
abbrev pub first_port : Option ℕ → port.PortState
first_port (Some conn) = port.with_connection port.empty_port conn
first_port None = port.empty_port

-- a new multiplier for software that knows no multipliers (16.3.3): its port 0 is enabled
abbrev pub opening_with_port_0 : ℕ → Option ℕ → PmState
opening_with_port_0 ports device = record (opening ports) {
  registers = map.opening_with_port_0 ports (is_some device);
  ports = slice_set (replicate 15 port.empty_port) 0 (first_port device);
}

-- the same multiplier, with nothing that can be put back
abbrev pub settled : PmState → PmState
settled pm = record pm { given = None }

-- another state of a port; what was given before cannot be put back any more
abbrev pub with_port : PmState → ℕ → port.PortState → PmState
with_port pm n p = record pm { ports = slice_set pm.ports n p; given = None }

-- ---- what is true of every multiplier

-- A port is sound. The registers show a device at it exactly where a connection is present. The frame that
-- waits to go up is stamped with the port, and its connection is not gone. The frame that waits to go down is
-- for the connection that is present.
pub record IsSoundPort (n : ℕ) (shown : Bool) (p : port.PortState) : Type 0 where
  pub sound : port.IsSound p
  pub agrees : shown ≡ is_some p.present
  pub stamped : (frame : Stamped) → p.up ≡ Some frame → frame.stamp.port ≡ n
  pub stays : (frame : Stamped) → p.up ≡ Some frame → port.is_gone p frame.stamp.conn ≡ false
  pub meant : (frame : Stamped) → p.down ≡ Some frame → p.present ≡ Some frame.stamp.conn

-- the answer of the control port: a Register Device to Host FIS, type 34h (10.5), stamped with the control
-- port
abbrev pub is_answer : Stamped → Bool
is_answer frame = frame.stamp.port == control_port && slice_index frame.bytes 0 == 0x34

-- its notification: a Set Device Bits FIS, type A1h (10.5)
abbrev pub is_notice : Stamped → Bool
is_notice frame = frame.stamp.port == control_port && slice_index frame.bytes 0 == 0xA1

-- a device port or the control port, as the place served before the frame that went up
abbrev pub IsPlace : Option Given → Type 0
IsPlace (Some (Up before source stamp)) = before ≤ control_port
IsPlace (Some (Down n stamp)) = Unit {0}
IsPlace None = Unit {0}

-- the highest connection of each port whose removal was recorded, 0 for none
abbrev pub removals : PmState → List ℕ
removals pm = map (λ p. p.gone) pm.ports

-- this stamp shows no removal above those that are recorded
abbrev pub ShowsRecorded : PmState → Stamp → Type 0
ShowsRecorded pm stamp = (n : ℕ) → slice_index stamp.shown n ≤ (port_at pm n).gone

pub record IsSound (pm : PmState) : Type 0 where
  pub served : pm.served ≤ control_port
  pub registers : map.IsSound pm.registers
  pub room : length pm.ports ≡ 15
  pub ports : (n : ℕ) → IsSoundPort n (map.port_at pm.registers n).present (port_at pm n)
  pub answer : (frame : Stamped) → pm.answer ≡ Some frame → is_answer frame ≡ true
  pub shows : (frame : Stamped) → pm.answer ≡ Some frame → ShowsRecorded pm frame.stamp
  pub given : IsPlace pm.given

-- ---- up

-- the frame of a port that goes up next: the one it holds, if the port forwards and the frame is of its
-- connection
abbrev pub held : PmState → ℕ → Option Stamped
held pm n = port.next_up (map.forwards pm.registers n) (port_at pm n)

-- a frame with this port in its stamp
abbrev pub stamped : ℕ → Stamped → Stamped
stamped n frame = record {
  bytes = frame.bytes;
  stamp =
      record { port = n; conn = frame.stamp.conn; number = frame.stamp.number; shown = frame.stamp.shown };
}

-- a frame as it goes up from a port: its PM Port is the port, and so is the port of its stamp
abbrev pub rising : ℕ → Stamped → Stamped
rising n frame = record { bytes = marked frame.bytes n; stamp = (stamped n frame).stamp }

-- A place is ready where it has a frame for the host: a port that holds a frame which can go up, and the
-- control port where a notification is due or an answer waits.
abbrev pub ready : PmState → ℕ → Bool
ready pm place =
    if place == control_port then pm.registers.due || is_some pm.answer else is_some (held pm place)

-- the place that is served next
abbrev pub next_place : PmState → Option ℕ
next_place pm = next_served pm.served (ready pm)

-- the stamp of the next frame of the control port: it shows the recorded removals
abbrev pub control_stamp : PmState → Stamp
control_stamp pm = record { port = control_port; conn = 0; number = pm.number; shown = removals pm }

-- ---- down

-- the PM Port of a frame, bits 3:0 of byte 1
abbrev pub pm_port : Stamped → ℕ
pm_port frame = slice_index frame.bytes 1 % 16

-- the connection that a frame for this port goes to: the one that is present, if the port forwards
abbrev pub passes_to : PmState → ℕ → Option ℕ
passes_to pm n = if map.forwards pm.registers n then (port_at pm n).present else None

-- a frame on its way down: its PM Port is 0, and its stamp has the connection that it goes to
abbrev pub falling : ℕ → Stamped → Stamped
falling conn frame = record {
  bytes = marked frame.bytes 0;
  stamp =
      record { port = frame.stamp.port; conn = conn; number = frame.stamp.number; shown = frame.stamp.shown };
}
