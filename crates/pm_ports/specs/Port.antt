-- What one fan-out port of a port multiplier holds: a frame on its way up, a frame on its way down, and which
-- connection of its device is present (Serial ATA 3.x, 16.3, port multiplier: frame transmission, which
-- buffers one FIS at a time in each direction).
use Rattle.std.specs.Prelude.{◌≡◌, ℕ, ◌<◌, Bool, false, not, nat_le, nat_lt, ◌==◌, ◌&&◌, if◌then◌else◌, Option, Some, None, is_some}
use Rattle.fis_view.specs.Frames.{Stamped}
use Rattle.pm_ports.specs.declared.port.{GoneError.{GoneError, TheVariants.NotThere}, PortError.{PortError, TheVariants.AlreadyThere}}
use Rattle.pm_ports.specs.declared.port.PortError.TheVariants.{OldConnection}

-- a port, as contracts see it
pub record PortState : Type 0 where
  -- the connection of the device that is present
  pub present : Option ℕ
  -- the highest connection that came, 0 for none
  pub last : ℕ
  -- the highest connection whose removal was recorded, 0 for none
  pub gone : ℕ
  -- the frame of the device that waits to go up
  pub up : Option Stamped
  -- the frame for the device that waits to go down
  pub down : Option Stamped

-- what holds for every port: the present connection is a valid one, the highest that came, and above those
-- that are gone; where none is present, every one that came is gone
pub record IsSound (port : PortState) : Type 0 where
  pub counted : (conn : ℕ) → port.present ≡ Some conn → 0 < conn
  pub last : (conn : ℕ) → port.present ≡ Some conn → conn ≡ port.last
  pub above : (conn : ℕ) → port.present ≡ Some conn → port.gone < conn
  pub away : port.present ≡ None → port.gone ≡ port.last

-- a port that no device came to, and that holds nothing
abbrev pub empty_port : PortState
empty_port = record { present = None; last = 0; gone = 0; up = None; down = None }

abbrev pub with_up : PortState → Option Stamped → PortState
with_up port place =
    record { present = port.present; last = port.last; gone = port.gone; up = place; down = port.down }

abbrev pub with_down : PortState → Option Stamped → PortState
with_down port place =
    record { present = port.present; last = port.last; gone = port.gone; up = port.up; down = place }

-- the port after this connection came; what it holds stays
abbrev pub with_connection : PortState → ℕ → PortState
with_connection port conn =
    record { present = Some conn; last = conn; gone = port.gone; up = port.up; down = port.down }

-- the first refusal that applies when a connection comes; connections are numbered from 1 and never fall
abbrev pub came_refusal : PortState → ℕ → Option PortError
came_refusal port conn =
    if is_some port.present then Some AlreadyThere else if nat_le conn port.last then Some OldConnection
    else None

-- whether a connection is at most the highest one that is gone; 0 is not a connection of a device
abbrev pub is_up_to : ℕ → ℕ → Bool
is_up_to highest conn = nat_lt 0 conn && nat_le conn highest

-- whether the removal of a connection, or of a later one, was recorded
abbrev pub is_gone : PortState → ℕ → Bool
is_gone port conn = is_up_to port.gone conn

-- whether this frame is one of the connection that is present
abbrev pub is_of_present : Option ℕ → Stamped → Bool
is_of_present (Some conn) frame = frame.stamp.conn == conn
is_of_present None frame = false

-- this frame, if the test holds
abbrev pub only_if : Bool → Stamped → Option Stamped
only_if test frame = if test then Some frame else None

-- what a place keeps when the connections up to this one are gone
abbrev pub left_in : ℕ → Option Stamped → Option Stamped
left_in highest (Some frame) = only_if (not (is_up_to highest frame.stamp.conn)) frame
left_in highest None = None

-- the port after the removal of this connection was recorded: no device is present, and no frame of a gone
-- connection is left
abbrev pub with_removal : PortState → ℕ → PortState
with_removal port conn =
    record {
      present = None;
      last = port.last;
      gone = conn;
      up = left_in conn port.up;
      down = left_in conn port.down;
    }

-- whether this connection is the one that is present
abbrev pub is_present : Option ℕ → ℕ → Bool
is_present (Some there) conn = conn == there
is_present None conn = false

-- only the present connection can go
abbrev pub gone_refusal : PortState → ℕ → Option GoneError
gone_refusal port conn = if is_present port.present conn then None else Some NotThere

-- the frame that goes up next: the one held, if the port forwards and the frame is of the present connection
abbrev pub rises : Bool → Option ℕ → Option Stamped → Option Stamped
rises forwards present (Some frame) = only_if (forwards && is_of_present present frame) frame
rises forwards present None = None

abbrev pub next_up : Bool → PortState → Option Stamped
next_up forwards port = rises forwards port.present port.up
