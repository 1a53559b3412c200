-- Where frames stand in a world, as its callers see it (Serial ATA 3.x, 16.3, port multiplier:
-- device ports, frame transmission, presence of a device on a port).
use Rattle.std.specs.Prelude.{ℕ, ◌+◌, ◌≡◌, ◌≤◌, ◌<◌, ◌%◌, ◌==◌, ◌&&◌, nat_le, Bool, false, List, [], ◌∷◌, ◌++◌, length, map, Option, Some, None}
use Rattle.std.specs.Prelude.{slice_set, replicate}
use Rattle.fis_view.specs.{Frames.Stamped, declared.frame.Stamp.Stamp}
use Rattle.multiplier.specs.{Arbiter.control_port, State.{PmState, opening as opening_multiplier, port_at}}
use Rattle.host_memory.specs.Memory.{zeroed}
use Rattle.hba_fbs.specs.Views.{opening_port}
use Rattle.hba_driver.specs.{declared.mode.Mode.{Mode, TheVariants.Switching}, Drivers.new_driver_in, HostTurns.Host}
use Rattle.pm_ports.specs.Port.{PortState}
use Rattle.pm_world.specs.{Attached.Attached, declared.{link.Change.Change, step.Config.Config}}

-- a link: the frames on it, oldest first, and how many it can hold
pub record Queue : Type 0 where
  pub frames : List Stamped
  pub capacity : ℕ

abbrev pub IsFull : Queue → Type 0
IsFull link = link.capacity ≡ length link.frames

abbrev pub pushed : Queue → Stamped → Queue
pushed link frame = record { frames = link.frames ++ frame ∷ []; capacity = link.capacity }

-- the first frame is taken off a link, if it has one
abbrev pub FirstLeaves : Queue → Option Stamped → Queue → Type 0
FirstLeaves old None new = (old.frames ≡ []) × (new ≡ old)
FirstLeaves old (Some frame) new = (old.frames ≡ frame ∷ new.frames) × (new.capacity ≡ old.capacity)

-- a presence link: the connections that came or went and are not recorded yet, oldest first, and how
-- many such changes it can hold
pub record Changes : Type 0 where
  pub changes : List Change
  pub capacity : ℕ

abbrev pub AreFull : Changes → Type 0
AreFull link = link.capacity ≡ length link.changes

abbrev pub posted : Changes → Change → Changes
posted link change =
    record { changes = link.changes ++ change ∷ []; capacity = link.capacity }

-- the first change is read off a presence link, if it has one
abbrev pub FirstIsRead : Changes → Option Change → Changes → Type 0
FirstIsRead old None new = (old.changes ≡ []) × (new ≡ old)
FirstIsRead old (Some change) new =
    (old.changes ≡ change ∷ new.changes) × (new.capacity ≡ old.capacity)

-- The place of a device: the unit, whether it is plugged in, its connection (0 before the first),
-- the number of its next FIS on it, its links from and to the multiplier, and its presence link.
pub record Place : Type 0 where
  pub unit : Attached
  pub plugged : Bool
  pub conn : ℕ
  pub number : ℕ
  pub up : Queue
  pub down : Queue
  pub presence : Changes

-- a world: the place at each fan-out port, the port multiplier, the links between it and the host,
-- and the host with its port, its driver and its memory
pub record Places : Type 0 where
  pub devices : List Place
  pub multiplier : PmState
  pub upward : Queue
  pub downward : Queue
  pub host : Host

-- what a port knows of connections: the connection that is present is the last that came, and is
-- above those that are gone; and no connection that is gone is above the last
pub record KnowsItsConnections (port : PortState) : Type 0 where
  pub present : (conn : ℕ) → port.present ≡ Some conn → (conn ≡ port.last) × (port.gone < conn)
  pub last : port.gone ≤ port.last

-- What is true of every world. It has at most fifteen devices. Its multiplier has a place for each
-- fan-out port. What waits there as the answer of the control port is stamped as such. At each port,
-- the connection that is present is above those that are gone, and none of these is above the last.
pub record IsOrderly (now : Places) : Type 0 where
  pub most : length now.devices ≤ 15
  pub room : length now.multiplier.ports ≡ 15
  pub answer : (frame : Stamped) → now.multiplier.answer ≡ Some frame
      → frame.stamp.port ≡ control_port
  pub knows : (n : ℕ) → KnowsItsConnections (port_at now.multiplier n)

-- a device shows no removals
abbrev pub nothing_shown : List ℕ
nothing_shown = replicate 15 0

-- the stamp of what is sent from a place at this port
abbrev pub stamp_of : ℕ → Place → Stamp
stamp_of port place =
    record { port = port; conn = place.conn; number = place.number; shown = nothing_shown }

-- the frame that is sent with these bytes from a place at this port
abbrev pub frame_of : ℕ → Place → List ℕ → Stamped
frame_of port place bytes = record { bytes = bytes; stamp = stamp_of port place }

-- the frame is the one of which an answer with these parts tells
pub record IsTold (frame : Stamped) (port conn number : ℕ) (bytes : List ℕ) : Type 0 where
  pub port_is : frame.stamp.port ≡ port
  pub conn_is : frame.stamp.conn ≡ conn
  pub number_is : frame.stamp.number ≡ number
  pub bytes_are : frame.bytes ≡ bytes

-- the place after these bytes were sent from it, the unit being as given
abbrev pub after_sending : ℕ → Place → List ℕ → Attached → Place
after_sending port place bytes unit = record place {
  unit = unit;
  number = place.number + 1;
  up = pushed place.up (frame_of port place bytes);
}

abbrev pub with_device : Places → ℕ → Place → Places
with_device old n place = record old { devices = slice_set old.devices n place }

abbrev pub with_multiplier : Places → PmState → Places
with_multiplier old pm = record old { multiplier = pm }

abbrev pub with_upward : Places → Queue → Places
with_upward old upward = record old { upward = upward }

abbrev pub with_downward : Places → Queue → Places
with_downward old downward = record old { downward = downward }

abbrev pub with_host : Places → Host → Places
with_host old host = record old { host = host }

abbrev pub empty_queue : ℕ → Queue
empty_queue capacity = record { frames = []; capacity = capacity }

-- the place of a unit in a new world
abbrev pub opening : ℕ → Attached → Place
opening capacity unit = record {
  unit = unit;
  plugged = false;
  conn = 0;
  number = 0;
  up = empty_queue capacity;
  down = empty_queue capacity;
  presence = record { changes = []; capacity = capacity };
}

-- the host of a new world: a port that was not started, a driver in this mode that did nothing, and memory
-- of this many bytes, all 0
abbrev pub opening_host_in : Mode → ℕ → Host
opening_host_in mode memory =
    record { port = opening_port; driver = new_driver_in mode 0; memory = zeroed memory }

-- the same with FIS-based switching
abbrev pub opening_host : ℕ → Host
opening_host memory = opening_host_in Switching memory

-- a new world of these units, in which port 0 is served first
abbrev pub new_world_in : Mode → Config → List Attached → Places
new_world_in mode config units = record {
  devices = map (opening config.capacity) units;
  multiplier = opening_multiplier config.ports;
  upward = empty_queue config.capacity;
  downward = empty_queue config.capacity;
  host = opening_host_in mode config.memory;
}

-- the same with FIS-based switching
abbrev pub new_world : Config → List Attached → Places
new_world config units = new_world_in Switching config units

-- Whether a world may have this size, with this many units: 1 to 15 ports and a unit for each, links
-- of 1 to 64 frames, and an even number of bytes of memory from 2 MiB to 16 MiB.
abbrev pub is_config : Config → ℕ → Bool
is_config config units =
    nat_le 1 config.ports && nat_le config.ports 15 && nat_le 1 config.capacity
    && nat_le config.capacity 64
    && nat_le 0x200000 config.memory && nat_le config.memory 0x1000000 && config.memory % 2 == 0
    && units == config.ports
