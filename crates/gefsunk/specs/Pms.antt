-- What the calls on a multiplier do, by the rules of the multiplier (Serial ATA 3.x, 16.3). C does not see
-- stamps: a FIS of the host has an empty one, and a FIS of a device has the connection that its port counted.
use Rattle.std.specs.Prelude.{◌≡◌, ◌≢◌, ℕ, ◌+◌, ◌<◌, ◌≤◌, ◌==◌, if◌then◌else◌, min, Bool, true, false, List, replicate, slice_index, slice_set, Some}
use Rattle.std.specs.Prelude.{None, Result, Ok, Err}
use Rattle.fis_view.specs.{Frames.{Stamped, is_frame}, declared.frame.{Stamp.Stamp, FrameError.FrameError}}
use Rattle.fis_view.specs.declared.frame.FrameError.TheVariants as frame_error
use Rattle.multiplier.specs.{Arbiter.control_port, Rules.{FromDeviceRule, FromHostRule, CameRule, GoneRule, NextDownRule, NextUpRule}}
use Rattle.multiplier.specs.declared.multiplier.{Passed.Passed, PmRefusal.PmRefusal}
use Rattle.multiplier.specs.State as state
use Rattle.multiplier.specs.declared.multiplier.Passed.TheVariants as passed
use Rattle.multiplier.specs.declared.multiplier.PmRefusal.TheVariants as refusal
use Rattle.pm_ports.specs.declared.port.Offered.TheVariants as offered
use Rattle.pm_ports.specs.declared.port.PortError.TheVariants as port_error
use Rattle.pm_ports.specs.declared.port.GoneError.TheVariants as gone_error
use Rattle.pm_registers.specs.RegisterMap as map
use Rattle.pm_registers.specs.declared.words.RegisterError.TheVariants as register_error
use Rattle.gefsunk.specs.declared.{pm.Pm.Pm, status.Status.Status}
use Rattle.gefsunk.specs.declared.status.Status.TheVariants as status

abbrev pub no_removals : List ℕ
no_removals = replicate 15 0

abbrev pub no_stamp : Stamp
no_stamp = record { port = 0; conn = 0; number = 0; shown = no_removals }

abbrev pub refused : FrameError → Status
refused frame_error.BadLength = status.BadLength
refused frame_error.OutOfMemory = status.NoMemory

-- a multiplier with this many ports and no device
abbrev pub opening : ℕ → Pm
opening ports =
    record { multiplier = state.opening ports; last = no_removals; seated = no_removals; given = no_stamp }

-- one whose port 0 is open from the start, with the first device at it, or none
abbrev pub opening_with_port_0 : ℕ → Bool → Pm
opening_with_port_0 ports is_there =
    record {
      multiplier = state.opening_with_port_0 ports (if is_there then Some 1 else None);
      last = slice_set no_removals 0 (if is_there then 1 else 0);
      seated = slice_set no_removals 0 (if is_there then 1 else 0);
      given = no_stamp;
    }

-- the port is a device port; there are at most fifteen
abbrev pub has_port : Pm → ℕ → Type 0
has_port pm port = (port < control_port) × (port < pm.multiplier.registers.ports)

abbrev pub of_host : List ℕ → Stamped
of_host fis = record { bytes = fis; stamp = no_stamp }

-- a FIS of the device at this port
abbrev pub of_device : Pm → ℕ → List ℕ → Stamped
of_device pm port fis = record {
  bytes = fis;
  stamp = record { port = port; conn = slice_index pm.seated port; number = 0; shown = no_removals };
}

-- the devices at the ports stay
abbrev pub KeepsSeats : Pm → Pm → Type 0
KeepsSeats old new = (new.last ≡ old.last) × (new.seated ≡ old.seated)

-- all but the multiplier stays
abbrev pub KeepsRest : Pm → Pm → Type 0
KeepsRest old new = KeepsSeats old new × (new.given ≡ old.given)

-- the connection after the last one of a port; the largest number stays there
abbrev pub next_connection : Pm → ℕ → ℕ
next_connection pm port = min (slice_index pm.last port + 1) 4294967295

-- a device comes
abbrev pub Plug : Pm → ℕ → Status → Pm → Type 0
Plug old port status.Done new =
    has_port old port
    × CameRule old.multiplier port (next_connection old port) (Ok tt) new.multiplier
    × (new.last ≡ slice_set old.last port (next_connection old port))
    × (new.seated ≡ slice_set old.seated port (next_connection old port)) × (new.given ≡ old.given)
Plug old port status.AlreadyThere new =
    has_port old port
    × CameRule old.multiplier port (next_connection old port) (Err port_error.AlreadyThere) new.multiplier
    × KeepsRest old new
Plug old port status.Spent new =
    has_port old port
    × CameRule old.multiplier port (next_connection old port) (Err port_error.OldConnection) new.multiplier
    × KeepsRest old new
Plug old port status.NoPort new = (has_port old port → ⊥) × (new ≡ old)
Plug old port _ new = ⊥

-- a device goes
abbrev pub Unplug : Pm → ℕ → Status → Pm → Type 0
Unplug old port status.Done new =
    has_port old port
    × GoneRule old.multiplier port (slice_index old.seated port) (Ok tt) new.multiplier
    × (new.last ≡ old.last) × (new.seated ≡ slice_set old.seated port 0) × (new.given ≡ old.given)
Unplug old port status.NotThere new =
    has_port old port
    × GoneRule old.multiplier port (slice_index old.seated port) (Err gone_error.NotThere) new.multiplier
    × KeepsRest old new
Unplug old port status.NoPort new = (has_port old port → ⊥) × (new ≡ old)
Unplug old port _ new = ⊥

-- the answer of the multiplier to a frame that it takes
abbrev pub taken_by : Stamped → Result Passed (Stamped × PmRefusal)
taken_by frame =
    if state.pm_port frame == control_port then Ok passed.Control else Ok (passed.Down (state.pm_port frame))

-- the host sends a FIS
abbrev pub FromHost : Pm → List ℕ → Status → Pm → Type 0
FromHost old fis status.Done new =
    (is_frame fis ≡ true)
    × FromHostRule old.multiplier (of_host fis) (taken_by (of_host fis)) new.multiplier × KeepsRest old new
FromHost old fis status.Dropped new =
    (is_frame fis ≡ true)
    × FromHostRule old.multiplier (of_host fis) (Ok passed.Dropped) new.multiplier × KeepsRest old new
FromHost old fis status.Full new =
    (is_frame fis ≡ true)
    × FromHostRule old.multiplier (of_host fis) (Err (of_host fis, refusal.HoldFull)) new.multiplier
    × KeepsRest old new
FromHost old fis status.BadLength new = (is_frame fis ≡ false) × (new ≡ old)
FromHost old fis status.NoMemory new = (is_frame fis ≡ true) × (new ≡ old)
FromHost old fis _ new = ⊥

-- the device at a port sends a FIS
abbrev pub FromDevice : Pm → ℕ → List ℕ → Status → Pm → Type 0
FromDevice old port fis status.Done new =
    has_port old port × (slice_index old.seated port ≢ 0) × (is_frame fis ≡ true)
    × FromDeviceRule old.multiplier port (of_device old port fis) (Ok offered.Held) new.multiplier
    × KeepsRest old new
FromDevice old port fis status.Dropped new =
    has_port old port × (slice_index old.seated port ≢ 0) × (is_frame fis ≡ true)
    × FromDeviceRule old.multiplier port (of_device old port fis) (Ok offered.Dropped) new.multiplier
    × KeepsRest old new
FromDevice old port fis status.Full new =
    has_port old port × (slice_index old.seated port ≢ 0) × (is_frame fis ≡ true)
    × FromDeviceRule old.multiplier port (of_device old port fis)
    (Err (of_device old port fis)) new.multiplier
    × KeepsRest old new
FromDevice old port fis status.BadLength new =
    has_port old port × (slice_index old.seated port ≢ 0) × (is_frame fis ≡ false) × (new ≡ old)
FromDevice old port fis status.NoMemory new =
    has_port old port × (slice_index old.seated port ≢ 0) × (is_frame fis ≡ true) × (new ≡ old)
FromDevice old port fis status.NotThere new =
    has_port old port × (slice_index old.seated port ≡ 0) × (new ≡ old)
FromDevice old port fis status.NoPort new = (has_port old port → ⊥) × (new ≡ old)
FromDevice old port fis _ new = ⊥

-- the next FIS for the host: its bytes and its port; the room must hold the longest FIS, whatever is next
abbrev pub ToHost : Pm → ℕ → Status → List ℕ → ℕ → Pm → Type 0
ToHost old room status.Done fis port new =
    (8196 ≤ room) × NextUpRule old.multiplier (Ok (Some (record { bytes = fis; stamp = new.given }))) new.multiplier
    × (port ≡ state.pm_port (record { bytes = fis; stamp = new.given }))
    × KeepsSeats old new
ToHost old room status.Nothing fis port new =
    (8196 ≤ room) × NextUpRule old.multiplier (Ok None) new.multiplier × (new ≡ old)
ToHost old room status.NoMemory fis port new =
    (8196 ≤ room) × (state.next_place old.multiplier ≡ Some control_port) × (old.multiplier.registers.due ≡ true)
    × (new ≡ old)
ToHost old room status.TooShort fis port new = (room < 8196) × (new ≡ old)
ToHost old room _ fis port new = ⊥

-- the FIS that waits for the device at a port
abbrev pub ToDevice : Pm → ℕ → ℕ → Status → List ℕ → Pm → Type 0
ToDevice old port room status.Done fis new =
    has_port old port × (8196 ≤ room)
    × NextDownRule old.multiplier port (Some (record { bytes = fis; stamp = new.given })) new.multiplier
    × KeepsSeats old new
ToDevice old port room status.Nothing fis new =
    has_port old port × (8196 ≤ room) × NextDownRule old.multiplier port None new.multiplier × (new ≡ old)
ToDevice old port room status.TooShort fis new = has_port old port × (room < 8196) × (new ≡ old)
ToDevice old port room status.NoPort fis new = (has_port old port → ⊥) × (new ≡ old)
ToDevice old port room _ fis new = ⊥

-- a register, as the host sees it
abbrev pub ReadRule : Pm → ℕ → ℕ → Status → ℕ → Type 0
ReadRule pm port number status.Done value = map.read_at pm.multiplier.registers port number ≡ Ok value
ReadRule pm port number status.NoPort value =
    map.read_at pm.multiplier.registers port number ≡ Err register_error.NoPort
ReadRule pm port number status.NoRegister value =
    map.read_at pm.multiplier.registers port number ≡ Err register_error.NoRegister
ReadRule pm port number _ value = ⊥
