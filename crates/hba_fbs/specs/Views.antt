-- A host port as its callers see it, and the part of it that belongs to one device: AHCI 1.3.1, chapter 9,
-- FIS-based Switching.
use Rattle.std.specs.Prelude.{ℕ, ◌≡◌, ◌≢◌, ◌+◌, ◌*◌, ◌<◌, false, bit_and, List, replicate, slice_index_or, Option, None}
use Rattle.slots.specs.Slots.{Slots, DeviceSlots, issue_at, no_slots, no_own_slots, slots_of}
use Rattle.port_errors.specs.{Errors.{Errors, cause_of, no_errors, without}, declared.cause.DeviceCause.DeviceCause}
use Rattle.hba_commands.specs.declared.command.Command.{Command}
use Rattle.hba_fbs.specs.{declared.{registers.Registers.Registers, state.DeviceState.DeviceState}, Registers.{AreOwn, AreRegisters}}
use Rattle.hba_fbs.specs.Registers.{opening_registers}

pub record Port : Type 0 where
  -- the port's own registers
  pub registers : Registers
  pub slots : Slots
  pub errors : Errors
  -- by device: its task file, whether it is in software reset, and whether it is marked as signed
  pub states : List DeviceState
  -- by slot: the command as it was when it was issued
  pub commands : List (Option Command)
  -- the running number of the next frame that goes out
  pub number : ℕ
  -- the device of the slot that was issued last, the control port before any; with command-based switching it
  -- is the active device
  pub active : ℕ

-- the state of a device that has sent nothing: Status 50h, Error 0
abbrev pub opening_state : DeviceState
opening_state = record { status = 0x50; error = 0; resetting = false; block = None; signed = false }

-- a new port
abbrev pub opening_port : Port
opening_port = record {
  registers = opening_registers;
  slots = no_slots;
  errors = no_errors;
  states = replicate 16 opening_state;
  commands = replicate 32 None;
  number = 0;
  active = 15;
}

abbrev pub state_at : List DeviceState → ℕ → DeviceState
state_at states dev = slice_index_or states dev opening_state

-- the command that was issued last in a slot
abbrev pub last_command : List (Option Command) → ℕ → Option Command
last_command commands slot = slice_index_or commands slot None

-- PxTFD of a device: Error in bits 15:8, Status in bits 7:0
abbrev pub task_file : DeviceState → ℕ
task_file state = 256 * state.error + state.status

-- each slot in which something is issued has its command
abbrev pub HaveCommands : Slots → List (Option Command) → Type 0
HaveCommands slots commands = (slot : ℕ) → last_command commands slot ≡ None → issue_at slots slot ≡ None

-- what holds for every port that holds no memory
pub record IsCorePort (port : Port) : Type 0 where
  pub registers : AreOwn port.registers
  pub commands : HaveCommands port.slots port.commands
  pub active : port.active < 16

-- what holds for every port beside a memory
pub record IsPort (port : Port) : Type 0 where
  pub registers : AreRegisters port.registers
  pub commands : HaveCommands port.slots port.commands
  pub active : port.active < 16

-- ---- the view of one device

-- What belongs to a device: its issues with the bytes that were transferred, and its last setup; its task
-- file, whether it is in software reset, the block of a PIO Setup, and whether the signature of an ATA device
-- came from it; and the first cause of its fault.
pub record DeviceView : Type 0 where
  pub slots : DeviceSlots
  pub state : DeviceState
  pub fault : Option DeviceCause

abbrev pub view_of : ℕ → Port → DeviceView
view_of n port =
    record { slots = slots_of n port.slots; state = state_at port.states n; fault = cause_of port.errors n }

-- the views of all other devices stay
abbrev pub LeavesOtherViews : ℕ → Port → Port → Type 0
LeavesOtherViews n old new = (other : ℕ) → other ≢ n → view_of other new ≡ view_of other old

-- a flushed device has no slot, no setup and no fault, and its task file is that of a new port
abbrev pub flushed_view : DeviceView
flushed_view = record { slots = no_own_slots; state = opening_state; fault = None }

-- a device is flushed, and its fault ends
pub record Flushes (old : Port) (dev : ℕ) (new : Port) : Type 0 where
  pub dev_below : dev < 16
  pub own : view_of dev new ≡ flushed_view
  pub others : LeavesOtherViews dev old new
  pub registers : new.registers ≡ old.registers
  pub errors : new.errors ≡ without old.errors dev
  pub commands : new.commands ≡ old.commands
  pub number : new.number ≡ old.number
  pub active : new.active ≡ old.active

-- After ST falls, or after the device is cleared, BSY and DRQ (bits 7 and 3 of Status) are 0, and no reset
-- and no block is under way. The mark of its signature stays.
abbrev pub stopped_state : DeviceState → DeviceState
stopped_state state = record {
  status = bit_and state.status 0x77;
  error = state.error;
  resetting = false;
  block = None;
  signed = state.signed;
}

-- there is no slot, no setup and no fault either
abbrev pub stopped_view : DeviceView → DeviceView
stopped_view view = record { slots = no_own_slots; state = stopped_state view.state; fault = None }
