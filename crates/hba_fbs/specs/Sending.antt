-- What a host port sends next: AHCI 1.3.1, 5.3 (the port's states, from sending a command to sending its
-- data) and chapter 9 (FIS-based Switching); Serial ATA 3.x, 10.5 (Register Host to Device and Data FISes).
use Rattle.std.specs.Prelude.{ℕ, ◌≡◌, ◌+◌, ◌-◌, min, ◌&&◌, ◌||◌, Bool, true, false, not, is_none, is_some, if◌then◌else◌, bit_or, List, ◌∷◌, map}
use Rattle.std.specs.{Prelude.{replicate, slice_index, Option, Some, None, MatchOption}, List.range_with_len}
use Rattle.fis_view.specs.{declared.frame.Stamp.Stamp, Frames.Stamped}
use Rattle.host_memory.specs.{Memory.{Memory, client_start}, Place.place, declared.table.Prd.Prd}
use Rattle.port_errors.specs.{Errors.{Errors, cause_of, with_port}, Interrupts.port_interrupts, declared.cause.PortCause.TheVariants.Bus}
use Rattle.hba_commands.specs.declared.command.Command.{Command}
use Rattle.slots.specs.{Commands.{after_sent, next_slot}, Data.{after_payload, payload}, Slots.{DeviceSlots, Slots, context_of, has_bit, holds}}
use Rattle.slots.specs.{Slots.{is_control, issue_at, lowest_below, mask_below, own_issue, match_some}, Work.is_dma}
use Rattle.hba_fbs.specs.{declared.{state.DeviceState.DeviceState, status.Block.Block}, Status.{is_busy, wants_data}, Tables.{prds_of, sound_command}}
use Rattle.hba_fbs.specs.{Taking.is_running, Views.{DeviceView, LeavesOtherViews, Port, last_command, state_at, view_of}}

-- ---- data

-- data is due to a device that asked for data of its setup and is not faulty
abbrev pub is_due : Slots → Errors → ℕ → Bool
is_due slots errors dev = is_some (payload (context_of slots dev)) && is_none (cause_of errors dev)

-- the lowest of these devices is served first
unfoldable pub next_receiver : Port → Option ℕ
next_receiver port = lowest_below (is_due port.slots port.errors) 16

-- len bytes of a transfer from offset on, as they are at their places
abbrev pub gathered : List Prd → ℕ → ℕ → List ℕ → List ℕ
gathered prds offset len client =
    map (λ k. slice_index client (place prds (offset + k) - client_start)) (range_with_len 0 len)

-- a Data FIS to a device
abbrev pub data_fis : ℕ → List ℕ → List ℕ
data_fis dev bytes = 0x46 ∷ dev ∷ 0 ∷ 0 ∷ bytes

-- the view of a device after its data went out
abbrev pub view_fed : DeviceView → DeviceView
view_fed view = record view { slots = after_payload view.slots }

-- ---- commands

-- a device takes commands while BSY and DRQ are 0 and it is not in software reset
abbrev pub is_ready : DeviceState → Bool
is_ready state = not (state.resetting || is_busy state.status || wants_data state.status)

abbrev pub ready_devices : Port → ℕ
ready_devices port = mask_below (λ dev. is_ready (state_at port.states dev)) 16

abbrev pub faulty_devices : Port → ℕ
faulty_devices port = mask_below (λ dev. is_some (cause_of port.errors dev)) 16

-- the slot whose command goes out next
unfoldable pub next_to_send : Port → Option ℕ
next_to_send port = next_slot (ready_devices port) (faulty_devices port) port.slots

-- SRST, bit 2 of the Control field, byte 15 of a Register Host to Device FIS
abbrev pub resets : List ℕ → Bool
resets cfis = has_bit (slice_index cfis 15) 2

-- a command makes its device busy; a control frame with SRST set begins a software reset
abbrev pub state_sent : DeviceState → Command → DeviceState
state_sent state command =
    if is_control command.work.kind then record state { resetting = state.resetting || resets command.cfis }
    else record state { status = bit_or state.status 0x80 }

-- the command of the slot has no setup
abbrev pub has_no_setup : DeviceSlots → ℕ → Bool
has_no_setup own slot = holds (λ issue. is_dma issue.work.kind) (own_issue own slot)

-- such a command ends the block of the setup before it
abbrev pub block_sent : DeviceView → ℕ → Option Block
block_sent view slot = if has_no_setup view.slots slot then None else view.state.block

-- the view of a device after the command of its slot went out
abbrev pub view_sent : DeviceView → ℕ → Command → DeviceView
view_sent view slot command =
    record view {
      slots = after_sent view.slots slot;
      state = record (state_sent view.state command) { block = block_sent view slot };
    }

-- ---- what goes out next

pub data Outgoing : Type 0 where
  -- nothing may go
  Nothing : Outgoing
  -- data is due to a device, and the PRD table of its slot cannot be used
  Unreadable : (dev : ℕ) → Outgoing
  -- len bytes of a command's transfer, from offset on, to a device
  Data : (dev offset len : ℕ) → Command → Outgoing
  -- the command of a device's slot
  Order : (dev slot : ℕ) → Command → Outgoing

abbrev pub data_with : ℕ → ℕ → ℕ → Option Command → Outgoing
data_with dev offset len None = Unreadable dev
data_with dev offset len (Some command) = Data dev offset len command

-- the data that is due to a device, by the PRD table of its slot as it is now
abbrev pub data_due : Port → Memory → ℕ → Outgoing
data_due port memory dev = match_some (payload (context_of port.slots dev)) Nothing (λ next.
    data_with dev next.1 next.2 (sound_command memory port.commands (view_of dev port).slots next.0))

-- the command of a slot, as it was at its issue
abbrev pub order_due : Port → ℕ → Outgoing
order_due port slot = match_some (issue_at port.slots slot) Nothing (λ issue.
    match_some (last_command port.commands slot) Nothing (Order issue.dev slot))

-- Data for the lowest device that asked for it, or else the command of the lowest slot that may be sent
abbrev pub outgoing : Port → Memory → Outgoing
outgoing port memory =
    if not (is_running port) then Nothing
    else match_some (next_receiver port) (match_some (next_to_send port) Nothing (order_due port))
    (data_due port memory)

-- a frame goes out
abbrev pub is_sent : Outgoing → Bool
is_sent Nothing = false
is_sent (Unreadable dev) = false
is_sent (Data dev offset len command) = true
is_sent (Order dev slot command) = true

-- nothing may go: the port does not run, or no data is due to a device and no slot may be sent
abbrev pub MayRest : Port → Type 0
MayRest port = is_running port ≡ true → (next_receiver port ≡ None) × (next_to_send port ≡ None)

-- ---- what it leaves

-- the largest running number, which stays once it is reached
abbrev pub largest : ℕ
largest = 0xFFFFFFFF

abbrev pub counted : ℕ → ℕ
counted n = min (n + 1) largest

-- the stamp beside a frame of the host: its PM Port and its running number
abbrev pub host_stamp : ℕ → ℕ → Stamp
host_stamp dev number = record { port = dev; conn = 0; number = number; shown = replicate 15 0 }

-- These bytes go out to a device, whose view is then this one. Of all the rest only the running number
-- changes.
pub record Sends (old : Port) (dev : ℕ) (bytes : List ℕ) (view : DeviceView) (frame : Stamped)
    (new : Port) : Type 0 where
  pub frame_is : frame ≡ record { bytes = bytes; stamp = host_stamp dev old.number }
  pub own : view_of dev new ≡ view
  pub others : LeavesOtherViews dev old new
  pub registers : new.registers ≡ old.registers
  pub errors : new.errors ≡ old.errors
  pub commands : new.commands ≡ old.commands
  pub number : new.number ≡ counted old.number
  pub active : new.active ≡ old.active

-- a host bus error stops the port and sets its bits of PxIS
abbrev pub stopped_by_bus : Port → Port
stopped_by_bus old = record old {
  registers = record old.registers { interrupts = bit_or old.registers.interrupts (port_interrupts Bus) };
  errors = with_port old.errors Bus;
}

-- what goes out, and what it leaves
abbrev pub Gives : Outgoing → Port → Memory → Option Stamped → Port → Type 0
Gives Nothing old memory frame new = (frame ≡ None) × (new ≡ old)
Gives (Unreadable dev) old memory frame new = (frame ≡ None) × (new ≡ stopped_by_bus old)
Gives (Data dev offset len command) old memory frame new = MatchOption frame ⊥ (λ f.
    Sends old dev (data_fis dev (gathered (prds_of memory command) offset len memory.client))
    (view_fed (view_of dev old)) f new)
Gives (Order dev slot command) old memory frame new = MatchOption frame ⊥ (λ f.
    Sends old dev command.cfis (view_sent (view_of dev old) slot command) f new)
