-- Taking a FIS: AHCI 1.3.1, 5.3.13 and 9.3 (FIS-based Switching: errors of one device and of the port).
use Rattle.std.specs.Prelude.{ℕ, ◌≡◌, ◌%◌, ◌==◌, ◌&&◌, ◌||◌, Bool, true, false, not, if◌then◌else◌, bit_or, List, drop, slice_index, Option, Some}
use Rattle.std.specs.Prelude.{None, is_none, is_some, Result, Ok, Err}
use Rattle.fis_view.specs.{Seen.seen, declared.view.{Fis.Fis, FisFault.FisFault}}
use Rattle.fis_view.specs.declared.view.Fis.TheVariants as kind
use Rattle.host_memory.specs.Memory.{Memory}
use Rattle.port_errors.specs.{Errors.{Errors, with_alone, with_device, with_port}, Interrupts.{device_interrupts, port_interrupts}}
use Rattle.port_errors.specs.declared.cause.{DeviceCause.DeviceCause, PortCause.PortCause}
use Rattle.rx_area.specs.Area as rx
use Rattle.slots.specs.Slots.{DeviceSlots, KeepsFree, lowest, own_issue}
use Rattle.rx_area.specs.declared.area.Posted.{Posted}
use Rattle.rx_area.specs.declared.area.Posted.TheVariants as place
use Rattle.hba_fbs.specs.declared.{hearing.{Fault.Fault, Happening.Happening, Heard.Heard}, registers.Registers.Registers}
use Rattle.hba_fbs.specs.{declared.report.{TakeReport.TakeReport, Wrote.Wrote}, Bits.bit, Hearing.{heard_bad, heard_fis, is_admitted, moved}}
use Rattle.hba_fbs.specs.{Posting.{Posts, posted, pss, signs}, Tables.{Delivers, is_sound}, Views.{DeviceView, LeavesOtherViews, Port, view_of}}
use Rattle.hba_fbs.specs.declared.hearing.Fault.TheVariants as fault
use Rattle.hba_fbs.specs.declared.hearing.Happening.TheVariants as happening

-- ---- which FISes are heard

-- the PM Port of a frame
abbrev pub port_of : List ℕ → ℕ
port_of frame = slice_index frame 1 % 16

-- ST is 1, and no error has stopped the port
abbrev pub is_running : Port → Bool
is_running port = port.registers.started && is_none port.errors.port

-- A FIS is ignored while the port does not run, and while its device is faulty. While its device is in
-- software reset, each FIS other than a signature is ignored.
abbrev pub is_ignored : (running : Bool) → DeviceView → Result Fis FisFault → Bool
is_ignored running view fis = not running || is_some view.fault || (view.state.resetting && not (signs fis))

-- a FIS of a transfer: DMA Setup, PIO Setup, DMA Activate or Data
abbrev pub is_of_transfer : Result Fis FisFault → Bool
is_of_transfer (Ok (kind.DmaActivate f)) = true
is_of_transfer (Ok (kind.DmaSetup f)) = true
is_of_transfer (Ok (kind.PioSetup f)) = true
is_of_transfer (Ok (kind.Payload f)) = true
is_of_transfer fis = false

-- nothing is issued for the device
abbrev pub owns_none : DeviceSlots → Bool
owns_none own = is_none (lowest (λ slot. is_some (own_issue own slot)))

-- Without FIS-based switching a FIS of a transfer is ignored if nothing is issued for its device. The control
-- port may not send one.
abbrev pub passes_over : (switching : Bool) → ℕ → DeviceView → Result Fis FisFault → Bool
passes_over switching dev v fis =
    not switching && not (dev == 15) && is_of_transfer fis && owns_none v.slots

-- a frame from this PM Port is ignored, with the port as it is now
abbrev pub ignores : ℕ → Port → List ℕ → Bool
ignores dev port frame = passes_over port.registers.switching dev (view_of dev port) (seen frame)
    || is_ignored (is_running port) (view_of dev port) (seen frame)

-- the FIS, if its length is right and it may come from this PM Port
abbrev pub admitted : ℕ → Result Fis FisFault → Option Fis
admitted dev (Err e) = None
admitted dev (Ok fis) = if is_admitted dev fis then Some fis else None

-- ---- what it means for its device

abbrev pub heard : ℕ → DeviceView → (sound : Bool) → Option Fis → Heard
heard dev view sound None = heard_bad dev view.state
heard dev view sound (Some fis) = heard_fis view.slots view.state sound fis

abbrev pub device_cause : Option Fault → Option DeviceCause
device_cause None = None
device_cause (Some (fault.Device c)) = Some c
device_cause (Some (fault.Port c)) = None

abbrev pub port_cause : Option Fault → Option PortCause
port_cause None = None
port_cause (Some (fault.Device c)) = None
port_cause (Some (fault.Port c)) = Some c

-- the device's view afterwards; the happening says how the slots change
abbrev pub view_after_hearing : DeviceView → Heard → DeviceView
view_after_hearing view h =
    record { slots = moved h.happening view.slots; state = h.state; fault = device_cause h.fault }

abbrev pub heard_view : ℕ → DeviceView → (sound : Bool) → Option Fis → DeviceView
heard_view dev view sound fis = view_after_hearing view (heard dev view sound fis)

-- ---- what it means for the port

abbrev pub errors_with : Errors → ℕ → Option Fault → Errors
errors_with errors dev None = errors
errors_with errors dev (Some (fault.Device c)) = with_device errors dev c
errors_with errors dev (Some (fault.Port c)) = with_port errors c

-- without FIS-based switching the fault of a device stops the port
abbrev pub errors_alone : Errors → ℕ → Option Fault → Errors
errors_alone errors dev None = errors
errors_alone errors dev (Some (fault.Device c)) = with_alone errors dev c
errors_alone errors dev (Some (fault.Port c)) = with_port errors c

abbrev pub errors_in : (switching : Bool) → Errors → ℕ → Option Fault → Errors
errors_in switching errors dev f =
    if switching then errors_with errors dev f else errors_alone errors dev f

-- the fault stops the port
abbrev pub stops_with : (switching : Bool) → Option Fault → Bool
stops_with switching f = not switching && is_some f || is_some (port_cause f)

-- the bits of PxIS that a fault sets
abbrev pub fault_interrupts : Option Fault → ℕ
fault_interrupts None = 0
fault_interrupts (Some (fault.Device c)) = device_interrupts c
fault_interrupts (Some (fault.Port c)) = port_interrupts c

-- the registers with PSS and the bits of a fault set
unfoldable pub settled : Registers → Heard → Registers
settled r h =
    record r { interrupts = bit_or (bit_or r.interrupts (bit pss h.pss)) (fault_interrupts h.fault) }

abbrev pub posted_of : Registers → ℕ → (resetting : Bool) → Option Fis → Registers
posted_of r dev resetting None = r
posted_of r dev resetting (Some fis) = posted r dev resetting fis

-- the row of the received area in which FISes of a device are posted, if they are: its own, and without
-- FIS-based switching row 0 for the active device alone
abbrev pub row_for : Port → ℕ → Option ℕ
row_for port dev =
    if port.registers.switching then Some dev else if dev == port.active then Some 0 else None

abbrev pub place_of : Option Fis → Posted
place_of None = place.Nothing
place_of (Some fis) = rx.posted_at fis

abbrev pub PostsOf : ℕ → ℕ → Option Fis → List ℕ → List ℕ → Type 0
PostsOf fb dev None old new = new ≡ old
PostsOf fb dev (Some fis) old new = Posts fb dev fis old new

-- where there is no row, nothing is posted
abbrev pub place_in : Option ℕ → Option Fis → Posted
place_in None fis = place.Nothing
place_in (Some row) fis = place_of fis

abbrev pub PostsIn : ℕ → Option ℕ → Option Fis → List ℕ → List ℕ → Type 0
PostsIn fb None fis old new = new ≡ old
PostsIn fb (Some row) fis old new = PostsOf fb row fis old new

-- ---- the report

-- the bytes that it brought
abbrev pub wrote_by : Happening → Option Wrote
wrote_by happening.Nothing = None
wrote_by (happening.Answered a) = None
wrote_by (happening.Named mask) = None
wrote_by (happening.SetUp c) = None
wrote_by (happening.PioSetUp count to_host) = None
wrote_by happening.Activated = None
wrote_by (happening.Carried wrote finishes) = Some wrote

unfoldable pub heard_report : ℕ → Posted → Heard → TakeReport
heard_report dev at h = record {
  dev = dev;
  ignored = false;
  posted = at;
  fault = device_cause h.fault;
  stopped = port_cause h.fault;
  wrote = wrote_by h.happening;
  done = h.done;
}

abbrev pub ignored_report : ℕ → TakeReport
ignored_report dev = record {
  dev = dev;
  ignored = true;
  posted = place.Nothing;
  fault = None;
  stopped = None;
  wrote = None;
  done = 0;
}

-- ---- the call

-- what a FIS means, with port and memory as they are now
abbrev pub heard_now : Port → Memory → ℕ → Option Fis → Heard
heard_now port memory dev fis =
    heard dev (view_of dev port) (is_sound memory port.commands (view_of dev port).slots) fis

-- A FIS that is not ignored, or a frame that is no FIS. The new view of its device is a function of the old
-- view, of the FIS and of whether the PRD table can be used; every other view stays. The rest of port and
-- memory changes by such functions too.
pub record Takes (old : Port) (before : Memory) (dev : ℕ) (fis : Option Fis) (payload : List ℕ)
    (report : TakeReport) (new : Port) (after : Memory) : Type 0 where
  pub own : view_of dev new ≡ heard_view dev (view_of dev old)
      (is_sound before old.commands (view_of dev old).slots) fis
  pub others : LeavesOtherViews dev old new
  pub reports : report ≡ heard_report dev (place_in (row_for old dev) fis) (heard_now old before dev fis)
  pub registers : new.registers ≡ settled (posted_of old.registers dev (view_of dev old).state.resetting fis)
      (heard_now old before dev fis)
  pub errors : new.errors
      ≡ errors_in old.registers.switching old.errors dev (heard_now old before dev fis).fault
  pub commands : new.commands ≡ old.commands
  pub number : new.number ≡ old.number
  pub active : new.active ≡ old.active
  -- no free slot is filled
  pub frees : KeepsFree old.slots new.slots
  -- the FIS is posted, and Data is written to the places of its slot's bytes
  pub structure : PostsIn old.registers.fb (row_for old dev) fis before.structure after.structure
  pub client : Delivers before old.commands payload (wrote_by (heard_now old before dev fis).happening)
      after.client

-- the same for a frame; the payload of Data begins at its byte 4
abbrev pub Hears : ℕ → Port → Memory → List ℕ → TakeReport → Port → Memory → Type 0
Hears dev old before frame report new after =
    Takes old before dev (admitted dev (seen frame)) (drop 4 frame) report new after

-- an ignored frame changes neither port nor memory
pub record Ignores (dev : ℕ) (old : Port) (before : Memory) (report : TakeReport) (new : Port)
    (after : Memory) : Type 0 where
  pub reports : report ≡ ignored_report dev
  pub port : new ≡ old
  pub memory : after ≡ before
