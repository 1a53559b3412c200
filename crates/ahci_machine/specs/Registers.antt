-- Registers of a machine: those of its controller (AHCI 1.3.1, 3). A write that resets the link has what is behind it begin anew (10.4.2,
-- port reset).
use Rattle.std.specs.Prelude.{◌≡◌, ◌+◌, ◌*◌, ◌/◌, ◌^◌, ◌==◌, ◌||◌, ◌&&◌, ℕ, nat_le, Bool, true, false, if◌then◌else◌, List, [], take, drop, length, Option, Some, None}
use Rattle.fis_view.specs.Frames.{Stamped}
use Rattle.ahci_controller.specs.{States.ControllerState, Wide.{WritesWide, read_wide}, declared.access.Width.{Width, TheVariants.Dword}}
use Rattle.ahci_controller.specs.declared.{next.Next.Next, wide.WideWritten.WideWritten}
use Rattle.ahci_controller.specs.declared.next.Next.TheVariants as next
use Rattle.ahci_registers.specs.declared.link.Effect.{Effect, TheVariants.{Nothing, LinkReset, LinkUp}}
use Rattle.fan_out.specs.FanOuts.{is_bare, renewed_end}
use Rattle.ahci_machine.specs.{States.{MachineState, no_gathering}, declared.machine.Lent.Lent}
use Rattle.ahci_machine.specs.declared.machine.Lent.TheVariants as lent

-- ---- what is read

-- without its bytes below this power of 256
abbrev pub above : (power value : ℕ) → ℕ
above power value = value / power * power

-- what was read from an offset on, without the bytes that are of PxSSTS, 128h to 12Bh
abbrev pub without_status : (offset value : ℕ) → ℕ
without_status offset value =
    if offset == 0x128 then above (2 ^ 32) value else if offset == 0x129 then above (2 ^ 24) value
    else if offset == 0x12A then above (2 ^ 16) value else if offset == 0x12B then above (2 ^ 8) value else value

-- PxSSTS of a controller shows a device while its link is up (AHCI 1.3.1, 3.3.10)
abbrev pub shows_device : ControllerState → Bool
shows_device c = read_wide c 0x128 Dword == 0x133

-- What the registers read: those of the controller. Where nothing is at the other end of its link PxSSTS shows no device, and no
-- communication (DET 0).
abbrev pub read_machine : MachineState → (offset : ℕ) → Width → ℕ
read_machine m offset width =
    if is_bare m.fan && shows_device m.controller then without_status offset (read_wide m.controller offset width)
    else read_wide m.controller offset width

-- ---- what is written

-- The link was reset: nothing is on its way any more, and each device begins anew.
abbrev pub renewed : MachineState → MachineState
renewed m = record {
  controller = m.controller;
  fan = renewed_end m.fan;
  bays = m.bays;
  incoming = None;
  taken = false;
  writing = false;
  outgoing = None;
  kept = None;
  gathering = no_gathering;
  lent = lent.Nothing;
  told = m.told;
  message = m.message;
  first = m.first;
  turn = m.turn;
}

-- what is done with the guest's memory, and not with a device
abbrev pub for_host : Next → Bool
for_host (next.Order dev slot fis) = false
for_host (next.Feed dev number slot offset len) = false
for_host n = true

abbrev pub kept_if : Bool → Next → Option Next
kept_if true n = Some n
kept_if false n = None

abbrev pub kept_powered : Option Next → Option Next
kept_powered None = None
kept_powered (Some n) = kept_if (for_host n) n

-- Power comes to what is behind the controller: nothing is on its way to the devices or from them any more, and each begins anew. That is
-- no reset of the controller (AHCI 1.3.1, 10.4): it goes on to read commands, and to write the frame that it took.
abbrev pub powered : MachineState → MachineState
powered m = record {
  controller = m.controller;
  fan = renewed_end m.fan;
  bays = m.bays;
  incoming = if m.taken then m.incoming else None;
  taken = m.taken;
  writing = m.writing;
  outgoing = None;
  kept = kept_powered m.kept;
  gathering = no_gathering;
  lent = lent.Nothing;
  told = m.told;
  message = m.message;
  first = m.first;
  turn = m.turn;
}

abbrev pub stays : Effect → Bool
stays Nothing = true
stays LinkReset = false
stays LinkUp = false

abbrev pub link_stays : WideWritten → Bool
link_stays w = stays w.low.effect && stays w.high.effect

abbrev pub message_of : WideWritten → Bool
message_of w = w.low.message || w.high.message

pub record WritesMachine (offset : ℕ) (width : Width) (value : ℕ) (old : MachineState) (result : WideWritten) (new : MachineState)
    : Type 0 where
  pub writes : WritesWide old.controller offset width value result new.controller
  pub rest : new ≡ (let m : MachineState = record old { controller = new.controller; message = old.message || message_of result } in
      if link_stays result then m else renewed m)

-- ---- what is lent

-- so many bytes from one on, if they are there
abbrev pub part_of : List ℕ → (from len : ℕ) → List ℕ
part_of bytes from len = if nat_le (from + len) (length bytes) then take len (drop from bytes) else []

abbrev pub lent_of : Option Stamped → (from len : ℕ) → List ℕ
lent_of None from len = []
lent_of (Some frame) from len = part_of frame.bytes from len

abbrev pub lent_by : Lent → Option Stamped → List ℕ
lent_by lent.Nothing incoming = []
lent_by (lent.Count bytes) incoming = bytes
lent_by (lent.Frame from len) incoming = lent_of incoming from len

abbrev pub lent_bytes : MachineState → List ℕ
lent_bytes m = lent_by m.lent m.incoming
