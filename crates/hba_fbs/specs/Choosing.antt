-- What may go to the devices of a port whose caller chooses who goes next, and what that leaves (AHCI 1.3.1, 5.3, the port's
-- states up to sending a command or its data; 9.2, Command-based Switching; 9.3, FIS-based Switching).
use Rattle.std.specs.Prelude.{ℕ, ◌≡◌, ◌&&◌, Bool, true, not, if◌then◌else◌}
use Rattle.slots.specs.{Commands.{any_sent_beside, may_go, slots_where}, Data.receivers, Slots.{Issue, holds, is_unsent, issue_at, mask_below}}
use Rattle.slots.specs.Slots.{mask_of}
use Rattle.hba_fbs.specs.{declared.turn.Turn.{Turn, TheVariants.{Rests, Feeds, Orders}}, Sending.{counted, faulty_devices, is_due, ready_devices}}
use Rattle.hba_fbs.specs.{Sending.{view_fed, view_sent}, Taking.is_running, Turning.{IsFed, IsOrdered}, Views.{DeviceView, LeavesOtherViews, Port}}
use Rattle.hba_fbs.specs.Views.{view_of}

-- the devices that asked for data, and the slots whose commands were not sent, while the port runs: nothing goes to any other
-- device, or from any other slot
abbrev pub asking_devices : Port → ℕ
asking_devices port = if is_running port then receivers port.slots else 0

abbrev pub unsent_slots : Port → ℕ
unsent_slots port = if is_running port then slots_where is_unsent port.slots else 0

-- the port runs, and a device that is not faulty asked for data
abbrev pub may_feed : Port → ℕ → Bool
may_feed port dev = is_running port && is_due port.slots port.errors dev

-- with command-based switching a command waits while one of another device was sent and is not done
abbrev pub waits_beside : Port → ℕ → Bool
waits_beside port dev = not port.registers.switching && any_sent_beside port.slots dev

-- the command may go to its device, and waits for none of another device
abbrev pub is_free : Port → Issue → Bool
is_free port issue =
    may_go (ready_devices port) (faulty_devices port) port.slots issue && not (waits_beside port issue.dev)

-- the port runs, and the command of the slot may go
abbrev pub may_order : Port → ℕ → Bool
may_order port slot = is_running port && holds (is_free port) (issue_at port.slots slot)

-- the devices to which data may go, and the slots whose commands may
abbrev pub due_devices : Port → ℕ
due_devices port = mask_below (may_feed port) 16

abbrev pub due_slots : Port → ℕ
due_slots port = mask_of (may_order port)

-- the data that is due to a device of that mask, or the command of a slot of it
abbrev pub MayChoose : Port → Turn → Type 0
MayChoose port Rests = Unit {0}
MayChoose port (Feeds dev slot offset len) = (may_feed port dev ≡ true) × IsFed port dev slot offset len
MayChoose port (Orders dev slot command) = (may_order port slot ≡ true) × IsOrdered port dev slot command

-- A frame goes to a device, and this one is the active device then. Of all the rest only the running number changes.
pub record GoesTo (old : Port) (dev : ℕ) (view : DeviceView) (latest : ℕ) (new : Port) : Type 0 where
  pub own : view_of dev new ≡ view
  pub others : LeavesOtherViews dev old new
  pub registers : new.registers ≡ old.registers
  pub errors : new.errors ≡ old.errors
  pub commands : new.commands ≡ old.commands
  pub number : new.number ≡ counted old.number
  pub active : new.active ≡ latest

-- the device of the command that was sent last is the active one
abbrev pub Chooses : Turn → Port → Port → Type 0
Chooses Rests old new = new ≡ old
Chooses (Feeds dev slot offset len) old new = GoesTo old dev (view_fed (view_of dev old)) old.active new
Chooses (Orders dev slot command) old new = GoesTo old dev (view_sent (view_of dev old) slot command) dev new
