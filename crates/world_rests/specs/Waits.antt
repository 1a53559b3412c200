-- For what a driver waits that has nothing to do (AHCI 1.3.1, 5.5, how commands are issued, and 6.2.2, error recovery; Serial ATA
-- 3.x, 16.2 and 16.3, port multiplier). A driver with FIS-based switching waits for others alone: for an answer to a
-- command that is issued, for the end of a software reset, for a notification or a signature, or for a client.
use Rattle.std.specs.Prelude.{ℕ, ◌≡◌, ◌≢◌, ◌<◌, ◌≤◌, Bool, true, false, List, Option, Some, None, slice_index_or}
use Rattle.slots.specs.Slots.{has_bit}
use Rattle.hba_driver.specs.declared.{order.Order.TheVariants.{AwaitSignature, Watch}, path.{Path.Path, Stage.TheVariants.AwaitReset}}
use Rattle.hba_driver.specs.{declared.plan.{Device.{Device, TheVariants.{Ready, Recovering, Starting}}, Plan.Plan}, Drivers.{Driver, Entry}}
use Rattle.hba_driver.specs.{Drivers.{device_at, entry_at, is_issued, waits}, HostTurns.{Host, sight_in}, Seeing.Sight, Turns.is_in_reset}
use Rattle.world_rests.specs.Sent.{ControlHasAnswered, PortWaits}

-- ---- slot 31

-- slot 31 waits for the answer to an order that is issued, for the end of its software reset, or for a notification
pub data Waits31 (v : Sight) (plan : Plan) : Type 0 where
  ForAnswer : plan.asked ≡ true → has_bit v.issued 31 ≡ true → Waits31 v plan
  ForSignature : plan.asked ≡ false → plan.order ≡ AwaitSignature → v.resetting ≡ true → Waits31 v plan
  ForNotice : plan.asked ≡ false → plan.order ≡ Watch → v.notified ≡ false → Waits31 v plan

-- ---- slot 30

-- nothing is due for a device by slot 30: it does not recover, and has not signed if it starts
abbrev pub NeedsNothing : Device → (signed : Bool) → Type 0
NeedsNothing Starting signed = signed ≡ false
NeedsNothing (Recovering way) signed = ⊥
NeedsNothing device signed = Unit {0}

-- slot 30 is free and nothing is due for any device, or waits for the answer to a command that is issued, or for the end of a
-- software reset
pub data Waits30 (v : Sight) (plan : Plan) : Type 0 where
  ForNobody : plan.path ≡ None
      → ((n : ℕ) → n < 15 → NeedsNothing (device_at plan n) (slice_index_or v.signed n false)) → Waits30 v plan
  ForCommand : (p : Path) → plan.path ≡ Some p → p.asked ≡ true → has_bit v.issued 30 ≡ true → Waits30 v plan
  ForEnd : (p : Path) → plan.path ≡ Some p → p.asked ≡ false → p.stage ≡ AwaitReset
      → is_in_reset v p.dev ≡ true → Waits30 v plan

-- ---- all of it

-- the requests that wait are for devices that are not ready, and those that are issued are issued at the port
pub record RequestsWait (v : Sight) (plan : Plan) (entries : List (Option Entry)) : Type 0 where
  pub issued : (s : ℕ) (e : Entry) → s < 30 → entry_at entries s ≡ Some e → is_issued e.head ≡ true
      → has_bit v.issued s ≡ true
  pub waiting : (s : ℕ) (e : Entry) → s < 30 → entry_at entries s ≡ Some e → waits e.head ≡ true
      → device_at plan e.head.dev ≢ Ready

-- the port is open and runs, no fault is to be cleared, and each of the others waits
pub record DriverWaits (v : Sight) (d : Driver) : Type 0 where
  pub opened : 7 ≤ d.plan.opened
  pub restarted : 2 ≤ d.plan.restarted
  pub runs : v.stopped ≡ false
  pub faultless : v.faulty ≡ None
  pub slot31 : Waits31 v d.plan
  pub slot30 : Waits30 v d.plan
  pub requests : RequestsWait v d.plan d.entries

-- the host: its port has sent what it may, the control port has answered, and the driver waits
pub record HostWaits (h : Host) : Type 0 where
  pub port : PortWaits h.port
  pub control : ControlHasAnswered h.port
  pub driver : DriverWaits (sight_in h) h.driver
