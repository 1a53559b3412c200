-- What the driver has set in the multiplier, in a world at rest (Serial ATA 3.x, 16.3, port multiplier: enabling of the device ports,
-- asynchronous notification; 16.4.1, GSCR[2], GSCR[33] and GSCR[96]; 16.4.2, SStatus, SError and SControl of a port).
use Rattle.std.specs.Prelude.{ℕ, ◌≡◌, ◌<◌, true, false, IsTrue, List, length, bit_and, slice_get, Some}
use Rattle.pm_registers.specs.{Port.{bit_n, bit_x, det, is_open}, RegisterMap.{RegisterMap, asks, forwards, notifies, port_at}}
use Rattle.hba_driver.specs.Orders.{changes}
use Rattle.pm_world.specs.{Attached.Attached, Places.{Place, Places, is_config, new_world}, Rules.Run, declared.step.{Answer.Answer, Config.Config}}
use Rattle.pm_world.specs.declared.step.Step.{Step}
use Rattle.world_rests.specs.Rests.{IsAtRest}

-- DET of SControl of the port is 0. Neither bit N nor bit X of its SError is set, and GSCR[32] does not name it: the driver has cleared what it
-- saw. Where a device is present SStatus shows it, and the port forwards.
pub record PortIsOpen (n : ℕ) (m : RegisterMap) : Type 0 where
  pub opened : is_open (port_at m n) ≡ true
  pub n_clear : bit_and (port_at m n).error bit_n ≡ 0
  pub x_clear : bit_and (port_at m n).error bit_x ≡ 0
  pub asks_nothing : asks m n ≡ false
  pub shown : (port_at m n).present ≡ true → det (port_at m n).status ≡ 3
  pub passes : (port_at m n).present ≡ true → forwards m n ≡ true

-- The driver knows the number of ports. Bits N and X of SError count as errors, and errors are notified. Each port is open, and the port of
-- each device that is plugged in forwards.
pub record MultiplierIsSet (now : Places) : Type 0 where
  pub counted : now.host.driver.plan.ports ≡ now.multiplier.registers.ports
  pub masked : now.multiplier.registers.mask ≡ changes
  pub notifies_on : notifies now.multiplier.registers ≡ true
  pub ports : (n : ℕ) → n < length now.devices → PortIsOpen n now.multiplier.registers
  pub devices : (n : ℕ) (place : Place) → slice_get now.devices n ≡ Some place → IsTrue place.plugged
      → forwards now.multiplier.registers n ≡ true

-- In a world at rest the driver has set up the multiplier, and each port with a device forwards.
abbrev pub RestedPortsAreOpen : Type 0
RestedPortsAreOpen =
    (config : Config) (units : List Attached) → is_config config (length units) ≡ true
    → (before : List Step) (told : List Answer) (now : Places) → Run (new_world config units) before told now
    → IsAtRest now → MultiplierIsSet now
