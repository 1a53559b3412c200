-- What the driver takes each device to be, against what is plugged in, in a world at rest (Serial ATA 3.x, 16.3, port multiplier: presence
-- of a device on a port; 16.4.2, SStatus and SError of a port).
use Rattle.std.specs.Prelude.{ℕ, ◌≡◌, ◌≢◌, ◌<◌, false, true, IsTrue, List, length, slice_get, Some}
use Rattle.hba_driver.specs.{declared.{path.Path.Path, plan.Device.TheVariants.Absent}, Drivers.{Entry, device_at, entry_at, has_ended}}
use Rattle.pm_world.specs.{Attached.Attached, Places.{Place, Places, is_config, new_world}, Rules.Run, declared.step.{Answer.Answer, Config.Config}}
use Rattle.pm_world.specs.declared.step.Step.{Step}
use Rattle.world_rests.specs.Rests.{IsAtRest}

-- a device is plugged in at this place
pub record IsPlugged (n : ℕ) (now : Places) : Type 0 where
  pub place : Place
  pub at : slice_get now.devices n ≡ Some place
  pub on : IsTrue place.plugged

-- The driver takes a device to be absent exactly where none is plugged in. Slot 30 works only on a device that is plugged in, and each
-- request of one that is not has ended.
pub record PlanMatches (now : Places) : Type 0 where
  pub known : (n : ℕ) → n < 15 → device_at now.host.driver.plan n ≢ Absent → IsPlugged n now
  pub there : (n : ℕ) → IsPlugged n now → device_at now.host.driver.plan n ≢ Absent
  pub path : (p : Path) → now.host.driver.plan.path ≡ Some p → IsPlugged p.dev now
  pub requests : (slot : ℕ) (e : Entry) → entry_at now.host.driver.entries slot ≡ Some e → has_ended e.head ≡ false → IsPlugged e.head.dev now

-- That holds in each world at rest to which a run from a new one leads, whatever its devices are.
abbrev pub RestedPlansMatch : Type 0
RestedPlansMatch =
    (config : Config) (units : List Attached) → is_config config (length units) ≡ true
    → (before : List Step) (told : List Answer) (now : Places) → Run (new_world config units) before told now
    → IsAtRest now → PlanMatches now
