-- What a world at rest has left of which each device that is plugged in is a disk that was left alone: nothing.
--
-- Cited: a disk that was left alone since its plugging (`pm_world`, specs/Disks.antt), and what is plugged in (specs/Matches.antt).
use Rattle.std.specs.Prelude.{ℕ, ◌≡◌, ◌<◌, true, List, length, None, Some}
use Rattle.disk_model.specs.{declared.plan.DiskPlan.DiskPlan, Histories.Happening}
use Rattle.hba_driver.specs.{declared.plan.Device.{Device, TheVariants.{Absent, Ready, Unusable}}, Drivers.{Entry, device_at, entry_at, has_ended}}
use Rattle.pm_world.specs.{Attached.Attached, Disks.{DiskRun, HasDisk}, PathEnds.IsThere, Places.{Places, is_config, new_world}, Rules.Run}
use Rattle.pm_world.specs.declared.step.{Answer.Answer, Config.Config, Step.Step}
use Rattle.world_rests.specs.{Matches.IsPlugged, Rests.IsAtRest}

-- a disk that is plugged in, and was left alone since then
pub record IsLeftAlone (config : Config) (units : List Attached) (n : ℕ) (now : Places) : Type 0 where
  pub sectors : ℕ
  pub plan : DiskPlan
  pub past : List Happening
  pub has : HasDisk units n plan sectors past
  pub run : DiskRun config units n now
  pub there : IsThere n run.conn now

-- the driver has brought the device up, or found that it cannot use it
abbrev pub IsUp : Device → Type 0
IsUp Ready = Unit {0}
IsUp Unusable = Unit {0}
IsUp device = ⊥

-- Slot 30 works on no device. The driver takes each device that is plugged in to be ready or unusable, and any other one to be absent. Each request
-- has ended.
pub record WorldHasEnded (now : Places) : Type 0 where
  pub path : now.host.driver.plan.path ≡ None
  pub plugged : (n : ℕ) → IsPlugged n now → IsUp (device_at now.host.driver.plan n)
  pub unplugged : (n : ℕ) → n < 15 → (IsPlugged n now → ⊥) → device_at now.host.driver.plan n ≡ Absent
  pub requests : (slot : ℕ) (e : Entry) → slot < 30 → entry_at now.host.driver.entries slot ≡ Some e → has_ended e.head ≡ true

-- That holds in a world at rest, where each device that is plugged in is such a disk.
abbrev pub RestedWorldsHaveEnded : Type 0
RestedWorldsHaveEnded =
    (config : Config) (units : List Attached) → is_config config (length units) ≡ true
    → (before : List Step) (told : List Answer) (now : Places) → Run (new_world config units) before told now
    → ((n : ℕ) → IsPlugged n now → IsLeftAlone config units n now) → IsAtRest now → WorldHasEnded now
