-- What stands at the host port of a disk that starts: its signature (Serial ATA 3.x, 10.5.6, signatures, and 16.3, port multiplier:
-- presence of a device on a port; AHCI 1.3.1, 4.2.1, received FISes, and chapter 9, FIS-based Switching).
--
-- Cited: a disk that was left alone since its plugging (`pm_world`, specs/Disks.antt), and what is due for a device by slot 30
-- (specs/Waits.antt).
use Rattle.std.specs.Prelude.{ℕ, ◌≡◌, ◌≢◌, ◌<◌, true, false, List, length, slice_index_or, None}
use Rattle.disk_model.specs.{declared.plan.DiskPlan.DiskPlan, Histories.Happening}
use Rattle.hba_driver.specs.{declared.plan.Device.TheVariants.Starting, Drivers.device_at, HostTurns.{Host, sight_in}}
use Rattle.pm_world.specs.{Attached.Attached, Disks.{DiskRun, HasDisk}, PathEnds.IsThere, Places.{Places, is_config}, declared.step.Config.Config}
use Rattle.world_rests.specs.Rests.{IsAtRest}

-- While the driver takes the disk to start, its signature stands in its row of the received area. So slot 30 is not free then: it
-- works on a device.
pub record DiskHasSigned (n : ℕ) (h : Host) : Type 0 where
  pub signed : device_at h.driver.plan n ≡ Starting → slice_index_or (sight_in h).signed n false ≡ true
  pub starts : h.driver.plan.path ≡ None → device_at h.driver.plan n ≢ Starting

-- That holds in a world at rest for a disk that is plugged in, and was left alone since then.
abbrev pub RestedDisksHaveSigned : Type 0
RestedDisksHaveSigned =
    (config : Config) (units : List Attached) (n sectors : ℕ) (plan : DiskPlan) (past : List Happening)
    → is_config config (length units) ≡ true → n < 15 → HasDisk units n plan sectors past
    → (now : Places) (d : DiskRun config units n now) → IsThere n d.conn now → IsAtRest now → DiskHasSigned n now.host
