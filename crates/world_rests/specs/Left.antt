-- What a host at rest has left with a disk: no read or write (Serial ATA 3.x, 13.6, native command queuing; AHCI 1.3.1, 5.3 and 5.6,
-- how a port receives FISes, and how commands are completed).
--
-- Cited: a disk that was left alone since its plugging, and its run (`pm_world`, specs/Disks.antt).
use Rattle.std.specs.Prelude.{ℕ, ◌≡◌, ◌<◌, ◌⊎◌, ◌||◌, true, false, List, length, Some}
use Rattle.slots.specs.{Slots.{Issue, issue_at}, Work.is_queued}
use Rattle.hba_fbs.specs.{Status.{is_busy, wants_data}, Views.{Port, state_at}}
use Rattle.disk_model.specs.{declared.plan.DiskPlan.DiskPlan, Histories.Happening}
use Rattle.hba_driver.specs.{declared.plan.Device.TheVariants.Ready, Drivers.{Entry, device_at, entry_at, is_issued, waits}, HostTurns.Host}
use Rattle.hba_driver.specs.{Steady.IsFine, Orders.is_queued as is_queued_work}
use Rattle.pm_world.specs.{Attached.Attached, Disks.{DiskRun, HasDisk}, PathEnds.IsThere, Places.{Places, is_config}, declared.step.Config.Config}
use Rattle.world_rests.specs.Rests.{IsAtRest}

-- no read or write is with the device: what is issued for it and is a queued command did not go out
abbrev pub NoneIsOut : ℕ → Port → Type 0
NoneIsOut n port =
    (slot : ℕ) (issue : Issue) → slot < 32 → issue_at port.slots slot ≡ Some issue → issue.dev ≡ n → is_queued issue.work.kind ≡ true
    → issue.sent ≡ false

-- the port shows BSY or DRQ of the device
abbrev pub IsOccupied : ℕ → Port → Type 0
IsOccupied n port = (is_busy (state_at port.states n).status ≡ true) ⊎ (wants_data (state_at port.states n).status ≡ true)

-- no read or write of the device waits or is issued
abbrev pub NoneIsLeft : ℕ → Host → Type 0
NoneIsLeft n h =
    (slot : ℕ) (e : Entry) → slot < 30 → entry_at h.driver.entries slot ≡ Some e → e.head.dev ≡ n → is_queued_work e.head.work ≡ true
    → (waits e.head || is_issued e.head) ≡ false

-- No read or write is with the disk. While the driver does not take it to recover, its port shows neither BSY nor DRQ of it, and while it
-- takes it to be ready, none is left.
pub record DiskHasDone (n : ℕ) (h : Host) : Type 0 where
  pub out : NoneIsOut n h.port
  pub idle : IsFine (device_at h.driver.plan n) → IsOccupied n h.port → ⊥
  pub left : device_at h.driver.plan n ≡ Ready → NoneIsLeft n h

-- That holds in a world at rest for a disk that is plugged in, and was left alone since then.
abbrev pub RestedDisksHaveDone : Type 0
RestedDisksHaveDone =
    (config : Config) (units : List Attached) (n sectors : ℕ) (plan : DiskPlan) (past : List Happening)
    → is_config config (length units) ≡ true → n < 15 → HasDisk units n plan sectors past
    → (now : Places) (d : DiskRun config units n now) → IsThere n d.conn now → IsAtRest now → DiskHasDone n now.host
