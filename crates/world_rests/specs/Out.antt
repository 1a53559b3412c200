-- What a host at rest has out with a disk: nothing (AHCI 1.3.1, 5.3 and 5.6, how a port receives FISes, and how commands are
-- completed; ACS-3, FLUSH CACHE EXT, IDENTIFY DEVICE, READ LOG EXT; Serial ATA 3.x, 13.6, native command queuing).
--
-- Cited: a disk that was left alone since its plugging (`pm_world`, specs/Disks.antt), and what became of a request that was set aside
-- (specs/Ended.antt), and when its port shows BSY or DRQ (specs/Left.antt).
use Rattle.std.specs.Prelude.{ℕ, ◌≡◌, ◌≢◌, ◌<◌, ◌||◌, true, false, List, length, Some}
use Rattle.slots.specs.Slots.{Issue, issue_at}
use Rattle.hba_fbs.specs.Views.{Port}
use Rattle.disk_model.specs.{declared.plan.DiskPlan.DiskPlan, Histories.Happening}
use Rattle.hba_driver.specs.{declared.{path.{Path.Path, Recovery.Recovery}, plan.{Device.TheVariants.Recovering, Plan.Plan}}, Drivers.Entry}
use Rattle.hba_driver.specs.{Drivers.{device_at, entry_at, is_issued, waits}, HostTurns.Host, Tended.IsUnworked}
use Rattle.pm_world.specs.{Attached.Attached, Disks.{DiskRun, HasDisk}, PathEnds.IsThere, Places.{Places, is_config}, declared.step.Config.Config}
use Rattle.world_rests.specs.{Ended.{EachHasEnded, IsKnown}, Left.IsOccupied, Rests.IsAtRest}

-- no command is with the device: what is issued for it did not go out
abbrev pub NothingIsOut : ℕ → Port → Type 0
NothingIsOut n port =
    (slot : ℕ) (issue : Issue) → slot < 32 → issue_at port.slots slot ≡ Some issue → issue.dev ≡ n → issue.sent ≡ false

-- nothing is issued at the port for the device
abbrev pub NothingIsIssued : ℕ → Port → Type 0
NothingIsIssued n port = (slot : ℕ) (issue : Issue) → slot < 32 → issue_at port.slots slot ≡ Some issue → issue.dev ≢ n

-- no request of the device waits or is issued
abbrev pub NoRequestIsLeft : ℕ → Host → Type 0
NoRequestIsLeft n h =
    (slot : ℕ) (e : Entry) → slot < 30 → entry_at h.driver.entries slot ≡ Some e → e.head.dev ≡ n
    → (waits e.head || is_issued e.head) ≡ false

-- slot 30 works on another device
abbrev pub WorksElsewhere : ℕ → Plan → Type 0
WorksElsewhere n plan = (p : Path) × ((plan.path ≡ Some p) × (p.dev ≢ n))

-- Nothing is issued for the disk, no request of it waits or is issued, and slot 30 does not work on it.
pub record DiskIsFree (n : ℕ) (h : Host) : Type 0 where
  pub issued : NothingIsIssued n h.port
  pub requests : NoRequestIsLeft n h
  pub path : IsUnworked n h.driver.plan

-- No command is with the disk, and it is free. Each request of it has ended, while the driver takes it to be there and not to recover. It
-- recovers only while slot 30 works on another device, and only then the port shows BSY or DRQ of it.
pub record DiskIsLeft (n : ℕ) (h : Host) : Type 0 where
  pub out : NothingIsOut n h.port
  pub free : DiskIsFree n h
  pub ended : IsKnown (device_at h.driver.plan n) → EachHasEnded n h
  pub recovers : (way : Recovery) → device_at h.driver.plan n ≡ Recovering way → WorksElsewhere n h.driver.plan
  pub shows : IsOccupied n h.port → WorksElsewhere n h.driver.plan

-- That holds in a world at rest for a disk that is plugged in, and was left alone since then.
abbrev pub RestedDisksAreLeft : Type 0
RestedDisksAreLeft =
    (config : Config) (units : List Attached) (n sectors : ℕ) (plan : DiskPlan) (past : List Happening)
    → is_config config (length units) ≡ true → n < 15 → HasDisk units n plan sectors past
    → (now : Places) (d : DiskRun config units n now) → IsThere n d.conn now → IsAtRest now → DiskIsLeft n now.host
