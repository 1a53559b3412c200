-- A disk and the host of a world, while the port is open to the disk: they are the two ends of a link, and what is on its way
-- between them is exactly what stands on the links and at the port (Serial ATA 3.x, 16.3, port multiplier: frame transmission;
-- AHCI 1.3.1, 5.3).
--
-- Cited: the path of a device (specs/DevicePaths.antt); the run of a disk (specs/Disks.antt); a disk and the host that serves it
-- (`disk_recovery`, specs/Ends.antt).
use Rattle.std.specs.Prelude.{ℕ, ◌≡◌, ◌<◌, true, List, length, slice_get, IsSomeAnd, Some}
use Rattle.pm_registers.specs.RegisterMap.{forwards}
use Rattle.multiplier.specs.State.{port_at}
use Rattle.disk_model.specs.{declared.plan.DiskPlan.DiskPlan, Histories.{DiskOf, Happening}}
use Rattle.hba_laws.specs.Client.{Touches}
use Rattle.disk_recovery.specs.Ends.{AreEnds, IsRunning}
use Rattle.pm_world.specs.{Attached.{Attached, StandsFor, plan_of}, DevicePaths.IsOnPath, Disks.{DiskRun, HasDisk, disk_history, host_turns}}
use Rattle.pm_world.specs.{HostTouches.AreTouched, PathEnds.{IsThere, descending_on}, Places.{Places, is_config}, declared.step.Config.Config}

-- the unit is a disk of this plan, with this many sectors, and stands for all this
pub record IsDiskWith (plan : DiskPlan) (sectors : ℕ) (history : List Happening) (unit : Attached) : Type 0 where
  pub stands : StandsFor unit history
  pub is : plan_of unit ≡ DiskOf plan sectors

-- The host, by all that touched it since its opening, and the disk, by all that happened to it, are ends. These are on their way
-- down and up, and nothing else of the host for the disk.
pub record HaveMet (config : Config) (units : List Attached) (n sectors : ℕ) (now : Places) (d : DiskRun config units n now)
    (plan : DiskPlan) (past : List Happening) : Type 0 where
  pub disk : IsSomeAnd (slice_get now.devices n) (λ place. IsDiskWith plan sectors (disk_history config units n now d past) place.unit)
  pub touches : Touches
  pub touched : AreTouched config.memory (host_turns config units n now d) now.host touches
  pub down : List (List ℕ)
  pub up : List (List ℕ)
  pub path : IsOnPath n d.conn now down up
  pub exact : descending_on n d.conn now ≡ down
  pub floors : ℕ → ℕ
  pub running : IsRunning plan sectors (disk_history config units n now d past) touches now.host
  pub ends : AreEnds n now.host (disk_history config units n now d past) down up floors touches

-- That holds while the disk is plugged in as this connection and its port, which recorded it, forwards.
abbrev pub EndsMeet : Type 0
EndsMeet =
    (config : Config) (units : List Attached) (n sectors : ℕ) (plan : DiskPlan) (past : List Happening)
    → is_config config (length units) ≡ true → n < 15 → HasDisk units n plan sectors past
    → (now : Places) (d : DiskRun config units n now) → IsThere n d.conn now
    → (port_at now.multiplier n).present ≡ Some d.conn → forwards now.multiplier.registers n ≡ true
    → HaveMet config units n sectors now d plan past
