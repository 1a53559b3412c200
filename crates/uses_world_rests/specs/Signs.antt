-- What stands at the host port of a world of one disk, once a round does nothing, while the driver takes the disk to start (`world_rests`,
-- specs/Signs.antt).
use Rattle.std.specs.Prelude.{ℕ, List}
use Rattle.disk_model.specs.{declared.plan.DiskPlan.DiskPlan, Histories.Happening}
use Rattle.pm_world.specs.{Attached.Attached, Disks.{DiskRun, HasDisk}, PathEnds.IsThere, Places.Places}
use Rattle.world_rests.specs.Signs.{DiskHasSigned}
use Rattle.uses_world_rests.specs.Left.{config}

-- if the unit is a disk that was left alone since its plugging, and is plugged in
abbrev pub DiskHasSignedIn : List Attached → Places → Type 0
DiskHasSignedIn units now =
    (sectors : ℕ) (plan : DiskPlan) (past : List Happening) → HasDisk units 0 plan sectors past
    → (d : DiskRun config units 0 now) → IsThere 0 d.conn now → DiskHasSigned 0 now.host
