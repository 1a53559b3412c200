-- What the host of a world of one disk has left with it, once a round does nothing: no command (`world_rests`, specs/Left.antt and Out.antt).
use Rattle.std.specs.Prelude.{ℕ, List}
use Rattle.disk_model.specs.{declared.plan.DiskPlan.DiskPlan, Histories.Happening}
use Rattle.pm_world.specs.{Attached.Attached, Disks.{DiskRun, HasDisk}, PathEnds.IsThere, Places.Places, declared.step.Config.Config}
use Rattle.world_rests.specs.{Left.DiskHasDone, Out.DiskIsLeft}

abbrev pub config : Config
config = record { ports = 1; capacity = 2; memory = 0x200000 }

-- if the unit is a disk that was left alone since its plugging, and is plugged in
abbrev pub DiskHasDoneIn : List Attached → Places → Type 0
DiskHasDoneIn units now =
    (sectors : ℕ) (plan : DiskPlan) (past : List Happening) → HasDisk units 0 plan sectors past
    → (d : DiskRun config units 0 now) → IsThere 0 d.conn now → DiskHasDone 0 now.host

abbrev pub DiskIsLeftIn : List Attached → Places → Type 0
DiskIsLeftIn units now =
    (sectors : ℕ) (plan : DiskPlan) (past : List Happening) → HasDisk units 0 plan sectors past
    → (d : DiskRun config units 0 now) → IsThere 0 d.conn now → DiskIsLeft 0 now.host
