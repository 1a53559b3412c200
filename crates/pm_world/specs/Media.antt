-- What is on the medium of a disk, in every world: the bytes of whole writes that ended. So a write
-- that ended otherwise than done is on the medium whole or not at all (ACS-3, WRITE FPDMA QUEUED).
--
-- Cited: runs of a world and what is told over them (specs/Rules.antt, Runs.antt); a disk
-- (specs/Disks.antt); the history of a unit (specs/Units.antt). The writes that ended, each with its
-- place and its bytes, and a medium with them, come from `disk_model` (specs/Ledger.antt).
use Rattle.std.specs.Prelude.{ℕ, ◌≡◌, ◌++◌, true, List, length, slice_get, IsSomeAnd}
use Rattle.disk_model.specs.{declared.{plan.DiskPlan.DiskPlan, unit.Unit.TheVariants.{Disk, Scripted}}, Fronts.IsFront, Histories.Happening}
use Rattle.disk_model.specs.Ledger.{Written, ledger, medium_with}
use Rattle.pm_world.specs.{Attached.{Attached, Modelled, Own}, Disks.HasDisk, Places.{Places, is_config, new_world}, Rules.Run, Runs.over}
use Rattle.pm_world.specs.{Units.happens, declared.{step.Config.Config, step.Step.Step, step.Answer.Answer}}

-- the unit is a disk, and its medium is a new one with the bytes of these writes put in
abbrev pub HasMedium : (sectors : ℕ) → List Written → Attached → Type 0
HasMedium sectors writes (Modelled (Disk disk)) = disk.now.medium ≡ medium_with sectors writes
HasMedium sectors writes (Modelled (Scripted reading)) = ⊥
HasMedium sectors writes Own = ⊥

-- that holds for the unit at port n of a world, by all writes that ended in its history
abbrev pub ShowsWrites : (n sectors : ℕ) → List Happening → Places → Type 0
ShowsWrites n sectors history now =
    IsSomeAnd (slice_get now.devices n) (λ place. HasMedium sectors (ledger history).writes place.unit)

-- From one world of a run to a later one, only whole writes change the medium of a disk. They end in
-- between, whatever comes of the requests, of the disk and of the other devices.
pub record ChangesByWrites (n sectors : ℕ) (before later : List Happening) (was now : Places) : Type 0 where
  pub first : ShowsWrites n sectors before was
  pub last : ShowsWrites n sectors (before ++ later) now
  pub more : IsFront (ledger before).writes (ledger (before ++ later)).writes

abbrev pub MediaAreOfWrites : Type 0
MediaAreOfWrites =
    (config : Config) (units : List Attached) (n sectors : ℕ) (plan : DiskPlan) (past : List Happening)
    → is_config config (length units) ≡ true → HasDisk units n plan sectors past
    → (first : List Step) (told : List Answer) (was : Places)
    (made : Run (new_world config units) first told was) (steps : List Step) (answers : List Answer)
    (now : Places) (run : Run was steps answers now)
    → ChangesByWrites n sectors (past ++ over (happens n) (new_world config units) first told was made)
    (over (happens n) was steps answers now run) was now
