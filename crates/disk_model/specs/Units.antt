-- What is at a fan-out port.
use Rattle.std.specs.Prelude.{ℕ, ◌≢◌, List, []}
use Rattle.disk_model.specs.{Histories.{Happening, Plan, Script, DiskOf, GoesOn, SendsNext, IsSilent}, Runs.{disk_plan, DiskStandsFor, DiskMaySend}}
use Rattle.disk_model.specs.{Disks.after, Insides.{HasTurn, WantsRoom}, Scripts.{script_of, ScriptStandsFor, ScriptMaySend}, declared.unit.Unit.Unit}
use Rattle.disk_model.specs.declared.unit.Unit.TheVariants.{Disk, Scripted}

abbrev pub plan_of : Unit → Plan
plan_of (Disk disk) = disk_plan disk
plan_of (Scripted reading) = script_of reading

abbrev pub StandsFor : Unit → List Happening → Type 0
StandsFor (Disk disk) history = DiskStandsFor disk history
StandsFor (Scripted reading) history = ScriptStandsFor reading history

abbrev pub MaySend : Plan → List Happening → List ℕ → Type 0
MaySend (DiskOf plan sectors) history bytes = DiskMaySend (DiskOf plan sectors) history bytes
MaySend (Script frames) history bytes = ScriptMaySend (Script frames) history bytes

-- the event happens to the unit
abbrev pub UnitGoesOn : Unit → Happening → Unit → Type 0
UnitGoesOn old event new = GoesOn plan_of StandsFor old event new

-- the unit sends the bytes
abbrev pub UnitSends : Unit → List ℕ → Unit → Type 0
UnitSends old bytes new = SendsNext plan_of StandsFor MaySend old bytes new

-- the unit has nothing to send
abbrev pub UnitIsSilent : Unit → Type 0
UnitIsSilent unit = IsSilent plan_of StandsFor MaySend unit

-- a disk that is full, and is to owe more than before when this happens
abbrev pub UnitWantsRoom : Unit → Happening → Type 0
UnitWantsRoom (Disk disk) e = WantsRoom disk.now (after disk.plan disk.sectors disk.now e)
UnitWantsRoom (Scripted reading) e = ⊥

-- a disk whose turn it is to send, or a script with a frame left to send
abbrev pub HasFrames : Unit → Type 0
HasFrames (Disk disk) = HasTurn disk
HasFrames (Scripted reading) = reading.left ≢ []
