-- What laws see of the device at a fan-out port. Of a unit of `disk_model` they know the plan and what may have happened to
-- it. Of a device of the caller's own they know nothing: it stands for no history, so they do not say what it sends.
use Rattle.std.specs.Prelude.{ℕ, List, []}
use Rattle.disk_model.specs.{Histories.{Happening, Plan, Script, GoesOn, SendsNext, IsSilent}, Units.{MaySend, UnitWantsRoom}}
use Rattle.disk_model.specs.declared.unit.Unit.{Unit}
use Rattle.disk_model.specs.Units as units

pub data Attached : Type 0 where
  -- a unit of `disk_model`
  Modelled : Unit → Attached
  -- a device of the caller's own
  Own : Attached

-- what the device was made with; a device of the caller's own has no plan, and nothing is told by this one
abbrev pub plan_of : Attached → Plan
plan_of (Modelled unit) = units.plan_of unit
plan_of Own = Script []

abbrev pub StandsFor : Attached → List Happening → Type 0
StandsFor (Modelled unit) history = units.StandsFor unit history
StandsFor Own history = ⊥

-- the event happens to the device
abbrev pub GoesOnAttached : Attached → Happening → Attached → Type 0
GoesOnAttached old event new = GoesOn plan_of StandsFor old event new

-- the device sends the bytes
abbrev pub SendsAttached : Attached → List ℕ → Attached → Type 0
SendsAttached old bytes new = SendsNext plan_of StandsFor MaySend old bytes new

-- the device has nothing to send
abbrev pub IsSilentAttached : Attached → Type 0
IsSilentAttached device = IsSilent plan_of StandsFor MaySend device

-- the device may want memory when this happens
abbrev pub WantsRoom : Attached → Happening → Type 0
WantsRoom (Modelled unit) event = UnitWantsRoom unit event
WantsRoom Own event = Prim.Unit {0}

-- the device may want memory when it is plugged in
abbrev pub PlugWantsRoom : Attached → Type 0
PlugWantsRoom (Modelled unit) = ⊥
PlugWantsRoom Own = Prim.Unit {0}
