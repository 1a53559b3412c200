-- A device that is a unit or the caller's own: what laws see of it, and what it does itself.
use Rattle.std.specs.Prelude.{ℕ, List}
use Rattle.disk_model.specs.{Histories.{GoesOn, Happening, IsSilent, Plan, SendsNext}, Units.{UnitGoesOn, UnitIsSilent, UnitSends}}
use Rattle.pm_world.specs.{Attached.{Attached, Modelled, Own}, declared.device.AnyDevice.AnyDevice}
use Rattle.pm_world.specs.declared.device.AnyDevice.TheVariants as any

abbrev pub seen_any : {D : Type 0} → AnyDevice D → Attached
seen_any (any.Unit unit) = Modelled unit
seen_any (any.Own device) = Own

-- the event happens to the unit, or to the caller's device
abbrev pub AnyGoesOn : {D : Type 0} → (D → Plan) → (D → List Happening → Type 0) → AnyDevice D → Happening → AnyDevice D
    → Type 0
AnyGoesOn plan_of StandsFor (any.Unit old) event (any.Unit new) = UnitGoesOn old event new
AnyGoesOn plan_of StandsFor (any.Own old) event (any.Own new) = GoesOn plan_of StandsFor old event new
AnyGoesOn plan_of StandsFor old event new = ⊥

-- the unit sends the bytes, or the caller's device does
abbrev pub AnySends : {D : Type 0} → (D → Plan) → (D → List Happening → Type 0)
    → (Plan → List Happening → List ℕ → Type 0) → AnyDevice D → List ℕ → AnyDevice D → Type 0
AnySends plan_of StandsFor MaySend (any.Unit old) bytes (any.Unit new) = UnitSends old bytes new
AnySends plan_of StandsFor MaySend (any.Own old) bytes (any.Own new) = SendsNext plan_of StandsFor MaySend old bytes new
AnySends plan_of StandsFor MaySend old bytes new = ⊥

-- the unit has nothing to send, or the caller's device has not
abbrev pub AnyIsSilent : {D : Type 0} → (D → Plan) → (D → List Happening → Type 0)
    → (Plan → List Happening → List ℕ → Type 0) → AnyDevice D → Type 0
AnyIsSilent plan_of StandsFor MaySend (any.Unit unit) = UnitIsSilent unit
AnyIsSilent plan_of StandsFor MaySend (any.Own device) = IsSilent plan_of StandsFor MaySend device
