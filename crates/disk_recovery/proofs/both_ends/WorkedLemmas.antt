-- For `ends_go_on`. While nothing was given to a device or heard of it since both began anew, slot 30 works on it where
-- it recovers.
use Rattle.std.proofs.Common.{◌≡◌, ℕ, List, [], ◌∷◌, ◌++◌, refl, sym, subst, inl, inr}
use Rattle.disk_model.specs.Histories.{Happening}
use Rattle.disk_simulation.proofs.Door.{not_base}
use Rattle.hba_driver.specs.{declared.{path.Recovery.Recovery, plan.Device.TheVariants.Recovering, plan.Plan.Plan}, Drivers.device_at, HostTurns.Host}
use Rattle.hba_driver.specs.{Slot30.{IsAt30, LogSent, Off}, Steady.{IsFine, IsSteady}, Tended.IsUnworked}

abbrev pub IsWorked : ℕ → Host → (base given : List Happening) → Type 0
IsWorked n h base given =
    given ≡ base → (way : Recovery) → device_at h.driver.plan n ≡ Recovering way → IsUnworked n h.driver.plan → ⊥

-- it recovers from nothing since its flush
pub steady_worked : (n : ℕ) (h : Host) (base given : List Happening) → IsSteady n h.driver → IsWorked n h base given
steady_worked n h base given steady same way device free = subst IsFine device steady.plan.fine

-- its log is read
pub log_worked : (n : ℕ) (h : Host) (base given : List Happening) → IsAt30 n LogSent h → IsWorked n h base given
log_worked n h base given at same way device free = free _ (at.apart refl).plan.path refl

-- SRST is cleared
pub reset_worked : (n : ℕ) (h : Host) (base given : List Happening) → IsAt30 n Off h → IsWorked n h base given
reset_worked n h base given at same way device free = elim (at.apart refl).plan [
  | inl r ↦ free _ r.path refl
  | inr r ↦ free _ r.path refl
]

-- what leaves the plan leaves it so
pub same_worked : (n : ℕ) (old new : Host) (base given : List Happening) → new.driver.plan ≡ old.driver.plan → IsWorked n old base given
    → IsWorked n new base given
same_worked n old new base given same worked =
    subst (λ (p : Plan). given ≡ base → (way : Recovery) → device_at p n ≡ Recovering way → IsUnworked n p → ⊥)
    (sym same) worked

-- something was given or heard
pub more_worked : (n : ℕ) (h : Host) (base given since : List Happening) (e : Happening) → given ≡ base ++ since → IsWorked n h base (given ++ e ∷ [])
more_worked n h base given since e is same way device free = not_base base given since e is same
