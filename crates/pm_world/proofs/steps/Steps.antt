-- For `paths_go_on`, clause `orderly`. What a step that gives an answer finds and leaves, by the parts that it works
-- on.
use Rattle.std.proofs.Common.{◌≡◌, ℕ, Option, Some, None, refl}
use Rattle.std.specs.Prelude.{slice_get, Ok, Err, MatchOption}
use Rattle.multiplier.specs.State.{PmState}
use Rattle.pm_world.specs.{Places.{Places, Place, with_device, with_multiplier}, Rules.{Outcome, AtPort, OnDevice, OnDeviceAndMultiplier}}
use Rattle.pm_world.specs.declared.step.Answer.{Answer}
use Rattle.pm_world.specs.declared.step.StepError.TheVariants as error

-- if a step at a port gives an answer, the port is there
pub there : (old : Places) (n : ℕ) (a : Answer) (new : Places) (R : Place → Type 0) → AtPort old n (Ok a) new R → (place : Place) × (slice_get old.devices n ≡ Some place) × R place
there old n a new R h = by_cases (slice_get old.devices n) h
  where
    by_cases : (o : Option Place) → MatchOption o ((Ok a ≡ Err error.NoSuchPort) × (new ≡ old)) R → (place : Place) × (o ≡ Some place) × R place
    by_cases None h = let e = h.0 in absurd (cc)
    by_cases (Some place) h = (place, refl, h)

-- what a step of a device alone finds and leaves
pub record AtDevice (old : Places) (n : ℕ) (outcome : Outcome) (new : Places) (R : Place → Outcome → Place → Type 0) : Type 0 where
  pub place : Place
  pub after : Place
  pub is : slice_get old.devices n ≡ Some place
  pub rule : R place outcome after
  pub new_is : new ≡ with_device old n after

pub at_device : (old : Places) (n : ℕ) (a : Answer) (new : Places) (R : Place → Outcome → Place → Type 0) → OnDevice old n (Ok a) new R → AtDevice old n (Ok a) new R
at_device old n a new R h =
    let p = there old n a new (λ place. (after : Place) × R place (Ok a) after × (new ≡ with_device old n after)) h in
    record { place = p.0; after = p.2.0; is = p.1; rule = p.2.1; new_is = p.2.2 }

-- and one of a device and the multiplier
pub record AtBoth (old : Places) (n : ℕ) (outcome : Outcome) (new : Places) (R : Place → PmState → Outcome → Place → PmState → Type 0) : Type 0 where
  pub place : Place
  pub after : Place
  pub left : PmState
  pub is : slice_get old.devices n ≡ Some place
  pub rule : R place old.multiplier outcome after left
  pub new_is : new ≡ with_multiplier (with_device old n after) left

pub at_both : (old : Places) (n : ℕ) (a : Answer) (new : Places) (R : Place → PmState → Outcome → Place → PmState → Type 0) → OnDeviceAndMultiplier old n (Ok a) new R → AtBoth old n (Ok a) new R
at_both old n a new R h =
    let p = there old n a new (λ place. (after : Place) × (left : PmState) × R place old.multiplier (Ok a) after left × (new ≡ with_multiplier (with_device old n after) left)) h in
    record { place = p.0; after = p.2.0; left = p.2.1; is = p.1; rule = p.2.2; new_is = p.2.3 }
