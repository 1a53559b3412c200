-- For `rested_have_done`. What a step that gives an answer finds and leaves, by the parts that it works on.
use Rattle.std.proofs.Common.{◌≡◌, ◌≢◌, ℕ, zero, suc, ◌<◌, List, [], ◌∷◌, ◌++◌, length, Option, Some, None, refl, sym, ap, subst, arith}
use Rattle.std.proofs.lemmas.Option.{same_Some}
use Rattle.std.specs.Prelude.{slice_get, slice_set, Ok, Err, MatchOption}
use Rattle.multiplier.specs.State.{PmState}
use Rattle.pm_world.specs.{Places.{Places, Place, new_world_in, with_device, with_multiplier}, Rules.{AtPort, Outcome, OnDevice}}
use Rattle.pm_world.specs.{Rules.{OnDeviceAndMultiplier, Rule, Run}, Runs.IsReached, declared.step.{Step.Step, Answer.Answer}}
use Rattle.pm_world.specs.declared.step.StepError.TheVariants as error

-- if a step at a port gives an answer, the port is there
there : (old : Places) (n : ℕ) (a : Answer) (new : Places) (R : Place → Type 0) → AtPort old n (Ok a) new R → (place : Place) × (slice_get old.devices n ≡ Some place) × R place
there old n a new R h = by_cases (slice_get old.devices n) h
  where
    by_cases : (o : Option Place) → MatchOption o ((Ok a ≡ Err error.NoSuchPort) × (new ≡ old)) R → (place : Place) × (o ≡ Some place) × R place
    by_cases None h = let e = h.0 in absurd (cc)
    by_cases (Some place) h = (place, refl, h)

-- a step of a device alone
pub record AtDevice (old : Places) (n : ℕ) (outcome : Outcome) (new : Places) (R : Place → Outcome → Place → Type 0) : Type 0 where
  pub place : Place
  pub after : Place
  pub is : slice_get old.devices n ≡ Some place
  pub rule : R place outcome after
  pub new_is : new ≡ with_device old n after

pub at_device : (old : Places) (n : ℕ) (a : Answer) (new : Places) (R : Place → Outcome → Place → Type 0) → OnDevice old n (Ok a) new R → AtDevice old n (Ok a) new R
at_device old n a new R h =
    let p = there old n a new (λ place. (after : Place) × R place (Ok a) after × (new ≡ with_device old n after)) h in
    record { place = p.0; after = p.2.0; is = p.1; rule = p.2.1; new_is = p.2.2 }

-- and one of a device and the multiplier
pub record AtBoth (old : Places) (n : ℕ) (outcome : Outcome) (new : Places) (R : Place → PmState → Outcome → Place → PmState → Type 0) : Type 0 where
  pub place : Place
  pub after : Place
  pub left : PmState
  pub is : slice_get old.devices n ≡ Some place
  pub rule : R place old.multiplier outcome after left
  pub new_is : new ≡ with_multiplier (with_device old n after) left

pub at_both : (old : Places) (n : ℕ) (a : Answer) (new : Places) (R : Place → PmState → Outcome → Place → PmState → Type 0) → OnDeviceAndMultiplier old n (Ok a) new R → AtBoth old n (Ok a) new R
at_both old n a new R h =
    let p = there old n a new (λ place. (after : Place) × (left : PmState) × R place old.multiplier (Ok a) after left × (new ≡ with_multiplier (with_device old n after) left)) h in
    record { place = p.0; after = p.2.0; left = p.2.1; is = p.1; rule = p.2.2; new_is = p.2.3 }

-- ---- lists

pub set_same : {X : Type 0} (xs : List X) (i : ℕ) (x : X) → slice_get xs i ≡ Some x → slice_set xs i x ≡ xs
set_same [] i x h = refl
set_same (a ∷ xs) zero x h = ap (λ b. b ∷ xs) (same_Some x a (sym h))
set_same (a ∷ xs) (suc i) x h = ap (λ ys. a ∷ ys) (set_same xs i x h)

-- what is true of each item is true after one was replaced by one of which it is true
pub set_keeps : {X : Type 0} (P : X → Type 0) (xs : List X) (i : ℕ) (y : X) → P y → ((j : ℕ) (x : X) → slice_get xs j ≡ Some x → P x) → (j : ℕ) (x : X) → slice_get (slice_set xs i y) j ≡ Some x → P x
set_keeps P [] i y is each j x at = absurd (cc)
set_keeps P (a ∷ xs) zero y is each zero x at = subst P (same_Some y x at) is
set_keeps P (a ∷ xs) zero y is each (suc j) x at = each (suc j) x at
set_keeps P (a ∷ xs) (suc i) y is each zero x at = each zero x at
set_keeps P (a ∷ xs) (suc i) y is each (suc j) x at = set_keeps P xs i y is (λ k z h. each (suc k) z h) j x at

-- an item that is there stands below the length
pub get_below : {X : Type 0} (xs : List X) (i : ℕ) (x : X) → slice_get xs i ≡ Some x → i < length xs
get_below [] i x h = absurd (cc)
get_below (a ∷ xs) zero x h = omega arith
get_below (a ∷ xs) (suc i) x h = let k : i < length xs = get_below xs i x h in omega (arith, k)

pub get_there : {X : Type 0} (xs : List X) (i : ℕ) → i < length xs → (x : X) × (slice_get xs i ≡ Some x)
get_there [] i h = absurd (omega (arith, h))
get_there (a ∷ xs) zero h = (a, refl)
get_there (a ∷ xs) (suc i) h = get_there xs i (omega (arith, h))

-- the same, by the number of each item
pub set_each : {X : Type 0} (P : ℕ → X → Type 0) (xs : List X) (i : ℕ) (y : X) → P i y → ((j : ℕ) (x : X) → j ≢ i → slice_get xs j ≡ Some x → P j x) → (j : ℕ) (x : X) → slice_get (slice_set xs i y) j ≡ Some x → P j x
set_each P [] i y is each j x at = absurd (cc)
set_each P (a ∷ xs) zero y is each zero x at = subst (P zero) (same_Some y x at) is
set_each P (a ∷ xs) zero y is each (suc j) x at = each (suc j) x (λ e. absurd (omega (arith, e))) at
set_each P (a ∷ xs) (suc i) y is each zero x at = each zero x (λ e. absurd (omega (arith, e))) at
set_each P (a ∷ xs) (suc i) y is each (suc j) x at = set_each (λ k. P (suc k)) xs i y is (λ k z other h. each (suc k) z (λ e. other (omega (arith, e))) h) j x at

-- ---- a run and one more step

pub run_more : (first old : Places) (steps : List Step) (answers : List Answer) (s : Step) (a : Answer) (new : Places) → Run first steps answers old → Rule old s (Ok a) new → Run first (steps ++ s ∷ []) (answers ++ a ∷ []) new
run_more first old [] [] s a new run rule = (new, subst (λ (w : Places). Rule w s (Ok a) new) run rule, refl)
run_more first old (t ∷ steps) (b ∷ answers) s a new run rule = (run.0, run.1, run_more run.0 old steps answers s a new run.2 rule)
run_more first old [] (b ∷ answers) s a new run rule = absurd run
run_more first old (t ∷ steps) [] s a new run rule = absurd run

pub reached_after : (old : Places) (s : Step) (a : Answer) (new : Places) → IsReached old → Rule old s (Ok a) new → IsReached new
reached_after old s a new r rule = record {
  mode = r.mode;
  config = r.config;
  units = r.units;
  fits = r.fits;
  steps = r.steps ++ s ∷ [];
  answers = r.answers ++ a ∷ [];
  run = run_more (new_world_in r.mode r.config r.units) old r.steps r.answers s a new r.run rule;
}
