-- A test of the slots whose bit is set.
use Rattle.std.proofs.Common.{◌≡◌, ℕ, ◌<◌, Bool, true, false, ◌&&◌, refl, ap, Option, Some, None}
use Rattle.std.specs.Option.{is_some}
use Rattle.slots.specs.Slots.{has_bit, lowest}
use Rattle.slots.proofs.Door.{lowest_found, lowest_none, none_below}
use Rattle.hba_fbs.specs.Issuing.{any_slot}

pub any_found : (value : ℕ) (test : ℕ → Bool) (slot : ℕ) → slot < 32 → (has_bit value slot && test slot) ≡ true → ((k : ℕ) → k < slot → (has_bit value k && test k) ≡ false) → any_slot value test ≡ true
any_found value test slot below here low = ap is_some (lowest_found (λ k. has_bit value k && test k) 32 slot below here low)

pub any_none : (value : ℕ) (test : ℕ → Bool) → ((k : ℕ) → k < 32 → (has_bit value k && test k) ≡ false) → any_slot value test ≡ false
any_none value test none = ap is_some (lowest_none (λ k. has_bit value k && test k) 32 none)

not_some : (o : Option ℕ) → is_some o ≡ false → o ≡ None
not_some None h = refl
not_some (Some k) h = cc

pub none_passes : (value : ℕ) (test : ℕ → Bool) (slot : ℕ) → any_slot value test ≡ false → slot < 32 → (has_bit value slot && test slot) ≡ false
none_passes value test slot h below = none_below (λ k. has_bit value k && test k) 32 (not_some (lowest (λ k. has_bit value k && test k)) h) slot below
