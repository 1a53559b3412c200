-- What the words of the contracts mean: sets of bytes, and sets of slots.
use Rattle.std.specs.Prelude.{◌≡◌, ℕ, ◌*◌, ◌%◌, ◌^◌, ◌<◌, Bool, true, false, ◌||◌, List, length, Some, None}
use Rattle.slots.specs.{Bytes.{is_over, is_within, with_bytes, none_over}, Slots.{has_bit, lowest, mask_of}}

-- Transferred bytes are added to those transferred before, and no other byte is. Offset and count are
-- multiples of 4. At first no byte was transferred.
pub record BytesGoOver : Type 0 where
  pub added : (over : List Bool) (offset count b : ℕ) → offset % 4 ≡ 0 → count % 4 ≡ 0 → b < 4 * length over
      → is_over (with_bytes over offset count) b ≡ (is_over over b || is_within offset count b)
  pub at_first : (len b : ℕ) → is_over (none_over len) b ≡ false

-- a mask is below 2 ^ 32, and its bits are the slots of the set
pub record MasksAreSets : Type 0 where
  pub bits : (test : ℕ → Bool) (slot : ℕ) → slot < 32 → has_bit (mask_of test) slot ≡ test slot
  pub small : (test : ℕ → Bool) → mask_of test < 2 ^ 32

-- the lowest slot passes the test, and none below it does; if there is none, no slot passes
pub record LowestIsFirst : Type 0 where
  pub passes : (test : ℕ → Bool) (slot : ℕ) → lowest test ≡ Some slot → (slot < 32) × (test slot ≡ true)
  pub below : (test : ℕ → Bool) (slot k : ℕ) → lowest test ≡ Some slot → k < slot → test k ≡ false
  pub nowhere : (test : ℕ → Bool) (k : ℕ) → lowest test ≡ None → k < 32 → test k ≡ false
