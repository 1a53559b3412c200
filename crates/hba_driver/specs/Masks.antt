-- Masks of slots: a bit for each slot, 0 to 31.
use Rattle.std.specs.Prelude.{ℕ, ◌≡◌, ◌<◌, ◌==◌, Bool, true, false, if◌then◌else◌, List, Option, Some, None}
use Rattle.slots.specs.Slots.{has_bit}
use Rattle.hba_driver.specs.{declared.taken.Masks.Masks, Drivers.{Entry, entry_at, has_ended, holds, is_issued, waits}, Requests.is_free}

-- the bit of a slot is set or cleared, and each other bit stays
abbrev pub SetsBit : (slot : ℕ) → (set : Bool) → (old new : ℕ) → Type 0
SetsBit slot set old new = (k : ℕ) → k < 32 → has_bit new k ≡ (if k == slot then set else has_bit old k)

-- the slot of the lowest bit, or none without a bit
abbrev pub IsLowestBit : ℕ → Option ℕ → Type 0
IsLowestBit mask None = (k : ℕ) → k < 32 → has_bit mask k ≡ false
IsLowestBit mask (Some slot) =
    (slot < 32) × (has_bit mask slot ≡ true) × ((k : ℕ) → k < slot → has_bit mask k ≡ false)

-- the bits of a mask are the slots whose entries pass the test
pub record IsMask (test : Option Entry → Bool) (mask : ℕ) (entries : List (Option Entry)) : Type 0 where
  pub bits : (k : ℕ) → k < 32 → has_bit mask k ≡ test (entry_at entries k)

-- no entry passes the test
pub record NoneAt (test : Option Entry → Bool) (entries : List (Option Entry)) : Type 0 where
  pub none : (k : ℕ) → k < 32 → test (entry_at entries k) ≡ false

-- the masks of these entries
pub record AreMasks (masks : Masks) (entries : List (Option Entry)) : Type 0 where
  pub waits : IsMask (holds waits) masks.waits entries
  pub issued : IsMask (holds is_issued) masks.issued entries
  pub ended : IsMask (holds has_ended) masks.ended entries
  pub free : IsMask is_free masks.free entries

-- the masks after the entry of a slot has changed to this
pub record Notes (slot : ℕ) (entry : Option Entry) (old new : Masks) : Type 0 where
  pub waits : SetsBit slot (holds waits entry) old.waits new.waits
  pub issued : SetsBit slot (holds is_issued entry) old.issued new.issued
  pub ended : SetsBit slot (holds has_ended entry) old.ended new.ended
  pub free : SetsBit slot (is_free entry) old.free new.free
