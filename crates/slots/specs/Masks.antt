-- Masks of slots: a bit for each slot, 0 to 31 (as PxCI and PxSACT have them, AHCI 1.3.1, 3.3.13 and 3.3.14).
use Rattle.std.specs.Prelude.{ℕ, ◌≡◌, ◌<◌, ◌==◌, Bool, true, false, not, ◌&&◌, if◌then◌else◌, List, Option, Some, None, slice_index_or}
use Rattle.slots.specs.{declared.mask.Masks.Masks, Commands.{is_any, is_unanswered}, Slots.{Issue, has_bit, holds, is_queued_issue, is_unsent}}

-- the bit of a slot is set or cleared, and each other bit stays
abbrev pub SetsBit : (slot : ℕ) → (set : Bool) → (old new : ℕ) → Type 0
SetsBit slot set old new = (k : ℕ) → k < 32 → has_bit new k ≡ (if k == slot then set else has_bit old k)

-- the slot of the lowest bit, or none without a bit
abbrev pub IsLowestBit : ℕ → Option ℕ → Type 0
IsLowestBit mask None = (k : ℕ) → k < 32 → has_bit mask k ≡ false
IsLowestBit mask (Some slot) =
    (slot < 32) × (has_bit mask slot ≡ true) × ((k : ℕ) → k < slot → has_bit mask k ≡ false)

-- each bit that this mask does not have
abbrev pub IsWithout : (mask old new : ℕ) → Type 0
IsWithout mask old new = (k : ℕ) → k < 32 → has_bit new k ≡ (has_bit old k && not (has_bit mask k))

-- the bits of a mask, up to bit n, are the slots with an issue for which the test holds
pub record IsMask (test : Issue → Bool) (n mask : ℕ) (issues : List (Option Issue)) : Type 0 where
  pub bits : (k : ℕ) → k < n → has_bit mask k ≡ holds test (slice_index_or issues k None)

-- the masks of these issues, up to bit n
pub record AreMasksBelow (n : ℕ) (masks : Masks) (issues : List (Option Issue)) : Type 0 where
  pub issued : IsMask is_any n masks.issued issues
  pub unanswered : IsMask is_unanswered n masks.unanswered issues
  pub queued : IsMask is_queued_issue n masks.queued issues
  pub unsent : IsMask is_unsent n masks.unsent issues

abbrev pub AreMasks : Masks → List (Option Issue) → Type 0
AreMasks = AreMasksBelow 32

-- the masks after a slot has changed to this
pub record Notes (slot : ℕ) (issue : Option Issue) (old new : Masks) : Type 0 where
  pub issued : SetsBit slot (holds is_any issue) old.issued new.issued
  pub unanswered : SetsBit slot (holds is_unanswered issue) old.unanswered new.unanswered
  pub queued : SetsBit slot (holds is_queued_issue issue) old.queued new.queued
  pub unsent : SetsBit slot (holds is_unsent issue) old.unsent new.unsent

-- the masks after these slots were freed
pub record LeavesOut (mask : ℕ) (old new : Masks) : Type 0 where
  pub issued : IsWithout mask old.issued new.issued
  pub unanswered : IsWithout mask old.unanswered new.unanswered
  pub queued : IsWithout mask old.queued new.queued
  pub unsent : IsWithout mask old.unsent new.unsent
