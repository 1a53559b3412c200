-- The words in which lemmas are stated that proofs of other crates use (`proofs/Door.antt`), and the words that these need.
-- No clause says them.
use Rattle.std.specs.Prelude.{Bool, MatchOption, None, Option, false, true, ℕ, ◌<◌, ◌≡◌, ◌≤◌}
use Rattle.slots.specs.Slots.{Issue, has_bit}

-- what is known of the lowest number that passes a test
pub record IsLowest (test : ℕ → Bool) (n s : ℕ) : Type 0 where
  pub below : s < n
  pub passes : test s ≡ true

-- the bits of the mask below i are what the test says, and no other bit is set
pub record MaskBelow (test : ℕ → Bool) (mask i : ℕ) : Type 0 where
  pub below : (s : ℕ) → s < i → has_bit mask s ≡ test s
  pub above : (s : ℕ) → i ≤ s → has_bit mask s ≡ false

-- if a command is issued, it is one of the device
abbrev pub Owns : ℕ → Option Issue → Type 0
Owns dev o = MatchOption o ⊥ (λ issue. issue.dev ≡ dev)

-- a slot in which nothing is issued
abbrev pub no_issue : Option Issue
no_issue = None
