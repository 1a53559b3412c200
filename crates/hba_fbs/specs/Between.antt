-- The words in which lemmas are stated that proofs of other crates use (`proofs/Door.antt`), and the words that these need.
-- No clause says them.
use Rattle.std.specs.Prelude.{List, get_or, length, ℕ, ◌<◌, ◌≡◌, ◌≤◌}

-- the places below n have the values of f, and the others are as they were
pub record FilledTo {A : Type 0} (n : ℕ) (f : ℕ → A) (d : A) (old new : List A) : Type 0 where
  pub long : length new ≡ length old
  pub filled : (k : ℕ) → k < n → get_or new k d ≡ f k
  pub rest : (k : ℕ) → n ≤ k → get_or new k d ≡ get_or old k d
