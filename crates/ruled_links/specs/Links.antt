-- A bounded link, and a link between threads with its seats, as contracts see them.
use Rattle.std.specs.Prelude.{◌≡◌, ◌≤◌, ℕ, Bool, false, nat_le, ◌&&◌, List, ◌++◌, length, drop}
use Rattle.atomic_table.specs.Seated.{TableId}

module _ {T : Type 0} where
  -- nothing is lost, invented or reordered: what was taken, followed by what is there, is what was sent
  abbrev pub IsWhole : List T → List T → List T → Type 0
  IsWhole sent taken content = taken ++ content ≡ sent

  -- A link with room for a fixed number of items. Every item sent over it is taken off it in the same order,
  -- or is still on it. It never holds more items than it has room for.
  pub record IsLink (capacity : ℕ) (sent taken content : List T) : Type 0 where
    pub whole : IsWhole sent taken content
    pub bounded : length content ≤ capacity

-- the capacities that a link can be made with
abbrev pub is_capacity : ℕ → Bool
is_capacity n = nat_le 1 n && nat_le n 64

pub record LinkState : Type 0 where
  -- the largest number of items that it holds
  pub room : ℕ
  -- whether its seats were given out
  pub seated : Bool

abbrev pub new_link : ℕ → LinkState
new_link capacity = record { room = capacity; seated = false }

-- A seat: its link, the room of that link, and what the seat knows to be sent and taken over it. A sending
-- seat knows all that was sent and a prefix of what was taken; a taking seat knows the reverse. For each Full
-- it knows how many items had been sent, and for each None how many had been taken.
pub record Seat (T : Type 0) : Type 0 where
  pub link : TableId
  pub room : ℕ
  pub sent : List T
  pub taken : List T
  pub full_at : List ℕ
  pub none_at : List ℕ

-- what was sent and not taken, as far as the seat knows
abbrev pub content : {T : Type 0} → Seat T → List T
content s = drop (length s.taken) s.sent
