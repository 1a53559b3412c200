-- Which place is served next (Serial ATA 3.x, 16.3, port multiplier: frame transmission; the policy for
-- frames to the host must be fair). The places are the device ports 0 to 14 and the control port Fh, 15.
use Rattle.std.specs.{Prelude.{◌≡◌, ◌≢◌, ℕ, ◌+◌, ◌-◌, Bool, IsTrue, List, [], ◌∷◌, ◌++◌, All, Option, Some}, List.{range_with_len, find}}
-- the control port's PM Port
pub use Rattle.pm_registers.specs.RegisterMap.{control_port}

-- the circle 0, 1, .., 14, Fh, in order, starting after a place and ending with it
abbrev pub circle_after : ℕ → List ℕ
circle_after last = range_with_len (last + 1) (control_port - last) ++ range_with_len 0 (last + 1)

-- the first ready place after the one served last
abbrev pub next_served : ℕ → (ℕ → Bool) → Option ℕ
next_served last ready = find ready (circle_after last)

-- These places are served, one after another. Each turn serves the next place among those that are ready
-- then.
unfoldable pub IsServedInTurn : ℕ → List (ℕ → Bool) → List ℕ → Type 0
IsServedInTurn last [] [] = Unit {0}
IsServedInTurn last (ready ∷ later) (place ∷ places) =
    (next_served last ready ≡ Some place) × IsServedInTurn place later places
IsServedInTurn last _ _ = ⊥

-- the place is ready at each of these turns
abbrev pub StaysReady : ℕ → List (ℕ → Bool) → Type 0
StaysReady place turns = All (λ ready. IsTrue (ready place)) turns

-- none of the frames served is from this place
abbrev pub IsPassedOver : ℕ → List ℕ → Type 0
IsPassedOver place served = All (λ other. other ≢ place) served
