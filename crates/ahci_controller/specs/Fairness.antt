-- Nobody waits for long: a circle over the places of masks that may change from turn to turn.
use Rattle.std.specs.Prelude.{◌≡◌, ◌≢◌, ℕ, ◌<◌, ◌≤◌, true, List, [], ◌∷◌, length, MatchOption}
use Rattle.slots.specs.Slots.{has_bit}
use Rattle.ahci_controller.specs.Circle.{first_behind}

-- the place is in each of the masks
abbrev pub AllHave : ℕ → List ℕ → Type 0
AllHave place [] = Unit {0}
AllHave place (mask ∷ rest) = (has_bit mask place ≡ true) × AllHave place rest

-- at each of these turns one of the mask's places is chosen, and it is not this one
abbrev pub OthersOnly : (count place last : ℕ) → List ℕ → Type 0
OthersOnly count place last [] = Unit {0}
OthersOnly count place last (mask ∷ rest) =
    MatchOption (first_behind count mask last) ⊥ (λ chosen. (chosen ≢ place) × OthersOnly count place chosen rest)

-- so a command that may go waits for at most 31 others
abbrev pub SlotsComeRound : Type 0
SlotsComeRound =
    (slot last : ℕ) (masks : List ℕ) → slot < 32 → AllHave slot masks → OthersOnly 32 slot last masks → length masks ≤ 31

-- and Data that may go for at most 15 other devices
abbrev pub DevicesComeRound : Type 0
DevicesComeRound =
    (dev last : ℕ) (masks : List ℕ) → dev < 16 → AllHave dev masks → OthersOnly 16 dev last masks → length masks ≤ 15
