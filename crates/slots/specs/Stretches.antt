-- The transferred bytes of a command (Serial ATA 3.x, 10.5, Data FISes) as they are stored: stretches of
-- dwords, in order, each with a gap to the next.
use Rattle.std.specs.{Prelude.{ℕ, ◌+◌, ◌-◌, ◌≤◌, ◌<◌, min, max, Bool, ◌&&◌, nat_lt, nat_le, if◌then◌else◌, List, [], ◌∷◌, map}, List.range_with_len}
use Rattle.std.specs.List.{list_any}
use Rattle.slots.specs.declared.moved.Stretch.{Stretch}

-- dword k is in the stretch
abbrev pub has : ℕ → Stretch → Bool
has k s = nat_le s.start k && nat_lt k s.end

-- the dword is in one of these stretches
abbrev pub in_one : List Stretch → ℕ → Bool
in_one stretches k = list_any (has k) stretches

-- the flags of the n dwords of a transfer
abbrev pub over_of : ℕ → List Stretch → List Bool
over_of n stretches = map (in_one stretches) (range_with_len 0 n)

-- a dword of the stretch lies from start on, below end
abbrev pub meets : ℕ → ℕ → Stretch → Bool
meets start end s = nat_lt s.start end && nat_lt start s.end

-- how many dwords these stretches have
abbrev pub dwords_of : List Stretch → ℕ
dwords_of [] = 0
dwords_of (s ∷ ss) = s.end - s.start + dwords_of ss

-- They lie in order, from dword low on and below dword n. None is empty, and between any two there is a dword
-- that is in neither. So they are the longest runs of the dwords that they have.
abbrev pub AreApart : ℕ → ℕ → List Stretch → Type 0
AreApart low n [] = Unit {0}
AreApart low n (s ∷ ss) =
    (low ≤ s.start) × (s.start < s.end) × (s.end ≤ n) × AreApart (s.end + 1) n ss

-- the shortest stretch that covers both
abbrev pub joined : Stretch → Stretch → Stretch
joined s t = record { start = min s.start t.start; end = max s.end t.end }

-- stretches that lie apart, with one more, which is joined with each that it meets or touches
abbrev pub merged_with : Stretch → List Stretch → List Stretch
merged_with more [] = more ∷ []
merged_with more (s ∷ ss) =
    if nat_lt s.end more.start then s ∷ merged_with more ss
    else if nat_lt more.end s.start then more ∷ s ∷ ss
    else merged_with (joined more s) ss
