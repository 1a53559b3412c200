-- The bytes that an area borrows, at PxFB (AHCI 1.3.1, 3.3.3), and what a call leaves in them.
use Rattle.std.specs.{Prelude.{◌≡◌, ℕ, List}, Borrow.MutBor}
use Rattle.rx_area.specs.declared.area.RxArea.{RxArea}

-- the bytes of the area
abbrev pub bytes_of : RxArea → List ℕ
bytes_of area = area.bytes.now

-- the area borrows these bytes, which end as the area leaves them
abbrev pub IsOver : RxArea → MutBor (List ℕ) → Type 0
IsOver area lent = area.bytes.ghost_name ≡ lent.ghost_name

-- it still borrows the same bytes
abbrev pub StaysOver : RxArea → RxArea → Type 0
StaysOver old new = new.bytes.ghost_name ≡ old.bytes.ghost_name
