-- The ranges of sectors that TRIM names (ACS-3, 7.5): entries of 8 bytes, with the LBA in bits 47:0 and the count in bits 63:48. An
-- entry whose count is 0 names nothing.
use Rattle.std.specs.Prelude.{ℕ, zero, suc, ◌+◌, ◌*◌, ◌/◌, ◌%◌, ◌^◌, ◌==◌, ◌&&◌, ◌||◌, nat_lt, Bool, false, List, [], ◌∷◌, ◌++◌, drop, if◌then◌else◌}
use Rattle.byteorder.specs.Endian.{little_number}
use Rattle.ata_command.specs.declared.trim.Extent.{Extent}

abbrev pub extent_of : ℕ → Extent
extent_of qword = record { lba = qword % 2 ^ 48; count = qword / 2 ^ 48 }

-- the entry of this number
abbrev pub entry : List ℕ → ℕ → Extent
entry bytes n = extent_of (little_number 8 (drop (n * 8) bytes))

abbrev pub named : Extent → List Extent
named e = if e.count == 0 then [] else e ∷ []

-- what the first n entries name
unfoldable pub extents_in : List ℕ → ℕ → List Extent
extents_in bytes zero = []
extents_in bytes (suc n) = extents_in bytes n ++ named (entry bytes n)

-- it has a sector that a disk of so many does not have
abbrev pub is_past : (sectors : ℕ) → Extent → Bool
is_past sectors e = nat_lt 0 e.count && nat_lt sectors (e.lba + e.count)

-- one of the first n entries has
unfoldable pub is_past_in : List ℕ → (sectors : ℕ) → ℕ → Bool
is_past_in bytes sectors zero = false
is_past_in bytes sectors (suc n) = is_past_in bytes sectors n || is_past sectors (entry bytes n)
