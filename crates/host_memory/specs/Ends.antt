-- Where the bytes of each entry end in a transfer: AHCI 1.3.1, section 4.2.3.3, Physical Region Descriptor
-- Table. The transfer fills the entries one after another, so each entry begins where the one before it ends.
use Rattle.std.specs.Prelude.{◌≡◌, ℕ, ◌+◌, ◌<◌, ◌≤◌, List, [], ◌∷◌, slice_index, length, zero, suc}
use Rattle.host_memory.specs.declared.table.{Prd.Prd, Spot.Spot}

-- the ends of these entries, where the first entry begins at this byte
abbrev pub ends_from : ℕ → List Prd → List ℕ
ends_from begin [] = []
ends_from begin (prd ∷ rest) = (begin + prd.bytes) ∷ ends_from (begin + prd.bytes) rest

-- where an entry begins, given these ends
abbrev pub begin_in : List ℕ → ℕ → ℕ
begin_in ends zero = 0
begin_in ends (suc k) = slice_index ends k

-- Byte i lies in this entry, given these ends: it is spot.byte bytes after the start of the entry, and before
-- its end. Where there is no such entry, the spot is the end of the transfer.
pub record IsSpot (ends : List ℕ) (i : ℕ) (spot : Spot) : Type 0 where
  pub there : spot.entry ≤ length ends
  pub begins : begin_in ends spot.entry + spot.byte ≡ i
  pub ends_after : spot.entry < length ends → i < slice_index ends spot.entry
