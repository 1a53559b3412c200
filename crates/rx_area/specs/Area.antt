-- The places of a received FIS area: AHCI 1.3.1, section 4.2.1, Received FIS Structure, with one row for each
-- of the 16 PM Ports, as in section 9.3, FIS-based Switching. The types of the FISes and their lengths:
-- Serial ATA 3.x, 10.5, FIS types.
use Rattle.std.specs.Prelude.{◌≡◌, ◌≢◌, ℕ, ◌+◌, ◌*◌, nat_le, if◌then◌else◌, List, [], ◌++◌, length, take, drop}
use Rattle.fis_view.specs.declared.view.Fis.{Fis}
use Rattle.fis_view.specs.declared.view.Fis.TheVariants as view
use Rattle.rx_area.specs.declared.area.Posted.{Posted}
use Rattle.rx_area.specs.declared.area.Posted.TheVariants as posted

-- the offset of a place in its row, in bytes: DSFIS, PSFIS, RFIS, SDBFIS and UFIS of the standard
abbrev pub offset_of : Posted → ℕ
offset_of posted.Setup = 0x00
offset_of posted.Pio = 0x20
offset_of posted.D2h = 0x40
offset_of posted.Bits = 0x58
offset_of posted.Unknown = 0x60
offset_of posted.Nothing = 0

-- its size in bytes: the length of its FIS, and 64 for a FIS of an unknown type
abbrev pub size_of : Posted → ℕ
size_of posted.Setup = 28
size_of posted.Pio = 20
size_of posted.D2h = 20
size_of posted.Bits = 8
size_of posted.Unknown = 64
size_of posted.Nothing = 0

-- the offset of a place in the area: the row of PM Port dev begins at dev times 100h
abbrev pub start_of : ℕ → Posted → ℕ
start_of dev place = 256 * dev + offset_of place

-- the bytes of one place of one device's row
abbrev pub place_of : List ℕ → ℕ → Posted → List ℕ
place_of area dev place = take (size_of place) (drop (start_of dev place) area)

-- The place that receives a FIS. A FIS of an unknown type must fit its place. A FIS that a host sends, a DMA
-- Activate and a Data FIS have no place.
abbrev pub posted_at : Fis → Posted
posted_at (view.DmaSetup fis) = posted.Setup
posted_at (view.PioSetup fis) = posted.Pio
posted_at (view.RegD2H fis) = posted.D2h
posted_at (view.SetBits fis) = posted.Bits
posted_at (view.Unknown fis) = if nat_le (length fis) 64 then posted.Unknown else posted.Nothing
posted_at fis = posted.Nothing

-- the bytes that are copied: all of a FIS that has a place
abbrev pub posted_bytes : Fis → List ℕ
posted_bytes (view.DmaSetup fis) = fis
posted_bytes (view.PioSetup fis) = fis
posted_bytes (view.RegD2H fis) = fis
posted_bytes (view.SetBits fis) = fis
posted_bytes (view.Unknown fis) = if nat_le (length fis) 64 then fis else []
posted_bytes fis = []

-- the row of one PM Port
abbrev pub row_of : List ℕ → ℕ → List ℕ
row_of area dev = take 256 (drop (256 * dev) area)

-- the rows of the other PM Ports are as they were
abbrev pub LeavesOthers : ℕ → List ℕ → List ℕ → Type 0
LeavesOthers dev old new = (other : ℕ) → other ≢ dev → row_of new other ≡ row_of old other

-- the list with these bytes written over it, starting at index at
abbrev pub overwritten : List ℕ → ℕ → List ℕ → List ℕ
overwritten old at bytes = take at old ++ bytes ++ drop (at + length bytes) old

-- the area after a FIS of PM Port dev was posted
abbrev pub after_post : List ℕ → ℕ → Fis → List ℕ
after_post old dev fis = overwritten old (start_of dev (posted_at fis)) (posted_bytes fis)

-- the row of that PM Port afterwards
abbrev pub row_after : List ℕ → Fis → List ℕ
row_after row fis = overwritten row (offset_of (posted_at fis)) (posted_bytes fis)
