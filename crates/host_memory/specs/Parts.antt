-- A run of a transfer's bytes as the stretches of memory that hold it, one for each entry that it touches
-- (AHCI 1.3.1, section 4.2.3.3, Physical Region Descriptor Table).
use Rattle.std.specs.Prelude.{◌≡◌, ℕ, ◌+◌, ◌-◌, ◌*◌, ◌<◌, ◌≤◌, min, max, Bool, nat_lt, if◌then◌else◌, List, [], ◌∷◌, slice_index, length, take, drop}
use Rattle.std.specs.{Prelude.{map, zero, suc}, List.{concat, filter, range_with_len}}
use Rattle.host_memory.specs.{declared.table.{Prd.Prd, Run.Run}, Memory.client_start, Place.{total_of, place, AreInside}, Reading.{prd_at, prds_at}}

-- this many bytes of the client area, from byte from of an entry on
abbrev pub stretch_of : List ℕ → Prd → ℕ → ℕ → List ℕ
stretch_of client prd from count = take count (drop (prd.address - client_start + from) client)

-- how many bytes the entry of this byte of a transfer has from that byte on; none past the end
abbrev pub left_at : List Prd → ℕ → ℕ
left_at [] i = 0
left_at (prd ∷ rest) i = (if nat_lt i prd.bytes then prd.bytes - i else left_at rest (i - prd.bytes))

-- the run of the client area that holds the rest of an entry, from this byte of a transfer on
pub record IsRun (prds : List Prd) (client_len i : ℕ) (run : Run) : Type 0 where
  pub below : i < total_of prds
  pub there : client_start + run.start ≡ place prds i
  pub left : run.len ≡ left_at prds i
  pub inside : run.start + run.len ≤ client_len

-- where the bytes of entry k begin in a transfer: after those of the entries before it
abbrev pub begin_of : List Prd → ℕ → ℕ
begin_of prds k = total_of (take k prds)

-- the part of entry k in a run of len bytes that begins at byte offset: from the later start to the earlier
-- end
abbrev pub first_in : List Prd → ℕ → ℕ → ℕ
first_in prds offset k = max offset (begin_of prds k)

abbrev pub end_in : List Prd → ℕ → ℕ → ℕ → ℕ
end_in prds offset len k = min (offset + len) (begin_of prds (suc k))

-- the run has a byte of entry k
abbrev pub touches : List Prd → ℕ → ℕ → ℕ → Bool
touches prds offset len k = nat_lt (first_in prds offset k) (end_in prds offset len k)

-- these bytes of the client area, from the place of the first one on
abbrev pub part_in : List ℕ → List Prd → ℕ → ℕ → ℕ → List ℕ
part_in client prds offset len k = take (end_in prds offset len k - first_in prds offset k)
    (drop (place prds (first_in prds offset k) - client_start) client)

-- one part for each entry that the run touches, in the order of the table
abbrev pub one_for_each : List ℕ → List Prd → ℕ → ℕ → List (List ℕ)
one_for_each client prds offset len =
    map (part_in client prds offset len) (filter (touches prds offset len) (range_with_len 0 (length prds)))

-- The parts are the bytes offset to offset + len of a transfer. Joined, they have this length, and each byte
-- is the one at its place. There is one part for each entry that has some of them, and no other.
pub record AreParts (prds : List Prd) (offset len : ℕ) (client : List ℕ)
    (parts : List (List ℕ)) : Type 0 where
  pub as_long : length (concat parts) ≡ len
  pub at_places : (k : ℕ) → k < len
      → slice_index (concat parts) k ≡ slice_index client (place prds (offset + k) - client_start)
  pub one_each : parts ≡ one_for_each client prds offset len

-- The parts still to come of a run of len bytes that begins at byte offset of these entries: the rest of the
-- entry in which it begins, as far as the run goes, and then those of the entries after it.
unfoldable pub parts_of : List ℕ → List Prd → ℕ → ℕ → List (List ℕ)
parts_of client [] offset len = []
parts_of client (prd ∷ rest) offset zero = []
parts_of client (prd ∷ rest) offset (suc n) =
    if nat_lt offset prd.bytes then stretch_of client prd offset (min (suc n) (prd.bytes - offset))
    ∷ parts_of client rest 0 (suc n - (prd.bytes - offset))
    else parts_of client rest (offset - prd.bytes) (suc n)

-- what every value keeps: the entries lie in the structure area, their bytes in the client area; they hold
-- what is left of the run, which begins in the first of them
pub record HoldParts (structure client : List ℕ) (at count offset len : ℕ) : Type 0 where
  pub lies : at + 16 * count ≤ length structure
  pub inside : AreInside (length client) (prds_at structure at count)
  pub holds : offset + len ≤ total_of (prds_at structure at count)
  pub begins : 0 < len → offset < (prd_at structure at).bytes
