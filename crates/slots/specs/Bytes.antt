-- Which bytes of a command were transferred, by the Data FISes and the offsets of their DMA Setups (Serial
-- ATA 3.x, 10.5). A list of flags stands for a set of bytes, always whole dwords: flag k stands for bytes 4 k
-- to 4 k + 3. All the words below speak of bytes.
use Rattle.std.specs.Prelude.{ℕ, ◌+◌, ◌-◌, ◌*◌, ◌/◌, Bool, false, not, ◌&&◌, ◌||◌, ◌==◌, nat_lt, nat_le, List, map, length, replicate, slice_index_or}
use Rattle.std.specs.{Prelude.count_by, List.{range_with_len, list_any, list_all}}

-- byte b was transferred
abbrev pub is_over : List Bool → ℕ → Bool
is_over over b = slice_index_or over (b / 4) false

-- the bytes of a transfer of len bytes, by their offsets
abbrev pub bytes : ℕ → List ℕ
bytes len = range_with_len 0 len

-- a stretch begins at byte b; a stretch is a run of transferred bytes that is as long as possible
abbrev pub begins : List Bool → ℕ → Bool
begins over b = is_over over b && (b == 0 || not (is_over over (b - 1)))

-- a stretch ends just before byte b
abbrev pub ends_at : List Bool → ℕ → Bool
ends_at over b = nat_lt 0 b && is_over over (b - 1) && not (is_over over b)

-- how many stretches a transfer of len bytes has
unfoldable pub stretches_of : List Bool → ℕ → ℕ
stretches_of over len = count_by (begins over) (bytes len)

-- one of the count bytes from byte offset on was transferred
unfoldable pub any_over : List Bool → ℕ → ℕ → Bool
any_over over offset count = list_any (is_over over) (range_with_len offset count)

-- each byte of a transfer of len bytes was transferred
unfoldable pub is_whole : List Bool → ℕ → Bool
is_whole over len = list_all (is_over over) (bytes len)

-- how many of its bytes were transferred
unfoldable pub came_of : List Bool → ℕ → ℕ
came_of over len = count_by (is_over over) (bytes len)

-- byte b is one of the count bytes from byte offset on
abbrev pub is_within : ℕ → ℕ → ℕ → Bool
is_within offset count b = nat_le offset b && nat_lt b (offset + count)

-- these bytes are transferred too; offset and count are multiples of 4, so the first byte of a dword tells
-- for all four
unfoldable pub with_bytes : List Bool → ℕ → ℕ → List Bool
with_bytes over offset count =
    map (λ k. is_over over (4 * k) || is_within offset count (4 * k)) (range_with_len 0 (length over))

-- no byte of a transfer of len bytes was transferred
abbrev pub none_over : ℕ → List Bool
none_over len = replicate (len / 4) false
