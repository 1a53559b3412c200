-- What putting bytes over others leaves: each of them is at its place, and each other byte is as it was
-- (Serial ATA 3.x, 10.5.9, DMA Setup FIS: the buffer offset is the place of the first byte of Data).
use Rattle.std.specs.Prelude.{ℕ, ◌≡◌, ◌+◌, ◌-◌, ◌≤◌, ◌&&◌, nat_le, nat_lt, if◌then◌else◌, List, length, slice_get}
use Rattle.disk_model.specs.Chunks.{put}

-- the byte at a place, after bytes were put over others within a list
abbrev pub LieWherePut : Type 0
LieWherePut =
    (xs ys : List ℕ) (at i : ℕ) → at + length ys ≤ length xs → slice_get (put xs at ys) i
    ≡ (if nat_le at i && nat_lt i (at + length ys) then slice_get ys (i - at) else slice_get xs i)
