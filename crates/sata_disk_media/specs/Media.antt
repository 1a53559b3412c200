-- What a medium was told to keep, over a run of a disk, and a medium that keeps it.
use Rattle.std.specs.Prelude.{ℕ, ◌≡◌, true, List, [], ◌∷◌, ◌++◌, Option, Some, None}
use Rattle.block_engine.specs.declared.request.{Answer.{Answer, TheVariants.Loaded}, Request.Request, What.What}
use Rattle.block_engine.specs.declared.request.What.TheVariants as what
use Rattle.block_queue.specs.Line.{command_at}
use Rattle.disk_pages.specs.declared.profile.Profile.{Profile}
use Rattle.sata_disk.specs.State.{DiskState, commands, new_disk}
use Rattle.sata_disk_laws.specs.Calls.{Answers, Asks, Call, after_call}
use Rattle.sata_disk_media.specs.Cells.{Cell, Unknown, answered_cell, asked_cell, bytes_at, covers, kept_in, sector_of}

-- the bytes that the caller finds at the disk for a store of a place
abbrev pub store_bytes : DiskState → (place : Option ℕ) → List ℕ
store_bytes d None = []
store_bytes d (Some p) = bytes_at (command_at (commands d) p)

-- what a call makes of what is known of a sector
abbrev pub cell_after : DiskState → (s : ℕ) → Cell → Call → Cell
cell_after d s was (Asks r) = asked_cell s was r.what r.number (store_bytes d r.place) d.engine.ranges
cell_after d s was (Answers number a) = answered_cell was number a
cell_after d s was _ = was

unfoldable pub cell_of : DiskState → (s : ℕ) → Cell → List Call → Cell
cell_of d s was [] = was
cell_of d s was (c ∷ later) = cell_of (after_call d c) s (cell_after d s was c) later

-- The bytes that the medium is known to keep at a sector, behind these calls of a new disk: those of the last store of it, where that was
-- done, and no discard of it was asked for since.
abbrev pub kept : Profile → (limit : ℕ) → List Call → (s : ℕ) → Option (List ℕ)
kept p limit calls s = kept_in (cell_of (new_disk p limit) s Unknown calls)

-- ## A medium that keeps what it was told to keep

-- the answer to a load has, for each of its sectors of which bytes are known, these
abbrev pub IsTrue : (known : ℕ → Option (List ℕ)) → What → Answer → Type 0
IsTrue known (what.Load lba count) (Loaded bytes) =
    (s : ℕ) (b : List ℕ) → covers lba count s ≡ true → known s ≡ Some b → sector_of lba s bytes.items ≡ b
IsTrue known _ a = Unit {0}

-- each answer to a load has what is kept as it is given
abbrev pub IsHonest : Profile → (limit : ℕ) → List Call → Type 0
IsHonest p limit calls = (first middle later : List Call) (r : Request) (a : Answer) → calls ≡ first ++ Asks r ∷ middle ++ Answers r.number a ∷ later
    → IsTrue (kept p limit (first ++ Asks r ∷ middle)) r.what a
