-- A disk that has its first sectors from its maker. They are its opening medium, in place of the pattern.
use Rattle.std.specs.Prelude.{ℕ, ◌≡◌, ◌*◌, List, [], ◌∷◌, length}
use Rattle.disk_model.specs.{Fronts.IsFront, Histories.{Happening, Loaded}, Ledger.{Written, ledger, loaded, medium_with, with_writes}}

-- Whatever happens to it, its sectors come first among all writes.
abbrev pub LoadedIsFirst : Type 0
LoadedIsFirst =
    (bytes : List ℕ) (history : List Happening)
    → IsFront (loaded bytes ∷ []) (ledger (Loaded bytes ∷ history)).writes

-- So the medium is that of its maker, with the bytes of each write that ended since put in, in order.
abbrev pub LoadedIsUnderWrites : Type 0
LoadedIsUnderWrites =
    (sectors : ℕ) (bytes : List ℕ) (later : List Written) → length bytes ≡ 512 * sectors
    → medium_with sectors (loaded bytes ∷ later) ≡ with_writes bytes later
