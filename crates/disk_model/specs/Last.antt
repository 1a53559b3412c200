-- What a byte of a medium is after several writes ended: that of the last write that has it (ACS-3, WRITE
-- FPDMA QUEUED).
use Rattle.std.specs.Prelude.{ℕ, ◌≡◌, ◌+◌, ◌*◌, ◌<◌, ◌≤◌, List, ◌∷◌, ◌++◌, All, length, slice_get}
use Rattle.disk_model.specs.Ledger.{Written, medium_with}

-- the write has byte i of the medium
pub record Covers (i : ℕ) (w : Written) : Type 0 where
  pub from : w.at ≤ i
  pub to : i < w.at + length w.bytes

-- none of these writes has byte i
abbrev pub NoneCovers : ℕ → List Written → Type 0
NoneCovers i writes = All (λ w. Covers i w → ⊥) writes

-- the bytes of the write, if it has any, lie on a medium of this many bytes
abbrev pub Lies : ℕ → Written → Type 0
Lies len w = 0 < length w.bytes → w.at + length w.bytes ≤ len

-- each write lies on the medium
abbrev pub LieOn : ℕ → List Written → Type 0
LieOn sectors writes = All (Lies (512 * sectors)) writes

-- A byte of a write is on the medium as long as no later write has it.
abbrev pub ShowsTheLast : Type 0
ShowsTheLast =
    (sectors i : ℕ) (before later : List Written) (w : Written) → LieOn sectors (before ++ w ∷ later)
    → i < length w.bytes
    → NoneCovers (w.at + i) later
    → slice_get (medium_with sectors (before ++ w ∷ later)) (w.at + i) ≡ slice_get w.bytes i
