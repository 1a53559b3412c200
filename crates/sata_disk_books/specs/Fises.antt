-- What the FISes of a disk say of the Data that follow, by their bytes alone (Serial ATA 3.x, 10.5, DMA Setup and Data).
use Rattle.std.specs.Prelude.{ℕ, ◌≡◌, ◌<◌, ◌⊎◌, ◌-◌, ◌%◌, List, [], ◌∷◌, ◌++◌, length, Option, Some, None, Result, Ok}
use Rattle.fis_view.specs.{Seen.seen, Table.field, declared.view.{Fis.Fis, FisFault.FisFault}}
use Rattle.fis_view.specs.Table as table
use Rattle.fis_view.specs.declared.view.Fis.TheVariants as view
use Rattle.disk_pages.specs.declared.profile.Profile.{Profile}
use Rattle.sata_disk.specs.{Sending.{IsFis, IsOut}, State.{DiskState, new_disk}, declared.out.Out.Out}
use Rattle.sata_disk.specs.declared.out.Out.TheVariants as out
use Rattle.sata_disk_laws.specs.{Calls.{AreCalls, Call, Sends, after_call}, Laws.reached}
use Rattle.sata_disk_books.specs.{Books.page_in, Counted.{AreCounted, Counted, more_by}}

-- what a FIS says: a DMA Setup FIS has the tag, in bits 4:0 of its buffer identifier, and the offset; Data go on behind those before
abbrev pub told_by : Result Fis FisFault → Option Counted → Option Counted
told_by (Ok (view.DmaSetup f)) was = Some (record { tag = field table.Setup table.BufferId f % 32; count = field table.Setup table.Offset f })
told_by (Ok (view.Payload f)) was = more_by (length f - 4) was
told_by other was = was

-- and a list of them, the first one first: the tag, and how many bytes came
unfoldable pub told_after : Option Counted → List (List ℕ) → Option Counted
told_after was [] = was
told_after was (f ∷ later) = told_after (told_by (seen f) was) later

-- the first FIS is that one
pub record Begins (d : DiskState) (o : Out) (fises : List (List ℕ)) (Then : List (List ℕ) → Type 0) : Type 0 where
  pub fis : List ℕ
  pub rest : List (List ℕ)
  pub are : fises ≡ fis ∷ rest
  pub is : IsFis d o fis
  pub later : Then rest

-- By these calls a disk sends these FISes, and no others.
abbrev pub AreFises : DiskState → List Call → List (List ℕ) → Type 0
AreFises d [] fises = fises ≡ []
AreFises d (Sends o ∷ later) fises = Begins d o fises (AreFises (after_call d (Sends o)) later)
AreFises d (c ∷ later) fises = AreFises (after_call d c) later fises

-- Whoever reads the FISes of a disk, from whatever moment on, knows of each Data FIS of a queued command, as it goes, which place it is of and where in
-- its command its bytes stand; or there was no DMA Setup FIS since that moment.
abbrev pub FisesTell : Type 0
FisesTell = (p : Profile) (limit : ℕ) (base calls : List Call) (fises : List (List ℕ)) (place n : ℕ) → AreCalls (new_disk p limit) (base ++ calls)
    → AreFises (reached p limit base) calls fises → IsOut (reached p limit (base ++ calls)) (Some (out.Data place n)) → place < 32
    → (told_after None fises ≡ None) ⊎ AreCounted (page_in p limit (base ++ calls) place) place (told_after None fises)
