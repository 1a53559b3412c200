-- The bytes that the caller is asked to store are Data that came for the command since it was taken: one Data FIS for each DMA Activate,
-- each PIO Setup and each DMA Setup with auto-activate of that command (Serial ATA 3.x, 10.5 and 13.6). A plug, a reset and an error close
-- all pages, so what came before counts for nothing.
use Rattle.std.specs.Prelude.{◌≡◌, ◌+◌, ◌*◌, List, [], ◌∷◌, ◌++◌, length, Option, Some, None}
use Rattle.block_command.specs.{declared.command.Command.Command, Laws.{AskedStore, Happening, Ledger}}
use Rattle.block_disk.specs.{Laws.{At, Page, at_page}, Requests.{Asked, Books, Seen, entered_by, no_books}}
use Rattle.sata_disk_laws.specs.Laws.{OfEachRun}

-- all that came is what was stored, and these bytes behind it; they are for the sectors behind those
abbrev pub IsWhatCame : Command → Ledger → Happening → Type 0
IsWhatCame c l (AskedStore lba bytes) = (l.came ≡ l.kept ++ bytes) × (lba * 512 ≡ c.lba * 512 + length l.kept)
IsWhatCame c l _ = Unit {0}

abbrev pub PageHas : Option Page → Happening → Type 0
PageHas None h = ⊥
PageHas (Some p) h = IsWhatCame p.command p.ledger h

abbrev pub IsStoreHeard : Books → Seen → Type 0
IsStoreHeard b (Asked place number (At where' h)) = (where' ≡ place) × PageHas (at_page b.pages place) h
IsStoreHeard b _ = Unit {0}

abbrev pub AreStoresHeard : Books → List Seen → Type 0
AreStoresHeard b [] = Unit {0}
AreStoresHeard b (s ∷ later) = IsStoreHeard b s × AreStoresHeard (entered_by b s) later

abbrev pub StoresAreHeard : Type 0
StoresAreHeard = OfEachRun (AreStoresHeard no_books)
