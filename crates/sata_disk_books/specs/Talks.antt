-- What goes between a device and its host, as far as Data to the device go by it: the FISes that set up and ask for Data, and these Data (Serial ATA 3.x, 10.5,
-- DMA Setup, DMA Activate, PIO Setup and Data).
use Rattle.std.specs.Prelude.{ℕ, ◌≡◌, ◌%◌, ◌==◌, ◌&&◌, Bool, true, false, not, List, [], ◌∷◌, Option, Some, None, if◌then◌else◌, Result, Ok}
use Rattle.fis_view.specs.Table as table
use Rattle.fis_view.specs.{Table.field, declared.view.{Fis.Fis, FisFault.FisFault}}
use Rattle.fis_view.specs.declared.view.Fis.TheVariants as view
use Rattle.sata_disk_books.specs.Counted.{Counted, more_by}

-- what a FIS of a device says of Data that are to go to it
pub data Sign : Type 0 where
  -- a DMA Setup FIS: the tag, the number of the first byte, and whether Data may go at once
  SetsUp : (tag offset : ℕ) → (auto : Bool) → Sign
  -- a DMA Activate FIS, or a PIO Setup FIS: Data may go
  Asks : Sign
  -- nothing
  Plain : Sign

abbrev pub sign_of : Result Fis FisFault → Sign
sign_of (Ok (view.DmaSetup f)) =
    SetsUp (field table.Setup table.BufferId f % 32) (field table.Setup table.Offset f)
    ((field table.Setup table.A f == 1) && not (field table.Setup table.D f == 1))
sign_of (Ok (view.DmaActivate f)) = Asks
sign_of (Ok (view.PioSetup f)) = Asks
sign_of other = Plain

pub data Step : Type 0 where
  Up : Sign → Step
  -- so many bytes of Data to the device
  Down : (count : ℕ) → Step

-- the DMA Setup FIS that went last, with the bytes of Data that went behind it as they were asked for; and whether some are asked for
pub record Talk : Type 0 where
  pub told : Option Counted
  pub wants : Bool

abbrev pub quiet_talk : Talk
quiet_talk = record { told = None; wants = false }

abbrev pub talk_by : Talk → Step → Talk
talk_by t (Up (SetsUp tag offset auto)) = record { told = Some (record { tag = tag; count = offset }); wants = auto }
talk_by t (Up Asks) = record { told = t.told; wants = true }
talk_by t (Up Plain) = t
talk_by t (Down count) = record { told = (if t.wants then more_by count t.told else t.told); wants = false }

unfoldable pub talk_after : Talk → List Step → Talk
talk_after t [] = t
talk_after t (s ∷ later) = talk_after (talk_by t s) later

-- Data go where they were asked for, once for each time
abbrev pub IsAsked : Talk → Step → Type 0
IsAsked t (Down count) = t.wants ≡ true
IsAsked t (Up sign) = Unit {0}

abbrev pub AreAsked : Talk → List Step → Type 0
AreAsked t [] = Unit {0}
AreAsked t (s ∷ later) = IsAsked t s × AreAsked (talk_by t s) later

-- a device sets up and asks where nothing is asked for
abbrev pub IsInTurn : Talk → Step → Type 0
IsInTurn t (Up (SetsUp tag offset auto)) = t.wants ≡ false
IsInTurn t (Up Asks) = t.wants ≡ false
IsInTurn t (Up Plain) = Unit {0}
IsInTurn t (Down count) = Unit {0}

abbrev pub AreInTurn : Talk → List Step → Type 0
AreInTurn t [] = Unit {0}
AreInTurn t (s ∷ later) = IsInTurn t s × AreInTurn (talk_by t s) later
