-- What a FIS tells does not depend on its PM Port, which only a port multiplier writes (Serial ATA 3.x, 10.5
-- and chapter 16): the ledger hears the same of a frame and of the marked one.
use Rattle.std.specs.Prelude.{ℕ, ◌≡◌, ◌<◌, List}
use Rattle.fis_view.specs.{Frames.{IsFrame, marked}, Seen.seen}
use Rattle.disk_model.specs.{Ends.{Fits, IsRight}, Histories.{Received, Sent}, Ledger.{Ledger, listens}}
use Rattle.disk_simulation.specs.Joined.{IsShort}

pub record IsHeardAlike (k : Ledger) (old new : List ℕ) : Type 0 where
  pub up : listens k (Sent new) ≡ listens k (Sent old)
  pub down : listens k (Received new) ≡ listens k (Received old)
  pub right : IsRight k (seen old) → IsRight k (seen new)
  pub fits : Fits k (seen old) → Fits k (seen new)
  pub short : IsShort (seen old) → IsShort (seen new)

abbrev pub MarksTellNothing : Type 0
MarksTellNothing = (k : Ledger) (bytes : List ℕ) (port : ℕ) → IsFrame bytes → port < 16
    → IsHeardAlike k bytes (marked bytes port)
