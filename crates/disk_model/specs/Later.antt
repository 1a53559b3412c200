-- A disk that is plugged in again. The writes of earlier connections stay on its medium. What both ends tell
-- of the later connection is what they tell of the first connection of a new disk, except for the reads and
-- writes that ended before (Serial ATA 3.x, 13.6, native command queuing).
use Rattle.std.specs.Prelude.{ℕ, ◌≡◌, ◌+◌, List, [], ◌∷◌, ◌++◌, length, Some, Result, slice_get}
use Rattle.fis_view.specs.declared.view.{Fis.Fis, FisFault.FisFault}
use Rattle.disk_model.specs.{Anew.{IsCarefulSince, IsLinkedOn}, Ends.{IsCareful, IsLinked, IsRight}, Histories.{Happening, Plugged}, Ledger.ReadOut}
use Rattle.disk_model.specs.Ledger.{Written, ledger}

-- two ends that are linked since a plugging are still linked with what happened before put in front
abbrev pub LaterIsLinked : Type 0
LaterIsLinked =
    (before disk host : List Happening) (down up : List (List ℕ)) → IsLinked disk host down up
    → IsLinkedOn (before ++ Plugged ∷ []) (before ++ disk) (before ++ host) down [] up

-- A read that ended is in the whole history too, with its command and its bytes. There, the earlier writes
-- are among those before it.
pub record IsReadThere (before given : List Happening) (r : ReadOut) : Type 0 where
  pub at : ℕ
  pub read : ReadOut
  pub ended : slice_get (ledger (before ++ given)).reads at ≡ Some read
  pub command : read.command ≡ r.command
  pub bytes : read.bytes ≡ r.bytes
  pub had : read.before ≡ (ledger before).writes ++ r.before

-- what is told since a plugging is true of the whole history
pub record TellsOfAll (before given : List Happening) : Type 0 where
  pub careful : IsCarefulSince (before ++ Plugged ∷ []) (before ++ given)
  pub right : (fis : Result Fis FisFault) → IsRight (ledger (before ++ given)) fis
      → IsRight (ledger given) fis
  pub unanswered : (ledger (before ++ given)).unanswered ≡ (ledger given).unanswered
  pub reads : (at : ℕ) (r : ReadOut) → slice_get (ledger given).reads at ≡ Some r
      → IsReadThere before given r
  -- the writes come after the earlier ones
  pub writes : (at : ℕ) (w : Written) → slice_get (ledger given).writes at ≡ Some w
      → slice_get (ledger (before ++ given)).writes (length (ledger before).writes + at) ≡ Some w

abbrev pub LaterTellsOfAll : Type 0
LaterTellsOfAll =
    (before disk given : List Happening) (down up : List (List ℕ)) → IsLinked disk given down up
    → IsCareful given → TellsOfAll before given
