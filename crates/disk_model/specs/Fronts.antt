-- The writes before a read (Serial ATA 3.x, 13.6, native command queuing). When a disk starts a read, some
-- writes have ended. They are the first ones of all writes that end, whatever comes later.
use Rattle.std.specs.Prelude.{ℕ, ◌≡◌, ◌++◌, List, Some, slice_get}
use Rattle.disk_model.specs.{Ends.EndsAgree, Histories.Happening, Ledger.{ReadOut, Written, ledger}}

-- the writes of one list come first in the other, in the same order
pub record IsFront (front whole : List Written) : Type 0 where
  pub later : List Written
  pub same : whole ≡ front ++ later

-- The writes that had ended when a read was started are the first of all that ended.
abbrev pub BeforeIsFront : Type 0
BeforeIsFront =
    (history : List Happening) (at : ℕ) (r : ReadOut) → slice_get (ledger history).reads at ≡ Some r
    → IsFront r.before (ledger history).writes

-- Where both ends of a link agree, the writes that the disk's end tells of come first among those that the
-- host's end tells of.
abbrev pub HostIsAhead : Type 0
HostIsAhead =
    (sectors : ℕ) (disk host : List Happening) (down up : List (List ℕ)) → EndsAgree sectors disk host down up
    → IsFront (ledger disk).writes (ledger host).writes
