-- The words in which lemmas are stated that proofs of other crates use (`proofs/Door.antt`), and the words that these need.
-- No clause says them.
use Rattle.std.specs.Prelude.{List, Ok, Result, Some, true, ℕ, ◌≡◌}
use Rattle.fis_view.specs.{declared.{view.Fis.Fis, view.FisFault.FisFault}, Table.{D2h, Status, field}}
use Rattle.fis_view.specs.declared.view.Fis.TheVariants as view
use Rattle.fis_view.specs.Table as table
use Rattle.slots.specs.Slots.{DeviceSlots, Issue, own_issue}
use Rattle.hba_fbs.specs.declared.hearing.Happening.TheVariants as happening
use Rattle.hba_fbs.specs.{declared.hearing.Heard.Heard, Hearing.{quietly, signing}, Posting.is_signature, Status.after_reset, Views.DeviceView}
use Rattle.hba_laws.specs.{Client.own, History.Transfer}

-- ---- joined

-- what the history has issued in a slot stands there
pub record IsThere (own : DeviceSlots) (s : ℕ) (t : Transfer) : Type 0 where
  pub issue : Issue
  pub there : own_issue own s ≡ Some issue
  pub work : t.work ≡ issue.work

-- ---- anew

-- a FIS that bears a signature
pub record IsSigned (r : Result Fis FisFault) : Type 0 where
  pub frame : List ℕ
  pub is : r ≡ Ok (view.RegD2H frame)
  pub signature : is_signature frame ≡ true

-- what the port makes of a signature while the device is in reset
abbrev pub reset_by : DeviceView → List ℕ → Heard
reset_by v f = signing f (quietly (after_reset v.state (field D2h Status f) (field D2h table.Error f)) happening.Nothing)
