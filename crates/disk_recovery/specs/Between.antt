-- The words in which lemmas are stated that proofs of other crates use (`proofs/Door.antt`), and the words that these need.
-- No clause says them.
use Rattle.std.specs.Prelude.{List, None, Some, ℕ, ◌∷◌, ◌≡◌, ◌⊎◌, []}
use Rattle.hba_fbs.specs.{declared.report.TakeReport.TakeReport, Taking.port_of, Views.{Port, view_of}}
use Rattle.hba_laws.specs.{Client.{Touches, own}, Delivering.touches_after, History.{History, Transfer, issued}, Hosts.{Host, HostEvent, Runs}}
use Rattle.disk_model.specs.Ledger.{Ledger}
use Rattle.disk_simulation.specs.{Calm.AreCalm, Elsewhere.IsElsewhere, Same.SlotCommand}
use Rattle.hba_driver.specs.Steady.{Issues}

-- ---- honest

-- each of these events is none of the disk's, or issues for it
abbrev pub AreAway : (n slot : ℕ) → (old new : Host) → (events : List HostEvent) → Runs old events new → Type 0
AreAway n slot old new [] run = Unit {0}
AreAway n slot old new (e ∷ events) run = (IsElsewhere n old e ⊎ Issues n slot old e) × AreAway n slot run.0 new events run.2

-- what is issued is new in the slot, with its command, or was issued before
abbrev pub IsNewOrOld : (slot : ℕ) → SlotCommand → (commands next : ℕ → SlotCommand) → (before after : History) → Type 0
IsNewOrOld slot c commands next before after =
    (s : ℕ) (t : Transfer) → issued s after ≡ Some t → ((s ≡ slot) × (next s ≡ c)) ⊎ ((issued s before ≡ Some t) × (next s ≡ commands s))

-- the turns are calm for the device, with new commands in its slots, of which each is the one of this slot or was
-- there before
pub record CalmEnds (n slot : ℕ) (k : Ledger) (c : SlotCommand) (commands : ℕ → SlotCommand) (old new : Host) (events : List HostEvent) (run : Runs old events new) (past : Touches) : Type 0 where
  pub next : ℕ → SlotCommand
  pub calm : AreCalm n k commands old new events run next
  pub fresh : IsNewOrOld slot c commands next (own n past) (own n (touches_after past old new events run))

-- ---- both ends

-- no fault of the device stands
abbrev pub IsUnfaulted : ℕ → Port → Type 0
IsUnfaulted n port = (view_of n port).fault ≡ None

-- what is taken of the device is heard with no fault
abbrev pub AreUnfaulted : ℕ → List (List ℕ × TakeReport) → Type 0
AreUnfaulted n [] = Unit {0}
AreUnfaulted n (t ∷ taken) = (port_of t.0 ≡ n → t.1.fault ≡ None) × AreUnfaulted n taken
