-- What happens to a device, and what it may do next.
--
-- A device is known by three things: the plan that it was made with, the histories that its present state may
-- stand for, and what plan and history together allow it to send. No call changes the plan, and what may be
-- sent does not depend on the state. So no call can rewrite what the device may send.
use Rattle.std.specs.Prelude.{ℕ, ◌≡◌, List, [], ◌∷◌, ◌++◌}
use Rattle.disk_model.specs.declared.plan.DiskPlan.{DiskPlan}

-- one event of a device
pub data Happening : Type 0 where
  -- the device took these bytes as a FIS from the host
  Received : List ℕ → Happening
  -- the device gave these bytes as a FIS to the host
  Sent : List ℕ → Happening
  -- the device was plugged in
  Plugged : Happening
  -- the device was new, and its sectors are these bytes since
  Loaded : List ℕ → Happening

-- the FISes that were sent, in order
abbrev pub sent_in : List Happening → List (List ℕ)
sent_in [] = []
sent_in (Received bytes ∷ later) = sent_in later
sent_in (Sent bytes ∷ later) = bytes ∷ sent_in later
sent_in (Plugged ∷ later) = sent_in later
sent_in (Loaded bytes ∷ later) = sent_in later

-- what a device was made with
pub data Plan : Type 0 where
  -- a script: the frames to send, in order
  Script : List (List ℕ) → Plan
  -- a disk's plan, and its size in sectors of 512 bytes
  DiskOf : DiskPlan → ℕ → Plan

-- The plan stays. For each history that the old state may stand for, the new state may stand for that history
-- with this event at its end.
pub record GoesOn {S : Type 0} (plan_of : S → Plan) (StandsFor : S → List Happening → Type 0) (old : S)
    (event : Happening) (new : S) : Type 0 where
  pub plan : plan_of new ≡ plan_of old
  pub goes_on : (history : List Happening) → StandsFor old history → StandsFor new (history ++ event ∷ [])

-- The device sends these bytes. Its plan allows them after each history that the old state may stand for.
pub record SendsNext {S : Type 0} (plan_of : S → Plan) (StandsFor : S → List Happening → Type 0)
    (MaySend : Plan → List Happening → List ℕ → Type 0) (old : S) (bytes : List ℕ) (new : S) : Type 0 where
  pub plan : plan_of new ≡ plan_of old
  pub allowed : (history : List Happening) → StandsFor old history → MaySend (plan_of old) history bytes
  pub goes_on : (history : List Happening) → StandsFor old history
      → StandsFor new (history ++ Sent bytes ∷ [])

-- The plan allows the device to send nothing now.
abbrev pub IsSilent : {S : Type 0} → (S → Plan) → (S → List Happening → Type 0)
    → (Plan → List Happening → List ℕ → Type 0) → S → Type 0
IsSilent plan_of StandsFor MaySend now = (history : List Happening) (bytes : List ℕ) → StandsFor now history
    → MaySend (plan_of now) history bytes → ⊥
