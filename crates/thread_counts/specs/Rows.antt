-- The rows of counts of a run in threads.
use Rattle.std.specs.{Prelude.{◌≡◌, ℕ, zero, suc, ◌≤◌, if◌then◌else◌, List, [], ◌∷◌, ◌++◌, length, Some, None}, Option.ForSome}
use Rattle.fis_view.specs.Frames.{Stamped}
use Rattle.link_items.specs.declared.items.Presence.{Presence}
use Rattle.multiplier.specs.Orders.{of_connection, of_port}
use Rattle.pm_world.specs.{Counting.{AreSorted, row_of}, declared.counts.ConnCount.ConnCount}
use Rattle.disk_thread.specs.Runs.{AreTold, StationState, all_given, all_told, has_come}

-- a list of the device at port n; empty if there is no such port
abbrev pub at_place : {D A : Type 0} → (StationState D → List A) → List (StationState D) → ℕ → List A
at_place part [] n = []
at_place part (s ∷ disks) zero = part s
at_place part (s ∷ disks) (suc n) = at_place part disks n

-- what it gave
abbrev pub given_at : {D : Type 0} → List (StationState D) → ℕ → List Stamped
given_at disks n = at_place all_given disks n

-- the connections that came and went, as they were told
abbrev pub told_at : {D : Type 0} → List (StationState D) → ℕ → List Presence
told_at disks n = at_place all_told disks n

-- the row of connection c of port n, whose device gave these FISes: how many it sent on the
-- connection, and how many of them the host took
abbrev pub row_for : List Stamped → List Stamped → ℕ → ℕ → ConnCount
row_for given taken n c =
    record { port = n; conn = c; sent = length (of_connection c given); taken = length (of_port n c taken) }

-- There is a row for each connection of each port that came and for no other, with what was sent and
-- taken on it.
pub record AreCounted {D : Type 0} (rows : List ConnCount) (disks : List (StationState D))
    (taken : List Stamped) : Type 0 where
  pub sorted : AreSorted rows
  pub each : (n c : ℕ) → row_of n c rows ≡ (if has_come c (told_at disks n)
      then Some (row_for (given_at disks n) taken n c) else None)

-- in no row more was taken than sent
abbrev pub NoneAboveSent : List ConnCount → Type 0
NoneAboveSent rows = (n c : ℕ) → ForSome (row_of n c rows) (λ row. row.taken ≤ row.sent)

-- the rows of the first connections of one port, up to connection k
abbrev pub rows_on : (ℕ → ConnCount) → ℕ → List ConnCount
rows_on row zero = []
rows_on row (suc k) = rows_on row k ++ row (suc k) ∷ []

-- the rows of a device are added, one for each connection that came
pub record CountsAt {D : Type 0} (old : List ConnCount) (n : ℕ) (s : StationState D) (taken : List Stamped)
    (new : List ConnCount) : Type 0 where
  pub told : AreTold (all_told s) s.standing.conn
  pub added : new ≡ old ++ rows_on (row_for (all_given s) taken n) s.standing.conn
