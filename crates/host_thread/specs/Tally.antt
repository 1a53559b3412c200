-- How many FISes of each connection of each port were taken.
use Rattle.std.specs.{Prelude.{◌≡◌, ℕ, ◌+◌, ◌^◌, ◌<◌, ◌≤◌, ◌==◌, ◌&&◌, Bool, if◌then◌else◌, List, length}, List.sum_by}
use Rattle.fis_view.specs.Frames.{Stamped}
use Rattle.multiplier.specs.Orders.{control_port, of_port}
use Rattle.host_thread.specs.declared.tally.Row.{Row}

-- a port and a connection are these
abbrev pub are_these : (port conn n c : ℕ) → Bool
are_these port conn n c = port == n && conn == c

-- what a row counts of connection c of port n
abbrev pub counted_by : ℕ → ℕ → Row → ℕ
counted_by n c row = if are_these row.port row.conn n c then row.count else 0

-- what all rows count of it
abbrev pub count_on : ℕ → ℕ → List Row → ℕ
count_on n c rows = sum_by (counted_by n c) rows

-- one more FIS of this port and connection is counted, and none of any other
abbrev pub CountsOne : (port conn : ℕ) → List Row → List Row → Type 0
CountsOne port conn old new =
    (n c : ℕ) → count_on n c new ≡ count_on n c old + (if are_these port conn n c then 1 else 0)

abbrev pub no_row : Row
no_row = record { port = 0; conn = 0; count = 0 }

-- The rows count what was taken of each connection of a device port. No count is above 2^32, because
-- all numbers are below.
pub record AreCounted (rows : List Row) (taken : List Stamped) : Type 0 where
  pub counts : (n c : ℕ) → n < control_port → count_on n c rows ≡ length (of_port n c taken)
  pub few : (n c : ℕ) → count_on n c rows ≤ 2 ^ 32
