-- The order in which FISes pass, by the stamps carried beside them for audit. Each FIS is judged by those
-- before it: its number is how many of them are of its connection. So the numbers of a connection are 0, 1,
-- 2, .. without a gap.
use Rattle.std.specs.Prelude.{◌≡◌, ℕ, ◌<◌, ◌≤◌, ◌==◌, ◌&&◌, List, ◌∷◌, ◌++◌, length, filter, slice_index, All}
use Rattle.fis_view.specs.Frames.{Stamped}

-- ---- what one device sends

-- the FISes of connection c, where all are of one device
abbrev pub of_connection : ℕ → List Stamped → List Stamped
of_connection c fises = filter (λ f. f.stamp.conn == c) fises

-- this FIS of a device can follow those: its connection is not below any of theirs, and its number is the
-- next one of its connection
pub record IsNextOfDevice (before : List Stamped) (f : Stamped) : Type 0 where
  pub connection : All (λ g. g.stamp.conn ≤ f.stamp.conn) before
  pub number : f.stamp.number ≡ length (of_connection f.stamp.conn before)

-- connections never fall, and the numbers of each are 0, 1, 2, .. without a gap
abbrev pub InDeviceOrder : List Stamped → Type 0
InDeviceOrder fises =
    (before rest : List Stamped) (f : Stamped) → before ++ f ∷ rest ≡ fises → IsNextOfDevice before f

-- ---- what goes up to the host

-- the port in the stamp of a frame of the control port
abbrev pub control_port : ℕ
control_port = 15

-- the FISes of connection c of port n
abbrev pub of_port : ℕ → ℕ → List Stamped → List Stamped
of_port n c fises = filter (λ f. f.stamp.port == n && f.stamp.conn == c) fises

-- none of them is of port n and of a connection above c
abbrev pub NoneAbove : ℕ → ℕ → List Stamped → Type 0
NoneAbove n c fises = All (λ g. g.stamp.port ≡ n → g.stamp.conn ≤ c) fises

-- none of them is of the control port and shows the removal of connection c of port n, or of a later one
abbrev pub NoneShown : ℕ → ℕ → List Stamped → Type 0
NoneShown n c fises = All (λ g. g.stamp.port ≡ control_port → slice_index g.stamp.shown n < c) fises

-- this FIS of a device port can follow those on the way to the host
pub record IsNextAtHost (before : List Stamped) (f : Stamped) : Type 0 where
  pub connection : NoneAbove f.stamp.port f.stamp.conn before
  pub present : NoneShown f.stamp.port f.stamp.conn before
  pub number : f.stamp.number ≡ length (of_port f.stamp.port f.stamp.conn before)

-- Stamped order. For each device port the connections never fall, and the numbers of each are 0, 1, 2, ..
-- without a gap. After a FIS of the control port that shows the removal of connection c of port n, no FIS of
-- n has a connection of c or less. The FISes of the control port have no order of their own.
abbrev pub InStampedOrder : List Stamped → Type 0
InStampedOrder fises =
    (before rest : List Stamped) (f : Stamped) → before ++ f ∷ rest ≡ fises → f.stamp.port < control_port
    → IsNextAtHost before f

-- Bounds for port n: no FIS is of a connection later than conn, and none shows a removal later than gone.
pub record IsWithin (fises : List Stamped) (n conn gone : ℕ) : Type 0 where
  pub highest : NoneAbove n conn fises
  pub shown : All (λ g. g.stamp.port ≡ control_port → slice_index g.stamp.shown n ≤ gone) fises
