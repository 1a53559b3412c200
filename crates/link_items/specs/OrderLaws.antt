-- What can come next on a link, and the few numbers that decide it.
use Rattle.std.specs.{Prelude.{◌≡◌, ◌↔◌, ℕ, ◌+◌, ◌<◌, ◌≤◌, List, [], ◌∷◌, ◌++◌, length, map, slice_index, All}, List.range_with_len}
use Rattle.fis_view.specs.Frames.{Stamped}
use Rattle.multiplier.specs.Orders.{of_connection, of_port, control_port, IsNextOfDevice, InDeviceOrder, IsNextAtHost, InStampedOrder, IsWithin}

-- ---- a device

-- one more FIS is in order exactly where it can follow the others
abbrev pub DeviceGoesOn : Type 0
DeviceGoesOn = (fises : List Stamped) (f : Stamped)
    → InDeviceOrder (fises ++ f ∷ []) ↔ (InDeviceOrder fises × IsNextOfDevice fises f)

-- the connection of the device, where none of its FISes is of a later one, and the number of its next FIS
pub record IsAt (fises : List Stamped) (conn number : ℕ) : Type 0 where
  pub highest : All (λ g. g.stamp.conn ≤ conn) fises
  pub next : number ≡ length (of_connection conn fises)

-- these two numbers decide the next FIS, and are updated with it; on a new connection the numbers start at 0
pub record DeviceCounts : Type 0 where
  pub starts : (conn : ℕ) → IsAt [] conn 0
  pub next : (fises : List Stamped) (f : Stamped) → IsAt fises f.stamp.conn f.stamp.number
      → IsNextOfDevice fises f
  pub goes_on : (fises : List Stamped) (f : Stamped) → IsAt fises f.stamp.conn f.stamp.number
      → IsAt (fises ++ f ∷ []) f.stamp.conn (f.stamp.number + 1)
  pub comes : (fises : List Stamped) (conn number later : ℕ) → IsAt fises conn number → conn < later
      → IsAt fises later 0

-- the numbers of each connection, in order, are 0, 1, 2, .. without a gap
abbrev pub DeviceNumbers : Type 0
DeviceNumbers = (fises : List Stamped) (c : ℕ) → InDeviceOrder fises
    → map (λ f. f.stamp.number) (of_connection c fises) ≡ range_with_len 0 (length (of_connection c fises))

-- ---- the way to the host

abbrev pub HostGoesOn : Type 0
HostGoesOn = (fises : List Stamped) (f : Stamped)
    → InStampedOrder (fises ++ f ∷ [])
    ↔ (InStampedOrder fises × (f.stamp.port < control_port → IsNextAtHost fises f))

-- Two such bounds for each port decide which FIS can come next, except for its number, and are updated with
-- it.
pub record HostBounds : Type 0 where
  pub starts : (n conn gone : ℕ) → IsWithin [] n conn gone
  pub rises : (fises : List Stamped) (n conn gone later more : ℕ) → IsWithin fises n conn gone → conn ≤ later
      → gone ≤ more → IsWithin fises n later more
  pub next : (fises : List Stamped) (f : Stamped) (conn gone : ℕ) → IsWithin fises f.stamp.port conn gone
      → conn ≤ f.stamp.conn → gone < f.stamp.conn
      → f.stamp.number ≡ length (of_port f.stamp.port f.stamp.conn fises) → IsNextAtHost fises f
  pub goes_on : (fises : List Stamped) (f : Stamped) (n conn gone : ℕ) → IsWithin fises n conn gone
      → (f.stamp.port ≡ n → f.stamp.conn ≤ conn)
      → (f.stamp.port ≡ control_port → slice_index f.stamp.shown n ≤ gone)
      → IsWithin (fises ++ f ∷ []) n conn gone

-- the numbers of each connection of a device port, in order, are 0, 1, 2, .. without a gap
abbrev pub HostNumbers : Type 0
HostNumbers = (fises : List Stamped) (n c : ℕ) → InStampedOrder fises → n < control_port
    → map (λ f. f.stamp.number) (of_port n c fises) ≡ range_with_len 0 (length (of_port n c fises))
