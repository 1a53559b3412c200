-- What goes up is in stamped order, if what was taken from each device is in order. The stamps are our own.
use Rattle.std.specs.{Prelude.{◌≡◌, ℕ, ◌<◌, ◌==◌, false, if◌then◌else◌, List, [], ◌∷◌, ◌++◌, map, Ok}, List.flat_map, Option.option_to_list}
use Rattle.fis_view.specs.Frames.{Stamped}
use Rattle.pm_ports.specs.Port.{is_gone}
use Rattle.multiplier.specs.{Orders.{InDeviceOrder, InStampedOrder, IsWithin, of_connection}, State.{PmState, IsSound, port_at, rising}, Passing.Call}
use Rattle.multiplier.specs.Passing.{FromDevice, DoesAll, Past, all_past, held_of, of_conn}

-- the frame that a call took from the device at port n, whether it was held or dropped
abbrev pub taken_by : ℕ → Call → List Stamped
taken_by n (FromDevice m frame (Ok offered)) = if m == n then frame ∷ [] else []
taken_by n _ = []

abbrev pub taken_of : ℕ → List Call → List Stamped
taken_of n calls = flat_map (taken_by n) calls

-- What went up is in stamped order, and what else is known, where these frames were taken from the device at
-- each port.
pub record IsStamped (taken : ℕ → List Stamped) (past : Past) (pm : PmState) : Type 0 where
  pub order : InStampedOrder past.up
  -- none is of a connection above the last of its port, and none shows a removal above the highest recorded
  pub bounds : (n : ℕ) → n < 15 → IsWithin past.up n (port_at pm n).last (port_at pm n).gone
  -- for a connection that is not gone, what went up and then what its port holds is what was taken, as it
  -- goes up
  pub whole : (n c : ℕ) → n < 15 → is_gone (port_at pm n) c ≡ false
      → of_conn n c past.up ++ held_of n c pm ≡ map (rising n) (of_connection c (taken n))

-- If what was taken from each device, before and by the calls, is in order, so is what goes up.
abbrev pub GoesUpStamped : (ℕ → List Stamped) → Past → PmState → List Call → PmState → Type 0
GoesUpStamped taken past old calls new =
    IsSound old → DoesAll past old calls new → IsStamped taken past old
    → ((n : ℕ) → n < 15 → InDeviceOrder (taken n ++ taken_of n calls))
    → IsStamped (λ n. taken n ++ taken_of n calls) (all_past past calls) new

-- The start: any sound multiplier that has given nothing. What its ports hold counts as taken before.
abbrev pub BeginsStamped : Past → PmState → Type 0
BeginsStamped past pm =
    IsSound pm → past.up ≡ [] → IsStamped (λ n. option_to_list (port_at pm n).up) past pm
