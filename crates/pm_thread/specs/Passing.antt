-- What the lists of the worker's seats tell of each port, whatever its calls were.
use Rattle.std.specs.Prelude.{◌≡◌, ℕ, ◌<◌, false, List, ◌++◌, map}
use Rattle.fis_view.specs.Frames.{Stamped}
use Rattle.pm_ports.specs.Port.{is_gone}
use Rattle.ruled_links.specs.Lists.{IsPrefixOf}
use Rattle.multiplier.specs.{Orders.{InStampedOrder, of_connection}, State.{port_at, rising}, Passing.{held_of, of_conn}}
use Rattle.pm_thread.specs.Runs.{PmView, frames_at}

-- the FISes of connection c, as they go up from port n
abbrev pub risen : ℕ → ℕ → List Stamped → List Stamped
risen n c frames = map (rising n) (of_connection c frames)

pub record Passes (w : PmView) : Type 0 where
  -- what was sent to the host is in stamped order
  pub order : InStampedOrder w.host.sent
  -- for a connection whose removal is not recorded, what went up and then what the port holds is what
  -- was taken
  pub whole : (n c : ℕ) → n < 15 → is_gone (port_at w.pm n) c ≡ false
      → of_conn n c w.host.sent ++ held_of n c w.pm ≡ risen n c (frames_at w.ports n)
  -- for each connection, what went up is a beginning of what was taken
  pub begun : (n c : ℕ) → n < 15
      → IsPrefixOf (of_conn n c w.host.sent) (risen n c (frames_at w.ports n))
