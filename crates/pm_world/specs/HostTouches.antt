-- A host that came from its opening over turns, and what was touched in them, turn by turn: the
-- events of its port and memory, of which each device has its own (AHCI 1.3.1, chapters 5 and 9).
-- What a turn's events are, and that they serve, is cited from `hba_driver` (specs/Events.antt,
-- Served.antt).
use Rattle.std.specs.Prelude.{ℕ, List, [], ◌∷◌, ◌++◌}
use Rattle.host_memory.specs.Memory.{zeroed}
use Rattle.hba_laws.specs.{Client.Touches, Delivering.touches_after}
use Rattle.hba_driver.specs.{Events.{events_over, opening_host, shared_by}, HostTurns.{DoesAll, Host, HostTurn}, Served.RunServes}

-- the host beside a memory of this many bytes came here over these turns, with these touches
pub data AreTouched (len : ℕ) : List HostTurn → Host → Touches → Type 0 where
  opens : AreTouched len [] (opening_host 0 (zeroed len)) []
  goes : (turns : List HostTurn) (turn : HostTurn) (old new : Host) (touches : Touches)
      (run : DoesAll old (turn ∷ []) new) (serves : RunServes old new (turn ∷ []) run touches)
      → AreTouched len turns old touches
      → AreTouched len (turns ++ turn ∷ []) new
      (touches_after touches (shared_by old) (shared_by new)
      (events_over old new (turn ∷ []) run) serves.runs)
