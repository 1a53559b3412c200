-- Writes that the driver issued keep their bytes. Issued reads lie beside them, and no client puts bytes into
-- them (AHCI 1.3.1, 4.2.3.3, Physical Region Descriptor Table, and 5.5, how commands are issued).
--
-- Cited from `hba_laws`: what holds for the bytes of issued writes (`HoldsWrites`, specs/Sent.antt).
use Rattle.std.specs.Prelude.{[], ◌∷◌}
use Rattle.hba_laws.specs.{Client.Touches, Delivering.touches_after, Sent.HoldsWrites}
use Rattle.hba_driver.specs.{declared.mode.Mode.Mode, Events.{IsSoundHostIn, events_over, shared_by}, HostTurns.{DoesAll, Host, HostTurn}}
use Rattle.hba_driver.specs.Served.{IsServed, RunServes}

-- This holds over each turn whose events serve what is issued.
abbrev pub TurnsHoldWrites : Type 0
TurnsHoldWrites =
    (mode : Mode) (old : Host) (turn : HostTurn) (new : Host) (run : DoesAll old (turn ∷ []) new)
    → IsSoundHostIn mode old → (past : Touches) → IsServed old.driver (shared_by old) past
    → (serves : RunServes old new (turn ∷ []) run past) → HoldsWrites past
    → HoldsWrites (touches_after past (shared_by old) (shared_by new)
    (events_over old new (turn ∷ []) run) serves.runs)
