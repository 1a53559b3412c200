-- Isolation at the ports: what is done at one port changes nothing at another (Serial ATA 3.x, 16.3).
use Rattle.std.specs.Prelude.{◌≡◌, ◌==◌, ℕ, Bool, false}
use Rattle.ahci_machine.specs.{States.{MachineState, bay_at}, declared.act.Act.Act}
use Rattle.ahci_machine.specs.declared.act.Act.TheVariants as act
use Rattle.machine_laws.specs.Deeds.{Deed, Does, Moved, Answered, Put, Plugged, Pulled, Removed, FrameTaken}

-- whether a move is one of a port
abbrev pub is_move_at : Act → (port : ℕ) → Bool
is_move_at (act.Begins n) port = n == port
is_move_at (act.Falls n) port = n == port
is_move_at (act.Hears n unheard) port = n == port
is_move_at (act.Points n) port = n == port
is_move_at (act.Drops n) port = n == port
is_move_at (act.Speaks n out) port = n == port
is_move_at (act.Starts n place) port = n == port
is_move_at (act.Asks id request) port = id.port == port
is_move_at other port = false

-- whether what happens is of a port
abbrev pub is_at : Deed → (port : ℕ) → Bool
is_at (Moved act) port = is_move_at act port
is_at (Answered id answer told) port = id.port == port
is_at (Put n unit told) port = n == port
is_at (Plugged n told) port = n == port
is_at (Pulled n told) port = n == port
is_at (Removed n told) port = n == port
is_at (FrameTaken n told) port = n == port
is_at other port = false

-- all else leaves what is there, with what it was given and what it has to do
abbrev pub PortsAreApart : Type 0
PortsAreApart = (old : MachineState) (deed : Deed) (new : MachineState) → Does old deed new
    → (port : ℕ) → is_at deed port ≡ false → bay_at new port ≡ bay_at old port
