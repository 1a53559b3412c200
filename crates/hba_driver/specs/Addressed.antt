-- Each frame that goes out of a host port has the PM Port of its device (Serial ATA 3.x, 10.5, FIS types, and
-- 16.3, port multiplier: PM Port; AHCI 1.3.1, 9.3, FIS-based Switching).
use Rattle.std.specs.Prelude.{ℕ, ◌≡◌, ◌%◌, true, List, [], ◌∷◌, Some, slice_index}
use Rattle.host_memory.specs.Memory.{IsHostMemory, Memory}
use Rattle.hba_driver.specs.{declared.mode.Mode.Mode, Events.opening_host_in, HostTurns.{DoesAll, Host, HostTurn, Pushed}}

-- a frame that goes out has the port of its stamp
abbrev pub IsAddressed : HostTurn → Type 0
IsAddressed (Pushed (Some frame)) = slice_index frame.bytes 1 % 16 ≡ frame.stamp.port
IsAddressed turn = Unit {0}

abbrev pub AreAddressed : List HostTurn → Type 0
AreAddressed [] = Unit {0}
AreAddressed (turn ∷ turns) = IsAddressed turn × AreAddressed turns

-- over every list of turns of the host from its opening, in each mode
abbrev pub FramesAreAddressed : Type 0
FramesAreAddressed =
    (mode : Mode) (given : ℕ) (start : Memory) → IsHostMemory start → (turns : List HostTurn) (h : Host)
    → DoesAll (opening_host_in mode given start) turns h → AreAddressed turns
