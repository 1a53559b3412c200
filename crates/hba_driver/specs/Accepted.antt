-- The port takes every write of the driver. In no tick of a run from an opening is a register missing or
-- locked or a slot busy, and each command that is issued is in memory as its slot needs it (AHCI 1.3.1,
-- section 3.3, port registers, 5.5, how commands are issued, and chapter 9).
use Rattle.std.specs.Prelude.{ℕ, ◌≡◌, true, List, [], ◌∷◌, None}
use Rattle.host_memory.specs.Memory.{IsHostMemory, Memory}
use Rattle.hba_fbs.specs.{Views.Port, Writing.write_refusal}
use Rattle.hba_driver.specs.{declared.{effect.Effect.Effect, mode.Mode.Mode}, Effects.ActsAll, Events.opening_host_in}
use Rattle.hba_driver.specs.{HostTurns.{Does, DoesAll, Host, HostTurn, Ticked, sight_in}, Ticks.effects}
use Rattle.hba_driver.specs.declared.effect.Effect.TheVariants as effect

-- a write is to a register that exists, and is not refused
abbrev pub IsAccepted : Effect → Port → Memory → Type 0
IsAccepted (effect.Writes offset value) port memory = write_refusal port memory offset value ≡ None
IsAccepted e port memory = Unit {0}

-- each of these effects is accepted, with port and memory as they are before it
unfoldable pub AreAccepted : (es : List Effect) (old : Port) (before : Memory) (new : Port) (after : Memory)
    → ActsAll es old before new after → Type 0
unfolding ActsAll
AreAccepted [] old before new after acts = Unit {0}
AreAccepted (e ∷ es) old before new after acts =
    IsAccepted e old before × AreAccepted es acts.0 acts.1 new after acts.4

-- each effect of a tick is accepted
abbrev pub TurnAccepts : (old : Host) (turn : HostTurn) (new : Host) → Does old turn new → Type 0
TurnAccepts old (Ticked acted) new does =
    AreAccepted (effects (sight_in old) old.driver) old.port old.memory new.port new.memory does.does
TurnAccepts old turn new does = Unit {0}

abbrev pub TurnsAccept : (old new : Host) (turns : List HostTurn) → DoesAll old turns new → Type 0
TurnsAccept old new [] run = Unit {0}
TurnsAccept old new (turn ∷ turns) run = TurnAccepts old turn run.0 run.1 × TurnsAccept run.0 new turns run.2

-- over every list of turns from an opening, in each mode
abbrev pub WritesAreAccepted : Type 0
WritesAreAccepted =
    (mode : Mode) (given : ℕ) (start : Memory) → IsHostMemory start → (turns : List HostTurn) (h : Host)
    (run : DoesAll (opening_host_in mode given start) turns h)
    → TurnsAccept (opening_host_in mode given start) h turns run
