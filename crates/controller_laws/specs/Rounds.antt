-- How long a command waits that may go, over a run: AHCI 1.3.1, 5.3 (a port goes over its slots in a circle).
use Rattle.std.specs.Prelude.{◌≡◌, ◌≢◌, ◌<◌, ◌≤◌, ℕ, ◌+◌, true, List, [], ◌∷◌}
use Rattle.slots.specs.Slots.{has_bit}
use Rattle.hba_fbs.specs.Choosing.{due_slots}
use Rattle.ahci_controller.specs.{States.ControllerState, declared.next.Next.Next}
use Rattle.ahci_controller.specs.declared.next.Next.TheVariants as next_step
use Rattle.controller_laws.specs.Events.{Event, Runs, Turned}

-- if a command goes, that of slot s may go too, and another one goes
abbrev pub IsPassed : ℕ → ControllerState → Next → Type 0
IsPassed s c (next_step.Order dev slot fis) = (has_bit (due_slots c.core) s ≡ true) × (slot ≢ s)
IsPassed s c next = Unit {0}

-- so it is at each command that goes, whatever else happens in between
abbrev pub Waits : (s : ℕ) → (old : ControllerState) → (events : List Event) → (new : ControllerState) → Runs old events new
    → Type 0
Waits s old [] new run = Unit {0}
Waits s old (Turned next ∷ events) new run = IsPassed s old next × Waits s run.1.0 events new run.1.2
Waits s old (event ∷ events) new run = Waits s run.1.0 events new run.1.2

abbrev pub goes : Next → ℕ
goes (next_step.Order dev slot fis) = 1
goes next = 0

-- how many commands go
abbrev pub orders_in : List Event → ℕ
orders_in [] = 0
orders_in (Turned next ∷ events) = goes next + orders_in events
orders_in (event ∷ events) = orders_in events

-- A command that may go waits for at most 31 others.
abbrev pub CommandsComeRound : Type 0
CommandsComeRound =
    (old new : ControllerState) (events : List Event) (run : Runs old events new) (s : ℕ) → s < 32
    → Waits s old events new run → orders_in events ≤ 31
