-- When the controller sends Data to a device: where the device asked for them, once for each time (AHCI 1.3.1, 5.3 and 9.3, what a port sends; Serial ATA 3.x,
-- 10.5, DMA Setup, DMA Activate and Data).
use Rattle.std.specs.Prelude.{ℕ, ◌≡◌, ◌<◌, ◌-◌, ◌==◌, List, [], ◌∷◌, ◌++◌, length, None, if◌then◌else◌}
use Rattle.fis_view.specs.Seen.{seen}
use Rattle.slots.specs.Slots.{context_of}
use Rattle.hba_fbs.specs.Taking.{port_of}
use Rattle.ahci_controller.specs.{States.ControllerState, declared.feeding.Fed.TheVariants.Goes}
use Rattle.controller_laws.specs.Events.{Event, Gathered, Runs, Took}
use Rattle.sata_disk_books.specs.Talks.{AreAsked, Down, Step, Up, quiet_talk, sign_of}
use Rattle.machine_theorem.specs.Following.{AllHeardWell}

-- what goes between a device and the controller by a call
abbrev pub event_steps : (n : ℕ) → Event → List Step
event_steps n (Took frame took) = if port_of frame == n then Up (sign_of (seen frame)) ∷ [] else []
event_steps n (Gathered dev number frame (Goes message line)) = if dev == n then Down (length frame - 4) ∷ [] else []
event_steps n event = []

abbrev pub events_steps : (n : ℕ) → List Event → List Step
events_steps n [] = []
events_steps n (event ∷ later) = event_steps n event ++ events_steps n later

-- Over each stretch of calls that begins while nothing is set up for a device, and in which its FISes are heard and nothing is wrong with them, Data go to it
-- as it asked for them.
abbrev pub DataGoAsAsked : Type 0
DataGoAsAsked = (n : ℕ) → n < 16 → (old new : ControllerState) (events : List Event) (run : Runs old events new) → context_of old.core.slots n ≡ None
    → AllHeardWell n old events new run → AreAsked quiet_talk (events_steps n events)
