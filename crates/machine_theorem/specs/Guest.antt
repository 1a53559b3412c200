-- What a disk hears is of its guest: the FIS of a command in a slot, or Data with bytes that were supplied for it (AHCI 1.3.1, 5.3 and 9.3, what
-- a port sends; Serial ATA 3.x, 10.5, Register Host to Device and Data).
use Rattle.std.specs.Prelude.{◌≡◌, ◌<◌, ℕ, Bool, true, List, [], ◌∷◌, ◌++◌, drop, length}
use Rattle.fis_view.specs.Frames.{marked}
use Rattle.multiplier.specs.State.{pm_port}
use Rattle.ahci_controller.specs.declared.feeding.Fed.{Fed}
use Rattle.ahci_machine.specs.{Gathers.host_stamp, States.{IsOpeningMachine, MachineState}}
use Rattle.ahci_machine.specs.declared.act.Act.TheVariants as act
use Rattle.machine_laws.specs.{ControllerLaws.{RunsRuled, calls_in}, Deeds.{Deed, Does, Moved}, Feeding.came_in, Heard.{AllHeard, life_in, no_life}}
use Rattle.machine_laws.specs.Rising.{is_multiplier}
use Rattle.machine_theorem.specs.Commands.{IsSentFrom}

-- At a moment of the run a Data FIS went, whose payload is what came for it until then: the bytes that the caller supplied, in order, since it was
-- to be read for a device, as many as the slot's command was to have next.
pub record IsFed (old : MachineState) (deeds : List Deed) (dev : ℕ) (payload : List ℕ) : Type 0 where
  pub before : List Deed
  pub at : MachineState
  pub first : RunsRuled old before at
  pub fed : Fed
  pub new : MachineState
  pub does : Does at (Moved (act.Gathers dev fed)) new
  pub later : List Deed
  pub is : deeds ≡ before ++ Moved (act.Gathers dev fed) ∷ later
  pub low : dev < 16
  pub came : payload ≡ came_in dev [] old before at first
  pub long : length payload ≡ does.does.gathering.feed.len

-- The FIS of these bytes, which was heard at a port, is of the guest. Behind a multiplier it was for this port.
pub data IsOfGuest (old : MachineState) (deeds : List Deed) (now : MachineState) (run : RunsRuled old deeds now) (n : ℕ) (bytes : List ℕ) : Type 0 where
  IsOrdered : (dev slot : ℕ) (fis : List ℕ) → IsSentFrom old.controller (calls_in old deeds now run) dev slot fis → bytes ≡ marked fis 0
      → (is_multiplier now.fan ≡ true → pm_port (record { bytes = fis; stamp = host_stamp dev }) ≡ n) → IsOfGuest old deeds now run n bytes
  IsSupplied : (dev : ℕ) → IsFed old deeds dev (drop 4 bytes) → (is_multiplier now.fan ≡ true → dev ≡ n) → IsOfGuest old deeds now run n bytes

-- So is each FIS that a disk heard since it was put at its port, over every run from a machine that opens.
abbrev pub HeardIsOfGuest : Type 0
HeardIsOfGuest = (ports : ℕ) (legacy : Bool) (old : MachineState) → IsOpeningMachine ports legacy old
    → (deeds : List Deed) (now : MachineState) (run : RunsRuled old deeds now) (n : ℕ)
    → AllHeard (IsOfGuest old deeds now run n) (life_in n no_life old deeds now run).calls
