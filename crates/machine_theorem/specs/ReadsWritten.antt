-- Each byte of a queued read that the guest sees completed was written before, at the place that the table of the slot's command names for it (AHCI 1.3.1,
-- 3.3.13, PxSACT, 4.2.3.3, physical region descriptors, and 5.3.13, a port takes a FIS).
use Rattle.std.specs.Prelude.{ℕ, ◌≡◌, ◌<◌, ◌-◌, Bool, List, [], ◌∷◌, ◌++◌, drop, slice_get, Some}
use Rattle.guest_fetch.specs.{Commands.Fetched, Places.{named, place, single, singles}, declared.moves.Move.Move}
use Rattle.slots.specs.Slots.{Issue}
use Rattle.ahci_controller.specs.States.{kept}
use Rattle.controller_laws.specs.{Carrying.moves_said, Events.Event, Sources.{Source, command_of, no_sources, sources_after, unmoved}}
use Rattle.controller_laws.specs.Events as call
use Rattle.ahci_machine.specs.States.{IsOpeningMachine, MachineState}
use Rattle.machine_laws.specs.{ControllerLaws.{ControllerRuns, RunsRuled, calls_in}, Deeds.Deed}
use Rattle.machine_theorem.specs.Brought.{ByteIsBrought, IsReadDone}

-- what the caller is told to write of payload by some calls, in order
abbrev pub moves_of : Event → List Move
moves_of (call.Said write) = moves_said write
moves_of event = []

abbrev pub told_moves : List Event → List Move
told_moves [] = []
told_moves (event ∷ later) = moves_of event ++ told_moves later

-- by these no FIS is taken
abbrev pub NoneTaken : List Event → Type 0
NoneTaken [] = Unit {0}
NoneTaken (call.Took frame took ∷ later) = ⊥
NoneTaken (event ∷ later) = NoneTaken later

-- A FIS brought byte k of the read. Before the next FIS is taken, which at the latest is the one by which the bit falls, the caller was told to write all bytes
-- behind its header, each once, in order, at the place that the table names for its number in the command.
pub record IsWritten (dev slot k : ℕ) (at : MachineState) (deeds : List Deed) (now : MachineState) (run : RunsRuled at deeds now)
    (brought : ByteIsBrought dev slot k at deeds now run) : Type 0 where
  pub until : List Deed
  pub next : MachineState
  pub way : RunsRuled brought.after until next
  pub more : List Deed
  pub is : brought.later ≡ until ++ more
  pub none : NoneTaken (calls_in brought.after until next way)
  -- the command of the slot
  pub command : Fetched
  pub has : kept brought.mid.controller slot ≡ Some command
  pub written : singles brought.does.does.frame.bytes (told_moves (calls_in brought.after until next way))
      ≡ named command.table.entries brought.brings.wrote.offset (drop 4 brought.does.does.frame.bytes)
  -- so byte k goes to its place
  pub byte : ℕ
  pub byte_is : slice_get (drop 4 brought.does.does.frame.bytes) (k - brought.brings.wrote.offset) ≡ Some byte
  pub placed : slice_get (singles brought.does.does.frame.bytes (told_moves (calls_in brought.after until next way))) (k - brought.brings.wrote.offset)
      ≡ Some (single (place command.table.entries k) byte)

pub record ByteIsWritten (dev slot k : ℕ) (at : MachineState) (deeds : List Deed) (now : MachineState) (run : RunsRuled at deeds now) : Type 0 where
  pub brought : ByteIsBrought dev slot k at deeds now run
  pub written : IsWritten dev slot k at deeds now run brought
  -- The table is that of the command which was supplied for the last issue in the slot before the bit falls.
  pub supplied : (runs : ControllerRuns at deeds now run) (source : Source)
      → (sources_after slot no_sources at.controller (calls_in at deeds now run) now.controller runs.calls).issued ≡ Some source
      → command_of source ≡ Some (unmoved written.command)

-- So it is of each byte of each such read, over every run from a machine that opens, whatever its guest, its devices and its media do.
abbrev pub ReadsAreWritten : Type 0
ReadsAreWritten = (ports : ℕ) (legacy : Bool) (old : MachineState) → IsOpeningMachine ports legacy old
    → (deeds : List Deed) (now : MachineState) (run : RunsRuled old deeds now) (slot : ℕ) → slot < 32 → (issue : Issue) → IsReadDone now slot issue
    → (k : ℕ) → k < issue.work.len → ByteIsWritten issue.dev slot k old deeds now run
