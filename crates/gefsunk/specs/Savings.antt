-- What the calls do that save a machine and restore it.
use Rattle.std.specs.Prelude.{◌≡◌, ℕ, ◌≤◌, ◌<◌, List, length, Option, Some, None}
use Rattle.saved_state.specs.Bytes.{AreWords, bytes_of}
use Rattle.ahci_machine.specs.{Saved.machine_words, States.MachineState, Streams.stream_of, declared.state.StateError.StateError}
use Rattle.ahci_machine.specs.declared.state.StateError.TheVariants as fault
use Rattle.gefsunk.specs.declared.{kept.Kept.Kept, status.Status.Status}
use Rattle.gefsunk.specs.declared.kept.Kept.TheVariants as kept
use Rattle.gefsunk.specs.declared.status.Status.TheVariants as status

abbrev pub state_fault : StateError → Status
state_fault fault.OutOfMemory = status.NoMemory
state_fault fault.NotAMachine = status.NotAState
state_fault fault.OtherVersion = status.OtherVersion
state_fault other = status.BadState

abbrev pub state_of : MachineState → List ℕ
state_of m = bytes_of (stream_of m)

-- the machine keeps to the rules of its parts, and its words have 64 bits each: then its state is that of no other machine
abbrev pub IsKept : MachineState → Type 0
IsKept m = machine_words.keeps m × AreWords (stream_of m)

abbrev pub SizeRule : MachineState → Status → ℕ → Type 0
SizeRule m status.Done len = len ≡ length (state_of m)
SizeRule m status.NoMemory len = Unit {0}
SizeRule m _ len = ⊥

abbrev pub SaveRule : MachineState → (room : ℕ) → Status → List ℕ → Type 0
SaveRule m room status.Done got = (got ≡ state_of m) × (length got ≤ room) × IsKept m
SaveRule m room status.TooShort got = room < length (state_of m)
SaveRule m room status.NoMemory got = Unit {0}
SaveRule m room _ got = ⊥

-- the handle has a machine whose state these bytes are
pub record HasState (bytes : List ℕ) (now : Option Kept) : Type 0 where
  pub machine : MachineState
  pub there : now ≡ Some (kept.Machine machine)
  pub is : bytes ≡ state_of machine
  pub keeps : IsKept machine

-- they are the state of no machine that was saved
abbrev pub IsNoState : List ℕ → Type 0
IsNoState bytes = (m : MachineState) → IsKept m → bytes ≡ state_of m → ⊥

abbrev pub RestoresMachine : Option Kept → List ℕ → Status → Option Kept → Type 0
RestoresMachine (Some old) bytes answer new = (answer ≡ status.Open) × (new ≡ Some old)
RestoresMachine None bytes status.Done new = HasState bytes new
RestoresMachine None bytes status.NoMemory new = new ≡ None
RestoresMachine None bytes status.NotAState new = (new ≡ None) × IsNoState bytes
RestoresMachine None bytes status.OtherVersion new = (new ≡ None) × IsNoState bytes
RestoresMachine None bytes status.BadState new = (new ≡ None) × IsNoState bytes
RestoresMachine None bytes _ new = ⊥
