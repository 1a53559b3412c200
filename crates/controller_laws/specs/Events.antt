-- What happens to a controller, one call after another: AHCI 1.3.1, sections 3 (accesses to registers), 4.2 and 5.3 (what it
-- reads of the guest) and 9.3 (frames of devices). The calls are those of `ahci_controller`, with what they answer.
use Rattle.std.specs.Prelude.{◌≡◌, ℕ, List, [], ◌∷◌, Option, Some, None}
use Rattle.fis_view.specs.Frames.{IsFrame}
use Rattle.slots.specs.Table.{IsTable}
use Rattle.hba_fbs.specs.Views.{IsCorePort}
use Rattle.hba_laws.specs.Cores.{HasBytes}
use Rattle.ahci_controller.specs.{Feeding.{Gathers, MissesData}, Fetching.{AnswersTo, Misses}, Next.{Turns, next_write, turn_to, written}}
use Rattle.ahci_controller.specs.{Rules.IsRuled, States.ControllerState, Taking.{Hears, hindrance}, Wide.{WritesAt, WritesWide}}
use Rattle.ahci_controller.specs.declared.{access.Width.Width, feeding.Fed.Fed, issuing.Supply.Supply, next.Next.Next, taking.Hindrance.Hindrance}
use Rattle.ahci_controller.specs.declared.{wide.WideWritten.WideWritten, writing.Written.Written}
use Rattle.ahci_controller.specs.declared.feeding.Fed.TheVariants as fed_answer
use Rattle.ahci_controller.specs.declared.taking.Took as taking

pub data Event : Type 0 where
  -- a value is written to all bits of the register at an offset
  Wrote : (offset value : ℕ) → (written : Written) → Event
  -- a value of this width is written at an offset
  WroteWide : (offset : ℕ) → (width : Width) → (value : ℕ) → (written : WideWritten) → Event
  -- these bytes are supplied for a want of a slot
  Supplied : (slot number : ℕ) → (bytes : List ℕ) → (supply : Supply) → Event
  -- what is wanted for a slot is not memory
  Missed : (slot number : ℕ) → (supply : Supply) → Event
  -- a frame is taken
  Took : (frame : List ℕ) → (took : taking.Took) → Event
  -- a frame is not taken
  Left : (frame : List ℕ) → (why : Hindrance) → Event
  -- what is next to do
  Turned : (next : Next) → Event
  -- what is next to be written to the guest, and nothing else
  Said : (write : Option Next) → Event
  -- the bytes that are wanted for Data to a device are in a frame of these bytes
  Gathered : (dev number : ℕ) → (frame : List ℕ) → (fed : Fed) → Event
  -- what is wanted for Data to a device is not memory
  NotThere : (dev number : ℕ) → (fed : Fed) → Event

-- the frame that goes has its header and as many bytes as were wanted
abbrev pub IsWhole : ControllerState → (dev : ℕ) → List ℕ → Fed → Type 0
IsWhole c dev frame (fed_answer.Goes message line) = HasBytes (turn_to c dev) frame
IsWhole c dev frame fed = Unit {0}

pub record Takes (old : ControllerState) (frame : List ℕ) (took : taking.Took) (new : ControllerState) : Type 0 where
  pub framed : IsFrame frame
  pub free : hindrance old ≡ None
  pub hears : Hears old frame took new

-- what each leaves: the contracts of the calls
abbrev pub Does : ControllerState → Event → ControllerState → Type 0
Does old (Wrote offset value written) new = WritesAt old offset value written new
Does old (WroteWide offset width value written) new = WritesWide old offset width value written new
Does old (Supplied slot number bytes supply) new = AnswersTo old slot number bytes supply new
Does old (Missed slot number supply) new = Misses old slot number supply new
Does old (Took frame took) new = Takes old frame took new
Does old (Left frame why) new = (hindrance old ≡ Some why) × (new ≡ old)
Does old (Turned next) new = Turns old next new
Does old (Said write) new = (write ≡ next_write old) × (new ≡ written old)
Does old (Gathered dev number frame fed) new = IsWhole old dev frame fed × Gathers old dev number fed new
Does old (NotThere dev number fed) new = MissesData old dev number fed new

-- what every controller keeps: `Controller::keeps_rules` hands it out
pub record IsController (c : ControllerState) : Type 0 where
  pub port : IsCorePort c.core
  pub slots : IsTable c.core.slots
  pub rules : IsRuled c

-- these events, one after another, and each controller between them keeps the rules of every one
abbrev pub Runs : ControllerState → List Event → ControllerState → Type 0
Runs old [] new = IsController old × (new ≡ old)
Runs old (event ∷ events) new =
    IsController old × ((next : ControllerState) × Does old event next × Runs next events new)
