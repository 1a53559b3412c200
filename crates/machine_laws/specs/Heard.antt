-- What a disk is and what it heard since it was put at its port: it goes by its own calls, and each FIS that it heard is one that the
-- controller sent (Serial ATA 3.x, 10.5, FISes; 16.3, frame transmission by a port multiplier).
use Rattle.std.specs.{Prelude.{◌≡◌, ◌⊎◌, ◌==◌, ℕ, Bool, true, if◌then◌else◌, List, [], ◌∷◌, ◌++◌, Option, Some, None, Result, Ok}, List.Contains}
use Rattle.fis_view.specs.Frames.{Stamped, marked}
use Rattle.multiplier.specs.State.{pm_port}
use Rattle.sata_disk.specs.State.{DiskState}
use Rattle.sata_disk_laws.specs.Calls.{AreCalls, Call, Hears, after_calls}
use Rattle.ahci_machine.specs.{States.{IsOpeningMachine, MachineState, bay_at}, declared.bay.Unit.{Unit as Inside, TheVariants.Disk}}
use Rattle.ahci_machine.specs.declared.ports.PortFault.{PortFault}
use Rattle.machine_laws.specs.{ControllerLaws.RunsRuled, Controllers.deed_calls, Deeds.{Deed, Put}, Disks.calls_at, Falling.sent_in}
use Rattle.machine_laws.specs.Rising.{is_multiplier}

-- ---- since it was put there

pub record Life : Type 0 where
  -- the disk that was put at a port last, as it was then
  pub first : Option DiskState
  -- and its calls since
  pub calls : List Call

abbrev pub no_life : Life
no_life = record { first = None; calls = [] }

-- a disk that is put there begins
abbrev pub put_in : Inside → Result (Unit {0}) (Inside × PortFault) → Life → Life
put_in (Disk d) (Ok x) was = record { first = Some d; calls = [] }
put_in unit told was = was

abbrev pub life_by : ℕ → MachineState → Deed → Life → Life
life_by n old (Put k unit told) was = if k == n then put_in unit told was else was
life_by n old deed was = record { first = was.first; calls = was.calls ++ calls_at old deed n }

abbrev pub life_in : ℕ → Life → (old : MachineState) → (deeds : List Deed) → (new : MachineState) → RunsRuled old deeds new → Life
life_in n was old [] new run = was
life_in n was old (deed ∷ later) new run = life_in n (life_by n old deed was) run.1.0 later new run.1.2

-- the disk that is there now is that one, after these calls
pub record HasLived (life : Life) (d : DiskState) : Type 0 where
  pub disk : DiskState
  pub first : life.first ≡ Some disk
  pub are : AreCalls disk life.calls
  pub is : d ≡ after_calls disk life.calls

-- So it is over every run from a machine that opens.
abbrev pub DisksHaveLived : Type 0
DisksHaveLived = (ports : ℕ) (legacy : Bool) (old : MachineState) → IsOpeningMachine ports legacy old
    → (deeds : List Deed) (now : MachineState) (run : RunsRuled old deeds now) (n : ℕ) (d : DiskState)
    → (bay_at now n).unit ≡ Disk d → HasLived (life_in n no_life old deeds now run) d

-- ---- what it heard

-- the controller sent this FIS by one of these deeds
abbrev pub IsSentOut : Stamped → (old : MachineState) → (deeds : List Deed) → (new : MachineState) → RunsRuled old deeds new → Type 0
IsSentOut f old [] new run = ⊥
IsSentOut f old (deed ∷ later) new run =
    Contains (sent_in (deed_calls old deed run.1.0 run.1.1)) f ⊎ IsSentOut f run.1.0 later new run.1.2

-- These are the bytes of such a FIS, with PM Port 0. Behind a multiplier its PM Port was that of the port at which it was heard.
pub record FellFrom (P : Stamped → Type 0) (many : Bool) (n : ℕ) (bytes : List ℕ) : Type 0 where
  pub frame : Stamped
  pub of : P frame
  pub is : bytes ≡ marked frame.bytes 0
  pub port : many ≡ true → pm_port frame ≡ n

-- it holds of the bytes of each FIS that is heard by these calls
abbrev pub AllHeard : (List ℕ → Type 0) → List Call → Type 0
AllHeard P [] = Unit {0}
AllHeard P (Hears bytes ∷ later) = P bytes × AllHeard P later
AllHeard P (other ∷ later) = AllHeard P later

-- Each FIS that a disk heard since it was put at its port is one that the controller sent, over every run from a machine that opens.
abbrev pub HeardWereSent : Type 0
HeardWereSent = (ports : ℕ) (legacy : Bool) (old : MachineState) → IsOpeningMachine ports legacy old
    → (deeds : List Deed) (now : MachineState) (run : RunsRuled old deeds now) (n : ℕ)
    → AllHeard (FellFrom (λ f. IsSentOut f old deeds now run) (is_multiplier now.fan) n) (life_in n no_life old deeds now run).calls
