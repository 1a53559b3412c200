-- What a caller knows of each of its calls.
use Rattle.std.specs.Prelude.{◌≡◌, ◌<◌, ◌==◌, ℕ, true, false, List, [], ◌∷◌, Option}
use Rattle.block_disk.specs.Table.{is_under_way}
use Rattle.block_queue.specs.Line.{command_at}
use Rattle.fan_out.specs.FanOuts.{port_count}
use Rattle.sata_disk.specs.State.{DiskState, commands}
use Rattle.ahci_machine.specs.{States.{MachineState, bay_at}, declared.bay.Unit.TheVariants.Disk}
use Rattle.machine_laws.specs.{ControllerLaws.{ControllerHasLaws, ControllerRuns, HasLaws, RunsAreCalls, RunsRuled, calls_in}, Controllers.GathersDue}
use Rattle.machine_laws.specs.{Deeds.{Deed, Moved, Unlent}, Disks.AreReached, Rest.WaitsFor, Lent.{FramesAreHeld, HoldsFrame, last_taken}}

-- each disk goes on to be one that calls of its own led to
abbrev pub Keeps : MachineState → MachineState → Type 0
Keeps old new = AreReached old → AreReached new

-- what is at another port stays
abbrev pub KeepsOthers : (port : ℕ) → MachineState → MachineState → Type 0
KeepsOthers port old new = (other : ℕ) → (port == other) ≡ false → bay_at new other ≡ bay_at old other

-- each command that is under way at a disk waits for somebody
abbrev pub AllWait : MachineState → Type 0
AllWait m = (port : ℕ) (d : DiskState) → port < port_count m.fan → (bay_at m port).unit ≡ Disk d
    → (place : ℕ) → place < 33 → is_under_way (command_at (commands d) place) ≡ true → WaitsFor m port d

-- ---- the controller

-- the laws, as `machine_laws` has them
pub record Laws : Type 0 where
  pub runs : RunsAreCalls
  pub have : ControllerHasLaws
  pub held : FramesAreHeld

-- a run of the machine is one of its controller, which has its laws
pub record IsLawful (old : MachineState) (deeds : List Deed) (new : MachineState) (run : RunsRuled old deeds new) : Type 0 where
  pub runs : ControllerRuns old deeds new run
  pub laws : HasLaws old (calls_in old deeds new run) new runs.calls

-- what was done is such a run, where what the machine gathered before was due
pub record KeepsLaws (old : MachineState) (deeds : List Deed) (new : MachineState) : Type 0 where
  pub run : RunsRuled old deeds new
  pub lawful : GathersDue old → IsLawful old deeds new run
  -- the machine goes on to have the frame of which something is to be written to the guest
  pub held : (last : Option (List ℕ)) → HoldsFrame old last → HoldsFrame new (last_taken last (calls_in old deeds new run))

-- the machine's own moves alone
abbrev pub AreMoves : List Deed → Type 0
AreMoves [] = Unit {0}
AreMoves (Moved act ∷ later) = AreMoves later
AreMoves (deed ∷ later) = ⊥

pub record KeepsMoves (old new : MachineState) : Type 0 where
  pub deeds : List Deed
  pub moves : AreMoves deeds
  pub keeps : KeepsLaws old (Unlent ∷ deeds) new
