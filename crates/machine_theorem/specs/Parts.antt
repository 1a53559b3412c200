-- What is written to the guest of a Data FIS, from the medium to its places (AHCI 1.3.1, 4.2.3.3, physical region descriptors, and 5.3.13,
-- a port takes a FIS).
use Rattle.std.specs.Prelude.{◌≡◌, ◌<◌, ◌≤◌, ◌+◌, ◌-◌, ℕ, Bool, true, false, List, drop, length, take, Some, None, IfSome}
use Rattle.fis_view.specs.Frames.{Stamped}
use Rattle.fan_out.specs.declared.fan_out.FanOut.{FanOut}
use Rattle.multiplier.specs.State.{pm_port}
use Rattle.block_command.specs.Laws.{Ledger}
use Rattle.guest_fetch.specs.declared.moves.Move.{Move}
use Rattle.ahci_controller.specs.declared.next.Next.TheVariants as next
use Rattle.ahci_controller.specs.{declared.taking.Took.Took, Taking.hindrance}
use Rattle.hba_fbs.specs.declared.report.Wrote.{Wrote}
use Rattle.controller_laws.specs.{Carrying.{AreNumbered, Carrying, IsOwnData, IsSaid, carrying_after, first_of, placed_of, said_of}, Places.IsPlaced}
use Rattle.controller_laws.specs.Sources.{Source, command_of, no_sources, sources_after, unmoved}
use Rattle.sata_disk_books.specs.Books.{AreNext}
use Rattle.ahci_machine.specs.{Registers.{lent_bytes, part_of}, States.{HasRules, IsOpeningMachine, MachineState}}
use Rattle.ahci_machine.specs.declared.act.Act.TheVariants as act
use Rattle.machine_laws.specs.{ControllerLaws.{ControllerRuns, RunsRuled, calls_in}, Deeds.{Deed, Does, Moved}, Rising.is_multiplier}
use Rattle.machine_theorem.specs.Origins.{IsSentIn}

-- The bytes of the FIS have the offsets in the command that the controller told of as it took the FIS, in order.
pub record AreInOrder (d : Carrying) (slot offset : ℕ) (m : Move) : Type 0 where
  pub own : slot ≡ d.wrote.slot
  pub behind : 4 ≤ m.from
  pub at : offset + 4 ≡ d.wrote.offset + m.from

-- The caller is told to write bytes to the guest as payload.
pub record IsBrought (old : MachineState) (deeds : List Deed) (now : MachineState) (run : RunsRuled old deeds now) (m : Move) (bytes : List ℕ)
    : Type 0 where
  -- They are bytes of a Data FIS that a device sent in this run.
  pub fis : Stamped
  pub sent : IsSentIn fis old deeds now run
  pub bytes_are : bytes ≡ part_of fis.bytes m.from m.len
  -- Each goes to the place that the table names for it, of the command that was supplied for the slot and issued there.
  pub placed : IsPlaced now.controller m
  pub runs : ControllerRuns old deeds now run
  pub supplied : placed.carried.slot < 32 → (source : Source)
      → (sources_after placed.carried.slot no_sources old.controller (calls_in old deeds now run) now.controller runs.calls).issued ≡ Some source
      → command_of source ≡ Some (unmoved placed.command)
  -- The FIS is the one that the controller took last.
  pub last : Carrying
  pub is_last : carrying_after None old.controller (calls_in old deeds now run) now.controller runs.calls ≡ Some last
  pub frame : last.frame ≡ fis.bytes
  pub order : AreNumbered last → AreInOrder last placed.carried.slot placed.carried.offset m

-- So it is at each such write, over every run from a machine that opens, whatever its guest, its devices and its media do.
abbrev pub PayloadIsBrought : Type 0
PayloadIsBrought = (ports : ℕ) (legacy : Bool) (old : MachineState) → IsOpeningMachine ports legacy old
    → (deeds : List Deed) (now : MachineState) (run : RunsRuled old deeds now) (m : Move) (new : MachineState)
    → Does now (Moved (act.Writes (next.Payload m))) new → IsBrought old deeds now run m (lent_bytes new)

-- Of a Data FIS that was taken, and is the last:
pub record IsCarried (old : MachineState) (deeds : List Deed) (now : MachineState) (run : RunsRuled old deeds now) (d : Carrying) : Type 0 where
  -- A device sent it in this run.
  pub fis : Stamped
  pub sent : IsSentIn fis old deeds now run
  pub frame : d.frame ≡ fis.bytes
  -- What the caller was told to write of it are its first bytes, each once, in order, each at its place.
  pub order : AreNumbered d → IsSaid now.controller d
  -- All that have a place, before the next FIS may be taken, unless the port was stopped meanwhile.
  pub all : AreNumbered d → hindrance now.controller ≡ None → d.cut ≡ false → said_of d ≡ first_of d (placed_of d)

-- So it is of each, over every such run.
abbrev pub PartsAreCarried : Type 0
PartsAreCarried = (ports : ℕ) (legacy : Bool) (old : MachineState) → IsOpeningMachine ports legacy old
    → (deeds : List Deed) (now : MachineState) (run : RunsRuled old deeds now) (runs : ControllerRuns old deeds now run) (d : Carrying)
    → carrying_after None old.controller (calls_in old deeds now run) now.controller runs.calls ≡ Some d → IsCarried old deeds now run d

-- A FIS that the controller takes brings bytes for a slot.
pub record IsOwn (old : MachineState) (deeds : List Deed) (now : MachineState) (run : RunsRuled old deeds now) (fan : FanOut) (fis : Stamped) (wrote : Wrote)
    : Type 0 where
  -- A device sent it in this run; behind a multiplier it is the one at the port that the PM Port names.
  pub sent : IsSentIn fis old deeds now run
  pub port : is_multiplier fan ≡ true → (fis.stamp.port < 15) × (pm_port fis ≡ fis.stamp.port)
  -- And that is the device that owns the command of the slot.
  pub own : IsOwnData now.controller fis.bytes wrote

-- So it is of each that it takes, over every such run.
abbrev pub PartsAreOwn : Type 0
PartsAreOwn = (ports : ℕ) (legacy : Bool) (old : MachineState) → IsOpeningMachine ports legacy old
    → (deeds : List Deed) (now : MachineState) (run : RunsRuled old deeds now) (took : Took) (new : MachineState)
    → (does : Does now (Moved (act.Takes took)) new) → HasRules new → IfSome took.brought (IsOwn old deeds now run new.fan does.does.frame)

-- What is written of a FIS whose bytes are the next ones that the caller gave: the bytes behind those that went before, and behind those of
-- the FIS that are not written by this.
abbrev pub BytesAreGiven : Type 0
BytesAreGiven = (l : Ledger) (fis : List ℕ) (from len : ℕ) → AreNext l (drop 4 fis) → 4 ≤ from
    → part_of fis from len ≡ take (length (part_of fis from len)) (drop (length l.sent + (from - 4)) l.given)
