-- What a disk takes for a queued write is what the caller had supplied for the command of its own slot, each byte at its number (AHCI 1.3.1, 4.2.3.3 and 5.3;
-- Serial ATA 3.x, 10.5, Data, and 13.6, native command queuing). So it is over each stretch of a run that begins at rest, in which the guest keeps to the
-- standard (Identity), in which no FIS of the disk is lost or at fault, and the disk serves queued commands alone (OwnWrites).
use Rattle.std.specs.Prelude.{ℕ, ◌≡◌, ◌<◌, Bool, true, List, [], ◌++◌, drop, Some, Ok}
use Rattle.fis_view.specs.{Frames.Stamped, Seen.seen}
use Rattle.fis_view.specs.declared.view.Fis.TheVariants as view
use Rattle.slots.specs.declared.work.Kind.TheVariants.{QueuedWrite}
use Rattle.block_command.specs.Moments.{Moment}
use Rattle.block_queue.specs.Line.{command_at}
use Rattle.disk_pages.specs.declared.profile.Profile.{Profile}
use Rattle.sata_disk.specs.{Hearing.receives, State.{commands, new_disk}}
use Rattle.sata_disk_books.specs.InTurn.{AreOfQueue, AwaitsNone}
use Rattle.sata_disk_laws.specs.{Calls.{AreCalls, Call}, Laws.reached}
use Rattle.ahci_machine.specs.States.{IsOpeningMachine, MachineState, bay_at}
use Rattle.machine_laws.specs.{ControllerLaws.{RunsRuled, calls_in}, Deeds.Deed, Falling.{AllLast, HasLink}, Feeding.came_in}
use Rattle.machine_theorem.specs.{Brought.AllTakenWell, Fed.IsFedFor, Given.{IsGiven, IsWhole}, Identity.{AllKeep, IsAtRest, calls_of}}
use Rattle.machine_theorem.specs.{OwnSlots.{AllKeepLine, BeginsClear, NoneLost}, OwnWrites.{AreOwnData, WentForPlace}}

-- A disk is to hear this Data FIS for its command under the tag.
pub record IsSuppliedWrite (many : Bool) (n dev tag : ℕ) (old : MachineState) (before : List Deed) (at : MachineState) (first : RunsRuled old before at)
    (deeds : List Deed) (now : MachineState) (run : RunsRuled at deeds now) (p : Profile) (limit : ℕ) (base : List Call) (f : Stamped) : Type 0 where
  -- The command is the one that the guest had supplied for the slot of this number, as it was issued there last.
  pub moment : Moment
  pub is : command_at (commands (reached p limit (base ++ calls_of n at deeds now run))) tag ≡ Some moment
  pub given : IsGiven many n tag old before at first deeds now run p limit base moment.command
  -- The FIS went at a moment of the stretch, of a slot with a command of the device. If it was a queued write, this slot has the number of the tag, and
  -- the first byte has the number of those that came for the command before.
  pub went : WentForPlace n dev at deeds now p limit (base ++ calls_of n at deeds now run) tag f
  -- Then it was read for this slot from this byte on, and its payload is all that the caller had supplied since.
  pub whole : IsWhole old before at first went.before went.mid went.first
  pub fed : went.goes.issue.work.kind ≡ QueuedWrite
      → IsFedFor old (before ++ went.before) went.mid whole.all dev went.message went.line went.after went.does went.goes.slot went.goes.offset went.goes.len
  pub payload : went.goes.issue.work.kind ≡ QueuedWrite → drop 4 f.bytes ≡ came_in dev [] old (before ++ went.before) went.mid whole.all

-- Over each such stretch, where the disk was given a Data FIS, which it is to hear next, and its queued command under the tag awaits Data.
abbrev pub WritesAreAsSupplied : Type 0
WritesAreAsSupplied = (ports : ℕ) (legacy : Bool) (old : MachineState) → IsOpeningMachine ports legacy old
    → (before : List Deed) (at : MachineState) (first : RunsRuled old before at) (many : Bool) (n c dev tag : ℕ) → n < 15 → dev < 16 → tag < 32
    → (rest : IsAtRest many n tag old before at first) → BeginsClear n c dev at → (deeds : List Deed) (now : MachineState) (run : RunsRuled at deeds now)
    → HasLink deeds → AllLast n at deeds now run → AllKeep many n tag at deeds now run → AllKeepLine many n c dev at deeds now run
    → AllTakenWell dev at deeds now run → NoneLost dev (calls_in at deeds now run) → AreOwnData many n dev (calls_in at deeds now run)
    → (p : Profile) (limit : ℕ) (base : List Call) → AreCalls (new_disk p limit) base → rest.disk ≡ reached p limit base → AwaitsNone (reached p limit base)
    → AreOfQueue (reached p limit base) (calls_of n at deeds now run)
    → (f : Stamped) → (bay_at now n).down ≡ Some f → (v : List ℕ) → seen f.bytes ≡ Ok (view.Payload v)
    → receives (command_at (commands (reached p limit (base ++ calls_of n at deeds now run))) tag) ≡ true
    → IsSuppliedWrite many n dev tag old before at first deeds now run p limit base f
