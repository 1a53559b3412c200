-- A command that is not queued, and that the guest sees completed, moved as many bytes as its sectors have: the slot's command and the disk's are of
-- one length (AHCI 1.3.1, 3.3.14, PxCI, and 4.2.3.1, CFIS; ACS-3, 4, DMA and PIO data-out protocols, and 7, Count).
use Rattle.std.specs.Prelude.{ℕ, ◌≡◌, ◌<◌, Bool, true, false, not, List, None, Some}
use Rattle.fis_view.specs.Frames.{Stamped}
use Rattle.slots.specs.{Slots.{Issue, context_of, has_bit, is_pio, is_queued_issue, issue_at}, Work.is_read}
use Rattle.ahci_registers.specs.declared.register.Register.TheVariants.{PxCi, PxSact}
use Rattle.ahci_controller.specs.{Reading.shown, States.ControllerState, declared.taking.Took.Took}
use Rattle.ata_reply.specs.declared.reply.Reply.TheVariants as replies
use Rattle.block_command.specs.Moments.{is_verify, whole}
use Rattle.block_command.specs.declared.command.Command as block
use Rattle.controller_laws.specs.Events.{Event, Runs}
use Rattle.disk_pages.specs.declared.profile.Profile.{Profile}
use Rattle.sata_disk.specs.State.{new_disk}
use Rattle.sata_disk.specs.declared.out.Out.TheVariants as out
use Rattle.sata_disk_laws.specs.{Calls.{AreCalls, Call}, Laws.reached, Once.{host_of, new_host}}
use Rattle.ahci_machine.specs.States.{HasRules, IsOpeningMachine, MachineState}
use Rattle.ahci_machine.specs.declared.act.Act.TheVariants as act
use Rattle.machine_laws.specs.{ControllerLaws.{ControllerRuns, RunsRuled, calls_in}, Deeds.{Deed, Does, Moved}, Falling.{AllLast, HasLink}}
use Rattle.machine_theorem.specs.{Identity.calls_of, InTurn.{AreKeptOn, IsIdle, is_answering}, OwnSlots.{AllKeepLine, is_of}, PioIn.IsDoneThere}
use Rattle.machine_theorem.specs.Singles.{AllOfDevice, BeginsIdle}

-- what is issued moves as many bytes as the sectors of the command have, and the same way
pub record MovesSectors (issue : Issue) (c : block.Command) : Type 0 where
  pub len : issue.work.len ≡ whole c
  pub way : is_read issue.work.kind ≡ not c.write

-- The command whose bit falls is done as in PioIn. If its sectors were moved, it is so, and of a PIO data-in whose last Data end it, if these are of sectors,
-- too; READ VERIFY SECTOR(S) moves none.
pub record IsUnqueuedWhole (n dev slot : ℕ) (old : MachineState) (before : List Deed) (at : MachineState) (first : RunsRuled old before at)
    (deeds : List Deed) (now : MachineState) (run : RunsRuled at deeds now) (p : Profile) (limit : ℕ) (base : List Call) (issue : Issue) (f : Stamped)
    : Type 0 where
  pub done : IsDoneThere n dev slot old before at first deeds now run p limit base issue f
  pub moved : (said : done.said ≡ out.Of 32 replies.Done) → is_verify (done.slots said).page.command.protocol ≡ false
      → MovesSectors issue (done.slots said).page.command
  pub read : (other : is_answering f.bytes ≡ false) (count : ℕ) (is : done.said ≡ out.Data 32 count)
      → is_verify ((done.ends other).read count is).read.whole.was.command.protocol ≡ false
      → MovesSectors issue ((done.ends other).read count is).read.whole.was.command

-- So it is of each such command over each stretch as in PioIn.
abbrev pub UnqueuedAreWholeIf :
    (Waits : (dev : ℕ) → (old : ControllerState) → (events : List Event) → (now : ControllerState) → Runs old events now → Type 0) → Type 0
UnqueuedAreWholeIf Waits = (ports : ℕ) (legacy : Bool) (old : MachineState) → IsOpeningMachine ports legacy old
    → (before : List Deed) (at : MachineState) (first : RunsRuled old before at) (many : Bool) (n c dev slot : ℕ) → n < 15 → dev < 16
    → slot < 32 → (begins : BeginsIdle n c at) → (p : Profile) (limit : ℕ) (base : List Call) → AreCalls (new_disk p limit) base
    → begins.disk ≡ reached p limit base → IsIdle (host_of new_host base) → (deeds : List Deed) (now : MachineState) (run : RunsRuled at deeds now)
    → HasLink deeds → AllLast n at deeds now run → AllKeepLine many n c dev at deeds now run → AreKeptOn (calls_of n at deeds now run)
    → (runs : ControllerRuns at deeds now run) → AllOfDevice many n dev at.controller (calls_in at deeds now run) now.controller runs.calls
    → Waits dev at.controller (calls_in at deeds now run) now.controller runs.calls
    → (took : Took) (new : MachineState) → (does : Does now (Moved (act.Takes took)) new) → HasRules new → is_of n c does.does.frame ≡ true
    → has_bit (shown PxCi now.controller) slot ≡ true → has_bit (shown PxCi new.controller) slot ≡ false
    → has_bit (shown PxSact new.controller) slot ≡ false
    → (issue : Issue) → issue_at now.controller.core.slots slot ≡ Some issue → issue.dev ≡ dev → is_queued_issue issue ≡ false
    → (is_pio issue.work.kind ≡ true → is_answering does.does.frame.bytes ≡ false → context_of at.controller.core.slots dev ≡ None)
    → IsUnqueuedWhole n dev slot old before at first deeds now run p limit base issue does.does.frame
