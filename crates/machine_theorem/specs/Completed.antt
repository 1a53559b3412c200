-- A bit of PxCI falls as a FIS is taken only where the device that owns the slot's command ends this command by the FIS, which it sent (AHCI
-- 1.3.1, 3.3.14, PxCI, and 5.3.8, a port takes a Register FIS; Serial ATA 3.x, 10.5, Register Device to Host FIS, PIO Setup, Data).
use Rattle.std.specs.{Prelude.{◌≡◌, ◌⊎◌, ◌<◌, ℕ, Bool, true, false, List, [], ◌∷◌, Some}, List.Contains}
use Rattle.fis_view.specs.Frames.{Stamped}
use Rattle.fan_out.specs.declared.fan_out.FanOut.{FanOut}
use Rattle.slots.specs.Slots.{Issue, has_bit, is_queued_issue, issue_at}
use Rattle.ahci_registers.specs.declared.register.Register.TheVariants.{PxCi, PxSact}
use Rattle.hba_fbs.specs.Taking.{port_of}
use Rattle.hba_laws.specs.{CoreHistories.event_by, History.{Answered, Carried, Event, History, completes}}
use Rattle.ahci_controller.specs.{Reading.shown, States.ControllerState, Taking.room_for, declared.taking.Took.Took}
use Rattle.controller_laws.specs.Ends.{AreTold}
use Rattle.ata_reply.specs.declared.reply.Reply.TheVariants as replies
use Rattle.sata_disk.specs.declared.out.Out.TheVariants as out
use Rattle.ahci_machine.specs.States.{HasRules, IsOpeningMachine, MachineState}
use Rattle.ahci_machine.specs.declared.act.Act.TheVariants as act
use Rattle.machine_laws.specs.{ControllerLaws.RunsRuled, Deeds.{Deed, Does, Moved}, Rising.{is_multiplier, sent_by}}
use Rattle.machine_theorem.specs.{Ends.HasEarnedAt, Origins.sender}

-- The device that owns the slot's command ends it by this FIS, as its history has it: if the command was sent last and waits, by a Register FIS
-- that answers it, all bytes of a transfer having moved; or by the last Data of a PIO read.
pub record IsCompleted (slot : ℕ) (past : ℕ → History) (c : ControllerState) (frame : List ℕ) : Type 0 where
  pub issue : Issue
  pub is : issue_at c.core.slots slot ≡ Some issue
  pub own : issue.dev ≡ port_of frame
  pub event : Event
  pub heard : event_by c.core (room_for c (port_of frame)) frame ≡ Some event
  pub completes : completes slot event (past issue.dev) issue.work ≡ true
  pub kind : is_queued_issue issue ≡ false → (event ≡ Answered) ⊎ ((bytes : List ℕ) × (event ≡ Carried bytes))

-- each device of the controller has a history, by which it is so
pub record IsEndedInHistory (c : ControllerState) (frame : List ℕ) (slot : ℕ) : Type 0 where
  pub past : ℕ → History
  pub told : AreTold c.core past
  pub completed : IsCompleted slot past c frame

-- A disk says that a command which moves sectors and is not queued ended well: it had earned that.
abbrev pub FisOrigin : MachineState → Deed → Type 0
FisOrigin m (Moved (act.Speaks n (out.Of place replies.Done))) = HasEarnedAt m n place
FisOrigin m deed = Unit {0}

-- A device sends this FIS by a deed. Behind a multiplier its stamp has the port of the device.
pub record IsFisBy (f : Stamped) (old : MachineState) (deed : Deed) (new : MachineState) (does : Does old deed new) : Type 0 where
  pub sent : Contains (sent_by old deed new does) f
  pub port : is_multiplier old.fan ≡ true → f.stamp.port ≡ sender deed
  pub origin : FisOrigin old deed

-- or by one of a run
abbrev pub IsFisIn : Stamped → (old : MachineState) → (deeds : List Deed) → (new : MachineState) → RunsRuled old deeds new → Type 0
IsFisIn f old [] new run = ⊥
IsFisIn f old (deed ∷ later) new run = IsFisBy f old deed run.1.0 run.1.1 ⊎ IsFisIn f run.1.0 later new run.1.2

-- The slot's command is ended by this FIS.
pub record IsCompletedBy (old : MachineState) (deeds : List Deed) (now : MachineState) (run : RunsRuled old deeds now) (end : FanOut) (fis : Stamped) (slot : ℕ)
    : Type 0 where
  pub ended : IsEndedInHistory now.controller fis.bytes slot
  -- Behind a multiplier its PM Port is that of its stamp.
  pub port : is_multiplier end ≡ true → port_of fis.bytes ≡ fis.stamp.port
  -- If it is not of the control port, a device sent it in this run.
  pub sent : (is_multiplier end ≡ true → port_of fis.bytes < 15) → IsFisIn fis old deeds now run

-- So it is of each bit that falls as a FIS is taken, unless PxSACT shows the slot still: that is the answer to a queued command.
abbrev pub CompletionsAreOfDevices : Type 0
CompletionsAreOfDevices = (ports : ℕ) (legacy : Bool) (old : MachineState) → IsOpeningMachine ports legacy old
    → (deeds : List Deed) (now : MachineState) (run : RunsRuled old deeds now) (took : Took) (new : MachineState)
    → (does : Does now (Moved (act.Takes took)) new) → HasRules new → (slot : ℕ) → slot < 32
    → has_bit (shown PxCi now.controller) slot ≡ true → has_bit (shown PxCi new.controller) slot ≡ false
    → has_bit (shown PxSact new.controller) slot ≡ false → IsCompletedBy old deeds now run new.fan does.does.frame slot
