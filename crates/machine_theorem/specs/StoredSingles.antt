-- A write that is not queued, and that the guest sees completed: all that it had supplied for the command was stored at the sectors that the
-- command names, and flushed where they are to last (ACS-3, 4, DMA and PIO data-out protocols, and 7, WRITE DMA, WRITE SECTOR(S) and WRITE MULTIPLE;
-- AHCI 1.3.1, 3.3.14, PxCI, 4.2.3.3 and 5.3; Serial ATA 3.x, 10.5, Register Host to Device, Data and Register Device to Host). So it is over each
-- stretch of a run as in SingleWrites.
use Rattle.std.specs.Prelude.{ℕ, ◌≡◌, ◌-◌, ◌<◌, ◌≤◌, ◌+◌, ◌&&◌, ◌||◌, Bool, true, false, not, List, [], ◌∷◌, ◌++◌, length, slice_get, Option, None}
use Rattle.std.specs.Prelude.{Some, Result, Ok}
use Rattle.fis_view.specs.{Frames.{Stamped, marked}, Seen.seen, Table.{H2d, Command, field}, declared.view.{Fis.Fis, FisFault.FisFault}}
use Rattle.fis_view.specs.declared.view.Fis.TheVariants as view
use Rattle.slots.specs.Slots.{Issue, has_bit, is_pio, issue_at}
use Rattle.guest_fetch.specs.Heads.{asked_work, fields_in}
use Rattle.ahci_registers.specs.declared.register.Register.TheVariants.{PxCi, PxSact}
use Rattle.ahci_controller.specs.{Reading.shown, declared.{feeding.Fed.TheVariants.Goes, latch.Edge.Edge, taking.Took.Took}}
use Rattle.ata_command.specs.{Asks.{count_of, lba_of}, Opcodes.transfer_of, declared.{asked.Move.Move, opcode.Transfer.Transfer}}
use Rattle.ata_command.specs.declared.asked.Asked.TheVariants as ask
use Rattle.ata_reply.specs.declared.reply.Reply.TheVariants as replies
use Rattle.block_command.specs.{Laws.WriteIsEarned, Moments.is_verify}
use Rattle.block_command.specs.declared.command.Command as block
use Rattle.disk_pages.specs.declared.profile.Profile.{Profile}
use Rattle.sata_disk.specs.{Hearing.{asked_of, is_command}, State.{DiskState, new_disk}}
use Rattle.sata_disk.specs.declared.out.Out.TheVariants as out
use Rattle.sata_disk_laws.specs.{Calls.{AreCalls, Call}, Laws.reached, Once.{host_of, new_host}}
use Rattle.ahci_machine.specs.States.{HasRules, IsOpeningMachine, MachineState}
use Rattle.ahci_machine.specs.declared.act.Act.TheVariants as act
use Rattle.machine_laws.specs.{ControllerLaws.{RunsRuled, calls_in}, Deeds.{Deed, Does, Moved}, Falling.{AllLast, HasLink}, Feeding.came_in}
use Rattle.machine_theorem.specs.{Identity.calls_of, InTurn.{AreKeptOn, IsIdle, is_answering}, OwnSlots.{AllKeepLine, is_of}, OwnWrites.AreOwnData}
use Rattle.machine_theorem.specs.{Ending.HasNoQueued, PioIn.AllKeepUnqueued, Singles.BeginsIdle, Writes.payloads}
use Rattle.machine_theorem.specs.SingleWrites.{IsFedNext, IsFedWhole, IsSuppliedSingle, went_to}

-- ---- the commands

-- WRITE DMA, WRITE SECTOR(S) and WRITE MULTIPLE, with their EXT and FUA forms
abbrev pub is_write : Option Transfer → Bool
is_write None = false
is_write (Some t) = t.write

abbrev pub writes : Result Fis FisFault → Bool
writes (Ok (view.RegH2D f)) = is_command f && is_write (transfer_of (field H2d Command f))
writes other = false

-- a FIS is such a command
abbrev pub is_writing : List ℕ → Bool
is_writing bytes = writes (seen bytes)

-- The disk's command is what the FIS says: its first sector and how many, which are moved, and whether they are to last, by FUA, or since the write
-- cache is off.
pub record IsNamedBy (d : DiskState) (fis : List ℕ) (c : block.Command) : Type 0 where
  pub transfer : Transfer
  pub code : transfer_of (field H2d Command fis) ≡ Some transfer
  pub lba : c.lba ≡ lba_of fis transfer.wide
  pub count : c.count ≡ count_of fis transfer.wide
  pub write : c.write ≡ true
  pub moves : is_verify c.protocol ≡ false
  pub lasting : c.lasting ≡ (transfer.fua || not d.front.settings.write_cache)

-- So it is of each such FIS, as a disk hears it, and takes it.
abbrev pub WritesAreNamed : Type 0
WritesAreNamed = (d : DiskState) (fis : List ℕ) → is_writing (marked fis 0) ≡ true
    → (move : Move) → asked_of d (marked fis 0) ≡ ask.Moves move → IsNamedBy d fis move.command

-- ---- one byte

-- At a moment of these deeds a Data FIS went to the device. It is of the slot, from the byte of this number on, and its payload is what the caller
-- had supplied for it; byte k is among them, and is this one.
pub record IsByteFed (dev slot k : ℕ) (value : Option ℕ) (was : List ℕ) (at : MachineState) (deeds : List Deed) (now : MachineState)
    (run : RunsRuled at deeds now) : Type 0 where
  pub sooner : List Deed
  pub mid : MachineState
  pub led : RunsRuled at sooner mid
  pub message : Bool
  pub line : Edge
  pub after : MachineState
  pub does : Does mid (Moved (act.Gathers dev (Goes message line))) after
  pub later : List Deed
  pub is : deeds ≡ sooner ++ Moved (act.Gathers dev (Goes message line)) ∷ later
  pub offset : ℕ
  pub fed : IsFedNext dev slot offset (came_in dev was at sooner mid led) mid dev message line after does
  pub from : offset ≤ k
  pub to : k < offset + length (came_in dev was at sooner mid led)
  pub byte : value ≡ slice_get (came_in dev was at sooner mid led) (k - offset)

-- ---- the write

-- The command that the books had as the disk said that it ended well.
pub record IsStoredWhole (n dev slot : ℕ) (old : MachineState) (before : List Deed) (at : MachineState) (first : RunsRuled old before at)
    (deeds : List Deed) (now : MachineState) (run : RunsRuled at deeds now) (p : Profile) (limit : ℕ) (calls : List Call) (issue : Issue)
    (w : IsFedWhole n dev slot old before at first deeds now run p limit calls issue) : Type 0 where
  -- It is what the FIS says that the guest had supplied for the slot, as it was issued there last.
  pub named : IsNamedBy (reached p limit w.asked.before) w.from.order w.page.command
  -- As many bytes came for it as the slot's command moves: all that went to the device since this FIS.
  pub len : length w.page.ledger.came ≡ issue.work.len
  pub came : w.page.ledger.came ≡ payloads (went_to dev (calls_in w.since.sent w.since.later now w.since.rest))
  -- The caller was asked to store them at its sectors, in order, and had answered that it did; and had answered a flush that was asked for behind
  -- that, where they are to last.
  pub stored : WriteIsEarned w.page.command w.page.ledger
  -- Each of them is the one of its number that the caller had supplied for the slot since this FIS went.
  pub bytes : (k : ℕ) → k < length w.page.ledger.came
      → IsByteFed dev slot k (slice_get w.page.ledger.came k) (came_in dev [] old w.since.done w.since.sent w.since.until)
      w.since.sent w.since.later now w.since.rest

-- The disk says by the FIS that it ended well, and so it did.
pub record IsEndedWrite (n dev slot : ℕ) (old : MachineState) (before : List Deed) (at : MachineState) (first : RunsRuled old before at)
    (deeds : List Deed) (now : MachineState) (run : RunsRuled at deeds now) (p : Profile) (limit : ℕ) (base : List Call) (issue : Issue) (f : Stamped)
    (done : IsSuppliedSingle n dev slot old before at first deeds now run p limit base issue f) : Type 0 where
  pub ended : done.done.said ≡ out.Of 32 replies.Done
  pub stored : IsStoredWhole n dev slot old before at first deeds now run p limit
      (base ++ calls_of n at done.done.sooner done.done.mid done.done.led) issue (done.whole ended)

-- The FIS by which the bit falls answers the command that the guest had supplied for the slot. If that is such a write, it is so.
pub record IsStoredSingle (n dev slot : ℕ) (old : MachineState) (before : List Deed) (at : MachineState) (first : RunsRuled old before at)
    (deeds : List Deed) (now : MachineState) (run : RunsRuled at deeds now) (p : Profile) (limit : ℕ) (base : List Call) (issue : Issue) (f : Stamped)
    : Type 0 where
  pub done : IsSuppliedSingle n dev slot old before at first deeds now run p limit base issue f
  pub answering : is_answering f.bytes ≡ true
  pub work : issue.work ≡ asked_work (fields_in (done.done.answers answering).slots.order)
  pub write : is_writing (marked (done.done.answers answering).slots.order 0) ≡ true
      → IsEndedWrite n dev slot old before at first deeds now run p limit base issue f done

-- ---- the law

-- So it is over each stretch as in SingleWrites, of each bit of PxCI that falls behind it as a FIS of the connection is taken, where the slot has a
-- command for the device that is no PIO data-in.
abbrev pub CompletedSinglesAreStored : Type 0
CompletedSinglesAreStored = (ports : ℕ) (legacy : Bool) (old : MachineState) → IsOpeningMachine ports legacy old
    → (before : List Deed) (at : MachineState) (first : RunsRuled old before at) (many : Bool) (n c dev slot : ℕ) → n < 15 → dev < 16
    → slot < 32 → (begins : BeginsIdle n c at) → (p : Profile) (limit : ℕ) (base : List Call) → AreCalls (new_disk p limit) base
    → begins.disk ≡ reached p limit base → IsIdle (host_of new_host base) → (deeds : List Deed) (now : MachineState) (run : RunsRuled at deeds now)
    → HasLink deeds → AllLast n at deeds now run → AllKeepLine many n c dev at deeds now run → AreKeptOn (calls_of n at deeds now run)
    → AllKeepUnqueued many n dev at deeds now run → HasNoQueued dev now.controller → AreOwnData many n dev (calls_in at deeds now run)
    → (took : Took) (new : MachineState) → (does : Does now (Moved (act.Takes took)) new) → HasRules new → is_of n c does.does.frame ≡ true
    → has_bit (shown PxCi now.controller) slot ≡ true → has_bit (shown PxCi new.controller) slot ≡ false
    → has_bit (shown PxSact new.controller) slot ≡ false → (issue : Issue) → issue_at now.controller.core.slots slot ≡ Some issue → issue.dev ≡ dev
    → is_pio issue.work.kind ≡ false → IsStoredSingle n dev slot old before at first deeds now run p limit base issue does.does.frame
