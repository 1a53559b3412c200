-- What the guest is given for a queued read is what the caller gave for the sectors that it had asked for in this slot, each byte at its number (AHCI 1.3.1,
-- 5.3.13; Serial ATA 3.x, 10.5, Data, and 13.6, native command queuing). So it is over each stretch of a run that begins at rest, in which the guest keeps
-- to the standard (Identity), and in which no FIS of the disk is lost or at fault (OwnSlots).
use Rattle.std.specs.Prelude.{ℕ, ◌≡◌, ◌<◌, Bool, true, false, List, ◌∷◌, [], ◌++◌, length, drop, Some}
use Rattle.fis_view.specs.Frames.{Stamped}
use Rattle.slots.specs.{Slots.{Issue, issue_at}, declared.work.Kind.TheVariants.QueuedRead}
use Rattle.hba_fbs.specs.{Taking.port_of, declared.report.Wrote.Wrote}
use Rattle.ahci_controller.specs.{Taking.is_overflow, declared.taking.Took.Took}
use Rattle.disk_pages.specs.declared.profile.Profile.{Profile}
use Rattle.sata_disk.specs.State.{new_disk}
use Rattle.sata_disk.specs.declared.out.Out.TheVariants as out
use Rattle.sata_disk_books.specs.Books.{AreNext}
use Rattle.sata_disk_laws.specs.{Calls.{AreCalls, Call}, Laws.reached}
use Rattle.ahci_machine.specs.States.{IsOpeningMachine, MachineState}
use Rattle.ahci_machine.specs.declared.act.Act.TheVariants as act
use Rattle.machine_laws.specs.{ControllerLaws.{ControllerRuns, RunsRuled, calls_in}, Deeds.{Deed, Does, Moved}, Falling.{AllLast, HasLink}}
use Rattle.machine_laws.specs.Rising.{sent_by}
use Rattle.machine_theorem.specs.{Following.AllHeardWell, Given.IsGivenData, Identity.{AllKeep, IsAtRest}, OwnSlots.{AllKeepLine, BeginsClear}}
use Rattle.machine_theorem.specs.OwnSlots.{NoneLost, is_of}

-- The disk at the port sent the FIS for a queued command, whose place is the slot. The command is the one that the guest had supplied for this slot, as it
-- was issued there last. As many bytes of it were sent before as the number of the FIS's first byte in the slot's command, and the bytes are those that the
-- caller gave for its sectors behind them.
pub record IsReadOf (many : Bool) (n tag : ℕ) (old : MachineState) (before : List Deed) (at : MachineState) (first : RunsRuled old before at) (sooner : List Deed)
    (mid : MachineState) (led : RunsRuled at sooner mid) (p : Profile) (limit : ℕ) (base : List Call) (k place len : ℕ) (after : MachineState)
    (does : Does mid (Moved (act.Speaks k (out.Data place len))) after) (f : Stamped) (wrote : Wrote) : Type 0 where
  pub own : k ≡ n
  pub slot : place ≡ tag
  pub given : IsGivenData many k place len old before at first sooner mid led p limit base after does
  pub number : wrote.offset ≡ length given.page.ledger.sent
  pub next : AreNext given.page.ledger (drop 4 f.bytes)

-- so it is if the deed is one by which a disk sends Data for a queued command
abbrev pub OfItsRead : (many : Bool) → (n tag : ℕ) → (old : MachineState) → (before : List Deed) → (at : MachineState) → (first : RunsRuled old before at)
    → (sooner : List Deed) → (mid : MachineState) → (led : RunsRuled at sooner mid) → (p : Profile) → (limit : ℕ) → (base : List Call) → (deed : Deed)
    → (after : MachineState) → Does mid deed after → Stamped → Wrote → Type 0
OfItsRead many n tag old before at first sooner mid led p limit base (Moved (act.Speaks k (out.Data place len))) after does f wrote =
    place < 32 → IsReadOf many n tag old before at first sooner mid led p limit base k place len after does f wrote
OfItsRead many n tag old before at first sooner mid led p limit base deed after does f wrote = Unit {0}

-- The FIS was sent at a moment of the stretch.
pub record IsBroughtAsRead (many : Bool) (n tag : ℕ) (old : MachineState) (before : List Deed) (at : MachineState) (first : RunsRuled old before at)
    (deeds : List Deed) (p : Profile) (limit : ℕ) (base : List Call) (f : Stamped) (wrote : Wrote) : Type 0 where
  pub sooner : List Deed
  pub mid : MachineState
  pub led : RunsRuled at sooner mid
  pub deed : Deed
  pub after : MachineState
  pub does : Does mid deed after
  pub later : List Deed
  pub is : deeds ≡ sooner ++ deed ∷ later
  pub sent : sent_by mid deed after does ≡ f ∷ []
  pub read : OfItsRead many n tag old before at first sooner mid led p limit base deed after does f wrote

-- Over each such stretch, where a Data FIS of the connection brings bytes for the slot of the tag, in which a queued read is issued, unless they go past its
-- table: the disk sent it for the command that the guest had supplied for the slot, and each byte has the number of the one that the caller gave.
abbrev pub ReadsAreAsSupplied : Type 0
ReadsAreAsSupplied = (ports : ℕ) (legacy : Bool) (old : MachineState) → IsOpeningMachine ports legacy old
    → (before : List Deed) (at : MachineState) (first : RunsRuled old before at) (many : Bool) (n c dev tag : ℕ) → n < 15 → dev < 16 → tag < 32
    → (rest : IsAtRest many n tag old before at first) → BeginsClear n c dev at → (deeds : List Deed) (now : MachineState) (run : RunsRuled at deeds now)
    → HasLink deeds → AllLast n at deeds now run → AllKeep many n tag at deeds now run → AllKeepLine many n c dev at deeds now run
    → (runs : ControllerRuns at deeds now run) → AllHeardWell dev at.controller (calls_in at deeds now run) now.controller runs.calls
    → NoneLost dev (calls_in at deeds now run)
    → (p : Profile) (limit : ℕ) (base : List Call) → AreCalls (new_disk p limit) base → rest.disk ≡ reached p limit base
    → (took : Took) (new : MachineState) → (does : Does now (Moved (act.Takes took)) new) → is_of n c does.does.frame ≡ true
    → port_of does.does.frame.bytes ≡ dev → is_overflow took.report.fault ≡ false → (wrote : Wrote) → took.brought ≡ Some wrote → wrote.slot ≡ tag
    → (issue : Issue) → issue_at now.controller.core.slots wrote.slot ≡ Some issue → issue.work.kind ≡ QueuedRead
    → IsBroughtAsRead many n tag old before at first deeds p limit base does.does.frame wrote
