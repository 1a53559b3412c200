-- A queued command that the guest sees completed moved as many bytes as its sectors have: the slot's command and the disk's are of one length (AHCI
-- 1.3.1, 3.3.13, PxSACT, and 4.2.3.1, CFIS; Serial ATA 3.x, 13.6, native command queuing; ACS-3, 7, READ and WRITE FPDMA QUEUED, Features).
use Rattle.std.specs.Prelude.{ℕ, ◌≡◌, ◌<◌, Bool, true, false, not, List, Some}
use Rattle.fis_view.specs.Frames.{Stamped}
use Rattle.slots.specs.{Slots.{Issue, has_bit, issue_at}, Work.is_read}
use Rattle.guest_fetch.specs.Heads.{asked_work, fields_in}
use Rattle.ahci_registers.specs.declared.register.Register.TheVariants.{PxSact}
use Rattle.ahci_controller.specs.{Reading.shown, declared.taking.Took.Took}
use Rattle.block_command.specs.Moments.{whole}
use Rattle.disk_pages.specs.declared.profile.Profile.{Profile}
use Rattle.sata_disk.specs.State.{new_disk}
use Rattle.sata_disk_laws.specs.{Calls.{AreCalls, Call}, Laws.reached}
use Rattle.ahci_machine.specs.States.{HasRules, IsOpeningMachine, MachineState}
use Rattle.ahci_machine.specs.declared.act.Act.TheVariants as act
use Rattle.machine_laws.specs.{ControllerLaws.RunsRuled, Deeds.{Deed, Does, Moved}, Falling.{AllLast, HasLink}}
use Rattle.machine_theorem.specs.{Completions.IsDone, Identity.{AllKeep, IsAtRest, own_of}}

-- The command whose bit falls is done as in Completions.
pub record IsDoneWhole (many : Bool) (n tag : ℕ) (old : MachineState) (before : List Deed) (at : MachineState) (first : RunsRuled old before at)
    (deeds : List Deed) (now : MachineState) (run : RunsRuled at deeds now) (p : Profile) (limit : ℕ) (base : List Call) (issue : Issue)
    (fis : Stamped) : Type 0 where
  pub done : IsDone many n tag old before at first deeds now run p limit base fis
  -- The slot moved what the FIS asks for that the guest had supplied for it: as many bytes as the sectors of the disk's command have, and the same
  -- way.
  pub work : issue.work ≡ asked_work (fields_in done.order)
  pub len : issue.work.len ≡ whole done.page.command
  pub way : is_read issue.work.kind ≡ not done.page.command.write

-- So it is of each queued command of the disk that a guest sees completed by a FIS behind such a stretch.
abbrev pub QueuedCompletionsAreWhole : Type 0
QueuedCompletionsAreWhole = (ports : ℕ) (legacy : Bool) (old : MachineState) → IsOpeningMachine ports legacy old
    → (before : List Deed) (at : MachineState) (first : RunsRuled old before at) (many : Bool) (n tag : ℕ) → n < 15 → tag < 32
    → (rest : IsAtRest many n tag old before at first) → (deeds : List Deed) (now : MachineState) (run : RunsRuled at deeds now)
    → HasLink deeds → AllLast n at deeds now run → AllKeep many n tag at deeds now run
    → (p : Profile) (limit : ℕ) (base : List Call) → AreCalls (new_disk p limit) base → rest.disk ≡ reached p limit base
    → (took : Took) (new : MachineState) → (does : Does now (Moved (act.Takes took)) new) → HasRules new
    → has_bit (shown PxSact now.controller) tag ≡ true → has_bit (shown PxSact new.controller) tag ≡ false
    → (issue : Issue) → issue_at now.controller.core.slots tag ≡ Some issue → own_of many n issue.dev ≡ true
    → IsDoneWhole many n tag old before at first deeds now run p limit base issue does.does.frame
