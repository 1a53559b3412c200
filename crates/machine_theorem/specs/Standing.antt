-- A slot has one command at a time. A command is issued only in a slot where none is; and as long as the bit of PxCI has been 1 since then, or of a
-- queued command that of PxSACT, no other is issued there (AHCI 1.3.1, 3.3.13, PxSACT, 3.3.14, PxCI, and 5.3, a port fetches a command).
use Rattle.std.specs.Prelude.{◌≡◌, ◌⊎◌, ◌<◌, ℕ, Bool, true, List, [], ◌∷◌, length, Some, None}
use Rattle.slots.specs.Slots.{has_bit, holds, is_queued_issue, issue_at}
use Rattle.ahci_registers.specs.declared.register.Register.{Register, TheVariants.{PxCi, PxSact}}
use Rattle.ahci_controller.specs.{Reading.shown, States.ControllerState}
use Rattle.block_command.specs.declared.command.Command.{Command}
use Rattle.controller_laws.specs.{Events.{Does as Calls, Event, IsController}, Sources.{Source, command_of, no_sources, sources_after}}
use Rattle.disk_pages.specs.declared.profile.Profile.{Profile}
use Rattle.sata_disk_laws.specs.Calls.{Call}
use Rattle.ahci_machine.specs.States.{IsOpeningMachine, MachineState}
use Rattle.machine_laws.specs.{ControllerLaws.{ControllerRuns, RunsRuled, calls_in}, Controllers.deed_calls, Deeds.{Deed, Does}, Feeding.IsFisOf}
use Rattle.machine_theorem.specs.Commands.{AreNotIssued, IsOfSlot, issues_in}

-- ---- a call that issues

-- None was issued in the slot before it, and the slot's bit of PxCI was 1.
pub record IsAlone (c : ControllerState) (slot : ℕ) : Type 0 where
  pub low : slot < 32
  pub free : issue_at c.core.slots slot ≡ None
  pub asked : has_bit (shown PxCi c) slot ≡ true

abbrev pub IssuesAreAlone : Type 0
IssuesAreAlone = (old new : ControllerState) (event : Event) → IsController old → Calls old event new → (slot : ℕ) → issues_in slot event ≡ true
    → IsAlone old slot

-- ---- since it was issued

-- a register shows the bit of the slot at each machine of a run, the first and the last, too
abbrev pub IsShownOver : Register → (slot : ℕ) → (old : MachineState) → (deeds : List Deed) → (now : MachineState) → RunsRuled old deeds now → Type 0
IsShownOver r slot old [] now run = has_bit (shown r old.controller) slot ≡ true
IsShownOver r slot old (deed ∷ later) now run =
    (has_bit (shown r old.controller) slot ≡ true) × IsShownOver r slot run.1.0 later now run.1.2

-- by these calls a command is issued in the slot
pub record AreIssuing (slot : ℕ) (calls : List Event) : Type 0 where
  pub event : Event
  pub is : calls ≡ event ∷ []
  pub issues : issues_in slot event ≡ true

-- PxCI shows what is issued in a slot; a queued command is shown by PxSACT, too, until its end
abbrev pub MayShow : Register → (slot : ℕ) → MachineState → Type 0
MayShow PxCi slot m = Unit {0}
MayShow PxSact slot m = holds is_queued_issue (issue_at m.controller.core.slots slot) ≡ true
MayShow register slot m = ⊥

-- A command was issued in the slot by this deed, and at each machine since then the register has shown its bit. These are the controller's calls
-- since then.
pub record Stands (r : Register) (slot : ℕ) (since : List Event) (old : MachineState) (deed : Deed) (new : MachineState) (does : Does old deed new)
    (later : List Deed) (now : MachineState) (run : RunsRuled new later now) : Type 0 where
  pub issued : AreIssuing slot (deed_calls old deed new does)
  pub may : MayShow r slot new
  pub shown : IsShownOver r slot new later now run
  pub calls : since ≡ calls_in new later now run

-- or by one of a run
abbrev pub HasStood : Register → (slot : ℕ) → (since : List Event) → (old : MachineState) → (deeds : List Deed) → (now : MachineState)
    → RunsRuled old deeds now → Type 0
HasStood r slot since old [] now run = ⊥
HasStood r slot since old (deed ∷ later) now run =
    Stands r slot since old deed run.1.0 run.1.1 later now run.1.2 ⊎ HasStood r slot since run.1.0 later now run.1.2

-- ---- the laws

-- While its bit has stood, no other command was issued in the slot, over every run from a machine that opens.
abbrev pub NoneIsIssuedBeside : Type 0
NoneIsIssuedBeside = (ports : ℕ) (legacy : Bool) (old : MachineState) → IsOpeningMachine ports legacy old
    → (deeds : List Deed) (now : MachineState) (run : RunsRuled old deeds now) (r : Register) (slot : ℕ) (since : List Event)
    → HasStood r slot since old deeds now run → AreNotIssued slot since

-- The FIS is that of the command which was supplied for the issue in the slot that was the last one.
pub record IsAsSupplied (old : MachineState) (deeds : List Deed) (now : MachineState) (run : RunsRuled old deeds now) (slot : ℕ) (fis : List ℕ) : Type 0 where
  pub runs : ControllerRuns old deeds now run
  pub source : Source
  pub is : (sources_after slot no_sources old.controller (calls_in old deeds now run) now.controller runs.calls).issued ≡ Some source
  pub supplied : IsFisOf (command_of source) fis

-- So the command of a disk that was sent from the slot since is the one that the guest had supplied for that issue.
abbrev pub CommandsStand : Type 0
CommandsStand = (ports : ℕ) (legacy : Bool) (old : MachineState) → IsOpeningMachine ports legacy old
    → (deeds : List Deed) (now : MachineState) (run : RunsRuled old deeds now) (n : ℕ) (p : Profile) (limit : ℕ) (calls : List Call) (c : Command)
    → (of : IsOfSlot old deeds now run n p limit calls c) → (r : Register) (since : List Event) → HasStood r of.slot since old deeds now run
    → length of.sent.later < length since → IsAsSupplied old deeds now run of.slot of.fis
