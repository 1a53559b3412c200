-- A command that was read is issued, or not taken: AHCI 1.3.1, sections 3.3.14 (PxCI), 4.2.2 (PMP) and 6.1 (errors).
use Rattle.std.specs.{Prelude.{◌≡◌, ℕ, ◌^◌, ◌<◌, if◌then◌else◌, bit_or, List, Option, Some, MatchOption, slice_set}, Option.option_map}
use Rattle.ahci_registers.specs.Lines.LineEvent.{Caused}
use Rattle.guest_fetch.specs.{Commands.Fetched, declared.refusal.Refusal.Refusal}
use Rattle.guest_fetch.specs.declared.refusal.Refusal.TheVariants as refusal
use Rattle.hba_fbs.specs.{Bits.without, Placing.{Places, issue_error}, Views.Port}
use Rattle.slots.specs.declared.work.Work.{Work}
use Rattle.ahci_controller.specs.{Causes.{bad_causes, missing_causes}, Latch.{latched, told}, Offers.{is_work, offer_in, offers}}
use Rattle.ahci_controller.specs.{States.ControllerState, declared.{issuing.{NotTaken.NotTaken, Supply.Supply}, latch.Told.Told}}
use Rattle.ahci_controller.specs.declared.offer.Offered.{Offered}
use Rattle.ahci_controller.specs.declared.issuing.NotTaken.TheVariants as why
use Rattle.ahci_controller.specs.declared.issuing.Supply.TheVariants as answer

-- the device of a command: the one that its header names, as its FIS does
abbrev pub device_of : Fetched → ℕ
device_of command = command.head.header.pm_port

-- it, as the core is offered it
abbrev pub offered : ℕ → Work → List ℕ → Offered
offered dev work cfis = offers dev (Some (record { work = work; cfis = cfis; table = 0; count = 0 }))

abbrev pub offered_command : Fetched → Offered
offered_command command = offered (device_of command) command.head.work command.head.cfis

-- why it is not issued in a slot: the first of these that applies
abbrev pub not_issued : Port → ℕ → Fetched → Option NotTaken
not_issued port slot command = if is_work command.head.work
    then option_map why.Issue (issue_error port (offer_in (offered_command command)) (2 ^ slot))
    else Some (why.Bytes command.head.work.len)

-- Host Bus Fatal Error and Interface Fatal Error where memory is missing, and else Interface Fatal Error
abbrev pub causes_of_refusal : Refusal → ℕ
causes_of_refusal (refusal.NoMemory missing) = missing_causes
causes_of_refusal r = bad_causes

abbrev pub causes_of : NotTaken → ℕ
causes_of (why.Read r) = causes_of_refusal r
causes_of (why.Bytes found) = bad_causes
causes_of (why.Issue e) = bad_causes

abbrev pub not_taken : NotTaken → Told → Supply
not_taken reason t = answer.NotTaken reason t.message t.line

-- The slot is a bad one since, and the host is told.
pub record RefusesSlot (old : ControllerState) (slot : ℕ) (reason : NotTaken) (result : Supply) (new : ControllerState)
    : Type 0 where
  pub told : result ≡ not_taken reason (told old.latch (causes_of reason))
  pub rest : new ≡ record old {
    wants = record old.wants { pending = without old.wants.pending (2 ^ slot) };
    own = record old.own { bad = bit_or old.own.bad (2 ^ slot) };
    latch = latched old.latch (Caused (causes_of reason));
  }

-- it is kept as it was supplied, and the slot is read no more
abbrev pub Keeps : ControllerState → ℕ → Fetched → ControllerState → Type 0
Keeps old slot command new = new ≡ record old {
  wants = record old.wants { pending = without old.wants.pending (2 ^ slot) };
  commands = slice_set old.commands slot (Some command);
}

-- the core has it
pub record PlacesSlot (old : ControllerState) (slot : ℕ) (command : Fetched) (result : Supply)
    (new : ControllerState) : Type 0 where
  pub dev : device_of command < 16
  pub told : result ≡ answer.Issued (device_of command)
  pub core : Places old.core (offer_in (offered_command command)) (device_of command) (2 ^ slot) new.core
  pub rest : Keeps (record old { core = new.core }) slot command new

abbrev pub IssuesSlot : ControllerState → ℕ → Fetched → Supply → ControllerState → Type 0
IssuesSlot old slot command result new = MatchOption (not_issued old.core slot command)
    (PlacesSlot old slot command result new) (λ reason. RefusesSlot old slot reason result new)
