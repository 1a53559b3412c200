-- What is issued in a slot moves what the FIS of the command asks for that was supplied for it (AHCI 1.3.1, 4.2.3.1, CFIS, and 5.3, a port fetches a
-- command; ACS-3, 7, Count).
use Rattle.std.specs.Prelude.{ℕ, ◌≡◌, ◌<◌, Bool, List, Some}
use Rattle.slots.specs.Slots.{Issue, issue_at}
use Rattle.guest_fetch.specs.Heads.{asked_work, fields_in}
use Rattle.ahci_machine.specs.States.{IsOpeningMachine, MachineState}
use Rattle.machine_laws.specs.{ControllerLaws.RunsRuled, Deeds.Deed}
use Rattle.machine_theorem.specs.Standing.{IsAsSupplied}

-- So it is over every run from a machine that opens, of the FIS that was supplied for the issue in the slot that was the last one.
abbrev pub IssuesMoveAsSupplied : Type 0
IssuesMoveAsSupplied = (ports : ℕ) (legacy : Bool) (old : MachineState) → IsOpeningMachine ports legacy old
    → (deeds : List Deed) (now : MachineState) (run : RunsRuled old deeds now) (slot : ℕ) → slot < 32
    → (issue : Issue) → issue_at now.controller.core.slots slot ≡ Some issue
    → (fis : List ℕ) → IsAsSupplied old deeds now run slot fis → issue.work ≡ asked_work (fields_in fis)
