-- The command of a slot is sent once for each issue, and a queued one stands until its bit of PxSACT falls. So as many queued commands are sent
-- from a slot as its bit falls, and one more where one that was sent stands (AHCI 1.3.1, 3.3.13, PxSACT, and 5.3, a port sends a command).
use Rattle.std.specs.Prelude.{ℕ, ◌<◌, ◌≤◌, ◌+◌, ◌==◌, ◌&&◌, Bool, false, not, List, [], ◌∷◌}
use Rattle.slots.specs.Slots.{Issue, has_bit, holds, is_queued_issue, issue_at}
use Rattle.ahci_registers.specs.declared.register.Register.TheVariants.{PxSact}
use Rattle.ahci_controller.specs.{Reading.shown, States.ControllerState}
use Rattle.ahci_controller.specs.declared.next.Next.TheVariants as next
use Rattle.controller_laws.specs.Events as call
use Rattle.controller_laws.specs.Events.{Event}
use Rattle.ahci_machine.specs.States.{IsOpeningMachine, MachineState}
use Rattle.machine_laws.specs.{ControllerLaws.RunsRuled, Controllers.deed_calls, Deeds.Deed}
use Rattle.machine_theorem.specs.Tags.{once_if}

-- a queued command of one of these devices
abbrev pub is_queued_of : (own : ℕ → Bool) → Issue → Bool
is_queued_of own issue = is_queued_issue issue && own issue.dev

-- that was sent
abbrev pub is_sent_of : (own : ℕ → Bool) → Issue → Bool
is_sent_of own issue = is_queued_of own issue && issue.sent

-- a call sends such a command from the slot
abbrev pub is_ordered : (own : ℕ → Bool) → (slot : ℕ) → ControllerState → Event → Bool
is_ordered own slot c (call.Turned (next.Order dev s fis)) = (s == slot) && holds (is_queued_of own) (issue_at c.core.slots slot)
is_ordered own slot c event = false

-- a deed is one call of the controller at most
abbrev pub are_ordered : (own : ℕ → Bool) → (slot : ℕ) → ControllerState → List Event → Bool
are_ordered own slot c [] = false
are_ordered own slot c (event ∷ more) = is_ordered own slot c event

-- the slot's bit of PxSACT falls while such a command stands there
abbrev pub is_fallen : (own : ℕ → Bool) → (slot : ℕ) → (old new : ControllerState) → Bool
is_fallen own slot old new =
    has_bit (shown PxSact old) slot && not (has_bit (shown PxSact new) slot) && holds (is_queued_of own) (issue_at old.core.slots slot)

-- by how many deeds of a run it is so
abbrev pub ordered_in : (own : ℕ → Bool) → (slot : ℕ) → (old : MachineState) → (deeds : List Deed) → (now : MachineState) → RunsRuled old deeds now → ℕ
ordered_in own slot old [] now run = 0
ordered_in own slot old (deed ∷ later) now run =
    once_if (are_ordered own slot old.controller (deed_calls old deed run.1.0 run.1.1)) + ordered_in own slot run.1.0 later now run.1.2

abbrev pub fallen_in : (own : ℕ → Bool) → (slot : ℕ) → (old : MachineState) → (deeds : List Deed) → (now : MachineState) → RunsRuled old deeds now → ℕ
fallen_in own slot old [] now run = 0
fallen_in own slot old (deed ∷ later) now run = once_if (is_fallen own slot old.controller run.1.0.controller) + fallen_in own slot run.1.0 later now run.1.2

-- one that was sent stands in the slot
abbrev pub standing_in : (own : ℕ → Bool) → (slot : ℕ) → ControllerState → ℕ
standing_in own slot c = once_if (holds (is_sent_of own) (issue_at c.core.slots slot))

-- So it is over each stretch of a run from a machine that opens, of the commands of some devices.
abbrev pub CommandsAreSentOnce : Type 0
CommandsAreSentOnce = (ports : ℕ) (legacy : Bool) (old : MachineState) → IsOpeningMachine ports legacy old
    → (before : List Deed) (at : MachineState) → RunsRuled old before at
    → (deeds : List Deed) (now : MachineState) (run : RunsRuled at deeds now) (own : ℕ → Bool) (slot : ℕ) → slot < 32
    → ordered_in own slot at deeds now run + standing_in own slot at.controller ≤ fallen_in own slot at deeds now run + standing_in own slot now.controller
