-- Commands that a caller issues for the device that it names, in the slots that it has read (AHCI 1.3.1, 3.3.13 PxSACT, 3.3.14
-- PxCI, and 5.5). Neither PxFBS.DEV nor a command of another device nor a bit of PxSACT is looked at.
use Rattle.std.specs.Prelude.{ℕ, ◌≡◌, not, if◌then◌else◌, Option, Some, None}
use Rattle.slots.specs.{Commands.slots_where, Slots.is_queued_issue}
use Rattle.hba_fbs.specs.{declared.error.IssueError.IssueError, Bits.without, Issuing.{any_slot, commands_with, is_busy, view_with}, Offering.Offer}
use Rattle.hba_fbs.specs.{Offering.{asked_by, is_bad_by}, Views.{LeavesOtherViews, Port, view_of}}
use Rattle.hba_fbs.specs.declared.error.IssueError.TheVariants as refusal

-- why none of these slots is issued: the first of these that applies
abbrev pub issue_error : Port → Offer → ℕ → Option IssueError
issue_error port offer slots =
    if not port.registers.started then Some refusal.Stopped
    else if any_slot slots (is_busy port.slots) then Some refusal.SlotBusy
    else if any_slot slots (is_bad_by offer) then Some refusal.NoCommand
    else None

-- The commands of these slots are issued for a device. A bit of PxSACT that was written stays; from now on that of a queued
-- command shows the command.
pub record Places (old : Port) (offer : Offer) (dev slots : ℕ) (new : Port) : Type 0 where
  pub own : view_of dev new ≡ view_with dev (asked_by offer slots) (view_of dev old)
  pub others : LeavesOtherViews dev old new
  pub registers : new.registers
      ≡ record old.registers { armed = without old.registers.armed (slots_where is_queued_issue new.slots) }
  pub errors : new.errors ≡ old.errors
  pub commands : new.commands ≡ commands_with (asked_by offer slots) old.commands
  pub number : new.number ≡ old.number
  pub active : new.active ≡ old.active
