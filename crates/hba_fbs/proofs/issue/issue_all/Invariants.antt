use Rattle.std.proofs.Common.{◌≡◌, None}
use Rattle.slots.specs.Slots.{LeavesOthers, slots_of}
use Rattle.hba_fbs.specs.{Offering.asked_by, Views.HaveCommands, Between.FilledTo}
use Rattle.hba_fbs.proofs.IssueLemmas.{command_after, issue_after}
use Rattle.hba_fbs.proofs.issue.issue_all.Given as goal

-- the slots so far are issued
abbrev pub invariant-loop-slot : goal.invariant-loop-slot
invariant-loop-slot g l = record {
  issues : FilledTo l.slot (issue_after l.dev (asked_by (g.O.Offers.offer l.offers) l.value) (slots_of l.dev l.initial.slots).issues) None (slots_of l.dev l.initial.slots).issues (slots_of l.dev l.slots).issues;
  context : (slots_of l.dev l.slots).context ≡ (slots_of l.dev l.initial.slots).context;
  others : LeavesOthers l.dev l.initial.slots l.slots;
  commands : FilledTo l.slot (command_after (asked_by (g.O.Offers.offer l.offers) l.value) l.initial.commands) None l.initial.commands l.commands;
  have : HaveCommands l.initial.slots l.initial.commands → HaveCommands l.slots l.commands;
}
