use Rattle.slots.specs.{Commands.may_go, Slots.{holds, issue_at}}
use Rattle.slots.proofs.ListLemmas.{NoneBut}
use Rattle.slots.proofs.table.SlotTable.next_command.Given as goal

abbrev pub invariant-walk : goal.invariant-walk
invariant-walk l = NoneBut (λ k. holds (may_go l.ready l.faulty l.self) (issue_at l.self k)) l.rest

abbrev pub decreases-walk : goal.decreases-walk
decreases-walk l = l.rest
