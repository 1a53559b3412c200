use Rattle.slots.specs.Slots.{holds, is_waiting, own_issue, own_of}
use Rattle.slots.proofs.ListLemmas.{NoneBut}
use Rattle.slots.proofs.list.SlotList.waiting.Given as goal

abbrev pub invariant-walk : goal.invariant-walk
invariant-walk l = NoneBut (λ k. holds is_waiting (own_issue (own_of l.dev l.self) k)) l.rest

abbrev pub decreases-walk : goal.decreases-walk
decreases-walk l = l.rest
