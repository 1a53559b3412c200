use Rattle.slots.specs.{Setup.is_outstanding, Slots.{holds, own_issue, own_of}}
use Rattle.slots.proofs.ListLemmas.{NoneBut}
use Rattle.slots.proofs.list.SlotList.has_outstanding.Given as goal

abbrev pub invariant-walk : goal.invariant-walk
invariant-walk l = NoneBut (λ k. holds is_outstanding (own_issue (own_of l.dev l.self) k)) l.rest

abbrev pub decreases-walk : goal.decreases-walk
decreases-walk l = l.rest
