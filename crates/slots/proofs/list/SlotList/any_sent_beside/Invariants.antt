use Rattle.std.proofs.Common.{None, slice_index_or}
use Rattle.slots.specs.{Commands.is_sent_beside, Slots.holds}
use Rattle.slots.proofs.ListLemmas.{NoneBut}
use Rattle.slots.proofs.list.SlotList.any_sent_beside.Given as goal

abbrev pub invariant-walk : goal.invariant-walk
invariant-walk l = NoneBut (λ k. holds (is_sent_beside l.dev) (slice_index_or l.self k None)) l.rest

abbrev pub decreases-walk : goal.decreases-walk
decreases-walk l = l.rest
