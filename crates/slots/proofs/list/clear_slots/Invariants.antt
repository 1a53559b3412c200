use Rattle.slots.proofs.ListLemmas.{FreedBut}
use Rattle.slots.proofs.list.clear_slots.Given as goal

abbrev pub invariant-walk : goal.invariant-walk
invariant-walk l = FreedBut l.mask l.rest l.fn.slots l.slots

abbrev pub decreases-walk : goal.decreases-walk
decreases-walk l = l.rest
