use Rattle.std.proofs.Common.{◌<◌, ◌^◌}
use Rattle.slots.specs.{Commands.is_done, Slots.own_of}
use Rattle.slots.proofs.ListLemmas.{Gathered}
use Rattle.slots.proofs.list.SlotList.done.Given as goal

abbrev pub invariant-walk : goal.invariant-walk
invariant-walk l = Gathered (is_done l.mask (own_of l.dev l.self)) l.rest l.found × (l.found < 2 ^ 32)

abbrev pub decreases-walk : goal.decreases-walk
decreases-walk l = l.rest
