use Rattle.std.proofs.Common.{◌<◌, ◌^◌}
use Rattle.slots.specs.{Commands.is_any, Slots.{holds, own_issue, own_of}}
use Rattle.slots.proofs.ListLemmas.{Gathered}
use Rattle.slots.proofs.list.SlotList.of_device.Given as goal

abbrev pub invariant-walk : goal.invariant-walk
invariant-walk l = Gathered (λ k. holds is_any (own_issue (own_of l.dev l.self) k)) l.rest l.found × (l.found < 2 ^ 32)

abbrev pub decreases-walk : goal.decreases-walk
decreases-walk l = l.rest
