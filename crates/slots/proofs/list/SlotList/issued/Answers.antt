use Rattle.std.proofs.Common.{None, arith, slice_index_or}
use Rattle.slots.specs.{Commands.is_any, Slots.holds}
use Rattle.slots.proofs.ListLemmas.{mask_all}
use Rattle.slots.proofs.list.SlotList.issued.Goals as goal

pub returns : goal.returns
returns c = rw (← c.self.view_is) (mask_all (λ k. holds is_any (slice_index_or c.self.inside.slots k None)) c.self.inside.masks.issued (omega arith) c.self.invariant.1.issued.bits)
