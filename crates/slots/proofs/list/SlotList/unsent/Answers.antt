use Rattle.std.proofs.Common.{None, arith, slice_index_or}
use Rattle.slots.specs.Slots.{holds, is_unsent}
use Rattle.slots.proofs.ListLemmas.{mask_all}
use Rattle.slots.proofs.list.SlotList.unsent.Goals as goal

pub returns : goal.returns
returns c = rw (← c.self.view_is) (mask_all (λ k. holds is_unsent (slice_index_or c.self.inside.slots k None)) c.self.inside.masks.unsent (omega arith) c.self.invariant.1.unsent.bits)
