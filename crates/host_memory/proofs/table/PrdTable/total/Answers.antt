use Rattle.std.proofs.Common.{arith, ◌∙◌}
use Rattle.host_memory.proofs.SpotLemmas.{length-ends, total_is}
use Rattle.host_memory.proofs.table.PrdTable.total.Goals as goal

pub begin_of-requires : goal.begin_of-requires
begin_of-requires c = let long = length-ends _ _ _ _ (c.as_slice.ensures.value ∙ c.self.invariant.sums) in omega (arith, long)

pub returns : goal.returns
returns c = rw (← c.self.view_is) (c.begin_of.ensures ∙ total_is _ _ _ _ (c.as_slice.ensures.value ∙ c.self.invariant.sums))
