use Rattle.host_memory.proofs.OverlapLemmas.{share_with_tells}
use Rattle.host_memory.proofs.table.PrdTable.overlaps.Goals as goal

pub returns : goal.returns
returns c = rw (← c.self.view_is) (share_with_tells _ _ _ c.share_with.ensures)
