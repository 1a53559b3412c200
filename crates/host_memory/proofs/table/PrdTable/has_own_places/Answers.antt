use Rattle.host_memory.proofs.PlaceLemmas.{own_places}
use Rattle.host_memory.proofs.table.PrdTable.has_own_places.Goals as goal

pub returns : goal.returns
returns c = rw (← c.self.view_is) (own_places _ _ c.self.invariant.inside c.self.invariant.apart)
