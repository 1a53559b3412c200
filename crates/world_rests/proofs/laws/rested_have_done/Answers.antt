use Rattle.world_rests.proofs.Rested as proof
use Rattle.world_rests.proofs.laws.rested_have_done.Goals as goal

pub returns : goal.returns
returns c = proof.rested_have_done c.is_silent_where_nothing_is_owed.ensures c.one_order_at_a_time.ensures c.ports_go_on.ensures c.paths_go_on.ensures.orderly
