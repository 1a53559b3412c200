use Rattle.world_rests.proofs.Watched as proof
use Rattle.world_rests.proofs.laws.rested_drivers_watch.Goals as goal

pub returns : goal.returns
returns c = proof.rested_drivers_watch c.rested_have_done.ensures c.one_order_at_a_time.ensures c.ports_go_on.ensures
