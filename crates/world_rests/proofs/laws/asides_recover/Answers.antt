use Rattle.world_rests.proofs.Asides as proof
use Rattle.world_rests.proofs.laws.asides_recover.Goals as goal

pub returns : goal.returns
returns c = proof.asides_recover c.one_order_at_a_time.ensures c.ports_go_on.ensures
