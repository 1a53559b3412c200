use Rattle.world_rests.proofs.Opened as proof
use Rattle.world_rests.proofs.laws.rested_ports_are_open.Goals as goal

pub returns : goal.returns
returns c = proof.rested_ports_are_open c.rested_have_done.ensures c.rested_drivers_watch.ensures c.one_order_at_a_time.ensures c.ports_go_on.ensures c.paths_go_on.ensures.orderly
