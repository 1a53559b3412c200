use Rattle.world_rests.proofs.Matches as proof
use Rattle.world_rests.proofs.laws.rested_plans_match.Goals as goal

pub returns : goal.returns
returns c =
    proof.rested_plans_match c.rested_have_done.ensures c.rested_drivers_watch.ensures c.rested_ports_are_open.ensures c.one_order_at_a_time.ensures c.ports_go_on.ensures
    c.paths_go_on.ensures.orderly
