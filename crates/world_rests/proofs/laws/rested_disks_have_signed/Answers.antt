use Rattle.world_rests.proofs.SignRests as proof
use Rattle.world_rests.proofs.laws.rested_disks_have_signed.Goals as goal

pub returns : goal.returns
returns c =
    proof.rested_disks_have_signed c.rested_have_done.ensures c.rested_ports_are_open.ensures c.rested_disks_are_left.ensures c.paths_go_on.ensures.orderly c.paths_go_on.ensures.units c.ends_meet.ensures
