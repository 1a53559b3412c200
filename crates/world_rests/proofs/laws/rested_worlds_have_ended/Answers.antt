use Rattle.world_rests.proofs.Over as proof
use Rattle.world_rests.proofs.laws.rested_worlds_have_ended.Goals as goal

pub returns : goal.returns
returns c = proof.rested_worlds_have_ended c.rested_plans_match.ensures c.rested_disks_are_left.ensures c.rested_disks_have_signed.ensures
