use Rattle.world_rests.proofs.Still as proof
use Rattle.world_rests.proofs.laws.still_rounds_rest.Goals as goal

pub returns : goal.returns
returns c = proof.still_rounds_rest c.ports_go_on.ensures
