use Rattle.world_rests.proofs.Rising as proof
use Rattle.world_rests.proofs.laws.each_takes_turns.Goals as goal

pub returns : goal.returns
returns c = proof.each_takes_turns c.waits_for_at_most_fifteen.ensures c.paths_go_on.ensures.orderly
