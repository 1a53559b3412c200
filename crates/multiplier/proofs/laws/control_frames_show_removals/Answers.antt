use Rattle.multiplier.proofs.StampLemmas.{shows_removals}
use Rattle.multiplier.proofs.laws.control_frames_show_removals.Goals as goal

pub returns : goal.returns
returns c = shows_removals
