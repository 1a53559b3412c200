use Rattle.pm_world.proofs.polls.PolledLemmas.{honest_polls}
use Rattle.pm_world.proofs.laws.polled_is_honest.Goals as goal

pub returns : goal.returns
returns c = honest_polls
