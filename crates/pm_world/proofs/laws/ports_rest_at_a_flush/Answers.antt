use Rattle.pm_world.proofs.honest.FlushLemmas.{ports_rest}
use Rattle.pm_world.proofs.laws.ports_rest_at_a_flush.Goals as goal

pub returns : goal.returns
returns c = ports_rest
