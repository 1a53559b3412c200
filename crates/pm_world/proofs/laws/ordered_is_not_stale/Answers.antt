use Rattle.pm_world.proofs.meant.StaleLemmas.{ordered_is_not_stale}
use Rattle.pm_world.proofs.laws.ordered_is_not_stale.Goals as goal

pub returns : goal.returns
returns c = ordered_is_not_stale
