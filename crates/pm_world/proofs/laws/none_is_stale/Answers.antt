use Rattle.pm_world.proofs.meant.OrderTurns.{none_is_stale}
use Rattle.pm_world.proofs.laws.none_is_stale.Goals as goal

pub returns : goal.returns
returns c = none_is_stale
