use Rattle.disk_simulation.proofs.together.TogetherLemmas.{same_goes_on}
use Rattle.disk_simulation.proofs.laws.both_views_go_on_together.Goals as goal

pub returns : goal.returns
returns c = same_goes_on
