use Rattle.pm_world.proofs.reported.NamedLemmas.{polled_errors_are_named}
use Rattle.pm_world.proofs.laws.polled_errors_are_named.Goals as goal

pub returns : goal.returns
returns c = polled_errors_are_named
