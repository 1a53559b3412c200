use Rattle.pm_world.proofs.ports.FollowLemmas as follow
use Rattle.pm_world.proofs.laws.connections_follow.Goals as goal

pub returns : goal.returns
returns c = follow.connections_follow
