use Rattle.disk_simulation.proofs.phases.FollowedLemmas.{followed_is_honest, follows_on, next_or_fails}
use Rattle.disk_simulation.proofs.laws.disks_are_followed_to_their_errors.Goals as goal

pub returns-clause-follows : goal.returns-clause-follows
returns-clause-follows c = follows_on

pub returns-clause-next : goal.returns-clause-next
returns-clause-next c = next_or_fails

pub returns-clause-done : goal.returns-clause-done
returns-clause-done c = followed_is_honest
