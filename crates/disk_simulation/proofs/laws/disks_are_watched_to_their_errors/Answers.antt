use Rattle.disk_simulation.proofs.link.{WatchedLemmas.{watched_is_ahead, watches_on}, WatchingLemmas.watches_what_is_fine}
use Rattle.disk_simulation.proofs.laws.disks_are_watched_to_their_errors.Goals as goal

pub returns-clause-goes_on : goal.returns-clause-goes_on
returns-clause-goes_on c = watches_on

pub returns-clause-ahead : goal.returns-clause-ahead
returns-clause-ahead c = watched_is_ahead

pub returns-clause-takes : goal.returns-clause-takes
returns-clause-takes c = watches_what_is_fine
