use Rattle.pm_threads.specs.Seats.{Starts}
use Rattle.pm_threads.proofs.Zips.{zip_push}
use Rattle.pm_threads.proofs.seats.with_last.Goals as goal

pub returns-clause-starts : goal.returns-clause-starts
returns-clause-starts g c = rw (c.in_ok-push.ensures.items, c.in_ok-push-2.ensures.items) (zip_push Starts _ _ _ _ c.requires.all c.requires.last)
