use Rattle.std.proofs.Common.{length}
use Rattle.pm_threads.proofs.seats.+seated.Given as goal

abbrev pub decreases-seated : goal.decreases-seated
decreases-seated g l = length l.links.now
