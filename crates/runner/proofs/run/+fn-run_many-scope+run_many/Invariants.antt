use Rattle.std.proofs.Common.{◌+◌, ◌*◌}
use Rattle.runner.proofs.run.+fn-run_many-scope+run_many.Given as goal

abbrev pub decreases-scope : goal.decreases-scope
decreases-scope g l = 2 * l.workers.len + 1

abbrev pub decreases-run_many : goal.decreases-run_many
decreases-run_many g l = 2 * l.workers.len
