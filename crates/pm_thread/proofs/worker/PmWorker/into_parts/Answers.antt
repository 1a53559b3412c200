use Rattle.std.proofs.Common.{subst}
use Rattle.pm_thread.specs.Runs.{IsSound}
use Rattle.pm_thread.proofs.Passes.{passes}
use Rattle.pm_thread.proofs.worker.PmWorker.into_parts.Goals as goal

pub returns-clause-passes : goal.returns-clause-passes
returns-clause-passes c =
    let sound : IsSound c.args.self = subst IsSound c.self.view_is c.self.invariant in
    passes c.args.self sound
