use Rattle.std.proofs.Common.{◌≡◌}
use Rattle.pm_thread.specs.Runs.{SameLinks}
use Rattle.pm_thread.proofs.worker.PmWorkerWorker.work.Given as goal

abbrev pub invariant-loop : goal.invariant-loop
invariant-loop g l = SameLinks l.initial.self l.self × (l.post.turns ≡ l.initial.post.turns)
