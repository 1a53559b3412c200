use Rattle.std.proofs.Common.{take}
use Rattle.pm_threads.specs.Summaries.{AreOutcomes}
use Rattle.pm_threads.proofs.outcomes.outcomes.Given as goal

abbrev pub invariant-loop-state : goal.invariant-loop-state
invariant-loop-state l = AreOutcomes (take l.state-index l.states) l.results.items
