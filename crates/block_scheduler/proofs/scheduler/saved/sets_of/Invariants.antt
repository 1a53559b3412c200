use Rattle.block_scheduler.proofs.SavedLemmas.{AreSetsBelow}
use Rattle.block_scheduler.proofs.scheduler.saved.sets_of.Given as goal

abbrev pub invariant-loop-place : goal.invariant-loop-place
invariant-loop-place l = AreSetsBelow l.queue l.place l.sets
