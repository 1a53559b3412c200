use Rattle.gefsunk.proofs.StartLemmas.{SoFar}
use Rattle.gefsunk.proofs.disk.start_all.Given as goal

abbrev pub invariant-loop : goal.invariant-loop
invariant-loop l = SoFar l.fn.disk l.counter l.disk
