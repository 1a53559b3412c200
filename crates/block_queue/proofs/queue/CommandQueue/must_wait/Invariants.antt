use Rattle.block_queue.specs.Line.{waits_for}
use Rattle.block_queue.proofs.Watched.{IsChecked}
use Rattle.block_queue.proofs.queue.CommandQueue.must_wait.Given as goal

abbrev pub invariant-loop-walked : goal.invariant-loop-walked
invariant-loop-walked l = IsChecked (waits_for l.self l.command l.place) l.rest l._walked
