use Rattle.block_queue.specs.Line.{awaits}
use Rattle.block_queue.proofs.Watched.{IsChecked}
use Rattle.block_queue.proofs.queue.CommandQueue.place_of.Given as goal

abbrev pub invariant-loop-walked : goal.invariant-loop-walked
invariant-loop-walked l = IsChecked (awaits l.self l.number) l.rest l._walked
