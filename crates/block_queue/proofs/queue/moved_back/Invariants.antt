use Rattle.std.proofs.Common.{◌≡◌, ℕ, ◌<◌, ◌≤◌, length, get_or}
use Rattle.block_queue.specs.Line.{moved_up}
use Rattle.block_queue.proofs.queue.moved_back.Given as goal

-- those so far have moved up, and the others are as they were
abbrev pub invariant-loop-other : goal.invariant-loop-other
invariant-loop-other l = record {
  long : length l.moved ≡ length l.ranks;
  up : (k : ℕ) → k < l.other → get_or l.moved k 0 ≡ moved_up l.last (get_or l.ranks k 0);
  others : (k : ℕ) → l.other ≤ k → get_or l.moved k 0 ≡ get_or l.ranks k 0;
}
