use Rattle.std.proofs.Common.{◌≡◌, ℕ, ◌<◌, ◌≤◌, length, get_or, None}
use Rattle.block_queue.specs.Line.{left_at, orphan}
use Rattle.block_queue.proofs.queue.CommandQueue.reset.Given as goal

-- those so far are what the reset leaves, and nothing else changed
abbrev pub invariant-loop-place : goal.invariant-loop-place
invariant-loop-place l = record {
  queue : l.self-inside.requests ≡ l.fn.self.queue;
  ranks : l.self-inside.ranks ≡ l.fn.self.ranks;
  long : length l.self-inside.orphans ≡ 33;
  left : (k : ℕ) → k < l.place → get_or l.self-inside.orphans k None ≡ left_at l.fn.self k;
  others : (k : ℕ) → l.place ≤ k → get_or l.self-inside.orphans k None ≡ orphan l.fn.self k;
}
