use Rattle.std.proofs.Common.{◌≡◌, ℕ, ◌<◌, length, get_or}
use Rattle.block_queue.proofs.queue.first_ranks.Given as goal

abbrev pub invariant-loop-place : goal.invariant-loop-place
invariant-loop-place l = (length l.ranks ≡ 33) × ((k : ℕ) → k < l.place → get_or l.ranks k 0 ≡ k)
