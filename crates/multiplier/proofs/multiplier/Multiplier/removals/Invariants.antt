use Rattle.std.proofs.Common.{◌≡◌, ℕ, ◌<◌, length, slice_index, slice_index_or}
use Rattle.pm_ports.specs.Port.{empty_port}
use Rattle.multiplier.proofs.multiplier.Multiplier.removals.Given as goal

abbrev pub invariant-loop-n : goal.invariant-loop-n
invariant-loop-n l =
    (length l.highest ≡ 15)
    × ((k : ℕ) → k < l.n → slice_index l.highest k ≡ (slice_index_or l.self-inside.ports k empty_port).gone)
