use Rattle.std.proofs.Common.{◌≡◌, ◌+◌, ◌*◌, ◌≤◌, drop}
use Rattle.host_memory.specs.Place.{total_of}
use Rattle.host_memory.proofs.write.total_of.Given as goal

-- the sum so far and that of what is left make the whole, and each entry has less than 2 ^ 32 bytes
abbrev pub invariant-loop-prd : goal.invariant-loop-prd
invariant-loop-prd l = record {
  whole : l.sum + total_of (drop l.prd-index l.prds) ≡ total_of l.prds;
  small : l.sum ≤ 4294967295 * l.prd-index;
}
