use Rattle.std.proofs.{Common.arith, lemmas.List.Elements.{All-nil}}
use Rattle.host_memory.proofs.MemoryLemmas.{zeros_sized}
use Rattle.host_memory.proofs.memory.HostMemory.new.Goals as goal

pub invariant_of-result : goal.invariant_of-result
invariant_of-result c = record {
  areas = zeros_sized _ _ c.args.len c.in_ok-structure.ensures c.in_ok-client.ensures (omega arith) (omega arith) (omega arith);
  kept = rw c.in_ok-tables.ensures (All-nil _);
}
