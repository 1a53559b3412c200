use Rattle.std.proofs.Common.{arith, replicate, None}
use Rattle.hba_fbs.proofs.SlotLemmas.{none_have}
use Rattle.hba_fbs.proofs.port.PortCore.new.Goals as goal

pub invariant_of-result : goal.invariant_of-result
invariant_of-result c = record {
  registers = c.new.ensures.are;
  commands = rw c.new-2.ensures (none_have (replicate 32 None));
  active = omega arith;
}
