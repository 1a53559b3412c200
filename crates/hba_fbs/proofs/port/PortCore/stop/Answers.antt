use Rattle.hba_fbs.proofs.SlotLemmas.{none_have}
use Rattle.hba_fbs.proofs.port.PortCore.stop.Goals as goal

pub invariant_of-self : goal.invariant_of-self
invariant_of-self c = record {
  registers = c.self.invariant.registers;
  commands = rw c.flush_all.ensures.after (none_have c.self.inside.commands);
  active = c.self.invariant.active;
}
