use Rattle.hba_fbs.proofs.SlotLemmas.{flushed_have}
use Rattle.hba_fbs.proofs.port.PortCore.flush_device.Goals as goal

pub invariant_of-self : goal.invariant_of-self
invariant_of-self c = record {
  registers = c.self.invariant.registers;
  commands = flushed_have c.args.dev _ _ _ c.flush-freed.ensures.own c.flush-freed.ensures.others c.self.invariant.commands;
  active = c.self.invariant.active;
}
