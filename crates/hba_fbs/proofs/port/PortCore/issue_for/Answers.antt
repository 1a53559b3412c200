use Rattle.hba_fbs.proofs.port.PortCore.issue_for.Goals as goal

pub invariant_of-self : goal.invariant_of-self
invariant_of-self g c = record {
  registers = c.self.invariant.registers;
  commands = c.issue_all.ensures.have c.self.invariant.commands;
  active = c.active_with-self-inside.ensures.low;
}
