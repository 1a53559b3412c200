use Rattle.hba_commands.proofs.HeaderLemmas.{port_small}
use Rattle.hba_commands.proofs.header.pmp.Goals as goal

pub returns-clause-port : goal.returns-clause-port
returns-clause-port c = rw c.read.ensures (port_small _ _ _)
