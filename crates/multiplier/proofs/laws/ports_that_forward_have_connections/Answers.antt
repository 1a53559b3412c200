use Rattle.multiplier.proofs.Forwarding.{forwards_present}
use Rattle.multiplier.proofs.laws.ports_that_forward_have_connections.Goals as goal

pub returns : goal.returns
returns c = forwards_present
