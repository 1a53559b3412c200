use Rattle.machine_laws.proofs.Reach.{have, opens, reached}
use Rattle.machine_laws.proofs.laws.disks_have_their_laws.Goals as goal

pub returns : goal.returns
returns c = record {
  opens = opens;
  reached = reached;
  laws = have c.ends_are_earned.ensures c.requests_are_apart.ensures c.data_are_named.ensures;
}
