use Rattle.machine_laws.proofs.RisLast.{last, pulls, resets}
use Rattle.machine_laws.proofs.rising.connections_end.Goals as goal

pub returns : goal.returns
returns c = record { last = last; pulls = pulls; resets = resets c.a_reset_ends_the_connection.ensures }
