use Rattle.machine_theorem.proofs.Counts.{counted_alike}
use Rattle.machine_theorem.proofs.issued_work.commands_are_counted_alike.Goals as goal

pub returns : goal.returns
returns c = counted_alike
