use Rattle.disk_simulation.proofs.honest.HonestLemmas.{done_is_honest, next_right}
use Rattle.disk_simulation.proofs.laws.done_is_honest.Goals as goal

pub returns-clause-next : goal.returns-clause-next
returns-clause-next c = next_right

pub returns-clause-done : goal.returns-clause-done
returns-clause-done c = done_is_honest
