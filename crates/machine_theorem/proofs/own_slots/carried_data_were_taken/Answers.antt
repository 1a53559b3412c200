use Rattle.machine_theorem.proofs.WasTaken.{carried_were_taken}
use Rattle.machine_theorem.proofs.own_slots.carried_data_were_taken.Goals as goal

pub returns : goal.returns
returns c = carried_were_taken
