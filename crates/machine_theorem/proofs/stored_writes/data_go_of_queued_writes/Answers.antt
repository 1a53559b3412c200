use Rattle.machine_theorem.proofs.FedKinds.{data_go}
use Rattle.machine_theorem.proofs.stored_writes.data_go_of_queued_writes.Goals as goal

pub returns : goal.returns
returns c = data_go
