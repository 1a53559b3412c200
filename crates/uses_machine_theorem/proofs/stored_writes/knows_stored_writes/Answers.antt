use Rattle.uses_machine_theorem.proofs.StoredLemmas.{gone, served, stored, writes}
use Rattle.uses_machine_theorem.proofs.stored_writes.knows_stored_writes.Goals as goal

pub returns : goal.returns
returns c = record {
  gone = gone c.data_go_of_queued_writes.ensures c.args.machine.now;
  served = served c.queued_commands_alone_are_served.ensures c.args.machine.now;
  writes = writes c.queued_writes_are_as_supplied.ensures c.args.machine.now;
  stored = stored c.completed_writes_are_stored.ensures c.args.machine.now;
}
